-- A writer after all others keeps the writers in order.
use Rattle.std.proofs.Common.{◌≡◌, ℕ, List, [], ◌∷◌, ◌++◌}
use Rattle.context_model.specs.GreedyMerge.{AllBelow}
use Rattle.context_model.specs.KeyedMerge.{EachPair, keys_of}
use Rattle.context_model.proofs.Rising.{Rises-push}
use Rattle.context_model.specs.Orders.{Rises, atom_cmp}
use Rattle.counter_type.specs.Counts.{FitsCount, IsCounted}
use Rattle.std.proofs.Common.{subst, sym, ap, refl}

keys_of-push : (es : List (List ℕ × ℕ)) (e : List ℕ × ℕ) → keys_of (es ++ e ∷ []) ≡ keys_of es ++ e.0 ∷ []
keys_of-push [] e = refl
keys_of-push (d ∷ ds) e = ap (λ l. d.0 ∷ l) (keys_of-push ds e)

bounded-push : (es : List (List ℕ × ℕ)) (writer : List ℕ) (count : ℕ) → EachPair (λ writer count. FitsCount count) es → FitsCount count → EachPair (λ writer count. FitsCount count) (es ++ (writer, count) ∷ [])
bounded-push [] writer count h bound = (bound, tt)
bounded-push (e ∷ es) writer count h bound = (h.0, bounded-push es writer count h.1 bound)

pub IsCounted-push : (es : List (List ℕ × ℕ)) (writer : List ℕ) (count : ℕ) → IsCounted es → AllBelow atom_cmp (keys_of es) writer → FitsCount count → IsCounted (es ++ (writer, count) ∷ [])
IsCounted-push es writer count counted below bound = record {
  rise = subst (Rises atom_cmp) (sym (keys_of-push es (writer, count))) (Rises-push atom_cmp (keys_of es) writer counted.rise below);
  bounded = bounded-push es writer count counted.bounded bound;
}
