-- Bytes that are known to spell a scalar or a count.
use Rattle.std.proofs.Common.{◌≡◌, ℕ, ◌<◌, ◌≤◌, ◌^◌, ◌↔◌, Bool, true, false, IsTrue, Option, Some, None, Result, Ok, List, [], ◌∷◌, map, drop, length, sym, ap, ◌∙◌, subst, arith, refl, inl, inr}
use Rattle.std.specs.Option.{is_some}
use Rattle.std.proofs.lemmas.List.{append-nil}
use Rattle.context_model.specs.Atoms.{Atom}
use Rattle.context_model.specs.GreedyMerge.{AllBelow}
use Rattle.context_model.specs.Orders.{Path, IsIn}
use Rattle.context_model.specs.Paths.{atom_at}
use Rattle.context_model.specs.Varints.{unsigned_varint}
use Rattle.bag_model.specs.Readings.{PathsOf, datum_path}
use Rattle.bag_model.specs.Scalars.{ScalarValue, scalar_cmp, IsScalarOf, spelling}
use Rattle.bag_model.proofs.SpellingOrder.{spelling-order}
use Rattle.bag_walks.specs.Parts.{IsBehind, HasNoHeader, IsDataPart}
use Rattle.bag_walks.specs.Gathering.{IsDatumAt, IsFirstDatum}
use Rattle.bag_walks.proofs.Bridge.{data_are}
use Rattle.lex_varint.specs.Readings.{IsUnsignedAt}
use Rattle.set_map_types.specs.SetsAndMaps.{value_cmp}
use Rattle.scalar_types.specs.KindViews.{kind_of}
use Rattle.scalar_types.specs.Scalars.{value_of}
use Rattle.scalar_types.specs.declared.kinds.ScalarKind.{ScalarKind}
use Rattle.scalar_types.specs.declared.scalars.Scalar.{Scalar}

-- The bytes of a count are its varint and nothing more.
pub count_there : (bytes : List ℕ) (n : ℕ) → n < 2 ^ 64 → bytes ≡ unsigned_varint n → IsUnsignedAt bytes n (length (unsigned_varint n))
count_there bytes n few is = record { fits = few; front = ([], is ∙ sym (append-nil (unsigned_varint n))); whole = refl }

-- The payload of a datum after q is one that is read at q.
pub datum_stands : (list : List Atom) (q : Path) (from to place : ℕ) → IsBehind list q from → IsDataPart list from to → from ≤ place → place < to → IsDatumAt list place → PathsOf list (datum_path q (drop 1 (atom_at list place)))
datum_stands list q from to place behind its l m (within, (payload, is)) =
    subst (λ x. PathsOf list (datum_path q x)) (ap (drop 1) (sym is))
    ((data_are list q from to payload behind its).1 (record { place = place; from_on = l; up_to = m; atom = is }))

-- A datum is its first byte and its payload.
pub datum_is : (list : List Atom) (place : ℕ) (payload : List ℕ) → IsDatumAt list place → drop 1 (atom_at list place) ≡ payload → atom_at list place ≡ 0 ∷ payload
datum_is list place payload (within, (own, is)) same =
    let e : own ≡ payload = ap (drop 1) (sym is) ∙ same in is ∙ ap (λ x. 0 ∷ x) e

-- Where the first datum is there, some datum is, and where it isn't, none is.
pub some_datum : (list : List Atom) (from to : ℕ) (first : Option ℕ) (on : Bool) → on ≡ is_some first → IsFirstDatum list from to first → IsTrue on ↔ ((place : ℕ) × (from ≤ place) × (place < to) × IsDatumAt list place)
some_datum list from to None on is none =
    ((λ t. let clash : false ≡ true = sym is ∙ t in cc), λ (place, l, m, datum). absurd (none place l m datum))
some_datum list from to (Some place) on is first = ((λ t. (place, first.0, first.1, first.2)), λ some. is)

-- A part without headers up to a place before its end.
pub no_header_front : (list : List Atom) (from to k : ℕ) → HasNoHeader list from to → from ≤ k → k ≤ to → HasNoHeader list from k
no_header_front list from to k part l m = record { rises = l; within = omega (arith, part.within); none = λ j n o. part.none j n (omega arith) }

-- What comes before a value in the order of values comes before it in the codec's, which is that of the spellings.
pub below_codec : (kind : ScalarKind) (items : List Scalar) (v : Scalar) → ((w : ScalarValue) → IsIn w (map value_of items) → IsScalarOf (kind_of kind) w) → IsScalarOf (kind_of kind) (value_of v)
    → AllBelow scalar_cmp (map value_of items) (value_of v) → AllBelow (value_cmp (λ (u : Scalar). spelling (kind_of kind) (value_of u))) items v
below_codec kind [] v each fits below = tt
below_codec kind (x ∷ items) v each fits below =
    (spelling-order (kind_of kind) (value_of x) (value_of v) (each (value_of x) (inl refl)) fits ∙ below.0, below_codec kind items v (λ w i. each w (inr i)) fits below.1)

-- What a call answered it answered once.
pub one_number : {E : Type 0} (answer : Result (ℕ × ℕ) E) (n m i j : ℕ) → answer ≡ Ok (n, i) → answer ≡ Ok (m, j) → n ≡ m
one_number answer n m i j first second = let both = sym first ∙ second in let pair : (n, i) ≡ (m, j) = cc in ap (λ (p : ℕ × ℕ). p.0) pair
