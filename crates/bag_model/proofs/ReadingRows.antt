-- What is read of one list: a scalar with two data, a counter with two counts, a field that is absent, and a key with
-- nothing under it.
use Rattle.std.proofs.Common.{◌≡◌, inl, inr, ℕ, ◌^◌, ◌<◌, ◌≤◌, false, List, [], ◌∷◌, Some, None, Less, Greater, Equal, refl, sym, ap, ◌∙◌, subst, arith}
use Rattle.context_model.specs.Atoms.{Atom}
use Rattle.context_model.specs.Orders.{Path, IsIn}
use Rattle.context_model.specs.Paths.{paths}
use Rattle.context_model.specs.Varints.{unsigned_varint, unsigned_form, unsigned_tail}
use Rattle.context_model.proofs.VarintLaws.{unsigned_varint-injective}
use Rattle.bag_model.specs.declared.Pick.TheVariants.{Least}
use Rattle.bag_model.specs.declared.words.ScalarWord.TheVariants.{Uint64}
use Rattle.bag_model.specs.Scalars.{ScalarKind, ScalarValue, Unsigned, scalar_cmp, IsScalarOf, spelling}
use Rattle.bag_model.specs.Shapes.{Nodes, Taint, Scalar, Counter, Map, no_node, node}
use Rattle.bag_model.specs.Values.{Values, Taint, Scalar, Counter, Map, no_entry, entry, no_value, value}
use Rattle.bag_model.specs.Readings.{key_path, node_path, HasKey, Reads, PathsOf, SaysValues}
use Rattle.bag_model.proofs.SpellingOrder.{spelling-one}
use Rattle.bag_model.proofs.Finite.{bytes_at-back}

abbrev number : ScalarKind
number = ScalarKind.One Uint64

abbrev the : ℕ → ScalarValue
the n = ScalarValue.One (Unsigned n)

-- The fields 0 to 4.
abbrev row_nodes : Nodes
row_nodes = node [] 0 (Scalar Least number) (node [] 1 Counter (node [] 2 Taint (node [] 3 (Map number (Scalar Least number)) no_node)))

-- 9 and 7 for the scalar, 3 and 5 for the writer `a`, and 6 as a key.
abbrev row_list : List Atom
row_list =
    (248 ∷ 0 ∷ []) ∷ (0 ∷ 7 ∷ []) ∷ (0 ∷ 9 ∷ [])
    ∷ (248 ∷ 1 ∷ []) ∷ (241 ∷ 97 ∷ []) ∷ (0 ∷ 3 ∷ []) ∷ (0 ∷ 5 ∷ [])
    ∷ (248 ∷ 3 ∷ []) ∷ (241 ∷ 6 ∷ []) ∷ []

abbrev row_values : Values
row_values =
    value (Scalar Least (Some (the 7))) (value (Counter ((97 ∷ [], 5) ∷ [])) (value (Taint false) (value (Map (entry (the 6) (Scalar Least None) no_entry)) no_value)))

abbrev row_paths : Path → Type 0
row_paths = PathsOf row_list

abbrev at : ℕ → Path
at n = node_path [] n

-- 7 is the lesser of the two data.
row_scalar : Reads (Scalar Least number) row_paths (at 0) (Scalar Least (Some (the 7)))
unfolding unsigned_varint unsigned_form unsigned_tail
row_scalar = (refl, ((omega arith, inr (inl refl)), λ w h l. by w h.0 l (bytes_at-back 0 (at 0) (paths row_list) (spelling number w) h.1)))
  where
    by : (w : ScalarValue) → IsScalarOf number w → scalar_cmp w (the 7) ≡ Less → IsIn (spelling number w) ((7 ∷ []) ∷ (9 ∷ []) ∷ []) → ⊥
    by w f l (inl e) = let same : w ≡ the 7 = spelling-one number w (the 7) f (omega arith) e in let clash : Equal ≡ Less = ap (λ v. scalar_cmp v (the 7)) (sym same) ∙ l in cc
    by w f l (inr (inl e)) = let same : w ≡ the 9 = spelling-one number w (the 9) f (omega arith) e in let clash : Greater ≡ Less = ap (λ v. scalar_cmp v (the 7)) (sym same) ∙ l in cc
    by w f l (inr (inr none)) = elim none [ ]

-- 5 is the greater of the writer's two counts.
row_counter : Reads Counter row_paths (at 1) (Counter ((97 ∷ [], 5) ∷ []))
unfolding unsigned_varint unsigned_form unsigned_tail
row_counter = (
  tt,
  λ w. ((λ i. there w i), λ i. bytes_at-back 241 (at 1) (paths row_list) w i),
  ((inl (omega arith, inr (inr (inr (inr (inr (inr (inl refl))))))), λ m h. by m h.0 (bytes_at-back 0 (key_path (at 1) (97 ∷ [])) (paths row_list) (unsigned_varint m) h.1)), tt),
)
  where
    there : (w : List ℕ) → IsIn w ((97 ∷ []) ∷ []) → row_paths (key_path (at 1) w)
    there w (inl e) = subst (λ v. row_paths (key_path (at 1) v)) (sym e) (inr (inr (inr (inr (inl refl)))))
    there w (inr none) = elim none [ ]

    by : (m : ℕ) → m < 2 ^ 64 → IsIn (unsigned_varint m) ((3 ∷ []) ∷ (5 ∷ []) ∷ []) → m ≤ 5
    by m l (inl e) = let same : m ≡ 3 = unsigned_varint-injective m 3 l (omega arith) e in omega arith
    by m l (inr (inl e)) = let same : m ≡ 5 = unsigned_varint-injective m 5 l (omega arith) e in omega arith
    by m l (inr (inr none)) = elim none [ ]

-- The taint has no header, and is off.
row_taint : Reads Taint row_paths (at 2) (Taint false)
unfolding unsigned_varint unsigned_form unsigned_tail
row_taint = ((λ t. absurd (cc t)), λ d. absurd (bytes_at-back 0 (at 2) (paths row_list) d.0 d.1))

-- A key with nothing under it is there, and its scalar is absent.
row_map : Reads (Map number (Scalar Least number)) row_paths (at 3) (Map (entry (the 6) (Scalar Least None) no_entry))
unfolding unsigned_varint unsigned_form unsigned_tail
row_map = (
  tt,
  λ k. ((λ i. there k i), λ h. back k h.0 (bytes_at-back 241 (at 3) (paths row_list) (spelling number k) h.1)),
  ((refl, λ w h. absurd (bytes_at-back 0 (key_path (at 3) (spelling number (the 6))) (paths row_list) (spelling number w) h.1)), tt),
)
  where
    there : (k : ScalarValue) → IsIn k (the 6 ∷ []) → HasKey number row_paths (at 3) k
    there k (inl e) = subst (HasKey number row_paths (at 3)) (sym e) (omega arith, inr (inr (inr (inr (inr (inr (inr (inr (inl refl)))))))))
    there k (inr none) = elim none [ ]

    back : (k : ScalarValue) → IsScalarOf number k → IsIn (spelling number k) ((6 ∷ []) ∷ []) → IsIn k (the 6 ∷ [])
    back k f (inl e) = inl (spelling-one number k (the 6) f (omega arith) e)
    back k f (inr none) = elim none [ ]

pub row_says : SaysValues row_nodes row_list row_values
row_says = (row_scalar, (row_counter, (row_taint, (row_map, tt))))
