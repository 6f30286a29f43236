-- Turns of loops over numbers and atoms.
use Rattle.std.proofs.Common.{◌≡◌, ℕ, zero, suc, ◌+◌, ◌-◌, ◌<◌, ◌≤◌, List, [], ◌∷◌, ◌++◌, length, get_or, take, drop, sym, refl, ap, ◌∙◌, arith, add-one}
use Rattle.std.specs.Prelude.{slice_range}
use Rattle.std.proofs.lemmas.List.{drop_more, take_more, length-drop, get_or-drop}
use Rattle.context_model.specs.Atoms.{Atom}
use Rattle.context_model.specs.Kinds.{atom_of}
use Rattle.context_model.specs.Kinds.Kind.{Indexed}
use Rattle.context_model.specs.Paths.{atom_at}
use Rattle.context_model.specs.Ended.{field_path_from}
use Rattle.keep_calls.specs.Kept.{next_numbers}

-- The headers from a place on: the next one, and then the rest.
pub headers_turn : (numbers : List ℕ) (i : ℕ) → i < length numbers
    → field_path_from i (drop i numbers) ≡ atom_of (Indexed i (get_or numbers i 0)) ∷ field_path_from (i + 1) (drop (i + 1) numbers)
headers_turn numbers i l =
    ap (field_path_from i) (drop_more numbers i 0 l) ∙ ap (λ k. atom_of (Indexed i (get_or numbers i 0)) ∷ field_path_from k (drop (i + 1) numbers)) (sym (add-one i))

-- One more for the last number.
pub next_turn : (numbers : List ℕ) (i more : ℕ) → i < length numbers → (i + 1 ≡ length numbers → more ≡ 1) → ((i + 1 ≡ length numbers → ⊥) → more ≡ 0)
    → field_path_from i (next_numbers (drop i numbers)) ≡ atom_of (Indexed i (get_or numbers i 0 + more)) ∷ field_path_from (i + 1) (next_numbers (drop (i + 1) numbers))
next_turn numbers i more l last before =
    ap (λ v. field_path_from i (next_numbers v)) (drop_more numbers i 0 l) ∙ by (drop (i + 1) numbers) (length-drop (i + 1) numbers)
  where
    number : ℕ
    number = get_or numbers i 0

    by : (rest : List ℕ) → length rest ≡ length numbers - (i + 1)
        → field_path_from i (next_numbers (get_or numbers i 0 ∷ rest)) ≡ atom_of (Indexed i (get_or numbers i 0 + more)) ∷ field_path_from (i + 1) (next_numbers rest)
    by [] e = ap (λ m. atom_of (Indexed i (get_or numbers i 0 + m)) ∷ []) (sym (last (omega (arith, e, l))))
    by (m ∷ ms) e =
        let none : more ≡ 0 = before (λ f. omega (arith, e, f)) in
        (ap (λ n. atom_of (Indexed i n) ∷ field_path_from (suc i) (next_numbers (m ∷ ms))) (let f : get_or numbers i 0 ≡ get_or numbers i 0 + more = omega (arith, none) in f))
        ∙ ap (λ k. atom_of (Indexed i (get_or numbers i 0 + more)) ∷ field_path_from k (next_numbers (m ∷ ms))) (sym (add-one i))

pub drop_all : (xs : List ℕ) (i : ℕ) → length xs ≤ i → drop i xs ≡ []
drop_all [] zero l = refl
drop_all [] (suc i) l = refl
drop_all (x ∷ xs) zero l = absurd (omega (arith, l))
drop_all (x ∷ xs) (suc i) l = drop_all xs i (omega (arith, l))

-- One atom more of a list from a place on.
pub range_more : (list : List Atom) (from at : ℕ) → from ≤ at → at < length list → slice_range list from (at + 1) ≡ slice_range list from at ++ atom_at list at ∷ []
range_more list from at l m =
    ap (λ n. take n (drop from list)) (let e : at + 1 - from ≡ at - from + 1 = omega (arith, l) in e)
    ∙ take_more (drop from list) (at - from) [] (omega (arith, length-drop from list, l, m))
    ∙ ap (λ a. take (at - from) (drop from list) ++ a ∷ []) (get_or-drop from list (at - from) [] ∙ ap (λ n. atom_at list n) (let e : from + (at - from) ≡ at = omega (arith, l) in e))
