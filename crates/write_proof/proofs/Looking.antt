-- Looking through lists.
use Rattle.std.proofs.Common.{◌≡◌, ◌⊎◌, inl, inr, ◌↔◌, ℕ, suc, ◌-◌, ◌==◌, ◌||◌, Bool, true, false, List, [], ◌∷◌, length, map, IsTrue, refl, sym, ap, ◌∙◌, arith}
use Rattle.std.specs.List.{slice_get, list_any}
use Rattle.std.specs.Option.{option_map}
use Rattle.std.proofs.lemmas.Bool.{eqb-true, eq-eqb}
use Rattle.context_model.specs.Orders.{IsIn}
use Rattle.write_proof.specs.declared.entries.Entry as code
use Rattle.write_proof.specs.LineRules.{last_of}
use Rattle.write_proof.specs.Views.{entry_of}

-- ---- numbers in a list

or_cases : (a b : Bool) → (a || b) ≡ true → (a ≡ true) ⊎ (b ≡ true)
or_cases true b e = inl refl
or_cases false b e = inr e

or_first : (a b : Bool) → a ≡ true → (a || b) ≡ true
or_first true b e = refl
or_first false b e = absurd (cc e)

or_second : (a b : Bool) → b ≡ true → (a || b) ≡ true
or_second true b e = refl
or_second false b e = e

-- Some number of a list is equal to one exactly where that is in the list.
pub any_is_in : (x : ℕ) (xs : List ℕ) → IsTrue (list_any (λ y. y == x) xs) ↔ IsIn x xs
any_is_in x [] = ((λ e. absurd (cc e)), λ i. absurd i)
any_is_in x (y ∷ xs) =
    let more = any_is_in x xs in (
      (λ e. elim (or_cases (y == x) (list_any (λ z. z == x) xs) e) [ inl f ↦ inl (sym (eqb-true y x f)) | inr f ↦ inr (more.0 f) ]),
      λ i. elim i [ inl f ↦ or_first (y == x) (list_any (λ z. z == x) xs) (eq-eqb y x (sym f)) | inr j ↦ or_second (y == x) (list_any (λ z. z == x) xs) (more.1 j) ],
    )

-- ---- the last entry

pub last_read : (entries : List code.Entry) → option_map entry_of (slice_get entries (length entries - 1)) ≡ last_of (map entry_of entries)
last_read [] = refl
last_read (a ∷ []) = refl
last_read (a ∷ b ∷ entries) =
    let next : length (a ∷ b ∷ entries) - 1 ≡ suc (length (b ∷ entries) - 1) = omega arith in
    ap (λ k. option_map entry_of (slice_get (a ∷ b ∷ entries) k)) next ∙ last_read (b ∷ entries)
