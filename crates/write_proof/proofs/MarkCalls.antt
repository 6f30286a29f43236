-- Marks, and lists of steps, that grow line by line.
use Rattle.std.proofs.Common.{◌≡◌, ◌≢◌, ◌⊎◌, inl, inr, ◌↔◌, ℕ, zero, suc, ◌+◌, ◌<◌, Bool, true, false, List, [], ◌∷◌, ◌++◌, length, map, take, get_or, set, Some, refl, sym, ap, ◌∙◌, subst, append-nil, add-one, get_or-set_other, get_or-set_same}
use Rattle.std.specs.List.{slice_get}
use Rattle.context_model.specs.Orders.{IsIn}
use Rattle.bag_model.proofs.Finite.{in_append, in_append_first, in_append_second}
use Rattle.write_proof.specs.declared.entries.Entry as code
use Rattle.write_proof.specs.declared.entries.Entry.TheVariants as variants
use Rattle.write_proof.specs.Entries.{Entry, Why, ValueText, Reach, Uses}
use Rattle.write_proof.specs.Marks.{IsMarked, AreMarksOf}
use Rattle.write_proof.specs.WholeRules.{reached, used}
use Rattle.write_proof.specs.Views.{entry_of}
use Rattle.write_proof.proofs.BelowCalls.{map_place}
use Rattle.write_proof.proofs.Decided.{same_number}

-- What a list that is too short gives in place of an entry.
abbrev pub first_entry : code.Entry
first_entry = variants.Why 0 (record { ref_ptr = (0, 0); now = [] })

-- ---- elements that are gone through

module _ {A B : Type 0} (f : A → B) where
  taken_next : (xs : List A) (i : ℕ) (x : A) → slice_get xs i ≡ Some x → map f (take (suc i) xs) ≡ map f (take i xs) ++ f x ∷ []
  taken_next [] i x e = absurd (cc e)
  taken_next (y ∷ xs) zero x e = let same : y ≡ x = cc e in ap (λ z. f z ∷ []) same
  taken_next (y ∷ xs) (suc i) x e = ap (λ zs. f y ∷ zs) (taken_next xs i x e)

  -- One element more is taken.
  pub taken_one_more : (xs : List A) (i : ℕ) (x : A) → slice_get xs i ≡ Some x → map f (take (i + 1) xs) ≡ map f (take i xs) ++ f x ∷ []
  taken_one_more xs i x e = ap (λ n. map f (take n xs)) (add-one i) ∙ taken_next xs i x e

-- ---- steps of lines

pub reached-append : (xs ys : List Entry) → reached (xs ++ ys) ≡ reached xs ++ reached ys
reached-append [] ys = refl
reached-append (Why n path ∷ xs) ys = reached-append xs ys
reached-append (ValueText text ∷ xs) ys = reached-append xs ys
reached-append (Reach w child ∷ xs) ys = ap (λ zs. w ∷ zs) (reached-append xs ys)
reached-append (Uses w ∷ xs) ys = reached-append xs ys

pub used-append : (xs ys : List Entry) → used (xs ++ ys) ≡ used xs ++ used ys
used-append [] ys = refl
used-append (Why n path ∷ xs) ys = used-append xs ys
used-append (ValueText text ∷ xs) ys = used-append xs ys
used-append (Reach w child ∷ xs) ys = used-append xs ys
used-append (Uses w ∷ xs) ys = ap (λ zs. w ∷ zs) (used-append xs ys)

module _ (entries : List code.Entry) (i : ℕ) (x : code.Entry) (there : slice_get entries i ≡ Some x) where
  pub reached_more : reached (map entry_of (take (i + 1) entries)) ≡ reached (map entry_of (take i entries)) ++ reached (entry_of x ∷ [])
  reached_more = ap reached (taken_one_more entry_of entries i x there) ∙ reached-append (map entry_of (take i entries)) (entry_of x ∷ [])

  pub used_more : used (map entry_of (take (i + 1) entries)) ≡ used (map entry_of (take i entries)) ++ used (entry_of x ∷ [])
  used_more = ap used (taken_one_more entry_of entries i x there) ∙ used-append (map entry_of (take i entries)) (entry_of x ∷ [])

  pub reached_this : (w child : ℕ) → x ≡ variants.Reach w child → reached (map entry_of (take (i + 1) entries)) ≡ reached (map entry_of (take i entries)) ++ w ∷ []
  reached_this w child is = reached_more ∙ ap (λ (y : code.Entry). reached (map entry_of (take i entries)) ++ reached (entry_of y ∷ [])) is

  pub used_this : (w : ℕ) → x ≡ variants.Uses w → used (map entry_of (take (i + 1) entries)) ≡ used (map entry_of (take i entries)) ++ w ∷ []
  used_this w is = used_more ∙ ap (λ (y : code.Entry). used (map entry_of (take i entries)) ++ used (entry_of y ∷ [])) is

  pub reached_no_more : ((w child : ℕ) → x ≡ variants.Reach w child → ⊥) → reached (map entry_of (take (i + 1) entries)) ≡ reached (map entry_of (take i entries))
  reached_no_more other = reached_more ∙ by x refl
    where
      by : (y : code.Entry) → x ≡ y → reached (map entry_of (take i entries)) ++ reached (entry_of y ∷ []) ≡ reached (map entry_of (take i entries))
      by (variants.Why n path) e = append-nil (reached (map entry_of (take i entries)))
      by (variants.Value text) e = append-nil (reached (map entry_of (take i entries)))
      by (variants.Reach w child) e = absurd (other w child e)
      by (variants.Uses w) e = append-nil (reached (map entry_of (take i entries)))

  pub used_no_more : ((w : ℕ) → x ≡ variants.Uses w → ⊥) → used (map entry_of (take (i + 1) entries)) ≡ used (map entry_of (take i entries))
  used_no_more other = used_more ∙ by x refl
    where
      by : (y : code.Entry) → x ≡ y → used (map entry_of (take i entries)) ++ used (entry_of y ∷ []) ≡ used (map entry_of (take i entries))
      by (variants.Why n path) e = append-nil (used (map entry_of (take i entries)))
      by (variants.Value text) e = append-nil (used (map entry_of (take i entries)))
      by (variants.Reach w child) e = append-nil (used (map entry_of (take i entries)))
      by (variants.Uses w) e = absurd (other w e)

-- A step on a line of a step that reaches is one of those.
reached_entry : (entries : List Entry) (i w child : ℕ) → slice_get entries i ≡ Some (Reach w child) → IsIn w (reached entries)
reached_entry [] i w child e = absurd (cc e)
reached_entry (entry ∷ entries) zero w child e =
    let same : entry ≡ Reach w child = cc e in
    subst (λ z. IsIn w (reached (z ∷ entries))) (sym same) (inl refl)
reached_entry (Why n path ∷ entries) (suc i) w child e = reached_entry entries i w child e
reached_entry (ValueText text ∷ entries) (suc i) w child e = reached_entry entries i w child e
reached_entry (Reach v other ∷ entries) (suc i) w child e = inr (reached_entry entries i w child e)
reached_entry (Uses v ∷ entries) (suc i) w child e = reached_entry entries i w child e

pub reached_here : (entries : List code.Entry) (i : ℕ) (x : code.Entry) (w child : ℕ) → slice_get entries i ≡ Some x → x ≡ variants.Reach w child → IsIn w (reached (map entry_of entries))
reached_here entries i x w child there is = reached_entry (map entry_of entries) i w child (map_place entry_of entries i x there ∙ ap (λ (y : code.Entry). Some (entry_of y)) is)

-- ---- marks

pub one_marked : (marks : List Bool) (steps : List ℕ) (w : ℕ) → AreMarksOf marks steps → w < length marks → AreMarksOf (set marks w true) (steps ++ w ∷ [])
one_marked marks steps w are l k = by (same_number k w)
  where
    same_mark : k ≢ w → get_or (set marks w true) k false ≡ get_or marks k false
    same_mark ne = rw get_or-set_other refl

    by : (k ≡ w) ⊎ (k ≢ w) → IsMarked (set marks w true) k ↔ IsIn k (steps ++ w ∷ [])
    by (inl e) = (
      (λ m. in_append_second k steps (w ∷ []) (inl e)),
      λ i. ap (λ n. get_or (set marks w true) n false) e ∙ (let less : w < length marks = l in rw get_or-set_same refl),
    )
    by (inr ne) = (
      (λ m. in_append_first k steps (w ∷ []) ((are k).0 (sym (same_mark ne) ∙ m))),
      λ i. same_mark ne ∙ elim (in_append k steps (w ∷ []) i) [ inl j ↦ (are k).1 j | inr j ↦ elim j [ inl e ↦ absurd (ne e) | inr z ↦ absurd z ] ],
    )
