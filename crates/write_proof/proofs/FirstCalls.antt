-- First lines to which rules apply.
use Rattle.std.proofs.Common.{◌≡◌, ◌⊎◌, inl, inr, ◌↔◌, ℕ, ◌+◌, ◌<◌, ◌≤◌, Bool, true, false, IsTrue, List, length, map, Some, sym, ap, ◌∙◌, subst, add-one, arith}
use Rattle.std.specs.List.{slice_get}
use Rattle.std.proofs.lemmas.Bool.{cases_lt}
use Rattle.std.proofs.lemmas.List.{length-map}
use Rattle.bag_model.specs.Slots.{SlotAt}
use Rattle.trace_model.specs.Graphs.{Graph}
use Rattle.write_proof.specs.declared.verdicts.VerifyCode.{VerifyCode}
use Rattle.write_proof.specs.declared.entries.Entry as lines
use Rattle.write_proof.specs.Entries.{Entry, Why, ValueText, Reach, Uses}
use Rattle.write_proof.specs.WholeRules.{SpeaksOf, Applies, AppliesAt, AppliesSomewhere, IsFirstLine}
use Rattle.write_proof.specs.Views.{entry_of}
use Rattle.write_proof.proofs.BelowCalls.{place_within, map_place}

some_entry : (a b : Entry) → Some a ≡ Some b → a ≡ b
some_entry a b e = cc e

module _ (graph : Graph) (slot : ℕ) (at : SlotAt) (said : List Entry) (code : VerifyCode) where
  -- The rule applies to none of the first lines.
  abbrev pub NoneBefore : ℕ → Type 0
  NoneBefore i = (k : ℕ) → k < i → AppliesAt graph slot at said code k → ⊥

  pub line_found : (i : ℕ) (entry : Entry) → NoneBefore i → slice_get said i ≡ Some entry → Applies graph slot at said code entry → IsFirstLine graph slot at said code (i + 1)
  line_found i entry before there applies = record { place = i; number = add-one i; applies = (entry, there, applies); first = before }

  pub line_more : (i : ℕ) (entry : Entry) → NoneBefore i → slice_get said i ≡ Some entry → (Applies graph slot at said code entry → ⊥) → NoneBefore (i + 1)
  line_more i entry before there not_here k l a = by (cases_lt k i)
    where
      by : (k < i) ⊎ (i ≤ k) → ⊥
      by (inl less) = before k less a
      by (inr more) =
          let same : k ≡ i = omega (arith, l, more) in
          let one : a.0 ≡ entry = some_entry a.0 entry (sym a.1 ∙ ap (slice_get said) same ∙ there) in
          not_here (subst (Applies graph slot at said code) one a.2)

  pub no_line : (i : ℕ) → length said ≤ i → NoneBefore i → AppliesSomewhere graph slot at said code → ⊥
  no_line i all before s = let l = place_within (s.1).0 said s.0 (s.1).1 in before s.0 (omega (arith, all, l)) s.1

-- An entry speaks of one step.
pub speaks_one : (entry : Entry) (v w : ℕ) → SpeaksOf entry v → SpeaksOf entry w → v ≡ w
speaks_one (Why n path) v w p q = p ∙ sym q
speaks_one (ValueText text) v w p q = absurd p
speaks_one (Reach own child) v w p q = p ∙ sym q
speaks_one (Uses own) v w p q = absurd p

-- ---- by the code's entries

module _ (entries : List lines.Entry) (graph : Graph) (slot : ℕ) (at : SlotAt) (code : VerifyCode) (i : ℕ) (x : lines.Entry) (there : slice_get entries i ≡ Some x) (answer : Bool)
    (told : IsTrue answer ↔ Applies graph slot at (map entry_of entries) code (entry_of x)) where
  pub found_here : NoneBefore graph slot at (map entry_of entries) code i → answer ≡ true → IsFirstLine graph slot at (map entry_of entries) code (i + 1)
  found_here before yes_here = line_found graph slot at (map entry_of entries) code i (entry_of x) before (map_place entry_of entries i x there) (told.0 yes_here)

  pub stays_none : NoneBefore graph slot at (map entry_of entries) code i → answer ≡ false → NoneBefore graph slot at (map entry_of entries) code (i + 1)
  stays_none before no_here = line_more graph slot at (map entry_of entries) code i (entry_of x) before (map_place entry_of entries i x there)
      (λ applies. absurd (let clash : false ≡ true = sym no_here ∙ told.1 applies in cc clash))

pub nowhere : (entries : List lines.Entry) (graph : Graph) (slot : ℕ) (at : SlotAt) (code : VerifyCode) (i : ℕ) → length entries ≤ i → NoneBefore graph slot at (map entry_of entries) code i
    → AppliesSomewhere graph slot at (map entry_of entries) code → ⊥
nowhere entries graph slot at code i all before = no_line graph slot at (map entry_of entries) code i (let long = length-map entries entry_of in omega (arith, long, all)) before
