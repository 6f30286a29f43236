-- What the entries of good lines keep.
use Rattle.std.proofs.Common.{◌≡◌, ◌⊎◌, inl, inr, ℕ, zero, suc, ◌≤◌, List, [], ◌∷◌, ◌++◌, length, Option, Some, None, refl, sym, ap, ◌∙◌, subst, arith}
use Rattle.std.specs.List.{slice_get}
use Rattle.context_model.specs.Orders.{IsIn}
use Rattle.bag_model.specs.Shapes.{Nodes}
use Rattle.text_lines.specs.Lines.{Line}
use Rattle.text_lines.specs.Readings.{AllSay}
use Rattle.trace_model.specs.Graphs.{Act, Start, Recv, Set, Branch, Forward, Trim, Join, Graph, Step, parents_of}
use Rattle.trace_model.proofs.ReachLaws.{one_step}
use Rattle.write_proof.specs.Entries.{Entry, Why, ValueText, Reach, Uses}
use Rattle.write_proof.specs.LineRules.{certificate_step, MayFollow, HasParent, BringsValues, IsWriteStep, IsGoodEntry, certificate_lines}
use Rattle.write_proof.specs.WholeRules.{reached, used, IsListed}
use Rattle.write_proof.proofs.Decided.{same_number, in_or_not}

-- ---- decided

pub parent_or_not : (graph : Graph) (c w : ℕ) → HasParent graph c w ⊎ (HasParent graph c w → ⊥)
parent_or_not graph c w = by (slice_get graph.steps c) refl
  where
    by : (found : Option Step) → slice_get graph.steps c ≡ found → HasParent graph c w ⊎ (HasParent graph c w → ⊥)
    by None e = inr (λ p. let clash : None ≡ Some p.0 = sym e ∙ p.1 in cc)
    by (Some step) e = elim (in_or_not w (parents_of step.act)) [
      | inl i ↦ inl (step, e, i)
      | inr n ↦ inr (λ p. n (subst (λ (s : Step). IsIn w (parents_of s.act)) (one_step graph c p.0 step p.1 e) p.2))
    ]

pub listed_or_not : (said : List Entry) (w : ℕ) → IsListed said w ⊎ (IsListed said w → ⊥)
listed_or_not said w = by (same_number w (certificate_step said)) (in_or_not w (reached said))
  where
    by : (w ≡ certificate_step said) ⊎ (w ≡ certificate_step said → ⊥) → IsIn w (reached said) ⊎ (IsIn w (reached said) → ⊥) → IsListed said w ⊎ (IsListed said w → ⊥)
    by (inl e) t = inl (inl e)
    by (inr n) (inl i) = inl (inr i)
    by (inr n) (inr m) = inr (λ s. elim s [ inl e ↦ n e | inr i ↦ m i ])

brings_or_not : (act : Act) → BringsValues act ⊎ (BringsValues act → ⊥)
brings_or_not Start = inr (λ b. b)
brings_or_not (Recv received) = inl tt
brings_or_not (Set parent slot v) = inl tt
brings_or_not (Branch parent) = inr (λ b. b)
brings_or_not (Forward parent) = inr (λ b. b)
brings_or_not (Trim parent budget) = inr (λ b. b)
brings_or_not (Join parents) = inr (λ b. b)

pub write_or_not : (graph : Graph) (w : ℕ) → IsWriteStep graph w ⊎ (IsWriteStep graph w → ⊥)
write_or_not graph w = by (slice_get graph.steps w) refl
  where
    by : (found : Option Step) → slice_get graph.steps w ≡ found → IsWriteStep graph w ⊎ (IsWriteStep graph w → ⊥)
    by None e = inr (λ p. let clash : None ≡ Some p.0 = sym e ∙ p.1 in cc)
    by (Some step) e = elim (brings_or_not step.act) [
      | inl b ↦ inl (step, e, b)
      | inr n ↦ inr (λ p. n (subst (λ (s : Step). BringsValues s.act) (one_step graph w p.0 step p.1 e) p.2))
    ]

-- ---- entries by their places

-- An entry whose step is reached.
pub reached_at : (said : List Entry) (w : ℕ) → IsIn w (reached said) → (place child : ℕ) × (slice_get said place ≡ Some (Reach w child))
reached_at [] w i = absurd i
reached_at (Why n path ∷ more) w i = let s = reached_at more w i in (suc s.0, s.1, s.2)
reached_at (ValueText text ∷ more) w i = let s = reached_at more w i in (suc s.0, s.1, s.2)
reached_at (Uses v ∷ more) w i = let s = reached_at more w i in (suc s.0, s.1, s.2)
reached_at (Reach v child ∷ more) w (inl e) = (zero, child, ap (λ u. Some (Reach u child)) (sym e))
reached_at (Reach v child ∷ more) w (inr i) = let s = reached_at more w i in (suc s.0, s.1, s.2)

pub used_at : (said : List Entry) (w : ℕ) → IsIn w (used said) → (place : ℕ) × (slice_get said place ≡ Some (Uses w))
used_at [] w i = absurd i
used_at (Why n path ∷ more) w i = let s = used_at more w i in (suc s.0, s.1)
used_at (ValueText text ∷ more) w i = let s = used_at more w i in (suc s.0, s.1)
used_at (Reach v child ∷ more) w i = let s = used_at more w i in (suc s.0, s.1)
used_at (Uses v ∷ more) w (inl e) = (zero, ap (λ u. Some (Uses u)) (sym e))
used_at (Uses v ∷ more) w (inr i) = let s = used_at more w i in (suc s.0, s.1)

-- Each entry is said by a good line after some others.
pub said_at : (table : Nodes) (graph : Graph) (earlier : List Entry) (lines : List Line) (said : List Entry) → AllSay (certificate_lines table graph) earlier lines said
    → (place : ℕ) (entry : Entry) → slice_get said place ≡ Some entry → (before : List Entry) × (line : List ℕ) × IsGoodEntry table graph before line entry
said_at table graph earlier [] [] all place entry at = absurd (cc at)
said_at table graph earlier [] (a ∷ said) all place entry at = absurd all
said_at table graph earlier (line ∷ lines) [] all place entry at = absurd all
said_at table graph earlier (line ∷ lines) (a ∷ said) all zero entry at = let same : a ≡ entry = cc at in (earlier, line.1, subst (IsGoodEntry table graph earlier line.1) same all.0)
said_at table graph earlier (line ∷ lines) (a ∷ said) all (suc place) entry at = said_at table graph (earlier ++ a ∷ []) lines said all.1 place entry at

-- ---- the first two

-- The entries begin with a step and a value's text.
pub record Begins (said : List Entry) : Type 0 where
  pub n : ℕ
  pub path : List ℕ
  pub text : List ℕ
  pub more : List Entry
  pub is : said ≡ Why n path ∷ ValueText text ∷ more

pub begins : (table : Nodes) (graph : Graph) (lines : List Line) (said : List Entry) → AllSay (certificate_lines table graph) [] lines said → 2 ≤ length said → Begins said
begins table graph [] [] all long = absurd (omega (arith, long))
begins table graph [] (a ∷ said) all long = absurd all
begins table graph (line ∷ lines) [] all long = absurd all
begins table graph (line ∷ []) (a ∷ []) all long = absurd (omega (arith, long))
begins table graph (line ∷ []) (a ∷ b ∷ more) all long = absurd all.1
begins table graph (line ∷ next ∷ lines) (a ∷ []) all long = absurd all.1
begins table graph (line ∷ next ∷ lines) (a ∷ b ∷ more) all long = by a b ((all.0).1) (((all.1).0).1)
  where
    by : (c d : Entry) → MayFollow None c → MayFollow (Some c) d → Begins (c ∷ d ∷ more)
    by (Why n path) (ValueText text) p q = record { n = n; path = path; text = text; more = more; is = refl }
    by (Why n path) (Why m way) p q = absurd q
    by (Why n path) (Reach w child) p q = absurd q
    by (Why n path) (Uses w) p q = absurd q
    by (ValueText text) d p q = absurd p
    by (Reach w child) d p q = absurd p
    by (Uses w) d p q = absurd p
