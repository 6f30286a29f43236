-- Each certificate of a run verifies.
use Rattle.std.proofs.Common.{◌≡◌, ◌≢◌, ◌⊎◌, inl, inr, ℕ, zero, suc, ◌<◌, ◌≤◌, Bool, true, false, List, [], ◌∷◌, length, filter, if◌then◌else◌, nat_lt, ltb-true, Some, refl, sym, ap, subst, arith}
use Rattle.std.specs.List.{AllByRecursion, slice_get}
use Rattle.std.proofs.lemmas.Bool.Decides.{nat_tests}
use Rattle.context_model.specs.Ended.{IsEnded, field_path}
use Rattle.context_model.specs.KeyedMerge.{keys_of, EachPair, IsAt}
use Rattle.context_model.specs.Orders.{IsIn}
use Rattle.context_model.proofs.MergeLaws.{EachPair-at, EachPair-from, IsIn-keys_of}
use Rattle.bag_model.specs.Joins.{join, IsValueBelow}
use Rattle.bag_model.specs.Shapes.{Nodes}
use Rattle.bag_model.specs.Slots.{SlotAt, name_path}
use Rattle.bag_model.specs.Tables.{AreFields}
use Rattle.bag_model.specs.SlotValues.{HasSlot}
use Rattle.bag_model.specs.ValueCode.{value_code}
use Rattle.bag_model.specs.Values.{Value, bottom, IsOfShape}
use Rattle.bag_model.proofs.BelowLaws.{below-onwards, below-bottom}
use Rattle.text_model.specs.ValueTexts.{value_text}
use Rattle.recorded_graph.specs.declared.graphs.TheConstants.{STEPS_MAX}
use Rattle.graph_lines.specs.Forms.{IsNumber}
use Rattle.text_lines.specs.Readings.{NoneOf}
use Rattle.trace_model.specs.Contributions.{Contributes, IsContributed, IsLeastAbove}
use Rattle.trace_model.specs.Faithful.{IsRunStep}
use Rattle.trace_model.specs.Graphs.{Act, Start, Recv, Set, Branch, Forward, Trim, Join, Graph, IsGraph, IsRecorded}
use Rattle.trace_model.specs.Runs.{Lists, list_at}
use Rattle.trace_model.specs.Truth.{Reaches, itself, through, IsTruthAt}
use Rattle.trace_model.proofs.ContributedLaws.{least_alike, least_one, truths_are_contributed}
use Rattle.trace_model.proofs.FaithfulLaws.{runs_are_faithful}
use Rattle.trace_model.proofs.ReachLaws.{reaches_on}
use Rattle.write_proof.specs.Entries.{Entry, Why, ValueText, Reach, Uses, entries_of}
use Rattle.write_proof.specs.LineRules.{HasParent, BringsValues}
use Rattle.write_proof.specs.WholeRules.{used, IsListed, SpeaksOf, StepContributes, IsOfSteps, IsJoinOfUsed, Applies, AppliesSomewhere, rules_over_all}
use Rattle.write_proof.specs.declared.verdicts.VerifyCode.TheVariants as codes
use Rattle.write_proof.specs.Verdicts.{IsAccepted}
use Rattle.write_proof.specs.Certificates.{IsLeastChild, IsOfEarlier, AreUsedSteps, IsCertificate, CertificatesVerify}
use Rattle.write_proof.proofs.Decided.{coded_same, in_or_not, same_number}
use Rattle.write_proof.proofs.Contributing.{step_shape, join_some}
use Rattle.write_proof.proofs.Feeds.{IsFed, value_fed}
use Rattle.write_proof.proofs.SlotNames.{slot_path, slot_shape}
use Rattle.write_proof.proofs.AsWritten.{text_says, entries_stand, IsPair, IsUse, reached_is, used_is, IsListedEntry, listed_at}

-- ---- steps on the way

parent_less : (graph : Graph) → IsGraph graph → (child w : ℕ) → HasParent graph child w → w < child
parent_less graph sound child w p = sound.earlier child w p.0 p.1 p.2

pub reaches_no_later : (graph : Graph) → IsGraph graph → (w n : ℕ) → Reaches graph w n → w ≤ n
reaches_no_later graph sound w n itself = omega arith
reaches_no_later graph sound w n (through {parent = parent} step there i r) =
    let before = sound.earlier n parent step there i in
    let more = reaches_no_later graph sound w parent r in
    omega (arith, before, more)

-- A parent of a step on the way is on the way.
pub parent_reaches : (graph : Graph) (child w n : ℕ) → HasParent graph child w → Reaches graph child n → Reaches graph w n
parent_reaches graph child w n p r = reaches_on graph w child n (through p.0 p.1 p.2 itself) r

-- ---- what earlier used steps contribute

abbrev earlier_of : ℕ → List ℕ → List ℕ
earlier_of w steps = filter (λ v. nat_lt v w) steps

kept : (v w : ℕ) (test : Bool) (u : ℕ) (us : List ℕ) → nat_lt u w ≡ test → ((i : IsIn v us) → v < w → IsIn v (earlier_of w us)) → IsIn v (u ∷ us) → v < w → IsIn v (if test then u ∷ earlier_of w us else earlier_of w us)
kept v w true u us e more (inl same) l = inl same
kept v w true u us e more (inr i) l = inr (more i l)
kept v w false u us e more (inl same) l = let off : nat_lt u w ≡ false = e in absurd (grind (arith, nat_tests, off, same, l))
kept v w false u us e more (inr i) l = more i l

in_earlier : (v w : ℕ) (steps : List ℕ) → IsIn v steps → v < w → IsIn v (earlier_of w steps)
in_earlier v w [] i l = i
in_earlier v w (u ∷ us) i l = kept v w (nat_lt u w) u us refl (in_earlier v w us) i l

left : (v w : ℕ) (test : Bool) (u : ℕ) (us : List ℕ) → nat_lt u w ≡ test → (IsIn v (earlier_of w us) → IsIn v us × (v < w)) → IsIn v (if test then u ∷ earlier_of w us else earlier_of w us) → IsIn v (u ∷ us) × (v < w)
left v w true u us e more (inl same) = (inl same, subst (λ k. k < w) (sym same) (ltb-true u w e))
left v w true u us e more (inr i) = let m = more i in (inr m.0, m.1)
left v w false u us e more i = let m = more i in (inr m.0, m.1)

of_earlier : (v w : ℕ) (steps : List ℕ) → IsIn v (earlier_of w steps) → IsIn v steps × (v < w)
of_earlier v w [] i = absurd i
of_earlier v w (u ∷ us) i = left v w (nat_lt u w) u us refl (of_earlier v w us) i

-- An act brings values, or contributes nothing.
pub brings_or_bottom : (slot : ℕ) (at : SlotAt) (act : Act) (x : Value) → Contributes slot at act x → BringsValues act ⊎ (x ≡ bottom at.shape)
brings_or_bottom slot at Start x c = inr c
brings_or_bottom slot at (Recv received) x c = inl tt
brings_or_bottom slot at (Set parent own v) x c = inl tt
brings_or_bottom slot at (Branch parent) x c = inr c
brings_or_bottom slot at (Forward parent) x c = inr c
brings_or_bottom slot at (Trim parent budget) x c = inr c
brings_or_bottom slot at (Join parents) x c = inr c

module _ (table : Nodes) (graph : Graph) (recorded : IsRecorded table graph) (slot : ℕ) (at : SlotAt) (there : HasSlot table slot at) where
  -- What the used steps before a step contribute has a join.
  pub earlier_joined : (steps : List ℕ) (w : ℕ) → (joined : Value) × IsLeastAbove at.shape (IsOfEarlier graph slot at steps w) joined
  earlier_joined steps w =
      let j = join_some table slot at there graph recorded (earlier_of w steps) in (
        j.0,
        least_alike at.shape (IsOfSteps graph slot at (earlier_of w steps)) (IsOfEarlier graph slot at steps w) j.0
            (λ x c. let o = of_earlier c.0 w steps c.1 in (c.0, o.0, o.1, c.2))
            (λ x c. (c.0, in_earlier c.0 w steps c.1 c.2, c.3)) j.1,
      )

  module _ (n : ℕ) (steps : List ℕ) (uses : AreUsedSteps graph n slot at steps) (v : Value) (least : IsLeastAbove at.shape (IsContributed graph n slot at) v) where
    contributed : (w : ℕ) (x : Value) → Reaches graph w n → StepContributes graph slot at w x → IsContributed graph n slot at x
    contributed w x r c = record { from = w; step = c.0; there = c.1; reaches = r; does = c.2 }

    -- What is above all that is used is above all that a step on the way contributes.
    said_by_used : (y : Value) → IsOfShape at.shape y → ((x : Value) → IsOfSteps graph slot at steps x → IsValueBelow x y)
        → (w : ℕ) (x : Value) → Reaches graph w n → StepContributes graph slot at w x → IsValueBelow x y
    said_by_used y p f w x r c = by (in_or_not w steps) (brings_or_bottom slot at (c.0).act x c.2)
      where
        j : (joined : Value) × IsLeastAbove at.shape (IsOfEarlier graph slot at steps w) joined
        j = earlier_joined steps w

        of_join : IsValueBelow j.0 y
        of_join = (j.1).lowest y p (λ z e. f z (e.0, e.1, e.3))

        no_news : BringsValues (c.0).act → (IsIn w steps → ⊥) → (join x j.0 ≡ j.0) ⊎ (join x j.0 ≢ j.0) → IsValueBelow x y
        no_news b out (inl below) = below-onwards at.shape x j.0 y (step_shape table slot at there graph recorded w x c) (j.1).of_shape p below of_join
        no_news b out (inr more) = absurd (out ((uses.all w).1 (r, (c.0, c.1, b), record { own = x; contributes = c; joined = j.0; join = j.1; more = more })))

        by : IsIn w steps ⊎ (IsIn w steps → ⊥) → BringsValues (c.0).act ⊎ (x ≡ bottom at.shape) → IsValueBelow x y
        by (inl i) t = f x (w, i, c)
        by (inr out) (inr none) = subst (λ z. IsValueBelow z y) (sym none) (below-bottom at.shape y p)
        by (inr out) (inl b) = no_news b out (coded_same value_code (join x j.0) j.0)

    -- What is used is enough: its join is the value of all that is contributed.
    pub used_is_enough : IsLeastAbove at.shape (IsOfSteps graph slot at steps) v
    used_is_enough = record {
      of_shape = least.of_shape;
      all = λ x c. least.all x (contributed c.0 x ((uses.all c.0).0 c.1).0 c.2);
      lowest = λ y p f. least.lowest y p (λ x r. said_by_used y p f r.from x r.reaches (r.step, r.there, r.does));
    }

-- ---- the rules over all lines

module _ (table : Nodes) (graph : Graph) (lists : Lists) (n slot : ℕ) (text : List ℕ) (step : IsRunStep table graph lists n) (few : length graph.steps ≤ STEPS_MAX) (c : IsCertificate table graph lists n slot text)
    (ended : IsEnded (list_at lists n) (field_path (c.at).numbers)) where
  abbrev at : SlotAt
  at = c.at

  abbrev entries : List Entry
  entries = entries_of n (name_path at) (value_text at.shape c.value) c.pairs c.steps

  sound : IsGraph graph
  sound = (step.recorded).sound

  truth : IsTruthAt table graph n slot c.value
  truth = (runs_are_faithful table graph lists n step).exact slot at c.value c.there c.says ended

  least : IsLeastAbove at.shape (IsContributed graph n slot at) c.value
  least = (truths_are_contributed table graph n slot at c.value step.recorded step.within c.there).0 truth

  joined : IsJoinOfUsed graph slot at entries c.value
  joined = subst (λ (l : List ℕ). IsLeastAbove at.shape (IsOfSteps graph slot at l) c.value) (sym (used_is c.pairs c.steps)) (used_is_enough table graph step.recorded slot at c.there n c.steps c.uses c.value least)

  no_more : (w : ℕ) → Reaches graph w n → w ≤ n
  no_more w r = reaches_no_later graph sound w n r

  pair_child : (w child : ℕ) → IsAt w child c.pairs → IsLeastChild graph n w child
  pair_child w child i = EachPair-at (λ v u. IsLeastChild graph n v u) c.pairs w child (c.reach).each i

  pair_reaches : (w : ℕ) → IsIn w (keys_of c.pairs) → (w ≢ n) × Reaches graph w n
  pair_reaches w i = ((c.reach).all w).0 i

  -- what reaches is listed
  reaching_listed : (w : ℕ) → Reaches graph w n → IsListed entries w
  reaching_listed w r = elim (same_number w n) [ inl e ↦ inl e | inr other ↦ inr (subst (IsIn w) (sym (reached_is c.pairs c.steps)) (((c.reach).all w).1 (other, r))) ]

  -- a step of which an entry speaks is on the way
  spoken_reaches : (place : ℕ) (entry : Entry) (w : ℕ) → slice_get entries place ≡ Some entry → SpeaksOf entry w → Reaches graph w n
  spoken_reaches zero entry w e s = first entry (cc e) s
    where
      first : (other : Entry) → Why n (name_path at) ≡ other → SpeaksOf other w → Reaches graph w n
      first other same s =
          let own : w ≡ n = subst (λ o. SpeaksOf o w) (sym same) s in
          subst (λ m. Reaches graph m n) (sym own) itself
  spoken_reaches (suc zero) entry w e s = absurd (second entry (cc e) s)
    where
      second : (other : Entry) → ValueText (value_text at.shape c.value) ≡ other → SpeaksOf other w → ⊥
      second other same s = subst (λ o. SpeaksOf o w) (sym same) s
  spoken_reaches (suc (suc place)) entry w e s = of_listed entry (listed_at c.pairs c.steps place entry e) s
    where
      of_listed : (other : Entry) → IsListedEntry c.pairs c.steps other → SpeaksOf other w → Reaches graph w n
      of_listed (Why m path) h s = absurd h
      of_listed (ValueText own) h s = absurd h
      of_listed (Reach v child) h s = subst (λ m. Reaches graph m n) (sym s) (pair_reaches v (IsIn-keys_of c.pairs v child h)).1
      of_listed (Uses v) h s = absurd s

  all_listed : (place : ℕ) (entry : Entry) → slice_get entries place ≡ Some entry → Applies graph slot at entries codes.NotListed entry → ⊥
  all_listed zero entry e a = subst (λ o. Applies graph slot at entries codes.NotListed o) (sym (some_first e)) a
    where
      some_first : Some (Why n (name_path at)) ≡ Some entry → Why n (name_path at) ≡ entry
      some_first f = cc f
  all_listed (suc zero) entry e a = subst (λ o. Applies graph slot at entries codes.NotListed o) (sym (some_second e)) a
    where
      some_second : Some (ValueText (value_text at.shape c.value)) ≡ Some entry → ValueText (value_text at.shape c.value) ≡ entry
      some_second f = cc f
  all_listed (suc (suc place)) entry e a = of_listed entry (listed_at c.pairs c.steps place entry e) a
    where
      of_listed : (other : Entry) → IsListedEntry c.pairs c.steps other → Applies graph slot at entries codes.NotListed other → ⊥
      of_listed (Why m path) h a = a
      of_listed (ValueText own) h a = a
      of_listed (Reach v child) h a = a (reaching_listed child (pair_child v child h).reaches)
      of_listed (Uses v) h a = a (reaching_listed v (((c.uses).all v).0 h).0)

  none_missing : (place : ℕ) (entry : Entry) → slice_get entries place ≡ Some entry → Applies graph slot at entries codes.Missing entry → ⊥
  none_missing place entry e a =
      let r = spoken_reaches place entry a.0 e a.2 in
      let less = parent_less graph sound a.0 a.1 a.3 in
      let last = no_more a.0 r in
      let other : a.1 ≢ n = λ same. omega (arith, less, last, same) in
      a.4 (subst (IsIn a.1) (sym (reached_is c.pairs c.steps)) (((c.reach).all a.1).1 (other, parent_reaches graph a.0 a.1 n a.3 r)))

  right_value : (place : ℕ) (entry : Entry) → slice_get entries place ≡ Some entry → Applies graph slot at entries codes.Value entry → ⊥
  right_value zero entry e a = subst (λ o. Applies graph slot at entries codes.Value o) (sym (some_first e)) a
    where
      some_first : Some (Why n (name_path at)) ≡ Some entry → Why n (name_path at) ≡ entry
      some_first f = cc f
  right_value (suc zero) entry e a = wrong (subst (λ o. Applies graph slot at entries codes.Value o) (sym (some_second e)) a)
    where
      some_second : Some (ValueText (value_text at.shape c.value)) ≡ Some entry → ValueText (value_text at.shape c.value) ≡ entry
      some_second f = cc f

      wrong : Applies graph slot at entries codes.Value (ValueText (value_text at.shape c.value)) → ⊥
      wrong b = b.2 (ap (value_text at.shape) (least_one at.shape (IsOfSteps graph slot at (used entries)) c.value b.0 joined b.1))
  right_value (suc (suc place)) entry e a = of_listed entry (listed_at c.pairs c.steps place entry e) a
    where
      of_listed : (other : Entry) → IsListedEntry c.pairs c.steps other → Applies graph slot at entries codes.Value other → ⊥
      of_listed (Why m path) h a = a
      of_listed (ValueText own) h a = h
      of_listed (Reach v child) h a = a
      of_listed (Uses v) h a = a

  not_too_much : (place : ℕ) (entry : Entry) → slice_get entries place ≡ Some entry → Applies graph slot at entries codes.TooMuch entry → ⊥
  not_too_much place entry e a =
      let r = spoken_reaches place entry a.0 e a.3 in
      let same : c.value ≡ a.2 = least_one at.shape (IsOfSteps graph slot at (used entries)) c.value a.2 joined a.5 in
      a.6 (subst (IsValueBelow a.1) same (least.all a.1 (record { from = a.0; step = (a.4).0; there = (a.4).1; reaches = r; does = (a.4).2 })))

  none_applies : NoneOf (AppliesSomewhere graph slot at entries) rules_over_all
  none_applies = (
    λ s. all_listed s.0 (s.1).0 (s.1).1 (s.1).2,
    (λ s. none_missing s.0 (s.1).0 (s.1).1 (s.1).2, (λ s. right_value s.0 (s.1).0 (s.1).1 (s.1).2, (λ s. not_too_much s.0 (s.1).0 (s.1).1 (s.1).2, tt))),
  )

  -- ---- the lines

  number : (w : ℕ) → w ≤ n → IsNumber w
  number w l = let within = step.within in omega (arith, l, within, few)

  each_pair : EachPair (IsPair graph n) c.pairs
  each_pair = EachPair-from (IsPair graph n) c.pairs (λ w child i.
      let own = pair_child w child i in
      let r = pair_reaches w (IsIn-keys_of c.pairs w child i) in
      let last = no_more w r.1 in
      let other = r.0 in
      (omega (arith, last, other), own.parent, number w last, number child (no_more child own.reaches)))

  each_use : AllByRecursion (IsUse graph n) c.steps
  each_use = all_of c.steps (λ w i. let u = ((c.uses).all w).0 i in (no_more w u.0, u.1, number w (no_more w u.0)))
    where
      all_of : (ws : List ℕ) → ((w : ℕ) → IsIn w ws → IsUse graph n w) → AllByRecursion (IsUse graph n) ws
      all_of [] f = tt
      all_of (w ∷ ws) f = (f w (inl refl), all_of ws (λ v i. f v (inr i)))

  pub certificate_verifies : IsAccepted table graph text
  certificate_verifies = (
    entries,
    slot,
    at,
    record {
      all = text_says table graph text entries c.is
          (entries_stand table graph n (name_path at) (value_text at.shape c.value) c.pairs c.steps slot at c.there refl step.within (number n (omega arith)) (slot_path table slot at fields c.there) fed each_pair (c.reach).rises each_use (c.uses).rises);
      enough = omega arith;
      about = (n, name_path at, refl, (at, c.there, refl), c.there);
    },
    none_applies,
  )
    where
      fields : AreFields table
      fields = ((step.recorded).table).well_formed

      fed : IsFed (value_text at.shape c.value)
      fed = value_fed at.shape c.value (slot_shape table slot at fields c.there)

pub certificates_verify : CertificatesVerify
certificates_verify table graph lists n slot text step few ended c = certificate_verifies table graph lists n slot text step few c (ended c.at c.there)
