-- A certificate that is accepted tells the truth.
use Rattle.std.proofs.Common.{◌≡◌, ◌⊎◌, inl, inr, ℕ, zero, suc, ◌+◌, ◌<◌, ◌≤◌, List, [], ◌∷◌, ◌++◌, length, map, None, Some, refl, sym, ap, ◌∙◌, subst, arith}
use Rattle.std.specs.List.{slice_get}
use Rattle.std.specs.Ordering.{nat_cmp}
use Rattle.std.proofs.lemmas.Bool.{cases_lt}
use Rattle.context_model.specs.KeyedMerge.{keys_of, IsAt}
use Rattle.context_model.specs.Orders.{IsIn, Rises}
use Rattle.context_model.proofs.MergeLaws.{EachPair-from}
use Rattle.bag_model.specs.Joins.{join, IsValueBelow}
use Rattle.bag_model.specs.Shapes.{Nodes}
use Rattle.bag_model.specs.Slots.{SlotAt, FindsSlot}
use Rattle.bag_model.specs.SlotValues.{HasSlot}
use Rattle.bag_model.specs.ValueCode.{value_code}
use Rattle.bag_model.specs.Values.{Value}
use Rattle.text_model.specs.ValueTexts.{value_text}
use Rattle.text_lines.specs.Readings.{NoneOf}
use Rattle.trace_model.specs.Contributions.{IsContributed, IsLeastAbove}
use Rattle.trace_model.specs.Graphs.{Graph, IsRecorded}
use Rattle.trace_model.specs.Truth.{Reaches, itself, through}
use Rattle.trace_model.proofs.ContributedLaws.{truths_are_contributed}
use Rattle.write_proof.specs.Entries.{Entry, Why, ValueText, Reach, Uses, entries_of, lines_in}
use Rattle.write_proof.specs.LineRules.{certificate_step, HasParent, IsWriteStep}
use Rattle.write_proof.specs.WholeRules.{reached, used, IsListed, SpeaksOf, StepContributes, IsOfSteps, IsJoinOfUsed, AppliesSomewhere, rules_over_all}
use Rattle.write_proof.specs.Verdicts.{IsAbout, IsCertificateRead, IsAccepted, TellsTruth}
use Rattle.write_proof.proofs.Decided.{surely, coded_same, same_text, in_or_not}
use Rattle.write_proof.proofs.Contributing.{join_some}
use Rattle.write_proof.proofs.Said.{parent_or_not, write_or_not, listed_or_not, reached_at, used_at, said_at, Begins, begins}
use Rattle.write_proof.proofs.OfLines.{said_whole, Follow, said_follow, after_text, pair_at}
use Rattle.write_proof.proofs.AsWritten.{reached_is, used_is}

-- a place of a list
get_less : {A : Type 0} (xs : List A) (i : ℕ) (x : A) → slice_get xs i ≡ Some x → i < length xs
get_less [] i x e = absurd (cc e)
get_less (y ∷ xs) zero x e = omega arith
get_less (y ∷ xs) (suc i) x e = let l = get_less xs i x e in omega arith

module _ (table : Nodes) (graph : Graph) (recorded : IsRecorded table graph) (certificate : List ℕ) (said : List Entry) (slot : ℕ) (at : SlotAt)
    (read : IsCertificateRead table graph certificate said slot at) (none : NoneOf (AppliesSomewhere graph slot at said) rules_over_all) where
  first : Begins said
  first = begins table graph _ said read.all read.enough

  abbrev n : ℕ
  n = certificate_step said

  -- ---- each line by itself

  edge : (place w child : ℕ) → slice_get said place ≡ Some (Reach w child) → HasParent graph child w
  edge place w child e = let g = said_at table graph [] _ said read.all place (Reach w child) e in surely (parent_or_not graph child w) ((((((g.2).2).1).1).1).0)

  child_later : (child w : ℕ) → HasParent graph child w → w < child
  child_later child w p = (recorded.sound).earlier child w p.0 p.1 p.2

  child_within : (child w : ℕ) → HasParent graph child w → child < length graph.steps
  child_within child w p = get_less graph.steps child p.0 p.1

  -- ---- what is listed reaches

  child_listed : (place w child : ℕ) → slice_get said place ≡ Some (Reach w child) → IsListed said child
  child_listed place w child e = surely (listed_or_not said child) (λ no. none.0 (place, (Reach w child, e, no)))

  use_listed : (place w : ℕ) → slice_get said place ≡ Some (Uses w) → IsListed said w
  use_listed place w e = surely (listed_or_not said w) (λ no. none.0 (place, (Uses w, e, no)))

  -- a child is on the way
  way : (place w child : ℕ) → slice_get said place ≡ Some (Reach w child) → HasParent graph child w × IsListed said child
  way place w child e = (edge place w child e, child_listed place w child e)

  -- a used step writes or receives
  brings : (place w : ℕ) → slice_get said place ≡ Some (Uses w) → IsWriteStep graph w
  brings place w e = let g = said_at table graph [] _ said read.all place (Uses w) e in surely (write_or_not graph w) (((((((g.2).2).1).1).1).1).0)

  from_child : (w child m : ℕ) → HasParent graph child w → Reaches graph child m → Reaches graph w m
  from_child w child m p itself = through p.0 p.1 p.2 itself
  from_child w child m p (through {parent = parent} step there i r) = through step there i (from_child w child parent p r)

  reaches_from : (fuel w : ℕ) → length graph.steps ≤ w + fuel → IsListed said w → Reaches graph w n
  reaches_from fuel w far (inl e) = subst (λ v. Reaches graph v n) (sym e) itself
  reaches_from zero w far (inr i) =
      let s = reached_at said w i in
      let p = edge s.0 w s.1 s.2 in
      absurd (omega (arith, far, child_later s.1 w p, child_within s.1 w p))
  reaches_from (suc fuel) w far (inr i) =
      let s = reached_at said w i in
      let p = edge s.0 w s.1 s.2 in
      from_child w s.1 n p (reaches_from fuel s.1 (omega (arith, far, child_later s.1 w p)) (child_listed s.0 w s.1 s.2))

  listed_reaches : (w : ℕ) → IsListed said w → Reaches graph w n
  listed_reaches w l = reaches_from (length graph.steps) w (omega arith) l

  used_reaches : (w : ℕ) → IsIn w (used said) → Reaches graph w n × IsWriteStep graph w
  used_reaches w i = let u = used_at said w i in (listed_reaches w (use_listed u.0 w u.1), brings u.0 w u.1)

  -- ---- what reaches is listed

  -- an entry speaks of each listed step
  spoken : (w : ℕ) → IsListed said w → (place : ℕ) × (entry : Entry) × (slice_get said place ≡ Some entry) × SpeaksOf entry w
  spoken w (inl e) = (
    0,
    Why first.n first.path,
    ap (λ l. slice_get l 0) first.is,
    e ∙ ap certificate_step first.is,
  )
  spoken w (inr i) = let s = reached_at said w i in (s.0, Reach w s.1, s.2, refl)

  parent_listed : (m parent : ℕ) → IsListed said m → HasParent graph m parent → IsListed said parent
  parent_listed m parent l p =
      let s = spoken m l in
      inr (surely (in_or_not parent (reached said)) (λ no. none.1.0 (s.0, (s.1, s.2, (m, parent, s.3, p, no)))))

  reaching_listed : (w m : ℕ) → Reaches graph w m → IsListed said m → IsListed said w
  reaching_listed w m itself l = l
  reaching_listed w m (through {parent = parent} step there i r) l = reaching_listed w parent r (parent_listed m parent l (step, there, i))

  -- ---- the truth

  module _ (has : HasSlot table slot at) where
    joined : (v : Value) × IsJoinOfUsed graph slot at said v
    joined = join_some table slot at has graph recorded (used said)

    no_more : (w : ℕ) (x : Value) → IsListed said w → StepContributes graph slot at w x → IsValueBelow x joined.0
    no_more w x l c =
        let s = spoken w l in
        surely (coded_same value_code (join x joined.0) joined.0) (λ no. none.1.1.1.0 (s.0, (s.1, s.2, (w, x, joined.0, s.3, c, joined.1, no))))

    least : IsLeastAbove at.shape (IsContributed graph n slot at) joined.0
    least = record {
      of_shape = (joined.1).of_shape;
      all = λ x r. no_more r.from x (reaching_listed r.from n r.reaches (inl refl)) (r.step, r.there, r.does);
      lowest = λ y p f. (joined.1).lowest y p (λ x c.
          let u = used_at said c.0 c.1 in
          f x (record { from = c.0; step = (c.2).0; there = (c.2).1; reaches = listed_reaches c.0 (use_listed u.0 c.0 u.1); does = (c.2).2 }));
    }

    text_same : first.text ≡ value_text at.shape joined.0
    text_same = surely (same_text first.text (value_text at.shape joined.0)) (λ no. none.1.1.0 (1, (ValueText first.text, ap (λ l. slice_get l 1) first.is, (joined.0, joined.1, no))))

  within_graph : first.n < length graph.steps
  within_graph =
      let g = said_at table graph [] _ said read.all 0 (Why first.n first.path) (ap (λ l. slice_get l 0) first.is) in
      by (cases_lt first.n (length graph.steps)) (((g.2).2).0)
    where
      by : (first.n < length graph.steps) ⊎ (length graph.steps ≤ first.n) → (length graph.steps ≤ first.n → ⊥) → first.n < length graph.steps
      by (inl less) out = less
      by (inr more) out = absurd (out more)

-- how the entries begin follows from them
begun_number : (n : ℕ) (path text : List ℕ) (more : List Entry) (b : Begins (Why n path ∷ ValueText text ∷ more)) → b.n ≡ n
begun_number n path text more b = let e = b.is in cc e

begun_text : (n : ℕ) (path text : List ℕ) (more : List Entry) (b : Begins (Why n path ∷ ValueText text ∷ more)) → text ≡ b.text
begun_text n path text more b = let e = b.is in cc e

some_path : (n m : ℕ) (path way : List ℕ) → Some (Why n path) ≡ Some (Why m way) → way ≡ path
some_path n m path way e = cc e

module _ (table : Nodes) (graph : Graph) (certificate : List ℕ) (recorded : IsRecorded table graph) (n : ℕ) (path text : List ℕ) (pairs : List (ℕ × ℕ)) (steps : List ℕ) (slot : ℕ) (at : SlotAt)
    (read : IsCertificateRead table graph certificate (entries_of n path text pairs steps) slot at) (none : NoneOf (AppliesSomewhere graph slot at (entries_of n path text pairs steps)) rules_over_all) where
  abbrev rest : List Entry
  rest = map (λ pair. Reach pair.0 pair.1) pairs ++ map Uses steps

  abbrev entries : List Entry
  entries = entries_of n path text pairs steps

  abbrev about : IsAbout table entries slot at
  about = read.about

  abbrev found : (v : Value) × IsJoinOfUsed graph slot at entries v
  found = joined table graph recorded certificate entries slot at read none about.4

  abbrev begun : Begins entries
  begun = first table graph recorded certificate entries slot at read none

  within : n < length graph.steps
  within = subst (λ m. m < length graph.steps) (begun_number n path text rest begun) (within_graph table graph recorded certificate entries slot at read none)

  reaches_here : (w : ℕ) → IsListed entries w → Reaches graph w n
  reaches_here w l = listed_reaches table graph recorded certificate entries slot at read none w l

  child_here : (w child : ℕ) → IsAt w child pairs → HasParent graph child w × Reaches graph child n
  child_here w child i =
      let p = pair_at pairs steps w child i in
      let own = way table graph recorded certificate entries slot at read none (suc (suc p.0)) w child p.1 in
      (own.0, reaches_here child own.1)

  begun_told : Rises nat_cmp (keys_of pairs) → Rises nat_cmp steps → TellsTruth table graph certificate
  begun_told rises used_rise = record {
    n = n;
    path = path;
    text = text;
    pairs = pairs;
    used = steps;
    says = said_whole table graph certificate entries read.all;
    within = within;
    slot = slot;
    at = at;
    finds = subst (λ p. FindsSlot table p (Some slot)) (some_path n about.0 path about.1 about.2) about.3;
    there = about.4;
    value = found.0;
    truth = (truths_are_contributed table graph n slot at found.0 recorded within about.4).1 (least table graph recorded certificate entries slot at read none about.4);
    is = begun_text n path text rest begun ∙ text_same table graph recorded certificate entries slot at read none about.4;
    rises = rises;
    steps = λ w. (
      λ l. reaches_here w (subst (λ (ws : List ℕ). (w ≡ n) ⊎ IsIn w ws) (sym (reached_is pairs steps)) l),
      λ r. subst (λ (ws : List ℕ). (w ≡ n) ⊎ IsIn w ws) (reached_is pairs steps) (reaching_listed table graph recorded certificate entries slot at read none w n r (inl refl)),
    );
    ways = EachPair-from (λ w child. HasParent graph child w × Reaches graph child n) pairs child_here;
    used_rise = used_rise;
    uses = λ w i. used_reaches table graph recorded certificate entries slot at read none w (subst (IsIn w) (sym (used_is pairs steps)) i);
    joined = subst (λ (ws : List ℕ). IsLeastAbove at.shape (IsOfSteps graph slot at ws) found.0) (used_is pairs steps) found.1;
  }

pub accepted_tells_truth : (table : Nodes) (graph : Graph) (certificate : List ℕ) → IsRecorded table graph → IsAccepted table graph certificate → TellsTruth table graph certificate
accepted_tells_truth table graph certificate recorded a = by a.0 a.1 a.2 a.3 a.4
  where
    by : (said : List Entry) (slot : ℕ) (at : SlotAt) → IsCertificateRead table graph certificate said slot at → NoneOf (AppliesSomewhere graph slot at said) rules_over_all → TellsTruth table graph certificate
    by said slot at read none =
        let b = begins table graph (lines_in certificate) said read.all read.enough in
        let follow : Follow None (Why b.n b.path ∷ ValueText b.text ∷ b.more) = subst (Follow None) b.is (said_follow table graph [] (lines_in certificate) said read.all) in
        let k = after_text b.text b.more (follow.2).2 in
        let whole : said ≡ entries_of b.n b.path b.text k.pairs k.used = b.is ∙ ap (λ (l : List Entry). Why b.n b.path ∷ ValueText b.text ∷ l) k.is in
        begun_told table graph certificate recorded b.n b.path b.text k.pairs k.used slot at (subst (λ l. IsCertificateRead table graph certificate l slot at) whole read)
        (subst (λ l. NoneOf (AppliesSomewhere graph slot at l) rules_over_all) whole none) k.rises k.used_rise
