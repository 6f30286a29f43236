-- All additions on the way to a step can be listed.
use Rattle.std.proofs.Common.{◌≡◌, ◌⊎◌, inl, inr, ◌↔◌, ℕ, zero, suc, ◌<◌, List, [], ◌∷◌, ◌++◌, length, refl, sym, subst, arith}
use Rattle.context_model.specs.Orders.{IsIn}
use Rattle.bag_model.specs.Shapes.{Nodes}
use Rattle.bag_model.specs.Values.{Values}
use Rattle.bag_model.specs.SlotValues.{only}
use Rattle.bag_model.specs.Tables.{IsTable}
use Rattle.bag_model.specs.Views.{View}
use Rattle.bag_model.specs.Readings.{PathsOf, SaysValues}
use Rattle.bag_model.proofs.Existence.{typed_lists_say}
use Rattle.bag_model.proofs.Uniqueness.{ReadsEach-unique}
use Rattle.trace_model.specs.Graphs.{Act, Start, Recv, Set, Branch, Forward, Trim, Join, Step, Graph, parents_of, HasStep, view_at, IsActOf, IsRecorded}
use Rattle.trace_model.specs.Truth.{Adds, IsAdded, AdditionsAreListed}
use Rattle.trace_model.proofs.Arrivals.{get_within}
use Rattle.trace_model.proofs.ReachLaws.{reached_split, reached_joined}

-- The members of the list are the values of which this holds.
abbrev AreListed : (Values → Type 0) → List Values → Type 0
AreListed D added = (vs : Values) → IsIn vs added ↔ D vs

abbrev CanBeListed : (Values → Type 0) → Type 0
CanBeListed D = (added : List Values) × AreListed D added

-- ---- two lists

in_both : (vs : Values) (first second : List Values) → IsIn vs (first ++ second) → IsIn vs first ⊎ IsIn vs second
in_both vs [] second i = inr i
in_both vs (x ∷ first) second (inl e) = inl (inl e)
in_both vs (x ∷ first) second (inr i) = elim (in_both vs first second i) [ inl j ↦ inl (inr j) | inr j ↦ inr j ]

from_second : (vs : Values) (first second : List Values) → IsIn vs second → IsIn vs (first ++ second)
from_second vs [] second i = i
from_second vs (x ∷ first) second i = inr (from_second vs first second i)

from_first : (vs : Values) (first second : List Values) → IsIn vs first → IsIn vs (first ++ second)
from_first vs [] second i = absurd i
from_first vs (x ∷ first) second (inl e) = inl e
from_first vs (x ∷ first) second (inr i) = inr (from_first vs first second i)

none_listed : (D : Values → Type 0) → ((vs : Values) → D vs → ⊥) → CanBeListed D
none_listed D none = ([], λ vs. ((λ i. absurd i), λ d. absurd (none vs d)))

one_listed : (D : Values → Type 0) (vs : Values) → D vs → ((ws : Values) → D ws → ws ≡ vs) → CanBeListed D
one_listed D vs d one = (vs ∷ [], λ ws. ((λ i. elim i [ inl e ↦ subst D (sym e) d | inr j ↦ absurd j ]), λ e. inl (one ws e)))

both_listed : (D E F : Values → Type 0) → ((vs : Values) → F vs → D vs ⊎ E vs) → ((vs : Values) → D vs ⊎ E vs → F vs) → CanBeListed D → CanBeListed E → CanBeListed F
both_listed D E F splits joins (first, of_first) (second, of_second) = (
  first ++ second,
  λ vs. (
    (λ i. joins vs (elim (in_both vs first second i) [ inl j ↦ inl ((of_first vs).0 j) | inr j ↦ inr ((of_second vs).0 j) ])),
    λ f. elim (splits vs f) [ inl d ↦ from_first vs first second ((of_first vs).1 d) | inr e ↦ from_second vs first second ((of_second vs).1 e) ],
  ),
)

-- ---- what an act adds

act_listed : (nodes : Nodes) (view : View) (act : Act) → IsTable nodes → IsActOf nodes view act → CanBeListed (λ vs. Adds nodes vs act)
act_listed nodes view Start table may = none_listed (λ vs. ⊥) (λ vs d. d)
act_listed nodes view (Recv received) table may =
    let said = typed_lists_say nodes received may.typed in
    one_listed (SaysValues nodes received) said.0 said.1 (λ ws r. ReadsEach-unique nodes (PathsOf received) [] ws said.0 r said.1)
act_listed nodes view (Set parent slot v) table may = one_listed (λ vs. vs ≡ only nodes slot v) (only nodes slot v) refl (λ ws e. e)
act_listed nodes view (Branch parent) table may = none_listed (λ vs. ⊥) (λ vs d. d)
act_listed nodes view (Forward parent) table may = none_listed (λ vs. ⊥) (λ vs d. d)
act_listed nodes view (Trim parent budget) table may = none_listed (λ vs. ⊥) (λ vs d. d)
act_listed nodes view (Join parents) table may = none_listed (λ vs. ⊥) (λ vs d. d)

-- ---- what is added on the way

module _ (nodes : Nodes) (graph : Graph) (recorded : IsRecorded nodes graph) where
  abbrev SomeAdds : List ℕ → Values → Type 0
  SomeAdds parents vs = (parent : ℕ) × IsIn parent parents × IsAdded nodes graph parent vs

  parents_listed : (parents : List ℕ) → ((parent : ℕ) → IsIn parent parents → CanBeListed (IsAdded nodes graph parent)) → CanBeListed (SomeAdds parents)
  parents_listed [] f = none_listed (SomeAdds []) (λ vs s. s.1)
  parents_listed (parent ∷ parents) f =
      both_listed (IsAdded nodes graph parent) (SomeAdds parents) (SomeAdds (parent ∷ parents))
      (λ vs s. elim s.1 [ inl e ↦ inl (subst (λ m. IsAdded nodes graph m vs) e s.2) | inr i ↦ inr (s.0, i, s.2) ])
      (λ vs s. elim s [ inl d ↦ (parent, inl refl, d) | inr d ↦ (d.0, inr d.1, d.2) ])
      (f parent (inl refl)) (parents_listed parents (λ m i. f m (inr i)))

  step_listed : (n : ℕ) (step : Step) → HasStep graph n step → ((parent : ℕ) → IsIn parent (parents_of step.act) → CanBeListed (IsAdded nodes graph parent)) → CanBeListed (IsAdded nodes graph n)
  step_listed n step there f =
      both_listed (λ vs. Adds nodes vs step.act) (SomeAdds (parents_of step.act)) (IsAdded nodes graph n)
      (λ vs. reached_split graph n step there (λ step. Adds nodes vs step.act)) (λ vs. reached_joined graph n step there (λ step. Adds nodes vs step.act))
      (act_listed nodes (view_at graph step.service) step.act recorded.table ((recorded.fits).acts n step there)) (parents_listed (parents_of step.act) f)

  listed_before : (bound n : ℕ) → n < bound → n < length graph.steps → CanBeListed (IsAdded nodes graph n)
  listed_before zero n less within = absurd (omega (arith, less))
  listed_before (suc bound) n less within =
      let s = get_within graph.steps n within in
      step_listed n s.0 s.1 (λ parent i.
      let earlier : parent < n = (recorded.sound).earlier n parent s.0 s.1 i in
      listed_before bound parent (omega (arith, earlier, less)) (omega (arith, earlier, within)))

pub additions_are_listed : AdditionsAreListed
additions_are_listed nodes graph n recorded within = listed_before nodes graph recorded (suc n) n (omega arith) within
