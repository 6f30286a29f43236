-- The lines of the load are good where they are.
use Rattle.std.proofs.Common.{◌≡◌, inl, inr, ℕ, ◌++◌, ◌<◌, ◌≤◌, List, [], ◌∷◌, length, map, codes, None, Some, refl, sym, ap, ◌∙◌, subst, arith}
use Rattle.std.specs.Fmt.{decimal}
use Rattle.std.specs.List.{AllByRecursion, slice_get}
use Rattle.context_model.specs.declared.Form.{Form}
use Rattle.context_model.specs.declared.Form.TheVariants.{One}
use Rattle.context_model.specs.Orders.{IsIn}
use Rattle.bag_model.specs.Slots.{SlotAt, FindsSlot}
use Rattle.bag_model.specs.SlotValues.{HasSlot}
use Rattle.bag_model.specs.Views as views
use Rattle.bag_model.specs.Views.{View, Knows}
use Rattle.trace_model.specs.Graphs as graphs
use Rattle.trace_model.specs.Graphs.{Graph, form_at, form_of_service, view_at, view_of}
use Rattle.field_writes.specs.Writes.{IsWrite}
use Rattle.recorded_graph.specs.declared.graphs.TheConstants.{STEPS_MAX}
use Rattle.graph_lines.specs.Statements.{NamedAct, Statement, Set, Branch, Forward, Join, Step}
use Rattle.graph_lines.specs.Forms.{IsNumber, IsWord, IsPath, IsSoundStatement}
use Rattle.graph_text.specs.declared.TheConstants.{PARENTS_MAX}
use Rattle.graph_text.specs.Additions.{Addition, AddStep, IsGoodStatement, with_addition}
use Rattle.graph_text.specs.Names.{service_named}
use Rattle.graph_text.specs.Rules.{NamesNoStep, WritesUnknown, Miswrites, JoinsApart}
use Rattle.load_maker.specs.Loads.{load_table}
use Rattle.load_maker.proofs.CleanLines.{AreClean, words_text, clean_word, clean_number, clean_joined}
use Rattle.load_maker.proofs.LoadSlots.{IsSlot}
use Rattle.load_maker.proofs.LoadWrites.{SaysValue}
use Rattle.load_maker.proofs.Stages.{IsStage, Stands, stands_within}

-- The statement is sound, its line is clean, and it is good after the graph, to which it adds this.
pub record MayAdd (graph : Graph) (line : Statement) (addition : Addition) : Type 0 where
  pub sound : IsSoundStatement line
  pub clean : AreClean (words_text line)
  pub good : IsGoodStatement load_table graph line addition

-- The statements may be added to the graph one by one, and it is this one then.
abbrev pub Grows : Graph → List Statement → Graph → Type 0
Grows graph [] after = after ≡ graph
Grows graph (line ∷ rest) after =
    (addition : Addition) × MayAdd graph line addition × Grows (with_addition graph addition) rest after

pub grows_append : (graph mid after : Graph) (first rest : List Statement) → Grows graph first mid → Grows mid rest after → Grows graph (first ++ rest) after
grows_append graph mid after [] rest same more = subst (λ (g : Graph). Grows g rest after) same more
grows_append graph mid after (line ∷ first) rest (addition, may, grows) more =
    (addition, may, grows_append (with_addition graph addition) mid after first rest grows more)

-- The act is the next of the graph, and is at this service.
pub record MayFollow (graph : Graph) (n : ℕ) (act : NamedAct) (service : ℕ) : Type 0 where
  pub step : graphs.Step
  pub stands : step.service ≡ service
  pub may : MayAdd graph (Step n act) (AddStep step)

-- The number is below the limit of steps.
abbrev pub IsFew : ℕ → Type 0
IsFew n = n < STEPS_MAX

few_number : (n : ℕ) → IsFew n → IsNumber n
few_number n few = omega (arith, few)

clean_few : (n : ℕ) → IsFew n → AreClean (decimal n)
clean_few n few = clean_number n (omega (arith, few))

-- A step that names one parent, which is somewhere, names no later one.
one_parent : (graph : Graph) (p service : ℕ) → Stands graph p service → (n : ℕ) × IsIn n (p ∷ []) × (length graph.steps ≤ n) → ⊥
one_parent graph p service stands (n, is, late) =
    let within = stands_within graph p service stands in
    elim is [ inl e ↦ omega (arith, within, late, e) | inr never ↦ absurd never ]

parent_few : (graph : Graph) (n p service : ℕ) → IsStage graph n → IsFew n → Stands graph p service → IsFew p
parent_few graph n p service stage few stands = let within = stands_within graph p service stands in omega (arith, within, few, stage.steps)

room : (graph : Graph) (n : ℕ) → IsStage graph n → IsFew n → STEPS_MAX ≤ length graph.steps → ⊥
room graph n stage few many = omega (arith, few, many, stage.steps)

-- ---- a branch

pub branch_follows : (graph : Graph) (n p service : ℕ) → IsStage graph n → IsFew n → Stands graph p service → MayFollow graph n (Branch p) service
branch_follows graph n p service stage few stands =
    let earlier = parent_few graph n p service stage few stands in
    record {
      step = record { service = service; act = graphs.Branch p };
      stands = refl;
      may = record {
        sound = (few_number n few, few_number p earlier);
        clean = clean_joined (codes "branch" ∷ decimal n ∷ decimal p ∷ []) (clean_word (codes "branch") refl, (clean_few n few, (clean_few p earlier, tt)));
        good = (
          (λ wrong. wrong (sym stage.steps), (one_parent graph p service stands, (λ nowhere. cc (nowhere.1), (λ h. h, (λ h. h, (λ h. h, (λ h. h, (λ h. h, (λ h. h, (room graph n stage few, (λ h. h, (λ h. h, (λ h. h, tt))))))))))))),
          (service, graphs.Branch p, stands, refl, refl),
        );
      };
    }

-- ---- a step at another service

-- The service of this name is declared.
pub goes_there : (graph : Graph) (name : List ℕ) (service : ℕ) → service_named graph name ≡ Some service → (other : List ℕ) → Some name ≡ Some other → service_named graph other ≡ None → ⊥
goes_there graph name service named other same none =
    let one : name ≡ other = cc same in let clash : Some service ≡ None = sym named ∙ ap (service_named graph) one ∙ none in cc clash

pub forward_follows : (graph : Graph) (n p from service : ℕ) (name : List ℕ) → IsStage graph n → IsFew n → Stands graph p from → IsWord name → AreClean name → service_named graph name ≡ Some service
    → MayFollow graph n (Forward p name) service
forward_follows graph n p from service name stage few stands is clean named =
    let earlier = parent_few graph n p from stage few stands in
    record {
      step = record { service = service; act = graphs.Forward p };
      stands = refl;
      may = record {
        sound = (few_number n few, (few_number p earlier, is));
        clean = clean_joined (codes "forward" ∷ decimal n ∷ decimal p ∷ name ∷ []) (clean_word (codes "forward") refl, (clean_few n few, (clean_few p earlier, (clean, tt))));
        good = (
          (λ wrong. wrong (sym stage.steps), (one_parent graph p from stands, (λ nowhere. goes_there graph name service named nowhere.0 nowhere.1 nowhere.2, (λ h. h, (λ h. h, (λ h. h, (λ h. h, (λ h. h, (λ h. h, (room graph n stage few, (λ h. h, (λ h. h, (λ h. h, tt))))))))))))),
          (service, graphs.Forward p, named, refl, refl),
        );
      };
    }

-- ---- a write

-- The first service of the load knows each slot.
knows : (graph : Graph) (n slot : ℕ) → IsStage graph n → Knows (view_at graph 0) slot
knows graph n slot stage =
    let view : view_at graph 0 ≡ views.All = ap (λ (services : List graphs.Service). view_of (slice_get services 0)) stage.services in
    subst (λ (v : View). Knows v slot) (sym view) tt

known : (graph : Graph) (n p : ℕ) (path write : List ℕ) → IsStage graph n → Stands graph p 0 → WritesUnknown load_table graph (Step n (Set p path write)) → ⊥
known graph n p path write stage stands (slot, service, finds, at, unknown) =
    let same : 0 ≡ service = (let both : Some 0 ≡ Some service = sym stands ∙ at in cc both) in
    unknown (subst (λ (s : ℕ). Knows (view_at graph s) slot) same (knows graph n slot stage))

-- The first service of the load writes in form one.
first_form : (graph : Graph) (n : ℕ) → IsStage graph n → One ≡ form_at graph 0
first_form graph n stage = sym (ap (λ (services : List graphs.Service). form_of_service (slice_get services 0)) stage.services)

written : (graph : Graph) (n p : ℕ) (path write : List ℕ) (own : ℕ) (at : SlotAt) → IsStage graph n → Stands graph p 0 → IsSlot path own at → SaysValue at.shape write
    → Miswrites load_table graph (Step n (Set p path write)) → ⊥
written graph n p path write own at stage stands slot says (other, service, found, finds, there, stood, none) =
    let same_service : 0 ≡ service = (let both : Some 0 ≡ Some service = sym stands ∙ stood in cc both) in
    let form : One ≡ form_at graph service = first_form graph n stage ∙ ap (form_at graph) same_service in
    let same = slot.only other finds in
    let here : HasSlot load_table own found = subst (λ (place : ℕ). HasSlot load_table place found) same there in
    let one : at ≡ found = (let both : Some at ≡ Some found = sym slot.there ∙ here in cc both) in
    none says.0 (subst (λ (f : Form). IsWrite f found.shape says.0 write) form (subst (λ (s : SlotAt). IsWrite One s.shape says.0 write) one says.1))

pub set_follows : (graph : Graph) (n p : ℕ) (path write : List ℕ) (slot : ℕ) (at : SlotAt) → IsStage graph n → IsFew n → Stands graph p 0
    → IsPath path → AreClean path → 0 < length write → AreClean write → IsSlot path slot at → SaysValue at.shape write → MayFollow graph n (Set p path write) 0
set_follows graph n p path write slot at stage few stands is clean some clean_too slot_is says =
    let earlier = parent_few graph n p 0 stage few stands in
    let finds : FindsSlot load_table path (Some slot) = (at, slot_is.there, slot_is.path_is) in
    record {
      step = record { service = 0; act = graphs.Set p slot says.0 };
      stands = refl;
      may = record {
        sound = (few_number n few, (few_number p earlier, is, some));
        clean = clean_joined (codes "set" ∷ decimal n ∷ decimal p ∷ path ∷ write ∷ []) (clean_word (codes "set") refl, (clean_few n few, (clean_few p earlier, (clean, (clean_too, tt)))));
        good = (
          (λ wrong. wrong (sym stage.steps), (one_parent graph p 0 stands, (λ nowhere. cc (nowhere.1), (λ h. h, (λ h. h, (λ none. none slot at slot_is.there slot_is.path_is, (known graph n p path write stage stands, (written graph n p path write slot at stage stands slot_is says, (λ h. h, (room graph n stage few, (λ h. h, (λ h. h, (λ h. h, tt))))))))))))),
          (0, graphs.Set p slot says.0, stands, (slot, says.0, (at, finds, slot_is.there, subst (λ (f : Form). IsWrite f at.shape says.0 write) (first_form graph n stage) says.1), refl), refl),
        );
      };
    }

-- ---- a join

-- All these steps are at the service.
abbrev pub AllStand : Graph → ℕ → List ℕ → Type 0
AllStand graph service steps = AllByRecursion (λ n. Stands graph n service) steps

stands_in : (graph : Graph) (service n : ℕ) (steps : List ℕ) → AllStand graph service steps → IsIn n steps → Stands graph n service
stands_in graph service n [] all is = absurd is
stands_in graph service n (m ∷ steps) all (inl e) = subst (λ (k : ℕ). Stands graph k service) (sym e) all.0
stands_in graph service n (m ∷ steps) all (inr more) = stands_in graph service n steps all.1 more

few_parents : (graph : Graph) (n service : ℕ) (steps : List ℕ) → IsStage graph n → IsFew n → AllStand graph service steps → AllByRecursion IsNumber steps
few_parents graph n service [] stage few all = tt
few_parents graph n service (m ∷ steps) stage few all = (few_number m (parent_few graph n m service stage few all.0), few_parents graph n service steps stage few all.1)

clean_parents : (graph : Graph) (n service : ℕ) (steps : List ℕ) → IsStage graph n → IsFew n → AllStand graph service steps → AllByRecursion AreClean (map decimal steps)
clean_parents graph n service [] stage few all = tt
clean_parents graph n service (m ∷ steps) stage few all = (clean_few m (parent_few graph n m service stage few all.0), clean_parents graph n service steps stage few all.1)

pub join_follows : (graph : Graph) (n service first : ℕ) (more : List ℕ) → IsStage graph n → IsFew n → AllStand graph service (first ∷ more) → length (first ∷ more) ≤ PARENTS_MAX
    → MayFollow graph n (Join (first ∷ more)) service
join_follows graph n service first more stage few all short =
    let parents = first ∷ more in
    record {
      step = record { service = service; act = graphs.Join parents };
      stands = refl;
      may = record {
        sound = (few_number n few, (omega arith, few_parents graph n service parents stage few all));
        clean = clean_joined (codes "join" ∷ decimal n ∷ map decimal parents) (clean_word (codes "join") refl, (clean_few n few, clean_parents graph n service parents stage few all));
        good = (
          (λ wrong. wrong (sym stage.steps), (late, (λ nowhere. cc (nowhere.1), (λ h. h, (apart, (λ h. h, (λ h. h, (λ h. h, (λ h. h, (room graph n stage few, (λ many. omega (arith, many, short), (λ h. h, (λ h. h, tt))))))))))))),
          (service, graphs.Join parents, all.0, refl, refl),
        );
      };
    }
  where
    late : NamesNoStep graph (Step n (Join (first ∷ more))) → ⊥
    late (m, is, behind) =
        let within = stands_within graph m service (stands_in graph service m (first ∷ more) all is) in omega (arith, within, behind)

    apart : JoinsApart graph (Step n (Join (first ∷ more))) → ⊥
    apart (a, b, p, q, differ) =
        differ (stands_in graph service a (first ∷ more) all p ∙ sym (stands_in graph service b (first ∷ more) all q))
