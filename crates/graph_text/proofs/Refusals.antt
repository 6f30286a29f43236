-- Steps that are refused, and writes that are good.
use Rattle.std.proofs.Common.{◌≡◌, ◌≢◌, inl, inr, ℕ, ◌<◌, ◌≤◌, List, [], ◌∷◌, length, Some, None, refl, sym, ◌∙◌, subst, arith}
use Rattle.context_model.specs.declared.Form.{Form as WireForm}
use Rattle.context_model.specs.Orders.{IsIn}
use Rattle.bag_model.specs.Shapes.{Nodes}
use Rattle.bag_model.specs.Slots.{SlotAt, slots_of, FindsSlot}
use Rattle.bag_model.specs.SlotValues.{HasSlot}
use Rattle.bag_model.specs.Tables.{IsTable}
use Rattle.bag_model.specs.Values.{Value}
use Rattle.bag_model.specs.Views.{View, Knows}
use Rattle.bag_model.proofs.NamePathLaws.{name_paths_differ}
use Rattle.text_lines.specs.Readings.{IsFirstOf, NoneOf}
use Rattle.trace_model.specs.Graphs as graphs
use Rattle.trace_model.specs.Graphs.{Graph, form_at, view_at}
use Rattle.recorded_graph.specs.declared.graphs.TheConstants.{STEPS_MAX}
use Rattle.field_writes.specs.Writes.{IsWrite}
use Rattle.recorded_graph.specs.Graphs.{with_service}
use Rattle.graph_lines.specs.Statements.{NamedView, NamedAct, Statement, Set, Join, Step, Service}
use Rattle.graph_text.specs.declared.TheConstants.{PARENTS_MAX}
use Rattle.graph_text.specs.declared.faults.GraphCode.{GraphCode}
use Rattle.graph_text.specs.declared.faults.GraphCode.TheVariants.{NoSuchStep, WrongService, BadValue, TooManySteps, TooManyParents}
use Rattle.graph_text.specs.declared.faults.LineFault.{LineFault}
use Rattle.graph_text.specs.declared.faults.LineFault.TheVariants.{Code}
use Rattle.outside.specs.declared.answers.OrMemory.{OrMemory}
use Rattle.outside.specs.declared.answers.OrMemory.TheVariants.{Fault, Memory}
use Rattle.graph_text.specs.Names.{service_named, service_at, parents_named}
use Rattle.graph_text.specs.Rules.{MissesPath, IsMisnumbered, NamesNoStep, GoesNowhere, Redeclares, JoinsApart, NamesNoPath, WritesUnknown, Miswrites, IsOneTooMany, JoinsTooMany, StatementBreaks, graph_rules}
use Rattle.graph_text.specs.Additions.{AddService, MeansView, GrowsTo, StandsAtService, FindsKnown, IsWriteAt, IsNextStep, IsRefusedPath, IsRefusedWrite, IsRefusedNext}
use Rattle.graph_text.proofs.Meanings.{one_slot}

-- What can't hold is not broken.
no : ⊥ → ⊥
no holds = holds

-- A number that is right.
right : (n : ℕ) → (n ≢ n) → ⊥
right n ne = ne refl

-- A parent that isn't earlier.
pub no_step : (table : Nodes) (graph : Graph) (named : NamedAct) (n : ℕ) → IsIn n (parents_named named) → length graph.steps ≤ n
    → IsRefusedNext table graph named (Fault (Code NoSuchStep))
no_step table graph named n among late = inl (NoSuchStep, inr (right (length graph.steps), inl (refl, (n, among, late))), refl)

-- ---- a write at an earlier step

-- A path is that of one slot.
one_found : (table : Nodes) → IsTable table → (path : List ℕ) (i j : ℕ) → FindsSlot table path (Some i) → FindsSlot table path (Some j) → i ≡ j
one_found table is path i j (a, at, called) (b, there, named) = name_paths_differ table i j a b is at there (called ∙ sym named)

module _ (table : Nodes) (is_table : IsTable table) (graph : Graph) (parent : ℕ) (path write : List ℕ) (early : parent < length graph.steps) where
  abbrev set : Statement
  set = Step (length graph.steps) (Set parent path write)

  numbered : IsMisnumbered graph set → ⊥
  numbered = right (length graph.steps)

  stands : NamesNoStep graph set → ⊥
  stands (n, inl same, late) = absurd (omega arith)
  stands (n, inr none, late) = none

  goes : GoesNowhere graph set → ⊥
  goes (name, is, none) = cc is

  finds_some : (slot : ℕ) → FindsSlot table path (Some slot) → NamesNoPath table set → ⊥
  finds_some slot finds none = none slot finds.0 finds.1 finds.2

  -- The path is refused.
  pub path_refused : (code : GraphCode) → IsRefusedPath table graph parent path code → IsRefusedNext table graph (Set parent path write) (Fault (Code code))
  path_refused code (inl (is, none)) = inl (code, inr (numbered, inr (stands, inr (goes, inr (no, inr (no, inl (is, none)))))), refl)
  path_refused code (inr (is, unknown)) =
      inl (code, inr (numbered, inr (stands, inr (goes, inr (no, inr (no, inr (finds_some unknown.0 unknown.2, inl (is, unknown))))))), refl)

  module _ (slot : ℕ) (found : FindsKnown table graph parent path slot) where
    has_path : NamesNoPath table set → ⊥
    has_path = finds_some slot found.1

    is_known : WritesUnknown table graph set → ⊥
    is_known (other, service, also, at, unknown) =
        let same : slot ≡ other = one_found table is_table path slot other found.1 also in
        let some : Some found.0 ≡ Some service = sym found.2 ∙ at in
        let here : found.0 ≡ service = cc some in
        unknown (subst (λ s. Knows (view_at graph s) other) here (subst (Knows (view_at graph found.0)) same found.3))

    module _ (service : ℕ) (stands_at : service_at graph parent ≡ Some service) (form : WireForm) (own : form_at graph service ≡ form) where
      -- The text is refused.
      pub write_refused : (refusal : OrMemory LineFault) → IsRefusedWrite table form slot write refusal → IsRefusedNext table graph (Set parent path write) refusal
      write_refused Memory none = none
      write_refused (Fault fault) ((at, has, none), is) =
          let no_write : (v : Value) → IsWrite (form_at graph service) at.shape v write → ⊥ = λ v says. none v (subst (λ (f : WireForm). IsWrite f at.shape v write) own says) in
          let wrong : Miswrites table graph set = (slot, service, at, found.1, has, stands_at, no_write) in
          inl (BadValue, inr (numbered, inr (stands, inr (goes, inr (no, inr (no, inr (has_path, inr (is_known, inl (refl, wrong)))))))), is)

      module _ (v : Value) (says : IsWriteAt table form slot v write) where
        is_write : Miswrites table graph set → ⊥
        is_write (other, place, at, also, has, there, none) =
            let same : slot ≡ other = one_found table is_table path slot other found.1 also in
            let one : says.0 ≡ at = one_slot (slots_of table) other says.0 at (subst (λ s. HasSlot table s says.0) same says.1) has in
            let some : Some service ≡ Some place = sym stands_at ∙ there in
            let here : service ≡ place = cc some in
            let form_there : form_at graph place ≡ form = subst (λ n. form_at graph n ≡ form) here own in
            none v (subst (λ (f : WireForm). IsWrite f at.shape v write) (sym form_there) (subst (λ (a : SlotAt). IsWrite form a.shape v write) one says.2))

        -- There is no room.
        first_full : STEPS_MAX ≤ length graph.steps → IsFirstOf (StatementBreaks table graph set) graph_rules TooManySteps
        first_full most =
            inr (numbered, inr (stands, inr (goes, inr (no, inr (no, inr (has_path, inr (is_known, inr (is_write, inr (no, inl (refl, most))))))))))

        pub write_too_late : STEPS_MAX ≤ length graph.steps → IsRefusedNext table graph (Set parent path write) (Fault (Code TooManySteps))
        write_too_late most = inl (TooManySteps, first_full most, refl)

        -- The write is good.
        none_broken : length graph.steps < STEPS_MAX → NoneOf (StatementBreaks table graph set) graph_rules
        none_broken few =
            let room : IsOneTooMany graph set → ⊥ = λ most. omega arith in
            (numbered, (stands, (goes, (no, (no, (has_path, (is_known, (is_write, (no, (room, (no, (no, (no, tt)))))))))))))

        pub write_good : length graph.steps < STEPS_MAX → IsNextStep table graph (Set parent path write) (record { service = service; act = graphs.Act.Set parent slot v })
        write_good few =
            let says_write : IsWrite (form_at graph service) says.0.shape v write = subst (λ (f : WireForm). IsWrite f says.0.shape v write) (sym own) says.2 in
            (none_broken few, (service, graphs.Act.Set parent slot v, stands_at, (slot, v, (says.0, found.1, says.1, says_write), refl), refl))

-- ---- a join of earlier steps

-- It is where its first parent is.
stands_first : (graph : Graph) (service : ℕ) (parents : List ℕ) → 0 < length parents → ((n : ℕ) → IsIn n parents → service_at graph n ≡ Some service) → StandsAtService graph (Join parents) service
stands_first graph service [] some at = absurd (omega arith)
stands_first graph service (parent ∷ parents) some at = at parent (inl refl)

module _ (table : Nodes) (graph : Graph) (parents : List ℕ) (early : (n : ℕ) → IsIn n parents → n < length graph.steps) where
  abbrev join : Statement
  join = Step (length graph.steps) (Join parents)

  join_numbered : IsMisnumbered graph join → ⊥
  join_numbered = right (length graph.steps)

  join_stands : NamesNoStep graph join → ⊥
  join_stands (n, among, late) = let h = early n among in absurd (omega arith)

  join_goes : GoesNowhere graph join → ⊥
  join_goes (name, is, none) = cc is

  -- The parents are apart.
  pub join_apart : JoinsApart graph join → IsRefusedNext table graph (Join parents) (Fault (Code WrongService))
  join_apart apart = inl (WrongService, inr (join_numbered, inr (join_stands, inr (join_goes, inr (no, inl (refl, apart))))), refl)

  module _ (service : ℕ) (at : (n : ℕ) → IsIn n parents → service_at graph n ≡ Some service) where
    joined : JoinsApart graph join → ⊥
    joined (a, b, i, j, ne) = ne (at a i ∙ sym (at b j))

    -- There is no room.
    join_full : STEPS_MAX ≤ length graph.steps → IsFirstOf (StatementBreaks table graph join) graph_rules TooManySteps
    join_full most =
        inr (join_numbered, inr (join_stands, inr (join_goes, inr (no, inr (joined, inr (no, inr (no, inr (no, inr (no, inl (refl, most))))))))))

    pub join_too_late : STEPS_MAX ≤ length graph.steps → IsRefusedNext table graph (Join parents) (Fault (Code TooManySteps))
    join_too_late most = inl (TooManySteps, join_full most, refl)

    module _ (few : length graph.steps < STEPS_MAX) where
      room : IsOneTooMany graph join → ⊥
      room most = omega arith

      -- The parents are too many.
      first_many : PARENTS_MAX < length parents → IsFirstOf (StatementBreaks table graph join) graph_rules TooManyParents
      first_many many =
          inr (join_numbered, inr (join_stands, inr (join_goes, inr (no, inr (joined, inr (no, inr (no, inr (no, inr (no, inr (room, inl (refl, many)))))))))))

      pub join_too_many : PARENTS_MAX < length parents → IsRefusedNext table graph (Join parents) (Fault (Code TooManyParents))
      join_too_many many = inl (TooManyParents, first_many many, refl)

      -- The join is good.
      join_kept : length parents ≤ PARENTS_MAX → NoneOf (StatementBreaks table graph join) graph_rules
      join_kept most =
          let few_parents : JoinsTooMany join → ⊥ = λ many. omega arith in
          (join_numbered, (join_stands, (join_goes, (no, (joined, (no, (no, (no, (no, (room, (few_parents, (no, (no, tt)))))))))))))

      pub join_good : length parents ≤ PARENTS_MAX → 0 < length parents → IsNextStep table graph (Join parents) (record { service = service; act = graphs.Act.Join parents })
      join_good most some = (join_kept most, (service, graphs.Act.Join parents, stands_first graph service parents some at, refl, refl))

-- ---- a service

-- A service of a new name is declared.
is_new : (graph : Graph) (form : WireForm) (name : List ℕ) (named : NamedView) → service_named graph name ≡ None → Redeclares graph (Service form name named) → ⊥
is_new graph form name named none (n, some) = let bad : Some n ≡ None = sym some ∙ none in cc bad

no_parents : (graph : Graph) (form : WireForm) (name : List ℕ) (named : NamedView) → NamesNoStep graph (Service form name named) → ⊥
no_parents graph form name named (n, among, late) = among

pub declared : (table : Nodes) (graph : Graph) (form : WireForm) (name : List ℕ) (named : NamedView) (view : View) → service_named graph name ≡ None → (MissesPath table named → ⊥)
    → MeansView table named view → (next : Graph) → next ≡ with_service graph (record { name = name; form = form; view = view }) → GrowsTo table graph (Service form name named) next
declared table graph form name named view none finds means next is =
    let new : Redeclares graph (Service form name named) → ⊥ = is_new graph form name named none in
    let steps : NamesNoStep graph (Service form name named) → ⊥ = no_parents graph form name named in
    let kept : NoneOf (StatementBreaks table graph (Service form name named)) graph_rules =
    (no, (steps, (no, (new, (no, (finds, (no, (no, (no, (no, (no, (no, (no, tt))))))))))))) in
    (AddService (record { name = name; form = form; view = view }), (kept, (view, means, refl)), is)
