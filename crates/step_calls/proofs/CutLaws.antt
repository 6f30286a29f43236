-- What an update says after the cut to its budget.
use Rattle.std.proofs.Common.{◌≡◌, ◌↔◌, ℕ, List, ◌++◌, map, subst}
use Rattle.std.specs.List.{AllByRecursion}
use Rattle.context_model.specs.declared.Form.{Form}
use Rattle.context_model.specs.Atoms.{Atom}
use Rattle.context_model.specs.Ended.{IsEnded, field_path}
use Rattle.context_model.specs.Trimmed.{trimmed}
use Rattle.context_model.specs.WellFormed.{IsWellFormed}
use Rattle.bag_model.specs.Readings.{PathsOf, SaysValues}
use Rattle.bag_model.specs.Shapes.{Nodes}
use Rattle.bag_model.specs.Slots.{SlotAt}
use Rattle.bag_model.specs.SlotValues.{HasSlot, HasSlotValue, SaysSlot}
use Rattle.bag_model.specs.Tables.{IsTable}
use Rattle.bag_model.specs.Values.{Value, Values}
use Rattle.bag_model.specs.Views.{All}
use Rattle.bag_model.proofs.EachSlot.{slots_read_apart}
use Rattle.bag_model.proofs.NormalFormLaws.{normal_form_keeps}
use Rattle.bag_model.proofs.Uniqueness.{Reads-unique}
use Rattle.trace_model.specs.Graphs.{IsTypedContext}
use Rattle.trace_model.specs.Runs.{Lists}
use Rattle.trace_model.specs.Truth.{join_all}
use Rattle.trace_model.proofs.CutReadingLaws.{cuts_say_what_was_said}
use Rattle.step_calls.specs.Laws.{FitsSlot, SayEach, written_values, CutUpdatesSayJoins}
use Rattle.step_calls.specs.Lines.{Write}
use Rattle.step_calls.specs.Updates.{IsUpdateOf}
use Rattle.step_calls.proofs.JoinLaws.{updates_read_as_joins}

-- An update is well formed, as its normal form is that of a merge.
well_formed : (nodes : Nodes) (lists : Lists) (writes : List Write) (list : List Atom) → IsTable nodes → IsUpdateOf nodes lists writes list → IsWellFormed list
well_formed nodes lists writes list table u = ((normal_form_keeps).lists nodes All (u.normal).merged list table ((u.normal).merge).well_formed (u.normal).normal).well_formed

cut_says : (nodes : Nodes) (form : Form) (budget : ℕ) (lists : Lists) (said : List Values) (writes : List Write) (list : List Atom) (slot : ℕ) (at : SlotAt) (v : Value)
    → IsTable nodes → AllByRecursion (IsTypedContext nodes) lists → AllByRecursion (FitsSlot nodes) writes → SayEach nodes lists said
    → IsUpdateOf nodes lists writes list → HasSlot nodes slot at
    → IsEnded (trimmed form list budget) (field_path at.numbers) → SaysSlot (trimmed form list budget) at v
    → HasSlotValue nodes (join_all nodes (said ++ map (written_values nodes) writes)) slot v
cut_says nodes form budget lists said writes list slot at v table each fit say u there e r =
    let all : Values = join_all nodes (said ++ map (written_values nodes) writes) in
    let before : SaysSlot list at v = ((cuts_say_what_was_said).reads form list budget at.shape (field_path at.numbers) v (well_formed nodes lists writes list table u) e).0 r in
    let joined : SaysValues nodes list all = (updates_read_as_joins).says nodes lists said writes list table each fit say u in
    let own : (w : Value) × HasSlotValue nodes all slot w × SaysSlot list at w = (slots_read_apart).slot nodes list all slot at joined there in
    subst (HasSlotValue nodes all slot) (Reads-unique at.shape (PathsOf list) (field_path at.numbers) own.0 v own.2 before) own.1

pub cut_updates_say_joins : CutUpdatesSayJoins
cut_updates_say_joins = record {
  ended = λ nodes form budget lists writes list slot at table well u there e.
      ((updates_read_as_joins).ended nodes lists writes list slot at table well u there).0
      ((cuts_say_what_was_said).ended form list budget (field_path at.numbers) (well_formed nodes lists writes list table u) e);
  says = cut_says;
}
