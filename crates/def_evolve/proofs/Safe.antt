-- Contexts of an old table are safe under a new one that fits.
use Rattle.std.proofs.Common.{◌≡◌, ℕ, List, [], Some, sym, ◌∙◌, subst}
use Rattle.context_model.specs.Atoms.{Atom}
use Rattle.context_model.specs.Orders.{Path}
use Rattle.context_model.specs.Paths.{paths}
use Rattle.context_model.specs.Ended.{IsEnded, field_path}
use Rattle.bag_model.specs.Shapes.{Nodes, Bag}
use Rattle.bag_model.specs.Tables.{IsTable}
use Rattle.bag_model.specs.Values.{Value}
use Rattle.bag_model.specs.Slots.{SlotAt}
use Rattle.bag_model.specs.SlotValues.{HasSlot, HasSlotValue, SaysSlot}
use Rattle.bag_model.specs.Readings.{PathsOf, Reads}
use Rattle.bag_model.specs.Encodings.{IsForeign}
use Rattle.bag_model.proofs.Existence.{Reads-all}
use Rattle.bag_model.proofs.IllTyped.{typed_where_none_misspells}
use Rattle.bag_model.proofs.MergeReadingLaws.{PathsOf-headers}
use Rattle.trace_model.specs.Graphs.{Graph, IsTypedContext}
use Rattle.trace_model.specs.Runs.{Lists, list_at}
use Rattle.trace_model.specs.Truth.{IsTruthAt}
use Rattle.trace_model.specs.Faithful.{IsRunStep, IsFaithful}
use Rattle.trace_model.proofs.FaithfulLaws.{runs_are_faithful}
use Rattle.trace_model.proofs.SlotParts.{slot_typed}
use Rattle.trace_model.proofs.TruthLaws.{has_one_truth}
use Rattle.def_evolve.specs.Breaks.{IsFitting}
use Rattle.def_evolve.specs.Agreement.{Agree}
use Rattle.def_evolve.specs.Evolution.{IsCommonSlot, IsSafe}
use Rattle.def_evolve.proofs.Agreement.{agree_at}
use Rattle.def_evolve.proofs.ForBoth.{typed_for_both}
use Rattle.def_evolve.proofs.CommonSlots.{slot_fits}
use Rattle.def_evolve.proofs.Clean.{clean_in, SomeMisspells-plain}

module _ (old new : Nodes) (before : IsTable old) (behind : IsTable new) (fits : IsFitting old new) where
  agree_in : (list : List Atom) (a b : SlotAt) (v w : Value) → IsTypedContext old list → IsCommonSlot old new a b → SaysSlot list a v → SaysSlot list b w → Agree a.shape b.shape v w
  agree_in list a b v w context common r s =
      agree_at a.shape b.shape (PathsOf list) (field_path a.numbers) (slot_fits old new a b fits common) (slot_typed old (PathsOf list) [] a common.before context.typed) v w r
      (subst (λ numbers. Reads b.shape (PathsOf list) (field_path numbers) w) (sym common.one) s)

  one_value : (graph : Graph) (n slot : ℕ) (v w : Value) → IsTruthAt old graph n slot v → IsTruthAt old graph n slot w → v ≡ w
  one_value graph n slot v w s t =
      let same : s.truth ≡ t.truth = has_one_truth.one old graph n s.truth t.truth s.is t.is in
      let first : HasSlotValue old t.truth slot v = subst (λ vs. HasSlotValue old vs slot v) same s.there in
      let some : Some v ≡ Some w = sym first ∙ t.there in
      cc

  truth_agrees : (graph : Graph) (lists : Lists) (n slot : ℕ) (a b : SlotAt) (v w : Value) → IsRunStep old graph lists n → HasSlot old slot a → IsCommonSlot old new a b
      → IsEnded (list_at lists n) (field_path a.numbers) → IsTruthAt old graph n slot v → SaysSlot (list_at lists n) b w → Agree a.shape b.shape v w
  truth_agrees graph lists n slot a b v w step there common ended truth s =
      let faithful : IsFaithful old graph lists n = runs_are_faithful old graph lists n step in
      let said = Reads-all a.shape (paths (list_at lists n)) (field_path a.numbers) in
      let same : said.0 ≡ v = one_value graph n slot said.0 v (faithful.exact slot a said.0 there said.1 ended) truth in
      subst (λ u. Agree a.shape b.shape u w) same
      (agree_in (list_at lists n) a b said.0 w (record { well_formed = faithful.well_formed; typed = faithful.typed }) common said.1 s)

  clean_list : (list : List Atom) → IsTypedContext old list → ((p : Path) → IsForeign old list p → ⊥) → IsTypedContext new list
  clean_list list context none = record {
    well_formed = context.well_formed;
    typed = (typed_where_none_misspells new list).1 (λ p i m. none p (
      i,
      SomeMisspells-plain new [] p m,
      λ used. clean_in old new (PathsOf list) [] p (PathsOf-headers list) before.well_formed behind.well_formed fits context.typed i used m,
    ));
  }

  pub is_safe : IsSafe old new
  is_safe = record {
    spelled = λ list context. typed_for_both (Bag old) (Bag new) (PathsOf list) [] fits context.typed;
    ended = λ list a b common. (
      subst (λ numbers. IsEnded list (field_path numbers)) common.one,
      subst (λ numbers. IsEnded list (field_path numbers)) (sym common.one),
    );
    agree = agree_in;
    says = λ list b i. Reads-all b.shape (paths list) (field_path b.numbers);
    clean = clean_list;
    truths = truth_agrees;
  }
