-- The certificate of a slot at a step, or why there is none.
use Rattle.std.proofs.Common.{◌≡◌, ◌↔◌, inl, inr, ℕ, ◌<◌, List, [], length, get_or, Result, Ok, Err, refl, sym, ap, subst}
use Rattle.std.proofs.lemmas.Option.{slice_get-get_or}
use Rattle.std.specs.Global.{Vec}
use Rattle.std.specs.Result.{IsErrAnd}
use Rattle.context_model.specs.Atoms.{Atom}
use Rattle.context_model.specs.Ended.{IsEnded, field_path}
use Rattle.bag_model.specs.Shapes.{Nodes, Taint}
use Rattle.bag_model.specs.Slots.{SlotAt, slots_of}
use Rattle.bag_model.specs.SlotValues.{HasSlot}
use Rattle.bag_scan.specs.declared.states.State.{State}
use Rattle.bag_scan.specs.declared.states.State.TheVariants.{Exact}
use Rattle.graph_text.specs.Reading.{IsGraphOf}
use Rattle.text_lines.specs.Lines.{lines_of}
use Rattle.trace_model.specs.Graphs.{Graph}
use Rattle.trace_model.specs.Runs.{Lists, list_at, IsRun}
use Rattle.write_proof.specs.Certificates.{IsEndedAt}
use Rattle.baggage_cli.specs.declared.refusals.Refusal.{Refusal}
use Rattle.baggage_cli.specs.Why.{IsPlace, IsNoPlace, IsPartial, CertifiesSlot, IsExplained, ExplainsLines}
use Rattle.baggage_cli.specs.Outcomes.{Outcome, outcome_of, OrMemory}
use Rattle.baggage_cli.specs.Run.{GraphGives}
use Rattle.baggage_cli.proofs.GraphInputs.{inputs_say, graph_gave}

module _ (table : Nodes) (lists : Lists) (step slot : ℕ) (list : List Atom) (is : list_at lists step ≡ list) (state : State)
    (tells : (at : SlotAt) → HasSlot table slot at → (state ≡ Exact) ↔ IsEnded list (field_path at.numbers)) where
  -- A slot that is said to be exact is ended.
  pub exact_ended : state ≡ Exact → IsEndedAt table lists step slot
  exact_ended exact = λ at there. subst (λ l. IsEnded l (field_path at.numbers)) (sym is) ((tells at there).0 exact)

  -- One that isn't isn't.
  pub partial_unended : slot < length (slots_of table) → (state ≡ Exact → ⊥) → IsEndedAt table lists step slot → ⊥
  partial_unended within partial ended =
      let none : SlotAt = record { names = []; numbers = []; shape = Taint } in
      let at = get_or (slots_of table) slot none in
      let there : HasSlot table slot at = slice_get-get_or (slots_of table) slot none within in
      partial ((tells at there).1 (subst (λ l. IsEnded l (field_path at.numbers)) is (ended at there)))

module _ (step : ℕ) (path : List ℕ) (table : Nodes) (text : List ℕ) where
  -- What is wrong with a line of a graph is refused.
  pub bad_explained : (outcome : Outcome) → OrMemory (GraphGives table (IsExplained step path table) (lines_of text)) outcome → OrMemory (ExplainsLines step path table (lines_of text)) outcome
  bad_explained outcome (inl wanting) = inl wanting
  bad_explained outcome (inr gave) = inr (inl gave)

  -- What there isn't in the graph is refused.
  pub no_place_explained : (graph : Graph) (refusal : Refusal) (result : Result (Vec ℕ) Refusal) → IsErrAnd result (λ other. other ≡ refusal) → IsGraphOf table text graph
      → IsNoPlace table graph step path refusal → OrMemory (ExplainsLines step path table (lines_of text)) (outcome_of result)
  no_place_explained graph refusal (Ok output) is says none = absurd is
  no_place_explained graph refusal (Err other) is (every, all, graph_is) none =
      inr (inr (every, refusal, inputs_say table [] (lines_of text) every all, inl (subst (λ g. IsNoPlace table g step path refusal) graph_is none), ap Err is))

  -- What a place gives is what the lines come to.
  pub place_explained : (graph : Graph) (lists : Lists) (slot : ℕ) (outcome : Outcome) → IsGraphOf table text graph → IsRun table graph lists → IsPlace table graph step path slot
      → CertifiesSlot table graph lists step slot outcome → ExplainsLines step path table (lines_of text) outcome
  place_explained graph lists slot (Ok output) says ran place (ended, certificate, verifies) =
      inl (graph_gave (IsExplained step path table) table text graph output says
      (lists, slot, record { run = ran; place = place; ended = ended; certificate = certificate; verifies = verifies }))
  place_explained graph lists slot (Err refusal) (every, all, graph_is) ran place (unended, refused) =
      inr (every, refusal, inputs_say table [] (lines_of text) every all, inr (subst (λ g. IsPartial table g step path refusal) graph_is (lists, slot, ran, place, unended, refused)), refl)
