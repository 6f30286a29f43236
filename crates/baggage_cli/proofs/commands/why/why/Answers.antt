use Rattle.std.proofs.Common.{inl, inr, refl, subst, sym}
use Rattle.std.proofs.lemmas.Option.{slice_get_within}
use Rattle.bag_model.specs.Slots.{slots_of}
use Rattle.trace_model.specs.Runs.{Lists, IsRun}
use Rattle.baggage_cli.specs.Outcomes.{outcome_of}
use Rattle.baggage_cli.specs.Scene.{change}
use Rattle.baggage_cli.specs.Tables.{origin_of}
use Rattle.baggage_cli.specs.Why.{IsExplained, ExplainsLines, CertifiesSlot}
use Rattle.baggage_cli.proofs.Compared.{memory_came}
use Rattle.baggage_cli.proofs.Explained.{bad_explained, no_place_explained, place_explained}
use Rattle.baggage_cli.proofs.GraphInputs.{refused_text}
use Rattle.baggage_cli.proofs.TakenFirst.{no_table, no_input, lines_gave}
use Rattle.baggage_cli.proofs.commands.why.why.Goals as goal

pub returns-in_err-table : goal.returns-in_err-table
returns-in_err-table g c =
    let library = change g.L.Library.files g.L.Library.faults c.args.library.now c.obtain.new.library in
    let requests = change g.L.Library.asked g.L.Library.faults c.args.library.now c.obtain.new.library in
    let source = change g.S.Source.left g.S.Source.faults c.args.source.now c.args.source.now in
    no_table (origin_of c.args.origin) (ExplainsLines c.args.place.step c.args.place.path.now) library requests source c.in_err-table.field-0.0 c.from_residual.result c.from_residual.ensures.1 c.in_err-table.ensures (refl, refl)

pub returns-in_err-input : goal.returns-in_err-input
returns-in_err-input g c =
    let library = change g.L.Library.files g.L.Library.faults c.args.library.now c.obtain.new.library in
    let requests = change g.L.Library.asked g.L.Library.faults c.args.library.now c.obtain.new.library in
    let source = change g.S.Source.left g.S.Source.faults c.args.source.now c.read_input.new.source in
    no_input (origin_of c.args.origin) (ExplainsLines c.args.place.step c.args.place.path.now) library requests source c.in_ok-table.table c.in_err-input.field-0.0 c.from_residual-in_err-input.result c.from_residual-in_err-input.ensures.1 c.in_ok-table.ensures c.in_err-input.ensures

pub returns-in_err-graph : goal.returns-in_err-graph
returns-in_err-graph g c =
    let step = c.args.place.step in
    let path = c.args.place.path.now in
    let table = c.in_ok-table.table in
    let result = c.from_residual-in_err-graph.result in
    let library = change g.L.Library.files g.L.Library.faults c.args.library.now c.obtain.new.library in
    let requests = change g.L.Library.asked g.L.Library.faults c.args.library.now c.obtain.new.library in
    let source = change g.S.Source.left g.S.Source.faults c.args.source.now c.read_input.new.source in
    lines_gave (origin_of c.args.origin) (ExplainsLines c.args.place.step c.args.place.path.now) library requests source c.in_ok-table.table c.in_ok-input.input _ (outcome_of result) c.in_ok-table.ensures c.in_ok-input.ensures c.as_slice.ensures.value
    (bad_explained step path table _ (outcome_of result) (refused_text (IsExplained step path table) table _ result c.in_err-graph.field-0.0 c.from_residual-in_err-graph.ensures.1 c.in_err-graph.ensures.fault))

pub returns-in_err-slot : goal.returns-in_err-slot
returns-in_err-slot g c =
    let result = c.from_residual-in_err-slot.result in
    let library = change g.L.Library.files g.L.Library.faults c.args.library.now c.obtain.new.library in
    let requests = change g.L.Library.asked g.L.Library.faults c.args.library.now c.obtain.new.library in
    let source = change g.S.Source.left g.S.Source.faults c.args.source.now c.read_input.new.source in
    lines_gave (origin_of c.args.origin) (ExplainsLines c.args.place.step c.args.place.path.now) library requests source c.in_ok-table.table c.in_ok-input.input _ (outcome_of result) c.in_ok-table.ensures c.in_ok-input.ensures c.as_slice.ensures.value
    (no_place_explained c.args.place.step c.args.place.path.now c.in_ok-table.table _ c.in_ok-graph.graph c.in_err-slot.field-0.0 result c.from_residual-in_err-slot.ensures.1 c.in_ok-graph.ensures.graph c.in_err-slot.ensures.err)

pub returns-in_err-lists : goal.returns-in_err-lists
returns-in_err-lists g c =
    let library = change g.L.Library.files g.L.Library.faults c.args.library.now c.obtain.new.library in
    let requests = change g.L.Library.asked g.L.Library.faults c.args.library.now c.obtain.new.library in
    let source = change g.S.Source.left g.S.Source.faults c.args.source.now c.read_input.new.source in
    lines_gave (origin_of c.args.origin) (ExplainsLines c.args.place.step c.args.place.path.now) library requests source c.in_ok-table.table c.in_ok-input.input _ (outcome_of c.from_residual-in_err-lists.result) c.in_ok-table.ensures c.in_ok-input.ensures c.as_slice.ensures.value
    (inl (memory_came c.from_residual-in_err-lists.result c.from_residual-in_err-lists.ensures.1))

pub certificate-requires-clause-run : goal.certificate-requires-clause-run
certificate-requires-clause-run g c =
    subst (λ (lists : Lists). IsRun c.in_ok-table.table c.in_ok-graph.graph lists) (sym c.as_slice-2.ensures.value) c.in_ok-lists.ensures.run

pub certificate-requires-clause-slot : goal.certificate-requires-clause-slot
certificate-requires-clause-slot g c =
    let finds = c.in_ok-slot.ensures.ok.1 in
    slice_get_within (slots_of c.in_ok-table.table) c.in_ok-slot.slot finds.0 finds.1

pub returns : goal.returns
returns g c =
    let step = c.args.place.step in
    let path = c.args.place.path.now in
    let table = c.in_ok-table.table in
    let graph = c.in_ok-graph.graph in
    let slot = c.in_ok-slot.slot in
    let came = outcome_of c.certificate.result in
    let library = change g.L.Library.files g.L.Library.faults c.args.library.now c.obtain.new.library in
    let requests = change g.L.Library.asked g.L.Library.faults c.args.library.now c.obtain.new.library in
    let source = change g.S.Source.left g.S.Source.faults c.args.source.now c.read_input.new.source in
    lines_gave (origin_of c.args.origin) (ExplainsLines c.args.place.step c.args.place.path.now) library requests source c.in_ok-table.table c.in_ok-input.input _ came c.in_ok-table.ensures c.in_ok-input.ensures c.as_slice.ensures.value
    (elim c.certificate.ensures [
      | inl memory ↦ inl memory
      | inr gave ↦
          let certifies = subst (λ (lists : Lists). CertifiesSlot table graph lists step slot came) c.as_slice-2.ensures.value gave in
          inr (place_explained step path table _ graph c.in_ok-lists.lists.items slot came c.in_ok-graph.ensures.graph c.in_ok-lists.ensures.run c.in_ok-slot.ensures.ok certifies)
    ])
