use Rattle.std.proofs.Common.{◌≡◌, inl, inr, ℕ, List, Ok, refl, subst}
use Rattle.write_proof.specs.Verdicts.{IsVerdictOf}
use Rattle.baggage_cli.specs.Outcomes.{outcome_of}
use Rattle.baggage_cli.specs.Scene.{change, Halfway}
use Rattle.baggage_cli.specs.Tables.{compiled}
use Rattle.baggage_cli.specs.Verify.{IsVerified, VerifiesLines}
use Rattle.baggage_cli.proofs.Compared.{memory_came}
use Rattle.baggage_cli.proofs.GraphInputs.{refused_text, graph_gave}
use Rattle.baggage_cli.proofs.TakenFirst.{no_first, no_file, no_input_beside, lines_gave_beside}
use Rattle.baggage_cli.proofs.commands.verify.verify.Goals as goal

pub returns-in_err-table : goal.returns-in_err-table
returns-in_err-table g c =
    let library = change g.L.Library.files g.L.Library.faults c.args.library.now c.obtain.new.library in
    let requests = change g.L.Library.asked g.L.Library.faults c.args.library.now c.obtain.new.library in
    let source = change g.S.Source.left g.S.Source.faults c.args.source.now c.args.source.now in
    no_first (compiled c.args.file.now c.args.bag.now) c.args.certificate.now VerifiesLines library requests source c.in_err-table.field-0.0 c.from_residual.result c.from_residual.ensures.1 c.in_err-table.ensures (refl, refl)

pub returns-in_err-text : goal.returns-in_err-text
returns-in_err-text g c =
    let library = change g.L.Library.files g.L.Library.faults c.args.library.now c.bring.new.library in
    let requests = change g.L.Library.asked g.L.Library.faults c.args.library.now c.bring.new.library in
    let source = change g.S.Source.left g.S.Source.faults c.args.source.now c.args.source.now in
    let half : Halfway = record { files = g.L.Library.files c.obtain.new.library; asked = g.L.Library.asked c.obtain.new.library; faults = g.L.Library.faults c.obtain.new.library } in
    no_file (compiled c.args.file.now c.args.bag.now) c.args.certificate.now VerifiesLines library requests source half c.in_ok-table.table c.in_ok-table.ensures c.in_err-text.field-0.0 c.from_residual-in_err-text.result c.from_residual-in_err-text.ensures.1 c.in_err-text.ensures (refl, refl)

pub returns-in_err-input : goal.returns-in_err-input
returns-in_err-input g c =
    let library = change g.L.Library.files g.L.Library.faults c.args.library.now c.bring.new.library in
    let requests = change g.L.Library.asked g.L.Library.faults c.args.library.now c.bring.new.library in
    let source = change g.S.Source.left g.S.Source.faults c.args.source.now c.read_input.new.source in
    let half : Halfway = record { files = g.L.Library.files c.obtain.new.library; asked = g.L.Library.asked c.obtain.new.library; faults = g.L.Library.faults c.obtain.new.library } in
    no_input_beside (compiled c.args.file.now c.args.bag.now) c.args.certificate.now VerifiesLines library requests source half c.in_ok-table.table c.in_ok-table.ensures c.in_ok-text.text.items c.in_err-input.field-0.0 c.from_residual-in_err-input.result c.from_residual-in_err-input.ensures.1 c.in_ok-text.ensures c.in_err-input.ensures

pub returns-in_err-graph : goal.returns-in_err-graph
returns-in_err-graph g c =
    let library = change g.L.Library.files g.L.Library.faults c.args.library.now c.bring.new.library in
    let requests = change g.L.Library.asked g.L.Library.faults c.args.library.now c.bring.new.library in
    let source = change g.S.Source.left g.S.Source.faults c.args.source.now c.read_input.new.source in
    let half : Halfway = record { files = g.L.Library.files c.obtain.new.library; asked = g.L.Library.asked c.obtain.new.library; faults = g.L.Library.faults c.obtain.new.library } in
    lines_gave_beside (compiled c.args.file.now c.args.bag.now) c.args.certificate.now VerifiesLines library requests source half c.in_ok-table.table c.in_ok-table.ensures c.in_ok-text.text.items c.in_ok-input.input _ (outcome_of c.from_residual-in_err-graph.result) c.in_ok-text.ensures c.in_ok-input.ensures c.as_slice.ensures.value
    (refused_text (IsVerified c.in_ok-table.table c.in_ok-text.text.items) c.in_ok-table.table _ c.from_residual-in_err-graph.result c.in_err-graph.field-0.0 c.from_residual-in_err-graph.ensures.1 c.in_err-graph.ensures.fault)

pub returns-in_err-verdict : goal.returns-in_err-verdict
returns-in_err-verdict g c =
    let library = change g.L.Library.files g.L.Library.faults c.args.library.now c.bring.new.library in
    let requests = change g.L.Library.asked g.L.Library.faults c.args.library.now c.bring.new.library in
    let source = change g.S.Source.left g.S.Source.faults c.args.source.now c.read_input.new.source in
    let half : Halfway = record { files = g.L.Library.files c.obtain.new.library; asked = g.L.Library.asked c.obtain.new.library; faults = g.L.Library.faults c.obtain.new.library } in
    lines_gave_beside (compiled c.args.file.now c.args.bag.now) c.args.certificate.now VerifiesLines library requests source half c.in_ok-table.table c.in_ok-table.ensures c.in_ok-text.text.items c.in_ok-input.input _ (outcome_of c.from_residual-in_err-verdict.result) c.in_ok-text.ensures c.in_ok-input.ensures c.as_slice.ensures.value
    (inl (memory_came c.from_residual-in_err-verdict.result c.from_residual-in_err-verdict.ensures.1))

pub returns-in_err-verified_line : goal.returns-in_err-verified_line
returns-in_err-verified_line g c =
    let library = change g.L.Library.files g.L.Library.faults c.args.library.now c.bring.new.library in
    let requests = change g.L.Library.asked g.L.Library.faults c.args.library.now c.bring.new.library in
    let source = change g.S.Source.left g.S.Source.faults c.args.source.now c.read_input.new.source in
    let half : Halfway = record { files = g.L.Library.files c.obtain.new.library; asked = g.L.Library.asked c.obtain.new.library; faults = g.L.Library.faults c.obtain.new.library } in
    lines_gave_beside (compiled c.args.file.now c.args.bag.now) c.args.certificate.now VerifiesLines library requests source half c.in_ok-table.table c.in_ok-table.ensures c.in_ok-text.text.items c.in_ok-input.input _ (outcome_of c.from_residual-in_err-verified_line.result) c.in_ok-text.ensures c.in_ok-input.ensures c.as_slice.ensures.value
    (inl (memory_came c.from_residual-in_err-verified_line.result c.from_residual-in_err-verified_line.ensures.1))

pub returns : goal.returns
returns g c =
    let table = c.in_ok-table.table in
    let text = c.in_ok-text.text.items in
    let graph = c.in_ok-graph.graph in
    let line = c.in_ok-verified_line.field-0.items in
    let right = subst (λ (bytes : List ℕ). IsVerdictOf table graph bytes c.in_ok-verdict.verdict) c.as_slice-2.ensures.value c.in_ok-verdict.ensures.verdict in
    let library = change g.L.Library.files g.L.Library.faults c.args.library.now c.bring.new.library in
    let requests = change g.L.Library.asked g.L.Library.faults c.args.library.now c.bring.new.library in
    let source = change g.S.Source.left g.S.Source.faults c.args.source.now c.read_input.new.source in
    let half : Halfway = record { files = g.L.Library.files c.obtain.new.library; asked = g.L.Library.asked c.obtain.new.library; faults = g.L.Library.faults c.obtain.new.library } in
    lines_gave_beside (compiled c.args.file.now c.args.bag.now) c.args.certificate.now VerifiesLines library requests source half c.in_ok-table.table c.in_ok-table.ensures c.in_ok-text.text.items c.in_ok-input.input _ (Ok line) c.in_ok-text.ensures c.in_ok-input.ensures c.as_slice.ensures.value
    (inr (graph_gave (IsVerified table text) table _ graph line c.in_ok-graph.ensures.graph (c.in_ok-verdict.verdict, right, c.in_ok-verified_line.ensures)))
