use Rattle.baggage_cli.proofs.Loads.{load_not_refused}
use Rattle.baggage_cli.proofs.commands.load.load_graph.Goals as goal

-- The text of a load says a graph, and so has no fault.
pub unreachable-requires : goal.unreachable-requires
unreachable-requires c =
    let fault = c.in-Err-At in
    load_not_refused c.texts_have_one_graph.ensures.never_both c.loads_are_accepted.ensures c.args.rounds c.args.table.now c.args.text.now fault.field-0 c.requires.some c.requires.few c.requires.table c.requires.text fault.ensures.fault
    (λ wanting. cc (fault.field-0-is, wanting))

pub unreachable-requires-in-Err-Bytes : goal.unreachable-requires-in-Err-Bytes
unreachable-requires-in-Err-Bytes c =
    let fault = c.in-Err-Bytes in
    load_not_refused c.texts_have_one_graph.ensures.never_both c.loads_are_accepted.ensures c.args.rounds c.args.table.now c.args.text.now fault.field-0 c.requires.some c.requires.few c.requires.table c.requires.text fault.ensures.fault
    (λ wanting. cc (fault.field-0-is, wanting))

pub unreachable-requires-in-Err-IllTyped : goal.unreachable-requires-in-Err-IllTyped
unreachable-requires-in-Err-IllTyped c =
    let fault = c.in-Err-IllTyped in
    load_not_refused c.texts_have_one_graph.ensures.never_both c.loads_are_accepted.ensures c.args.rounds c.args.table.now c.args.text.now fault.field-0 c.requires.some c.requires.few c.requires.table c.requires.text fault.ensures.fault
    (λ wanting. cc (fault.field-0-is, wanting))
