use Rattle.graph_lines.proofs.Behind.{from_step_read}
use Rattle.graph_lines.proofs.reading.read_words.Goals as goal

pub returns-in_default-first : goal.returns-in_default-first
returns-in_default-first c =
    from_step_read c.args.text.now c.in-Some.first.now c.in-Some.rest.now c.in-Some.ensures.0 c.in-Some.ensures.1 c.in_default-first.not-service c.in_default-first.not-service2 c.in_default-first.not-show c.read_step.result c.read_step.ensures
