use Rattle.table_calls.proofs.TextLaws.{compares_by_text}
use Rattle.table_calls.proofs.evolution.evolve_into.Goals as goal

pub returns : goal.returns
returns c =
    compares_by_text c.in_ok-old.old c.in_ok-next.next c.args.old.now c.args.next.now c.args.room.now c.evolve_under.new.room _ c.in_ok-old.ensures.read c.in_ok-next.ensures.read c.evolve_under.ensures
