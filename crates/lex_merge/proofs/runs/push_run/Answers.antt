use Rattle.lex_merge.proofs.Taking.{room_first, goes_on}
use Rattle.lex_merge.proofs.runs.push_run.Goals as goal

pub push_run-requires-clause-byte_room : goal.push_run-requires-clause-byte_room
push_run-requires-clause-byte_room c =
    room_first c.args.a.now c.args.i c.args.b.now c.args.j c.args.built.now c.run_behind-next.result.0 c.run_behind-next.result.1 c.requires.room c.run_behind-next.ensures.run

pub returns-clause-on : goal.returns-clause-on
returns-clause-on c =
    goes_on c.args.a.now c.args.i c.args.b.now c.args.j c.args.built.now c.push_run.new.self c.run_behind-next.result.0 c.run_behind-next.result.1 c.requires.room c.run_behind-next.ensures.run
    c.push_run.ensures.atoms c.push_run.ensures.byte_room c.push_run.ensures.atom_room
