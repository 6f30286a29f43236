use Rattle.bdl_lexer.proofs.Walk.{taken}
use Rattle.bdl_lexer.proofs.lexer.Lexer.piece.Goals as goal

pub returns-clause-piece : goal.returns-clause-piece
returns-clause-piece c =
    taken c.in-Ok.found.class c.in-Ok.found.len c.args.self.now.rest.now c.skip.new.self.rest.now c.args.self.now.place c.skip.new.self.place c.token.result c.in-Ok.ensures.found c.skip.ensures.rest c.skip.ensures.place c.token.ensures
