use Rattle.std.proofs.Common.{length}
use Rattle.std.specs.Str.{IsUtf8}
use Rattle.bdl_lexer.proofs.Walk.{LexedTo}
use Rattle.bdl_lexer.proofs.lex.Given as goal

abbrev pub invariant-loop-lexer : goal.invariant-loop-lexer
invariant-loop-lexer l = record {
  text : IsUtf8 l.source;
  so_far : LexedTo l.source l.tokens.items l.lexer.rest.now l.lexer.place;
}

abbrev pub decreases-loop-lexer : goal.decreases-loop-lexer
decreases-loop-lexer l = length l.lexer.rest.now
