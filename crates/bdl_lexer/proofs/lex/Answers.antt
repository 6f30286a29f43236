use Rattle.std.proofs.Common.{List, ◌++◌, arith, ◌∙◌, sym, ap, subst, append-nil}
use Rattle.std.specs.Option.{option_to_list}
use Rattle.bdl_lexer.specs.declared.Token.{Token}
use Rattle.bdl_lexer.specs.Tokens.{AreTokensOf}
use Rattle.bdl_lexer.proofs.Spans.{tokens_lie, tokens_in_order}
use Rattle.bdl_lexer.proofs.Walk.{LexedTo, lexed_more, lexed_all}
use Rattle.bdl_lexer.proofs.lex.Goals as goal
use Rattle.bdl_lexer.proofs.lex.Goals.{After-loop-lexer}

-- a blank or a comment
pub loop-lexer-preserved : goal.loop-lexer-preserved
loop-lexer-preserved c =
    let before : List Token = c.loop-lexer.tokens.items in
    let step = lexed_more c.args.source.now before c.loop-lexer.lexer.rest.now c.piece.new.self.rest.now c.loop-lexer.lexer.place c.piece.new.self.place c.in_ok-token.field-0 c.loop-lexer.invariant.so_far c.in_ok-token.ensures.piece in
    record {
      text = c.loop-lexer.invariant.text;
      so_far = subst (λ (ts : List Token). LexedTo c.args.source.now ts c.piece.new.self.rest.now c.piece.new.self.place) (ap (λ a. before ++ option_to_list a) c.in_default-2.is ∙ append-nil before) step;
    }

-- a token
pub loop-lexer-preserved-in-Continue-branch-3 : goal.loop-lexer-preserved-in-Continue-branch-3
loop-lexer-preserved-in-Continue-branch-3 c =
    let before : List Token = c.loop-lexer.tokens.items in
    let step = lexed_more c.args.source.now before c.loop-lexer.lexer.rest.now c.piece.new.self.rest.now c.loop-lexer.lexer.place c.piece.new.self.place c.in_ok-token.field-0 c.loop-lexer.invariant.so_far c.in_ok-token.ensures.piece in
    record {
      text = c.loop-lexer.invariant.text;
      so_far = subst (λ (ts : List Token). LexedTo c.args.source.now ts c.piece.new.self.rest.now c.piece.new.self.place) (ap (λ a. before ++ option_to_list a) c.in-Some.is ∙ sym c.in_ok-push.ensures.items) step;
    }

tokens_of : (c : After-loop-lexer) → AreTokensOf c.args.source.now c.loop-lexer.tokens.items
tokens_of c =
    lexed_all c.args.source.now c.loop-lexer.tokens.items c.loop-lexer.lexer.rest.now c.loop-lexer.lexer.place c.loop-lexer.invariant.text c.loop-lexer.invariant.so_far (grind arith)

pub returns-clause-lie : goal.returns-clause-lie
returns-clause-lie c = tokens_lie c.args.source.now c.loop-lexer.tokens.items (tokens_of c)

pub returns-clause-order : goal.returns-clause-order
returns-clause-order c = tokens_in_order c.args.source.now c.loop-lexer.tokens.items (tokens_of c)
