use Rattle.std.proofs.Common.{◌≡◌, ℕ, true, false, List, [], ◌∷◌, ◌++◌, ap, ◌∙◌, subst, rules}
use Rattle.bag_model.specs.Scalars.{terminated}
use Rattle.scalar_types.specs.Escapes.{IsEscapedRun}
use Rattle.scalar_types.proofs.EscapeLaws.{IsFollowed, last_begins, followed_more, follows_more}
use Rattle.scalar_types.proofs.escapes.take_ended.Goals as goal

pub returns-then-piece-clause-taken : goal.returns-then-piece-clause-taken
returns-then-piece-clause-taken c =
    let run : List ℕ = c.in-Some.piece.run.now in
    let after : List ℕ = c.in-Some.piece.rest.now in
    let piece : IsEscapedRun c.loop-piece.rest.now run true after = search rules in
    record { fit = tt; same = ap (λ l. terminated l ++ after) (search rules) ∙ c.loop-piece.invariant.back run after (last_begins c.loop-piece.rest.now run after piece) }

pub loop-piece-preserved : goal.loop-piece-preserved
loop-piece-preserved c =
    let run : List ℕ = c.in-Some.piece.run.now in
    let after : List ℕ = c.in-Some.piece.rest.now in
    let piece : IsEscapedRun c.loop-piece.rest.now run false after = search rules in
    let grown : (c.loop-piece.field.items ++ run) ++ 0 ∷ [] ≡ c.push.new.self.items = search rules in
    record {
      back = subst (λ l. IsFollowed c.args.bytes.now l after) grown (followed_more c.args.bytes.now c.loop-piece.field.items c.loop-piece.rest.now run after c.loop-piece.invariant.back piece);
      forth = λ b. follows_more c.loop-piece.rest.now run after piece (c.loop-piece.invariant.forth b);
    }
