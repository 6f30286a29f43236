use Rattle.std.proofs.Common.{ℕ, true, false, List, ◌∷◌, ◌++◌, rules}
use Rattle.scalar_types.specs.Escapes.{IsEscapedRun, FitsOpen}
use Rattle.scalar_types.proofs.EscapeLaws.{last_begins, open_piece, open_more, open_follows}
use Rattle.scalar_types.proofs.escapes.skip_ended.Goals as goal

pub returns-then-not-fits_open-clause-none : goal.returns-then-not-fits_open-clause-none
returns-then-not-fits_open-clause-none c =
    let run : List ℕ = c.in-Some.piece.run.now in
    let after : List ℕ = c.in-Some.piece.rest.now in
    let piece : IsEscapedRun c.loop-piece.rest.now run c.in-Some.piece.last after = search rules in
    let invalid : FitsOpen c.args.is_text run → ⊥ = search (rules, c.if-not-fits_open.ensures) in
    λ _ b. invalid (open_piece c.args.is_text c.in-Some.piece.last c.loop-piece.rest.now run after piece (c.loop-piece.invariant.forth b))

pub returns-then-piece-clause-found : goal.returns-then-piece-clause-found
returns-then-piece-clause-found c =
    let run : List ℕ = c.in-Some.piece.run.now in
    let after : List ℕ = c.in-Some.piece.rest.now in
    let piece : IsEscapedRun c.loop-piece.rest.now run true after = search rules in
    let valid : FitsOpen c.args.is_text run = search (rules, c.if-not-fits_open.ensures) in
    c.loop-piece.invariant.back run after record { fit = valid; same = last_begins c.loop-piece.rest.now run after piece }

pub loop-piece-preserved : goal.loop-piece-preserved
loop-piece-preserved c =
    let run : List ℕ = c.in-Some.piece.run.now in
    let after : List ℕ = c.in-Some.piece.rest.now in
    let piece : IsEscapedRun c.loop-piece.rest.now run false after = search rules in
    let valid : FitsOpen c.args.is_text run = search (rules, c.if-not-fits_open.ensures) in
    record {
      back = λ v t b. c.loop-piece.invariant.back (run ++ 0 ∷ v) t (open_more c.args.is_text c.loop-piece.rest.now run after piece valid v t b);
      forth = λ b. open_follows c.args.is_text c.loop-piece.rest.now run after piece (c.loop-piece.invariant.forth b);
    }
