use Rattle.std.proofs.Common.{◌≡◌, sym, ◌∙◌, arith, rules}
use Rattle.context_model.specs.Paths.{atom_at}
use Rattle.lex_merge.proofs.Taking.{run_equal, tied}
use Rattle.lex_merge.proofs.runs.common_front.Goals as goal

pub loop-at-preserved : goal.loop-at-preserved
loop-at-preserved c =
    let a = c.args.a.now in
    let b = c.args.b.now in
    let at = c.loop-at.at in
    let bytes : c.atom.result.now ≡ c.atom-in-loop-at.result.now = search rules in
    let same : atom_at a at ≡ atom_at b at = sym c.atom.ensures ∙ bytes ∙ c.atom-in-loop-at.ensures in
    record {
      first = run_equal a 0 b 0 at at c.loop-at.invariant.first (omega arith) (omega arith) (tied _ _ same);
      second = run_equal b 0 a 0 at at c.loop-at.invariant.second (omega arith) (omega arith) (tied _ _ (sym same));
    }
