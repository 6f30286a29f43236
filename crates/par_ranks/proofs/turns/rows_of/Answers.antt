use Rattle.std.proofs.Common.{◌≡◌, ℕ, ◌+◌, ◌<◌, List, [], ◌∷◌, ◌++◌, length, set, slice_index, All, sym, ap, ◌∙◌, subst, arith}
use Rattle.std.proofs.lemmas.List.{get_or_read, length-set}
use Rattle.par_ranks.specs.Turns.{AreRows}
use Rattle.par_ranks.proofs.Turning.{rows_more}
use Rattle.par_ranks.proofs.turns.rows_of.Goals as goal

pub loop-number-preserved : goal.loop-number-preserved
loop-number-preserved c =
    let turns = c.args.turns.now in
    let rows = c.loop-number.rows.items in
    let n = c.loop-number.number in
    let turn = slice_index turns n in
    let here = c.loop-number.invariant.wide n 0 c.loop-number-test.true in
    let longer = c.in_ok-push.ensures.ok ∙ ap (λ (row : List ℕ). row ++ n ∷ []) (get_or_read rows turn c.index_mut.result.now here c.index_mut.ensures.value []) in
    record {
      wide = subst (λ (count : ℕ). All (λ t. t < count) turns) (sym (length-set rows turn c.push.new.self)) c.loop-number.invariant.wide;
      rows = subst (λ (row : List ℕ). AreRows turns (n + 1) (set rows turn row)) (sym longer) (rows_more turns n rows here c.loop-number.invariant.rows);
    }

pub returns : goal.returns
returns c =
    let all : c.loop-number.number ≡ length c.args.turns.now = omega (arith, c.loop-number-test.false, c.loop-number.auto.number-end) in
    subst (λ (m : ℕ). AreRows c.args.turns.now m c.loop-number.rows.items) all c.loop-number.invariant.rows
