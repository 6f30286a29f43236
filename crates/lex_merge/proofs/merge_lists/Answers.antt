use Rattle.std.proofs.Common.{◌≡◌, IfOk, sym, ◌∙◌, subst, arith}
use Rattle.lex_merge.proofs.Taking.{comm, all_of}
use Rattle.lex_merge.proofs.merge_lists.Goals as goal

pub returns-then-front-len : goal.returns-then-front-len
returns-then-front-len c =
    let whole = all_of c.args.a.now c.args.b.now c.common_front-front.result c.common_front-front.result c.common_front-front.ensures.first (omega arith) in
    subst (λ list. IfOk c.copy.result (λ merged. merged ≡ list)) (sym whole) c.copy.ensures

pub returns-then-front-len-2 : goal.returns-then-front-len-2
returns-then-front-len-2 c =
    let whole = all_of c.args.b.now c.args.a.now c.common_front-front.result c.common_front-front.result c.common_front-front.ensures.second (omega arith) in
    subst (λ list. IfOk c.copy-then-front-len-2.result (λ merged. merged ≡ list)) (sym whole ∙ comm c.args.b.now c.args.a.now) c.copy-then-front-len-2.ensures

pub returns-in-Greater : goal.returns-in-Greater
returns-in-Greater c = subst (λ list. IfOk c.merge_behind.result (λ merged. merged ≡ list)) (comm c.args.b.now c.args.a.now) c.merge_behind.ensures
