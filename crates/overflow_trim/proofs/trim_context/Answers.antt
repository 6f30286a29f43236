use Rattle.std.proofs.Common.{◌≤◌, length, sym, ◌∙◌, ap, subst, arith}
use Rattle.context_model.specs.Trimmed.{cut_at, kept_of}
use Rattle.context_model.specs.WellFormed.{IsWellFormed}
use Rattle.context_model.proofs.Following.{IsWellFormed-cut}
use Rattle.context_model.proofs.TrimmedLaws.{kept_of-all, trimmed-fits, trimmed-cut}
use Rattle.overflow_trim.proofs.Overs.{over}
use Rattle.overflow_trim.proofs.trim_context.Goals as goal

pub returns-then-keep-len-clause-trimmed : goal.returns-then-keep-len-clause-trimmed
returns-then-keep-len-clause-trimmed c =
    let list = c.args.context.now in
    let is = c.kept-keep.ensures ∙ ap (λ l. kept_of c.args.form l c.args.budget) c.list.ensures.list in
    let long = ap length c.list-2.ensures.list in
    let more = over c.args.form list c.args.budget c.kept-keep.result is (omega arith) in
    c.cut_to_marker.ensures ∙ ap (λ n. cut_at n list) is ∙ sym (trimmed-cut c.args.form list c.args.budget more)

pub returns-then-keep-len-clause-well_formed : goal.returns-then-keep-len-clause-well_formed
returns-then-keep-len-clause-well_formed c = subst IsWellFormed (sym c.cut_to_marker.ensures) (IsWellFormed-cut c.kept-keep.result c.args.context.now c.list.ensures.well_formed)

pub returns-else-keep-len-clause-trimmed : goal.returns-else-keep-len-clause-trimmed
returns-else-keep-len-clause-trimmed c =
    let list = c.args.context.now in
    let is = c.kept-keep.ensures ∙ ap (λ l. kept_of c.args.form l c.args.budget) c.list.ensures.list in
    let long = ap length c.list-2.ensures.list in
    let all : length list ≤ kept_of c.args.form list c.args.budget = omega arith in
    sym (trimmed-fits c.args.form list c.args.budget (kept_of-all c.args.form list c.args.budget c.requires all))
