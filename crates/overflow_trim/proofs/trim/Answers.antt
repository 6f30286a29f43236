use Rattle.std.proofs.Common.{◌≤◌, length, sym, ◌∙◌, ap, arith}
use Rattle.context_model.specs.Trimmed.{cut_at, kept_of}
use Rattle.context_model.proofs.TrimmedLaws.{kept_of-all, trimmed-fits, trimmed-cut}
use Rattle.overflow_trim.proofs.Overs.{over}
use Rattle.overflow_trim.proofs.trim.Goals as goal

pub returns-then-keep-len : goal.returns-then-keep-len
returns-then-keep-len c =
    let form = c.args.form in
    let list = c.args.list.now in
    let more = over form list c.args.budget c.kept-keep.result c.kept-keep.ensures (omega arith) in
    c.cut_to_marker.ensures ∙ ap (λ n. cut_at n list) c.kept-keep.ensures ∙ sym (trimmed-cut form list c.args.budget more)

pub returns-else-keep-len : goal.returns-else-keep-len
returns-else-keep-len c =
    let form = c.args.form in
    let list = c.args.list.now in
    let all : length list ≤ kept_of form list c.args.budget = omega arith in
    sym (trimmed-fits form list c.args.budget (kept_of-all form list c.args.budget c.requires all))
