use Rattle.std.proofs.Common.{◌≡◌, ◌++◌, ◌+◌, ◌-◌, ◌≤◌, length, length-append, take, rules, arith}
use Rattle.outside.proofs.Fronts.{kept_front, more_front, on_err}
use Rattle.outside.proofs.transfers.read_all.Goals as goal

pub returns-in_err-count-clause-kept : goal.returns-in_err-count-clause-kept
returns-in_err-count-clause-kept g c =
    let read = c.loop-buffer.invariant in
    let front = c.loop-buffer.bytes.items in
    on_err _ c.from_residual.result (front, read.fits, kept_front _ _ _ front read.read c.in_err-count.ensures.bytes)

pub returns-in_err-extend_from_slice-clause-kept : goal.returns-in_err-extend_from_slice-clause-kept
returns-in_err-extend_from_slice-clause-kept g c =
    let front = c.loop-buffer.bytes.items in
    let more = take c.in_ok-count.count c.read.new.into in
    let count : c.in_ok-count.count ≡ length more = c.in_ok-count.ensures.bound.1 in
    let whole : length (front ++ more) ≡ length front + length more = length-append front more in
    let room : c.in_ok-count.count ≤ c.args.limit + 1 - length front = search rules in
    let fits : length (front ++ more) ≤ c.args.limit + 1 = omega (arith, count, whole, room, c.loop-buffer.invariant.fits) in
    on_err _ c.from_residual-in_err-extend_from_slice.result (front ++ more, fits, more_front _ _ _ front more c.loop-buffer.invariant.read c.in_ok-count.ensures.bytes.0)
