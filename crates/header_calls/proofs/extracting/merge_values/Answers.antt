use Rattle.std.proofs.Common.{◌≡◌, ℕ, length, ap, ◌∙◌, arith}
use Rattle.byte_calls.specs.Spans.{inputs_of}
use Rattle.header_calls.specs.Extracting.{lost_among}
use Rattle.header_calls.proofs.Readings.{extract_of}
use Rattle.header_calls.proofs.extracting.merge_values.Goals as goal

pub returns : goal.returns
returns c =
    let contexts = c.in_ok-contexts.contexts.items in
    let n = c.in_ok-contexts.parts in
    let len : c.len.result ≡ length contexts = omega arith in
    let gone : c.lost_among-lost.result ≡ lost_among c.args.absent n (length contexts) = c.lost_among-lost.ensures ∙ ap (lost_among c.args.absent n) len in
    extract_of c.args.absent (inputs_of c.args.values.now) contexts c.in_ok-with_lost.field-0.items n c.lost_among-lost.result c.in_ok-context.context
    c.in_ok-contexts.ensures gone c.in_ok-with_lost.ensures c.in_ok-context.ensures.merged
