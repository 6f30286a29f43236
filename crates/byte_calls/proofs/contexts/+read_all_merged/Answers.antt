use Rattle.std.proofs.Common.{[], sym, subst, arith}
use Rattle.byte_calls.specs.Contexts.{IsMergeOf, IsRefusalFrom}
use Rattle.byte_calls.specs.Spans.{inputs_of}
use Rattle.byte_calls.proofs.Parts.{refusal_left, refusal_right, merge_parts, handed_on, inputs_parts, inputs_len, one_merged}
use Rattle.byte_calls.proofs.contexts.+read_all_merged.Goals as goal

pub returns-in_err-first-in_default-clause-refused :
    goal.returns-in_err-first-in_default-clause-refused
returns-in_err-first-in_default-clause-refused t c =
    let refusal = c.in_err-first-in_default.field-0.0 in
    let parts = inputs_parts c.args.inputs.now c.split_at.result.0.now c.split_at.result.1.now c.split_at.ensures.by_index.0 in
    handed_on c.from_residual.result refusal (IsRefusalFrom c.args.place (inputs_of c.args.inputs.now)) c.from_residual.ensures.1
    (subst (λ xs. IsRefusalFrom c.args.place xs refusal) (sym parts) (refusal_left c.args.place _ _ refusal c.in_err-first-in_default.ensures.refused))

pub returns-in_err-second-in_default-clause-refused :
    goal.returns-in_err-second-in_default-clause-refused
returns-in_err-second-in_default-clause-refused t c =
    let refusal = c.in_err-second-in_default.field-0.0 in
    let left = c.split_at.result.0.now in
    let parts = inputs_parts c.args.inputs.now left c.split_at.result.1.now c.split_at.ensures.by_index.0 in
    handed_on c.from_residual-in_err-second-in_default.result refusal (IsRefusalFrom c.args.place (inputs_of c.args.inputs.now)) c.from_residual-in_err-second-in_default.ensures.1
    (subst (λ xs. IsRefusalFrom c.args.place xs refusal) (sym parts)
    (refusal_right c.args.place _ (inputs_of left) _ c.in_ok-first-in_default.first refusal (omega (arith, inputs_len left)) c.in_ok-first-in_default.ensures.merged c.in_err-second-in_default.ensures.refused))

pub returns-in-len1-clause-merged : goal.returns-in-len1-clause-merged
returns-in-len1-clause-merged t c =
    one_merged c.merges_few.ensures c.args.inputs.now (record { bytes = record { ref_ptr = (0, 0); now = [] } }) c.read_at.result c.in-len1.len_at_least c.in-len1.len_below c.read_at.ensures.found

pub returns-in_ok-merge-in_default-clause-merged :
    goal.returns-in_ok-merge-in_default-clause-merged
returns-in_ok-merge-in_default-clause-merged t c =
    let left = c.split_at.result.0.now in
    let right = c.split_at.result.1.now in
    let merged = c.in_ok-merge-in_default.field-0 in
    subst (λ xs. IsMergeOf xs merged) (sym (inputs_parts c.args.inputs.now left right c.split_at.ensures.by_index.0))
    (merge_parts c.merges_in_groups.ensures (inputs_of left) (inputs_of right) c.in_ok-first-in_default.first c.in_ok-second-in_default.second merged c.in_ok-first-in_default.ensures.merged c.in_ok-second-in_default.ensures.merged c.in_ok-merge-in_default.ensures.greedy)
