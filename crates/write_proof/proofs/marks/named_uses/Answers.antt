use Rattle.std.proofs.Common.{◌++◌, [], ◌∷◌, get_or, sym, ap, ◌∙◌}
use Rattle.std.proofs.lemmas.Option.{slice_get-get_or}
use Rattle.write_proof.proofs.MarkCalls.{first_entry, used_this, used_no_more}
use Rattle.write_proof.proofs.marks.named_uses.Goals as goal
use Rattle.write_proof.proofs.marks.named_uses.Goals.{in-Uses+in_ok-push, in_default}

pub loop-entry-preserved : goal.loop-entry-preserved
loop-entry-preserved c =
    let entries = c.args.entries.now in
    let i = c.loop-entry.entry-index in
    let there = slice_get-get_or entries i first_entry c.loop-entry-test.true in
    elim c.match-entry.branch [
      | in-Uses+in_ok-push w ↦
          ap (λ v. v.items) w.steps-is ∙ w.in_ok-push.ensures.items ∙ ap (λ l. l ++ w.in-Uses.step ∷ []) c.loop-entry.invariant
          ∙ sym (used_this entries i (get_or entries i first_entry) there w.in-Uses.step w.in-Uses.is)
      | in_default w ↦ ap (λ v. v.items) w.steps-is ∙ c.loop-entry.invariant ∙ sym (used_no_more entries i (get_or entries i first_entry) there w.in_default.not-Uses)
    ]
