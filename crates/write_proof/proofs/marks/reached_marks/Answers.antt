use Rattle.std.proofs.Common.{◌<◌, length, true, map, take, get_or, set, ◌+◌, length-set, sym, ap, ◌∙◌, subst, arith}
use Rattle.std.proofs.lemmas.Option.{slice_get-get_or}
use Rattle.write_proof.specs.Marks.{AreMarksOf}
use Rattle.write_proof.specs.Views.{entry_of}
use Rattle.write_proof.specs.WholeRules.{reached}
use Rattle.write_proof.proofs.MarkCalls.{first_entry, reached_here, reached_this, reached_no_more, one_marked}
use Rattle.write_proof.proofs.marks.reached_marks.Goals as goal
use Rattle.write_proof.proofs.marks.reached_marks.Goals.{in-Reach, in_default}

pub index_mut-requires : goal.index_mut-requires
index_mut-requires c =
    let entries = c.args.entries.now in
    let i = c.loop-entry.entry-index in
    let within : c.in-Reach.step < c.args.steps = c.requires c.in-Reach.step (reached_here entries i (get_or entries i first_entry) c.in-Reach.step c.in-Reach.child (slice_get-get_or entries i first_entry c.loop-entry-test.true) c.in-Reach.is) in
    omega (arith, within, c.loop-entry.invariant.long, c.loop-entry.marks.ok.0)

pub loop-entry-preserved : goal.loop-entry-preserved
loop-entry-preserved c =
    let entries = c.args.entries.now in
    let i = c.loop-entry.entry-index in
    let marks = c.loop-entry.marks.items in
    let there = slice_get-get_or entries i first_entry c.loop-entry-test.true in
    elim c.match-entry.branch [
      | in-Reach w ↦
          let within : w.in-Reach.step < c.args.steps = c.requires w.in-Reach.step (reached_here entries i (get_or entries i first_entry) w.in-Reach.step w.in-Reach.child there w.in-Reach.is) in
          record {
            long = ap (λ v. length v.items) w.marks-is ∙ length-set marks w.in-Reach.step true ∙ c.loop-entry.invariant.long;
            marked =
                subst (λ l. AreMarksOf l (reached (map entry_of (take (i + 1) entries)))) (sym (ap (λ v. v.items) w.marks-is))
                (subst (AreMarksOf (set marks w.in-Reach.step true)) (sym (reached_this entries i (get_or entries i first_entry) there w.in-Reach.step w.in-Reach.child w.in-Reach.is))
                (one_marked marks (reached (map entry_of (take i entries))) w.in-Reach.step c.loop-entry.invariant.marked (omega (arith, within, c.loop-entry.invariant.long))));
          }
      | in_default w ↦ record {
        long = ap (λ v. length v.items) w.marks-is ∙ c.loop-entry.invariant.long;
        marked =
            subst (λ l. AreMarksOf l (reached (map entry_of (take (i + 1) entries)))) (sym (ap (λ v. v.items) w.marks-is))
            (subst (AreMarksOf marks) (sym (reached_no_more entries i (get_or entries i first_entry) there w.in_default.not-Reach)) c.loop-entry.invariant.marked);
      }
    ]
