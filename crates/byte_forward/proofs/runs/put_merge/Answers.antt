use Rattle.std.proofs.Common.{◌≡◌, ◌+◌, ◌-◌, ◌<◌, ℕ, List, [], length, refl, ◌∙◌, arith}
use Rattle.std.proofs.lemmas.Grind.{common_steps}
use borrow.Rule.Slice.PartMut.{put_mid}
use Rattle.context_model.specs.Framing.{frames}
use Rattle.byte_frames.specs.Frames.{AreFramesOf}
use Rattle.byte_forward.proofs.Rooms.{holds_len}
use Rattle.byte_forward.proofs.RunSteps.{run_split, run_fits, run_written, merged_swapped, last_fits, last_written}
use Rattle.byte_forward.proofs.runs.put_merge.Goals as goal

pub loop-second-init : goal.loop-second-init
loop-second-init c =
    let given = c.requires in
    record {
      first_form = refl;
      second_form = given.4;
      place = omega (arith, given.5);
      merged = λ a b f g. record {
        past = [];
        a_left = a;
        b_left = b;
        first_frames = f;
        second_frames = g;
        merged = refl;
        holds = (refl, omega arith, refl);
        fits = omega (arith, given.5);
      };
    }

pub put_run-at-requires : goal.put_run-at-requires
put_run-at-requires c =
    let inv = c.loop-second.invariant in
    let given = c.requires in
    let form = c.args.first.form in
    let l = c.loop-second in
    let m = inv.merged given.0 given.1 given.2 given.3 in
    let ran = c.pass_run.ensures in
    let r = ran.run m.a_left m.b_left m.first_frames m.second_frames in
    let same = ran.first_form ∙ inv.first_form in (
      frames form r.run,
      run_split form given.0 given.1 l.first l.second c.pass_run.result.0 c.pass_run.result.1 l.at c.args.room.now l.room m r inv.first_form same,
      run_fits form given.0 given.1 l.first l.second c.pass_run.result.0 c.pass_run.result.1 l.at c.args.room.now l.room m r inv.first_form same,
    )

pub put_run-at-requires-in-loop-second : goal.put_run-at-requires-in-loop-second
put_run-at-requires-in-loop-second c =
    let inv = c.loop-second.invariant in
    let given = c.requires in
    let form = c.args.first.form in
    let l = c.loop-second in
    let old = c.args.room.now in
    let m = inv.merged given.0 given.1 given.2 given.3 in
    let ran = c.pass_run.ensures in
    let r = ran.run m.a_left m.b_left m.first_frames m.second_frames in
    let same = ran.first_form ∙ inv.first_form in
    let other = ran.second_form ∙ inv.second_form in
    let room = put_mid l.at (length l.room - l.at) l.room c.put_run-at.new.room in
    let at = l.at + c.put_run-at.result in
    let on = merged_swapped form given.0 given.1 c.pass_run.result.0 c.pass_run.result.1 at old room
    (run_written form given.0 given.1 l.first l.second c.pass_run.result.0 c.pass_run.result.1 l.at old l.room m r inv.first_form same c.put_run-at.result c.put_run-at.new.room ran.second_no_more c.put_run-at.ensures.bytes)
    in
    let known = c.pass_known_run.ensures in
    let s = known.run r.b_left r.a_left r.second_frames r.first_frames r.next in
    let same' = known.first_form ∙ other in (
      frames form s.run,
      run_split form given.0 given.1 c.pass_run.result.1 c.pass_run.result.0 c.pass_known_run.result.0 c.pass_known_run.result.1 at old room on s other same',
      run_fits form given.0 given.1 c.pass_run.result.1 c.pass_run.result.0 c.pass_known_run.result.0 c.pass_known_run.result.1 at old room on s other same',
    )

pub loop-second-smaller : goal.loop-second-smaller
loop-second-smaller c =
    let inv = c.loop-second.invariant in
    let given = c.requires in
    let m = inv.merged given.0 given.1 given.2 given.3 in
    let ran = c.pass_run.ensures in
    let r = ran.run m.a_left m.b_left m.first_frames m.second_frames in
    let some : 0 < length c.loop-second.second.rest.now = grind (arith, common_steps) in
    let no_more = ran.second_no_more in
    let less = c.pass_known_run.ensures.less r.b_left r.second_frames in
    omega arith

pub loop-second-preserved : goal.loop-second-preserved
loop-second-preserved c =
    let inv = c.loop-second.invariant in
    let form = c.args.first.form in
    let l = c.loop-second in
    let old = c.args.room.now in
    let ran = c.pass_run.ensures in
    let same = ran.first_form ∙ inv.first_form in
    let other = ran.second_form ∙ inv.second_form in
    let room = put_mid l.at (length l.room - l.at) l.room c.put_run-at.new.room in
    let at = l.at + c.put_run-at.result in
    let known = c.pass_known_run.ensures in
    let same' = known.first_form ∙ other in
    let room' = put_mid at (length room - at) room c.put_run-at-in-loop-second.new.room in
    let at' = at + c.put_run-at-in-loop-second.result in
    let merged = λ (a : List (List ℕ)) (b : List (List ℕ)) (f : AreFramesOf c.args.first a) (g : AreFramesOf c.args.second b). (
    let m = inv.merged a b f g in
    let r = ran.run m.a_left m.b_left m.first_frames m.second_frames in
    let on = merged_swapped form a b c.pass_run.result.0 c.pass_run.result.1 at old room
    (run_written form a b l.first l.second c.pass_run.result.0 c.pass_run.result.1 l.at old l.room m r inv.first_form same c.put_run-at.result c.put_run-at.new.room ran.second_no_more c.put_run-at.ensures.bytes)
    in
    let s = known.run r.b_left r.a_left r.second_frames r.first_frames r.next in
    merged_swapped form a b c.pass_known_run.result.0 c.pass_known_run.result.1 at' old room'
    (run_written form a b c.pass_run.result.1 c.pass_run.result.0 c.pass_known_run.result.0 c.pass_known_run.result.1 at old room on s other same' c.put_run-at-in-loop-second.result c.put_run-at-in-loop-second.new.room known.no_more c.put_run-at-in-loop-second.ensures.bytes)
    )
    in
    let given = c.requires in
    let all = merged given.0 given.1 given.2 given.3 in
    record {
      first_form = known.second_form ∙ same;
      second_form = same';
      place = omega (arith, all.fits, holds_len (frames form all.past) old room' at' all.holds);
      merged = merged;
    }

pub put_bytes-requires : goal.put_bytes-requires
put_bytes-requires c =
    let inv = c.loop-second.invariant in
    let given = c.requires in
    let l = c.loop-second in
    let none : l.second.rest.now ≡ [] = grind (arith, common_steps) in
    last_fits c.args.first.form given.0 given.1 l.first l.second l.at c.args.room.now l.room (inv.merged given.0 given.1 given.2 given.3) inv.first_form none

pub returns : goal.returns
returns c = λ a b f g. (
    let inv = c.loop-second.invariant in
    let l = c.loop-second in
    let none : l.second.rest.now ≡ [] = grind (arith, common_steps) in
    last_written c.args.first.form a b l.first l.second l.at c.args.room.now l.room (inv.merged a b f g) inv.first_form none c.put_bytes.result c.put_bytes.new.room c.put_bytes.ensures
    )
