use Rattle.std.proofs.Common.{◌+◌, ◌-◌, ◌≤◌, [], ◌++◌, length, refl, sym, ap, ◌∙◌, subst, arith}
use borrow.Rule.Slice.PartMut.{put_mid}
use Rattle.context_model.specs.Framing.{frame, frames, written_in}
use Rattle.byte_forward.specs.Cutting.{IsUnderWay}
use Rattle.byte_forward.specs.Room.{HoldsBytes}
use Rattle.byte_forward.proofs.Walks.{split_next, walk_on, walk_end}
use Rattle.byte_forward.proofs.Rooms.{put_behind, frames-push, next_fits, has_frame}
use Rattle.byte_forward.proofs.filling.put_frames.Goals as goal

pub loop-piece-init : goal.loop-piece-init
loop-piece-init c =
    let given = c.requires in
    record {
      walk = record { past = []; left = given.0; begun = given.1; under_way = given.1; form = refl; budget = refl };
      form = given.2;
      holds = (refl, omega arith, refl);
      fits = given.3;
    }

pub put_piece-at-requires-clause-piece : goal.put_piece-at-requires-clause-piece
put_piece-at-requires-clause-piece c =
    let w = c.loop-piece.invariant.walk in
    (c.in-Some.ensures.next w.past w.left w.under_way).2

pub put_piece-at-requires-clause-short : goal.put_piece-at-requires-clause-short
put_piece-at-requires-clause-short c =
    let w = c.loop-piece.invariant.walk in
    let piece = c.in-Some.piece in
    let atom = piece.frame.atom.now in
    let next = c.in-Some.ensures.next w.past w.left w.under_way in
    has_frame c.args.cut.form piece.form c.args.written w.past atom next.0 (c.loop-piece.invariant.form ∙ ap (λ left. written_in c.args.cut.form (w.past ++ left)) next.1) next.2.0

pub put_piece-at-requires-clause-room : goal.put_piece-at-requires-clause-room
put_piece-at-requires-clause-room c =
    let w = c.loop-piece.invariant.walk in
    let atom = c.in-Some.piece.frame.atom.now in
    let next = c.in-Some.ensures.next w.past w.left w.under_way in
    let size = ap (λ left. length (frames c.args.written (w.past ++ left))) next.1 in
    next_fits c.args.written w.past atom next.0 c.args.room.now c.loop-piece.room c.loop-piece.at c.loop-piece.invariant.holds (omega (arith, size, c.loop-piece.invariant.fits))

pub loop-piece-smaller : goal.loop-piece-smaller
loop-piece-smaller c =
    let w = c.loop-piece.invariant.walk in
    (c.in-Some.ensures.next w.past w.left w.under_way).4

pub loop-piece-preserved : goal.loop-piece-preserved
loop-piece-preserved c =
    let inv = c.loop-piece.invariant in
    let w = inv.walk in
    let written = c.args.written in
    let old = c.args.room.now in
    let room = c.loop-piece.room in
    let at = c.loop-piece.at in
    let atom = c.in-Some.piece.frame.atom.now in
    let next = c.in-Some.ensures.next w.past w.left w.under_way in
    let split = split_next w.past w.left atom next.0 next.1 in
    let put = put_behind (frames written w.past) (frame written atom) old room c.put_piece-at.new.room at c.put_piece-at.result inv.holds c.put_piece-at.ensures in
    record {
      walk = walk_on c.args.cut c.loop-piece.cut c.take.new.self w atom next.0 c.in-Some.ensures.form c.in-Some.ensures.budget next.1 next.3;
      form = inv.form ∙ ap (written_in c.args.cut.form) split;
      holds = subst (λ bytes. HoldsBytes bytes (at + c.put_piece-at.result) old (put_mid at (length room - at) room c.put_piece-at.new.room)) (sym (frames-push written w.past atom)) put;
      fits = subst (λ list. length (frames written list) ≤ length old) split inv.fits;
    }

pub returns : goal.returns
returns c =
    let inv = c.loop-piece.invariant in
    let w = inv.walk in
    let all = walk_end c.args.cut c.loop-piece.cut w (c.in_default.ensures.next w.past w.left w.under_way).0 in
    (w.past, subst (IsUnderWay [] c.args.cut) all w.begun, inv.form ∙ ap (written_in c.args.cut.form) all, inv.holds)
