use Rattle.std.proofs.Common.{◌≡◌, ◌+◌, ◌≤◌, length, take, subst, sym, Some, ◌∙◌, arith}
use Rattle.context_model.specs.Framing.{length_code}
use Rattle.context_model.specs.WireFault.{IsUnframed}
use Rattle.wire_bytes.specs.Reading.{code_of, StopsAt}
use Rattle.wire_bytes.proofs.Stops.{frame_shortens, frame_read, frame_within}
use Rattle.wire_bytes.proofs.Codings.{frames_any}
use Rattle.context_model.proofs.Heads.{AreWithin-atoms}
use Rattle.std.proofs.lemmas.Grind.{common_steps}
use Rattle.wire_bytes.proofs.reading.read_frames.Goals as goal

pub loop-scan-smaller : goal.loop-scan-smaller
loop-scan-smaller c =
    let seen = c.rest-in-loop-scan.ensures in
    frame_shortens c.args.form c.loop-scan.scan.rest c.note.new.scan.rest c.in-Ok.skip c.in-Ok.len
    (subst (λ v. take c.in-Ok.skip v ≡ length_code c.args.form c.in-Ok.len) seen c.in-Ok.ensures.code) (subst (λ v. c.in-Ok.skip + c.in-Ok.len ≤ length v) seen c.in-Ok.ensures.within)
    c.in_ok-note-in-Ok.ensures.rest

pub loop-scan-preserved : goal.loop-scan-preserved
loop-scan-preserved c =
    let seen = c.rest-in-loop-scan.ensures in
    let within = subst (λ v. c.in-Ok.skip + c.in-Ok.len ≤ length v) seen c.in-Ok.ensures.within in
    record {
      split = frame_read c.args.form c.args.bytes.items c.loop-scan.scan.atoms c.note.new.scan.atoms c.loop-scan.scan.rest c.note.new.scan.rest c.in-Ok.skip c.in-Ok.len c.loop-scan.invariant.split
          (subst (λ v. take c.in-Ok.skip v ≡ length_code c.args.form c.in-Ok.len) seen c.in-Ok.ensures.code) within
          c.in_ok-note-in-Ok.ensures.atoms c.in_ok-note-in-Ok.ensures.rest;
      within = frame_within c.args.form c.loop-scan.scan.atoms c.note.new.scan.atoms c.loop-scan.scan.rest c.in-Ok.skip c.in-Ok.len c.loop-scan.invariant.within c.in-Ok.ensures.short within c.in_ok-note-in-Ok.ensures.atoms;
    }

pub returns-in-Err-clause-stops : goal.returns-in-Err-clause-stops
returns-in-Err-clause-stops c =
    subst (λ list. StopsAt c.args.form c.args.bytes.items list (Some (c.offset.result, c.in-Err.code))) (sym c.in_ok-list-in-Err.ensures.list) (
      c.offset.ensures ∙ frames_any c.args.form c.loop-scan.scan.atoms (AreWithin-atoms c.args.form c.loop-scan.scan.atoms c.loop-scan.invariant.within),
      (
        c.loop-scan.scan.rest,
        c.loop-scan.invariant.split,
        grind (arith, common_steps),
        subst (λ v. IsUnframed c.args.form v (code_of c.in-Err.code)) c.rest-in-loop-scan.ensures c.in-Err.ensures.fault,
      ),
    )
