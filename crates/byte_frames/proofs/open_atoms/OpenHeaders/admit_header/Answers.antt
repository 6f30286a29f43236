use Rattle.std.proofs.Common.{refl, arith}
use Rattle.std.proofs.lemmas.Bool.{false≢true}
use Rattle.byte_frames.specs.OpenAtoms.{opened_by}
use Rattle.byte_frames.proofs.Opening.{header_follows, header_wrong, header_opens}
use Rattle.byte_frames.proofs.open_atoms.OpenHeaders.admit_header.Goals as goal
use Rattle.byte_frames.proofs.open_atoms.OpenHeaders.admit_header.Goals.{else-level-self-via-then-level-self+else-not-rises, else-level-self-via-else-level-self}

pub returns-then-not-rises : goal.returns-then-not-rises
returns-then-not-rises c = λ q before.
    header_wrong q (opened_by c.args.self.now c.args.datum.now) (omega arith) before c.args.atom c.args.level c.requires _ (omega arith) (λ less. false≢true (c.if-not-rises.ensures.1 less))

pub returns : goal.returns
returns c = λ q before.
    let follows = header_follows q (opened_by c.args.self.now c.args.datum.now) (omega arith) before c.args.atom c.args.level c.requires in (
      elim c.else-level-self.branch [
        | else-level-self-via-then-level-self+else-not-rises w ↦ follows _ (omega arith) (λ below. w.if-not-rises.ensures.0 refl)
        | else-level-self-via-else-level-self w ↦ follows c.args.atom (omega arith) (λ below. absurd (omega arith))
      ],
      header_opens q (opened_by c.args.self.now c.args.datum.now) (omega arith) before c.args.atom c.args.level c.requires (omega arith),
    )
