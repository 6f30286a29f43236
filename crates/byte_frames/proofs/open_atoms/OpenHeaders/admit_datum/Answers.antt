use Rattle.std.proofs.Common.{refl}
use Rattle.byte_frames.specs.OpenAtoms.{opened_by}
use Rattle.byte_frames.proofs.Opening.{datum_follows, datum_wrong, datum_opens}
use Rattle.byte_frames.proofs.open_atoms.OpenHeaders.admit_datum.Goals as goal

pub returns-then-not-rises_behind : goal.returns-then-not-rises_behind
returns-then-not-rises_behind c = λ q before. datum_wrong q (opened_by c.args.self.now c.args.datum.now) before c.args.atom c.requires (λ less. cc (c.if-not-rises_behind.ensures.1 less))

pub returns : goal.returns
returns c = λ q before. (
  datum_follows q (opened_by c.args.self.now c.args.datum.now) before c.args.atom c.requires (c.if-not-rises_behind.ensures.0 refl),
  datum_opens q (opened_by c.args.self.now c.args.datum.now) before c.args.atom c.requires,
)
