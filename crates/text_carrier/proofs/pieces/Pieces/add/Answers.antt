use Rattle.std.proofs.Common.{subst}
use Rattle.text_lines.specs.Readings.{NoneOf}
use Rattle.text_carrier.specs.Rules.{PieceBreaks, HasPieceForm, carry_rules}
use Rattle.text_carrier.proofs.pieces.Pieces.add.Goals as goal

pub returns-clause-ok : goal.returns-clause-ok
returns-clause-ok c = λ said keeps.
    let line = c.in-Some.line in
    let (bytes, are, is) = c.in_ok-check.ensures.data in
    let none = c.in_ok-check.ensures.ok said keeps in (
      record { place = line.place; count = line.count; bytes = bytes },
      (
        subst (HasPieceForm c.args.text.now line.place line.count) is c.in-Some.ensures,
        are,
        subst (λ word. NoneOf (PieceBreaks said line.place line.count word) carry_rules) is none,
      ),
      c.in_ok-keep.ensures said bytes keeps none are is,
    )
