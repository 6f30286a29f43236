use Rattle.std.proofs.Common.{refl, sym, subst}
use Rattle.bag_model.specs.Words.{word_named}
use Rattle.text_lines.specs.Answers.{IsSomeOf}
use Rattle.table_text.specs.Words.{IsKindText}
use Rattle.table_text.proofs.ShapeTexts.{kind_in_default, kind_none}
use Rattle.table_text.proofs.shapes.read_kind.Goals as goal

pub returns-in_default : goal.returns-in_default
returns-in_default c =
    subst (IsSomeOf (IsKindText c.args.text.now)) (sym c.bare_kind.ensures)
    (kind_in_default c.args.text.now (word_named c.args.text.now) c.in_default.ensures refl)

pub returns-in-None : goal.returns-in-None
returns-in-None c =
    kind_none c.args.text.now c.in-Some.inside.now c.in-Some.ensures (rw c.in-None.is at c.in_ok-words.ensures)
