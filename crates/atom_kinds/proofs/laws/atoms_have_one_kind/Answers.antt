use Rattle.std.proofs.Common.{sym, ap, ◌∙◌}
use Rattle.context_model.proofs.KindLaws.{HasKind-unique}
use Rattle.atom_kinds.specs.Kinds.{outer_kind}
use Rattle.atom_kinds.proofs.laws.atoms_have_one_kind.Goals as goal

pub returns : goal.returns
returns c = λ atom j k (f, e) (g, h). sym e ∙ ap outer_kind (HasKind-unique atom f g) ∙ h
