use Rattle.std.proofs.Common.{refl}
use Rattle.atom_kinds.proofs.laws.atoms_tell_their_kind.Goals as goal

pub returns : goal.returns
returns c = λ kind fits. (record { kind = kind; fits = fits; spelled = refl }, refl)
