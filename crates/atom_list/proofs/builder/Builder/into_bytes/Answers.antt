use Rattle.std.proofs.Common.{◌∙◌, ap}
use Rattle.context_model.specs.declared.Form.TheVariants.{One}
use Rattle.context_model.specs.Framing.{frames}
use Rattle.atom_list.proofs.builder.Builder.into_bytes.Goals as goal

pub returns : goal.returns
returns c = c.self.invariant.framed ∙ ap (λ v. frames One v.atoms) c.self.view_is
