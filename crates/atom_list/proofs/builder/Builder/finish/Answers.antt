use Rattle.std.proofs.Common.{sym, ◌∙◌, subst}
use Rattle.atom_list.specs.Starts.{IsFlat}
use Rattle.atom_list.specs.Builder.{IsBuilt}
use Rattle.atom_list.proofs.Building.{flat_built}
use Rattle.atom_list.proofs.builder.Builder.finish.Goals as goal

pub invariant_of-result : goal.invariant_of-result
invariant_of-result c =
    let starts = c.shrink_to_fit-2.new.self in
    let built : IsBuilt c.shrink_to_fit.new.self.items starts.items = subst (λ v. IsBuilt v starts.items) (sym c.shrink_to_fit.ensures.items) (subst (IsBuilt c.self.inside.bytes.items) (sym c.shrink_to_fit-2.ensures.items) c.self.invariant) in
    let flat : IsFlat c.shrink_to_fit.new.self.items starts.items c.len-laid.result = flat_built c.shrink_to_fit.new.self.items starts.items c.len-laid.result built (c.len-laid.ensures ∙ starts.ok.0) in
    subst (λ v. IsFlat v starts.items c.len-laid.result) (sym c.in_ok-from_vec.ensures.ok) flat
