use Rattle.std.proofs.Common.{take, sym, ◌∙◌, subst}
use Rattle.atom_list.specs.Starts.{IsFlat}
use Rattle.atom_list.specs.Builder.{IsBuilt}
use Rattle.atom_list.proofs.Building.{flat_built}
use Rattle.atom_list.proofs.Flat.{AreAtoms-starts}
use Rattle.atom_list.proofs.scan.Scan.finish.Goals as goal

pub invariant_of-result : goal.invariant_of-result
invariant_of-result c =
    let bytes = take c.self.inside.at c.self.inside.bytes.items in
    let starts = c.give_back_room.new.starts in
    let built : IsBuilt bytes starts.items = subst (IsBuilt bytes) (sym c.give_back_room.ensures) c.self.invariant.front in
    let flat : IsFlat bytes starts.items c.len-laid.result = flat_built bytes starts.items c.len-laid.result built (c.len-laid.ensures ∙ starts.ok.0) in
    subst (λ v. IsFlat v starts.items c.len-laid.result) (sym (c.in_ok-from_vec.ensures.ok ∙ c.truncate.ensures.items)) flat

pub returns-clause-short : goal.returns-clause-short
returns-clause-short c = AreAtoms-starts c.in_ok-from_vec.field-0 c.give_back_room.new.starts.items (invariant_of-result c).fit
