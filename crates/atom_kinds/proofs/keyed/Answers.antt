use Rattle.std.proofs.Common.{◌≡◌, IfOk, sym, subst}
use Rattle.atom_kinds.proofs.keyed.Goals as goal

pub returns-clause-atom : goal.returns-clause-atom
returns-clause-atom c = subst (λ atom. IfOk c.atom_from.result (λ made. made ≡ atom)) (sym (c.keyed_prefix.ensures c.args.key.now)) c.atom_from.ensures.atom
