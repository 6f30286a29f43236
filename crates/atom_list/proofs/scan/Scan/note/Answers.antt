use Rattle.std.proofs.Common.{◌+◌, ◌++◌, [], ◌∷◌, length, slice_range, ◌∙◌, ap, arith}
use Rattle.std.proofs.lemmas.List.{length-drop}
use Rattle.atom_list.proofs.Building.{of_noted, scan_noted, list_is}
use Rattle.atom_list.proofs.scan.Scan.note.Goals as goal

pub invariant_of-self-2 : goal.invariant_of-self-2
invariant_of-self-2 c =
    let rest = ap (λ v. length v.rest) c.self.view_is in
    scan_noted c.self.inside.bytes.items (c.self.inside.at + (c.args.skip + c.args.len)) c.push.new.self.items _ (omega (arith, length-drop c.self.inside.at c.self.inside.bytes.items)) c.self.invariant.few (of_noted c.self.inside.bytes.items c.self.inside.at c.args.skip c.args.len (c.self.inside.at + (c.args.skip + c.args.len)) c.self.inside.starts.items c.push.new.self.items c.args.self.now.rest (omega arith) c.self.invariant (ap (λ v. v.rest) c.self.view_is)
    c.requires.within c.requires.short c.requires.framed c.in_ok-push.ensures.items)

pub returns-clause-atoms : goal.returns-clause-atoms
returns-clause-atoms c =
    list_is _ _ _ (of_noted c.self.inside.bytes.items c.self.inside.at c.args.skip c.args.len (c.self.inside.at + (c.args.skip + c.args.len)) c.self.inside.starts.items c.push.new.self.items c.args.self.now.rest (omega arith) c.self.invariant (ap (λ v. v.rest) c.self.view_is)
    c.requires.within c.requires.short c.requires.framed c.in_ok-push.ensures.items) ∙ ap (λ v. v.atoms ++ slice_range c.args.self.now.rest c.args.skip (c.args.skip + c.args.len) ∷ []) c.self.view_is
