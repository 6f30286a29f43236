use Rattle.bdl_check.proofs.declarations.Declarations.number.Goals as goal

pub returns : goal.returns
returns c =
    let found = c.self.invariant c.args.name.now in
    cc (c.copied.ensures, c.get.ensures.value, found, c.self.view_is)
