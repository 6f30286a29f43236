use Rattle.std.proofs.Common.{◌≡◌, List, ℕ, subst, string_bytes}
use Rattle.outside.proofs.Files.{held_more}
use Rattle.outside.specs.Libraries.{held_in}
use Rattle.outside.specs.Transfers.{with_file}
use Rattle.outside.proofs.libraries.SureLibrary.add.Goals as goal

pub returns-clause-ok : goal.returns-clause-ok
returns-clause-ok c =
    let old = c.args.self.now.contents in
    let new = c.insert.new.self in
    subst (λ (name : List ℕ). held_in new ≡ with_file name c.args.content.now (held_in old)) c.in_ok-name.ensures.ok
    (held_more (string_bytes c.in_ok-name.name) c.args.content.now old new c.in_ok-content.content c.in_ok-content.ensures.items c.in_ok-insert.ensures.updates)
