use Rattle.std.specs.Option.{option_copied}
use Rattle.context_model.proofs.Finding.{Finds-some}
use Rattle.set_map_types.proofs.Copied.{is_some-copied}
use Rattle.set_map_types.proofs.map_of.MapOf.contains.Goals as goal

pub returns : goal.returns
returns g c = rw (c.is_some.ensures, is_some-copied) (Finds-some c.args.self.now.items c.args.key.now (option_copied c.value.result) c.value.ensures)
