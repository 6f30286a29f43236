use Rattle.std.specs.Option.{option_copied}
use Rattle.context_model.proofs.Finding.{Finds-some}
use Rattle.set_map_types.proofs.Copied.{is_some-copied}
use Rattle.set_map_types.proofs.set_of.SetOf.contains.Goals as goal

pub returns : goal.returns
returns g c = rw (c.is_some.ensures, is_some-copied, ← c.self.view_is, ← c.deref.ensures.value) (Finds-some c.deref.result.now c.args.value.now (option_copied c.value_at.result) c.value_at.ensures)
