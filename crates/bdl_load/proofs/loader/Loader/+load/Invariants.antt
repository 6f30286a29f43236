use Rattle.std.proofs.Common.{◌≡◌, ◌+◌, ◌-◌, ◌*◌, length}
use Rattle.bdl_load.specs.declared.loader.TheConstants.{FILES_MAX}
use Rattle.std.specs.Prelude.{Ok}
use Rattle.bdl_load.specs.Loader.{AreSound, Loaded, TreatsLibrary}
use Rattle.bdl_load.proofs.Taking.{Taken}
use Rattle.bdl_load.proofs.loader.Loader.+load.Given as goal

abbrev pub decreases-take_import : goal.decreases-take_import
decreases-take_import g l = 2 * (FILES_MAX - length l.self.now.files.items)

abbrev pub decreases-take_imports : goal.decreases-take_imports
decreases-take_imports g l = 2 * (FILES_MAX - length l.self.now.files.items) + 1

abbrev pub invariant-take_imports-loop-number : goal.invariant-take_imports-loop-number
invariant-take_imports-loop-number g l = record {
  sound : AreSound l.self.files.items l.self.taking.items;
  taking : l.self.taking.items ≡ l.fn.self.taking.items;
  loaded : Loaded (g.L.Library.files l.fn.library) (g.L.Library.asked l.fn.library) (g.L.Library.asked l.library) l.fn.self.files.items l.self.files.items (Taken l.fn.self.files.items l.fn.self.taking.items l.fn.from l.self.files.items l.number);
  treated : TreatsLibrary {T = Unit {0}} g.L.Library.files g.L.Library.faults l.fn.library l.library (Ok tt);
}
