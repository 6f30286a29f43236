use Rattle.std.proofs.Common.{◌≡◌, false, take}
use Rattle.bdl_load.specs.Loader.{names_at}
use Rattle.bdl_load.specs.Loading.{is_among}
use Rattle.bdl_load.proofs.loader.Loader.is_taking.Given as goal

abbrev pub invariant-loop-number : goal.invariant-loop-number
invariant-loop-number l = is_among l.name (names_at l.self.files.items (take l.number-index l.self.taking.items)) ≡ false
