use Rattle.std.proofs.Common.{◌≡◌, false, take}
use Rattle.bdl_load.specs.Loading.{is_among, file_names}
use Rattle.bdl_load.proofs.loader.Loader.is_loaded.Given as goal

abbrev pub invariant-loop-file : goal.invariant-loop-file
invariant-loop-file l = is_among l.name (file_names (take l.file-index l.self.files.items)) ≡ false
