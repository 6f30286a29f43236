-- Whether something was found, seen through the reference to it.
use Rattle.std.proofs.Common.{◌≡◌, Option, Some, None, Bor, refl}
use Rattle.std.specs.Option.{is_some, option_copied}

pub is_some-copied : {T : Type 0} (found : Option (Bor T)) → is_some found ≡ is_some (option_copied found)
is_some-copied None = refl
is_some-copied (Some x) = refl
