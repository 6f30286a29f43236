-- What a refusal of a call that takes no memory says.
use Rattle.std.specs.Prelude.{◌≡◌}
use Rattle.byte_forward.specs.declared.refusals.ByteRefusal.{ByteRefusal}
use Rattle.byte_forward.specs.declared.refusals.ByteRefusal.TheVariants as bytes
use Rattle.byte_calls.specs.declared.refusals.Refusal.{Refusal}
use Rattle.byte_calls.specs.declared.refusals.Refusal.TheVariants.{Fault, Room}

-- The refusal says the same.
abbrev pub SaysRefusal : ByteRefusal → Refusal → Type 0
SaysRefusal (bytes.Fault context offset code) refusal = refusal ≡ Fault context offset code
SaysRefusal (bytes.Room size) refusal = refusal ≡ Room size
