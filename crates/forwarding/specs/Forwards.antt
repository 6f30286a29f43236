-- What a forwarding service sends on.
use Rattle.std.specs.Prelude.{◌≡◌, ℕ, List, [], ◌∷◌, length, Result, Ok, Err}
use Rattle.context_model.specs.declared.Form.TheVariants.{One}
use Rattle.context_model.specs.Atoms.{Atom}
use Rattle.context_model.specs.Framing.{bytes_of}
use Rattle.wire_bytes.specs.Reading.{byte_code_of}
use Rattle.byte_forward.specs.declared.refusals.ByteRefusal.{ByteRefusal}
use Rattle.byte_forward.specs.declared.refusals.ByteRefusal.TheVariants.{Fault, Room}
use Rattle.byte_forward.specs.Contexts.{IsFaultAt}
use Rattle.byte_forward.specs.Calls.{IsCutMergeOf}
use Rattle.byte_forward.specs.Room.{HoldsBytes}

-- Two inputs are the bytes of contexts, and the buffer begins with those of their merge, cut to its
-- length; or the first of them that isn't has this fault, and the buffer is as before. The buffer
-- is never too short.
abbrev pub Forwards : List ℕ → List ℕ → List ℕ → List ℕ → Result ℕ ByteRefusal → Type 0
Forwards first second old new (Ok size) =
    (sent : List Atom) × IsCutMergeOf One (length old) (first ∷ second ∷ []) sent
    × HoldsBytes (bytes_of One sent) size old new
Forwards first second old new (Err (Fault context offset code)) =
    IsFaultAt (first ∷ second ∷ []) context offset (byte_code_of code) × (new ≡ old)
Forwards first second old new (Err (Room size)) = ⊥
