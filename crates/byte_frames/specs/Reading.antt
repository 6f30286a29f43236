-- What was read of a context's bytes.
use Rattle.std.specs.Prelude.{◌≡◌, ℕ, List, [], ◌∷◌, ◌++◌, length, Result, Ok, Err}
use Rattle.std.specs.Borrow.{Bor}
use Rattle.context_model.specs.declared.Form.{Form}
use Rattle.context_model.specs.Atoms.{Atom}
use Rattle.context_model.specs.Framing.{frame, AreWithin}
use Rattle.context_model.specs.Paths.{last_path_after}
use Rattle.context_model.specs.WellFormed.{IsWellFormed}
use Rattle.context_model.specs.ContextFault.{IsWrongBehind}
use Rattle.wire_bytes.specs.declared.contexts.ByteCode.{ByteCode}
use Rattle.wire_bytes.specs.Reading.{byte_code_of}
use Rattle.byte_frames.specs.OpenAtoms.{OpenAtoms, IsOpenFor}

-- A context whose atoms have frames was read, and these are open after it.
pub record IsReadTo (form : Form) (list : List Atom) (opened : OpenAtoms) : Type 0 where
  pub within : AreWithin form list
  pub formed : IsWellFormed list
  pub path : IsOpenFor (last_path_after [] list) opened

-- The frame of one atom more was taken from these bytes; or this is wrong with them.
abbrev pub TakesAtom : Form → List Atom → List ℕ → OpenAtoms → Result (ℕ × Bor (List ℕ)) ByteCode
    → Type 0
TakesAtom form list bytes opened (Ok (len, behind)) =
    (atom : Atom) × (len ≡ length atom) × (bytes ≡ frame form atom ++ behind.now)
    × IsReadTo form (list ++ atom ∷ []) opened
TakesAtom form list bytes opened (Err code) = IsWrongBehind form list bytes (byte_code_of code)
