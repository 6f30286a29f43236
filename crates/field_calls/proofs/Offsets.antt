-- How many bytes come before an atom of a list.
use Rattle.std.proofs.Common.{ℕ, ◌≤◌, List, arith}
use Rattle.context_model.specs.declared.Form.{Form}
use Rattle.context_model.specs.Atoms.{Atom}
use Rattle.context_model.specs.Framing.{written_in, offset_of, size_of}
use Rattle.context_model.proofs.FramingLaws.{size_is, frames_len-front}

-- They are some of all.
pub offset_within : (form : Form) (list : List Atom) (place : ℕ) → offset_of form list place ≤ size_of form list
offset_within form list place = omega (arith, size_is form list, frames_len-front (written_in form list) place list)
