-- How many bytes a list has, and which they are where its frames have as many.
use Rattle.std.proofs.Common.{◌≡◌, ◌^◌, ◌<◌, ◌≤◌, List, length, refl, arith}
use Rattle.context_model.specs.declared.Form.{Form}
use Rattle.context_model.specs.declared.Form.TheVariants.{One, Two}
use Rattle.context_model.specs.Atoms.{Atom, AreAtoms}
use Rattle.context_model.specs.Framing.{frames, head_len, written_in, bytes_in, bytes_of, size_of}
use Rattle.context_model.proofs.FramingLaws.{size_by_frames, frames_lens}

-- No head has more bytes than that of form two.
head_small : (width : Form) → head_len width ≤ 12
head_small One = omega arith
head_small Two = omega arith

-- A list has no more bytes than a length can say.
pub size_small : (form : Form) (list : List Atom) → AreAtoms list → length (frames Two list) < 2 ^ 32 → size_of form list < 2 ^ 64
size_small form list short light = omega (arith, size_by_frames form list short, frames_lens list short, head_small (written_in form list))

-- Where its frames in form one have as many bytes, there is nothing before them.
pub bytes_bare : (form : Form) (list : List Atom) → AreAtoms list → length (frames One list) ≡ size_of form list → frames One list ≡ bytes_of form list
bytes_bare form list short bare = by (written_in form list) (omega (arith, size_by_frames form list short))
  where
    by : (width : Form) → head_len width ≡ 0 → frames One list ≡ bytes_in width list
    by One none = refl
    by Two some = absurd (omega arith)
