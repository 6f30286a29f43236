-- The frames of a list that are still to come.
use Rattle.std.specs.Prelude.{◌≡◌, List}
use Rattle.context_model.specs.Atoms.{Atom}
use Rattle.context_model.specs.Framing.{frames, AreWithin}
use Rattle.byte_frames.specs.declared.frames.Frames.{Frames}

-- What is still to come are the frames of this list.
abbrev pub AreFramesOf : Frames → List Atom → Type 0
AreFramesOf left list = AreWithin left.form list × (left.rest.now ≡ frames left.form list)
