-- Runs of a merge: atoms that it takes from one of its lists, one after another.
use Rattle.std.specs.Prelude.{◌≡◌, ◌⊎◌, ◌<◌, ◌≤◌, ◌+◌, Bool, false, ℕ, List, [], ◌∷◌, ◌++◌, length, if◌then◌else◌}
use Rattle.std.specs.declared.cmp.Ordering.TheVariants.{Greater}
use Rattle.context_model.specs.declared.Form.{Form}
use Rattle.context_model.specs.Atoms.{Atom}
use Rattle.context_model.specs.Framing.{frames}
use Rattle.context_model.specs.GreedyMerge.{greedy_merge}
use Rattle.context_model.specs.Orders.{atom_cmp}
use Rattle.byte_frames.specs.declared.frames.Frames.{Frames}
use Rattle.byte_frames.specs.Frames.{AreFramesOf}
use Rattle.byte_forward.specs.Room.{HoldsBytes}

-- The merge of a and b begins with this run of a, and goes on with the merge of what is left of
-- both.
pub record IsRunOf (run a b a_left b_left : List Atom) : Type 0 where
  pub split : a ≡ run ++ a_left
  pub merged : greedy_merge atom_cmp a b ≡ run ++ greedy_merge atom_cmp a_left b_left

-- The merge of a and b begins with the first atom of b, where b has one.
abbrev pub IsSecondNext : List Atom → List Atom → Type 0
IsSecondNext a [] = Unit {0}
IsSecondNext [] (y ∷ b) = Unit {0}
IsSecondNext (x ∷ a) (y ∷ b) = atom_cmp x y ≡ Greater

-- What follows the run of a list up to an atom, and that atom where the list has it.
pub record IsPassedTo (a : List Atom) (other : Atom) (b : List Atom) (behind : Frames)
    (equal : Bool) : Type 0 where
  pub run : List Atom
  pub left : List Atom
  pub frames : AreFramesOf behind left
  pub goes : IsRunOf run a (other ∷ b) left (if equal then b else other ∷ b)
  pub next : equal ≡ false → IsSecondNext left (other ∷ b)

-- The run of a list as far as its atoms come before another.
pub record IsRunPassed (a : List Atom) (other : Atom) (b : List Atom)
    (behind : Frames) : Type 0 where
  pub run : List Atom
  pub left : List Atom
  pub frames : AreFramesOf behind left
  pub goes : IsRunOf run a (other ∷ b) left (other ∷ b)

-- What follows the run of a, in both lists.
pub record IsRunBehind (a b : List Atom) (first second : Frames) : Type 0 where
  pub run : List Atom
  pub a_left : List Atom
  pub b_left : List Atom
  pub first_frames : AreFramesOf first a_left
  pub second_frames : AreFramesOf second b_left
  pub goes : IsRunOf run a b a_left b_left
  pub next : IsSecondNext a_left b_left

-- The merge of two lists is written into the buffer up to what is left of both, for which there is
-- place.
pub record IsMergedTo (form : Form) (a b : List Atom) (first second : Frames) (at : ℕ)
    (old new : List ℕ) : Type 0 where
  pub past : List Atom
  pub a_left : List Atom
  pub b_left : List Atom
  pub first_frames : AreFramesOf first a_left
  pub second_frames : AreFramesOf second b_left
  pub merged : greedy_merge atom_cmp a b ≡ past ++ greedy_merge atom_cmp a_left b_left
  pub holds : HoldsBytes (frames form past) at old new
  pub fits : at + (length first.rest.now + length second.rest.now) ≤ length old
