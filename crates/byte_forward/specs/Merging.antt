-- What is still to come of a context, and of a merge.
use Rattle.std.specs.Prelude.{◌≡◌, ◌≤◌, List, [], ◌∷◌, length, MatchOption}
use Rattle.context_model.specs.Atoms.{Atom}
use Rattle.context_model.specs.Framing.{frame, most}
use Rattle.context_model.specs.GreedyMerge.{greedy_merge}
use Rattle.context_model.specs.Orders.{atom_cmp}
use Rattle.byte_frames.specs.Frames.{AreFramesOf}
use Rattle.byte_forward.specs.declared.merging.Ahead.{Ahead}
use Rattle.byte_forward.specs.declared.merging.Merging.{Merging}
use Rattle.byte_forward.specs.declared.merging.Piece.{Piece}

-- The piece is the frame of its atom in its form, whose limit the atom keeps.
abbrev pub IsFramePiece : Piece → Type 0
IsFramePiece piece =
    (length piece.frame.atom.now ≤ most piece.form)
    × (piece.frame.bytes.now ≡ frame piece.form piece.frame.atom.now)

-- The list is what is still to come of an input: the frame that is known next, and those after it.
abbrev pub IsAhead : Ahead → List Atom → Type 0
IsAhead ahead list = MatchOption ahead.next (list ≡ [])
    (λ next. (rest : List Atom) × (list ≡ next.atom.now ∷ rest)
    × (length next.atom.now ≤ most ahead.behind.form)
    × (next.bytes.now ≡ frame ahead.behind.form next.atom.now)
    × AreFramesOf ahead.behind rest)

-- The list is what is still to come of a merge: the greedy merge of what is still to come of both
-- inputs.
abbrev pub IsToCome : Merging → List Atom → Type 0
IsToCome merging list =
    (a b : List Atom) × IsAhead merging.first a × IsAhead merging.second b
    × (list ≡ greedy_merge atom_cmp a b)
