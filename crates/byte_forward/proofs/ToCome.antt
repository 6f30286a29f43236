-- What is still to come of a context, and of a merge: which list it is, and what it is where the next frame was taken.
use Rattle.std.proofs.Common.{◌≡◌, ◌≤◌, List, [], ◌∷◌, length, Option, Some, None, MatchOption, refl, sym, ap, subst, ◌∙◌}
use Rattle.std.specs.declared.cmp.Ordering.TheVariants.{Less, Equal, Greater}
use Rattle.context_model.specs.Atoms.{Atom}
use Rattle.context_model.specs.Framing.{frame, most, AreWithin}
use Rattle.context_model.specs.GreedyMerge.{greedy_merge}
use Rattle.context_model.specs.Orders.{atom_cmp}
use Rattle.context_model.proofs.Frames.{frames_cancel}
use Rattle.context_model.proofs.Rising.{greedy-right_empty, greedy-less, greedy-equal, greedy-greater}
use Rattle.byte_frames.specs.declared.frames.Frame.{Frame}
use Rattle.byte_frames.specs.declared.frames.Frames.{Frames}
use Rattle.byte_frames.specs.Frames.{AreFramesOf}
use Rattle.byte_forward.specs.declared.merging.Ahead.{Ahead}
use Rattle.byte_forward.specs.declared.merging.Merging.{Merging}
use Rattle.byte_forward.specs.declared.merging.Piece.{Piece}
use Rattle.byte_forward.specs.Merging.{IsFramePiece, IsAhead, IsToCome}

-- The next frame was taken from what was still to come.
pub ahead_of : (next : Option Frame) (before behind : Frames) (list : List Atom) → behind.form ≡ before.form → AreFramesOf before list
    → MatchOption next (list ≡ []) (λ found. (rest : List Atom) × (list ≡ found.atom.now ∷ rest) × (found.bytes.now ≡ frame before.form found.atom.now) × AreFramesOf behind rest)
    → IsAhead (record { next = next; behind = behind }) list
ahead_of None before behind list same are none = none
ahead_of (Some found) before behind list same are taken =
    let within : AreWithin before.form (found.atom.now ∷ taken.0) = subst (AreWithin before.form) taken.1 are.0 in
    (taken.0, taken.1, subst (λ form. length found.atom.now ≤ most form) (sym same) within.0, subst (λ form. found.bytes.now ≡ frame form found.atom.now) (sym same) taken.2, taken.3)

-- What is still to come of a context is one list.
pub ahead_same : (ahead : Ahead) (a b : List Atom) → IsAhead ahead a → IsAhead ahead b → a ≡ b
ahead_same ahead a b f g = by ahead.next f g
  where
    by : (next : Option Frame) → IsAhead (record ahead { next = next }) a → IsAhead (record ahead { next = next }) b → a ≡ b
    by None f g = f ∙ sym g
    by (Some next) f g =
        let rest : f.0 ≡ g.0 = frames_cancel ahead.behind.form f.0 g.0 f.4.0 g.4.0 (sym f.4.1 ∙ g.4.1) in
        f.1 ∙ ap (λ list. next.atom.now ∷ list) rest ∙ sym g.1

-- What is still to come of a merge is one list.
pub to_come_same : (merging : Merging) (x y : List Atom) → IsToCome merging x → IsToCome merging y → x ≡ y
to_come_same merging x y f g =
    let first = ahead_same merging.first f.0 g.0 f.2 g.2 in
    let second = ahead_same merging.second f.1 g.1 f.3 g.3 in
    f.4 ∙ (λ i. greedy_merge atom_cmp (first i) (second i)) ∙ sym g.4
