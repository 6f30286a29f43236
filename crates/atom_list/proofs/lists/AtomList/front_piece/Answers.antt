use Rattle.std.proofs.Common.{◌≡◌, ℕ, ◌+◌, ◌-◌, ◌<◌, ◌≤◌, List, length, take, drop, get_or, slice_range, sym, ◌∙◌, ap, subst, arith}
use Rattle.std.proofs.lemmas.List.{length-take, length-drop}
use Rattle.context_model.specs.declared.Form.TheVariants.{One}
use Rattle.context_model.specs.Framing.{frame, frames}
use Rattle.atom_list.specs.Starts.{atom_framed_at, atoms_at, BeginsFrame, IsFlat, IsPieceOf}
use Rattle.atom_list.proofs.Flat.{start_is, end_is, front_frame, piece_of, ends_within}
use Rattle.atom_list.proofs.lists.AtomList.front_piece.Goals as goal

pub frame_end-end-requires : goal.frame_end-end-requires
frame_end-end-requires c =
    let bytes = c.self.inside.bytes in
    let starts = c.self.inside.starts.items in
    let last = c.min-to.result - 1 in
    subst (λ v. BeginsFrame (drop c.index.result.now v)) (sym c.as_slice.ensures)
    (subst (λ n. BeginsFrame (drop n bytes)) (sym c.index.ensures) (front_frame bytes starts c.self.inside.laid c.self.invariant last c.index.result.now (omega arith)))

-- What is known where both ends were looked up.
ends : (bytes seen starts : List ℕ) (laid from to start last end : ℕ) → IsFlat bytes starts laid → seen ≡ bytes → from < to → to ≤ laid
    → start ≡ get_or starts from start → last ≡ get_or starts (to - 1) last → end ≡ last + length (frame One (atom_framed_at seen last))
    → (start ≡ length (frames One (take from (atoms_at bytes starts)))) × (end ≡ length (frames One (take to (atoms_at bytes starts)))) × (start ≤ end) × (end ≤ length bytes)
ends bytes seen starts laid from to start last end flat same order within at_start at_last at_end =
    let s : start ≡ length (frames One (take from (atoms_at bytes starts))) = at_start ∙ start_is bytes starts laid flat from start (omega arith) in
    let next : to - 1 + 1 ≡ to = omega arith in
    let t : end ≡ length (frames One (take to (atoms_at bytes starts))) =
    at_end ∙ ap (λ v. last + length (frame One (atom_framed_at v last))) same ∙ ap (λ n. n + length (frame One (atom_framed_at bytes n))) at_last ∙ end_is bytes starts laid flat (to - 1) last (omega arith)
    ∙ ap (λ n. length (frames One (take n (atoms_at bytes starts)))) next in
    let b = ends_within bytes starts laid flat from to (omega arith) within in
    (s, t, omega arith, omega arith)

pub slice_bounds-result-count : goal.slice_bounds-result-count
slice_bounds-result-count c =
    (ends c.self.inside.bytes c.as_slice.result.now c.self.inside.starts.items c.self.inside.laid c.args.from c.min-to.result c.index-start.result.now c.index.result.now c.frame_end-end.result
    c.self.invariant c.as_slice.ensures (omega arith) (omega arith) c.index-start.ensures c.index.ensures c.frame_end-end.ensures.end).2

pub slice_bounds-result-start : goal.slice_bounds-result-start
slice_bounds-result-start c =
    (ends c.self.inside.bytes c.as_slice.result.now c.self.inside.starts.items c.self.inside.laid c.args.from c.min-to.result c.index-start.result.now c.index.result.now c.frame_end-end.result
    c.self.invariant c.as_slice.ensures (omega arith) (omega arith) c.index-start.ensures c.index.ensures c.frame_end-end.ensures.end).2

-- The piece, as the slices are seen.
piece : (bytes seen : List ℕ) (starts starts' : List ℕ) (list : List (List ℕ)) (laid from to start end : ℕ) → IsFlat bytes starts laid → seen ≡ bytes → starts' ≡ starts → atoms_at bytes starts ≡ list → from ≤ to → to ≤ laid
    → start ≡ length (frames One (take from (atoms_at bytes starts))) → end ≡ length (frames One (take to (atoms_at bytes starts)))
    → IsPieceOf (take (end - start) (drop start seen)) start (take (to - from) (drop from starts')) (slice_range list from (from + length (take (to - from) (drop from starts'))))
piece bytes seen starts starts' list laid from to start end flat e f view order within s t =
    let count : to ≡ from + length (take (to - from) (drop from starts')) = omega (arith, length-take (to - from) (drop from starts'), length-drop from starts', ap length f, flat.within) in
    subst (λ v. IsPieceOf (take (end - start) (drop start v)) start (take (to - from) (drop from starts')) (slice_range list from (from + length (take (to - from) (drop from starts'))))) (sym e)
    (subst (λ n. IsPieceOf (slice_range bytes start end) start (take (to - from) (drop from starts')) (slice_range list from n)) count
    (subst (λ v. IsPieceOf (slice_range bytes start end) start (take (to - from) (drop from v)) (slice_range list from to)) (sym f)
    (subst (λ v. IsPieceOf (slice_range bytes start end) start (slice_range starts from to) (slice_range v from to)) view
    (piece_of bytes starts laid flat from to start end order within s t))))

pub returns-clause-piece : goal.returns-clause-piece
returns-clause-piece c =
    let here = ends c.self.inside.bytes c.as_slice.result.now c.self.inside.starts.items c.self.inside.laid c.args.from c.min-to.result c.index-start.result.now c.index.result.now c.frame_end-end.result
    c.self.invariant c.as_slice.ensures (omega arith) (omega arith) c.index-start.ensures c.index.ensures c.frame_end-end.ensures.end in
    piece c.self.inside.bytes c.as_slice-2.result.now c.self.inside.starts.items c.as_slice-3.result.now c.args.self.now c.self.inside.laid c.args.from c.min-to.result c.index-start.result.now c.frame_end-end.result
    c.self.invariant c.as_slice-2.ensures c.as_slice-3.ensures.value c.self.view_is (omega arith) (omega arith) here.0 here.1
