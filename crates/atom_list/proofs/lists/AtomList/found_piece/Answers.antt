use Rattle.std.proofs.Common.{◌≡◌, ℕ, ◌+◌, ◌≤◌, List, length, take, get_or, slice_range, ◌∙◌, ap, subst}
use Rattle.context_model.specs.Atoms.{Atom}
use Rattle.atom_list.specs.Starts.{atoms_at, IsPieceOf, IsFrameRow}
use Rattle.atom_list.proofs.Rows.{row_part}
use Rattle.atom_list.proofs.lists.AtomList.found_piece.Goals as goal

-- The piece, as the slices are seen.
found : (bytes seen starts starts' : List ℕ) (list : List Atom) (from to count end : ℕ) → seen ≡ bytes → starts' ≡ starts → atoms_at bytes starts ≡ list
    → count ≤ length (slice_range starts' from to) → IsFrameRow seen (slice_range starts' from to) count end
    → IsPieceOf (slice_range seen (get_or (slice_range starts' from to) 0 0) end) (get_or (slice_range starts' from to) 0 0) (take count (slice_range starts' from to))
    (slice_range list from (from + length (take count (slice_range starts' from to))))
found bytes seen starts starts' list from to count end e f view few row =
    let here = slice_range starts' from to in
    let first = get_or here 0 0 in
    let same : atoms_at seen starts' ≡ list = ap (λ v. atoms_at v starts') e ∙ ap (atoms_at bytes) f ∙ view in
    subst (IsPieceOf (slice_range seen first end) first (take count here)) (row_part seen starts' list from to count same few) row.piece

pub returns-clause-piece : goal.returns-clause-piece
returns-clause-piece c =
    found c.self.inside.bytes c.as_slice-bytes.result.now c.self.inside.starts.items c.as_slice.result.now c.args.self.now c.args.from c.args.to c.row_of-count.result.0 c.row_of-count.result.1
    c.as_slice-bytes.ensures c.as_slice.ensures.value c.self.view_is c.row_of-count.ensures.few c.row_of-count.ensures.row
