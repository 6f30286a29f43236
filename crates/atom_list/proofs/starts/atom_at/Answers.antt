use Rattle.std.proofs.Common.{◌+◌, ◌≤◌, length, sym, ap, inl, inr, arith}
use Rattle.atom_list.proofs.Frames.{length_at, atom_at-behind, atom_is, short_atom}
use Rattle.atom_list.proofs.starts.atom_at.Goals as goal

pub length_at-skip-requires : goal.length_at-skip-requires
length_at-skip-requires c = elim c.requires [
  | inl behind ↦ absurd (omega (arith, behind, c.if-bytes-start.false))
  | inr begins ↦ begins
]

pub returns-then-bytes-start-clause-atom : goal.returns-then-bytes-start-clause-atom
returns-then-bytes-start-clause-atom c = sym (atom_at-behind c.args.bytes.now c.args.start c.if-bytes-start.true)

-- The frame is within the buffer.
within : (c : goal.After-length_at-skip) → c.args.start + c.length_at-skip.result.0 + c.length_at-skip.result.1 ≤ length c.args.bytes.now
within c = elim c.requires [
  | inl behind ↦ absurd (omega (arith, behind, c.if-bytes-start.false))
  | inr begins ↦ let at = length_at c.args.bytes.now c.args.start begins in omega (arith, at.within, at.code, at.says, c.length_at-skip.ensures.bytes, c.length_at-skip.ensures.length)
]

pub overflow_add-result : goal.overflow_add-result
overflow_add-result c = omega (arith, within c)

pub overflow_add-result-2 : goal.overflow_add-result-2
overflow_add-result-2 c = omega (arith, within c)

pub overflow_add-result-3 : goal.overflow_add-result-3
overflow_add-result-3 c = omega (arith, within c)

pub slice_bounds-result-end-2 : goal.slice_bounds-result-end-2
slice_bounds-result-end-2 c = within c

pub returns-clause-atom : goal.returns-clause-atom
returns-clause-atom c = atom_is c.args.bytes.now c.args.start c.length_at-skip.result.0 c.length_at-skip.result.1 c.length_at-skip.ensures.bytes c.length_at-skip.ensures.length

pub returns-clause-short : goal.returns-clause-short
returns-clause-short c = omega (arith, ap length (returns-clause-atom c), short_atom c.args.bytes.now c.args.start c.requires)
