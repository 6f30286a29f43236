use Rattle.std.proofs.Common.{inl, inr, arith}
use Rattle.context_model.proofs.FramingLaws.{length-base_128}
use Rattle.atom_list.proofs.Frames.{length_at}
use Rattle.atom_list.proofs.starts.length_at.Goals as goal

pub bounds-bytes-start : goal.bounds-bytes-start
bounds-bytes-start c = let at = length_at c.args.bytes.now c.args.start c.requires in omega (arith, at.within, (length-base_128 at.said).0)

pub returns-then-low-lt128-clause-bytes : goal.returns-then-low-lt128-clause-bytes
returns-then-low-lt128-clause-bytes c =
    let at = length_at c.args.bytes.now c.args.start c.requires in
    elim at.forms [
      | inl one ↦ omega (arith, at.code, one.count)
      | inr (inl two) ↦ absurd (omega (arith, two.low, c.from-low.ensures, c.if-low-lt128.true))
      | inr (inr three) ↦ absurd (omega (arith, three.low, c.from-low.ensures, c.if-low-lt128.true))
    ]

pub returns-then-low-lt128-clause-length : goal.returns-then-low-lt128-clause-length
returns-then-low-lt128-clause-length c =
    let at = length_at c.args.bytes.now c.args.start c.requires in
    elim at.forms [
      | inl one ↦ omega (arith, at.says, one.low, c.from-low.ensures)
      | inr (inl two) ↦ absurd (omega (arith, two.low, c.from-low.ensures, c.if-low-lt128.true))
      | inr (inr three) ↦ absurd (omega (arith, three.low, c.from-low.ensures, c.if-low-lt128.true))
    ]

pub bounds-bytes-start-2 : goal.bounds-bytes-start-2
bounds-bytes-start-2 c =
    let at = length_at c.args.bytes.now c.args.start c.requires in
    elim at.forms [
      | inl one ↦ absurd (omega (arith, one.low, one.few, c.from-low.ensures, c.if-low-lt128.false))
      | inr (inl two) ↦ omega (arith, two.within)
      | inr (inr three) ↦ omega (arith, three.within)
    ]

pub returns-then-middle-lt128-clause-bytes : goal.returns-then-middle-lt128-clause-bytes
returns-then-middle-lt128-clause-bytes c =
    let at = length_at c.args.bytes.now c.args.start c.requires in
    elim at.forms [
      | inl one ↦ absurd (omega (arith, one.low, one.few, c.from-low.ensures, c.if-low-lt128.false))
      | inr (inl two) ↦ omega (arith, at.code, two.count)
      | inr (inr three) ↦ absurd (omega (arith, three.middle, c.from-middle.ensures, c.if-middle-lt128.true))
    ]

pub returns-then-middle-lt128-clause-length : goal.returns-then-middle-lt128-clause-length
returns-then-middle-lt128-clause-length c =
    let at = length_at c.args.bytes.now c.args.start c.requires in
    elim at.forms [
      | inl one ↦ absurd (omega (arith, one.low, one.few, c.from-low.ensures, c.if-low-lt128.false))
      | inr (inl two) ↦ omega (arith, at.says, two.low, two.middle, c.from-low.ensures, c.from-middle.ensures)
      | inr (inr three) ↦ absurd (omega (arith, three.middle, c.from-middle.ensures, c.if-middle-lt128.true))
    ]

pub bounds-bytes-start-3 : goal.bounds-bytes-start-3
bounds-bytes-start-3 c =
    let at = length_at c.args.bytes.now c.args.start c.requires in
    elim at.forms [
      | inl one ↦ absurd (omega (arith, one.low, one.few, c.from-low.ensures, c.if-low-lt128.false))
      | inr (inl two) ↦ absurd (omega (arith, two.middle, two.few, c.from-middle.ensures, c.if-middle-lt128.false))
      | inr (inr three) ↦ omega (arith, three.within)
    ]

pub returns-clause-bytes : goal.returns-clause-bytes
returns-clause-bytes c =
    let at = length_at c.args.bytes.now c.args.start c.requires in
    elim at.forms [
      | inl one ↦ absurd (omega (arith, one.low, one.few, c.from-low.ensures, c.if-low-lt128.false))
      | inr (inl two) ↦ absurd (omega (arith, two.middle, two.few, c.from-middle.ensures, c.if-middle-lt128.false))
      | inr (inr three) ↦ omega (arith, at.code, three.count)
    ]

pub returns-clause-length : goal.returns-clause-length
returns-clause-length c =
    let at = length_at c.args.bytes.now c.args.start c.requires in
    elim at.forms [
      | inl one ↦ absurd (omega (arith, one.low, one.few, c.from-low.ensures, c.if-low-lt128.false))
      | inr (inl two) ↦ absurd (omega (arith, two.middle, two.few, c.from-middle.ensures, c.if-middle-lt128.false))
      | inr (inr three) ↦ omega (arith, at.says, three.low, three.middle, three.high, c.from-low.ensures, c.from-middle.ensures, c.from-high.ensures)
    ]
