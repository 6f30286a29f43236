use Rattle.std.proofs.Common.{◌≡◌, ℕ, ◌+◌, ◌++◌, List, [], ◌∷◌, drop, Some, sym, ap, ◌∙◌, subst, arith, append_assoc}
use Rattle.std.specs.List.{slice_get}
use Rattle.std.specs.Option.{option_map}
use Rattle.context_model.specs.Atoms.{Atom, AreAtoms}
use Rattle.context_model.specs.Kinds.{atom_of}
use Rattle.context_model.specs.Kinds.Kind.{Datum, Keyed}
use Rattle.context_model.specs.Varints.{unsigned_varint}
use Rattle.bag_model.specs.Shapes as shapes
use Rattle.bag_model.specs.Values as values
use Rattle.bag_encode.specs.Values.{atoms_of}
use Rattle.bag_encode.proofs.Steps.{IsOnWay, IsOnWay-more, dropped}
use Rattle.bag_encode.proofs.values.put_counts.Goals as goal

abbrev counts_atoms : ℕ → List (List ℕ × ℕ) → List Atom
counts_atoms n counts = atoms_of shapes.Shape.Counter n (values.Value.Counter counts)

turn : (n : ℕ) (counts : List (List ℕ × ℕ)) (i : ℕ) (writer : List ℕ) (count : ℕ) → slice_get counts i ≡ Some (writer, count)
    → counts_atoms n (drop i counts) ≡ atom_of (Keyed n writer) ∷ atom_of (Datum (unsigned_varint count)) ∷ counts_atoms n (drop (i + 1) counts)
turn n counts i writer count at = ap (counts_atoms n) (dropped counts i (writer, count) at)

pub push_writer-requires-clause-short : goal.push_writer-requires-clause-short
push_writer-requires-clause-short c =
    let there = sym c.nth.ensures ∙ ap (option_map (λ e. (e.0.now, e.1))) c.unwrap-count.ensures in
    let now = subst AreAtoms (turn c.args.level c.args.counts.now c.loop-at.at c.unwrap-count.result.0.now c.unwrap-count.result.1 there) c.loop-at.invariant.short in
    omega (arith, now.0)

pub loop-at-preserved : goal.loop-at-preserved
loop-at-preserved c =
    let n = c.args.level in
    let counts = c.args.counts.now in
    let key = atom_of (Keyed n c.unwrap-count.result.0.now) in
    let count = atom_of (Datum (unsigned_varint c.unwrap-count.result.1)) in
    let there = sym c.nth.ensures ∙ ap (option_map (λ e. (e.0.now, e.1))) c.unwrap-count.ensures in
    let whole = c.args.list.now ++ counts_atoms n counts in
    let spelled : c.as_slice.result.now ≡ unsigned_varint c.unwrap-count.result.1 = c.as_slice.ensures.bytes ∙ c.put_u64.ensures in
    IsOnWay-more whole c.loop-at.list c.push_datum.new.self (key ∷ count ∷ []) (counts_atoms n (drop (c.loop-at.at + 1) counts))
    (c.in_ok-push_datum.ensures ∙ ap (λ bytes. c.push_writer.new.self ++ (0 ∷ bytes) ∷ []) spelled ∙ ap (λ l. l ++ count ∷ []) c.in_ok-push_writer.ensures ∙ append_assoc c.loop-at.list (key ∷ []) (count ∷ []))
    (subst (IsOnWay whole c.loop-at.list) (turn n counts c.loop-at.at c.unwrap-count.result.0.now c.unwrap-count.result.1 there) c.loop-at.invariant)
