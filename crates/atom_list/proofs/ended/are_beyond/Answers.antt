use Rattle.std.proofs.Common.{◌≡◌, ℕ, ◌+◌, ◌<◌, ◌≤◌, ◌⊎◌, inl, inr, List, [], length, map, get_or, min, slice_get, option_copied, Ordering, Some, refl, sym, ◌∙◌, ap, arith}
use Rattle.std.specs.Ordering.{ordering_reverse}
use Rattle.std.proofs.lemmas.Bool.{cases_lt}
use Rattle.std.proofs.lemmas.List.{get_or-map, length-map}
use Rattle.std.proofs.lemmas.Option.{get_or_from_slice_get}
use Rattle.context_model.specs.Atoms.{Atom}
use Rattle.context_model.specs.Kinds.{atom_of}
use Rattle.context_model.specs.Kinds.Kind.{Indexed}
use Rattle.context_model.specs.Ended.{field_path}
use Rattle.context_model.specs.Orders.{atom_cmp}
use Rattle.context_model.proofs.FieldPaths.{length-field_path}
use Rattle.context_model.proofs.OrderLaws.{atoms_total}
use Rattle.atom_list.specs.OpenPlaces.{atom_at}
use Rattle.atom_list.proofs.Ending.{field_at, Stand, beyond_by_less, not_by_greater, beyond_by_equal, not_at_end}
use Rattle.atom_list.proofs.ended.are_beyond.Goals as goal

-- What is at a level of the field and of the headers.
at_level : (list : List Atom) (headers numbers : List ℕ) (n place : ℕ) (header : Atom) → n < length numbers → n < length headers → place ≡ get_or headers n 0 → slice_get list place ≡ Some header
    → Stand (field_path numbers) (map (atom_at list) headers) n (atom_of (Indexed n (get_or numbers n 0))) header
at_level list headers numbers n place header in_numbers in_headers is there = record {
  in_field = omega (arith, length-field_path 0 numbers);
  in_headers = omega (arith, length-map headers (atom_at list));
  field_atom = field_at 0 numbers n in_numbers ∙ (let e : 0 + n ≡ n = omega arith in ap (λ v. atom_of (Indexed v (get_or numbers n 0))) e);
  header_atom = get_or-map (atom_at list) headers n 0 [] in_headers ∙ ap (atom_at list) (sym is) ∙ get_or_from_slice_get list place header [] there;
}

-- The order of a field's header and an atom, seen from the header.
turned : (a own field : Atom) {o : Ordering} → o ≡ atom_cmp a own → own ≡ field → ordering_reverse o ≡ atom_cmp field a
turned a own field order is = sym (atoms_total.antisymm field a ∙ ap ordering_reverse (ap (atom_cmp a) (sym is) ∙ sym order))

pub returns-in-Greater : goal.returns-in-Greater
returns-in-Greater c =
    let stand = at_level c.args.list.now c.args.headers.now c.args.numbers.now c.loop-level.level c.get.result c.unwrap-header.result.now (omega arith) (omega arith) c.get.ensures
    (sym c.get-in-loop-level.ensures.value ∙ ap option_copied c.unwrap-header.ensures) in
    (λ t. c.loop-level.invariant.0 (beyond_by_less _ _ _ _ _ stand (turned c.unwrap-header.result.now c.new.result _ c.in-Greater.ensures c.new.ensures)), λ b. refl)

pub returns-in-Less : goal.returns-in-Less
returns-in-Less c =
    let stand = at_level c.args.list.now c.args.headers.now c.args.numbers.now c.loop-level.level c.get.result c.unwrap-header.result.now (omega arith) (omega arith) c.get.ensures
    (sym c.get-in-loop-level.ensures.value ∙ ap option_copied c.unwrap-header.ensures) in
    (λ t. cc, λ b. absurd (not_by_greater _ _ _ _ _ stand (turned c.unwrap-header.result.now c.new.result _ c.in-Less.ensures c.new.ensures) (c.loop-level.invariant.1 b)))

pub loop-level-preserved : goal.loop-level-preserved
loop-level-preserved c =
    let stand = at_level c.args.list.now c.args.headers.now c.args.numbers.now c.loop-level.level c.get.result c.unwrap-header.result.now (omega arith) (omega arith) c.get.ensures
    (sym c.get-in-loop-level.ensures.value ∙ ap option_copied c.unwrap-header.ensures) in
    let step = beyond_by_equal _ _ _ _ _ stand (turned c.unwrap-header.result.now c.new.result _ c.in-Equal.ensures c.new.ensures) in
    (λ b. c.loop-level.invariant.0 (step.0 b), λ b. step.1 (c.loop-level.invariant.1 b))

-- One of the two ends here.
one_ends : (list : List Atom) (headers numbers : List ℕ) (n : ℕ) → min (length numbers) (length headers) ≤ n → (length (field_path numbers) ≤ n) ⊎ (length (map (atom_at list) headers) ≤ n)
one_ends list headers numbers n least = elim (cases_lt n (length numbers)) [
  | inl less ↦ inr (omega (arith, length-map headers (atom_at list)))
  | inr most ↦ inl (omega (arith, length-field_path 0 numbers))
]

pub returns : goal.returns
returns c =
    (λ t. cc, λ b. absurd (not_at_end (field_path c.args.numbers.now) (map (atom_at c.args.list.now) c.args.headers.now) c.loop-level.level (one_ends c.args.list.now c.args.headers.now c.args.numbers.now c.loop-level.level (omega arith)) (c.loop-level.invariant.1 b)))
