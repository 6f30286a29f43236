-- The part of a slot tells what the list says of the slot.
use Rattle.std.proofs.Common.{◌≡◌, inl, inr, ℕ, ◌+◌, ◌<◌, ◌≤◌, List, [], ◌∷◌, length, Option, Some, None, refl, sym, subst, arith}
use Rattle.context_model.specs.Atoms.{Atom}
use Rattle.context_model.specs.Ended.{field_path}
use Rattle.context_model.specs.Orders.{Path}
use Rattle.context_model.proofs.FieldPaths.{length-field_path}
use Rattle.bag_model.specs.Readings.{PathsOf, Reads}
use Rattle.bag_model.specs.Tables.{levels_under}
use Rattle.bag_model.specs.Values.{Value}
use Rattle.bag_model.proofs.SlotNumbers.{numbers_few}
use Rattle.bag_model.proofs.Uniqueness.{Reads-unique}
use Rattle.bag_walks.specs.Slots.{IsSpanOf}
use Rattle.bag_walks.proofs.Bridge.{none_below}
use Rattle.bag_walks.proofs.Absent.{IsBare}
use Rattle.place_calls.specs.Parts.{part_of}
use Rattle.place_calls.specs.Telling.{Tells}
use Rattle.place_calls.specs.Readers.{PartsTellValues, PlacesTellValues}
use Rattle.place_calls.proofs.Framed.{places_hold_frames}
use Rattle.place_calls.proofs.PartKeys.{IsPart}
use Rattle.place_calls.proofs.SlotPlaces.{last_atom_of, slot_room}
use Rattle.place_calls.proofs.Told.{told, some_told}

bare_path : (list : List Atom) (s : Path) → 0 < length s → (PathsOf list s → ⊥) → IsBare (PathsOf list) s
bare_path list [] some none = absurd (omega arith)
bare_path list (a ∷ s) some none =
    let (q, h, is) = last_atom_of a s in
    subst (IsBare (PathsOf list)) (sym is) (none_below list q h (λ i. none (subst (PathsOf list) (sym is) i)))

span_part : (list : List Atom) (s : Path) (from : Option ℕ) (stop : ℕ) → 0 < length s → IsSpanOf list s from stop → IsPart list s (part_of list from stop)
span_part list s None stop some span = inr (bare_path list s some span.0, refl)
span_part list s (Some from) stop some span = inl (record { from = from; stop = stop; behind = span.0; segment = span.1; is = refl })

pub parts_tell_values : PartsTellValues
parts_tell_values nodes list slot at from stop table there typed span = record {
  same = λ v. (λ tells. reads v tells, λ says. subst (λ w. Tells at.shape (length at.numbers) (part_of list from stop) w) (Reads-unique at.shape (PathsOf list) (field_path at.numbers) some.0 v (reads some.0 some.1) says) some.1);
  some = some;
}
  where
    long : length (field_path at.numbers) ≡ length at.numbers
    long = length-field_path 0 at.numbers

    room : length at.numbers + levels_under at.shape ≤ 16
    room = let bound = slot_room nodes slot at there in omega (arith, bound, table.shallow)

    its : IsPart list (field_path at.numbers) (part_of list from stop)
    its = span_part list (field_path at.numbers) from stop (omega (arith, long, (numbers_few nodes slot at table there).0)) span

    reads : (v : Value) → Tells at.shape (length at.numbers) (part_of list from stop) v → Reads at.shape (PathsOf list) (field_path at.numbers) v
    reads v tells = told list at.shape (field_path at.numbers) (part_of list from stop) (length at.numbers) v (sym long) room its tells

    some : (v : Value) × Tells at.shape (length at.numbers) (part_of list from stop) v
    some = some_told list at.shape (field_path at.numbers) (part_of list from stop) (length at.numbers) (sym long) room its typed

pub places_tell_values : PlacesTellValues
places_tell_values nodes bytes list slot at place table there context its =
    let holds = places_hold_frames bytes list at place context its in
    record {
      part = part_of list holds.from holds.stop;
      frames = holds.frames;
      tells = parts_tell_values nodes list slot at holds.from holds.stop table there its.typed holds.span;
    }
