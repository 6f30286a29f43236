-- What a call on the shape of a slot asks for, and what its answer says.
use Rattle.std.proofs.Common.{◌≡◌, ℕ, ◌+◌, ◌≤◌, List, [], length, Option, Some, None, Result, Ok, Err, sym, ap, ◌∙◌, subst, arith}
use Rattle.std.specs.Prelude.{IfOk}
use Rattle.std.specs.List.{slice_get}
use Rattle.std.specs.Option.{option_map}
use Rattle.context_model.specs.Atoms.{Atom}
use Rattle.context_model.specs.Ended.{field_path}
use Rattle.context_model.specs.Paths.{path_before}
use Rattle.context_model.proofs.FieldPaths.{length-field_path}
use Rattle.bag_model.specs.Readings.{PathsOf, Reads}
use Rattle.bag_model.specs.Shapes.{Shape, Nodes}
use Rattle.bag_model.specs.Slots.{SlotAt, slots_of}
use Rattle.bag_model.specs.Tables.{IsTable, IsShape, levels_under}
use Rattle.bag_model.specs.Typed.{IsTyped, AreTyped}
use Rattle.bag_model.specs.Values.{Value, bottom}
use Rattle.bag_model.proofs.SlotNumbers.{numbers_few}
use Rattle.bag_model.proofs.SlotsBelow.{get_in}
use Rattle.bag_walks.specs.Parts.{IsBehind}
use Rattle.bag_walks.proofs.Absent.{Reads-bare}
use Rattle.bag_decode.specs.Slots.{IsSlotPlace, IsPlaceBehind, SaysAt}
use Rattle.bag_decode.proofs.SlotFits.{FitsSlot, seen_numbers, seen_shape, slots_fit}
use Rattle.bag_decode.proofs.SlotPlaces.{bare_path}

-- What a call on the slot's shape asks for, where the place after its header is this one, and that
-- its answer is what is said of the slot.
pub record FitsCall (nodes : Nodes) (context list : List Atom) (slot : ℕ) (shape : Shape) (numbers : List ℕ) (from : ℕ) : Type 0 where
  pub behind : IsBehind list (path_before list from) from
  pub level : length (path_before list from) ≡ length numbers
  pub shape_is : IsShape shape
  pub room : length numbers + levels_under shape ≤ 16
  pub typed : IsTyped shape (PathsOf list) (path_before list from)
  pub says : (v : Value) → Reads shape (PathsOf list) (path_before list from) v → SaysAt nodes context slot v

module _ (nodes : Nodes) (context : List Atom) (slot : ℕ) (place : Option ℕ) (shape : Shape) (table : IsTable nodes) (typed : AreTyped nodes (PathsOf context) []) (there : IsSlotPlace nodes context slot place)
    (shape_is : Some shape ≡ option_map (λ (found : SlotAt). found.shape) (slice_get (slots_of nodes) slot)) where
  pub call_fits : (list : List Atom) (from : ℕ) (numbers : List ℕ) → list ≡ context → place ≡ Some from → Some numbers ≡ option_map (λ (found : SlotAt). found.numbers) (slice_get (slots_of nodes) slot)
      → FitsCall nodes context list slot shape numbers from
  call_fits list from numbers same some numbers_are =
      let (at, here, own) = seen_shape (slice_get (slots_of nodes) slot) shape shape_is in
      let own_numbers : numbers ≡ at.numbers = seen_numbers (slice_get (slots_of nodes) slot) at numbers here numbers_are in
      let fits : FitsSlot (PathsOf context) [] _ at = slots_fit nodes (PathsOf context) [] at table.well_formed typed (get_in (slots_of nodes) slot at here) in
      let its : IsBehind context (field_path at.numbers) from = subst (IsPlaceBehind context at.numbers) some (there at here) in
      subst (λ l. FitsCall nodes context l slot shape numbers from) (sym same)
      (subst (λ ns. FitsCall nodes context context slot shape ns from) (sym own_numbers)
      (subst (λ s. FitsCall nodes context context slot s at.numbers from) (sym own) (record {
        behind = subst (λ p. IsBehind context p from) (sym its.path) its;
        level = ap length its.path ∙ length-field_path 0 at.numbers;
        shape_is = fits.shape;
        room = omega (arith, fits.levels_are, table.shallow);
        typed = subst (IsTyped at.shape (PathsOf context)) (sym its.path) fits.typed;
        says = λ v reads. (at, here, subst (λ p. Reads at.shape (PathsOf context) p v) its.path reads);
      })))

  pub bottom_says : place ≡ None → (v : Value) → v ≡ bottom shape → SaysAt nodes context slot v
  bottom_says none v is =
      let (at, here, own) = seen_shape (slice_get (slots_of nodes) slot) shape shape_is in
      let absent : PathsOf context (field_path at.numbers) → ⊥ = subst (IsPlaceBehind context at.numbers) none (there at here) in
      let long : length (field_path at.numbers) ≡ length at.numbers = length-field_path 0 at.numbers in
      let bare = bare_path context (field_path at.numbers) (omega (arith, long, (numbers_few nodes slot at table here).0)) absent in
      (at, here, subst (Reads at.shape (PathsOf context) (field_path at.numbers)) (sym (is ∙ ap bottom own)) (Reads-bare at.shape (PathsOf context) (field_path at.numbers) bare))

-- What follows from the value of an answer follows of it.
pub if_ok_so : {T E : Type 0} (P Q : T → Type 0) (answer : Result T E) → ((value : T) → P value → Q value) → IfOk answer P → IfOk answer Q
if_ok_so P Q (Ok value) so p = so value p
if_ok_so P Q (Err fault) so p = p
