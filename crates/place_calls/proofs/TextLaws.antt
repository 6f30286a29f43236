-- What a call does under a table that was read is what the call by the table's text does.
use Rattle.std.specs.Prelude.{ℕ, List, Result, Ok, Err}
use Rattle.context_model.specs.declared.Form.{Form}
use Rattle.bag_model.specs.Shapes.{Nodes}
use Rattle.field_calls.specs.Fields.{IsPrintedTable}
use Rattle.place_calls.specs.declared.places.Place.{Place}
use Rattle.place_calls.specs.declared.refusals.PlaceRefusal.{PlaceRefusal}
use Rattle.place_calls.specs.declared.refusals.PlaceRefusal.TheVariants.{Table, NoSlot, Fault, Memory, Room}
use Rattle.place_calls.specs.Chosen.{ChosenPlaces, ChosenPlacesUnder}
use Rattle.place_calls.specs.Places.{Places, PlacesUnder}

module _ (nodes : Nodes) (table : List ℕ) (printed : IsPrintedTable nodes table) where
  pub places_by_text : (bytes : List ℕ) (old new : List Place) (result : Result (Form × ℕ) PlaceRefusal) → PlacesUnder nodes bytes old new result → Places table bytes old new result
  places_by_text bytes old new (Ok answer) (list, context, form, holds) = (nodes, printed, list, context, form, holds)
  places_by_text bytes old new (Err (Room size)) (list, context, few) = (nodes, printed, list, context, few)
  places_by_text bytes old new (Err (Fault offset code)) (fault, same) = (nodes, printed, fault, same)
  places_by_text bytes old new (Err (Table line code)) none = absurd none
  places_by_text bytes old new (Err (NoSlot which)) none = none
  places_by_text bytes old new (Err Memory) same = same

  pub chosen_by_text : (chosen bytes : List ℕ) (old new : List Place) (result : Result (Form × ℕ) PlaceRefusal) → ChosenPlacesUnder nodes chosen bytes old new result → ChosenPlaces table chosen bytes old new result
  chosen_by_text chosen bytes old new (Ok answer) so = (nodes, printed, so)
  chosen_by_text chosen bytes old new (Err (Room size)) so = (nodes, printed, so)
  chosen_by_text chosen bytes old new (Err (Fault offset code)) so = (nodes, printed, so)
  chosen_by_text chosen bytes old new (Err (Table line code)) none = absurd none
  chosen_by_text chosen bytes old new (Err (NoSlot which)) so = (nodes, printed, so)
  chosen_by_text chosen bytes old new (Err Memory) same = same
