-- The places of chosen slots.
use Rattle.std.proofs.Common.{◌≡◌, ℕ, zero, suc, ◌+◌, ◌<◌, ◌≤◌, List, [], ◌∷◌, ◌++◌, length, take, drop, set, map, get_or, Option, Some, None, refl, sym, ap, ◌∙◌, subst, length-take-le, arith}
use Rattle.std.specs.List.{slice_get}
use Rattle.std.specs.Option.{option_map}
use Rattle.std.proofs.lemmas.List.{take_all}
use Rattle.std.proofs.lemmas.Option.{slice_get-get_or}
use Rattle.context_model.specs.declared.Form.{Form}
use Rattle.context_model.specs.Atoms.{Atom}
use Rattle.context_model.specs.Ended.{field_path}
use Rattle.bag_model.specs.Shapes.{Shape, Nodes}
use Rattle.bag_model.specs.Slots.{SlotAt, slots_of}
use Rattle.bag_model.specs.SlotValues.{HasSlot}
use Rattle.bag_model.specs.Tables.{IsTable, levels_under}
use Rattle.place_calls.specs.declared.places.Place.{Place}
use Rattle.place_calls.specs.Chosen.{AreChosenPlaces, IsPlaceOfSlot, HoldsChosen, ChosenAreOfAll}
use Rattle.place_calls.specs.Found.{IsAbsentAt, IsPlaceOfPath, with_places}
use Rattle.place_calls.specs.Places.{ArePlacesInBytes, IsPlaceInBytes}
use Rattle.place_calls.proofs.FoundLaws.{put_more, put_front}
use Rattle.place_calls.proofs.OnePlace.{one_place}
use Rattle.place_calls.proofs.SlotPlaces.{slot_room}
use Rattle.place_calls.proofs.Ways.{take_next}

-- ---- one slot

module _ (nodes : Nodes) (slot : ℕ) (numbers : List ℕ) (shape : Shape)
    (numbers_are : Some numbers ≡ option_map (λ (found : SlotAt). found.numbers) (slice_get (slots_of nodes) slot))
    (shape_is : Some shape ≡ option_map (λ (found : SlotAt). found.shape) (slice_get (slots_of nodes) slot)) where
  own_numbers : (at : SlotAt) → HasSlot nodes slot at → at.numbers ≡ numbers
  own_numbers at there =
      let same : Some numbers ≡ Some at.numbers = numbers_are ∙ ap (option_map (λ (found : SlotAt). found.numbers)) there in
      cc same

  own_shape : (at : SlotAt) → HasSlot nodes slot at → at.shape ≡ shape
  own_shape at there =
      let same : Some shape ≡ Some at.shape = shape_is ∙ ap (option_map (λ (found : SlotAt). found.shape)) there in
      cc same

  -- A place at the path of the slot's numbers is that of the slot.
  pub place_there : (form : Form) (list : List Atom) (place : Place) → IsPlaceOfPath form list (field_path numbers) shape place → (at : SlotAt) → HasSlot nodes slot at → IsPlaceInBytes form list at place
  place_there form list place told at there = told at (ap field_path (own_numbers at there)) (own_shape at there)

  -- So is one where nothing is at that path.
  pub gap_there : (form : Form) (list : List Atom) (stop : ℕ) (place : Place) → IsAbsentAt list (field_path numbers) stop → ((at : SlotAt) → IsAbsentAt list (field_path at.numbers) stop → IsPlaceInBytes form list at place)
      → (at : SlotAt) → HasSlot nodes slot at → IsPlaceInBytes form list at place
  gap_there form list stop place gap told at there = told at (subst (λ (ns : List ℕ). IsAbsentAt list (field_path ns) stop) (sym (own_numbers at there)) gap)

  -- The slot and what is below it take no more levels than there are.
  pub slot_levels : IsTable nodes → length numbers + levels_under shape ≤ 16
  slot_levels table = by (slice_get (slots_of nodes) slot) refl
    where
      by : (found : Option SlotAt) → slice_get (slots_of nodes) slot ≡ found → length numbers + levels_under shape ≤ 16
      by None none =
          let clash : Some numbers ≡ None = numbers_are ∙ ap (option_map (λ (found : SlotAt). found.numbers)) none in
          absurd (cc clash)
      by (Some at) there =
          let bound = slot_room nodes slot at there in
          subst (λ (ns : List ℕ). length ns + levels_under shape ≤ 16) (own_numbers at there)
          (subst (λ (s : Shape). length at.numbers + levels_under s ≤ 16) (own_shape at there) (omega (arith, bound, table.shallow)))

-- ---- slots, one after another

slot_there : (slots : List SlotAt) (k : ℕ) → k < length slots → (at : SlotAt) × (slice_get slots k ≡ Some at)
slot_there [] k less = absurd (omega (arith, less))
slot_there (s ∷ slots) zero less = (s, refl)
slot_there (s ∷ slots) (suc k) less = slot_there slots k (omega (arith, less))

module _ (form : Form) (nodes : Nodes) (list : List Atom) where
  chosen_count : (chosen : List ℕ) (found : List Place) → AreChosenPlaces form nodes list chosen found → length found ≡ length chosen
  chosen_count [] [] each = refl
  chosen_count [] (p ∷ found) each = absurd each
  chosen_count (slot ∷ chosen) [] each = absurd each
  chosen_count (slot ∷ chosen) (p ∷ found) each = ap suc (chosen_count chosen found each.1)

  chosen_push : (chosen : List ℕ) (found : List Place) (slot : ℕ) (place : Place) → AreChosenPlaces form nodes list chosen found → IsPlaceOfSlot form nodes list slot place
      → AreChosenPlaces form nodes list (chosen ++ slot ∷ []) (found ++ place ∷ [])
  chosen_push [] [] slot place each own = (own, tt)
  chosen_push [] (p ∷ found) slot place each own = absurd each
  chosen_push (s ∷ chosen) [] slot place each own = absurd each
  chosen_push (s ∷ chosen) (p ∷ found) slot place each own = (each.0, chosen_push chosen found slot place each.1 own)

  -- The array begins with the places of the first numbers.
  pub record HoldsFirst (chosen : List ℕ) (k : ℕ) (old new : List Place) : Type 0 where
    pub found : List Place
    pub places : AreChosenPlaces form nodes list (take k chosen) found
    pub stands : new ≡ with_places old 0 found

  pub holds_none : (chosen : List ℕ) (old : List Place) → HoldsFirst chosen 0 old old
  holds_none chosen old = record { found = []; places = tt; stands = refl }

  pub holds_next : (chosen : List ℕ) (k : ℕ) (old new : List Place) (place : Place) → k < length chosen → get_or chosen k 0 < length (slots_of nodes) → HoldsFirst chosen k old new
      → ((at : SlotAt) → HasSlot nodes (get_or chosen k 0) at → IsPlaceInBytes form list at place) → HoldsFirst chosen (k + 1) old (set new k place)
  holds_next chosen k old new place within slot first told =
      let (at, there) = slot_there (slots_of nodes) (get_or chosen k 0) slot in
      let count : length first.found ≡ k = chosen_count (take k chosen) first.found first.places ∙ length-take-le k chosen (omega (arith, within)) in
      record {
        found = first.found ++ place ∷ [];
        places = subst (λ (numbers : List ℕ). AreChosenPlaces form nodes list numbers (first.found ++ place ∷ [])) (sym (take_next chosen k (get_or chosen k 0) (slice_get-get_or chosen k 0 within)))
            (chosen_push (take k chosen) first.found (get_or chosen k 0) place first.places (at, there, told at there));
        stands = ap (λ places. set places k place) first.stands ∙ ap (λ n. set (with_places old 0 first.found) n place) (let same : k ≡ 0 + length first.found = omega (arith, count) in same)
            ∙ sym (put_more old 0 first.found place);
      }

  -- All of them.
  pub holds_all : (chosen : List ℕ) (k : ℕ) (old new : List Place) → length chosen ≤ k → length chosen ≤ length old → HoldsFirst chosen k old new → HoldsChosen form nodes list chosen old new
  holds_all chosen k old new all fits first =
      let places : AreChosenPlaces form nodes list chosen first.found = subst (λ (numbers : List ℕ). AreChosenPlaces form nodes list numbers first.found) (take_all k chosen all) first.places in
      let count : 0 + length first.found ≡ length chosen = omega (arith, chosen_count chosen first.found places) in
      record {
        found = first.found;
        places = places;
        fits = fits;
        stands = first.stands ∙ put_front old 0 first.found (omega (arith, count, fits)) ∙ ap (λ n. first.found ++ drop n old) count;
      }

-- ---- beside the places of all slots

place_at : (form : Form) (list : List Atom) (slots : List SlotAt) (all : List Place) (k : ℕ) (at : SlotAt) → ArePlacesInBytes form list slots all → slice_get slots k ≡ Some at
    → (place : Place) × (slice_get all k ≡ Some place) × IsPlaceInBytes form list at place
place_at form list [] all k at whole there = absurd (cc there)
place_at form list (s ∷ slots) [] k at whole there = absurd whole
place_at form list (s ∷ slots) (p ∷ all) zero at whole there =
    let same : s ≡ at = cc there in
    (p, refl, subst (λ (slot : SlotAt). IsPlaceInBytes form list slot p) same whole.0)
place_at form list (s ∷ slots) (p ∷ all) (suc k) at whole there = place_at form list slots all k at whole.1 there

pub chosen_of_all : ChosenAreOfAll
chosen_of_all form nodes list [] all [] table whole each = refl
chosen_of_all form nodes list [] all (p ∷ found) table whole each = absurd each
chosen_of_all form nodes list (slot ∷ chosen) all [] table whole each = absurd each
chosen_of_all form nodes list (slot ∷ chosen) all (p ∷ found) table whole ((at, there, own), each) =
    let (other, here, its) = place_at form list (slots_of nodes) all slot at whole there in
    let same : p ≡ other = one_place form nodes list slot at p other table there own its in
    ap (λ (first : Option Place). first ∷ map (λ (place : Place). Some place) found) (ap (λ (place : Place). Some place) same ∙ sym here)
    ∙ ap (λ (rest : List (Option Place)). slice_get all slot ∷ rest) (chosen_of_all form nodes list chosen all found table whole each)
