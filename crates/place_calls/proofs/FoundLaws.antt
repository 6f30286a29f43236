-- The places of a bag's slots, one field after another.
use Rattle.std.proofs.Common.{◌≡◌, ℕ, zero, suc, ◌+◌, ◌<◌, ◌≤◌, List, [], ◌∷◌, ◌++◌, take, drop, set, length, Option, Some, refl, sym, ap, ◌∙◌, subst, append_assoc, arith}
use Rattle.std.specs.List.{slice_get}
use Rattle.std.proofs.lemmas.List.{length-append, take_more_set, drop-set-lt, take-append-drop, length-set}
use Rattle.context_model.specs.Atoms.{Atom}
use Rattle.context_model.specs.Ended.{field_path}
use Rattle.context_model.specs.Kinds.{atom_of}
use Rattle.context_model.specs.Kinds.Kind.{Indexed}
use Rattle.context_model.specs.Orders.{Path}
use Rattle.context_model.specs.Paths.{path_before}
use Rattle.bag_model.specs.Readings.{PathsOf, node_path}
use Rattle.bag_model.specs.Shapes.{Shape, Nodes, Field, fields}
use Rattle.bag_model.specs.Slots.{SlotAt, slots_in, slots_of, slot_count, starts}
use Rattle.bag_model.proofs.SlotLaws.{slots_list, slots_of-list, length-slots, starts-zero, starts-bound, starts-all}
use Rattle.field_table.proofs.Held.{start_next}
use Rattle.bag_scan.proofs.SpanLaws.{adds_field, beyond_bare}
use Rattle.bag_walks.specs.Parts.{IsBehind, IsSegment}
use Rattle.bag_walks.specs.Slots.{AddsEach, AreEach}
use Rattle.bag_walks.proofs.EachSlot.{adds-none, adds-one, each-count}
use Rattle.place_calls.specs.Found.{IsFirstMisspelled, IsAbsentAt, IsPartAt, IsPlaceOfPath, PutsPlacesOf, with_places}
use Rattle.place_calls.specs.Places.{IsPlaceInBytes, ArePlacesInBytes, HoldsPlaces}
use Rattle.place_calls.specs.declared.found.Searched.{Searched}
use Rattle.place_calls.specs.declared.places.Place.{Place}

-- ---- how many slots are before a field

-- The number of the next field's first slot, when the walk has come so far.
pub count_none : (nodes : Nodes) (slot : ℕ) → slot ≡ slot + starts (fields nodes) 0
count_none nodes slot = omega (arith, starts-zero (fields nodes))

pub count_next : (nodes : Nodes) (i : ℕ) (f : Field) (slot next later : ℕ) → slice_get (fields nodes) i ≡ Some f → next ≡ slot + starts (fields nodes) i → later ≡ next + slot_count f.shape → later ≡ slot + starts (fields nodes) (i + 1)
count_next nodes i f slot next later there count more =
    let one : starts (fields nodes) (i + 1) ≡ starts (fields nodes) i + slot_count f.shape = ap (starts (fields nodes)) (let same : i + 1 ≡ suc i = omega arith in same) ∙ start_next (fields nodes) i f there in
    omega (arith, one, count, more)

pub count_all : (nodes : Nodes) (i slot next : ℕ) → length (fields nodes) ≤ i → next ≡ slot + starts (fields nodes) i → next ≡ slot + length (slots_of nodes)
count_all nodes i slot next all count = omega (arith, count, starts-all (fields nodes) i all, ap length (slots_of-list nodes))

-- There are numbers for the slots of the next field where there are for all.
pub count_fits : (nodes : Nodes) (i : ℕ) (f : Field) (slot next most : ℕ) → slice_get (fields nodes) i ≡ Some f → next ≡ slot + starts (fields nodes) i → slot + length (slots_of nodes) < most → next + slot_count f.shape < most
count_fits nodes i f slot next most there count fits =
    omega (arith, count, fits, start_next (fields nodes) i f there, starts-bound (fields nodes) (suc i), ap length (slots_of-list nodes))

starts_take : (fs : List Field) (i : ℕ) → length (slots_list (take i fs)) ≡ starts fs i
starts_take [] zero = refl
starts_take [] (suc i) = refl
starts_take (f ∷ fs) zero = refl
starts_take (f ∷ fs) (suc i) = length-slots f (take i fs) ∙ ap (λ n. slot_count f.shape + n) (starts_take fs i)

-- ---- places that are written one after another

pub put_more : (room : List Place) (k : ℕ) (places : List Place) (place : Place) → with_places room k (places ++ place ∷ []) ≡ set (with_places room k places) (k + length places) place
put_more room k [] place = ap (λ n. set room n place) (let same : k ≡ k + 0 = omega arith in same)
put_more room k (p ∷ places) place =
    put_more (set room k p) (suc k) places place ∙ ap (λ n. set (with_places (set room k p) (suc k) places) n place) (let same : suc k + length places ≡ k + suc (length places) = omega arith in same)

-- Where the array has room for all, it begins as before, and they follow.
pub put_front : (room : List Place) (k : ℕ) (places : List Place) → k + length places ≤ length room → with_places room k places ≡ take k room ++ (places ++ drop (k + length places) room)
put_front room k [] fits = sym (take-append-drop k room) ∙ ap (λ n. take k room ++ drop n room) (let same : k ≡ k + 0 = omega arith in same)
put_front room k (p ∷ places) fits =
    put_front (set room k p) (suc k) places (omega (arith, fits, length-set room k p))
    ∙ ap (λ front. front ++ (places ++ drop (suc k + length places) (set room k p)))
    (ap (λ n. take n (set room k p)) (let same : suc k ≡ k + 1 = omega arith in same) ∙ take_more_set room k p (omega (arith, fits)))
    ∙ append_assoc (take k room) (p ∷ []) (places ++ drop (suc k + length places) (set room k p))
    ∙ ap (λ back. take k room ++ p ∷ (places ++ back)) (drop-set-lt (suc k + length places) room k p (omega arith) ∙ ap (λ n. drop n room) (let same : suc k + length places ≡ k + suc (length places) = omega arith in same))

-- ---- what is found of a field

pub part_found : (list : List Atom) (from level stop : ℕ) (shape : Shape) (misspelled : Option ℕ) → IsBehind list (path_before list from) from → length (path_before list from) ≡ level → IsSegment list level from stop
    → IsFirstMisspelled list (path_before list from) shape misspelled → IsPartAt list (path_before list from) shape from stop misspelled
part_found list from level stop shape misspelled behind own segment first = record {
  span = (behind, subst (λ d. IsSegment list d from stop) (sym own) segment);
  first = first;
}

-- Where a bag isn't there, no field of it is.
pub gap_below : (list : List Atom) (q : Path) (stop number : ℕ) → IsAbsentAt list q stop → IsAbsentAt list (node_path q number) stop
gap_below list q stop number gap =
    let h = atom_of (Indexed (length q) number) in
    record {
      bare = λ rest p. gap.bare (h ∷ rest) (subst (PathsOf list) (append_assoc q (h ∷ []) rest) p);
      first = beyond_bare list q h stop gap.bare gap.first;
    }

module _ (searched : Searched) where
  abbrev list : List Atom
  list = searched.list.now

  abbrev Is : Path → Shape → Place → Type 0
  Is = IsPlaceOfPath searched.form list

  -- The place of a part at a path is that of each slot there.
  pub part_there : (q : Path) (shape : Shape) (from stop : ℕ) (misspelled : Option ℕ) (place : Place) → IsPartAt list q shape from stop misspelled
      → ((at : SlotAt) → IsPartAt list (field_path at.numbers) at.shape from stop misspelled → IsPlaceInBytes searched.form list at place) → Is q shape place
  part_there q shape from stop misspelled place its told = λ at path shape_is.
      told at (subst (λ own. IsPartAt list (field_path at.numbers) own from stop misspelled) (sym shape_is) (subst (λ p. IsPartAt list p shape from stop misspelled) (sym path) its))

  pub gap_there : (q : Path) (shape : Shape) (stop : ℕ) (place : Place) → IsAbsentAt list q stop → ((at : SlotAt) → IsAbsentAt list (field_path at.numbers) stop → IsPlaceInBytes searched.form list at place) → Is q shape place
  gap_there q shape stop place gap told = λ at path shape_is. told at (subst (λ p. IsAbsentAt list p stop) (sym path) gap)

  pub puts_none : (q : Path) (slot : ℕ) (places : List Place) → PutsPlacesOf searched [] q slot places places
  puts_none q slot places = λ room before long is. (before, adds-none Is q before, is)

  -- One slot that is a field of its own.
  pub puts_one : (shape : Shape) (q : Path) (slot : ℕ) (old : List Place) (place : Place) → slots_in shape ≡ record { names = []; numbers = []; shape = shape } ∷ [] → Is q shape place
      → PutsPlacesOf searched (slots_in shape) q slot old (set old slot place)
  puts_one shape q slot old place own is = λ room before long was. (
    before ++ place ∷ [],
    subst (λ slots. AddsEach Is slots q before (before ++ place ∷ [])) (sym own) (adds-one Is shape q before place is),
    ap (λ l. set l slot place) was ∙ ap (λ n. set (with_places room 0 before) n place) (let same : slot ≡ 0 + length before = omega (arith, long) in same) ∙ sym (put_more room 0 before place),
  )

  -- The slots of one field more.
  pub puts_field : (fs : List Field) (i : ℕ) (f : Field) (q : Path) (slot next : ℕ) (old mid new : List Place) → slice_get fs i ≡ Some f → next ≡ slot + starts fs i
      → PutsPlacesOf searched (slots_list (take i fs)) q slot old mid → PutsPlacesOf searched (slots_in f.shape) (node_path q f.number) next mid new
      → PutsPlacesOf searched (slots_list (take (i + 1) fs)) q slot old new
  puts_field fs i f q slot next old mid new there count before own = λ room places long is.
      let (some, adds, mid_is) = before room places long is in
      let added : length some ≡ length places + length adds.new = ap length adds.appended ∙ length-append places adds.new in
      let many : length adds.new ≡ starts fs i = each-count Is (slots_list (take i fs)) q adds.new adds.each ∙ starts_take fs i in
      let (all, more, new_is) = own room some (omega (arith, added, many, long, count)) mid_is in
      (all, adds_field Is fs i f q places some all there adds more, new_is)

  are_places : (slots : List SlotAt) (places : List Place) → AreEach Is slots [] places → ArePlacesInBytes searched.form list slots places
  are_places [] [] each = tt
  are_places [] (p ∷ places) each = absurd each
  are_places (s ∷ slots) [] each = absurd each
  are_places (s ∷ slots) (p ∷ places) each = (each.0 s refl refl, are_places slots places each.1)

  -- All of them, in an array that has room for them.
  pub puts_all : (slots : List SlotAt) (count : ℕ) (old new : List Place) → count ≡ length slots → count ≤ length old → PutsPlacesOf searched slots [] 0 old new → HoldsPlaces searched.form list slots count old new
  puts_all slots count old new all fits puts =
      let (found, adds, is) = puts old [] refl refl in
      let same : found ≡ adds.new = adds.appended in
      let many : length found ≡ length slots = ap length same ∙ each-count Is slots [] adds.new adds.each in
      let size : 0 + length found ≡ count = omega (arith, many, all) in
      record {
        found = found;
        places = are_places slots found (subst (AreEach Is slots []) (sym same) adds.each);
        count = all;
        fits = fits;
        stands = is ∙ put_front old 0 found (omega (arith, size, fits)) ∙ ap (λ n. found ++ drop n old) size;
      }
