-- What is kept of a list: what is below the slots of a table, and markers that tell of the rest.
use Rattle.std.specs.Prelude.{◌≡◌, ◌≢◌, ◌⊎◌, ℕ, ◌+◌, Bool, true, false, not, if◌then◌else◌, List, [], ◌∷◌, ◌++◌, Option, Some, None}
use Rattle.std.specs.List.{flat_map, list_any}
use Rattle.std.specs.declared.cmp.Ordering.TheVariants.{Less}
use Rattle.context_model.specs.Atoms.{Atom}
use Rattle.context_model.specs.Orders.{Path, atom_cmp, path_cmp, IsIn, by_order}
use Rattle.context_model.specs.Paths.{paths}
use Rattle.context_model.specs.Ended.{IsBelow, field_path}
use Rattle.context_model.specs.Merged.{HasPaths, last_atom, merge_of}
use Rattle.bag_model.specs.Shapes.{Nodes}
use Rattle.bag_model.specs.Slots.{SlotAt, slots_of}
use Rattle.bag_model.specs.Readings.{PathsOf}
use Rattle.keep_calls.specs.declared.others.Others.{Others}
use Rattle.keep_calls.specs.declared.others.Others.TheVariants.{Cut, Unsaid}

-- The path is that of a slot of the table, or is below one.
abbrev pub IsKeptPath : Nodes → Path → Type 0
IsKeptPath nodes p =
    (slot : SlotAt) × IsIn slot (slots_of nodes) × IsBelow (field_path slot.numbers) p

-- The path leads to a slot of the table.
abbrev pub IsOnTheWay : Nodes → Path → Type 0
IsOnTheWay nodes p =
    (slot : SlotAt) × IsIn slot (slots_of nodes) × IsBelow p (field_path slot.numbers)

-- The path of the slot comes before p.
abbrev pub IsSlotBefore : Path → SlotAt → Type 0
IsSlotBefore p slot = path_cmp (field_path slot.numbers) p ≡ Less

-- The gap of a path: the last slot of the table before it, or none.
abbrev pub IsGap : Nodes → Path → Option SlotAt → Type 0
IsGap nodes p None = (other : SlotAt) → IsIn other (slots_of nodes) → IsSlotBefore p other → ⊥
IsGap nodes p (Some slot) =
    IsIn slot (slots_of nodes) × IsSlotBefore p slot
    × ((other : SlotAt) → IsIn other (slots_of nodes) → IsSlotBefore p other
    → path_cmp (field_path slot.numbers) (field_path other.numbers) ≡ Less → ⊥)

-- The numbers with the last one greater by one.
abbrev pub next_numbers : List ℕ → List ℕ
next_numbers [] = []
next_numbers (number ∷ []) = (number + 1) ∷ []
next_numbers (number ∷ other ∷ numbers) = number ∷ next_numbers (other ∷ numbers)

-- The mark of a gap: the next header after that of its slot, and a marker. Before all slots it is a
-- marker alone.
abbrev pub gap_mark : Option SlotAt → Path
gap_mark None = [] ∷ []
gap_mark (Some slot) = field_path (next_numbers slot.numbers) ++ [] ∷ []

-- The mark of its gap tells of this path, if it isn't kept: markers are always told of, and with
-- Cut all else that doesn't lead to a slot.
abbrev pub IsToldOf : Others → Nodes → Path → Type 0
IsToldOf Cut nodes p = IsOnTheWay nodes p → ⊥
IsToldOf Unsaid nodes p = last_atom p ≡ []

-- What becomes of a path: itself where it is kept, and otherwise the mark of its gap if that tells
-- of it.
abbrev pub Becomes : Others → Nodes → Path → Path → Type 0
Becomes others nodes p t =
    (IsKeptPath nodes p × (t ≡ p))
    ⊎ ((IsKeptPath nodes p → ⊥) × IsToldOf others nodes p
    × ((gap : Option SlotAt) × IsGap nodes p gap × (t ≡ gap_mark gap)))

-- A path goes to what becomes of it, and to the headers around that.
abbrev pub GoesTo : Nodes → Others → Path → Path → Type 0
GoesTo nodes others p q = (t : Path) × Becomes others nodes p t × (q ≢ []) × IsBelow q t

-- What is kept of a list: the well-formed list whose paths are all that the paths of the list go
-- to.
abbrev pub IsKeptOf : Nodes → Others → List Atom → List Atom → Type 0
IsKeptOf nodes others list kept =
    HasPaths kept (λ q. (p : Path) × PathsOf list p × GoesTo nodes others p q)

-- ---- a plain program that computes it

-- Whether the path q is s or below it.
abbrev pub is_below : Path → Path → Bool
is_below [] q = true
is_below (a ∷ s) [] = false
is_below (a ∷ s) (b ∷ q) = by_order (atom_cmp a b) false (is_below s q) false

-- The later one of a slot and the one given, if there is one.
abbrev pub later_slot : SlotAt → Option SlotAt → SlotAt
later_slot slot None = slot
later_slot slot (Some other) =
    by_order (path_cmp (field_path slot.numbers) (field_path other.numbers)) other slot slot

-- The last of the slots before a path.
abbrev pub gap_of : List SlotAt → Path → Option SlotAt
gap_of [] p = None
gap_of (slot ∷ slots) p =
    by_order (path_cmp (field_path slot.numbers) p) (Some (later_slot slot (gap_of slots p)))
    (gap_of slots p) (gap_of slots p)

-- Whether an atom is a marker.
abbrev pub is_marker : Atom → Bool
is_marker [] = true
is_marker (b ∷ bytes) = false

-- Whether the mark of its gap tells of a path that isn't kept.
abbrev pub is_told : Others → List SlotAt → Path → Bool
is_told Cut slots p = not (list_any (λ slot. is_below p (field_path slot.numbers)) slots)
is_told Unsaid slots p = is_marker (last_atom p)

-- What becomes of a path: one path or none.
abbrev pub becoming : Others → List SlotAt → Path → List Path
becoming others slots p =
    if list_any (λ slot. is_below (field_path slot.numbers) p) slots then p ∷ []
    else if is_told others slots p then gap_mark (gap_of slots p) ∷ []
    else []

-- What is kept of a list: the merge of all that its paths become, each a list of its own.
abbrev pub kept_list : Nodes → Others → List Atom → List Atom
kept_list nodes others list = merge_of (flat_map (becoming others (slots_of nodes)) (paths list))
