-- What a walk over the gaps and the slots of a table knows of a list.
use Rattle.std.specs.Prelude.{◌≡◌, ◌≢◌, ◌↔◌, ℕ, zero, suc, ◌+◌, ◌^◌, ◌<◌, ◌≤◌, List, [], get_or, length, slice_get, Option, Some, None}
use Rattle.std.specs.declared.cmp.Ordering.TheVariants.{Less}
use Rattle.context_model.specs.Atoms.{Atom}
use Rattle.context_model.specs.Kinds.{atom_of}
use Rattle.context_model.specs.Kinds.Kind.{Indexed}
use Rattle.context_model.specs.Orders.{Path, path_cmp}
use Rattle.context_model.specs.Paths.{atom_at, path_at}
use Rattle.context_model.specs.WellFormed.{IsWellFormed}
use Rattle.context_model.specs.Ended.{field_path}
use Rattle.context_model.specs.Merged.{SomeHasPath}
use Rattle.bag_model.specs.Shapes.{Nodes}
use Rattle.bag_model.specs.Slots.{SlotAt, slots_of}
use Rattle.bag_model.specs.Tables.{IsTable}
use Rattle.bag_walks.specs.Searches.{IsFirstBeyond}
use Rattle.keep_calls.specs.declared.others.Others.{Others}
use Rattle.keep_calls.specs.Kept.{IsToldOf, GoesTo}

-- A number of 16 bits.
abbrev pub IsSmall : ℕ → Type 0
IsSmall n = n < 2 ^ 16

-- The slot just before this one, if there is one.
abbrev pub slot_before : List SlotAt → ℕ → Option SlotAt
slot_before slots zero = None
slot_before slots (suc slot) = slice_get slots slot

-- At this place the gap before the slot begins: the first place beyond the slot before, or the
-- first of all.
abbrev pub IsGapStart : Nodes → List Atom → ℕ → ℕ → Type 0
IsGapStart nodes list zero from = from ≡ 0
IsGapStart nodes list (suc slot) from =
    (at : SlotAt) × (slice_get (slots_of nodes) slot ≡ Some at)
    × IsFirstBeyond list (field_path at.numbers) from

-- The atoms from the first place up to the second are those in the gap before this slot, or after
-- the last one.
pub record IsGapPart (nodes : Nodes) (list : List Atom) (slot from to : ℕ) : Type 0 where
  pub table : IsTable nodes
  pub well_formed : IsWellFormed list
  pub rises : from ≤ to
  pub within : to ≤ length list
  pub starts : IsGapStart nodes list slot from
  pub before : (at : SlotAt) (place : ℕ) → slice_get (slots_of nodes) slot ≡ Some at → place < to
      → path_cmp (path_at list place) (field_path at.numbers) ≡ Less

-- A mark tells of one of these atoms.
pub record IsSomeTold (others : Others) (nodes : Nodes) (list : List Atom)
    (from to : ℕ) : Type 0 where
  pub place : ℕ
  pub from_on : from ≤ place
  pub up_to : place < to
  pub told : IsToldOf others nodes (path_at list place)

-- The paths of the pieces are all that the paths before this place go to.
abbrev pub HoldUpTo : Nodes → Others → List Atom → ℕ → List (List Atom) → Type 0
HoldUpTo nodes others list to pieces =
    (q : Path) → SomeHasPath pieces q
    ↔ ((place : ℕ) × (place < to) × GoesTo nodes others (path_at list place) q)

-- The number is that of the first numbers that are the same in both, and no more are.
pub record AreShared (a b : List ℕ) (count : ℕ) : Type 0 where
  pub first : count ≤ length a
  pub second : count ≤ length b
  pub same : (k : ℕ) → k < count → get_or a k 0 ≡ get_or b k 0
  pub ends : count < length a → count < length b → get_or a count 0 ≢ get_or b count 0

-- The atom at this place is the header of the number at this level.
abbrev pub IsHeaderToSlot : List Atom → List ℕ → ℕ → ℕ → Type 0
IsHeaderToSlot list numbers level place =
    (level < length numbers)
    × (atom_at list place ≡ atom_of (Indexed level (get_or numbers level 0)))

-- The atoms from the first place up to the second are headers of the numbers, one level after
-- another from this one on.
abbrev pub LeadOn : List Atom → List ℕ → ℕ → ℕ → ℕ → Type 0
LeadOn list numbers level from to =
    (k : ℕ) → from + k < to → IsHeaderToSlot list numbers (level + k) (from + k)

-- How many first numbers the slot at this place and the one before have in common; the first slot
-- has none before.
abbrev pub IsLevelShared : List SlotAt → ℕ → ℕ → Type 0
IsLevelShared slots zero count = count ≡ 0
IsLevelShared slots (suc slot) count =
    (a b : SlotAt) → slice_get slots slot ≡ Some a → slice_get slots (suc slot) ≡ Some b
    → AreShared a.numbers b.numbers count

-- There is a marker from the first place up to the second.
abbrev pub HasMarkerAmong : List Atom → ℕ → ℕ → Type 0
HasMarkerAmong list from to =
    (place : ℕ) × (from ≤ place) × (place < to) × (atom_at list place ≡ [])
