-- What a walk finds of the slots of a table, one thing each.
use Rattle.std.specs.Prelude.{◌≡◌, ℕ, List, [], ◌∷◌, ◌++◌, length, Option, Some, None}
use Rattle.context_model.specs.Atoms.{Atom}
use Rattle.context_model.specs.Ended.{field_path_from}
use Rattle.context_model.specs.Orders.{Path}
use Rattle.bag_model.specs.Readings.{PathsOf}
use Rattle.bag_model.specs.Shapes.{Shape}
use Rattle.bag_model.specs.Slots.{SlotAt}
use Rattle.bag_walks.specs.Parts.{IsBehind, IsSegment}
use Rattle.bag_walks.specs.Searches.{IsFirstBeyond}

-- The path of a slot that is seen from a bag with the path q.
abbrev pub slot_path : Path → SlotAt → Path
slot_path q slot = q ++ field_path_from (length q) slot.numbers

-- Of each slot R holds, with its path, its shape and what was found of it.
abbrev pub AreEach : {X : Type 0} → (Path → Shape → X → Type 0) → List SlotAt → Path → List X
    → Type 0
AreEach R [] q [] = Unit {0}
AreEach R [] q (x ∷ xs) = ⊥
AreEach R (slot ∷ slots) q [] = ⊥
AreEach R (slot ∷ slots) q (x ∷ xs) = R (slot_path q slot) slot.shape x × AreEach R slots q xs

-- What was found of these slots follows what was found before.
pub record AddsEach {X : Type 0} (R : Path → Shape → X → Type 0) (slots : List SlotAt) (q : Path)
    (before after : List X) : Type 0 where
  pub new : List X
  pub appended : after ≡ before ++ new
  pub each : AreEach R slots q new

-- Where the field with the path s is: its part begins after its header, or there is none, and a
-- walk goes on at the first place beyond it.
abbrev pub IsSpanOf : List Atom → Path → Option ℕ → ℕ → Type 0
IsSpanOf list s (Some from) stop = IsBehind list s from × IsSegment list (length s) from stop
IsSpanOf list s None stop = (PathsOf list s → ⊥) × IsFirstBeyond list s stop
