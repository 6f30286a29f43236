-- The context that the values of a header carry.
use Rattle.std.specs.Prelude.{◌≡◌, ◌↔◌, ℕ, zero, suc, ◌-◌, IsTrue, List, [], ◌∷◌, length, map, Option, None, Result, Ok, Err}
use Rattle.context_model.specs.declared.Form.{Form}
use Rattle.context_model.specs.Atoms.{Atom}
use Rattle.context_model.specs.Ended.{HasMarker}
use Rattle.context_model.specs.Framing.{bytes_of}
use Rattle.context_model.specs.Merged.{IsMerged}
use Rattle.context_model.specs.Trimmed.{trimmed}
use Rattle.byte_forward.specs.Room.{HoldsBytes, IsTooShortFor}
use Rattle.byte_calls.specs.declared.refusals.Refusal.{Refusal}
use Rattle.byte_calls.specs.declared.refusals.Refusal.TheVariants.{Fault, Memory, Room}
use Rattle.header_text.specs.Parts.{all_parts}
use Rattle.header_text.specs.Reading.{counted_context, lost_list}
use Rattle.header_calls.specs.declared.extracting.Absent.{Absent}
use Rattle.header_calls.specs.declared.extracting.Absent.TheVariants.{Empty, Lost}
use Rattle.header_calls.specs.declared.extracting.Extracted.{Extracted}
use Rattle.header_calls.specs.Values.{AreReadingsOf, lost_of}

-- What came, part by part. Where no part came, nothing did, or what was promised is lost.
abbrev pub AreComing : Absent → List (List ℕ) → List (Option (List Atom)) → Type 0
AreComing Lost [] readings = readings ≡ None ∷ []
AreComing absent parts readings = AreReadingsOf parts readings

-- The merge of what all parts of the values carry, where the lost context counts for each part that
-- carries none; how many parts there are; and how many of them are lost.
pub record IsExtractOf (absent : Absent) (values : List (List ℕ)) (list : List Atom)
    (parts lost : ℕ) : Type 0 where
  pub readings : List (Option (List Atom))
  pub come : AreComing absent (all_parts values) readings
  pub merged : IsMerged (map counted_context readings) list
  pub parts_are : parts ≡ length (all_parts values)
  pub lost_are : lost ≡ lost_of readings

-- The extract, cut to the budget, is at the beginning of the buffer, and the answer is its size,
-- what came, and whether it has a marker. Otherwise nothing is written: the buffer is too short for
-- it, of whose size the answer is; or there is no memory.
abbrev pub ExtractsInto : Form → Absent → List (List ℕ) → ℕ → List ℕ → List ℕ
    → Result Extracted Refusal → Type 0
ExtractsInto form absent values budget old new (Ok found) =
    (list : List Atom) × IsExtractOf absent values list found.parts found.lost
    × HoldsBytes (bytes_of form (trimmed form list budget)) found.size old new
    × (IsTrue found.partial ↔ HasMarker (trimmed form list budget))
ExtractsInto form absent values budget old new (Err (Room size)) =
    (list : List Atom) × (parts lost : ℕ) × IsExtractOf absent values list parts lost
    × IsTooShortFor (bytes_of form (trimmed form list budget)) size old new
ExtractsInto form absent values budget old new (Err Memory) = new ≡ old
ExtractsInto form absent values budget old new (Err (Fault context offset code)) = ⊥

-- ---- steps of the extract

-- How many parts are lost where so many came, and so many carry contexts.
abbrev pub lost_among : Absent → ℕ → ℕ → ℕ
lost_among Lost zero carried = 1
lost_among absent parts carried = parts - carried

-- The lost context where something is lost.
abbrev pub lost_once : ℕ → List (List Atom)
lost_once zero = []
lost_once (suc n) = lost_list ∷ []
