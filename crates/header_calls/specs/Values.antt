-- What the parts of a header's values carry.
use Rattle.std.specs.Prelude.{◌≡◌, ℕ, zero, suc, List, [], ◌∷◌, ◌++◌, length, map, Option, None, Some}
use Rattle.std.specs.Option.{option_map_or}
use Rattle.context_model.specs.Atoms.{Atom}
use Rattle.byte_calls.specs.Spans.{inputs_of}
use Rattle.header_text.specs.Parts.{all_parts, parts_of}
use Rattle.header_text.specs.Reading.{IsReadFrom}
use Rattle.header_calls.specs.declared.values.Parts.{Parts}

-- Each part is read as this, one by one.
abbrev pub AreReadingsOf : List (List ℕ) → List (Option (List Atom)) → Type 0
AreReadingsOf [] [] = Unit {0}
AreReadingsOf (part ∷ parts) (reading ∷ readings) =
    IsReadFrom part reading × AreReadingsOf parts readings
AreReadingsOf parts readings = ⊥

-- The contexts that were read, in order.
abbrev pub carried_of : List (Option (List Atom)) → List (List Atom)
carried_of [] = []
carried_of (Some list ∷ readings) = list ∷ carried_of readings
carried_of (None ∷ readings) = carried_of readings

-- How many parts carry none.
abbrev pub lost_of : List (Option (List Atom)) → ℕ
lost_of [] = zero
lost_of (Some list ∷ readings) = lost_of readings
lost_of (None ∷ readings) = suc (lost_of readings)

-- The parts carry these contexts, in order, and this is how many parts there are.
pub record AreReadFrom (parts : List (List ℕ)) (contexts : List (List Atom))
    (count : ℕ) : Type 0 where
  pub readings : List (Option (List Atom))
  pub are : AreReadingsOf parts readings
  pub carried : contexts ≡ carried_of readings
  pub counted_context : count ≡ length readings

-- ---- steps of the reading

-- The parts that are still to come: those of what is left of a value, and those of the values after
-- it.
abbrev pub parts_left : Parts → List (List ℕ)
parts_left parts =
    option_map_or (λ rest. parts_of rest.now) parts.rest []
    ++ all_parts (inputs_of parts.values.now)

-- What a part carries is appended.
abbrev pub IsPartRead : List ℕ → List (List Atom) → List (List Atom) → Type 0
IsPartRead part old new =
    (reading : Option (List Atom)) × IsReadFrom part reading
    × (new ≡ old ++ carried_of (reading ∷ []))

-- The parts before those that are left were read, and carry these contexts.
pub record AreReadSoFar (all left : List (List ℕ)) (contexts : List (List Atom))
    (count : ℕ) : Type 0 where
  pub past : List (List ℕ)
  pub split : all ≡ past ++ left
  pub read : AreReadFrom past contexts count
