-- The parts of a header's value.
use Rattle.std.specs.Prelude.{ℕ, ◌-◌, Bool, ◌==◌, ◌||◌, List, map, length, take, drop, reverse}
use Rattle.std.specs.List.{slice_split, flat_map, take_while}

-- The byte is a space or a tabulator.
abbrev pub is_space : ℕ → Bool
is_space byte = (byte == 32) || (byte == 9)

-- How many blanks bytes begin with.
abbrev pub blanks_before : List ℕ → ℕ
blanks_before bytes = length (take_while is_space bytes)

-- Bytes without the blanks that they begin with.
abbrev pub without_leading : List ℕ → List ℕ
without_leading bytes = drop (blanks_before bytes) bytes

-- Bytes without the blanks that they end with.
abbrev pub without_trailing : List ℕ → List ℕ
without_trailing bytes = take (length bytes - blanks_before (reverse bytes)) bytes

-- Bytes without the blanks at both ends.
abbrev pub without_blanks : List ℕ → List ℕ
without_blanks bytes = without_trailing (without_leading bytes)

-- The parts of a value: it is cut at its commas, and blanks around a part are dropped. A value has
-- a comma less than parts, so it always has a part.
abbrev pub parts_of : List ℕ → List (List ℕ)
parts_of value = map without_blanks (slice_split (λ byte. byte == 44) value)

-- The parts of all values, in order.
abbrev pub all_parts : List (List ℕ) → List (List ℕ)
all_parts values = flat_map parts_of values
