-- Where a byte of a source is.
use Rattle.std.specs.Prelude.{ℕ, ◌+◌, List, ◌==◌, if◌then◌else◌}
use Rattle.std.specs.List.{fold}
use Rattle.bdl_lexer.specs.declared.lexer.Place.{Place}
use Rattle.bdl_lexer.specs.Bytes.{line_feed}

-- A source begins at its line 1 and column 1.
abbrev pub first_place : Place
first_place = record { at = 0; line = 1; column = 1 }

-- A line feed ends its line, and any other byte is one column.
abbrev pub next_place : Place → ℕ → Place
next_place place byte =
    if byte == line_feed then record { at = place.at + 1; line = place.line + 1; column = 1 }
    else record { at = place.at + 1; line = place.line; column = place.column + 1 }

-- The place after these bytes.
abbrev pub place_behind : Place → List ℕ → Place
place_behind place text = fold next_place place text
