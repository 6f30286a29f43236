-- The kinds of bytes that the definition language tells apart.
use Rattle.std.specs.Prelude.{ℕ, Bool, ◌||◌, not, ◌==◌, codes}
use Rattle.std.specs.Char.{is_ascii_alphabetic, is_ascii_digit}
use Rattle.std.specs.List.{list_any}

-- The byte of a line feed.
abbrev pub line_feed : ℕ
line_feed = 10

-- The byte of a double quote.
abbrev pub quote : ℕ
quote = 34

-- The byte of a star.
abbrev pub star : ℕ
star = 42

-- The byte of a slash.
abbrev pub slash : ℕ
slash = 47

-- Space, tab, carriage return and line feed are blanks.
abbrev pub is_blank : ℕ → Bool
is_blank b = b == 32 || b == 9 || b == 13 || b == line_feed

-- A letter is A to Z, a to z or `_`.
abbrev pub is_letter : ℕ → Bool
is_letter b = is_ascii_alphabetic b || b == 95

-- A letter or a decimal digit.
abbrev pub is_word_byte : ℕ → Bool
is_word_byte b = is_letter b || is_ascii_digit b

-- A Text holds any bytes but quotes and line feeds.
abbrev pub is_text_byte : ℕ → Bool
is_text_byte b = not (b == quote || b == line_feed)

-- A line holds any bytes but line feeds.
abbrev pub is_line_byte : ℕ → Bool
is_line_byte b = not (b == line_feed)

-- The signs.
abbrev pub is_sign : ℕ → Bool
is_sign b = list_any (λ sign. b == sign) (codes "{}<>,;=")
