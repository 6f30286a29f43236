-- The text of a context's bytes as the value of a header.
use Rattle.std.specs.Prelude.{ℕ, ◌+◌, List, ◌∷◌, ◌++◌}
use Rattle.std.specs.Int.{to_be_bytes, w32}
use Rattle.base64.specs.Engines.{url_safe_no_pad}
use Rattle.base64.specs.GeneralPurpose.{encode_of}
use Rattle.base64.specs.Rfc4648.{unpadded_len}
use Rattle.header_text.specs.Check.{crc32}

-- The letters of bytes: base64 of the alphabet for URLs, without padding.
unfoldable pub letters : List ℕ → List ℕ
letters bytes = encode_of url_safe_no_pad bytes

-- The letters of the check of bytes: those of four bytes, most significant first.
unfoldable pub check_letters : List ℕ → List ℕ
check_letters bytes = letters (to_be_bytes w32 (crc32 bytes))

-- The text of bytes: their letters, a dot, and those of their check.
abbrev pub header_text : List ℕ → List ℕ
header_text bytes = letters bytes ++ 46 ∷ check_letters bytes

-- How many letters the text of so many bytes has.
abbrev pub text_len : ℕ → ℕ
text_len count = unpadded_len count + 7
