-- The check of bytes: the CRC-32 of Ethernet and of zlib.
use Rattle.std.specs.Prelude.{ℕ, zero, suc, ◌==◌, ◌/◌, ◌%◌, if◌then◌else◌, List, [], ◌∷◌, bit_xor}

-- What a bit turns a check into: it is divided by two, and where its last bit was set, the
-- polynomial is added.
abbrev pub after_bit : ℕ → ℕ
after_bit crc = if crc % 2 == 1 then bit_xor (crc / 2) 3988292384 else crc / 2

-- What so many bits turn a check into.
unfoldable pub after_bits : ℕ → ℕ → ℕ
after_bits zero crc = crc
after_bits (suc n) crc = after_bits n (after_bit crc)

-- What a byte turns a check into.
unfoldable pub after_byte : ℕ → ℕ → ℕ
after_byte crc byte = after_bits 8 (bit_xor crc byte)

-- What bytes turn a check into.
unfoldable pub after_bytes : ℕ → List ℕ → ℕ
after_bytes crc [] = crc
after_bytes crc (byte ∷ bytes) = after_bytes (after_byte crc byte) bytes

-- The CRC-32 of bytes: all bits are set before the first byte, and all are turned after the last.
unfoldable pub crc32 : List ℕ → ℕ
crc32 bytes = bit_xor (after_bytes 4294967295 bytes) 4294967295
