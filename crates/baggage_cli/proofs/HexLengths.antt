-- Lines of digits have half as many bytes.
use Rattle.std.proofs.Common.{◌≡◌, ◌⊎◌, inl, inr, ◌≤◌, ◌==◌, ◌&&◌, ℕ, List, [], length, slice_index, if◌then◌else◌, Bool, true, false, Some, None, Result, Ok, Err, ap, arith}
use Rattle.std.proofs.lemmas.Bool.{cases_lt}
use Rattle.std.specs.Result.{result_ok}
use Rattle.hex.specs.declared.FromHexError.{FromHexError}
use Rattle.hex.specs.Hex.{decode_of}
use Rattle.hex.proofs.HexLemmas.{decode_of-ok}
use Rattle.text_carrier.specs.declared.TheConstants.{CARRIED_MAX}
use Rattle.text_lines.specs.declared.TheConstants.{DIGITS_MAX}
use Rattle.text_lines.specs.HexLines.{hex_bytes, IsHexOf}

decoded : (r : Result (List ℕ) FromHexError) (bytes : List ℕ) → result_ok r ≡ Some bytes → r ≡ Ok bytes
decoded (Ok other) bytes is = cc is
decoded (Err error) bytes is = cc is

-- The bytes of a text are none, or those that its digits say.
by_form : (nothing dash : Bool) (r : Result (List ℕ) FromHexError) (bytes : List ℕ)
    → (if nothing then None else if dash then Some [] else result_ok r) ≡ Some bytes → (bytes ≡ []) ⊎ (r ≡ Ok bytes)
by_form true dash r bytes is = cc is
by_form false true r bytes is = inl (cc is)
by_form false false r bytes is = inr (decoded r bytes is)

-- So what a line says isn't too long to be carried.
pub few_bytes : (text bytes : List ℕ) → IsHexOf bytes text → length bytes ≤ CARRIED_MAX
unfolding hex_bytes
few_bytes text bytes (fits, is) = elim (by_form (length text == 0) ((length text == 1) && (slice_index text 0 == 45)) (decode_of text) bytes is) [
  | inl none ↦ let e = ap length none in omega arith
  | inr digits ↦
      let (even, all, twice, are) = decode_of-ok text bytes digits in
      elim (cases_lt DIGITS_MAX (length text)) [ inl long ↦ absurd (fits.0 long) | inr short ↦ omega arith ]
]
