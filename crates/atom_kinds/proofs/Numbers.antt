-- Bytes that are the code of a number from the first to the last.
use Rattle.std.proofs.Common.{◌≡◌, ℕ, ◌^◌, ◌<◌, List, [], ◌∷◌, ◌++◌, length, Result, Ok, Err, Some, None, sym, ap, ◌∙◌, arith, append-nil, length-append}
use Rattle.std.specs.Result.{result_ok}
use Rattle.context_model.specs.Varints.{unsigned_varint}
use Rattle.lex_varint.specs.Readings.{IsUnsignedAt}
use Rattle.lex_varint.specs.declared.VarintFault.{VarintFault}

-- the code that the bytes begin with is all of them where it has as many bytes
pub whole_front : (bytes : List ℕ) (number count : ℕ) → IsUnsignedAt bytes number count → count ≡ length bytes → bytes ≡ unsigned_varint number
whole_front bytes number count h e = by h.front.0 (h.front.1) (omega (arith, h.whole, ap length (h.front.1), length-append (unsigned_varint number) h.front.0))
  where
    by : (rest : List ℕ) → bytes ≡ unsigned_varint number ++ rest → length rest ≡ 0 → bytes ≡ unsigned_varint number
    by [] f z = f ∙ append-nil (unsigned_varint number)
    by (b ∷ rest) f z = absurd (omega arith)

-- and bytes that are a code begin with it
pub front_whole : (bytes : List ℕ) (number : ℕ) → number < 2 ^ 64 → bytes ≡ unsigned_varint number → IsUnsignedAt bytes number (length bytes)
front_whole bytes number h e = record { fits = h; front = ([], e ∙ sym (append-nil (unsigned_varint number))); whole = ap length e }

pub ok_from : (r : Result (ℕ × ℕ) VarintFault) (p : ℕ × ℕ) → result_ok r ≡ Some p → r ≡ Ok p
ok_from (Ok q) p e = let h : q ≡ p = cc in ap Ok h
ok_from (Err f) p e = cc

pub none_from : (r : Result (ℕ × ℕ) VarintFault) (p : ℕ × ℕ) → result_ok r ≡ None → r ≡ Ok p → ⊥
none_from (Ok q) p e f = cc
none_from (Err f) p e g = cc

pub count_of : (a b c d : ℕ) → (let r : Result (ℕ × ℕ) VarintFault = Ok (a, b) in r ≡ Ok (c, d)) → b ≡ d
count_of a b c d e = let p : ◌≡◌ {A = ℕ × ℕ} (a, b) (c, d) = cc in ap (λ x. x.1) p
