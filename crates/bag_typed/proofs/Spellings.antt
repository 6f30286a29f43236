-- Bytes that spell a count, as the varint that they begin with tells.
use Rattle.std.proofs.Common.{◌≡◌, ◌↔◌, ℕ, List, [], ◌∷◌, ◌++◌, length, Result, Ok, Err, IsTrue, nat_eq, sym, ap, ◌∙◌, arith, length-append, append-nil}
use Rattle.std.proofs.lemmas.Bool.Decides.{nat_tests}
use Rattle.context_model.specs.Varints.{unsigned_varint}
use Rattle.bag_model.specs.Typed.{IsCount}
use Rattle.lex_varint.specs.declared.VarintFault.{VarintFault}
use Rattle.lex_varint.specs.Readings.{IsUnsignedAt}

whole_count : (bytes : List ℕ) (n count : ℕ) → IsUnsignedAt bytes n count → count ≡ length bytes → IsCount bytes
whole_count bytes n count at whole = (n, at.fits, by at.front.0 at.front.1 (let long = ap length at.front.1 ∙ length-append (unsigned_varint n) at.front.0 in omega (arith, long, at.whole)))
  where
    by : (rest : List ℕ) → bytes ≡ unsigned_varint n ++ rest → length rest ≡ 0 → bytes ≡ unsigned_varint n
    by [] e none = e ∙ append-nil (unsigned_varint n)
    by (x ∷ rest) e none = absurd (omega arith)

count_whole : (bytes : List ℕ) (c : IsCount bytes) → IsUnsignedAt bytes c.0 (length bytes)
count_whole bytes c = record { fits = c.1; front = ([], c.2 ∙ sym (append-nil (unsigned_varint c.0))); whole = ap length c.2 }

one_length : (r : Result (ℕ × ℕ) VarintFault) (n m count whole : ℕ) → r ≡ Ok (n, count) → r ≡ Ok (m, whole) → count ≡ whole
one_length r n m count whole e f = let same : (n, count) ≡ (m, whole) = cc in ap (λ (x : ℕ × ℕ). x.1) same

no_length : (r : Result (ℕ × ℕ) VarintFault) (m whole : ℕ) (fault : VarintFault) → r ≡ Err fault → r ≡ Ok (m, whole) → ⊥
no_length r m whole fault e f = cc

is_same : (m n : ℕ) → IsTrue (nat_eq m n) ↔ (m ≡ n)
is_same m n = grind (arith, nat_tests)

-- The bytes are a count where the varint that they begin with is all of them, and none where there
-- is no varint.
module _ (bytes : List ℕ) (r : Result (ℕ × ℕ) VarintFault) (taken : (n count : ℕ) → (r ≡ Ok (n, count)) ↔ IsUnsignedAt bytes n count) where
  pub count_told : (n count : ℕ) → r ≡ Ok (n, count) → IsTrue (nat_eq count (length bytes)) ↔ IsCount bytes
  count_told n count is = (
    λ t. whole_count bytes n count ((taken n count).0 is) ((is_same count (length bytes)).0 t),
    λ c. (is_same count (length bytes)).1 (one_length r n c.0 count (length bytes) is ((taken c.0 (length bytes)).1 (count_whole bytes c))),
  )

  pub no_count : (fault : VarintFault) → r ≡ Err fault → IsCount bytes → ⊥
  no_count fault is c = no_length r c.0 (length bytes) fault is ((taken c.0 (length bytes)).1 (count_whole bytes c))
