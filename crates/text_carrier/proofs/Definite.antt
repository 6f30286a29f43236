-- A line says one piece or breaks one rule first, never both.
use Rattle.std.proofs.Common.{◌≡◌, inl, inr, ℕ, ◌^◌, ◌<◌, List, ◌∷◌, ◌++◌, drop, sym, ◌∙◌, ap, subst, arith}
use Rattle.std.specs.Fmt.{decimal}
use Rattle.text_lines.specs.Readings.{IsDefinite, IsFirstOf, NoneOf}
use Rattle.text_lines.proofs.ReadingLaws.{first_of_one, first_of_none}
use Rattle.text_carrier.specs.declared.faults.CarryCode.{CarryCode}
use Rattle.text_carrier.specs.Pieces.{Piece, data_text}
use Rattle.text_carrier.specs.Rules.{PieceBreaks, HasPieceForm, IsBadPieceLine, IsGoodPiece, piece_lines, carry_rules}
use Rattle.text_lines.proofs.Numbers.{one_number}
use Rattle.text_carrier.proofs.Standard.{one_data}

-- What a line says, before the rules are asked.
pub record AreOne (place count : ℕ) (word : List ℕ) (p c : ℕ) (w : List ℕ) : Type 0 where
  pub place_is : place ≡ p
  pub count_is : count ≡ c
  pub word_is : word ≡ w

small : (n : ℕ) → n < 10 ^ 7 → n < 2 ^ 64
small n few = omega (arith, few)

pub one_form : (text : List ℕ) (place count : ℕ) (word : List ℕ) (p c : ℕ) (w : List ℕ) → HasPieceForm text place count word → HasPieceForm text p c w → AreOne place count word p c w
one_form text place count word p c w form other =
    let behind : decimal place ++ 32 ∷ (decimal count ++ 32 ∷ word) ≡ decimal p ++ 32 ∷ (decimal c ++ 32 ∷ w) = ap (λ (l : List ℕ). drop 2 l) (sym form.is ∙ other.is) in
    let one = one_number place p (decimal count ++ 32 ∷ word) (decimal c ++ 32 ∷ w) (small place form.place_few) (small p other.place_few) behind in
    let two = one_number count c word w (small count form.count_few) (small c other.count_few) one.1 in
    record { place_is = one.0; count_is = two.0; word_is = two.1 }

one_piece : (earlier : List Piece) (text : List ℕ) (a b : Piece) → IsGoodPiece earlier text a → IsGoodPiece earlier text b → a ≡ b
one_piece earlier text a b p q =
    let same = one_form text a.place a.count (data_text a.bytes) b.place b.count (data_text b.bytes) p.0 q.0 in
    let bytes = one_data a.bytes b.bytes p.1 q.1 same.word_is in
    λ i. record { place = same.place_is i; count = same.count_is i; bytes = bytes i }

-- A fact of what a line says is one of what it says in another telling.
moved : (P : ℕ → ℕ → List ℕ → Type 0) (place count : ℕ) (word : List ℕ) (p c : ℕ) (w : List ℕ) → AreOne place count word p c w → P place count word → P p c w
moved P place count word p c w same holds =
    subst (λ n. P n c w) same.place_is (subst (λ n. P place n w) same.count_is (subst (λ t. P place count t) same.word_is holds))

one_fault : (earlier : List Piece) (text : List ℕ) (c d : CarryCode) → IsBadPieceLine earlier text c → IsBadPieceLine earlier text d → c ≡ d
one_fault earlier text c d (inl f) (inl g) = f.1 ∙ sym g.1
one_fault earlier text c d (inl f) (inr (place, count, word, form, first)) = absurd (f.0 place count word form)
one_fault earlier text c d (inr (place, count, word, form, first)) (inl g) = absurd (g.0 place count word form)
one_fault earlier text c d (inr (place, count, word, form, first)) (inr (p, n, w, other, next)) =
    first_of_one (PieceBreaks earlier p n w) carry_rules c d
    (moved (λ x y z. IsFirstOf (PieceBreaks earlier x y z) carry_rules c) place count word p n w (one_form text place count word p n w form other) first) next

not_both : (earlier : List Piece) (text : List ℕ) (piece : Piece) (c : CarryCode) → IsGoodPiece earlier text piece → IsBadPieceLine earlier text c → ⊥
not_both earlier text piece c good (inl f) = f.0 piece.place piece.count (data_text piece.bytes) good.0
not_both earlier text piece c good (inr (place, count, word, form, first)) =
    first_of_none (PieceBreaks earlier place count word) carry_rules c
    (moved (λ x y z. NoneOf (PieceBreaks earlier x y z) carry_rules) piece.place piece.count (data_text piece.bytes) place count word
    (one_form text piece.place piece.count (data_text piece.bytes) place count word good.0 form) good.2)
    first

pub is_definite : IsDefinite piece_lines
is_definite = record { one_said = one_piece; one_fault = one_fault; not_both = not_both }
