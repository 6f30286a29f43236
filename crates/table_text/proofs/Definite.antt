-- A line says one field or has one fault, never both; and a text has one first fault.
use Rattle.std.proofs.Common.{◌≡◌, inl, inr, ℕ, List, ◌∷◌, ◌++◌, length, reverse, sym, ◌∙◌, ap, subst, arith}
use Rattle.text_lines.specs.Readings.{IsDefinite, IsFirstBad, IsFirstOf, NoneOf}
use Rattle.text_lines.proofs.ReadingLaws.{first_of_one, first_of_none, first_bad_one}
use Rattle.table_text.specs.declared.faults.TableCode.{TableCode}
use Rattle.table_text.specs.Rows.{Row}
use Rattle.table_text.specs.Rules.{RowBreaks, table_rules, IsGoodRow, IsBadRowLine, field_lines}
use Rattle.table_text.specs.Reading.{head_line, lines_behind, IsHeadFault, IsTableFault}
use Rattle.table_text.proofs.OneShape.{one_row}

one_bad : (before : List Row) (text : List ℕ) (c d : TableCode) → IsBadRowLine before text c → IsBadRowLine before text d → c ≡ d
one_bad before text c d (inl p) (inl q) = p.1 ∙ sym q.1
one_bad before text c d (inl p) (inr (row, says, first)) = absurd (p.0 row says)
one_bad before text c d (inr (row, says, first)) (inl q) = absurd (q.0 row says)
one_bad before text c d (inr (row, says, first)) (inr (other, also, next)) =
    first_of_one (RowBreaks before row) table_rules c d first (subst (λ r. IsFirstOf (RowBreaks before r) table_rules d) (one_row text other row also says) next)

good_not_bad_line : (before : List Row) (text : List ℕ) (row : Row) (c : TableCode) → IsGoodRow before text row → IsBadRowLine before text c → ⊥
good_not_bad_line before text row c good (inl p) = p.0 row good.0
good_not_bad_line before text row c good (inr (other, also, first)) =
    first_of_none (RowBreaks before other) table_rules c (subst (λ r. NoneOf (RowBreaks before r) table_rules) (one_row text row other good.0 also) good.1) first

pub is_definite : IsDefinite field_lines
is_definite = record {
  one_said = λ earlier text a b p q. one_row text a b p.0 q.0;
  one_fault = λ earlier text c d p q. one_bad (reverse earlier) text c d p q;
  not_both = λ earlier text row c p q. good_not_bad_line (reverse earlier) text row c p q;
}

-- ---- texts

pub one_rest : (rest other : List ℕ) → head_line ++ 10 ∷ rest ≡ head_line ++ 10 ∷ other → rest ≡ other
one_rest rest other e = cc e

pub no_head_fault : (text rest : List ℕ) (code : TableCode) → text ≡ head_line ++ 10 ∷ rest → IsHeadFault text code → ⊥
no_head_fault text rest code is (inl p) = p.1 rest is
no_head_fault text rest code is (inr p) = omega (arith, ap length (sym p.0 ∙ is))

one_head : (text : List ℕ) (c d : TableCode) → IsHeadFault text c → IsHeadFault text d → c ≡ d
one_head text c d (inl p) (inl q) = p.2 ∙ sym q.2
one_head text c d (inl p) (inr q) = absurd (p.0 q.0)
one_head text c d (inr p) (inl q) = absurd (q.0 p.0)
one_head text c d (inr p) (inr q) = p.1 ∙ sym q.1

pub one_fault : (text : List ℕ) (m n : ℕ) (c d : TableCode) → IsTableFault text m c → IsTableFault text n d → (m ≡ n) × (c ≡ d)
one_fault text m n c d (inl p) (inl q) = (p.0 ∙ sym q.0, one_head text c d p.1 q.1)
one_fault text m n c d (inl p) (inr (rest, is, bad)) = absurd (no_head_fault text rest c is p.1)
one_fault text m n c d (inr (rest, is, bad)) (inl q) = absurd (no_head_fault text rest d is q.1)
one_fault text m n c d (inr (rest, is, bad)) (inr (other, also, worse)) =
    first_bad_one field_lines is_definite (lines_behind rest) m n c d bad
    (subst (λ (r : List ℕ). IsFirstBad field_lines (lines_behind r) n d) (one_rest other rest (sym also ∙ is)) worse)
