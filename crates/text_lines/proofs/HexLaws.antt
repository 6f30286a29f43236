-- Laws of lines of hexadecimal digits.
use Rattle.std.proofs.Common.{◌≡◌, inl, inr, ℕ, List, sym, ◌∙◌, ap, subst}
use Rattle.text_lines.specs.declared.hex_lines.HexCode.{HexCode}
use Rattle.text_lines.specs.HexLines.{BreaksHex, hex_codes, IsHexOf, IsHexFault, hex_lines}
use Rattle.text_lines.specs.Readings.{Reading, IsDefinite}
use Rattle.text_lines.proofs.ReadingLaws.{first_of_one, first_of_none}

-- A text says one string of bytes.
pub hex_of_one : (text a b : List ℕ) → IsHexOf a text → IsHexOf b text → a ≡ b
hex_of_one text a b f g = let e = f.1 in let h = g.1 in cc (e, h)

-- A text that says bytes has no fault.
pub hex_not_both : (text bytes : List ℕ) (code : HexCode) → IsHexOf bytes text → IsHexFault text code → ⊥
hex_not_both text bytes code is bad = first_of_none (BreaksHex text) hex_codes code is.0 bad

-- Lines of digits are as definite as what their bytes say.
pub hex_lines_definite : {A F : Type 0} (fault_of : HexCode → F) (of_bytes : Reading A F) → IsDefinite of_bytes → IsDefinite (hex_lines fault_of of_bytes)
hex_lines_definite fault_of of_bytes definite = record {
  one_said = λ earlier text a b (bytes, is, f) (others, is', g). definite.one_said earlier bytes a b f (subst (λ bs. of_bytes.says earlier bs b) (hex_of_one text others bytes is' is) g);
  one_fault = λ earlier text f g x y. elim x [
    | inl p ↦ elim y [
      | inl q ↦ p.2 ∙ ap fault_of (first_of_one (BreaksHex text) hex_codes p.0 q.0 p.1 q.1) ∙ sym q.2
      | inr q ↦ absurd (hex_not_both text q.0 p.0 q.1 p.1)
    ]
    | inr p ↦ elim y [
      | inl q ↦ absurd (hex_not_both text p.0 q.0 p.1 q.1)
      | inr q ↦ definite.one_fault earlier p.0 f g p.2 (subst (λ bs. of_bytes.faults earlier bs g) (hex_of_one text q.0 p.0 q.1 p.1) q.2)
    ]
  ];
  not_both = λ earlier text said fault (bytes, is, f) y. elim y [
    | inl q ↦ absurd (hex_not_both text bytes q.0 is q.1)
    | inr q ↦ definite.not_both earlier bytes said fault f (subst (λ bs. of_bytes.faults earlier bs fault) (hex_of_one text q.0 bytes q.1 is) q.2)
  ];
}
