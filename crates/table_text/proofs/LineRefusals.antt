-- Lines that are refused, and those that are read one after another.
use Rattle.std.proofs.Common.{◌≡◌, inl, inr, ℕ, ◌+◌, ◌^◌, ◌<◌, List, [], ◌∷◌, ◌++◌, reverse, refl, sym, ap, subst, ◌∙◌, append_assoc, arith}
use Rattle.field_table.specs.Plain.{IsIndexedShape}
use Rattle.text_lines.specs.Lines.{Line, numbered}
use Rattle.text_lines.specs.Readings.{AllSay}
use Rattle.text_lines.proofs.ReadingLaws.{all_say_more, next_bad}
use Rattle.table_text.specs.declared.faults.TableCode.TheVariants.{Head, Form, Depth, Order, DuplicateField, TooDeep, TooManySlots}
use Rattle.table_text.specs.declared.faults.TableCode.{TableCode}
use Rattle.outside.specs.declared.answers.OrMemory.{OrMemory}
use Rattle.outside.specs.declared.answers.OrMemory.TheVariants as refusals
use Rattle.table_text.specs.declared.rows.Row.{Row as CodeRow}
use Rattle.table_text.specs.Faults.{table_fault_at}
use Rattle.table_text.specs.Builder.{IsSoundRow}
use Rattle.table_text.specs.Rows.{Row, SaysRow}
use Rattle.table_text.specs.Rules.{deepest, IsGoodRow, field_lines}
use Rattle.text_lines.specs.FedLines.{fed_lines}
use Rattle.table_text.specs.Reading.{lines_behind, IsRefusalBehind}
use Rattle.table_text.specs.Views.{plain_row_of, HasNoRow, IsRefusedRowLine}

pub sound_row : (text : List ℕ) (row : CodeRow) → SaysRow text (plain_row_of row) → IsIndexedShape row.shape → IsSoundRow row
sound_row text row says indexed = record { named = says.named; numbered = says.numbered; told = says.told; flat = says.flat; indexed = indexed }

-- A line that isn't read is refused: a depth of more than 64 bits is one too great.
pub unread_refused : (before : List Row) (text : List ℕ) → deepest before < 2 ^ 64 → (refusal : OrMemory TableCode) → HasNoRow text refusal → IsRefusedRowLine before text refusal
unread_refused before text small (refusals.Fault Form) none = inl (none, refl)
unread_refused before text small (refusals.Fault Depth) (row, says, great) = inr (row, says, inl (refl, omega (arith, small, great)))
unread_refused before text small (refusals.Fault Head) none = absurd none
unread_refused before text small (refusals.Fault Order) none = absurd none
unread_refused before text small (refusals.Fault DuplicateField) none = absurd none
unread_refused before text small (refusals.Fault TooDeep) none = absurd none
unread_refused before text small (refusals.Fault TooManySlots) none = absurd none
unread_refused before text small refusals.Memory none = tt

-- The lines so far said these rows, and the rest begins at this number.
pub record HasSaid (text : List ℕ) (number : ℕ) (rest : List ℕ) (rows : List Row) : Type 0 where
  pub before : List Line
  pub split : lines_behind text ≡ before ++ numbered number (fed_lines rest)
  pub all : AllSay field_lines [] before rows

pub said_more : (text : List ℕ) (number : ℕ) (rest line behind : List ℕ) (rows next : List Row) → HasSaid text number rest rows → fed_lines rest ≡ line ∷ fed_lines behind
    → (row : Row) × IsGoodRow (reverse rows) line row × (next ≡ rows ++ row ∷ []) → HasSaid text (number + 1) behind next
said_more text number rest line behind rows next said cut (row, good, grown) = record {
  before = said.before ++ (number, line) ∷ [];
  split =
      said.split ∙ ap (λ (l : List (List ℕ)). said.before ++ numbered number l) cut
      ∙ sym (append_assoc said.before ((number, line) ∷ []) (numbered (number + 1) (fed_lines behind)));
  all = subst (AllSay field_lines [] (said.before ++ (number, line) ∷ [])) (sym grown) (all_say_more field_lines said.before rows (number, line) row said.all good);
}

pub said_bad : (text : List ℕ) (number : ℕ) (rest line behind : List ℕ) (rows : List Row) → HasSaid text number rest rows → fed_lines rest ≡ line ∷ fed_lines behind
    → (refusal : OrMemory TableCode) → IsRefusedRowLine (reverse rows) line refusal → IsRefusalBehind text (table_fault_at number refusal)
said_bad text number rest line behind rows said cut (refusals.Fault code) bad =
    next_bad field_lines (lines_behind text) said.before (number, line) (numbered (number + 1) (fed_lines behind)) (numbered number (fed_lines rest)) rows code said.split
    (ap (numbered number) cut) said.all bad
said_bad text number rest line behind rows said cut refusals.Memory bad = tt
