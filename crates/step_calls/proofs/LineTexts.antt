-- The lines of a text that is being read.
use Rattle.std.proofs.Common.{◌≡◌, ℕ, ◌+◌, List, [], ◌∷◌, ◌++◌, refl, sym, ap, ◌∙◌, subst, append_assoc, append-nil}
use Rattle.context_model.specs.declared.Form.{Form}
use Rattle.context_model.specs.Atoms.{Atom}
use Rattle.bag_model.specs.Encodings.{IsEncoding}
use Rattle.bag_model.specs.Shapes.{Nodes}
use Rattle.bag_model.specs.SlotValues.{only}
use Rattle.outside.specs.declared.answers.OrMemory.{OrMemory}
use Rattle.outside.specs.declared.answers.OrMemory.TheVariants as answers
use Rattle.text_lines.specs.FedLines.{fed_lines}
use Rattle.text_lines.specs.Lines.{Line, numbered}
use Rattle.text_lines.specs.Readings.{AllSay}
use Rattle.text_lines.proofs.ReadingLaws.{all_say_more, next_bad}
use Rattle.step_calls.specs.declared.refusals.WriteCode.{WriteCode}
use Rattle.step_calls.specs.Lines.{Write, SaysLineWrite, write_lines, lines_from_one, AreEncodings, IsRefusedLine}
use Rattle.step_calls.specs.Refusals.{write_refusal_at, IsWriteRefusalOf}

-- The lines so far said writes, of which these are the encodings, and the rest begins at this number.
pub record HasSaid (form : Form) (nodes : Nodes) (text : List ℕ) (number : ℕ) (rest : List ℕ) (lists : List (List Atom)) : Type 0 where
  pub said : List Write
  pub before : List Line
  pub split : lines_from_one text ≡ before ++ numbered number (fed_lines rest)
  pub all : AllSay (write_lines form nodes) [] before said
  pub encodings : AreEncodings nodes said lists

encodings_more : (nodes : Nodes) (said : List Write) (lists : List (List Atom)) (write : Write) (list : List Atom) → AreEncodings nodes said lists
    → IsEncoding nodes (only nodes write.0 write.1) list → AreEncodings nodes (said ++ write ∷ []) (lists ++ list ∷ [])
encodings_more nodes [] [] write list all e = (e, tt)
encodings_more nodes [] (l ∷ lists) write list all e = absurd all
encodings_more nodes (w ∷ said) [] write list all e = absurd all
encodings_more nodes (w ∷ said) (l ∷ lists) write list all e = (all.0, encodings_more nodes said lists write list all.1 e)

module _ (form : Form) (nodes : Nodes) (text : List ℕ) where
  pub none_said : HasSaid form nodes text 1 text []
  none_said = record { said = []; before = []; split = refl; all = tt; encodings = tt }

  pub said_more : (number : ℕ) (rest line behind : List ℕ) (lists next : List (List Atom)) (list : List Atom) → HasSaid form nodes text number rest lists
      → fed_lines rest ≡ line ∷ fed_lines behind
      → (write : Write) × SaysLineWrite form nodes line write × IsEncoding nodes (only nodes write.0 write.1) list → next ≡ lists ++ list ∷ []
      → HasSaid form nodes text (number + 1) behind next
  said_more number rest line behind lists next list has cut (write, says, encoding) grown = record {
    said = has.said ++ write ∷ [];
    before = has.before ++ (number, line) ∷ [];
    split =
        has.split ∙ ap (λ (l : List (List ℕ)). has.before ++ numbered number l) cut
        ∙ sym (append_assoc has.before ((number, line) ∷ []) (numbered (number + 1) (fed_lines behind)));
    all = all_say_more (write_lines form nodes) has.before has.said (number, line) write has.all says;
    encodings = subst (AreEncodings nodes (has.said ++ write ∷ [])) (sym grown) (encodings_more nodes has.said lists write list has.encodings encoding);
  }

  pub said_bad : (number : ℕ) (rest line behind : List ℕ) (lists : List (List Atom)) → HasSaid form nodes text number rest lists → fed_lines rest ≡ line ∷ fed_lines behind
      → (refusal : OrMemory WriteCode) → IsRefusedLine form nodes line refusal → IsWriteRefusalOf form nodes text (write_refusal_at number refusal)
  said_bad number rest line behind lists has cut (answers.Fault code) bad =
      next_bad (write_lines form nodes) (lines_from_one text) has.before (number, line) (numbered (number + 1) (fed_lines behind)) (numbered number (fed_lines rest)) has.said code has.split
      (ap (numbered number) cut) has.all bad
  said_bad number rest line behind lists has cut answers.Memory bad = tt

  -- At the end all lines have said their writes.
  pub all_said : (number : ℕ) (rest : List ℕ) (lists : List (List Atom)) → HasSaid form nodes text number rest lists → rest ≡ []
      → (said : List Write) × AllSay (write_lines form nodes) [] (lines_from_one text) said × AreEncodings nodes said lists
  all_said number rest lists has end =
      let split : lines_from_one text ≡ has.before = has.split ∙ ap (λ (r : List ℕ). has.before ++ numbered number (fed_lines r)) end ∙ append-nil has.before in
      (has.said, subst (λ (lines : List Line). AllSay (write_lines form nodes) [] lines has.said) (sym split) has.all, has.encodings)
