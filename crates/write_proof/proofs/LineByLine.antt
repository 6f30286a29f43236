-- Lines that are read one after another.
use Rattle.std.proofs.Common.{◌≡◌, ℕ, ◌+◌, List, [], ◌∷◌, ◌++◌, length, sym, ap, ◌∙◌, append_assoc, length-append, arith}
use Rattle.bag_model.specs.Shapes.{Nodes}
use Rattle.text_lines.specs.FedLines.{fed_lines}
use Rattle.text_lines.specs.Lines.{Line, numbered}
use Rattle.text_lines.specs.Readings.{AllSay}
use Rattle.text_lines.proofs.ReadingLaws.{all_say_more}
use Rattle.trace_model.specs.Graphs.{Graph}
use Rattle.write_proof.specs.Entries.{Entry, lines_in}
use Rattle.write_proof.specs.LineRules.{IsGoodEntry, certificate_lines}

module _ (table : Nodes) (graph : Graph) where
  -- The lines so far said these entries, and the rest is what is after them.
  pub record HasSaid (certificate rest : List ℕ) (said : List Entry) : Type 0 where
    pub before : List Line
    pub split : lines_in certificate ≡ before ++ numbered (length said + 1) (fed_lines rest)
    pub all : AllSay (certificate_lines table graph) [] before said

  pub said_more : (certificate rest line behind : List ℕ) (said : List Entry) (entry : Entry) → HasSaid certificate rest said → fed_lines rest ≡ line ∷ fed_lines behind
      → IsGoodEntry table graph said line entry → HasSaid certificate behind (said ++ entry ∷ [])
  said_more certificate rest line behind said entry s cut good = record {
    before = s.before ++ (length said + 1, line) ∷ [];
    split =
        s.split ∙ ap (λ (l : List (List ℕ)). s.before ++ numbered (length said + 1) l) cut
        ∙ sym (append_assoc s.before ((length said + 1, line) ∷ []) (numbered (length said + 1 + 1) (fed_lines behind)))
        ∙ ap (λ n. (s.before ++ (length said + 1, line) ∷ []) ++ numbered n (fed_lines behind)) more;
    all = all_say_more (certificate_lines table graph) s.before said (length said + 1, line) entry s.all good;
  }
    where
      more : length said + 1 + 1 ≡ length (said ++ entry ∷ []) + 1
      more = let l = length-append said (entry ∷ []) in omega (arith, l)
