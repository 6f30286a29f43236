use Rattle.std.proofs.Common.{◌≡◌, ◌++◌, ◌∷◌, List, ℕ, refl, ap, ◌∙◌, arith}
use Rattle.std.proofs.lemmas.Grind.{common_steps}
use Rattle.std.proofs.lemmas.Result.{IfOk-weaker}
use Rattle.table_text.specs.Reading.{head_line}
use Rattle.table_text.specs.TableRows.{rows_of}
use Rattle.table_text.proofs.LineTexts.{table_read}
use Rattle.table_text.proofs.reading.read_table.Goals as goal

pub returns-clause-ok : goal.returns-clause-ok
returns-clause-ok c =
    let cut : c.args.text.now ≡ head_line ++ 10 ∷ c.in-Some.rest.now = grind (arith, common_steps, c.in-Some.ensures.cases) in
    IfOk-weaker c.read_lines.result _ _
    (λ table said. cut ∙ ap (λ (l : List ℕ). head_line ++ 10 ∷ l) (table_read c.in-Some.rest.now (rows_of 0 table) table said refl)) c.read_lines.ensures.ok
