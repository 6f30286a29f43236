use Rattle.std.proofs.Common.{◌≡◌, true, false, sym, ◌∙◌, ap}
use Rattle.bag_model.specs.Words.{is_word}
use Rattle.graph_lines.specs.Reading.{NameThen}
use Rattle.graph_lines.proofs.Cutting.{other_name, one_name}
use Rattle.graph_lines.proofs.words.take_name.Goals as goal

pub returns-then-is_word : goal.returns-then-is_word
returns-then-is_word c =
    let text = c.args.text.now in let name = c.in_ok-name.name.now in let rest = c.in_ok-name.rest.now in
    let front : NameThen text name rest = (ap is_word (sym c.as_bytes.ensures.value) ∙ sym c.is_word.ensures ∙ c.if-is_word.true, c.in_ok-name.ensures.1) in
    (front, one_name text name rest front)

pub returns-else-is_word : goal.returns-else-is_word
returns-else-is_word c =
    other_name c.args.text.now c.in_ok-name.name.now c.in_ok-name.rest.now c.in_ok-name.ensures.0 c.in_ok-name.ensures.1 (λ is.
    let bad : true ≡ false = sym is ∙ ap is_word (sym c.as_bytes.ensures.value) ∙ sym c.is_word.ensures ∙ c.if-is_word.false in cc bad)
