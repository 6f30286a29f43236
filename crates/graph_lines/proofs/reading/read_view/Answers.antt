use Rattle.std.proofs.Common.{◌≡◌, true, false, not, sym, ◌∙◌, ap}
use Rattle.std.specs.Prelude.{codes}
use Rattle.std.proofs.lemmas.Slice.Eq.{bytes_eq-Decides}
use Rattle.graph_lines.proofs.Behind.{no_view}
use Rattle.graph_lines.proofs.reading.read_view.Goals as goal

pub returns-then-ne : goal.returns-then-ne
returns-then-ne c =
    no_view c.args.text.now c.in-Some.word.now c.in-Some.rest.now c.in-Some.ensures.0 c.in-Some.ensures.1 (λ is.
    let bad : true ≡ false = sym c.if-ne.true ∙ c.ne.ensures ∙ ap not ((bytes_eq-Decides c.in-Some.word.now (codes "only")).1 is) in cc bad)
