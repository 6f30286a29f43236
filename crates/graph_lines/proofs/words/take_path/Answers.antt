use Rattle.std.proofs.Common.{◌≡◌, true, false, sym, ◌∙◌, subst}
use Rattle.graph_lines.specs.Forms.{IsPath}
use Rattle.graph_lines.specs.Reading.{PathThen}
use Rattle.graph_lines.proofs.Cutting.{other_path, one_path}
use Rattle.graph_lines.proofs.words.take_path.Goals as goal

pub returns-then-is_path : goal.returns-then-is_path
returns-then-is_path c =
    let text = c.args.text.now in let path = c.in_ok-path.path.now in let rest = c.in_ok-path.rest.now in
    let front : PathThen text path rest = (subst IsPath c.as_bytes.ensures.value (c.is_path.ensures.0 c.if-is_path.true), c.in_ok-path.ensures.1) in
    (front, one_path text path rest front)

pub returns-else-is_path : goal.returns-else-is_path
returns-else-is_path c =
    other_path c.args.text.now c.in_ok-path.path.now c.in_ok-path.rest.now c.in_ok-path.ensures.0 c.in_ok-path.ensures.1 (λ is.
    let bad : true ≡ false = sym (c.is_path.ensures.1 (subst IsPath (sym c.as_bytes.ensures.value) is)) ∙ c.if-is_path.false in cc bad)
