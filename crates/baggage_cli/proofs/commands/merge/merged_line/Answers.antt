use Rattle.std.proofs.Common.{inr, List, ◌∙◌, ap, subst}
use Rattle.context_model.specs.Atoms.{Atom}
use Rattle.context_model.specs.Framing.{bytes_of}
use Rattle.context_model.specs.Merged.{IsMerged}
use Rattle.text_lines.specs.HexLines.{hex_line}
use Rattle.baggage_cli.proofs.commands.merge.merged_line.Goals as goal

pub returns : goal.returns
returns c =
    let (said, all, form, contexts) = c.in_ok-form.ensures.ok in
    let merged = c.in_ok-merged.merged in
    let merges = subst (λ (lists : List (List Atom)). IsMerged lists merged) contexts c.in_ok-merged.ensures.merged in
    let bytes = c.in_ok-bytes.ensures ∙ ap (bytes_of c.in_ok-form.form) c.list.ensures.list ∙ ap (λ f. bytes_of f merged) form in
    inr (said, all, (merged, merges, c.in_ok-hex_line.ensures ∙ ap hex_line (c.as_slice.ensures.value ∙ bytes)))
