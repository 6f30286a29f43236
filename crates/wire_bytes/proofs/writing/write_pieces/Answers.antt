use Rattle.std.proofs.Common.{◌≡◌, ◌++◌, false, ◌∙◌, sym, ap}
use Rattle.context_model.specs.declared.Form.TheVariants.{One}
use Rattle.context_model.specs.Framing.{frames, has_long}
use Rattle.wire_bytes.proofs.Widths.{bytes_narrow}
use Rattle.wire_bytes.proofs.writing.write_pieces.Goals as goal

pub returns : goal.returns
returns c =
    let list = c.args.list.now in
    let none : has_long list ≡ false = sym c.is_long.ensures ∙ c.if-is_long.false in
    c.into_bytes.ensures ∙ ap (frames One) (c.push_rest.ensures.atoms ∙ ap (λ before. before ++ list) c.in_ok-built.ensures.atoms) ∙ bytes_narrow list none
