use Rattle.std.proofs.Common.{◌≡◌, ℕ, List, ◌++◌, IsUtf8, sym, ap, ◌∙◌, subst}
use Rattle.text_lines.specs.HexLines.{hex_text}
use Rattle.context_json.proofs.AsciiTexts.{hex_text_utf8}
use Rattle.context_json.proofs.objects.digits_of.Goals as goal

pub unwrap-requires : goal.unwrap-requires
unwrap-requires c =
    let bytes = c.as_slice.result.now in
    let is : c.push_hex.new.buffer.items ≡ hex_text bytes = c.in_ok-push_hex.ensures.ok ∙ ap (λ (l : List ℕ). l ++ hex_text bytes) c.new-digits.ensures.items in
    c.from_utf8.ensures.succeeds (subst IsUtf8 (sym is) (hex_text_utf8 bytes))
