use Rattle.std.proofs.Common.{◌≡◌, ℕ, List, ◌∷◌, inl, sym, ap, ◌∙◌, rules}
use Rattle.field_writes.proofs.Quoted.{byte_escaped, then_byte}
use Rattle.field_writes.proofs.strings.take_byte.Goals as goal

pub returns-then-first-eq92 : goal.returns-then-first-eq92
returns-then-first-eq92 c =
    let first : ℕ = c.in_ok-first.first.now in
    let rest : List ℕ = c.in_ok-first.rest.now in
    let parts : c.args.text.now ≡ first ∷ rest = search rules in
    byte_escaped c.args.text.now rest _ (parts ∙ ap (λ (b : ℕ). b ∷ rest) c.if-first-eq92.true) c.take_escaped.ensures

pub returns-else-is_marked : goal.returns-else-is_marked
returns-else-is_marked c =
    let first : ℕ = c.in_ok-first.first.now in
    let rest : List ℕ = c.in_ok-first.rest.now in
    let parts : c.args.text.now ≡ first ∷ rest = search rules in
    then_byte first rest c.args.text.now (inl (parts, c.if-first-lt32.false, sym c.is_marked.ensures ∙ c.if-is_marked.false))
