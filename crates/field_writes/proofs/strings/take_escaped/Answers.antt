use Rattle.std.proofs.Common.{◌≡◌, ℕ, List, [], ◌∷◌, inl, refl, sym, ap, ◌∙◌, rules}
use Rattle.field_writes.proofs.Quoted.{escaped_digits}
use Rattle.field_writes.proofs.strings.take_escaped.Goals as goal

pub returns-then-is_marked : goal.returns-then-is_marked
returns-then-is_marked c =
    let first : ℕ = c.in_ok-first.first.now in
    let rest : List ℕ = c.in_ok-first.rest.now in
    let parts : c.args.text.now ≡ first ∷ rest = search rules in
    (first ∷ [], inl (refl, sym c.is_marked.ensures ∙ c.if-is_marked.true), parts)

pub returns-then-first-eq120 : goal.returns-then-first-eq120
returns-then-first-eq120 c =
    let first : ℕ = c.in_ok-first.first.now in
    let rest : List ℕ = c.in_ok-first.rest.now in
    let parts : c.args.text.now ≡ first ∷ rest = search rules in
    escaped_digits c.args.text.now rest _ (parts ∙ ap (λ (b : ℕ). b ∷ rest) c.if-first-eq120.true) c.take_digits.ensures
