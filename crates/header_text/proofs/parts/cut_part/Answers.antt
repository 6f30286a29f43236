use Rattle.std.proofs.Common.{◌≡◌, ◌+◌, ◌-◌, [], ◌∷◌, length, take, drop, refl, sym, ◌∙◌, ap, arith}
use Rattle.std.proofs.lemmas.Grind.{common_steps}
use Rattle.header_text.specs.Parts.{parts_of, without_blanks, without_trailing}
use Rattle.header_text.proofs.Separated.{first_part, only_part, free_from}
use Rattle.header_text.proofs.parts.cut_part.Goals as goal

pub returns-in-Some-clause-parts : goal.returns-in-Some-clause-parts
returns-in-Some-clause-parts c =
    let value = c.args.value.now in
    let at = c.in-Some.at in
    let whole : take (length value - (at + 1)) (drop (at + 1) value) ≡ drop (at + 1) value = grind (arith, common_steps) in
    let part : c.without_trailing.result.now ≡ without_blanks (take at value) = c.without_trailing.ensures ∙ ap without_trailing c.without_leading.ensures in
    first_part value at c.in-Some.ensures.within c.in-Some.ensures.first c.in-Some.ensures.there
    ∙ ap (λ p. p ∷ parts_of (drop (at + 1) value)) (sym part) ∙ ap (λ rest. c.without_trailing.result.now ∷ parts_of rest) (sym whole)

pub returns-in-None-clause-parts : goal.returns-in-None-clause-parts
returns-in-None-clause-parts c =
    let value = c.args.value.now in
    let part = c.without_trailing-in-None.ensures ∙ ap without_trailing c.without_leading-in-None.ensures in
    only_part value (free_from value (c.in-None.ensures.none refl)) ∙ ap (λ p. p ∷ []) (sym part)
