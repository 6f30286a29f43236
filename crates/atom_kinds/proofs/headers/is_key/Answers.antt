use Rattle.std.proofs.Common.{◌≡◌, ◌∷◌, sym, ap, ◌∙◌, eq-eqb}
use Rattle.std.proofs.lemmas.Bool.{eqb-true}
use Rattle.atom_kinds.proofs.headers.is_key.Goals as goal

pub returns-in-Some : goal.returns-in-Some
returns-in-Some c =
    let first = c.in-Some.first.now in
    let rest = c.in-Some.field-0-1.now in
    let prefix = c.keyed_prefix.result in (
      λ same. (rest, c.in-Some.ensures.cases.0 ∙ ap (λ byte. byte ∷ rest) (eqb-true first prefix same) ∙ sym (c.keyed_prefix.ensures rest)),
      λ (key, e). let both : first ∷ rest ≡ prefix ∷ key = sym c.in-Some.ensures.cases.0 ∙ e ∙ c.keyed_prefix.ensures key in
          eq-eqb first prefix (let own : first ≡ prefix = cc in own),
    )
