use Rattle.std.proofs.Common.{◌≡◌, rules, sym, ap, ◌∙◌}
use Rattle.std.proofs.lemmas.Slice.Eq.{slice_eq-Decides}
use Rattle.scalar_types.specs.declared.kinds.ScalarKind.TheVariants.{Packed}
use Rattle.scalar_types.proofs.kinds.ScalarKind.is_same.Goals as goal

pub returns-in-Packed-Packed : goal.returns-in-Packed-Packed
returns-in-Packed-Packed c =
    let ours = c.as_slice.result.now in
    let theirs = c.as_slice-in-Packed-Packed.result.now in
    let told = slice_eq-Decides (λ a b. search rules) ours theirs c.eq-in-Packed-Packed.result c.eq-in-Packed-Packed.ensures in
    let first = c.in-Packed-Packed.is-0 in
    let second = c.in-Packed-Packed.is-1 in (
      λ t. first ∙ ap Packed (sym c.as_slice.ensures ∙ told.0 t ∙ c.as_slice-in-Packed-Packed.ensures) ∙ sym second,
      λ same.
          let packed = sym first ∙ same ∙ second in
          let words : ours ≡ theirs = c.as_slice.ensures ∙ (cc packed) ∙ sym c.as_slice-in-Packed-Packed.ensures in
          told.1 words,
    )
