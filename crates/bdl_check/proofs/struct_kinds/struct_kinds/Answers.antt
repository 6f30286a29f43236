use Rattle.std.proofs.Common.{[], ◌∷◌, ◌++◌, map, take, sym, ap, ◌∙◌, refl}
use Rattle.bdl_parser.specs.Views.{struct_field_of}
use Rattle.bdl_check.specs.Layouts.{struct_words}
use Rattle.bdl_check.proofs.BagSizes.{up_to}
use Rattle.bdl_check.proofs.LayoutKinds.{word_more, no_more}
use Rattle.bdl_check.proofs.struct_kinds.struct_kinds.Goals as goal
use Rattle.bdl_check.proofs.struct_kinds.struct_kinds.Goals.{in-Scalar+in_ok-push, in_default}

pub loop-field-preserved : goal.loop-field-preserved
loop-field-preserved c =
    let items = c.as_slice-field-items.result.now in
    let i = c.loop-field.field-index in
    let front = map struct_field_of (take i items) in
    let field = c.field-item.result in
    let here = struct_field_of field in
    let more = ap struct_words (sym (up_to struct_field_of items i field c.loop-field-test.true c.field-item.is)) in
    elim c.match-field.branch [
      | in-Scalar+in_ok-push w ↦ (
          let pushed = w.in_ok-push.ensures.ok in
          let grown = ap (λ words. words ++ w.in-Scalar.word ∷ []) c.loop-field.invariant in
          w.kinds-is ∙ pushed ∙ grown ∙ word_more front here field.kind.at field.kind.form w.in-Scalar.word refl w.in-Scalar.is ∙ more
          )
      | in_default w ↦ w.kinds-is ∙ c.loop-field.invariant ∙ no_more front here field.kind.at field.kind.form refl w.in_default.not-Scalar ∙ more
    ]
