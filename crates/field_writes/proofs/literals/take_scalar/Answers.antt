use Rattle.std.proofs.Common.{sym, ap, ◌∙◌, subst}
use Rattle.bag_model.specs.Scalars as scalars
use Rattle.scalar_types.specs.KindViews.{kind_of}
use Rattle.field_writes.specs.Ends.{BeginsWithOne}
use Rattle.field_writes.proofs.Taking.{no_struct_scalar, no_word_scalar}
use Rattle.field_writes.proofs.Unique.{SaysScalar}
use Rattle.field_writes.proofs.literals.take_scalar.Goals as goal

pub returns-in-None : goal.returns-in-None
returns-in-None c = λ v rest p.
    no_word_scalar c.in-One.word c.args.text.now (rw c.in-None.is at c.in_ok-scalar-in-One.ensures.value) v rest
    (subst (λ (k : scalars.ScalarKind). BeginsWithOne (SaysScalar k v) c.args.text.now rest) (ap kind_of c.in-One.is) p)

pub returns-in-None-2 : goal.returns-in-None-2
returns-in-None-2 c = λ v rest p.
    no_struct_scalar _ c.args.text.now (rw c.in-None-2.is at c.in_ok-fields-in-Packed.ensures) v rest
    (subst (λ (k : scalars.ScalarKind). BeginsWithOne (SaysScalar k v) c.args.text.now rest)
    (ap kind_of c.in-Packed.is ∙ ap scalars.ScalarKind.Packed (sym c.as_slice.ensures)) p)
