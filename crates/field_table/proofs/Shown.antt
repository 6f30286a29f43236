-- What is seen of a field that is put together, by its parts.
use Rattle.std.proofs.Common.{◌≡◌, ℕ, List, [], ◌∷◌, ◌++◌, sym, ◌∙◌, ap, subst}
use Rattle.std.specs.Prelude.{Box}
use Rattle.std.specs.declared.alloc.Global.{Global}
use Rattle.field_table.specs.declared.shapes.Shape.{Shape}
use Rattle.bag_model.specs.declared.Pick.TheVariants as pick
use Rattle.bag_model.specs.Shapes as model
use Rattle.scalar_types.specs.KindViews.{kind_of}
use Rattle.scalar_types.specs.declared.kinds.ScalarKind.{ScalarKind}
use Rattle.field_table.specs.declared.shapes.Shape.TheVariants as variants
use Rattle.field_table.specs.declared.shapes.Slots.{Slots}
use Rattle.field_table.specs.declared.shapes.Shape.TheFolds.{fold-roll-Shape}
use Rattle.field_table.specs.declared.shapes.Shape.TheOpen.{Shape-F}
use Rattle.field_table.specs.Tables.{Kept, KeptField, KeptBag, plain_shape, Taint, Scalar, Set, Counter, Map, IsLoose}
use Rattle.field_table.specs.Plain.{shape_step, slot_step, slots_step, kept_shape, shape_of, nodes_of, IsIndexedShape}
use Rattle.field_table.proofs.Held.{shape_bag}

kept_taint : kept_shape variants.Taint ≡ Taint
kept_taint = ap kept_shape (sym variants.rolls-Taint) ∙ fold-roll-Shape Kept KeptField KeptBag shape_step slot_step slots_step Shape-F.Taint

kept_counter : kept_shape variants.Counter ≡ Counter
kept_counter = ap kept_shape (sym variants.rolls-Counter) ∙ fold-roll-Shape Kept KeptField KeptBag shape_step slot_step slots_step Shape-F.Counter

kept_scalar : (kind : ScalarKind) → kept_shape (variants.Scalar kind) ≡ Scalar pick.Least (kind_of kind)
kept_scalar kind = ap kept_shape (sym (variants.rolls-Scalar kind)) ∙ fold-roll-Shape Kept KeptField KeptBag shape_step slot_step slots_step (Shape-F.Scalar kind)

kept_greatest : (kind : ScalarKind) → kept_shape (variants.Greatest kind) ≡ Scalar pick.Greatest (kind_of kind)
kept_greatest kind = ap kept_shape (sym (variants.rolls-Greatest kind)) ∙ fold-roll-Shape Kept KeptField KeptBag shape_step slot_step slots_step (Shape-F.Greatest kind)

kept_set : (kind : ScalarKind) → kept_shape (variants.Set kind) ≡ Set (kind_of kind)
kept_set kind = ap kept_shape (sym (variants.rolls-Set kind)) ∙ fold-roll-Shape Kept KeptField KeptBag shape_step slot_step slots_step (Shape-F.Set kind)

pub kept_map : (key : ScalarKind) (value : Box Shape Global) → kept_shape (variants.Map key value) ≡ Map (kind_of key) (kept_shape value.value)
kept_map key value = ap kept_shape (sym (variants.rolls-Map key value)) ∙ fold-roll-Shape Kept KeptField KeptBag shape_step slot_step slots_step (Shape-F.Map key value)

pub map_shown : (key : ScalarKind) (value : Box Shape Global) → shape_of (variants.Map key value) ≡ model.Shape.Map (kind_of key) (shape_of value.value)
map_shown key value = ap plain_shape (kept_map key value)

pub taint_shown : (shape_of variants.Taint ≡ model.Shape.Taint) × IsIndexedShape variants.Taint
taint_shown = (ap plain_shape kept_taint, subst IsLoose (sym kept_taint) tt)

pub counter_shown : (shape_of variants.Counter ≡ model.Shape.Counter) × IsIndexedShape variants.Counter
counter_shown = (ap plain_shape kept_counter, subst IsLoose (sym kept_counter) tt)

pub scalar_shown : (kind : ScalarKind) → (shape_of (variants.Scalar kind) ≡ model.Shape.Scalar pick.Least (kind_of kind)) × IsIndexedShape (variants.Scalar kind)
scalar_shown kind = (ap plain_shape (kept_scalar kind), subst IsLoose (sym (kept_scalar kind)) tt)

pub greatest_shown : (kind : ScalarKind) → (shape_of (variants.Greatest kind) ≡ model.Shape.Scalar pick.Greatest (kind_of kind)) × IsIndexedShape (variants.Greatest kind)
greatest_shown kind = (ap plain_shape (kept_greatest kind), subst IsLoose (sym (kept_greatest kind)) tt)

pub set_shown : (kind : ScalarKind) → (shape_of (variants.Set kind) ≡ model.Shape.Set (kind_of kind)) × IsIndexedShape (variants.Set kind)
set_shown kind = (ap plain_shape (kept_set kind), subst IsLoose (sym (kept_set kind)) tt)

-- A bag has the fields of the list.
pub bag_shown : (inner : Slots) → shape_of (variants.Bag inner) ≡ model.Shape.Bag (nodes_of inner)
bag_shown inner = ap plain_shape (shape_bag inner)

-- A field more at the end.
pub one_more : (before after : List model.Field) (fields : List model.Field) (name : List ℕ) (number : ℕ) (own shape : model.Shape) → before ≡ fields → after ≡ before ++ (record { name = name; number = number; shape = own }) ∷ [] → own ≡ shape
    → after ≡ fields ++ (record { name = name; number = number; shape = shape }) ∷ []
one_more before after fields name number own shape held added is =
    added ∙ (ap (λ l. l ++ (record { name = name; number = number; shape = own }) ∷ []) held ∙ ap (λ (s : model.Shape). fields ++ (record { name = name; number = number; shape = s }) ∷ []) is)
