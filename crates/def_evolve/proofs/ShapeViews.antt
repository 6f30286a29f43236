-- The shapes of the code by their variants.
use Rattle.std.proofs.Common.{◌≡◌, ◌≢◌, ℕ, zero, suc, refl, sym, ap, ◌∙◌, subst}
use Rattle.std.specs.Prelude.{Box}
use Rattle.std.specs.declared.alloc.Global.{Global}
use Rattle.scalar_types.specs.declared.kinds.ScalarKind.{ScalarKind}
use Rattle.field_table.specs.declared.shapes.Shape.{Shape}
use Rattle.field_table.specs.declared.shapes.Shape.TheVariants as variants
use Rattle.field_table.specs.declared.shapes.Slot.{Slot}
use Rattle.field_table.specs.declared.shapes.Slots.{Slots}
use Rattle.field_table.specs.declared.shapes.Shape.TheOpen.{Shape-F}
use Rattle.field_table.specs.declared.shapes.Shape.TheViews.{out-Shape, roll-Shape, roll-out-Shape}
use Rattle.field_table.specs.Plain.{shape_of}
use Rattle.field_table.proofs.Shown.{taint_shown, scalar_shown, greatest_shown, set_shown, counter_shown, map_shown, bag_shown}
use Rattle.def_evolve.specs.Breaks.{variant_of}

-- The shape is of the variant with this number.
abbrev pub IsVariant : ℕ → Shape → Type 0
IsVariant zero x = x ≡ variants.Taint
IsVariant (suc zero) x = (kind : ScalarKind) × (x ≡ variants.Scalar kind)
IsVariant (suc (suc zero)) x = (kind : ScalarKind) × (x ≡ variants.Greatest kind)
IsVariant (suc (suc (suc zero))) x = (kind : ScalarKind) × (x ≡ variants.Set kind)
IsVariant (suc (suc (suc (suc zero)))) x = x ≡ variants.Counter
IsVariant (suc (suc (suc (suc (suc zero))))) x = (key : ScalarKind) × (value : Box Shape Global) × (x ≡ variants.Map key value)
IsVariant (suc (suc (suc (suc (suc (suc n)))))) x = (inner : Slots) × (x ≡ variants.Bag inner)

-- Each shape is of its variant.
pub has_variant : (x : Shape) → IsVariant (variant_of (shape_of x)) x
has_variant x = by (out-Shape x) refl
  where
    same : (y : Shape) (n : ℕ) → x ≡ y → variant_of (shape_of y) ≡ n → IsVariant n x → IsVariant (variant_of (shape_of x)) x
    same y n e f v = subst (λ k. IsVariant k x) (sym f ∙ ap (λ (z : Shape). variant_of (shape_of z)) (sym e)) v

    is : (o : Shape-F Shape Slot Slots) → out-Shape x ≡ o → x ≡ roll-Shape o
    is o e = sym (roll-out-Shape x) ∙ ap roll-Shape e

    by : (o : Shape-F Shape Slot Slots) → out-Shape x ≡ o → IsVariant (variant_of (shape_of x)) x
    by Shape-F.Taint e = let own : x ≡ variants.Taint = is Shape-F.Taint e ∙ variants.rolls-Taint in same variants.Taint 0 own (ap variant_of taint_shown.0) own
    by Shape-F.Counter e = let own : x ≡ variants.Counter = is Shape-F.Counter e ∙ variants.rolls-Counter in same variants.Counter 4 own (ap variant_of counter_shown.0) own
    by (Shape-F.Scalar kind) e = let own : x ≡ variants.Scalar kind = is (Shape-F.Scalar kind) e ∙ variants.rolls-Scalar kind in same (variants.Scalar kind) 1 own (ap variant_of (scalar_shown kind).0) (kind, own)
    by (Shape-F.Greatest kind) e = let own : x ≡ variants.Greatest kind = is (Shape-F.Greatest kind) e ∙ variants.rolls-Greatest kind in same (variants.Greatest kind) 2 own (ap variant_of (greatest_shown kind).0) (kind, own)
    by (Shape-F.Set kind) e = let own : x ≡ variants.Set kind = is (Shape-F.Set kind) e ∙ variants.rolls-Set kind in same (variants.Set kind) 3 own (ap variant_of (set_shown kind).0) (kind, own)
    by (Shape-F.Map key value) e = let own : x ≡ variants.Map key value = is (Shape-F.Map key value) e ∙ variants.rolls-Map key value in same (variants.Map key value) 5 own (ap variant_of (map_shown key value)) (key, value, own)
    by (Shape-F.Bag inner) e = let own : x ≡ variants.Bag inner = is (Shape-F.Bag inner) e ∙ variants.rolls-Bag inner in same (variants.Bag inner) 6 own (ap variant_of (bag_shown inner)) (inner, own)

-- A shape that isn't of the first one's variant has another.
pub apart : (old new : Shape) (n : ℕ) → variant_of (shape_of old) ≡ n → (IsVariant n new → ⊥) → variant_of (shape_of old) ≢ variant_of (shape_of new)
apart old new n e f same = f (subst (λ k. IsVariant k new) (sym same ∙ e) (has_variant new))
