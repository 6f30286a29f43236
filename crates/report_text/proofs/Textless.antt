-- What has no text.
use Rattle.std.proofs.Common.{◌≡◌, ℕ, List, [], ◌++◌, refl, sym, ap, ◌∙◌}
use Rattle.std.specs.Prelude.{◌≢◌}
use Rattle.std.proofs.lemmas.List.{append-nil}
use Rattle.bag_model.specs.Shapes as model
use Rattle.bag_model.specs.Values as values
use Rattle.field_table.specs.declared.shapes.Shape.{Shape}
use Rattle.field_table.specs.declared.shapes.Slots.{Slots}
use Rattle.field_table.specs.declared.shapes.Shape.TheVariants as variants
use Rattle.field_table.specs.Plain.{shape_of}
use Rattle.field_table.proofs.Held.{no_bag}
use Rattle.text_model.specs.ValueTexts.{value_text}

pub no_text : (old text : List ℕ) → text ≡ [] → old ≡ old ++ text
no_text old text none = sym (ap (λ (l : List ℕ). old ++ l) none ∙ append-nil old)

no_bag_text : (shape : model.Shape) (vs : values.Values) → ((nodes : model.Nodes) → shape ≢ model.Shape.Bag nodes) → value_text shape (values.Value.Bag vs) ≡ []
no_bag_text model.Shape.Taint vs h = refl
no_bag_text (model.Shape.Scalar pick kind) vs h = refl
no_bag_text (model.Shape.Set kind) vs h = refl
no_bag_text model.Shape.Counter vs h = refl
no_bag_text (model.Shape.Map kind inner) vs h = refl
no_bag_text (model.Shape.Bag nodes) vs h = absurd (h nodes refl)

-- The values of a bag under a shape that is none.
pub bag_textless : (shape : Shape) (vs : values.Values) → ((inner : Slots) → shape ≢ variants.Bag inner) → value_text (shape_of shape) (values.Value.Bag vs) ≡ []
bag_textless shape vs h = no_bag_text (shape_of shape) vs (no_bag shape h)
