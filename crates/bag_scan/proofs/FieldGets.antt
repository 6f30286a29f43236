-- The field at a place, as the code has it.
use Rattle.std.proofs.Common.{◌≡◌, ℕ, zero, suc, ◌+◌, ◌<◌, ◌≤◌, List, [], ◌∷◌, length, Option, Some, None, IsSome, Bor, sym, refl, ap, ◌∙◌, arith}
use Rattle.std.specs.List.{slice_get}
use Rattle.std.specs.Option.{option_map}
use Rattle.bag_model.specs.Shapes.{Field, fields}
use Rattle.bag_model.specs.Sizes.{shape_size, nodes_size}
use Rattle.bag_model.proofs.SizeLaws.{size_at}
use Rattle.field_table.specs.Plain.{nodes_of, field_of, shape_of}
use Rattle.field_table.specs.declared.shapes.Slot.{Slot}
use Rattle.field_table.specs.declared.shapes.Slots.{Slots}
use Rattle.field_table.proofs.Held.{field_is}

-- There is one at each place that is less than how many there are.
no_gap : (fs : List Field) (i : ℕ) → None ≡ slice_get fs i → i < length fs → ⊥
no_gap [] i e within = omega arith
no_gap (f ∷ fs) zero e within = cc
no_gap (f ∷ fs) (suc i) e within = no_gap fs i e (omega (arith, within))

-- The field as its parts are seen.
abbrev pub opened : Slot → Field
opened x = record { name = x.name; number = x.number; shape = shape_of x.shape }

-- What `get` answers is the field at the place.
abbrev pub Gets : Slots → ℕ → Option (Bor Slot) → Type 0
Gets slots i got = option_map (λ (found : Bor Slot). field_of found.now) got ≡ slice_get (fields (nodes_of slots)) i

pub field_at : (slots : Slots) (i : ℕ) (got : Option (Bor Slot)) (x : Bor Slot) → Gets slots i got → got ≡ Some x → slice_get (fields (nodes_of slots)) i ≡ Some (opened x.now)
field_at slots i got x gets is = sym gets ∙ ap (option_map (λ (found : Bor Slot). field_of found.now)) is ∙ ap Some (field_is x.now)

pub field_smaller : (slots : Slots) (i : ℕ) (got : Option (Bor Slot)) (x : Bor Slot) → Gets slots i got → got ≡ Some x → 1 + shape_size (shape_of x.now.shape) ≤ nodes_size (nodes_of slots)
field_smaller slots i got x gets is = size_at (nodes_of slots) i (opened x.now) (field_at slots i got x gets is)

pub field_there : (slots : Slots) (i : ℕ) (got : Option (Bor Slot)) → Gets slots i got → i < length (fields (nodes_of slots)) → IsSome got
field_there slots i (Some x) gets within = refl
field_there slots i None gets within = absurd (no_gap (fields (nodes_of slots)) i gets within)
