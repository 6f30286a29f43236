-- No float is in an object.
use Rattle.std.proofs.Common.{◌≡◌, ℕ, suc, false, List, [], ◌∷◌, Some, refl, ap, ◌∙◌}
use Rattle.std.specs.List.{slice_get}
use Rattle.context_model.specs.declared.Form.{Form}
use Rattle.context_model.specs.Atoms.{Atom}
use Rattle.bag_model.specs.Shapes.{Nodes}
use Rattle.serde_json.specs.Data.{Data}
use Rattle.serde_json.specs.View.{items_of}
use Rattle.serde_json.specs.Written.{has_float, items_have_float}
use Rattle.context_json.specs.Objects.{IsSlotObject, AreSlotObjects, IsContextObject}

-- Objects without a float make items without one.
no_floats : (objects : List Data) → ((place : ℕ) (d : Data) → slice_get objects place ≡ Some d → has_float d ≡ false) → items_have_float (items_of objects) ≡ false
no_floats [] none = refl
no_floats (d ∷ objects) none =
    let first : has_float d ≡ false = none 0 d refl in
    let rest : items_have_float (items_of objects) ≡ false = no_floats objects (λ place. none (suc place)) in
    cc

slot_floatless : (nodes : Nodes) (list : List Atom) (slot : ℕ) (d : Data) → IsSlotObject nodes list slot d → has_float d ≡ false
slot_floatless nodes list slot d is = ap has_float is.object_is

-- No float is among the objects of all slots.
pub slots_floatless : (nodes : Nodes) (list : List Atom) (fields : List Data) → AreSlotObjects nodes list fields → items_have_float (items_of fields) ≡ false
slots_floatless nodes list fields are = no_floats fields (λ slot e there. slot_floatless nodes list slot e (are.1 slot e there))

pub context_floatless : (nodes : Nodes) (form : Form) (list : List Atom) (d : Data) → IsContextObject nodes form list d → has_float d ≡ false
context_floatless nodes form list d (fields, are, is) =
    let none = slots_floatless nodes list fields are in
    ap has_float is ∙ cc
