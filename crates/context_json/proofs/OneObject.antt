-- Lists have one object.
use Rattle.std.proofs.Common.{◌≡◌, ◌↔◌, ℕ, IsTrue, List, length, Some, refl, sym, ap, ◌∙◌, subst}
use Rattle.context_model.specs.declared.Form.{Form}
use Rattle.context_model.specs.Atoms.{Atom}
use Rattle.context_model.specs.Ended.{IsEnded, field_path}
use Rattle.bag_model.specs.Readings.{PathsOf}
use Rattle.bag_model.specs.Shapes.{Nodes}
use Rattle.bag_model.specs.Slots.{SlotAt, slots_of}
use Rattle.bag_model.specs.SlotValues.{SaysSlot}
use Rattle.bag_model.specs.Values.{Value}
use Rattle.bag_model.proofs.Uniqueness.{Reads-unique}
use Rattle.trace_model.specs.ShownValues.{IsShown}
use Rattle.bag_scan.specs.declared.states.State.{State}
use Rattle.bag_scan.specs.declared.states.State.TheVariants.{Exact, Partial}
use Rattle.report_text.specs.Blocks.{is_exact}
use Rattle.serde_json.specs.Data.{Data}
use Rattle.serde_json.specs.Written.{compact_text}
use Rattle.context_json.specs.Objects.{slot_object, context_object, IsSlotObject, AreSlotObjects, IsContextObject, HasOneContextJson}
use Rattle.context_json.proofs.Placed.{one_list}

-- Two states that tell the same are one.
one_state : (a b : State) (P : Type 0) → IsTrue (is_exact a) ↔ P → IsTrue (is_exact b) ↔ P → a ≡ b
one_state Exact Exact P e f = refl
one_state Exact Partial P e f = absurd (let t = f.1 (e.0 refl) in cc)
one_state Partial Exact P e f = absurd (let t = e.1 (f.0 refl) in cc)
one_state Partial Partial P e f = refl

-- Of a slot one thing is shown.
pub shown_same : (nodes : Nodes) (list : List Atom) (slot : ℕ) (a b : State) (v w : Value) (m : IsShown nodes list slot (is_exact a) v) (n : IsShown nodes list slot (is_exact b) w)
    → (m.at ≡ n.at) × (a ≡ b) × (v ≡ w)
shown_same nodes list slot a b v w m n =
    let same : m.at ≡ n.at = at_one m.at n.at (sym m.there ∙ n.there) in (
      same,
      one_state a b (IsEnded list (field_path n.at.numbers)) (subst (λ (at : SlotAt). IsTrue (is_exact a) ↔ IsEnded list (field_path at.numbers)) same m.ended) n.ended,
      Reads-unique n.at.shape (PathsOf list) (field_path n.at.numbers) v w (subst (λ (at : SlotAt). SaysSlot list at v) same m.says) n.says,
    )
  where
    at_one : (x y : SlotAt) → Some x ≡ Some y → x ≡ y
    at_one x y e = cc

one_slot : (nodes : Nodes) (list : List Atom) (slot : ℕ) (a b : Data) → IsSlotObject nodes list slot a → IsSlotObject nodes list slot b → a ≡ b
one_slot nodes list slot a b m n =
    let same = shown_same nodes list slot m.state n.state m.value n.value m.shown n.shown in
    m.object_is
    ∙ ap (λ at. slot_object at m.state m.value) same.0 ∙ ap (λ s. slot_object n.shown.at s m.value) same.1 ∙ ap (slot_object n.shown.at n.state) same.2
    ∙ sym n.object_is

-- Of all slots one list of objects is shown.
pub slots_same : (nodes : Nodes) (list : List Atom) (a b : List Data) → AreSlotObjects nodes list a → AreSlotObjects nodes list b → a ≡ b
slots_same nodes list a b m n = one_list (IsSlotObject nodes list) (length (slots_of nodes)) a b (one_slot nodes list) m n

one_object : (nodes : Nodes) (form : Form) (list : List Atom) (a b : Data) → IsContextObject nodes form list a → IsContextObject nodes form list b → a ≡ b
one_object nodes form list a b (fields, are, is) (others, too, also) = is ∙ ap (context_object form list) (slots_same nodes list fields others are too) ∙ sym also

pub one_context_json : HasOneContextJson
one_context_json nodes form list a b (d, its, is) (e, also, too) = is ∙ ap compact_text (one_object nodes form list d e its also) ∙ sym too
