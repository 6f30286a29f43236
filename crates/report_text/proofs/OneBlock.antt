-- A list has one block.
use Rattle.std.proofs.Common.{◌≡◌, ◌↔◌, ℕ, zero, suc, List, ◌++◌, length, Some, IsTrue, sym, refl, ap, ◌∙◌, subst}
use Rattle.context_model.specs.Atoms.{Atom}
use Rattle.context_model.specs.Ended.{IsEnded, field_path}
use Rattle.bag_model.specs.Readings.{PathsOf}
use Rattle.bag_model.specs.Shapes.{Nodes}
use Rattle.bag_model.specs.Slots.{SlotAt, slots_of}
use Rattle.bag_model.specs.SlotValues.{SaysSlot}
use Rattle.bag_model.proofs.Uniqueness.{Reads-unique}
use Rattle.bag_scan.specs.declared.states.State.{State}
use Rattle.bag_scan.specs.declared.states.State.TheVariants.{Exact, Partial}
use Rattle.report_text.specs.Blocks.{bytes_line, slot_line, is_exact, IsSlotLine, AreSlotLines, HasOneBlock}

-- Two states that tell the same are one.
one_state : (a b : State) (P : Type 0) → IsTrue (is_exact a) ↔ P → IsTrue (is_exact b) ↔ P → a ≡ b
one_state Exact Exact P e f = refl
one_state Exact Partial P e f = absurd (let t = f.1 (e.0 refl) in cc)
one_state Partial Exact P e f = absurd (let t = e.1 (f.0 refl) in cc)
one_state Partial Partial P e f = refl

one_line : (nodes : Nodes) (list : List Atom) (slot : ℕ) (a b : List ℕ) → IsSlotLine nodes list slot a → IsSlotLine nodes list slot b → a ≡ b
one_line nodes list slot a b m n =
    let same : m.shown.at ≡ n.shown.at = at_one m.shown.at n.shown.at (sym m.shown.there ∙ n.shown.there) in
    let state : m.state ≡ n.state = one_state m.state n.state (IsEnded list (field_path n.shown.at.numbers))
    (subst (λ (at : SlotAt). IsTrue (is_exact m.state) ↔ IsEnded list (field_path at.numbers)) same m.shown.ended) n.shown.ended in
    let value : m.value ≡ n.value = Reads-unique n.shown.at.shape (PathsOf list) (field_path n.shown.at.numbers) m.value n.value
    (subst (λ (at : SlotAt). SaysSlot list at m.value) same m.shown.says) n.shown.says in
    m.text ∙ ap (λ at. slot_line at m.state m.value) same ∙ ap (λ s. slot_line n.shown.at s m.value) state ∙ ap (slot_line n.shown.at n.state) value ∙ sym n.text
  where
    at_one : (x y : SlotAt) → Some x ≡ Some y → x ≡ y
    at_one x y e = cc

one_text : (nodes : Nodes) (list : List Atom) (n : ℕ) (a b : List ℕ) → AreSlotLines nodes list n a → AreSlotLines nodes list n b → a ≡ b
one_text nodes list zero a b m n = m ∙ sym n
one_text nodes list (suc slot) a b (before, line, is, earlier, last) (other, end, also, sooner, final) =
    is
    ∙ ap (λ l. l ++ line) (one_text nodes list slot before other earlier sooner)
    ∙ ap (λ l. other ++ l) (one_line nodes list slot line end last final)
    ∙ sym also

pub one_block : HasOneBlock
one_block nodes form list a b (lines, is, are) (others, also, too) = is ∙ ap (λ l. bytes_line form list ++ l) (one_text nodes list (length (slots_of nodes)) lines others are too) ∙ sym also
