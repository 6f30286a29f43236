-- Blocks have the data of the objects of slots.
use Rattle.std.proofs.Common.{◌≡◌, ℕ, zero, suc, ◌≤◌, List, [], ◌∷◌, ◌++◌, length, take, Some, sym, ap, ◌∙◌, append_assoc, append-nil, arith}
use Rattle.std.specs.List.{slice_get, flat_map}
use Rattle.std.proofs.lemmas.List.{take_all}
use Rattle.context_model.specs.Atoms.{Atom}
use Rattle.bag_model.specs.Shapes.{Nodes}
use Rattle.bag_model.specs.Slots.{SlotAt, slots_of}
use Rattle.bag_model.specs.Values.{Value}
use Rattle.bag_scan.specs.declared.states.State.{State}
use Rattle.bag_scan.specs.declared.states.State.TheVariants.{Exact, Partial}
use Rattle.report_text.specs.Blocks.{bytes_line, slot_line, IsSlotLine, AreSlotLines}
use Rattle.serde_json.specs.Data.{Data}
use Rattle.context_json.specs.Objects.{slot_object, object_line, IsSlotObject, BlocksHaveSameData}
use Rattle.context_json.proofs.OneObject.{shown_same}
use Rattle.context_json.proofs.SlotShapes.{found}

-- One item more of a list.
flat_more : (f : Data → List ℕ) (xs : List Data) (place : ℕ) (x : Data) → slice_get xs place ≡ Some x → flat_map f (take (suc place) xs) ≡ flat_map f (take place xs) ++ f x
flat_more f [] place x is = absurd (cc is)
flat_more f (y ∷ ys) zero x is = let same : y ≡ x = cc is in append-nil (f y) ∙ ap f same
flat_more f (y ∷ ys) (suc place) x is = ap (λ (l : List ℕ). f y ++ l) (flat_more f ys place x is) ∙ sym (append_assoc (f y) (flat_map f (take place ys)) (f x))

line_is : (at : SlotAt) (state : State) (v : Value) → slot_line at state v ≡ object_line (slot_object at state v)
line_is at Exact v = simp append_assoc
line_is at Partial v = simp append_assoc

same_line : (nodes : Nodes) (list : List Atom) (slot : ℕ) (line : List ℕ) (d : Data) → IsSlotLine nodes list slot line → IsSlotObject nodes list slot d → line ≡ object_line d
same_line nodes list slot line d m n =
    let same = shown_same nodes list slot m.state n.state m.value n.value m.shown n.shown in
    m.text
    ∙ ap (λ at. slot_line at m.state m.value) same.0 ∙ ap (λ s. slot_line n.shown.at s m.value) same.1 ∙ ap (slot_line n.shown.at n.state) same.2
    ∙ line_is n.shown.at n.state n.value ∙ ap object_line (sym n.object_is)

lines_are : (nodes : Nodes) (list : List Atom) (objects : List Data) (n : ℕ) (text : List ℕ) → ((slot : ℕ) (d : Data) → slice_get objects slot ≡ Some d → IsSlotObject nodes list slot d) → n ≤ length objects
    → AreSlotLines nodes list n text → text ≡ flat_map object_line (take n objects)
lines_are nodes list objects zero text each within none = none
lines_are nodes list objects (suc slot) text each within (before, line, is, earlier, last) =
    let (d, there) = found objects slot (omega (arith, within)) in
    is
    ∙ ap (λ (l : List ℕ). l ++ line) (lines_are nodes list objects slot before each (omega (arith, within)) earlier)
    ∙ ap (λ (l : List ℕ). flat_map object_line (take slot objects) ++ l) (same_line nodes list slot line d last (each slot d there))
    ∙ sym (flat_more object_line objects slot d there)

pub same_data : BlocksHaveSameData
same_data nodes form list objects block (many, each) (lines, is, are) =
    is
    ∙ ap (λ (l : List ℕ). bytes_line form list ++ l)
    (lines_are nodes list objects (length (slots_of nodes)) lines each (omega (arith, many)) are
    ∙ ap (λ (l : List Data). flat_map object_line l) (take_all (length (slots_of nodes)) objects (omega (arith, many))))
