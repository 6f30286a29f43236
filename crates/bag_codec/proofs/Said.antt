-- What lists say of a table, as values of its bag.
use Rattle.std.proofs.Common.{◌≡◌, ◌↔◌, ℕ, zero, suc, ◌<◌, List, [], ◌∷◌, length, Some, refl, sym, ap, subst, arith}
use Rattle.std.specs.List.{slice_get}
use Rattle.context_model.specs.Atoms.{Atom}
use Rattle.context_model.specs.Merged.{IsMerged}
use Rattle.bag_encode.specs.Encoding.{bag_values}
use Rattle.bag_model.specs.Encodings.{EncodingsReadBack, IsEncoding, IsEncodingOf}
use Rattle.bag_model.specs.Joins.{join}
use Rattle.bag_model.specs.MergeReadings.{MergesReadAsJoins}
use Rattle.bag_model.specs.NormalFormLaws.{NormalKeepsValues}
use Rattle.bag_model.specs.Readings.{PathsOf, Reads}
use Rattle.bag_model.specs.Shapes as shapes
use Rattle.bag_model.specs.Shapes.{Nodes}
use Rattle.bag_model.specs.Tables.{IsTable}
use Rattle.bag_model.specs.Typed.{AreTyped}
use Rattle.bag_model.specs.Values.{Value, Bag, IsOfShape, AreOfShapes}
use Rattle.bag_scan.specs.declared.states.State.{State}
use Rattle.bag_scan.specs.declared.states.State.TheVariants.{Exact, Partial}

-- The list says this value of the table's bag.
abbrev pub Says : Nodes → List Atom → Value → Type 0
Says nodes list v = Reads (shapes.Shape.Bag nodes) (PathsOf list) [] v

module _ (laws : MergesReadAsJoins) where
  pub says_join : (nodes : Nodes) (a b merged : List Atom) (v w : Value)
      → IsMerged (a ∷ b ∷ []) merged → Says nodes a v → Says nodes b w → Says nodes merged (join v w)
  says_join nodes a b merged (Bag vs) (Bag ws) m s t = laws.joins nodes a b merged vs ws m s t
  says_join nodes a b merged (Bag vs) w m s t = absurd t
  says_join nodes a b merged v w m s t = absurd s

  pub says_one : (nodes : Nodes) (list : List Atom) (v w : Value) → Says nodes list v → Says nodes list w → v ≡ w
  says_one nodes list (Bag vs) (Bag ws) s t = ap Bag (laws.one nodes list vs ws s t)
  says_one nodes list (Bag vs) w s t = absurd t
  says_one nodes list v w s t = absurd s

-- ---- encodings and normal forms

-- A value of a bag is that of its fields.
pub bag_is : (nodes : Nodes) (v : Value) → IsOfShape (shapes.Shape.Bag nodes) v → AreOfShapes nodes (bag_values v) × (v ≡ Bag (bag_values v))
bag_is nodes (Bag vs) o = (o, refl)
bag_is nodes v o = absurd o

module _ (laws : EncodingsReadBack) (nodes : Nodes) (v : Value) (list : List Atom) (table : IsTable nodes) (o : IsOfShape (shapes.Shape.Bag nodes) v) (is : IsEncoding nodes (bag_values v) list) where
  encoding : IsEncodingOf nodes (bag_values v) list
  encoding = record { table = table; shapes = (bag_is nodes v o).0; encoding = is }

  pub encoding_typed : AreTyped nodes (PathsOf list) []
  encoding_typed = laws.typed nodes (bag_values v) list encoding

  pub encoding_says : Says nodes list v
  encoding_says = subst (Says nodes list) (sym (bag_is nodes v o).1) (laws.reads nodes (bag_values v) list encoding)

-- What normal form says the list says.
pub normal_says : (nodes : Nodes) (list normal : List Atom) → NormalKeepsValues nodes list normal → (v : Value) → Says nodes normal v → Says nodes list v
normal_says nodes list normal keeps (Bag vs) s = (keeps.says vs).0 s
normal_says nodes list normal keeps v s = absurd s

-- Two states that are exact together are one.
pub states_one : (s t : State) → (s ≡ Exact ↔ t ≡ Exact) → s ≡ t
states_one Exact t e = sym (e.0 refl)
states_one s Exact e = e.1 refl
states_one Partial Partial e = refl

-- There is a slot at each place below their number.
pub slot_at : {A : Type 0} (xs : List A) (i : ℕ) → i < length xs → (x : A) × (slice_get xs i ≡ Some x)
slot_at [] i l = absurd (omega (arith, l))
slot_at (x ∷ xs) zero l = (x, refl)
slot_at (x ∷ xs) (suc i) l = slot_at xs i (omega (arith, l))
