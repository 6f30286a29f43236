-- Laws of what is kept.
use Rattle.std.specs.Prelude.{◌≡◌, ◌⊎◌, ◌↔◌, ℕ, List, [], ◌∷◌, Option, Some, None}
use Rattle.context_model.specs.declared.Form.{Form}
use Rattle.context_model.specs.Atoms.{Atom}
use Rattle.context_model.specs.Orders.{Path, IsIn}
use Rattle.context_model.specs.WellFormed.{IsWellFormed}
use Rattle.context_model.specs.Ended.{IsBelow, IsEnded, field_path}
use Rattle.context_model.specs.Merged.{IsMerged}
use Rattle.context_model.specs.Trimmed.{trimmed}
use Rattle.bag_model.specs.Shapes.{Shape, Nodes}
use Rattle.bag_model.specs.Slots.{SlotAt, slots_of}
use Rattle.bag_model.specs.Tables.{IsTable}
use Rattle.bag_model.specs.Values.{Value}
use Rattle.bag_model.specs.Readings.{PathsOf, Reads}
use Rattle.bag_model.specs.Typed.{IsTyped}
use Rattle.keep_calls.specs.declared.others.Others.{Others}
use Rattle.keep_calls.specs.declared.others.Others.TheVariants.{Cut, Unsaid}
use Rattle.keep_calls.specs.Kept.{IsKeptPath, IsOnTheWay, gap_mark, IsKeptOf, kept_list}

-- The table is one, the list is well formed, and this is what is kept of it.
pub record KeepsList (nodes : Nodes) (others : Others) (list kept : List Atom) : Type 0 where
  pub table : IsTable nodes
  pub well_formed : IsWellFormed list
  pub holds : IsKeptOf nodes others list kept

-- Of a well-formed list something is kept, which the plain program computes, and one list alone.
pub record KeepsContexts : Type 0 where
  pub some : (nodes : Nodes) (others : Others) (list : List Atom) → IsTable nodes
      → IsWellFormed list → IsKeptOf nodes others list (kept_list nodes others list)
  pub one : (nodes : Nodes) (others : Others) (list a b : List Atom) → IsKeptOf nodes others list a
      → IsKeptOf nodes others list b → a ≡ b

-- The second lists are what is kept of the first ones, one by one.
abbrev pub AreKeptOf : Nodes → Others → List (List Atom) → List (List Atom) → Type 0
AreKeptOf nodes others [] [] = Unit {0}
AreKeptOf nodes others (list ∷ lists) (kept ∷ keeps) =
    IsKeptOf nodes others list kept × AreKeptOf nodes others lists keeps
AreKeptOf nodes others lists keeps = ⊥

-- What is kept of a merge is the merge of what is kept of its lists.
abbrev pub KeepMerges : Type 0
KeepMerges =
    (nodes : Nodes) (others : Others) (lists keeps : List (List Atom)) (merged kept : List Atom)
    → IsMerged lists merged → AreKeptOf nodes others lists keeps
    → IsKeptOf nodes others merged kept ↔ IsMerged keeps kept

-- Of what is kept all is kept.
abbrev pub KeepsOnce : Type 0
KeepsOnce =
    (nodes : Nodes) (others : Others) (list kept : List Atom) → KeepsList nodes others list kept
    → IsKeptOf nodes others kept kept

-- The slots of the table have the same paths as before, and so say the same and are typed as
-- before.
pub record SaysTheSame (nodes : Nodes) (list kept : List Atom) : Type 0 where
  pub paths : (p : Path) → IsKeptPath nodes p → PathsOf kept p ↔ PathsOf list p
  pub reads : (slot : SlotAt) (v : Value) → IsIn slot (slots_of nodes)
      → Reads slot.shape (PathsOf kept) (field_path slot.numbers) v
      ↔ Reads slot.shape (PathsOf list) (field_path slot.numbers) v
  pub typed : (slot : SlotAt) → IsIn slot (slots_of nodes)
      → IsTyped slot.shape (PathsOf kept) (field_path slot.numbers)
      ↔ IsTyped slot.shape (PathsOf list) (field_path slot.numbers)

-- The slots of the table say the same in what is kept as in the list.
abbrev pub KeptSlotsSayTheSame : Type 0
KeptSlotsSayTheSame =
    (nodes : Nodes) (others : Others) (list kept : List Atom) → KeepsList nodes others list kept
    → SaysTheSame nodes list kept

-- A slot of the table, or none.
abbrev pub IsSlotOrNone : Nodes → Option SlotAt → Type 0
IsSlotOrNone nodes None = Unit {0}
IsSlotOrNone nodes (Some slot) = IsIn slot (slots_of nodes)

-- The path is told by the table alone: it leads to a slot, or is a part of the mark of a gap.
abbrev pub IsToldByTable : Nodes → Path → Type 0
IsToldByTable nodes p =
    IsOnTheWay nodes p ⊎ ((gap : Option SlotAt) × IsSlotOrNone nodes gap × IsBelow p (gap_mark gap))

-- Nothing else leaves: each path of what is kept is one of the list at or below a slot, or is told
-- by the table alone.
abbrev pub NothingElseLeaves : Type 0
NothingElseLeaves =
    (nodes : Nodes) (others : Others) (list kept : List Atom) → KeepsList nodes others list kept
    → (p : Path) → PathsOf kept p → (IsKeptPath nodes p × PathsOf list p) ⊎ IsToldByTable nodes p

-- Where others go unsaid, a slot of the table is ended exactly where it was.
abbrev pub UnsaidIsAsExact : Type 0
UnsaidIsAsExact = (nodes : Nodes) (list kept : List Atom) → KeepsList nodes Unsaid list kept
    → (slot : SlotAt) → IsIn slot (slots_of nodes)
    → IsEnded kept (field_path slot.numbers) ↔ IsEnded list (field_path slot.numbers)

-- Whatever path is ended in what is kept, it was ended in the list, and nothing below it was
-- dropped but headers that lead to slots of the table. So whatever table reads it, what an exact
-- field says is what the list says.
pub record AreCutsTold (nodes : Nodes) (list kept : List Atom) : Type 0 where
  pub ended : (s : Path) → IsEnded kept s → IsEnded list s
  pub whole : (s p : Path) → IsEnded kept s → IsBelow s p → PathsOf list p
      → (IsOnTheWay nodes p → ⊥) → PathsOf kept p
  pub reads : (shape : Shape) (s : Path) (v : Value) → IsEnded kept s
      → Reads shape (PathsOf kept) s v ↔ Reads shape (PathsOf list) s v

-- Where others are cut off, the cuts are told.
abbrev pub CutsAreTold : Type 0
CutsAreTold =
    (nodes : Nodes) (list kept : List Atom) → KeepsList nodes Cut list kept
    → AreCutsTold nodes list kept

-- Where others are cut off, and what is kept is cut to a budget after it: whatever path is ended in
-- what is left, it was ended in the list, and the same value is read there, whatever table reads
-- it.
pub record CutsAreToldWithin : Type 0 where
  pub ended : (nodes : Nodes) (form : Form) (budget : ℕ) (list kept : List Atom) (s : Path)
      → KeepsList nodes Cut list kept → IsEnded (trimmed form kept budget) s → IsEnded list s
  pub reads : (nodes : Nodes) (form : Form) (budget : ℕ) (list kept : List Atom) (shape : Shape)
      (s : Path) (v : Value)
      → KeepsList nodes Cut list kept → IsEnded (trimmed form kept budget) s
      → Reads shape (PathsOf (trimmed form kept budget)) s v ↔ Reads shape (PathsOf list) s v
