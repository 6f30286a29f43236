-- The headers of the fields of a bag, as the list has them.
use Rattle.std.proofs.Common.{◌≡◌, inl, inr, ℕ, ◌+◌, ◌<◌, ◌≤◌, true, List, length, Option, Some, None, MatchOption, sym, ap, ◌∙◌, subst, arith}
use Rattle.std.specs.List.{slice_get}
use Rattle.std.specs.Option.{option_map}
use Rattle.std.proofs.lemmas.Bool.{cases_order}
use Rattle.context_model.specs.Atoms.{Atom}
use Rattle.context_model.specs.Kinds.{atom_of}
use Rattle.context_model.specs.Kinds.Kind.{Indexed}
use Rattle.context_model.specs.Paths.{is_header, level, atom_at}
use Rattle.context_model.specs.Varints.{unsigned_varint}
use Rattle.context_model.proofs.VarintLaws.{unsigned_varint-injective}
use Rattle.bag_model.specs.Shapes.{Nodes, Field, fields}
use Rattle.bag_model.specs.Tables.{AreFields, levels}
use Rattle.bag_model.proofs.LayoutLaws.{field_wide}
use Rattle.bag_model.proofs.SlotsBelow.{get_in}
use Rattle.bag_walks.proofs.Sets.{index_header}
use Rattle.bag_scan.proofs.FieldGets.{opened}
use Rattle.field_table.specs.declared.shapes.Slot.{Slot}
use Rattle.field_table.specs.Plain.{field_of}
use Rattle.field_table.specs.Tables.{FindsNumber}
use Rattle.field_table.proofs.Held.{field_is, levels_there}
use Rattle.field_table.proofs.Numbers.{numbers_rise}
use Rattle.bag_scan.specs.Headers.{IsIndex, IsFieldHeader, PassesNoField, IsFieldFound}

-- The field that was found, by its parts.
pub found_open : (nodes : Nodes) (list : List Atom) (level from at : ℕ) (x : Slot) (start : ℕ) → IsFieldFound nodes list level from at (field_of x) start → IsFieldFound nodes list level from at (opened x) start
found_open nodes list level from at x start found = subst (λ f. IsFieldFound nodes list level from at f start) (field_is x) found

-- Two fields whose numbers are the same are one.
pub one_place : (nodes : Nodes) (i j : ℕ) (f g : Field) → AreFields nodes → slice_get (fields nodes) i ≡ Some f → slice_get (fields nodes) j ≡ Some g → f.number ≡ g.number → i ≡ j
one_place nodes i j f g are at also same = elim (cases_order i j) [
  | inl e ↦ e
  | inr (inl less) ↦ absurd (omega (arith, same, numbers_rise nodes i j f g are less at also))
  | inr (inr more) ↦ absurd (omega (arith, same, numbers_rise nodes j i g f are more also at))
]

same_varint : (depth m n : ℕ) → atom_of (Indexed depth m) ≡ atom_of (Indexed depth n) → unsigned_varint m ≡ unsigned_varint n
same_varint depth m n e = cc

-- An atom is the header of one field at most.
pub one_field : (nodes : Nodes) (depth : ℕ) (h : Atom) (i j : ℕ) (f g : Field) → AreFields nodes → IsFieldHeader nodes depth h i f → IsFieldHeader nodes depth h j g → i ≡ j
one_field nodes depth h i j f g are first second =
    one_place nodes i j f g are first.there second.there
    (unsigned_varint-injective f.number g.number (field_wide nodes f are (get_in (fields nodes) i f first.there)) (field_wide nodes g are (get_in (fields nodes) j g second.there))
    (same_varint depth f.number g.number (sym first.is ∙ second.is)))

-- The header of a field is one of its level, and is the indexed one of its number.
pub heads_level : (nodes : Nodes) (depth : ℕ) (h : Atom) (i : ℕ) (f : Field) → depth + levels nodes ≤ 16 → IsFieldHeader nodes depth h i f → (is_header h ≡ true) × (level h ≡ depth)
heads_level nodes depth h i f room heads =
    let low : depth < 16 = omega (arith, room, levels_there nodes i f heads.there) in
    let e = index_header depth f.number low in
    (ap is_header heads.is ∙ e.0, ap level heads.is ∙ e.1)

pub heads_index : (nodes : Nodes) (depth : ℕ) (h : Atom) (i : ℕ) (f : Field) → AreFields nodes → depth + levels nodes ≤ 16 → IsFieldHeader nodes depth h i f → IsIndex depth h f.number
heads_index nodes depth h i f are room heads = record {
  low = omega (arith, room, levels_there nodes i f heads.there);
  wide = field_wide nodes f are (get_in (fields nodes) i f heads.there);
  is = heads.is;
}

-- What is found by the number of a header is the field whose header it is.
pub finds_headed : (nodes : Nodes) (depth : ℕ) (h : Atom) (number : ℕ) {A : Type 0} (o : Option A) (seen : A → ℕ × Field) → AreFields nodes → depth + levels nodes ≤ 16 → IsIndex depth h number
    → FindsNumber (fields nodes) number (option_map seen o)
    → MatchOption o ((i : ℕ) (f : Field) → IsFieldHeader nodes depth h i f → ⊥) (λ found. IsFieldHeader nodes depth h (seen found).0 (seen found).1)
finds_headed nodes depth h number None seen are room index none = λ i f heads.
    none i f heads.there (
    let own = heads_index nodes depth h i f are room heads in
    unsigned_varint-injective f.number number own.wide index.wide (same_varint depth f.number number (sym heads.is ∙ index.is)))
finds_headed nodes depth h number (Some found) seen are room index (there, same) = record { there = there; is = index.is ∙ ap (λ n. atom_of (Indexed depth n)) (sym same) }

-- A search goes past an atom that isn't the header of a field.
pub passes_more : (nodes : Nodes) (list : List Atom) (depth from at : ℕ) → at < length list → (is_header (atom_at list at) ≡ true → depth ≤ level (atom_at list at))
    → ((i : ℕ) (f : Field) → IsFieldHeader nodes depth (atom_at list at) i f → ⊥) → PassesNoField nodes list depth from at → PassesNoField nodes list depth from (at + 1)
passes_more nodes list depth from at within deep other passed = record {
  stays = record {
    rises = (let r = passed.stays.rises in omega (arith, r));
    within = omega (arith, within);
    deep = λ k l m e. elim (cases_order k at) [
      | inl same ↦ subst (λ i. depth ≤ level (atom_at list i)) (sym same) (deep (ap (λ i. is_header (atom_at list i)) (sym same) ∙ e))
      | inr (inl less) ↦ passed.stays.deep k l less e
      | inr (inr more) ↦ absurd (omega (arith, m, more))
    ];
  };
  none = λ k i f l m heads. elim (cases_order k at) [
    | inl same ↦ other i f (subst (λ j. IsFieldHeader nodes depth (atom_at list j) i f) same heads)
    | inr (inl less) ↦ passed.none k i f l less heads
    | inr (inr more) ↦ absurd (omega (arith, m, more))
  ];
}
