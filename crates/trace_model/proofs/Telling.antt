-- What a list tells of the paths that arrive where it is, and how each operation on lists keeps it.
use Rattle.std.proofs.Common.{◌⊎◌, inl, inr, ◌↔◌, ℕ, ◌<◌, ◌≤◌, List, [], ◌∷◌, ◌++◌, take, refl, sym, subst, arith}
use Rattle.std.proofs.lemmas.Bool.{cases_lt}
use Rattle.context_model.specs.declared.Form.{Form}
use Rattle.context_model.specs.Atoms.{Atom}
use Rattle.context_model.specs.Framing.{size_of}
use Rattle.context_model.specs.Orders.{Path, IsIn}
use Rattle.context_model.specs.WellFormed.{IsWellFormed}
use Rattle.context_model.specs.Ended.{HasMarker, IsEnded, field_path}
use Rattle.context_model.specs.Trimmed.{cut_at, kept_of, trimmed}
use Rattle.context_model.proofs.Following.{IsWellFormed-cut, IsWellFormed-empty}
use Rattle.context_model.proofs.EndedLaws.{ends_at_markers}
use Rattle.context_model.proofs.TrimmedLaws.{trimmed-fits, trimmed-cut}
use Rattle.bag_model.specs.Shapes.{Nodes}
use Rattle.bag_model.specs.Values.{Values}
use Rattle.bag_model.specs.Slots.{SlotAt, slots_of}
use Rattle.bag_model.specs.Tables.{IsTable}
use Rattle.bag_model.specs.Views.{View}
use Rattle.bag_model.specs.Readings.{PathsOf}
use Rattle.bag_model.specs.Encodings.{InLayouts, IsEncoding, AreUsed}
use Rattle.bag_model.specs.NormalForm.{IsNormalOf}
use Rattle.bag_model.specs.NormalFormLaws.{NormalKeepsList}
use Rattle.bag_model.proofs.PathSets.{AnyOf, FewerBelow}
use Rattle.bag_model.proofs.Covering.{Covers, Covers-alike, Covers-onwards, Covers-any}
use Rattle.bag_model.proofs.ForeignLaws.{InLayouts-used}
use Rattle.bag_model.proofs.Finite.{in_append_second}
use Rattle.bag_model.proofs.NormalFormLaws.{normal_left, normal_covers, normal_form_keeps}
use Rattle.trace_model.proofs.LayoutFronts.{EndsPlainly, AreUsed-plain}
use Rattle.trace_model.proofs.PlainEnds.{marker_path, marker_back, plain_or_marker, plain_last}
use Rattle.trace_model.proofs.SlotParts.{slot_covered}
use Rattle.trace_model.proofs.CutLists.{cut_fewer, cut_same, cut_ended}

-- The list tells of the paths A that arrived, where C says that something was cut off. Its paths are some of them; it has a
-- marker exactly where something was cut off; it says all that they say of each slot that is ended in it; and without a
-- marker it has those of them that the table doesn't name.
pub record Tells (nodes : Nodes) (list : List Atom) (A : Path → Type 0) (C : Type 0) : Type 0 where
  pub well_formed : IsWellFormed list
  pub arrived : FewerBelow [] (PathsOf list) A
  pub marked : HasMarker list ↔ C
  pub covers : (at : SlotAt) → IsIn at (slots_of nodes)
      → IsEnded list (field_path at.numbers) → Covers at.shape (PathsOf list) A (field_path at.numbers)
  pub unused : (HasMarker list → ⊥) → (p : Path) (b : ℕ) (bytes : List ℕ)
      → (AreUsed nodes [] (p ++ (b ∷ bytes) ∷ []) → ⊥) → A (p ++ (b ∷ bytes) ∷ []) → PathsOf list (p ++ (b ∷ bytes) ∷ [])

-- ---- lists at the start

pub Tells-received : (nodes : Nodes) (list : List Atom) → IsWellFormed list → Tells nodes list (PathsOf list) (HasMarker list)
Tells-received nodes list w = record {
  well_formed = w;
  arrived = λ p b bytes i. i;
  marked = ((λ m. m), λ m. m);
  covers = λ at i e. Covers-alike at.shape (PathsOf list) (PathsOf list) (field_path at.numbers) ((λ p b bytes j. j), λ p b bytes j. j);
  unused = λ none p b bytes u i. i;
}

-- no path
abbrev pub NoPath : Path → Type 0
NoPath p = ⊥

pub Tells-empty : (nodes : Nodes) → Tells nodes [] NoPath ⊥
Tells-empty nodes = record {
  well_formed = IsWellFormed-empty;
  arrived = λ p b bytes i. i;
  marked = ((λ m. m), λ m. m);
  covers = λ at i e. Covers-alike at.shape (PathsOf []) NoPath (field_path at.numbers) ((λ p b bytes j. j), λ p b bytes j. j);
  unused = λ none p b bytes u i. i;
}

pub Tells-encoded : (nodes : Nodes) (vs : Values) (list : List Atom) → IsEncoding nodes vs list → Tells nodes list (InLayouts nodes [] vs) ⊥
Tells-encoded nodes vs list e = record {
  well_formed = e.well_formed;
  arrived = λ p b bytes i. (e.exact (p ++ (b ∷ bytes) ∷ [])).0 i;
  marked = ((λ m. by (marker_path list m)), λ none. absurd none);
  covers = λ at i f. Covers-alike at.shape (PathsOf list) (InLayouts nodes [] vs) (field_path at.numbers) (
    (λ p b bytes j. (e.exact (field_path at.numbers ++ (p ++ (b ∷ bytes) ∷ []))).0 j),
    λ p b bytes j. (e.exact (field_path at.numbers ++ (p ++ (b ∷ bytes) ∷ []))).1 j,
  );
  unused = λ none p b bytes u l. (e.exact (p ++ (b ∷ bytes) ∷ [])).1 l;
}
  where
    by : (q : Path) × PathsOf list (q ++ [] ∷ []) → ⊥
    by s =
        let plain : EndsPlainly (s.0 ++ [] ∷ []) = AreUsed-plain nodes [] (s.0 ++ [] ∷ []) (InLayouts-used nodes [] vs (s.0 ++ [] ∷ []) ((e.exact (s.0 ++ [] ∷ [])).0 s.1)) in
        plain_or_marker plain.0 s.0 plain.1 plain.2 (sym plain.3)

-- ---- the same in other words

pub Tells-same : (nodes : Nodes) (list : List Atom) (A B : Path → Type 0) (C D : Type 0) → ((p : Path) → A p ↔ B p) → C ↔ D → Tells nodes list A C → Tells nodes list B D
Tells-same nodes list A B C D same cut t = record {
  well_formed = t.well_formed;
  arrived = λ p b bytes i. (same (p ++ (b ∷ bytes) ∷ [])).0 (t.arrived p b bytes i);
  marked = ((λ m. cut.0 ((t.marked).0 m)), λ d. (t.marked).1 (cut.1 d));
  covers = λ at i e. Covers-onwards at.shape (PathsOf list) A B (field_path at.numbers) (t.covers at i e) (Covers-alike at.shape A B (field_path at.numbers) (
    (λ p b bytes j. (same (field_path at.numbers ++ (p ++ (b ∷ bytes) ∷ []))).0 j),
    λ p b bytes j. (same (field_path at.numbers ++ (p ++ (b ∷ bytes) ∷ []))).1 j,
  ));
  unused = λ none p b bytes u l. t.unused none p b bytes u ((same (p ++ (b ∷ bytes) ∷ [])).1 l);
}

-- ---- merges

-- the paths of each list of a family
abbrev pub PathsOfEach : {I : Type 0} → (I → List Atom) → I → Path → Type 0
PathsOfEach F i = PathsOf (F i)

module _ (nodes : Nodes) (I : Type 0) (F : I → List Atom) (A : I → Path → Type 0) (C : I → Type 0) (list : List Atom) (w : IsWellFormed list)
    (same : (p : Path) → PathsOf list p ↔ AnyOf (PathsOfEach F) p) (each : (i : I) → Tells nodes (F i) (A i) (C i)) where
  union_ended : (s : Path) (i : I) → IsEnded list s → IsEnded (F i) s
  union_ended s i e = (ends_at_markers (F i) s ((each i).well_formed)).1 (λ q j. (ends_at_markers list s w).0 e q ((same (q ++ [] ∷ [])).1 (i, j)))

  union_marker : (i : I) → HasMarker (F i) → HasMarker list
  union_marker i m = let s = marker_path (F i) m in marker_back list s.0 ((same (s.0 ++ [] ∷ [])).1 (i, s.1))

  -- A list with the paths of some lists tells of all that these tell of.
  pub Tells-union : Tells nodes list (AnyOf A) ((i : I) × C i)
  Tells-union = record {
    well_formed = w;
    arrived = λ p b bytes j. let s = (same (p ++ (b ∷ bytes) ∷ [])).0 j in (s.0, (each s.0).arrived p b bytes s.1);
    marked = ((λ m. by (marker_path list m)), λ c. union_marker c.0 (((each c.0).marked).1 c.1));
    covers = λ at j e. Covers-onwards at.shape (PathsOf list) (AnyOf (PathsOfEach F)) (AnyOf A) (field_path at.numbers)
        (Covers-alike at.shape (PathsOf list) (AnyOf (PathsOfEach F)) (field_path at.numbers) (
          (λ p b bytes k. (same (field_path at.numbers ++ (p ++ (b ∷ bytes) ∷ []))).0 k),
          λ p b bytes k. (same (field_path at.numbers ++ (p ++ (b ∷ bytes) ∷ []))).1 k,
        ))
        (Covers-any at.shape I (PathsOfEach F) A (field_path at.numbers) (λ i. (each i).covers at j (union_ended (field_path at.numbers) i e)));
    unused = λ none p b bytes u a. (same (p ++ (b ∷ bytes) ∷ [])).1 (a.0, (each a.0).unused (λ m. none (union_marker a.0 m)) p b bytes u a.1);
  }
    where
      by : (q : Path) × PathsOf list (q ++ [] ∷ []) → (i : I) × C i
      by s = let t = (same (s.0 ++ [] ∷ [])).0 s.1 in (t.0, ((each t.0).marked).0 (marker_back (F t.0) s.0 t.1))

-- ---- normal form

pub Tells-normal : (nodes : Nodes) (view : View) (list normal : List Atom) (A : Path → Type 0) (C : Type 0) → IsTable nodes → IsNormalOf nodes view list normal
    → Tells nodes list A C → Tells nodes normal A C
Tells-normal nodes view list normal A C table n t = record {
  well_formed = k.well_formed;
  arrived = λ p b bytes i. t.arrived p b bytes ((normal_left nodes table view list normal t.well_formed n p b bytes).0 i).0;
  marked = ((λ m. (t.marked).0 ((k.marker).0 m)), λ c. (k.marker).1 ((t.marked).1 c));
  covers = λ at i e. Covers-onwards at.shape (PathsOf normal) (PathsOf list) A (field_path at.numbers)
      (slot_covered nodes (PathsOf normal) (PathsOf list) [] at i (normal_covers nodes table view list normal t.well_formed n)) (t.covers at i ((k.ended at i).0 e));
  unused = λ none p b bytes u a. ((k.foreign (p ++ (b ∷ bytes) ∷ [])).1 (t.unused (λ m. none ((k.marker).1 m)) p b bytes u a, plain_last p b bytes, u)).0;
}
  where
    k : NormalKeepsList nodes view list normal
    k = (normal_form_keeps).lists nodes view list normal table t.well_formed n

-- ---- trims

tells_cut : (nodes : Nodes) (list : List Atom) (keep : ℕ) (A : Path → Type 0) (C : Type 0) → Tells nodes list A C → Tells nodes (cut_at keep list) A Unit
tells_cut nodes list keep A C t = record {
  well_formed = IsWellFormed-cut keep list t.well_formed;
  arrived = λ p b bytes i. t.arrived p b bytes (cut_fewer list keep t.well_formed p b bytes i);
  marked = ((λ m. tt), λ c. marker);
  covers = λ at i e. Covers-onwards at.shape (PathsOf (cut_at keep list)) (PathsOf list) A (field_path at.numbers)
      (Covers-alike at.shape (PathsOf (cut_at keep list)) (PathsOf list) (field_path at.numbers) (cut_same list keep t.well_formed (field_path at.numbers) e))
      (t.covers at i (cut_ended list keep t.well_formed (field_path at.numbers) e));
  unused = λ none p b bytes u a. absurd (none marker);
}
  where
    marker : HasMarker (cut_at keep list)
    marker = in_append_second [] (take keep list) ([] ∷ []) (inl refl)

pub Tells-trimmed : (nodes : Nodes) (form : Form) (list : List Atom) (budget : ℕ) (A : Path → Type 0) (C : Type 0) → Tells nodes list A C → Tells nodes (trimmed form list budget) A ((budget < size_of form list) ⊎ C)
Tells-trimmed nodes form list budget A C t = by (cases_lt budget (size_of form list))
  where
    by : (budget < size_of form list) ⊎ (size_of form list ≤ budget) → Tells nodes (trimmed form list budget) A ((budget < size_of form list) ⊎ C)
    by (inl over) = subst (λ l. Tells nodes l A ((budget < size_of form list) ⊎ C)) (sym (trimmed-cut form list budget over))
        (Tells-same nodes (cut_at (kept_of form list budget) list) A A Unit ((budget < size_of form list) ⊎ C) (λ p. ((λ a. a), λ a. a)) ((λ u. inl over), λ c. tt) (tells_cut nodes list (kept_of form list budget) A C t))
    by (inr fits) = subst (λ l. Tells nodes l A ((budget < size_of form list) ⊎ C)) (sym (trimmed-fits form list budget fits))
        (Tells-same nodes list A A C ((budget < size_of form list) ⊎ C) (λ p. ((λ a. a), λ a. a)) ((λ c. inr c), λ c. elim c [ inl over ↦ absurd (omega (arith, over, fits)) | inr d ↦ d ]) t)

-- What is ended in a trimmed list was ended.
pub trimmed_ended : (form : Form) (list : List Atom) (budget : ℕ) (s : Path) → IsWellFormed list → IsEnded (trimmed form list budget) s → IsEnded list s
trimmed_ended form list budget s w e = elim (cases_lt budget (size_of form list)) [
  | inl over ↦ cut_ended list (kept_of form list budget) w s (subst (λ l. IsEnded l s) (trimmed-cut form list budget over) e)
  | inr fits ↦ subst (λ l. IsEnded l s) (trimmed-fits form list budget fits) e
]
