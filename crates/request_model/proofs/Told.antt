-- What a context tells of the additions on the ways to it, and how each call keeps it.
use Rattle.std.proofs.Common.{◌≡◌, ◌⊎◌, inl, inr, ℕ, ◌<◌, ◌≤◌, List, [], ◌∷◌, ◌++◌, true, false, Bool, refl, sym, ap, ◌∙◌, subst, append_assoc}
use Rattle.std.specs.List.{AllByRecursion}
use Rattle.std.proofs.lemmas.Bool.{cases_lt}
use Rattle.context_model.specs.declared.Form.{Form}
use Rattle.context_model.specs.Atoms.{Atom}
use Rattle.context_model.specs.Ended.{IsEnded, field_path}
use Rattle.context_model.specs.Framing.{size_of}
use Rattle.context_model.specs.Kinds.Kind.{Marker}
use Rattle.context_model.specs.Merged.{SomeHasPath, IsMerged}
use Rattle.context_model.specs.Orders.{Path, IsIn}
use Rattle.context_model.specs.Trimmed.{cut_at, kept_of, trimmed}
use Rattle.context_model.specs.WellFormed.{IsWellFormed}
use Rattle.context_model.proofs.Following.{IsWellFormed-cut}
use Rattle.context_model.proofs.MergedLaws.{same_end}
use Rattle.context_model.proofs.MergedMarkers.{IsEnded-fewer}
use Rattle.context_model.proofs.TrimmedLaws.{trimmed-fits, trimmed-cut}
use Rattle.bag_model.specs.Encodings.{IsEncoding}
use Rattle.bag_model.specs.NormalForm.{IsNormalOf}
use Rattle.bag_model.specs.NormalFormLaws.{NormalKeepsList}
use Rattle.bag_model.specs.Readings.{PathsOf}
use Rattle.bag_model.specs.Shapes.{Nodes}
use Rattle.bag_model.specs.Slots.{SlotAt, slots_of}
use Rattle.bag_model.specs.SlotValues.{only}
use Rattle.bag_model.specs.Tables.{IsTable}
use Rattle.bag_model.specs.Values.{Value}
use Rattle.bag_model.specs.Views.{View}
use Rattle.bag_model.proofs.Covering.{Covers, Covers-alike, Covers-onwards, Covers-any}
use Rattle.bag_model.proofs.NormalFormLaws.{normal_left, normal_covers, normal_form_keeps}
use Rattle.bag_model.proofs.PathSets.{AnyOf}
use Rattle.trace_model.specs.Graphs.{IsTypedContext}
use Rattle.trace_model.specs.Runs.{Lists}
use Rattle.trace_model.proofs.CutLists.{cut_fewer, cut_same, cut_ended}
use Rattle.trace_model.proofs.SlotParts.{slot_covered}
use Rattle.keep_calls.specs.declared.others.Others.TheVariants.{Cut}
use Rattle.keep_calls.specs.Laws.{KeepsList, NothingElseLeaves, AreCutsTold, CutsAreTold}
use Rattle.keep_calls.proofs.ReadAlike.{off_table, says_alike}
use Rattle.step_calls.specs.Laws.{lost}
use Rattle.request_model.specs.Contributions.{Contribution, Wrote, Received, IsContribution}
use Rattle.request_model.proofs.Brought.{Brought, two_sets, brought_first, brought_second, brought_split}
use Rattle.request_model.proofs.SaidAlike.{IsSaid, SaysFewer, said_other, fewer_said, Covers-says}

-- The list has no other data and keys than those that were contributions, and all that was contributions at each slot that is ended in it.
pub record Told (nodes : Nodes) (list : List Atom) (contributions : List Contribution) : Type 0 where
  pub well_formed : IsWellFormed list
  pub sound : AllByRecursion (IsContribution nodes) contributions
  pub arrived : SaysFewer (PathsOf list) (Brought nodes contributions)
  pub covers : (at : SlotAt) → IsIn at (slots_of nodes) → IsEnded list (field_path at.numbers)
      → Covers at.shape (PathsOf list) (Brought nodes contributions) (field_path at.numbers)

-- Each of some lists tells of its own additions.
abbrev pub AreTold : Nodes → Lists → List Contribution → Type 0
AreTold nodes [] contributions = contributions ≡ []
AreTold nodes (list ∷ lists) contributions =
    (own : List Contribution) × (others : List Contribution) × (contributions ≡ own ++ others) × Told nodes list own × AreTold nodes lists others

-- ---- one list, and several

append_none : (xs : List Contribution) → xs ++ [] ≡ xs
append_none [] = refl
append_none (x ∷ xs) = ap (λ ys. x ∷ ys) (append_none xs)

pub one_told : (nodes : Nodes) (list : List Atom) (contributions : List Contribution) → Told nodes list contributions → AreTold nodes (list ∷ []) contributions
one_told nodes list contributions t = (contributions, [], sym (append_none contributions), t, refl)

pub told_one : (nodes : Nodes) (list : List Atom) (contributions : List Contribution) → AreTold nodes (list ∷ []) contributions → Told nodes list contributions
told_one nodes list contributions (own, others, e, t, o) = subst (Told nodes list) (sym (e ∙ ap (λ xs. own ++ xs) o ∙ append_none own)) t

pub told_append : (nodes : Nodes) (a b : Lists) (some others : List Contribution) → AreTold nodes a some → AreTold nodes b others → AreTold nodes (a ++ b) (some ++ others)
told_append nodes [] b some others e t = subst (λ xs. AreTold nodes b (xs ++ others)) (sym e) t
told_append nodes (list ∷ a) b some others (own, rest, e, t, f) u =
    (own, rest ++ others, ap (λ xs. xs ++ others) e ∙ append_assoc own rest others, t, told_append nodes a b rest others f u)

all_append : (nodes : Nodes) (xs ys : List Contribution) → AllByRecursion (IsContribution nodes) xs → AllByRecursion (IsContribution nodes) ys → AllByRecursion (IsContribution nodes) (xs ++ ys)
all_append nodes [] ys p q = q
all_append nodes (x ∷ xs) ys p q = (p.0, all_append nodes xs ys p.1 q)

-- ---- merges

module _ (nodes : Nodes) where
  each_well : (lists : Lists) (contributions : List Contribution) → AreTold nodes lists contributions → AllByRecursion IsWellFormed lists
  each_well [] contributions e = tt
  each_well (list ∷ lists) contributions (own, others, e, t, f) = (t.well_formed, each_well lists others f)

  each_sound : (lists : Lists) (contributions : List Contribution) → AreTold nodes lists contributions → AllByRecursion (IsContribution nodes) contributions
  each_sound [] contributions e = subst (AllByRecursion (IsContribution nodes)) (sym e) tt
  each_sound (list ∷ lists) contributions (own, others, e, t, f) = subst (AllByRecursion (IsContribution nodes)) (sym e) (all_append nodes own others t.sound (each_sound lists others f))

  each_arrived : (lists : Lists) (contributions : List Contribution) → AreTold nodes lists contributions → SaysFewer (SomeHasPath lists) (Brought nodes contributions)
  each_arrived [] contributions e r a s none = absurd none
  each_arrived (list ∷ lists) contributions (own, others, e, t, f) r a s (inl i) = subst (λ xs. Brought nodes xs (r ++ a ∷ [])) (sym e) (brought_first nodes own others (r ++ a ∷ []) (t.arrived r a s i))
  each_arrived (list ∷ lists) contributions (own, others, e, t, f) r a s (inr i) = subst (λ xs. Brought nodes xs (r ++ a ∷ [])) (sym e) (brought_second nodes own others (r ++ a ∷ []) (each_arrived lists others f r a s i))

  module _ (at : SlotAt) (i : IsIn at (slots_of nodes)) where
    abbrev EndedIn : List Atom → Type 0
    EndedIn list = IsEnded list (field_path at.numbers)

    abbrev CoversThere : (Path → Type 0) → (Path → Type 0) → Type 0
    CoversThere P Q = Covers at.shape P Q (field_path at.numbers)

    -- one set or another
    covers_two : (P Q A B : Path → Type 0) → CoversThere P A → CoversThere Q B → CoversThere (AnyOf (two_sets P Q)) (AnyOf (two_sets A B))
    covers_two P Q A B c d = Covers-any at.shape Bool (two_sets P Q) (two_sets A B) (field_path at.numbers) each
      where
        each : (j : Bool) → CoversThere (two_sets P Q j) (two_sets A B j)
        each true = c
        each false = d

    alike : (P Q : Path → Type 0) → ((p : Path) → P p → Q p) → ((p : Path) → Q p → P p) → CoversThere P Q
    alike P Q f g = Covers-alike at.shape P Q (field_path at.numbers) ((λ p b bytes j. f (field_path at.numbers ++ (p ++ (b ∷ bytes) ∷ [])) j), λ p b bytes j. g (field_path at.numbers ++ (p ++ (b ∷ bytes) ∷ [])) j)

    onwards : (P Q S : Path → Type 0) → CoversThere P Q → CoversThere Q S → CoversThere P S
    onwards P Q S f g = Covers-onwards at.shape P Q S (field_path at.numbers) f g

    each_covers : (lists : Lists) (contributions : List Contribution) → AreTold nodes lists contributions → ((list : List Atom) → IsIn list lists → EndedIn list) → CoversThere (SomeHasPath lists) (Brought nodes contributions)
    each_covers [] contributions e ended = alike (SomeHasPath []) (Brought nodes contributions) (λ p none. absurd none) (λ p j. absurd (subst (λ xs. Brought nodes xs p) e j))
    each_covers (list ∷ lists) contributions (own, others, e, t, f) ended =
        onwards (SomeHasPath (list ∷ lists)) (AnyOf (two_sets (PathsOf list) (SomeHasPath lists))) (Brought nodes contributions)
        (alike (SomeHasPath (list ∷ lists)) (AnyOf (two_sets (PathsOf list) (SomeHasPath lists))) apart (λ p j. together p j.0 j.1))
        (onwards (AnyOf (two_sets (PathsOf list) (SomeHasPath lists))) (AnyOf (two_sets (Brought nodes own) (Brought nodes others))) (Brought nodes contributions)
        (covers_two (PathsOf list) (SomeHasPath lists) (Brought nodes own) (Brought nodes others) (t.covers at i (ended list (inl refl))) (each_covers lists others f (λ l j. ended l (inr j))))
        (alike (AnyOf (two_sets (Brought nodes own) (Brought nodes others))) (Brought nodes contributions) (λ p j. subst (λ xs. Brought nodes xs p) (sym e) (there p j.0 j.1)) back))
      where
        apart : (p : Path) → SomeHasPath (list ∷ lists) p → AnyOf (two_sets (PathsOf list) (SomeHasPath lists)) p
        apart p (inl j) = (true, j)
        apart p (inr j) = (false, j)

        together : (p : Path) (j : Bool) → two_sets (PathsOf list) (SomeHasPath lists) j p → SomeHasPath (list ∷ lists) p
        together p true j = inl j
        together p false j = inr j

        there : (p : Path) (j : Bool) → two_sets (Brought nodes own) (Brought nodes others) j p → Brought nodes (own ++ others) p
        there p true j = brought_first nodes own others p j
        there p false j = brought_second nodes own others p j

        back : (p : Path) → Brought nodes contributions p → AnyOf (two_sets (Brought nodes own) (Brought nodes others)) p
        back p j = elim (brought_split nodes own others p (subst (λ xs. Brought nodes xs p) e j)) [ inl k ↦ (true, k) | inr k ↦ (false, k) ]

  -- A merge of lists that tell of their additions tells of all of them.
  pub told_merge : (lists : Lists) (contributions : List Contribution) (list : List Atom) → AreTold nodes lists contributions → IsMerged lists list → Told nodes list contributions
  told_merge lists contributions list t m = record {
    well_formed = m.well_formed;
    sound = each_sound lists contributions t;
    arrived = λ r a s i. each_arrived lists contributions t r a s ((m.exact (r ++ a ∷ [])).0 i);
    covers = λ at i e. onwards at i (PathsOf list) (SomeHasPath lists) (Brought nodes contributions)
        (alike at i (PathsOf list) (SomeHasPath lists) (λ p j. (m.exact p).0 j) (λ p j. (m.exact p).1 j))
        (each_covers at i lists contributions t (λ l j. IsEnded-fewer lists list l (field_path at.numbers) (each_well lists contributions t) m j e));
  }

-- ---- normal form

pub told_normal : (nodes : Nodes) (view : View) (list normal : List Atom) (contributions : List Contribution) → IsTable nodes → IsNormalOf nodes view list normal → Told nodes list contributions → Told nodes normal contributions
told_normal nodes view list normal contributions table n t = record {
  well_formed = k.well_formed;
  sound = t.sound;
  arrived = λ r a s i. t.arrived r a s (fewer_said (PathsOf normal) (PathsOf list) (λ p b bytes j. ((normal_left nodes table view list normal t.well_formed n p b bytes).0 j).0) r a s i);
  covers = λ at i e. Covers-onwards at.shape (PathsOf normal) (PathsOf list) (Brought nodes contributions) (field_path at.numbers)
      (slot_covered nodes (PathsOf normal) (PathsOf list) [] at i (normal_covers nodes table view list normal t.well_formed n)) (t.covers at i ((k.ended at i).0 e));
}
  where
    k : NormalKeepsList nodes view list normal
    k = (normal_form_keeps).lists nodes view list normal table t.well_formed n

-- ---- cuts

told_cut : (nodes : Nodes) (list : List Atom) (keep : ℕ) (contributions : List Contribution) → Told nodes list contributions → Told nodes (cut_at keep list) contributions
told_cut nodes list keep contributions t = record {
  well_formed = IsWellFormed-cut keep list t.well_formed;
  sound = t.sound;
  arrived = λ r a s i. t.arrived r a s (fewer_said (PathsOf (cut_at keep list)) (PathsOf list) (cut_fewer list keep t.well_formed) r a s i);
  covers = λ at i e. Covers-onwards at.shape (PathsOf (cut_at keep list)) (PathsOf list) (Brought nodes contributions) (field_path at.numbers)
      (Covers-alike at.shape (PathsOf (cut_at keep list)) (PathsOf list) (field_path at.numbers) (cut_same list keep t.well_formed (field_path at.numbers) e))
      (t.covers at i (cut_ended list keep t.well_formed (field_path at.numbers) e));
}

pub told_trimmed : (nodes : Nodes) (form : Form) (list : List Atom) (budget : ℕ) (contributions : List Contribution) → Told nodes list contributions → Told nodes (trimmed form list budget) contributions
told_trimmed nodes form list budget contributions t = by (cases_lt budget (size_of form list))
  where
    by : (budget < size_of form list) ⊎ (size_of form list ≤ budget) → Told nodes (trimmed form list budget) contributions
    by (inl over) = subst (λ l. Told nodes l contributions) (sym (trimmed-cut form list budget over)) (told_cut nodes list (kept_of form list budget) contributions t)
    by (inr fits) = subst (λ l. Told nodes l contributions) (sym (trimmed-fits form list budget fits)) t

-- ---- what is kept

pub told_kept : CutsAreTold → NothingElseLeaves → (nodes own : Nodes) (list left : List Atom) (contributions : List Contribution) → KeepsList own Cut list left → Told nodes list contributions → Told nodes left contributions
told_kept cuts only nodes own list left contributions k t = record {
  well_formed = (k.holds).well_formed;
  sound = t.sound;
  arrived = λ r a s i. elim (only own Cut list left k (r ++ a ∷ []) i) [
    | inl h ↦ t.arrived r a s h.1
    | inr table ↦ absurd (off_table own Cut list left k r a (said_other a s) table)
  ];
  covers = λ at i e. Covers-onwards at.shape (PathsOf left) (PathsOf list) (Brought nodes contributions) (field_path at.numbers)
      (Covers-says at.shape (PathsOf left) (PathsOf list) (field_path at.numbers)
      (says_alike own Cut list left k (field_path at.numbers) (only own Cut list left k) (λ p below i way. told.whole (field_path at.numbers) p e below i way)))
      (t.covers at i (told.ended (field_path at.numbers) e));
}
  where
    told : AreCutsTold own list left
    told = cuts own list left k

-- ---- lists at the start

pub told_written : (nodes : Nodes) (slot : ℕ) (v : Value) (list : List Atom) → IsContribution nodes (Wrote slot v) → IsEncoding nodes (only nodes slot v) list → Told nodes list (Wrote slot v ∷ [])
told_written nodes slot v list s e = record {
  well_formed = e.well_formed;
  sound = (s, tt);
  arrived = λ r a said i. inl ((e.exact (r ++ a ∷ [])).0 i);
  covers = λ at i ended. alike nodes at i (PathsOf list) (Brought nodes (Wrote slot v ∷ [])) (λ p j. inl ((e.exact p).0 j)) (λ p j. elim j [ inl l ↦ (e.exact p).1 l | inr none ↦ absurd none ]);
}

pub told_received : (nodes : Nodes) (list : List Atom) → IsTypedContext nodes list → Told nodes list (Received list ∷ [])
told_received nodes list s = record {
  well_formed = s.well_formed;
  sound = (s, tt);
  arrived = λ r a said i. inl i;
  covers = λ at i ended. alike nodes at i (PathsOf list) (Brought nodes (Received list ∷ [])) (λ p j. inl j) (λ p j. elim j [ inl l ↦ l | inr none ↦ absurd none ]);
}

lost_ended : (s : Path) → IsEnded lost s → ⊥
lost_ended s (inl none) = none (inl refl)
lost_ended s (inr (q, i, beyond)) = i

-- The context of one marker tells of whatever was contributions.
pub told_missing : (nodes : Nodes) (contributions : List Contribution) → AllByRecursion (IsContribution nodes) contributions → Told nodes lost contributions
told_missing nodes contributions s = record {
  well_formed = record { kinds = (record { kind = Marker; fits = tt; spelled = refl }, tt); levels = tt; order = tt };
  sound = s;
  arrived = λ r a said i. absurd (alone r a said i);
  covers = λ at i ended. absurd (lost_ended (field_path at.numbers) ended);
}
  where
    alone : (r : Path) (a : Atom) → IsSaid a → PathsOf lost (r ++ a ∷ []) → ⊥
    alone r a (b, bytes, e, kind) (inl f) = let same : b ∷ bytes ≡ [] = sym e ∙ (same_end r [] a [] f).1 in cc same
    alone r a said (inr none) = none
