-- A graph with a step of each kind, computed: two writes, a trim that cuts off the second, a service that knows nothing,
-- and a join with a list that was received.
use Rattle.std.proofs.Common.{◌≡◌, inl, inr, ℕ, zero, suc, ◌+◌, ◌<◌, ◌≤◌, true, false, List, [], ◌∷◌, length, Some, Less, Equal, Greater, refl, sym, ap, ◌∙◌, subst, arith}
use Rattle.std.specs.List.{slice_get}
use Rattle.context_model.specs.declared.Form.TheVariants.{One, Two}
use Rattle.context_model.specs.Atoms.{Atom}
use Rattle.context_model.specs.Framing.{base_128}
use Rattle.context_model.specs.Kinds.{HasKind}
use Rattle.context_model.specs.Kinds.Kind.{Datum, Indexed}
use Rattle.context_model.specs.Orders.{Path, path_cmp, IsIn}
use Rattle.context_model.specs.Paths.{paths}
use Rattle.context_model.specs.Varints.{unsigned_varint, unsigned_form, unsigned_tail}
use Rattle.context_model.specs.WellFormed.{IsWellFormed}
use Rattle.context_model.specs.Ended.{HasMarker, front_of, IsEnded, field_path}
use Rattle.context_model.specs.declared.TheConstants.{ATOM_MAX}
use Rattle.context_model.specs.Merged.{IsMerged, last_atom}
use Rattle.context_model.specs.Trimmed.{kept_of, trimmed}
use Rattle.context_model.specs.WithoutData.{without_from}
use Rattle.context_model.proofs.Following.{IsWellFormed-empty, marker_kind}
use Rattle.context_model.proofs.MergedLaws.{merges_greedily}
use Rattle.bag_model.specs.Shapes.{Nodes, Taint, no_node, node}
use Rattle.bag_model.specs.Values.{Values, Taint}
use Rattle.bag_model.specs.Slots.{SlotAt, slots_of}
use Rattle.bag_model.specs.SlotValues.{only, HasSlotValue, SaysSlot}
use Rattle.bag_model.specs.Tables.{IsTable}
use Rattle.bag_model.specs.Views.{View, All, Nothing, Only}
use Rattle.bag_model.specs.Readings.{PathsOf}
use Rattle.bag_model.specs.Encodings.{InLayouts, IsEncoding, FitsAtoms}
use Rattle.bag_model.specs.NormalForm.{Keeping, EachDatum, SomeHoldsData, GivesWay, IsSuperseded, IsNormalOf}
use Rattle.bag_model.proofs.Finite.{bytes_at-back}
use Rattle.bag_model.proofs.SlotsBelow.{get_in}
use Rattle.bag_model.proofs.DataPlaces.{slots_place}
use Rattle.trace_model.specs.Graphs.{Act, Start, Recv, Set, Branch, Forward, Trim, Join, Service, Step, Graph, parents_of, HasStep, HasService, view_at, IsSoundAct, StaysAt, IsGraph, IsActOf, IsViewOf, IsOfTable, IsRecorded, form_at}
use Rattle.trace_model.specs.Runs.{list_at, StepGives, IsRun, IsNormalMerge}
use Rattle.trace_model.specs.Truth.{itself, IsReachedBy, Adds, IsAdded, IsTruth, IsTruthAt, WasCut, AreReachedAlike}
use Rattle.trace_model.specs.Faithful.{IsRunStep}
use Rattle.trace_model.specs.ShownValues.{IsShown}
use Rattle.trace_model.proofs.ReachLaws.{one_step, reached_split, reached_from}
use Rattle.trace_model.proofs.TruthLaws.{has_one_truth, truth_alike}
use Rattle.trace_model.proofs.FaithfulLaws.{runs_are_faithful}
use Rattle.trace_model.proofs.ShownLaws.{shown_is_honest}

-- The taints `a` and `b`.
abbrev row_nodes : Nodes
row_nodes = node (97 ∷ []) 0 Taint (node (98 ∷ []) 1 Taint no_node)

abbrev a_header : Atom
a_header = 248 ∷ 0 ∷ []

abbrev b_header : Atom
b_header = 248 ∷ 1 ∷ []

-- what is under a taint that is on
abbrev on : Atom
on = 0 ∷ []

-- A service that knows all, and one that knows nothing.
abbrev row_services : List Service
row_services = record { name = 99 ∷ []; form = One; view = All } ∷ record { name = 100 ∷ []; form = One; view = Nothing } ∷ []

abbrev at : ℕ → Act → Step
at service act = record { service = service; act = act }

abbrev row_steps : List Step
row_steps =
    at 0 Start ∷ at 0 (Set 0 0 (Taint true)) ∷ at 0 (Set 1 1 (Taint true)) ∷ at 0 (Trim 2 9)
    ∷ at 1 (Forward 3) ∷ at 1 (Branch 4) ∷ at 1 (Recv (b_header ∷ on ∷ [])) ∷ at 1 (Join (5 ∷ 6 ∷ [])) ∷ []

-- The trimmed step and the last are shown.
abbrev row_graph : Graph
row_graph = record { services = row_services; steps = row_steps; shows = 3 ∷ 7 ∷ [] }

abbrev a_on : List Atom
a_on = a_header ∷ on ∷ []

abbrev b_on : List Atom
b_on = b_header ∷ on ∷ []

abbrev both_on : List Atom
both_on = a_header ∷ on ∷ b_header ∷ on ∷ []

-- Two bytes for a header, one for a datum, and one more before each atom: ten in all. In nine there is room for three
-- atoms and a marker.
abbrev cut : List Atom
cut = a_header ∷ on ∷ b_header ∷ [] ∷ []

-- The datum that was received comes after the marker.
abbrev joined : List Atom
joined = a_header ∷ on ∷ b_header ∷ [] ∷ on ∷ []

abbrev row_lists : List (List Atom)
row_lists = [] ∷ a_on ∷ both_on ∷ cut ∷ cut ∷ cut ∷ b_on ∷ joined ∷ []

-- ---- the parts of the run

a_kind : HasKind a_header
unfolding unsigned_varint unsigned_form unsigned_tail
a_kind = record { kind = Indexed 0 0; fits = (omega arith, omega arith); spelled = refl }

b_kind : HasKind b_header
unfolding unsigned_varint unsigned_form unsigned_tail
b_kind = record { kind = Indexed 0 1; fits = (omega arith, omega arith); spelled = refl }

on_kind : HasKind on
on_kind = record { kind = Datum []; fits = tt; spelled = refl }

a_on_sound : IsWellFormed a_on
a_on_sound = record { kinds = (a_kind, (on_kind, tt)); levels = (omega arith, tt); order = (refl, tt) }

b_on_sound : IsWellFormed b_on
b_on_sound = record { kinds = (b_kind, (on_kind, tt)); levels = (omega arith, tt); order = (refl, tt) }

cut_sound : IsWellFormed cut
cut_sound = record { kinds = (a_kind, (on_kind, (b_kind, (marker_kind, tt)))); levels = (omega arith, (omega arith, tt)); order = (refl, (refl, (refl, tt))) }

-- nothing is gone
all_stay : (i : ℕ) (list : List Atom) → list ≡ without_from i [] list
all_stay i [] = refl
all_stay i (a ∷ list) = ap (λ l. a ∷ l) (all_stay (i + 1) list)

each_datum : (keep : Keeping) (p : Path) → SomeHoldsData row_nodes [] keep p → keep ≡ EachDatum
each_datum keep p (inl h) = h.0
each_datum keep p (inr (inl h)) = h.0
each_datum keep p (inr (inr none)) = elim none [ ]

-- Each list is its own normal form: a taint keeps each datum.
taints_stay : (view : View) (list : List Atom) → IsNormalOf row_nodes view list list
taints_stay view list = record { gone = []; rises = tt; exact = λ place. ((λ none. absurd none), λ s. none s.1); left = all_stay 0 list }
  where
    none : {p : Path} → IsSuperseded row_nodes view (PathsOf list) p → ⊥
    none s =
        let rule = each_datum s.keep s.place (slots_place row_nodes [] s.at s.keep s.place (get_in (slots_of row_nodes) s.slot s.at s.there) s.holds) in
        subst (λ k. GivesWay k s.mine s.other) rule s.way

encodes_a : IsEncoding row_nodes (only row_nodes 0 (Taint true)) a_on
unfolding unsigned_varint unsigned_form unsigned_tail
encodes_a = record { well_formed = a_on_sound; exact = λ p. (there p, back p) }
  where
    there : (p : Path) → PathsOf a_on p → InLayouts row_nodes [] (only row_nodes 0 (Taint true)) p
    there p (inl e) = inl ((λ off. cc off), inl e)
    there p (inr (inl e)) = inl ((λ off. cc off), inr (refl, e))
    there p (inr (inr none)) = elim none [ ]

    back : (p : Path) → InLayouts row_nodes [] (only row_nodes 0 (Taint true)) p → PathsOf a_on p
    back p (inl (n, inl e)) = inl e
    back p (inl (n, inr d)) = inr (inl d.1)
    back p (inr (inl d)) = absurd (d.0 refl)
    back p (inr (inr none)) = elim none [ ]

encodes_b : IsEncoding row_nodes (only row_nodes 1 (Taint true)) b_on
unfolding unsigned_varint unsigned_form unsigned_tail
encodes_b = record { well_formed = b_on_sound; exact = λ p. (there p, back p) }
  where
    there : (p : Path) → PathsOf b_on p → InLayouts row_nodes [] (only row_nodes 1 (Taint true)) p
    there p (inl e) = inr (inl ((λ off. cc off), inl e))
    there p (inr (inl e)) = inr (inl ((λ off. cc off), inr (refl, e)))
    there p (inr (inr none)) = elim none [ ]

    back : (p : Path) → InLayouts row_nodes [] (only row_nodes 1 (Taint true)) p → PathsOf b_on p
    back p (inl d) = absurd (d.0 refl)
    back p (inr (inl (n, inl e))) = inl e
    back p (inr (inl (n, inr d))) = inr (inl d.1)
    back p (inr (inr none)) = elim none [ ]

normal_merge : (view : View) (a b merged : List Atom) → IsMerged (a ∷ b ∷ []) merged → IsNormalMerge row_nodes view (a ∷ b ∷ []) merged
normal_merge view a b merged m = record { merged = merged; merge = m; normal = taints_stay view merged }

cuts : cut ≡ trimmed One both_on 9
unfolding trimmed kept_of base_128
cuts = refl

-- ---- the run

gives_there : (own step : Step) (list : List Atom) → Some own ≡ Some step → StepGives row_nodes row_graph row_lists own list → StepGives row_nodes row_graph row_lists step list
gives_there own step list e g = subst (λ (s : Step). StepGives row_nodes row_graph row_lists s list) (same own step e) g
  where
    same : (own step : Step) → Some own ≡ Some step → own ≡ step
    same own step f = cc

row_each : (m : ℕ) (step : Step) → m < 8 → HasStep row_graph m step → StepGives row_nodes row_graph row_lists step (list_at row_lists m)
row_each zero step l e = gives_there (at 0 Start) step [] e refl
row_each (suc zero) step l e = gives_there (at 0 (Set 0 0 (Taint true))) step a_on e
    (record { written = a_on; encoding = encodes_a; normal = normal_merge All [] a_on a_on (merges_greedily [] a_on IsWellFormed-empty a_on_sound) })
row_each (suc (suc zero)) step l e = gives_there (at 0 (Set 1 1 (Taint true))) step both_on e
    (record { written = b_on; encoding = encodes_b; normal = normal_merge All a_on b_on both_on (merges_greedily a_on b_on a_on_sound b_on_sound) })
row_each (suc (suc (suc zero))) step l e = gives_there (at 0 (Trim 2 9)) step cut e cuts
row_each (suc (suc (suc (suc zero)))) step l e = gives_there (at 1 (Forward 3)) step cut e (taints_stay Nothing cut)
row_each (suc (suc (suc (suc (suc zero))))) step l e = gives_there (at 1 (Branch 4)) step cut e refl
row_each (suc (suc (suc (suc (suc (suc zero)))))) step l e = gives_there (at 1 (Recv b_on)) step b_on e (taints_stay Nothing b_on)
row_each (suc (suc (suc (suc (suc (suc (suc zero))))))) step l e =
    gives_there (at 1 (Join (5 ∷ 6 ∷ []))) step joined e (normal_merge Nothing cut b_on joined (merges_greedily cut b_on cut_sound b_on_sound))
row_each (suc (suc (suc (suc (suc (suc (suc (suc m)))))))) step l e = absurd (omega (arith, l))

-- These are the lists of the steps.
pub row_run : IsRun row_nodes row_graph row_lists
row_run = record { as_many = refl; each = row_each }

-- The trim cut something off.
pub row_cut : WasCut row_graph row_lists 3
unfolding base_128
row_cut = record { from = 3; step = at 0 (Trim 2 9); there = refl; reaches = itself; does = omega arith }

-- ---- the graph is sound

-- something holds of each step of a list, by its number
abbrev EachStep : (ℕ → Step → Type 0) → List Step → Type 0
EachStep P [] = Unit {0}
EachStep P (step ∷ steps) = P 0 step × EachStep (λ n. P (suc n)) steps

each_at : (P : ℕ → Step → Type 0) (steps : List Step) → EachStep P steps → (n : ℕ) (step : Step) → slice_get steps n ≡ Some step → P n step
each_at P [] each n step e = absurd (cc e)
each_at P (own ∷ steps) each zero step e = let same : own ≡ step = cc in subst (P 0) same each.0
each_at P (own ∷ steps) each (suc n) step e = each_at (λ m. P (suc m)) steps each.1 n step e

no_parent : {A : Type 0} (parent : ℕ) → IsIn parent [] → A
no_parent parent i = elim i [ ]

-- a parent is earlier
one_earlier : (parent own n : ℕ) → IsIn parent (own ∷ []) → own < n → parent < n
one_earlier parent own n (inl e) l = omega (arith, e, l)
one_earlier parent own n (inr none) l = elim none [ ]

two_earlier : (parent a b n : ℕ) → IsIn parent (a ∷ b ∷ []) → a < n → b < n → parent < n
two_earlier parent a b n (inl e) l m = omega (arith, e, l)
two_earlier parent a b n (inr i) l m = one_earlier parent b n i m

-- a parent is at this service
stands_at : (service own parent : ℕ) (there is : Step) → IsIn parent (own ∷ []) → HasStep row_graph own is → is.service ≡ service → HasStep row_graph parent there → service ≡ there.service
stands_at service own parent there is (inl e) has s at = sym s ∙ ap (λ (x : Step). x.service) (one_step row_graph own is there has (subst (λ n. HasStep row_graph n there) e at))
stands_at service own parent there is (inr none) has s at = elim none [ ]

row_sound : IsGraph row_graph
row_sound = record {
  acts = each_at (λ n step. IsSoundAct (form_at row_graph step.service) step.act) row_steps (tt, (tt, (tt, (omega arith, (tt, (tt, (tt, (omega arith, tt))))))));
  earlier = λ n parent step e. each_at (λ n step. (parent : ℕ) → IsIn parent (parents_of step.act) → parent < n) row_steps (
    λ parent i. no_parent parent i,
    (
      λ parent i. one_earlier parent 0 1 i (omega arith),
      (
        λ parent i. one_earlier parent 1 2 i (omega arith),
        (
          λ parent i. one_earlier parent 2 3 i (omega arith),
          (
            λ parent i. one_earlier parent 3 4 i (omega arith),
            (
              λ parent i. one_earlier parent 4 5 i (omega arith),
              (λ parent i. no_parent parent i, (λ parent i. two_earlier parent 5 6 7 i (omega arith) (omega arith), tt)),
            ),
          ),
        ),
      ),
    ),
  ) n step e parent;
  services = each_at (λ n step. step.service < 2) row_steps (omega arith, (omega arith, (omega arith, (omega arith, (omega arith, (omega arith, (omega arith, (omega arith, tt))))))));
  stays = λ n parent step own e i. each_at (λ n step. (parent : ℕ) (own : Step) → IsIn parent (parents_of step.act) → HasStep row_graph parent own → StaysAt step.act own.service step.service) row_steps (
    λ parent own i has. tt,
    (
      λ parent own i has. stands_at 0 0 parent own (at 0 Start) i refl refl has,
      (
        λ parent own i has. stands_at 0 1 parent own (at 0 (Set 0 0 (Taint true))) i refl refl has,
        (
          λ parent own i has. stands_at 0 2 parent own (at 0 (Set 1 1 (Taint true))) i refl refl has,
          (
            λ parent own i has. tt,
            (
              λ parent own i has. stands_at 1 4 parent own (at 1 (Forward 3)) i refl refl has,
              (
                λ parent own i has. tt,
                (
                  λ parent own i has. elim i [
                    | inl same ↦ stands_at 1 5 parent own (at 1 (Branch 4)) (inl same) refl refl has
                    | inr j ↦ stands_at 1 6 parent own (at 1 (Recv b_on)) j refl refl has
                  ],
                  tt,
                ),
              ),
            ),
          ),
        ),
      ),
    ),
  ) n step e parent own i;
  shows = λ n i. shown n i;
}
  where
    shown : (n : ℕ) → IsIn n (3 ∷ 7 ∷ []) → n < 8
    shown n (inl e) = omega (arith, e)
    shown n (inr (inl e)) = omega (arith, e)
    shown n (inr (inr none)) = elim none [ ]

row_table : IsTable row_nodes
row_table = record {
  well_formed = (refl, omega arith, tt, ((omega arith, λ e. apart 97 98 e (omega arith)), tt), (refl, omega arith, tt, tt, tt));
  shallow = omega arith;
  small = omega arith;
}
  where
    apart : (x y : ℕ) → x ∷ [] ≡ y ∷ [] → x < y → ⊥
    apart x y e l = let same : x ≡ y = cc in absurd (omega (arith, same, l))

short_paths : (slot : ℕ) (list : List Atom) → IsEncoding row_nodes (only row_nodes slot (Taint true)) list → ((p : Path) → PathsOf list p → length (last_atom p) ≤ ATOM_MAX) → FitsAtoms row_nodes (only row_nodes slot (Taint true))
short_paths slot list e f p l = f p ((e.exact p).1 l)

a_short : (p : Path) → PathsOf a_on p → length (last_atom p) ≤ ATOM_MAX
a_short p (inl e) = subst (λ v. length (last_atom v) ≤ ATOM_MAX) (sym e) (omega arith)
a_short p (inr (inl e)) = subst (λ v. length (last_atom v) ≤ ATOM_MAX) (sym e) (omega arith)
a_short p (inr (inr none)) = elim none [ ]

b_short : (p : Path) → PathsOf b_on p → length (last_atom p) ≤ ATOM_MAX
b_short p (inl e) = subst (λ v. length (last_atom v) ≤ ATOM_MAX) (sym e) (omega arith)
b_short p (inr (inl e)) = subst (λ v. length (last_atom v) ≤ ATOM_MAX) (sym e) (omega arith)
b_short p (inr (inr none)) = elim none [ ]

abbrev a_slot : SlotAt
a_slot = record { names = (97 ∷ []) ∷ []; numbers = 0 ∷ []; shape = Taint }

abbrev b_slot : SlotAt
b_slot = record { names = (98 ∷ []) ∷ []; numbers = 1 ∷ []; shape = Taint }

row_of_table : IsOfTable row_nodes row_graph
unfolding unsigned_varint unsigned_form unsigned_tail
row_of_table = record {
  views = λ n service e. views n service e;
  acts = each_at (λ n step. IsActOf row_nodes (view_at row_graph step.service) step.act) row_steps (
    tt,
    (
      record { at = a_slot; there = refl; shape = tt; fits = short_paths 0 a_on encodes_a a_short; known = tt },
      (
        record { at = b_slot; there = refl; shape = tt; fits = short_paths 1 b_on encodes_b b_short; known = tt },
        (tt, (tt, (tt, (record { well_formed = b_on_sound; typed = (λ payload i. none payload (bytes_at-back 0 (a_header ∷ []) (paths b_on) payload i), (λ payload i. empty payload (bytes_at-back 0 (b_header ∷ []) (paths b_on) payload i), tt)) }, (tt, tt))))),
      ),
    ),
  );
}
  where
    views : (n : ℕ) (service : Service) → HasService row_graph n service → IsViewOf row_nodes service.view
    views zero service e = let same : record { name = 99 ∷ []; form = One; view = All } ≡ service = cc in subst (λ (s : Service). IsViewOf row_nodes s.view) same tt
    views (suc zero) service e = let same : record { name = 100 ∷ []; form = One; view = Nothing } ≡ service = cc in subst (λ (s : Service). IsViewOf row_nodes s.view) same tt
    views (suc (suc n)) service e = absurd (cc e)

    none : (payload : List ℕ) → IsIn payload [] → payload ≡ []
    none payload i = elim i [ ]

    empty : (payload : List ℕ) → IsIn payload ([] ∷ []) → payload ≡ []
    empty payload (inl e) = e
    empty payload (inr i) = elim i [ ]

-- It is a recorded graph of the table.
pub row_recorded : IsRecorded row_nodes row_graph
row_recorded = record { table = row_table; sound = row_sound; fits = row_of_table }

-- ---- what no sound graph does

row_no_head : IsSoundAct Two (Trim 0 12) → ⊥
row_no_head l = omega (arith, l)

row_no_budget : IsSoundAct One (Trim 0 0) → ⊥
row_no_budget l = omega (arith, l)

row_no_parents : IsSoundAct One (Join []) → ⊥
row_no_parents l = omega (arith, l)

-- A trim or a join elsewhere than at its parents' service.
row_moved_trim : StaysAt (Trim 0 1) 0 1 → ⊥
row_moved_trim e = omega (arith, e)

row_moved_join : StaysAt (Join (0 ∷ [])) 0 1 → ⊥
row_moved_join e = omega (arith, e)

-- A write at a slot that the service doesn't know, and one of no slot of the table.
row_unknown_write : IsActOf row_nodes Nothing (Set 0 0 (Taint true)) → ⊥
row_unknown_write w = w.known

row_no_slot : IsActOf row_nodes All (Set 0 2 (Taint true)) → ⊥
row_no_slot w = none w.there
  where
    none : {at : SlotAt} → slice_get (slots_of row_nodes) 2 ≡ Some at → ⊥
    none e = cc e

row_no_view : IsViewOf row_nodes (Only (2 ∷ [])) → ⊥
row_no_view v = omega (arith, v.0)

-- ---- what is shown

a_ends : (list : List Atom) → IsIn (b_header ∷ []) (paths (front_of list)) → IsEnded list (field_path (0 ∷ []))
unfolding unsigned_varint unsigned_form unsigned_tail
a_ends list i = inr (b_header ∷ [], i, (refl, λ below. none below.0 below.1))
  where
    second : (x y : ℕ) (rest : Path) → (248 ∷ x ∷ []) ∷ [] ≡ (248 ∷ y ∷ []) ∷ rest → x ≡ y
    second x y rest e = cc

    none : (rest : Path) → b_header ∷ [] ≡ a_header ∷ rest → ⊥
    none rest e = let same = second 1 0 rest e in absurd (omega (arith, same))

-- The last header before the marker is that of `b`, so `a` is ended: it is exact.
pub row_a : IsShown row_nodes cut 0 true (Taint true)
unfolding unsigned_varint unsigned_form unsigned_tail
row_a = record {
  at = a_slot;
  there = refl;
  ended = ((λ t. a_ends cut (inr (inr (inl refl)))), λ e. refl);
  says = ((λ t. ([], inr (inl refl))), λ d. refl);
}

b_open : (list : List Atom) → HasMarker list → front_of list ≡ a_header ∷ on ∷ b_header ∷ [] → IsEnded list (field_path (1 ∷ [])) → ⊥
unfolding unsigned_varint unsigned_form unsigned_tail
b_open list m f (inl none) = none m
b_open list m f (inr (q, i, beyond)) = by q (subst (λ l. IsIn q (paths l)) f i) beyond.0
  where
    by : (q : Path) → IsIn q (paths (a_header ∷ on ∷ b_header ∷ [])) → path_cmp (b_header ∷ []) q ≡ Less → ⊥
    by q (inl e) l = let clash : Greater ≡ Less = ap (path_cmp (b_header ∷ [])) (sym e) ∙ l in cc
    by q (inr (inl e)) l = let clash : Greater ≡ Less = ap (path_cmp (b_header ∷ [])) (sym e) ∙ l in cc
    by q (inr (inr (inl e))) l = let clash : Equal ≡ Less = ap (path_cmp (b_header ∷ [])) (sym e) ∙ l in cc
    by q (inr (inr (inr none))) l = elim none [ ]

-- `b` isn't: it is partial, and off, though it was written.
pub row_b : IsShown row_nodes cut 1 false (Taint false)
unfolding unsigned_varint unsigned_form unsigned_tail
row_b = record {
  at = b_slot;
  there = refl;
  ended = ((λ t. absurd (cc t)), λ e. absurd (b_open cut (inr (inr (inr (inl refl)))) refl e));
  says = ((λ t. absurd (cc t)), λ d. absurd (bytes_at-back 0 (b_header ∷ []) (paths cut) d.0 d.1));
}

-- After the join it is on again, and still partial.
pub row_joined_b : IsShown row_nodes joined 1 false (Taint true)
unfolding unsigned_varint unsigned_form unsigned_tail
row_joined_b = record {
  at = b_slot;
  there = refl;
  ended = ((λ t. absurd (cc t)), λ e. absurd (b_open joined (inr (inr (inr (inl refl)))) refl e));
  says = ((λ t. ([], inr (inr (inr (inr (inl refl)))))), λ d. refl);
}

-- ---- the truth

row_step : (n : ℕ) → n < 8 → IsRunStep row_nodes row_graph row_lists n
row_step n l = record { recorded = row_recorded; run = row_run; within = l }

-- What is called exact is the truth.
pub row_a_truth : IsTruthAt row_nodes row_graph 3 0 (Taint true)
row_a_truth = (shown_is_honest row_nodes row_graph row_lists 3 0 true (Taint true) (row_step 3 (omega arith)) row_a).truth refl

says_b : SaysSlot both_on b_slot (Taint true)
unfolding unsigned_varint unsigned_form unsigned_tail
says_b = ((λ t. ([], inr (inr (inr (inl refl))))), λ d. refl)

-- The truth of `b` is on, though the value that is shown is off.
pub row_b_truth : IsTruthAt row_nodes row_graph 3 1 (Taint true)
row_b_truth = by ((has_one_truth).some row_nodes row_graph 3 row_recorded (omega arith)) ((runs_are_faithful row_nodes row_graph row_lists 2 (row_step 2 (omega arith))).exact 1 b_slot (Taint true) refl says_b (inl none))
  where
    none : HasMarker both_on → ⊥
    none (inl e) = cc e
    none (inr (inl e)) = cc e
    none (inr (inr (inl e))) = cc e
    none (inr (inr (inr (inl e)))) = cc e
    none (inr (inr (inr (inr i)))) = elim i [ ]

    -- a trim adds nothing
    alike : AreReachedAlike row_nodes row_graph 2 row_graph 3
    alike vs = (
      (λ r. reached_from row_graph 3 (at 0 (Trim 2 9)) refl (λ step. Adds row_nodes vs step.act) 2 (inl refl) r),
      λ r. elim (reached_split row_graph 3 (at 0 (Trim 2 9)) refl (λ step. Adds row_nodes vs step.act) r) [ inl none ↦ absurd none | inr s ↦ one s ],
    )
      where
        one : (parent : ℕ) × IsIn parent (2 ∷ []) × IsReachedBy row_graph parent (λ step. Adds row_nodes vs step.act) → IsAdded row_nodes row_graph 2 vs
        one s = elim s.1 [ inl e ↦ subst (λ n. IsAdded row_nodes row_graph n vs) e s.2 | inr i ↦ elim i [ ] ]

    by : (truth : Values) × IsTruth row_nodes row_graph 3 truth → IsTruthAt row_nodes row_graph 2 1 (Taint true) → IsTruthAt row_nodes row_graph 3 1 (Taint true)
    by t b =
        let same : b.truth ≡ t.0 = truth_alike row_nodes row_graph row_graph 2 3 b.truth t.0 alike b.is t.1 in
        record { truth = t.0; is = t.1; there = subst (λ vs. HasSlotValue row_nodes vs 1 (Taint true)) same b.there }
