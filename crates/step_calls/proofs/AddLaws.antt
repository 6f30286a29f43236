-- Steps that are taken one after another, and at once.
use Rattle.std.proofs.Common.{◌≡◌, ◌⊎◌, inl, inr, ◌↔◌, ℕ, List, [], ◌∷◌, ◌++◌, take, refl, sym, ap, ◌∙◌, subst}
use Rattle.std.specs.List.{AllByRecursion}
use Rattle.context_model.specs.Atoms.{Atom}
use Rattle.context_model.specs.Orders.{Path, IsIn}
use Rattle.context_model.specs.Paths.{depth_after, path_after, paths_after, paths}
use Rattle.context_model.specs.Ended.{HasMarker}
use Rattle.context_model.specs.Merged.{SomeHasPath, IsMerged}
use Rattle.context_model.specs.WellFormed.{IsWellFormed}
use Rattle.context_model.proofs.GreedyElements.{All-at}
use Rattle.context_model.proofs.MergedLaws.{same_end, paths_tell_lists, SomeHasPath-append, merges_members}
use Rattle.context_model.proofs.MergedMarkers.{keeps_markers}
use Rattle.bag_model.specs.Encodings.{IsEncoding}
use Rattle.bag_model.specs.NormalForm.{Keeping, SomeHoldsData, GivesWay, IsSuperseded, IsNormalOf}
use Rattle.bag_model.specs.Readings.{datum_path, PathsOf}
use Rattle.bag_model.specs.Shapes.{Nodes}
use Rattle.bag_model.specs.Slots.{slots_of}
use Rattle.bag_model.specs.SlotValues.{only}
use Rattle.bag_model.specs.Tables.{IsTable}
use Rattle.bag_model.specs.Views.{View, All}
use Rattle.bag_model.proofs.Covering.{way_onwards}
use Rattle.bag_model.proofs.DataPlaces.{SomeHoldsData-one, slots_place, best_there}
use Rattle.bag_model.proofs.Finite.{in_append, in_append_first, in_append_second}
use Rattle.bag_model.proofs.LayoutLaws.{encodings_read_back}
use Rattle.bag_model.proofs.NormalFormLaws.{normal_left, normal_form_keeps}
use Rattle.bag_model.proofs.SlotsBelow.{get_in}
use Rattle.trace_model.specs.Runs.{Lists, IsNormalMerge}
use Rattle.trace_model.proofs.LayoutFronts.{EndsPlainly}
use Rattle.trace_model.proofs.PlainEnds.{marker_back}
use Rattle.step_calls.specs.Laws.{IsWhole, StepsAddUp}
use Rattle.step_calls.specs.Lines.{Write, AreEncodings}
use Rattle.step_calls.specs.Updates.{IsUpdateOf}
use Rattle.step_calls.proofs.JoinLaws.{encoding_unmarked}
use Rattle.step_calls.proofs.StepLaws.{all_append}

-- ---- paths of lists without markers

ends_how : (p : Path) → EndsPlainly p ⊎ (((q : Path) × (p ≡ q ++ [] ∷ [])) ⊎ (p ≡ []))
ends_how [] = inr (inr refl)
ends_how ([] ∷ []) = inr (inl ([], refl))
ends_how ((b ∷ bytes) ∷ []) = inl ([], b, bytes, refl)
ends_how (x ∷ y ∷ p) = by (ends_how (y ∷ p))
  where
    by : EndsPlainly (y ∷ p) ⊎ (((q : Path) × (y ∷ p ≡ q ++ [] ∷ [])) ⊎ (y ∷ p ≡ [])) → EndsPlainly (x ∷ y ∷ p) ⊎ (((q : Path) × (x ∷ y ∷ p ≡ q ++ [] ∷ [])) ⊎ (x ∷ y ∷ p ≡ []))
    by (inl e) = inl (x ∷ e.0, e.1, e.2, ap (λ l. x ∷ l) e.3)
    by (inr (inl m)) = inr (inl (x ∷ m.0, ap (λ l. x ∷ l) m.1))
    by (inr (inr none)) = absurd (cc none)

path_some : (q : Path) (list : List Atom) → IsIn [] (paths_after q list) → ⊥
path_some q [] none = none
path_some q (a ∷ list) (inl e) = empty (take (depth_after q a) q) e
  where
    empty : (r : Path) → [] ≡ r ++ a ∷ [] → ⊥
    empty [] e = cc e
    empty (x ∷ r) e = cc e
path_some q (a ∷ list) (inr i) = path_some (path_after q a) list i

-- They end in atoms that are no markers.
plain_path : (list : List Atom) → (HasMarker list → ⊥) → (p : Path) → PathsOf list p → EndsPlainly p
plain_path list unmarked p i = by (ends_how p)
  where
    by : EndsPlainly p ⊎ (((q : Path) × (p ≡ q ++ [] ∷ [])) ⊎ (p ≡ [])) → EndsPlainly p
    by (inl e) = e
    by (inr (inl m)) = absurd (unmarked (marker_back list m.0 (subst (PathsOf list) m.1 i)))
    by (inr (inr none)) = absurd (path_some [] list (subst (PathsOf list) none i))

-- ---- normal form before and after a merge

module _ (nodes : Nodes) (view : View) (table : IsTable nodes) where
  -- What is superseded among some paths is superseded where others can stand for those that it gives way to.
  superseded_among : (P Q : Path → Type 0) (p : Path) (s : IsSuperseded nodes view P p) (other : List ℕ) → Q (datum_path s.place other) → GivesWay s.keep s.mine other → IsSuperseded nodes view Q p
  superseded_among P Q p s other stands way = record {
    slot = s.slot;
    at = s.at;
    knows = s.knows;
    there = s.there;
    place = s.place;
    keep = s.keep;
    holds = s.holds;
    mine = s.mine;
    other = other;
    is = s.is;
    stands = stands;
    way = way;
  }

  superseded_at : (P : Path → Type 0) (p : Path) (s : IsSuperseded nodes view P p) → SomeHoldsData nodes [] s.keep s.place
  superseded_at P p s = slots_place nodes [] s.at s.keep s.place (get_in (slots_of nodes) s.slot s.at s.there) s.holds

  -- A datum that gives way to none isn't superseded.
  best_stays : (list : List Atom) (keep : Keeping) (q : Path) (y : List ℕ) → SomeHoldsData nodes [] keep q
      → ((z : List ℕ) → PathsOf list (datum_path q z) → GivesWay keep y z → ⊥) → IsSuperseded nodes view (PathsOf list) (datum_path q y) → ⊥
  best_stays list keep q y h best s = by (same_end q s.place (0 ∷ y) (0 ∷ s.mine) s.is)
    where
      tails : (x z : List ℕ) → 0 ∷ x ≡ 0 ∷ z → x ≡ z
      tails x z e = cc e

      by : (q ≡ s.place) × (0 ∷ y ≡ 0 ∷ s.mine) → ⊥
      by e =
          let rule : s.keep ≡ keep = SomeHoldsData-one nodes [] q s.keep keep table.well_formed (subst (SomeHoldsData nodes [] s.keep) (sym e.0) (superseded_at (PathsOf list) (datum_path q y) s)) h in
          best s.other (subst (λ v. PathsOf list (datum_path v s.other)) (sym e.0) s.stands)
          (subst (λ k. GivesWay k y s.other) rule (subst (λ x. GivesWay s.keep x s.other) (sym (tails y s.mine e.1)) s.way))

  module _ (some others : Lists) (m1 first m2 later m3 once : List Atom) (is1 : IsMerged some m1) (n1 : IsNormalOf nodes view m1 first) (is2 : IsMerged (first ∷ others) m2)
      (n2 : IsNormalOf nodes view m2 later) (is3 : IsMerged (some ++ others) m3) (n3 : IsNormalOf nodes view m3 once) where
    left1 : (p : Path) (b : ℕ) (bytes : List ℕ) → PathsOf first (p ++ (b ∷ bytes) ∷ [])
        ↔ (PathsOf m1 (p ++ (b ∷ bytes) ∷ []) × (IsSuperseded nodes view (PathsOf m1) (p ++ (b ∷ bytes) ∷ []) → ⊥))
    left1 p b bytes = normal_left nodes table view m1 first is1.well_formed n1 p b bytes

    left2 : (p : Path) (b : ℕ) (bytes : List ℕ) → PathsOf later (p ++ (b ∷ bytes) ∷ [])
        ↔ (PathsOf m2 (p ++ (b ∷ bytes) ∷ []) × (IsSuperseded nodes view (PathsOf m2) (p ++ (b ∷ bytes) ∷ []) → ⊥))
    left2 p b bytes = normal_left nodes table view m2 later is2.well_formed n2 p b bytes

    left3 : (p : Path) (b : ℕ) (bytes : List ℕ) → PathsOf once (p ++ (b ∷ bytes) ∷ [])
        ↔ (PathsOf m3 (p ++ (b ∷ bytes) ∷ []) × (IsSuperseded nodes view (PathsOf m3) (p ++ (b ∷ bytes) ∷ []) → ⊥))
    left3 p b bytes = normal_left nodes table view m3 once is3.well_formed n3 p b bytes

    -- The paths of the merges.
    in_all : (q : Path) → PathsOf m1 q ⊎ SomeHasPath others q → PathsOf m3 q
    in_all q (inl i) = (is3.exact q).1 ((SomeHasPath-append some others q).1 (inl ((is1.exact q).0 i)))
    in_all q (inr i) = (is3.exact q).1 ((SomeHasPath-append some others q).1 (inr i))

    of_all : (q : Path) → PathsOf m3 q → PathsOf m1 q ⊎ SomeHasPath others q
    of_all q i = by ((SomeHasPath-append some others q).0 ((is3.exact q).0 i))
      where
        by : SomeHasPath some q ⊎ SomeHasPath others q → PathsOf m1 q ⊎ SomeHasPath others q
        by (inl j) = inl ((is1.exact q).1 j)
        by (inr j) = inr j

    of_then : (q : Path) → PathsOf m2 q → PathsOf first q ⊎ SomeHasPath others q
    of_then q i = (is2.exact q).0 i

    in_then : (q : Path) → PathsOf first q ⊎ SomeHasPath others q → PathsOf m2 q
    in_then q i = (is2.exact q).1 i

    more : (p : Path) (b : ℕ) (bytes : List ℕ) → PathsOf m2 (p ++ (b ∷ bytes) ∷ []) → PathsOf m3 (p ++ (b ∷ bytes) ∷ [])
    more p b bytes i = by (of_then (p ++ (b ∷ bytes) ∷ []) i)
      where
        by : PathsOf first (p ++ (b ∷ bytes) ∷ []) ⊎ SomeHasPath others (p ++ (b ∷ bytes) ∷ []) → PathsOf m3 (p ++ (b ∷ bytes) ∷ [])
        by (inl j) = in_all (p ++ (b ∷ bytes) ∷ []) (inl ((left1 p b bytes).0 j).0)
        by (inr j) = in_all (p ++ (b ∷ bytes) ∷ []) (inr j)

    -- What is superseded at once is so in the second step: another datum, to which none is preferred, was left by the first.
    so_then : (p : Path) → IsSuperseded nodes view (PathsOf m3) p → IsSuperseded nodes view (PathsOf m2) p
    so_then p s = by (of_all (datum_path s.place s.other) s.stands)
      where
        joined : (y : List ℕ) → (y ≡ s.other) ⊎ GivesWay s.keep s.other y → GivesWay s.keep s.mine y
        joined y (inl e) = subst (GivesWay s.keep s.mine) (sym e) s.way
        joined y (inr w) = way_onwards s.keep s.mine s.other y s.way w

        by : PathsOf m1 (datum_path s.place s.other) ⊎ SomeHasPath others (datum_path s.place s.other) → IsSuperseded nodes view (PathsOf m2) p
        by (inr j) = superseded_among (PathsOf m3) (PathsOf m2) p s s.other (in_then (datum_path s.place s.other) (inr j)) s.way
        by (inl j) =
            let y = best_there s.keep (paths m1) s.place s.other j in
            let stays : PathsOf first (datum_path s.place y.0) =
            (left1 s.place 0 y.0).1 (y.1, best_stays m1 s.keep s.place y.0 (superseded_at (PathsOf m3) p s) y.3) in
            superseded_among (PathsOf m3) (PathsOf m2) p s y.0 (in_then (datum_path s.place y.0) (inl stays)) (joined y.0 y.2)

    so_once : (p : Path) → IsSuperseded nodes view (PathsOf m2) p → IsSuperseded nodes view (PathsOf m3) p
    so_once p s = superseded_among (PathsOf m2) (PathsOf m3) p s s.other (more s.place 0 s.other s.stands) s.way

    in_once : (p : Path) (b : ℕ) (bytes : List ℕ) → PathsOf later (p ++ (b ∷ bytes) ∷ []) → PathsOf once (p ++ (b ∷ bytes) ∷ [])
    in_once p b bytes i =
        let l = (left2 p b bytes).0 i in
        (left3 p b bytes).1 (more p b bytes l.0, λ s. l.1 (so_then (p ++ (b ∷ bytes) ∷ []) s))

    back : (p : Path) (b : ℕ) (bytes : List ℕ) → PathsOf once (p ++ (b ∷ bytes) ∷ []) → PathsOf later (p ++ (b ∷ bytes) ∷ [])
    back p b bytes i =
        let l = (left3 p b bytes).0 i in
        (left2 p b bytes).1 (by l.1 (of_all (p ++ (b ∷ bytes) ∷ []) l.0), λ s. l.1 (so_once (p ++ (b ∷ bytes) ∷ []) s))
      where
        by : (IsSuperseded nodes view (PathsOf m3) (p ++ (b ∷ bytes) ∷ []) → ⊥) → PathsOf m1 (p ++ (b ∷ bytes) ∷ []) ⊎ SomeHasPath others (p ++ (b ∷ bytes) ∷ []) → PathsOf m2 (p ++ (b ∷ bytes) ∷ [])
        by none (inl j) =
            in_then (p ++ (b ∷ bytes) ∷ [])
            (inl ((left1 p b bytes).1 (j, λ s. none (superseded_among (PathsOf m1) (PathsOf m3) (p ++ (b ∷ bytes) ∷ []) s s.other (in_all (datum_path s.place s.other) (inl s.stands)) s.way))))
        by none (inr j) = in_then (p ++ (b ∷ bytes) ∷ []) (inr j)

    -- ---- lists without markers

    module _ (whole : AllByRecursion IsWhole some) (rest : AllByRecursion IsWhole others) where
      unmarked1 : HasMarker m1 → ⊥
      unmarked1 m = let s = (keeps_markers some m1 is1).0 m in (All-at IsWhole some s.0 whole s.1).unmarked s.2

      unmarked_first : HasMarker first → ⊥
      unmarked_first m = unmarked1 ((((normal_form_keeps).lists nodes view m1 first table is1.well_formed n1).marker).0 m)

      unmarked_then : HasMarker later → ⊥
      unmarked_then m = by ((keeps_markers (first ∷ others) m2 is2).0 ((((normal_form_keeps).lists nodes view m2 later table is2.well_formed n2).marker).0 m))
        where
          by : (list : List Atom) × IsIn list (first ∷ others) × HasMarker list → ⊥
          by (list, inl e, j) = unmarked_first (subst HasMarker e j)
          by (list, inr i, j) = (All-at IsWhole others list rest i).unmarked j

      unmarked_once : HasMarker once → ⊥
      unmarked_once m = by ((keeps_markers (some ++ others) m3 is3).0 ((((normal_form_keeps).lists nodes view m3 once table is3.well_formed n3).marker).0 m))
        where
          by : (list : List Atom) × IsIn list (some ++ others) × HasMarker list → ⊥
          by s = (All-at IsWhole (some ++ others) s.0 (all_append IsWhole some others whole rest) s.1).unmarked s.2

      same_paths : (q : Path) → PathsOf later q ↔ PathsOf once q
      same_paths q = (
        λ i. let e = plain_path later unmarked_then q i in subst (PathsOf once) (sym e.3) (in_once e.0 e.1 e.2 (subst (PathsOf later) e.3 i)),
        λ i. let e = plain_path once unmarked_once q i in subst (PathsOf later) (sym e.3) (back e.0 e.1 e.2 (subst (PathsOf once) e.3 i)),
      )

      same_list : later ≡ once
      same_list =
          paths_tell_lists later once
          (((normal_form_keeps).lists nodes view m2 later table is2.well_formed n2).well_formed)
          (((normal_form_keeps).lists nodes view m3 once table is3.well_formed n3).well_formed) same_paths

merges_add : (nodes : Nodes) (view : View) (some others : Lists) (first later once : List Atom) → IsTable nodes → AllByRecursion IsWhole some → AllByRecursion IsWhole others
    → IsNormalMerge nodes view some first → IsNormalMerge nodes view (first ∷ others) later → IsNormalMerge nodes view (some ++ others) once → later ≡ once
merges_add nodes view some others first later once table whole rest a b c =
    same_list nodes view table some others a.merged first b.merged later c.merged once a.merge a.normal b.merge b.normal c.merge c.normal whole rest

-- ---- updates

-- Writes have one list of encodings.
one_encodings : (nodes : Nodes) (writes : List Write) (a b : Lists) → AreEncodings nodes writes a → AreEncodings nodes writes b → a ≡ b
one_encodings nodes [] [] [] e f = refl
one_encodings nodes [] [] (l ∷ b) e f = absurd f
one_encodings nodes [] (l ∷ a) b e f = absurd e
one_encodings nodes (write ∷ writes) [] b e f = absurd e
one_encodings nodes (write ∷ writes) (l ∷ a) [] e f = absurd f
one_encodings nodes (write ∷ writes) (l ∷ a) (k ∷ b) e f =
    let first : l ≡ k = (encodings_read_back).one nodes (only nodes write.0 write.1) l k e.0 f.0 in
    let rest = one_encodings nodes writes a b e.1 f.1 in
    λ i. first i ∷ rest i

both_encodings : (nodes : Nodes) (writes more : List Write) (a b : Lists) → AreEncodings nodes writes a → AreEncodings nodes more b → AreEncodings nodes (writes ++ more) (a ++ b)
both_encodings nodes [] more [] b e f = f
both_encodings nodes [] more (l ∷ a) b e f = absurd e
both_encodings nodes (write ∷ writes) more [] b e f = absurd e
both_encodings nodes (write ∷ writes) more (l ∷ a) b e f = (e.0, both_encodings nodes writes more a b e.1 f)

encodings_whole : (nodes : Nodes) (writes : List Write) (written : Lists) → AreEncodings nodes writes written → AllByRecursion IsWhole written
encodings_whole nodes [] [] e = tt
encodings_whole nodes [] (l ∷ written) e = absurd e
encodings_whole nodes (write ∷ writes) [] e = absurd e
encodings_whole nodes (write ∷ writes) (l ∷ written) e =
    (record { well_formed = (e.0).well_formed; unmarked = encoding_unmarked nodes (only nodes write.0 write.1) l e.0 }, encodings_whole nodes writes written e.1)

-- The order of lists doesn't matter to a merge.
in_middle : (a b c d : Lists) (x : List Atom) → IsIn x ((a ++ b) ++ (c ++ d)) → IsIn x ((a ++ c) ++ (b ++ d))
in_middle a b c d x i = by (in_append x (a ++ b) (c ++ d) i)
  where
    left : IsIn x a ⊎ IsIn x b → IsIn x ((a ++ c) ++ (b ++ d))
    left (inl j) = in_append_first x (a ++ c) (b ++ d) (in_append_first x a c j)
    left (inr j) = in_append_second x (a ++ c) (b ++ d) (in_append_first x b d j)

    right : IsIn x c ⊎ IsIn x d → IsIn x ((a ++ c) ++ (b ++ d))
    right (inl j) = in_append_first x (a ++ c) (b ++ d) (in_append_second x a c j)
    right (inr j) = in_append_second x (a ++ c) (b ++ d) (in_append_second x b d j)

    by : IsIn x (a ++ b) ⊎ IsIn x (c ++ d) → IsIn x ((a ++ c) ++ (b ++ d))
    by (inl j) = left (in_append x a b j)
    by (inr j) = right (in_append x c d j)

moved : (nodes : Nodes) (view : View) (a b c d : Lists) (list : List Atom) → IsNormalMerge nodes view ((a ++ b) ++ (c ++ d)) list → IsNormalMerge nodes view ((a ++ c) ++ (b ++ d)) list
moved nodes view a b c d list n = record {
  merged = n.merged;
  merge = merges_members ((a ++ b) ++ (c ++ d)) ((a ++ c) ++ (b ++ d)) n.merged (λ x. (in_middle a b c d x, in_middle a c b d x)) n.merge;
  normal = n.normal;
}

updates_add : (nodes : Nodes) (some others : Lists) (writes more : List Write) (first later once : List Atom) → IsTable nodes → AllByRecursion IsWhole some → AllByRecursion IsWhole others
    → IsUpdateOf nodes some writes first → IsUpdateOf nodes (first ∷ others) more later → IsUpdateOf nodes (some ++ others) (writes ++ more) once → later ≡ once
updates_add nodes some others writes more first later once table whole rest a b c =
    let same : c.written ≡ a.written ++ b.written =
    one_encodings nodes (writes ++ more) c.written (a.written ++ b.written) c.encodings (both_encodings nodes writes more a.written b.written a.encodings b.encodings) in
    let all : IsNormalMerge nodes All ((some ++ others) ++ (a.written ++ b.written)) once =
    subst (λ (w : Lists). IsNormalMerge nodes All ((some ++ others) ++ w) once) same c.normal in
    merges_add nodes All (some ++ a.written) (others ++ b.written) first later once table
    (all_append IsWhole some a.written whole (encodings_whole nodes writes a.written a.encodings))
    (all_append IsWhole others b.written rest (encodings_whole nodes more b.written b.encodings))
    a.normal b.normal (moved nodes All some others a.written b.written once all)

pub steps_add_up : StepsAddUp
steps_add_up = record { merges = merges_add; updates = updates_add }
