-- What updates say.
use Rattle.std.proofs.Common.{◌≡◌, ◌⊎◌, inl, inr, ◌↔◌, ℕ, List, [], ◌∷◌, ◌++◌, map, refl, sym, ap, ◌∙◌, subst}
use Rattle.std.specs.List.{AllByRecursion}
use Rattle.context_model.specs.Atoms.{Atom}
use Rattle.context_model.specs.Orders.{Path, IsIn}
use Rattle.context_model.specs.Paths.{paths}
use Rattle.context_model.specs.Ended.{HasMarker, IsEnded, field_path}
use Rattle.context_model.specs.Merged.{SomeHasPath, IsMerged, merge_of}
use Rattle.context_model.specs.WellFormed.{IsWellFormed}
use Rattle.context_model.proofs.GreedyElements.{All-at, All-from}
use Rattle.context_model.proofs.MergedLaws.{HasPaths-alike, has_one_merge, merges_few, merges_one_by_one}
use Rattle.context_model.proofs.MergedMarkers.{ends_with_each}
use Rattle.bag_model.specs.Encodings.{IsEncoding, IsEncodingOf}
use Rattle.bag_model.specs.Readings.{PathsOf, SaysValues}
use Rattle.bag_model.specs.Shapes.{Nodes}
use Rattle.bag_model.specs.Slots.{SlotAt, slots_of}
use Rattle.bag_model.specs.SlotValues.{HasSlot, only}
use Rattle.bag_model.specs.Tables.{IsTable}
use Rattle.bag_model.specs.Typed.{AreTyped}
use Rattle.bag_model.specs.Values.{Values, bottoms}
use Rattle.bag_model.specs.Views.{All}
use Rattle.bag_model.proofs.EachSlot.{only_fits}
use Rattle.bag_model.proofs.ForeignLaws.{InLayouts-used}
use Rattle.bag_model.proofs.LayoutLaws.{encodings_read_back}
use Rattle.bag_model.proofs.MergeReadingLaws.{merges_read_as_joins}
use Rattle.bag_model.proofs.NormalFormLaws.{normal_form_keeps}
use Rattle.bag_model.proofs.OfShape.{ReadsEach-none}
use Rattle.bag_model.proofs.SlotsBelow.{get_in}
use Rattle.trace_model.specs.Graphs.{IsTypedContext}
use Rattle.trace_model.specs.Runs.{Lists}
use Rattle.trace_model.specs.Truth.{join_all}
use Rattle.trace_model.proofs.LayoutFronts.{EndsPlainly, AreUsed-plain}
use Rattle.trace_model.proofs.PlainEnds.{marker_path, plain_or_marker}
use Rattle.step_calls.specs.Laws.{FitsSlot, SayEach, written_values, UpdatesReadAsJoins}
use Rattle.step_calls.specs.Lines.{Write, AreEncodings}
use Rattle.step_calls.specs.Updates.{IsUpdateOf}
use Rattle.step_calls.proofs.StepLaws.{all_append, encoded_contexts}

-- ---- a merge of any number of lists says the join of what they say

module _ (nodes : Nodes) where
  nothing_said : SaysValues nodes [] (bottoms nodes)
  nothing_said = ReadsEach-none nodes (PathsOf []) [] (λ r none. none)

  -- The merge of the rest can stand for the rest.
  rest_merged : (list : List Atom) (rest : Lists) (behind merged : List Atom) → IsMerged rest behind → IsMerged (list ∷ rest) merged → IsMerged (list ∷ behind ∷ []) merged
  rest_merged list rest behind merged of_rest of_all =
      HasPaths-alike (SomeHasPath (list ∷ rest)) (SomeHasPath (list ∷ behind ∷ [])) merged (λ q. (there q, back q)) of_all
    where
      there : (q : Path) → SomeHasPath (list ∷ rest) q → SomeHasPath (list ∷ behind ∷ []) q
      there q (inl i) = inl i
      there q (inr i) = inr (inl ((of_rest.exact q).1 i))

      back : (q : Path) → SomeHasPath (list ∷ behind ∷ []) q → SomeHasPath (list ∷ rest) q
      back q (inl i) = inl i
      back q (inr (inl i)) = inr ((of_rest.exact q).0 i)
      back q (inr (inr none)) = absurd none

  many_say : (lists : Lists) (said : List Values) (merged : List Atom) → AllByRecursion IsWellFormed lists → SayEach nodes lists said → IsMerged lists merged → SaysValues nodes merged (join_all nodes said)
  many_say [] [] merged well say m =
      subst (λ (l : List Atom). SaysValues nodes l (bottoms nodes)) (has_one_merge [] [] merged (merges_few).none m) nothing_said
  many_say [] (vs ∷ said) merged well say m = absurd say
  many_say (list ∷ lists) [] merged well say m = absurd say
  many_say (list ∷ lists) (vs ∷ said) merged well say m =
      let behind = merges_one_by_one lists well.1 in
      (merges_read_as_joins).joins nodes list (merge_of lists) merged vs (join_all nodes said) (rest_merged list lists (merge_of lists) merged behind m) say.0
      (many_say lists said (merge_of lists) well.1 say.1 behind)

say_append : (nodes : Nodes) (a : Lists) (vs : List Values) (b : Lists) (ws : List Values) → SayEach nodes a vs → SayEach nodes b ws → SayEach nodes (a ++ b) (vs ++ ws)
say_append nodes [] [] b ws of_a of_b = of_b
say_append nodes [] (v ∷ vs) b ws of_a of_b = absurd of_a
say_append nodes (l ∷ a) [] b ws of_a of_b = absurd of_a
say_append nodes (l ∷ a) (v ∷ vs) b ws of_a of_b = (of_a.0, say_append nodes a vs b ws of_a.1 of_b)

-- ---- encodings

-- An encoding says its write,
encodings_say : (nodes : Nodes) (writes : List Write) (written : Lists) → IsTable nodes → AllByRecursion (FitsSlot nodes) writes → AreEncodings nodes writes written
    → SayEach nodes written (map (written_values nodes) writes)
encodings_say nodes [] [] table fit e = tt
encodings_say nodes [] (list ∷ lists) table fit e = absurd e
encodings_say nodes (write ∷ writes) [] table fit e = absurd e
encodings_say nodes (write ∷ writes) (list ∷ lists) table fit e =
    let fits = fit.0 in
    let of : IsEncodingOf nodes (only nodes write.0 write.1) list =
    record { table = table; shapes = (only_fits).shapes nodes write.0 fits.0 write.1 fits.1 fits.2; encoding = e.0 } in
    ((encodings_read_back).reads nodes (only nodes write.0 write.1) list of, encodings_say nodes writes lists table fit.1 e.1)

-- and has no marker.
pub encoding_unmarked : (nodes : Nodes) (vs : Values) (list : List Atom) → IsEncoding nodes vs list → HasMarker list → ⊥
encoding_unmarked nodes vs list e m =
    let at : (q : Path) × PathsOf list (q ++ [] ∷ []) = marker_path list m in
    let plain : EndsPlainly (at.0 ++ [] ∷ []) = AreUsed-plain nodes [] (at.0 ++ [] ∷ []) (InLayouts-used nodes [] vs (at.0 ++ [] ∷ []) ((e.exact (at.0 ++ [] ∷ [])).0 at.1)) in
    plain_or_marker plain.0 at.0 plain.1 plain.2 (sym plain.3)

pub encodings_well : (nodes : Nodes) (writes : List Write) (written : Lists) → AreEncodings nodes writes written → AllByRecursion IsWellFormed written
encodings_well nodes [] [] e = tt
encodings_well nodes [] (list ∷ lists) e = absurd e
encodings_well nodes (write ∷ writes) [] e = absurd e
encodings_well nodes (write ∷ writes) (list ∷ lists) e = ((e.0).well_formed, encodings_well nodes writes lists e.1)

encodings_ended : (nodes : Nodes) (writes : List Write) (written : Lists) (s : Path) → AreEncodings nodes writes written → AllByRecursion (λ l. IsEnded l s) written
encodings_ended nodes [] [] s e = tt
encodings_ended nodes [] (list ∷ lists) s e = absurd e
encodings_ended nodes (write ∷ writes) [] s e = absurd e
encodings_ended nodes (write ∷ writes) (list ∷ lists) s e =
    (inl (encoding_unmarked nodes (only nodes write.0 write.1) list e.0), encodings_ended nodes writes lists s e.1)

all_first : {A : Type 0} (P : A → Type 0) (xs ys : List A) → AllByRecursion P (xs ++ ys) → AllByRecursion P xs
all_first P [] ys p = tt
all_first P (x ∷ xs) ys p = (p.0, all_first P xs ys p.1)

-- ---- updates

each_well : (nodes : Nodes) (lists : Lists) → AllByRecursion (IsTypedContext nodes) lists → AllByRecursion IsWellFormed lists
each_well nodes lists each = All-from IsWellFormed lists (λ l i. (All-at (IsTypedContext nodes) lists l each i).well_formed)

each_typed : (nodes : Nodes) (lists : Lists) → AllByRecursion (IsTypedContext nodes) lists → AllByRecursion (λ l. AreTyped nodes (PathsOf l) []) lists
each_typed nodes lists each = All-from (λ l. AreTyped nodes (PathsOf l) []) lists (λ l i. (All-at (IsTypedContext nodes) lists l each i).typed)

update_says : (nodes : Nodes) (lists : Lists) (said : List Values) (writes : List Write) (list : List Atom) → IsTable nodes
    → AllByRecursion (IsTypedContext nodes) lists → AllByRecursion (FitsSlot nodes) writes → SayEach nodes lists said
    → IsUpdateOf nodes lists writes list → SaysValues nodes list (join_all nodes (said ++ map (written_values nodes) writes))
update_says nodes lists said writes list table each fit say u =
    let n = u.normal in
    let all : AllByRecursion (IsTypedContext nodes) (lists ++ u.written) =
    all_append (IsTypedContext nodes) lists u.written each (encoded_contexts nodes table writes u.written fit u.encodings) in
    let typed : AreTyped nodes (PathsOf n.merged) [] = (merges_read_as_joins).typed nodes (lists ++ u.written) n.merged n.merge (each_typed nodes (lists ++ u.written) all) in
    let joined : SaysValues nodes n.merged (join_all nodes (said ++ map (written_values nodes) writes)) =
    many_say nodes (lists ++ u.written) (said ++ map (written_values nodes) writes) n.merged (each_well nodes (lists ++ u.written) all)
    (say_append nodes lists said u.written (map (written_values nodes) writes) say (encodings_say nodes writes u.written table fit u.encodings)) n.merge in
    (((normal_form_keeps).values nodes All n.merged list table (n.merge).well_formed typed n.normal).says (join_all nodes (said ++ map (written_values nodes) writes))).1 joined

update_ended : (nodes : Nodes) (lists : Lists) (writes : List Write) (list : List Atom) (slot : ℕ) (at : SlotAt) → IsTable nodes
    → AllByRecursion IsWellFormed lists → IsUpdateOf nodes lists writes list → HasSlot nodes slot at
    → IsEnded list (field_path at.numbers) ↔ AllByRecursion (λ l. IsEnded l (field_path at.numbers)) lists
update_ended nodes lists writes list slot at table well u there = (
  λ e. all_first (λ l. IsEnded l s) lists u.written (each.0 (kept.0 e)),
  λ e. kept.1 (each.1 (all_append (λ l. IsEnded l s) lists u.written e (encodings_ended nodes writes u.written s u.encodings))),
)
  where
    s : Path
    s = field_path at.numbers

    kept : IsEnded list s ↔ IsEnded (u.normal).merged s
    kept = ((normal_form_keeps).lists nodes All (u.normal).merged list table ((u.normal).merge).well_formed (u.normal).normal).ended at (get_in (slots_of nodes) slot at there)

    each : IsEnded (u.normal).merged s ↔ AllByRecursion (λ l. IsEnded l s) (lists ++ u.written)
    each = ends_with_each (lists ++ u.written) (u.normal).merged s
        (all_append IsWellFormed lists u.written well (encodings_well nodes writes u.written u.encodings)) (u.normal).merge

pub updates_read_as_joins : UpdatesReadAsJoins
updates_read_as_joins = record {
  says = update_says;
  ended = λ nodes lists writes list slot at table well u there. update_ended nodes lists writes list slot at table well u there;
}
