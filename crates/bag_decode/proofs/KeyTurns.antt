-- What a walk over the keys after a path has gathered: with the next key, and where there is none.
use Rattle.std.proofs.Common.{◌≡◌, ℕ, ◌+◌, ◌<◌, ◌≤◌, List, [], ◌∷◌, ◌++◌, length, inl, inr, sym, ap, ◌∙◌, subst, arith}
use Rattle.std.proofs.lemmas.Bool.{cases_order}
use Rattle.context_model.specs.Atoms.{Atom}
use Rattle.context_model.specs.Kinds.{atom_of}
use Rattle.context_model.specs.Kinds.Kind.{Keyed}
use Rattle.context_model.specs.KeyedMerge.{keys_of}
use Rattle.context_model.specs.GreedyMerge.{AllBelow}
use Rattle.context_model.specs.Orders.{Path, atom_cmp}
use Rattle.context_model.specs.Paths.{is_header, level, atom_at, path_before}
use Rattle.bag_model.specs.Readings.{PathsOf, key_path, IsGreatest, Reads}
use Rattle.bag_model.specs.Scalars.{ScalarKind, ScalarValue, scalar_cmp, IsScalarOf, spelling}
use Rattle.bag_model.specs.Shapes.{Shape}
use Rattle.bag_model.specs.Values.{Value, Entries, pairs}
use Rattle.bag_walks.specs.Parts.{IsBehind, IsSegment, StaysBelow}
use Rattle.bag_walks.specs.Gathering.{GathersCounts, GathersEntries}
use Rattle.bag_walks.proofs.Sets.{stands_on, key_header, counts_below, counts_more, counts_read, entries_other, entries_below, entries_more, map_reads}
use Rattle.bag_walks.proofs.Turns.{segment_whole}
use Rattle.bag_scan.specs.Searches.{HasNoKey}
use Rattle.bag_scan.proofs.KeyTurns.{KeyTurn}

-- Places without a header of a key after q bring no counts.
counts_further : (list : List Atom) (q : Path) (from to next : ℕ) (counts : List (List ℕ × ℕ)) → to ≤ next
    → ((k : ℕ) (key : List ℕ) → to ≤ k → k < next → atom_at list k ≡ atom_of (Keyed (length q) key) → ⊥) → GathersCounts list q from to counts → GathersCounts list q from next counts
counts_further list q from to next counts l other holds = record {
  rises = holds.rises;
  keys = λ writer. (
    λ i. stands_on list (atom_of (Keyed (length q) writer)) from to next l ((holds.keys writer).0 i),
    λ s. elim (cases_order s.place to) [
      | inl same ↦ absurd (other s.place writer (omega arith) s.up_to s.atom)
      | inr (inl before) ↦ (holds.keys writer).1 (record { place = s.place; from_on = s.from_on; up_to = before; atom = s.atom })
      | inr (inr after) ↦ absurd (other s.place writer (omega arith) s.up_to s.atom)
    ],
  );
  each = holds.each;
}

module _ (list : List Atom) (q : Path) (depth from place : ℕ) (own : length q ≡ depth) (few : depth < 16) (behind : IsBehind list q from) where
  few_own : length q < 16
  few_own = omega arith

  -- ---- a key

  module _ (key : List ℕ) (start : ℕ) (turn : KeyTurn list q from depth place key start) where
    over_key : StaysBelow list (length q) from (turn.found.place + 1)
    over_key = subst (StaysBelow list (length q) from) turn.found.next turn.over

    module _ (counts : List (List ℕ × ℕ)) (holds : GathersCounts list q from place counts) where
      counts_here : GathersCounts list q from turn.found.place counts
      counts_here = counts_further list q from place turn.found.place counts turn.found.before.stays.rises turn.found.before.none holds

      -- A writer comes after all before it, and brings its count.
      pub writer_below : AllBelow atom_cmp (keys_of counts) key
      writer_below = counts_below list q from turn.found.place counts key few_own behind over_key counts_here turn.found.is

      pub counts_turn : (n : ℕ) → IsGreatest (PathsOf list) (path_before list start) n → GathersCounts list q from start (counts ++ (key, n) ∷ [])
      counts_turn n greatest =
          counts_more list q from turn.found.place start counts key n turn.come.rises turn.found.next writer_below counts_here turn.found.is
          (subst (λ p. IsGreatest (PathsOf list) p n) turn.below.path greatest)

    module _ (kind : ScalarKind) (shape : Shape) (es : List (ScalarValue × Value)) (holds : GathersEntries kind shape list q from place es) (v : ScalarValue) (fits : IsScalarOf kind v) (spelled : key ≡ spelling kind v) where
      entries_here : GathersEntries kind shape list q from turn.found.place es
      entries_here = entries_other kind shape list q from place turn.found.place es turn.found.before.stays.rises turn.found.before.none holds

      spelled_here : atom_at list turn.found.place ≡ atom_of (Keyed (length q) (spelling kind v))
      spelled_here = turn.found.is ∙ ap (λ k. atom_of (Keyed (length q) k)) spelled

      -- A key comes after all before it, and brings its value.
      pub key_below : AllBelow scalar_cmp (keys_of es) v
      key_below = entries_below kind shape list q from turn.found.place es v few_own behind over_key entries_here fits spelled_here

      pub entries_turn : (x : Value) (end : ℕ) → Reads shape (PathsOf list) (path_before list start) x → IsSegment list (depth + 1) start end → GathersEntries kind shape list q from end (es ++ (v, x) ∷ [])
      entries_turn x end reads segment =
          entries_other kind shape list q from (turn.found.place + 1) end (es ++ (v, x) ∷ []) (omega (arith, turn.found.next, segment.part.rises)) no_key
          (entries_more kind shape list q from turn.found.place es v x turn.come.rises key_below entries_here fits spelled_here
          (subst (λ k. Reads shape (PathsOf list) (key_path q k) x) spelled (subst (λ p. Reads shape (PathsOf list) p x) turn.below.path reads)))
        where
          no_key : (k : ℕ) (other : List ℕ) → turn.found.place + 1 ≤ k → k < end → atom_at list k ≡ atom_of (Keyed (length q) other) → ⊥
          no_key k other l m is =
              let header = key_header (length q) other few_own in
              let deep = segment.part.deep k (omega (arith, turn.found.next, l)) m (ap is_header is ∙ header.0) in
              let level_is : level (atom_at list k) ≡ length q = ap level is ∙ header.1 in
              absurd (omega (arith, deep, level_is, own))

  -- ---- no key

  module _ (stays : StaysBelow list (length q) from place) (end : ℕ) (last : HasNoKey list depth place end) where
    no_more : HasNoKey list (length q) place end
    no_more = subst (λ n. HasNoKey list n place end) (sym own) last

    segment_own : IsSegment list (length q) from end
    segment_own = segment_whole list (length q) from place end stays no_more.segment

    pub counts_end : (counts : List (List ℕ × ℕ)) → GathersCounts list q from place counts → Reads Shape.Counter (PathsOf list) q (Value.Counter counts)
    counts_end counts holds = counts_read list q from end counts few_own behind segment_own (counts_further list q from place end counts no_more.before.stays.rises no_more.before.none holds)

    pub entries_end : (kind : ScalarKind) (shape : Shape) (es : Entries) → GathersEntries kind shape list q from place (pairs es) → Reads (Shape.Map kind shape) (PathsOf list) q (Value.Map es)
    entries_end kind shape es holds =
        map_reads kind shape list q from end es few_own behind segment_own (entries_other kind shape list q from place end (pairs es) no_more.before.stays.rises no_more.before.none holds)
