-- Sets, counters and maps, gathered one atom after another.
use Rattle.std.proofs.Common.{◌≡◌, ℕ, ◌+◌, ◌-◌, ◌*◌, ◌<◌, ◌≤◌, ◌⊎◌, true, nat_le, List, [], ◌∷◌, ◌++◌, length, sym, refl, ap, ◌∙◌, subst, arith, inl, inr}
use Rattle.std.proofs.lemmas.Bool.{cases_order}
use Rattle.std.proofs.lemmas.Bool.Decides.{nat_tests}
use Rattle.context_model.specs.Atoms.{Atom}
use Rattle.context_model.specs.Kinds.{atom_of}
use Rattle.context_model.specs.Kinds.Kind.{Indexed, Keyed}
use Rattle.context_model.specs.KeyedMerge.{keys_of}
use Rattle.context_model.specs.GreedyMerge.{AllBelow}
use Rattle.context_model.specs.Orders.{Path, atom_cmp, IsIn, Rises}
use Rattle.context_model.specs.Paths.{is_header, level, atom_at}
use Rattle.context_model.proofs.Rising.{Rises-push}
use Rattle.bag_model.specs.Readings.{PathsOf, key_path, HasScalar, IsGreatest, HasKey, Reads}
use Rattle.bag_model.specs.Scalars.{ScalarKind, ScalarValue, scalar_cmp, IsScalarOf, spelling}
use Rattle.bag_model.specs.Shapes.{Shape}
use Rattle.bag_model.specs.Values.{Value, Entries, pairs}
use Rattle.bag_model.proofs.SpellingOrder.{spelling-order, spelling-one}
use Rattle.bag_walks.specs.Parts.{IsBehind, HasNoHeader, IsDataPart, StaysBelow, IsSegment, Stands}
use Rattle.bag_walks.specs.Gathering.{GathersData, GathersCounts, GathersEntries}
use Rattle.bag_walks.proofs.Bridge.{data_are, headers_are}
use Rattle.bag_walks.proofs.Gathering.{in_push, all_below, keys_push, each_push, datum_before, header_before, same_first}

-- ---- what is up to a place, and at it

-- An atom up to one place more is there, or before.
pub stands_more : (list : List Atom) (a : Atom) (from to : ℕ) → Stands list a from (to + 1) → Stands list a from to ⊎ (atom_at list to ≡ a)
stands_more list a from to s = elim (cases_order s.place to) [
  | inl same ↦ inr (ap (atom_at list) (sym same) ∙ s.atom)
  | inr (inl before) ↦ inl (record { place = s.place; from_on = s.from_on; up_to = before; atom = s.atom })
  | inr (inr after) ↦ absurd (omega (arith, s.up_to))
]

pub stands_on : (list : List Atom) (a : Atom) (from to next : ℕ) → to ≤ next → Stands list a from to → Stands list a from next
stands_on list a from to next l s = record { place = s.place; from_on = s.from_on; up_to = omega (arith, s.up_to); atom = s.atom }

pub stands_here : (list : List Atom) (a : Atom) (from to : ℕ) → from ≤ to → atom_at list to ≡ a → Stands list a from (to + 1)
stands_here list a from to l is = record { place = to; from_on = l; up_to = omega arith; atom = is }

-- ---- sets

module _ (kind : ScalarKind) (list : List Atom) (from : ℕ) where
  -- An atom that is no datum brings nothing.
  pub data_other : (to : ℕ) (vs : List ScalarValue) → ((x : List ℕ) → atom_at list to ≡ 0 ∷ x → ⊥) → GathersData kind list from to vs → GathersData kind list from (to + 1) vs
  data_other to vs other holds = record {
    rises = holds.rises;
    each = λ v i. let (fits, s) = holds.each v i in (fits, stands_on list (0 ∷ spelling kind v) from to (to + 1) (omega arith) s);
    all = λ x s. elim (stands_more list (0 ∷ x) from to s) [ inl before ↦ holds.all x before | inr here ↦ absurd (other x here) ];
  }

  -- The next datum is that of a value that comes after all before it.
  pub data_below : (q : Path) (to : ℕ) (vs : List ScalarValue) (v : ScalarValue) → IsBehind list q from → HasNoHeader list from (to + 1) → GathersData kind list from to vs
      → IsScalarOf kind v → atom_at list to ≡ 0 ∷ spelling kind v → AllBelow scalar_cmp vs v
  data_below q to vs v behind part holds fits is = all_below scalar_cmp vs v (λ w i.
      let (fits_w, s) = holds.each w i in
      sym (spelling-order kind w v fits_w fits)
      ∙ datum_before list q from (to + 1) s.place to (spelling kind w) (spelling kind v) behind part s.from_on s.up_to (omega arith) s.atom is)

  pub data_more : (to : ℕ) (vs : List ScalarValue) (v : ScalarValue) → from ≤ to → AllBelow scalar_cmp vs v → GathersData kind list from to vs
      → IsScalarOf kind v → atom_at list to ≡ 0 ∷ spelling kind v → GathersData kind list from (to + 1) (vs ++ v ∷ [])
  data_more to vs v l below holds fits is = record {
    rises = Rises-push scalar_cmp vs v holds.rises below;
    each = λ w i. elim ((in_push vs w v).0 i) [
      | inl j ↦ (let (fits_w, s) = holds.each w j in (fits_w, stands_on list (0 ∷ spelling kind w) from to (to + 1) (omega arith) s))
      | inr e ↦ subst (λ u. IsScalarOf kind u × Stands list (0 ∷ spelling kind u) from (to + 1)) (sym e) (fits, stands_here list (0 ∷ spelling kind v) from to l is)
    ];
    all = λ x s. elim (stands_more list (0 ∷ x) from to s) [
      | inl before ↦ (let (w, i, e) = holds.all x before in (w, (in_push vs w v).1 (inl i), e))
      | inr here ↦ (v, (in_push vs v v).1 (inr refl), payload x (sym here ∙ is))
    ];
  }
    where
      payload : (x : List ℕ) → 0 ∷ x ≡ 0 ∷ spelling kind v → x ≡ spelling kind v
      payload x e = cc

  -- What was gathered of the data after q is read there.
  pub set_reads : (q : Path) (to : ℕ) (vs : List ScalarValue) → IsBehind list q from → IsDataPart list from to → GathersData kind list from to vs
      → Reads (Shape.Set kind) (PathsOf list) q (Value.Set kind vs)
  set_reads q to vs behind its holds = (refl, holds.rises, λ v. (to_scalar v, from_scalar v))
    where
      to_scalar : (v : ScalarValue) → IsIn v vs → HasScalar kind (PathsOf list) q v
      to_scalar v i = let (fits, s) = holds.each v i in (fits, (data_are list q from to (spelling kind v) behind its).1 s)

      from_scalar : (v : ScalarValue) → HasScalar kind (PathsOf list) q v → IsIn v vs
      from_scalar v (fits, i) =
          let (w, j, e) = holds.all (spelling kind v) ((data_are list q from to (spelling kind v) behind its).0 i) in
          let (fits_w, s) = holds.each w j in
          subst (λ u. IsIn u vs) (sym (spelling-one kind v w fits fits_w e)) j

-- ---- keys

-- Of two keys of one level the lesser key has the lesser header.
key_order : (n : ℕ) (x y : List ℕ) → atom_cmp (atom_of (Keyed n x)) (atom_of (Keyed n y)) ≡ atom_cmp x y
key_order n x y = same_first (249 - 8 * n) x y

high : (first : ℕ) → 128 ≤ first → nat_le 128 first ≡ true
high first l = grind (arith, nat_tests)

-- At a level below 16 the atom of a key is a header of that level, and the key can be had back.
pub key_header : (n : ℕ) (key : List ℕ) → n < 16 → (is_header (atom_of (Keyed n key)) ≡ true) × (level (atom_of (Keyed n key)) ≡ n)
key_header n key few = (high (249 - 8 * n) (omega arith), omega arith)

-- So is that of a number.
pub index_header : (n number : ℕ) → n < 16 → (is_header (atom_of (Indexed n number)) ≡ true) × (level (atom_of (Indexed n number)) ≡ n)
index_header n number few = (high (248 - 8 * n) (omega arith), omega arith)

pub key_back : (n : ℕ) (x y : List ℕ) → atom_of (Keyed n x) ≡ atom_of (Keyed n y) → x ≡ y
key_back n x y e = cc

module _ (list : List Atom) (q : Path) (from : ℕ) where
  pub counts_below : (to : ℕ) (counts : List (List ℕ × ℕ)) (writer : List ℕ) → length q < 16
      → IsBehind list q from → StaysBelow list (length q) from (to + 1) → GathersCounts list q from to counts → atom_at list to ≡ atom_of (Keyed (length q) writer)
      → AllBelow atom_cmp (keys_of counts) writer
  counts_below to counts writer few behind stays holds is = all_below atom_cmp (keys_of counts) writer (λ other i.
      let s : Stands list (atom_of (Keyed (length q) other)) from to = (holds.keys other).0 i in
      sym (key_order (length q) other writer)
      ∙ ap (λ a. atom_cmp a (atom_of (Keyed (length q) writer))) (sym s.atom) ∙ ap (atom_cmp (atom_at list s.place)) (sym is)
      ∙ header_before list q from (to + 1) s.place to behind stays s.from_on s.up_to (omega arith)
      (ap is_header s.atom ∙ (key_header (length q) other few).0) (ap level s.atom ∙ (key_header (length q) other few).1) (ap is_header is ∙ (key_header (length q) writer few).0) (ap level is ∙ (key_header (length q) writer few).1))

  -- The next key comes after all before it.
  pub counts_more : (to next : ℕ) (counts : List (List ℕ × ℕ)) (writer : List ℕ) (n : ℕ) → from ≤ to → next ≡ to + 1 → AllBelow atom_cmp (keys_of counts) writer → GathersCounts list q from to counts
      → atom_at list to ≡ atom_of (Keyed (length q) writer) → IsGreatest (PathsOf list) (key_path q writer) n → GathersCounts list q from next (counts ++ (writer, n) ∷ [])
  counts_more to next counts writer n l same below holds is greatest = record {
    rises = subst (Rises atom_cmp) (sym (keys_push counts writer n)) (Rises-push atom_cmp (keys_of counts) writer holds.rises below);
    keys = λ other. (
      λ i. elim ((in_push (keys_of counts) other writer).0 (subst (IsIn other) (keys_push counts writer n) i)) [
        | inl j ↦ stands_on list (atom_of (Keyed (length q) other)) from to next (omega (arith, same)) ((holds.keys other).0 j)
        | inr e ↦ subst (λ key. Stands list (atom_of (Keyed (length q) key)) from next) (sym e)
            (subst (Stands list (atom_of (Keyed (length q) writer)) from) (sym same) (stands_here list (atom_of (Keyed (length q) writer)) from to l is))
      ],
      λ s. subst (IsIn other) (sym (keys_push counts writer n)) ((in_push (keys_of counts) other writer).1
          (elim (stands_more list (atom_of (Keyed (length q) other)) from to (subst (Stands list (atom_of (Keyed (length q) other)) from) same s)) [
            | inl before ↦ inl ((holds.keys other).1 before)
            | inr here ↦ inr (key_back (length q) other writer (sym here ∙ is))
          ])),
    );
    each = each_push (λ key m. IsGreatest (PathsOf list) (key_path q key) m) counts writer n holds.each greatest;
  }

  -- What was gathered below q is read there.
  pub counts_read : (to : ℕ) (counts : List (List ℕ × ℕ)) → length q < 16
      → IsBehind list q from → IsSegment list (length q) from to → GathersCounts list q from to counts → Reads Shape.Counter (PathsOf list) q (Value.Counter counts)
  counts_read to counts few behind segment holds = (
    holds.rises,
    λ writer. let are = headers_are list q from to (atom_of (Keyed (length q) writer)) behind segment (key_header (length q) writer few).0 (key_header (length q) writer few).1 in
        ((λ i. are.1 ((holds.keys writer).0 i)), λ i. (holds.keys writer).1 (are.0 i)),
    holds.each,
  )

-- ---- maps

module _ (kind : ScalarKind) (shape : Shape) (list : List Atom) (q : Path) (from : ℕ) where
  -- Places without a header of a key after q bring nothing.
  pub entries_other : (to next : ℕ) (es : List (ScalarValue × Value)) → to ≤ next → ((k : ℕ) (key : List ℕ) → to ≤ k → k < next → atom_at list k ≡ atom_of (Keyed (length q) key) → ⊥)
      → GathersEntries kind shape list q from to es → GathersEntries kind shape list q from next es
  entries_other to next es l other holds = record {
    rises = holds.rises;
    keys = λ v i. let (fits, s) = holds.keys v i in (fits, stands_on list (atom_of (Keyed (length q) (spelling kind v))) from to next l s);
    all = λ key s. elim (cases_order s.place to) [
      | inl same ↦ absurd (other s.place key (omega arith) s.up_to s.atom)
      | inr (inl before) ↦ holds.all key (record { place = s.place; from_on = s.from_on; up_to = before; atom = s.atom })
      | inr (inr after) ↦ absurd (other s.place key (omega arith) s.up_to s.atom)
    ];
    each = holds.each;
  }

  -- The next key comes after all before it.
  pub entries_below : (to : ℕ) (es : List (ScalarValue × Value)) (v : ScalarValue) → length q < 16
      → IsBehind list q from → StaysBelow list (length q) from (to + 1) → GathersEntries kind shape list q from to es → IsScalarOf kind v
      → atom_at list to ≡ atom_of (Keyed (length q) (spelling kind v)) → AllBelow scalar_cmp (keys_of es) v
  entries_below to es v few behind stays holds fits is = all_below scalar_cmp (keys_of es) v (λ w i.
      let (fits_w, s) = holds.keys w i in
      sym (spelling-order kind w v fits_w fits)
      ∙ sym (key_order (length q) (spelling kind w) (spelling kind v))
      ∙ ap (λ a. atom_cmp a (atom_of (Keyed (length q) (spelling kind v)))) (sym s.atom) ∙ ap (atom_cmp (atom_at list s.place)) (sym is)
      ∙ header_before list q from (to + 1) s.place to behind stays s.from_on s.up_to (omega arith)
      (ap is_header s.atom ∙ (key_header (length q) (spelling kind w) few).0) (ap level s.atom ∙ (key_header (length q) (spelling kind w) few).1)
      (ap is_header is ∙ (key_header (length q) (spelling kind v) few).0) (ap level is ∙ (key_header (length q) (spelling kind v) few).1))

  pub entries_more : (to : ℕ) (es : List (ScalarValue × Value)) (v : ScalarValue) (x : Value) → from ≤ to → AllBelow scalar_cmp (keys_of es) v → GathersEntries kind shape list q from to es
      → IsScalarOf kind v → atom_at list to ≡ atom_of (Keyed (length q) (spelling kind v)) → Reads shape (PathsOf list) (key_path q (spelling kind v)) x
      → GathersEntries kind shape list q from (to + 1) (es ++ (v, x) ∷ [])
  entries_more to es v x l below holds fits is reads = record {
    rises = subst (Rises scalar_cmp) (sym (keys_push es v x)) (Rises-push scalar_cmp (keys_of es) v holds.rises below);
    keys = λ w i. elim ((in_push (keys_of es) w v).0 (subst (IsIn w) (keys_push es v x) i)) [
      | inl j ↦ (let (fits_w, s) = holds.keys w j in (fits_w, stands_on list (atom_of (Keyed (length q) (spelling kind w))) from to (to + 1) (omega arith) s))
      | inr e ↦ subst (λ u. IsScalarOf kind u × Stands list (atom_of (Keyed (length q) (spelling kind u))) from (to + 1)) (sym e)
          (fits, stands_here list (atom_of (Keyed (length q) (spelling kind v))) from to l is)
    ];
    all = λ key s. elim (stands_more list (atom_of (Keyed (length q) key)) from to s) [
      | inl before ↦ (let (w, i, e) = holds.all key before in (w, subst (IsIn w) (sym (keys_push es v x)) ((in_push (keys_of es) w v).1 (inl i)), e))
      | inr here ↦ (v, subst (IsIn v) (sym (keys_push es v x)) ((in_push (keys_of es) v v).1 (inr refl)), key_back (length q) key (spelling kind v) (sym here ∙ is))
    ];
    each = each_push (λ key y. Reads shape (PathsOf list) (key_path q (spelling kind key)) y) es v x holds.each reads;
  }

  -- What was gathered below q is read there.
  pub map_reads : (to : ℕ) (es : Entries) → length q < 16
      → IsBehind list q from → IsSegment list (length q) from to → GathersEntries kind shape list q from to (pairs es) → Reads (Shape.Map kind shape) (PathsOf list) q (Value.Map es)
  map_reads to es few behind segment holds = (holds.rises, λ v. (to_key v, from_key v), holds.each)
    where
      to_key : (v : ScalarValue) → IsIn v (keys_of (pairs es)) → HasKey kind (PathsOf list) q v
      to_key v i =
          let (fits, s) = holds.keys v i in
          (fits, (headers_are list q from to (atom_of (Keyed (length q) (spelling kind v))) behind segment (key_header (length q) (spelling kind v) few).0 (key_header (length q) (spelling kind v) few).1).1 s)

      from_key : (v : ScalarValue) → HasKey kind (PathsOf list) q v → IsIn v (keys_of (pairs es))
      from_key v (fits, i) =
          let s : Stands list (atom_of (Keyed (length q) (spelling kind v))) from to =
          (headers_are list q from to (atom_of (Keyed (length q) (spelling kind v))) behind segment (key_header (length q) (spelling kind v) few).0 (key_header (length q) (spelling kind v) few).1).0 i in
          let (w, j, e) = holds.all (spelling kind v) s in
          let (fits_w, t) = holds.keys w j in
          subst (λ u. IsIn u (keys_of (pairs es))) (sym (spelling-one kind v w fits fits_w e)) j
