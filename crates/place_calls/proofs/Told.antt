-- What a part tells is what is read.
use Rattle.std.proofs.Common.{◌≡◌, ◌↔◌, inl, inr, ℕ, suc, ◌+◌, ◌<◌, ◌≤◌, List, [], ◌∷◌, ◌++◌, length, length-append, refl, sym, ap, ◌∙◌, subst, arith}
use Rattle.context_model.specs.Atoms.{Atom}
use Rattle.context_model.specs.KeyedMerge.{keys_of, EachPair}
use Rattle.context_model.specs.Kinds.{atom_of}
use Rattle.context_model.specs.Kinds.Kind.{Indexed, Keyed}
use Rattle.context_model.specs.Orders.{Path, atom_cmp, IsIn, Rises}
use Rattle.bag_model.specs.Readings.{PathsOf, key_path, node_path, IsGreatest, Reads, ReadsEach}
use Rattle.bag_model.specs.Scalars.{ScalarKind, ScalarValue, spelling}
use Rattle.bag_model.specs.Shapes.{Shape, Nodes, no_node, node}
use Rattle.bag_model.specs.Tables.{levels, levels_under}
use Rattle.bag_model.specs.Typed.{IsSpelling, IsCount, IsTyped, AreTyped}
use Rattle.bag_model.specs.Values.{Value, Entries, Values, no_entry, entry, no_value, value, pairs}
use Rattle.place_calls.specs.Telling.{data_of, below_keys, below_field, last_datum, picked, SpellsValue, TellsWriter, MatchEach, Tells, TellsEach}
use Rattle.place_calls.proofs.PartKeys.{IsPart, HasKeys, data_facts, key_facts, field_facts}
use Rattle.place_calls.proofs.Payloads.{scalar_told, scalar_some, count_told, count_some, taint_told, taint_some, spelled_rise, spelled_are, spelled_some}

-- ---- counters

writers_told : (keys : List (List ℕ × List Atom)) (counts : List (List ℕ × ℕ)) → MatchEach TellsWriter keys counts → keys_of keys ≡ keys_of counts
writers_told [] [] alike = refl
writers_told [] (c ∷ counts) alike = absurd alike
writers_told (k ∷ keys) [] alike = absurd alike
writers_told (k ∷ keys) (c ∷ counts) alike =
    ap (λ writer. writer ∷ keys_of keys) (sym alike.0.0) ∙ ap (λ ws. c.0 ∷ ws) (writers_told keys counts alike.1)

module _ (list : List Atom) (q : Path) where
  counts_told : (keys : List (List ℕ × List Atom)) (counts : List (List ℕ × ℕ)) → EachPair (λ key part. IsPart list (key_path q key) part) keys → MatchEach TellsWriter keys counts
      → EachPair (λ writer n. IsGreatest (PathsOf list) (key_path q writer) n) counts
  counts_told [] [] each alike = tt
  counts_told [] (c ∷ counts) each alike = absurd alike
  counts_told (k ∷ keys) [] each alike = absurd alike
  counts_told (k ∷ keys) (c ∷ counts) each alike = (
    subst (λ writer. IsGreatest (PathsOf list) (key_path q writer) c.1) (sym alike.0.0)
        (count_told (PathsOf list) (key_path q k.0) (data_of k.1) (data_facts list (key_path q k.0) k.1 each.0) c.1 (last_datum (data_of k.1)) refl alike.0.1),
    counts_told keys counts each.1 alike.1,
  )

  counts_some : (keys : List (List ℕ × List Atom)) → EachPair (λ key part. IsPart list (key_path q key) part) keys → ((key : List ℕ) → IsIn key (keys_of keys) → (payload : List ℕ) → PathsOf list (key_path q key ++ (0 ∷ payload) ∷ []) → IsCount payload)
      → (counts : List (List ℕ × ℕ)) × MatchEach TellsWriter keys counts
  counts_some [] each typed = ([], tt)
  counts_some (k ∷ keys) each typed =
      let (n, told) = count_some (PathsOf list) (key_path q k.0) (data_of k.1) (data_facts list (key_path q k.0) k.1 each.0) (last_datum (data_of k.1)) refl (typed k.0 (inl refl)) in
      let (counts, alike) = counts_some keys each.1 (λ key i. typed key (inr i)) in
      ((k.0, n) ∷ counts, ((refl, told), alike))

-- ---- maps

-- A key with its part tells this key and this value.
abbrev TellsEntry : ScalarKind → Shape → ℕ → List ℕ × List Atom → ScalarValue × Value → Type 0
TellsEntry kind shape n key e = SpellsValue kind key.0 e.0 × Tells shape (suc n) key.1 e.1

keys_alike : (kind : ScalarKind) (shape : Shape) (n : ℕ) (keys : List (List ℕ × List Atom)) (es : List (ScalarValue × Value)) → MatchEach (TellsEntry kind shape n) keys es → MatchEach (SpellsValue kind) (keys_of keys) (keys_of es)
keys_alike kind shape n [] [] alike = tt
keys_alike kind shape n [] (e ∷ es) alike = absurd alike
keys_alike kind shape n (k ∷ keys) [] alike = absurd alike
keys_alike kind shape n (k ∷ keys) (e ∷ es) alike = (alike.0.0, keys_alike kind shape n keys es alike.1)

module _ (list : List Atom) (q : Path) (kind : ScalarKind) (shape : Shape) (n : ℕ) where
  entries_told : (keys : List (List ℕ × List Atom)) (es : List (ScalarValue × Value)) → EachPair (λ key part. IsPart list (key_path q key) part) keys → MatchEach (TellsEntry kind shape n) keys es
      → ((key : List ℕ) (part : List Atom) (v : Value) → IsPart list (key_path q key) part → Tells shape (suc n) part v → Reads shape (PathsOf list) (key_path q key) v)
      → EachPair (λ key v. Reads shape (PathsOf list) (key_path q (spelling kind key)) v) es
  entries_told [] [] each alike inner = tt
  entries_told [] (e ∷ es) each alike inner = absurd alike
  entries_told (k ∷ keys) [] each alike inner = absurd alike
  entries_told (k ∷ keys) (e ∷ es) each alike inner = (
    subst (λ key. Reads shape (PathsOf list) (key_path q key) e.1) alike.0.0.1 (inner k.0 k.1 e.1 each.0 alike.0.1),
    entries_told keys es each.1 alike.1 inner,
  )

  entries_some : (keys : List (List ℕ × List Atom)) → EachPair (λ key part. IsPart list (key_path q key) part) keys → ((key : List ℕ) → IsIn key (keys_of keys) → IsSpelling kind key)
      → ((key : List ℕ) (part : List Atom) → IsIn key (keys_of keys) → IsPart list (key_path q key) part → (v : Value) × Tells shape (suc n) part v)
      → (es : Entries) × MatchEach (TellsEntry kind shape n) keys (pairs es)
  entries_some [] each spelled inner = (no_entry, tt)
  entries_some (k ∷ keys) each spelled inner =
      let (key, fits, is) = spelled k.0 (inl refl) in
      let (v, told) = inner k.0 k.1 (inl refl) each.0 in
      let (es, alike) = entries_some keys each.1 (λ x i. spelled x (inr i)) (λ x part i its. inner x part (inr i) its) in
      (entry key v es, (((fits, is), told), alike))

-- ---- values

one_deeper : (q : Path) (a : Atom) (n : ℕ) → n ≡ length q → suc n ≡ length (q ++ a ∷ [])
one_deeper q a n same = let e : length (q ++ a ∷ []) ≡ length q + 1 = length-append q (a ∷ []) in omega (arith, e, same)

keys_at : (list : List Atom) (q : Path) (part : List Atom) (n : ℕ) → n ≡ length q → n < 16 → IsPart list q part → HasKeys list q (below_keys n part)
keys_at list q part n same few its = subst (λ m. HasKeys list q (below_keys m part)) (sym same) (key_facts list q part (omega (arith, same, few)) its)

field_at : (list : List Atom) (q : Path) (part : List Atom) (number n : ℕ) → n ≡ length q → n < 16 → IsPart list q part → IsPart list (node_path q number) (below_field n number part)
field_at list q part number n same few its = subst (λ m. IsPart list (node_path q number) (below_field m number part)) (sym same) (field_facts list q part number (omega (arith, same, few)) its)

module _ (list : List Atom) where
  mutual
    pub told : (shape : Shape) (q : Path) (part : List Atom) (n : ℕ) (v : Value) → n ≡ length q → n + levels_under shape ≤ 16 → IsPart list q part → Tells shape n part v → Reads shape (PathsOf list) q v
    told Shape.Taint q part n (Value.Taint on) same room its tells = taint_told (PathsOf list) q (data_of part) (data_facts list q part its) on tells
    told Shape.Taint q part n v same room its tells = absurd tells
    told (Shape.Scalar pick kind) q part n (Value.Scalar own v) same room its tells =
        (tells.0, scalar_told (PathsOf list) q (data_of part) (data_facts list q part its) pick kind v (picked pick (data_of part)) refl tells.1)
    told (Shape.Scalar pick kind) q part n v same room its tells = absurd tells
    told (Shape.Set kind) q part n (Value.Set own vs) same room its tells =
        let has = data_facts list q part its in
        (tells.0, spelled_rise kind (data_of part) vs tells.1 has.rises, spelled_are kind (data_of part) vs (λ x. PathsOf list (q ++ (0 ∷ x) ∷ [])) tells.1 has.holds)
    told (Shape.Set kind) q part n v same room its tells = absurd tells
    told Shape.Counter q part n (Value.Counter counts) same room its tells =
        let has = keys_at list q part n same (omega arith) its in
        let writers = writers_told (below_keys n part) counts tells in (
          subst (Rises atom_cmp) writers has.rises,
          (λ writer. subst (λ ws. IsIn writer ws ↔ PathsOf list (key_path q writer)) writers (has.holds writer)),
          counts_told list q (below_keys n part) counts has.each tells,
        )
    told Shape.Counter q part n v same room its tells = absurd tells
    told (Shape.Map kind shape) q part n (Value.Map es) same room its tells =
        let has = keys_at list q part n same (omega arith) its in
        let alike = keys_alike kind shape n (below_keys n part) (pairs es) tells in (
          spelled_rise kind (keys_of (below_keys n part)) (keys_of (pairs es)) alike has.rises,
          spelled_are kind (keys_of (below_keys n part)) (keys_of (pairs es)) (λ key. PathsOf list (key_path q key)) alike has.holds,
          entries_told list q kind shape n (below_keys n part) (pairs es) has.each tells
              (λ key inner v own t. told shape (key_path q key) inner (suc n) v (one_deeper q (atom_of (Keyed (length q) key)) n same) (omega arith) own t),
        )
    told (Shape.Map kind shape) q part n v same room its tells = absurd tells
    told (Shape.Bag nodes) q part n (Value.Bag vs) same room its tells = each_told nodes q part n vs same room its tells
    told (Shape.Bag nodes) q part n v same room its tells = absurd tells

    each_told : (nodes : Nodes) (q : Path) (part : List Atom) (n : ℕ) (vs : Values) → n ≡ length q → n + levels nodes ≤ 16 → IsPart list q part → TellsEach nodes n part vs → ReadsEach nodes (PathsOf list) q vs
    each_told no_node q part n no_value same room its tells = tt
    each_told no_node q part n (value v vs) same room its tells = absurd tells
    each_told (node name number shape nodes) q part n no_value same room its tells = absurd tells
    each_told (node name number shape nodes) q part n (value v vs) same room its tells = (
      told shape (node_path q number) (below_field n number part) (suc n) v (one_deeper q (atom_of (Indexed (length q) number)) n same) (omega arith) (field_at list q part number n same (omega arith) its) tells.0,
      each_told nodes q part n vs same (omega arith) its tells.1,
    )

  mutual
    pub some_told : (shape : Shape) (q : Path) (part : List Atom) (n : ℕ) → n ≡ length q → n + levels_under shape ≤ 16 → IsPart list q part → IsTyped shape (PathsOf list) q → (v : Value) × Tells shape n part v
    some_told Shape.Taint q part n same room its typed = let (on, known) = taint_some (data_of part) in (Value.Taint on, known)
    some_told (Shape.Scalar pick kind) q part n same room its typed =
        let (v, tells) = scalar_some (PathsOf list) q (data_of part) (data_facts list q part its) pick kind (picked pick (data_of part)) refl typed in
        (Value.Scalar pick v, (refl, tells))
    some_told (Shape.Set kind) q part n same room its typed =
        let (vs, alike) = spelled_some kind (data_of part) (λ x i. typed x (((data_facts list q part its).holds x).0 i)) in
        (Value.Set kind vs, (refl, alike))
    some_told Shape.Counter q part n same room its typed =
        let has = keys_at list q part n same (omega arith) its in
        let (counts, alike) = counts_some list q (below_keys n part) has.each (λ key i payload there. typed key payload ((has.holds key).0 i) there) in
        (Value.Counter counts, alike)
    some_told (Shape.Map kind shape) q part n same room its typed =
        let has = keys_at list q part n same (omega arith) its in
        let (es, alike) = entries_some list q kind shape n (below_keys n part) has.each (λ key i. (typed key ((has.holds key).0 i)).0)
        (λ key inner i own. some_told shape (key_path q key) inner (suc n) (one_deeper q (atom_of (Keyed (length q) key)) n same) (omega arith) own (typed key ((has.holds key).0 i)).1) in
        (Value.Map es, alike)
    some_told (Shape.Bag nodes) q part n same room its typed = let (vs, tells) = each_some nodes q part n same room its typed in (Value.Bag vs, tells)

    each_some : (nodes : Nodes) (q : Path) (part : List Atom) (n : ℕ) → n ≡ length q → n + levels nodes ≤ 16 → IsPart list q part → AreTyped nodes (PathsOf list) q → (vs : Values) × TellsEach nodes n part vs
    each_some no_node q part n same room its typed = (no_value, tt)
    each_some (node name number shape nodes) q part n same room its typed =
        let (v, first) = some_told shape (node_path q number) (below_field n number part) (suc n) (one_deeper q (atom_of (Indexed (length q) number)) n same) (omega arith) (field_at list q part number n same (omega arith) its) typed.0 in
        let (vs, rest) = each_some nodes q part n same (omega arith) its typed.1 in
        (value v vs, (first, rest))
