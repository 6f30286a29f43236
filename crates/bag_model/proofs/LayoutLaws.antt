-- The paths of a layout say the value that was laid out, and are typed.
use Rattle.std.proofs.Common.{◌≡◌, ◌≢◌, ◌⊎◌, inl, inr, ℕ, ◌^◌, ◌<◌, ◌≤◌, true, false, List, [], ◌∷◌, ◌++◌, length, Some, None, Less, Equal, refl, sym, ap, ◌∙◌, subst, append-nil, arith}
use Rattle.std.proofs.lemmas.Cmp.{tied_itself}
use Rattle.context_model.specs.Atoms.{Atom}
use Rattle.context_model.specs.Kinds.{atom_of}
use Rattle.context_model.specs.Kinds.Kind.{Indexed, Keyed}
use Rattle.context_model.specs.Orders.{Path, atom_cmp, IsIn}
use Rattle.context_model.specs.KeyedMerge.{keys_of, IsAt}
use Rattle.context_model.specs.Varints.{unsigned_varint}
use Rattle.context_model.proofs.OrderLaws.{atoms_total}
use Rattle.context_model.proofs.GreedyElements.{All-at}
use Rattle.context_model.proofs.MergeLaws.{EachPair-at, EachPair-from, IsIn-keys_of, IsAt-unique}
use Rattle.context_model.proofs.Meets.{HasValue, value_of_key}
use Rattle.context_model.proofs.MergedLaws.{same_end, HasPaths-unique}
use Rattle.context_model.proofs.VarintLaws.{unsigned_varint-injective}
use Rattle.bag_model.specs.declared.Pick.{Pick}
use Rattle.bag_model.specs.Scalars.{ScalarKind, ScalarValue, scalar_cmp, IsScalarOf, spelling, pick_cmp}
use Rattle.bag_model.specs.Shapes.{Shape, Nodes, Field, fields, Taint, Scalar, Set, Counter, Map, Bag, no_node, node}
use Rattle.bag_model.specs.Tables.{IsShape, AreFields}
use Rattle.bag_model.specs.Values.{Value, Entries, Values, Taint, Scalar, Set, Counter, Map, Bag, no_value, value, pairs, IsOfShape, AreOfShapes}
use Rattle.bag_model.specs.Joins.{IsBottom, AreBottom}
use Rattle.bag_model.specs.Readings.{datum_path, key_path, node_path, HasScalar, HasCount, IsGreatest, HasKey, Reads, ReadsEach, PathsOf}
use Rattle.bag_model.specs.Typed.{IsSpelling, IsTyped, AreTyped}
use Rattle.bag_model.specs.Encodings.{InLayout, InLayouts, IsEncoding, EncodingsReadBack}
use Rattle.bag_model.proofs.ScalarOrder.{scalar_total, pick_total}
use Rattle.bag_model.proofs.SpellingOrder.{spelling-one}
use Rattle.bag_model.proofs.PathSets.{SameBelow, same_step, same_onwards, StandsBelow, below_one}
use Rattle.bag_model.proofs.PathsApart.{datum_one, key_one, key_one-below, node_one-below, longer, nothing_more, first_atom}
use Rattle.bag_model.proofs.Unions.{key_there, key_back, below_key}
use Rattle.bag_model.proofs.OfShape.{IsEntryOf}

-- ---- what a layout can hold

mutual
  -- A path of a layout is below the path of the field.
  pub InLayout-below : (shape : Shape) (q : Path) (v : Value) (p : Path) → InLayout shape q v p → StandsBelow q p
  InLayout-below Taint q (Taint on) p l = (0 ∷ [], [], l.1)
  InLayout-below Taint q v p l = absurd l
  InLayout-below (Scalar pick kind) q (Scalar own (Some v)) p l = (0 ∷ spelling kind v, [], l)
  InLayout-below (Scalar pick kind) q v p l = absurd l
  InLayout-below (Set kind) q (Set own vs) p l = (0 ∷ spelling kind l.0, [], l.2)
  InLayout-below (Set kind) q v p l = absurd l
  InLayout-below Counter q (Counter counts) p l =
      elim l.3 [ inl e ↦ (atom_of (Keyed (length q) l.0), [], e) | inr e ↦ below_one q p (atom_of (Keyed (length q) l.0)) (0 ∷ unsigned_varint l.1, [], e) ]
  InLayout-below Counter q v p l = absurd l
  InLayout-below (Map kind shape) q (Map es) p l =
      elim l.3 [
        | inl e ↦ (atom_of (Keyed (length q) (spelling kind l.0)), [], e)
        | inr d ↦ below_one q p (atom_of (Keyed (length q) (spelling kind l.0))) (InLayout-below shape (key_path q (spelling kind l.0)) l.1 p d)
      ]
  InLayout-below (Map kind shape) q v p l = absurd l
  InLayout-below (Bag nodes) q (Bag vs) p l = InLayouts-below nodes q vs p l
  InLayout-below (Bag nodes) q v p l = absurd l

  pub InLayouts-below : (nodes : Nodes) (q : Path) (vs : Values) (p : Path) → InLayouts nodes q vs p → StandsBelow q p
  InLayouts-below no_node q vs p l = absurd l
  InLayouts-below (node name number shape nodes) q no_value p l = absurd l
  InLayouts-below (node name number shape nodes) q (value v vs) p (inl l) =
      elim l.1 [
        | inl e ↦ (atom_of (Indexed (length q) number), [], e)
        | inr d ↦ below_one q p (atom_of (Indexed (length q) number)) (InLayout-below shape (node_path q number) v p d)
      ]
  InLayouts-below (node name number shape nodes) q (value v vs) p (inr l) = InLayouts-below nodes q vs p l

mutual
  -- The layout of bottom is empty.
  pub InLayout-bottom : (shape : Shape) (q : Path) (v : Value) (p : Path) → IsBottom v → InLayout shape q v p → ⊥
  InLayout-bottom Taint q (Taint on) p b l = let clash : true ≡ false = sym l.0 ∙ b in cc
  InLayout-bottom Taint q v p b l = absurd l
  InLayout-bottom (Scalar pick kind) q (Scalar own (Some v)) p b l = cc b
  InLayout-bottom (Scalar pick kind) q v p b l = absurd l
  InLayout-bottom (Set kind) q (Set own vs) p b l = subst (IsIn l.0) b l.1
  InLayout-bottom (Set kind) q v p b l = absurd l
  InLayout-bottom Counter q (Counter counts) p b l = subst (IsAt l.0 l.1) b l.2
  InLayout-bottom Counter q v p b l = absurd l
  InLayout-bottom (Map kind shape) q (Map es) p b l = subst (λ e. IsAt l.0 l.1 (pairs e)) b l.2
  InLayout-bottom (Map kind shape) q v p b l = absurd l
  InLayout-bottom (Bag nodes) q (Bag vs) p b l = InLayouts-bottom nodes q vs p b l
  InLayout-bottom (Bag nodes) q v p b l = absurd l

  pub InLayouts-bottom : (nodes : Nodes) (q : Path) (vs : Values) (p : Path) → AreBottom vs → InLayouts nodes q vs p → ⊥
  InLayouts-bottom no_node q vs p b l = l
  InLayouts-bottom (node name number shape nodes) q no_value p b l = l
  InLayouts-bottom (node name number shape nodes) q (value v vs) p b (inl l) = l.0 b.0
  InLayouts-bottom (node name number shape nodes) q (value v vs) p b (inr l) = InLayouts-bottom nodes q vs p b.1 l

-- ---- the fields of a bag are apart

-- A number of 16 bits is one of 64.
pub number_wide : (n : ℕ) → n < 2 ^ 16 → n < 2 ^ 64
number_wide n l = omega arith

pub field_wide : (nodes : Nodes) (f : Field) → AreFields nodes → IsIn f (fields nodes) → f.number < 2 ^ 64
field_wide no_node f w none = elim none [ ]
field_wide (node name number shape nodes) f w (inl e) = subst (λ n. n < 2 ^ 64) (sym (ap (λ (x : Field). x.number) e)) (number_wide number w.1)
field_wide (node name number shape nodes) f w (inr i) = field_wide nodes f w.4 i

-- A later field has a greater number.
pub field_later : (name : List ℕ) (number : ℕ) (shape : Shape) (nodes : Nodes) (f : Field) → AreFields (node name number shape nodes) → IsIn f (fields nodes) → number < f.number
field_later name number shape nodes f w i = (All-at (λ (other : Field). (number < other.number) × (name ≢ other.name)) (fields nodes) f w.3 i).0

-- There is nothing below both of two fields.
pub fields_apart : (name : List ℕ) (number : ℕ) (shape : Shape) (nodes : Nodes) → AreFields (node name number shape nodes) → (q : Path) (f : Field) → IsIn f (fields nodes)
    → (r s : Path) → node_path q number ++ r ≡ node_path q f.number ++ s → ⊥
fields_apart name number shape nodes w q f i r s e =
    let same : number ≡ f.number = node_one-below q number f.number r s (number_wide number w.1) (field_wide nodes f w.4 i) e in
    let less : number < f.number = field_later name number shape nodes f w i in
    omega arith

-- A path of a bag's layout is at one of its fields, or below it.
InLayouts-under : (nodes : Nodes) (q : Path) (vs : Values) (p : Path) → InLayouts nodes q vs p → (f : Field) × IsIn f (fields nodes) × (r : Path) × (p ≡ node_path q f.number ++ r)
InLayouts-under no_node q vs p l = absurd l
InLayouts-under (node name number shape nodes) q no_value p l = absurd l
InLayouts-under (node name number shape nodes) q (value v vs) p (inl l) =
    elim l.1 [
      | inl e ↦ (record { name = name; number = number; shape = shape }, inl refl, [], e ∙ sym (append-nil (node_path q number)))
      | inr d ↦ let s = InLayout-below shape (node_path q number) v p d in (record { name = name; number = number; shape = shape }, inl refl, s.0 ∷ s.1, s.2)
    ]
InLayouts-under (node name number shape nodes) q (value v vs) p (inr l) = let s = InLayouts-under nodes q vs p l in (s.0, inr s.1, s.2, s.3)

module _ (name : List ℕ) (number : ℕ) (shape : Shape) (nodes : Nodes) (w : AreFields (node name number shape nodes)) (q : Path) (v : Value) (vs : Values) where
  apart : (f : Field) → IsIn f (fields nodes) → (r s : Path) → node_path q number ++ r ≡ node_path q f.number ++ s → ⊥
  apart f i r s e = fields_apart name number shape nodes w q f i r s e

  -- Below the first field is its own layout alone,
  pub own_field : SameBelow (node_path q number) (InLayouts (node name number shape nodes) q (value v vs)) (InLayout shape (node_path q number) v)
  own_field = ((λ p b bytes l. there p b bytes l), λ p b bytes l. inl ((λ is. InLayout-bottom shape (node_path q number) v (node_path q number ++ (p ++ (b ∷ bytes) ∷ [])) is l), inr l))
    where
      there : (p : Path) (b : ℕ) (bytes : List ℕ) → InLayouts (node name number shape nodes) q (value v vs) (node_path q number ++ (p ++ (b ∷ bytes) ∷ []))
          → InLayout shape (node_path q number) v (node_path q number ++ (p ++ (b ∷ bytes) ∷ []))
      there p b bytes (inl l) = elim l.1 [ inl e ↦ absurd (nothing_more (node_path q number) p (b ∷ bytes) e) | inr d ↦ d ]
      there p b bytes (inr l) =
          let s = InLayouts-under nodes q vs (node_path q number ++ (p ++ (b ∷ bytes) ∷ [])) l in
          absurd (apart s.0 s.1 (p ++ (b ∷ bytes) ∷ []) s.2 s.3)

  -- and below another field nothing of the first.
  pub other_field : (f : Field) → IsIn f (fields nodes) → SameBelow (node_path q f.number) (InLayouts (node name number shape nodes) q (value v vs)) (InLayouts nodes q vs)
  other_field f i = ((λ p b bytes l. there p b bytes l), λ p b bytes l. inr l)
    where
      there : (p : Path) (b : ℕ) (bytes : List ℕ) → InLayouts (node name number shape nodes) q (value v vs) (node_path q f.number ++ (p ++ (b ∷ bytes) ∷ []))
          → InLayouts nodes q vs (node_path q f.number ++ (p ++ (b ∷ bytes) ∷ []))
      there p b bytes (inl l) =
          elim l.1 [
            | inl e ↦ absurd (apart f i [] (p ++ (b ∷ bytes) ∷ []) (append-nil (node_path q number) ∙ sym e))
            | inr d ↦ let s = InLayout-below shape (node_path q number) v (node_path q f.number ++ (p ++ (b ∷ bytes) ∷ [])) d in absurd (apart f i (s.0 ∷ s.1) (p ++ (b ∷ bytes) ∷ []) (sym s.2))
          ]
      there p b bytes (inr l) = l

-- ---- the keys of a map are apart

module _ (kind : ScalarKind) (shape : Shape) (q : Path) (es : Entries) (p : IsOfShape (Map kind shape) (Map es)) where
  -- Each entry is of its kind and shape.
  pub entry_fits : (k : ScalarValue) (v : Value) → IsAt k v (pairs es) → IsEntryOf kind shape k v
  entry_fits k v at = EachPair-at (IsEntryOf kind shape) (pairs es) k v p.1 at

  -- Below a key is the layout of its value alone.
  pub own_key : (k : ScalarValue) (v : Value) → IsAt k v (pairs es) → SameBelow (key_path q (spelling kind k)) (InLayout (Map kind shape) q (Map es)) (InLayout shape (key_path q (spelling kind k)) v)
  own_key k v at = ((λ r b bytes l. there r b bytes l), λ r b bytes l. (k, v, at, inr l))
    where
      path : Path
      path = key_path q (spelling kind k)

      one : (j : ScalarValue) (w : Value) (x : Path) → IsAt j w (pairs es) → spelling kind k ≡ spelling kind j → InLayout shape (key_path q (spelling kind j)) w x → InLayout shape path v x
      one j w x s e d =
          let keys : k ≡ j = spelling-one kind k j (entry_fits k v at).0 (entry_fits j w s).0 e in
          let values : w ≡ v = IsAt-unique scalar_cmp scalar_total (pairs es) k w v p.0 (subst (λ i. IsAt i w (pairs es)) (sym keys) s) at in
          subst (λ u. InLayout shape path u x) values (subst (λ i. InLayout shape (key_path q i) w x) (sym e) d)

      there : (r : Path) (b : ℕ) (bytes : List ℕ) → InLayout (Map kind shape) q (Map es) (path ++ (r ++ (b ∷ bytes) ∷ [])) → InLayout shape path v (path ++ (r ++ (b ∷ bytes) ∷ []))
      there r b bytes l = by l.3
        where
          by : (path ++ (r ++ (b ∷ bytes) ∷ []) ≡ key_path q (spelling kind l.0)) ⊎ InLayout shape (key_path q (spelling kind l.0)) l.1 (path ++ (r ++ (b ∷ bytes) ∷ []))
              → InLayout shape path v (path ++ (r ++ (b ∷ bytes) ∷ []))
          by (inl e) =
              let f = first_atom r (b ∷ bytes) in
              absurd (longer q f.1 (atom_of (Keyed (length q) (spelling kind l.0))) (atom_of (Keyed (length q) (spelling kind k))) f.0 (sym e ∙ ap (λ x. path ++ x) f.2))
          by (inr d) =
              let s = InLayout-below shape (key_path q (spelling kind l.0)) l.1 (path ++ (r ++ (b ∷ bytes) ∷ [])) d in
              one l.0 l.1 (path ++ (r ++ (b ∷ bytes) ∷ [])) l.2 (key_one-below q (spelling kind k) (spelling kind l.0) (r ++ (b ∷ bytes) ∷ []) (s.0 ∷ s.1) s.2) d

  -- A key of the layout is that of an entry.
  pub key_of_layout : (key : List ℕ) → InLayout (Map kind shape) q (Map es) (key_path q key) → (k : ScalarValue) × (v : Value) × IsAt k v (pairs es) × (key ≡ spelling kind k)
  key_of_layout key l = (l.0, l.1, l.2, by l.3)
    where
      by : (key_path q key ≡ key_path q (spelling kind l.0)) ⊎ InLayout shape (key_path q (spelling kind l.0)) l.1 (key_path q key) → key ≡ spelling kind l.0
      by (inl e) = key_one q key (spelling kind l.0) e
      by (inr d) =
          let s = InLayout-below shape (key_path q (spelling kind l.0)) l.1 (key_path q key) d in
          absurd (longer q s.1 (atom_of (Keyed (length q) key)) (atom_of (Keyed (length q) (spelling kind l.0))) s.0 s.2)

-- ---- and the writers of a counter

module _ (q : Path) (counts : List (List ℕ × ℕ)) where
  -- A key of the layout is that of a writer.
  pub writer_of_layout : (w : List ℕ) → InLayout Counter q (Counter counts) (key_path q w) → IsIn w (keys_of counts)
  writer_of_layout w l = by l.3
    where
      by : (key_path q w ≡ key_path q l.0) ⊎ (key_path q w ≡ datum_path (key_path q l.0) (unsigned_varint l.1)) → IsIn w (keys_of counts)
      by (inl e) = subst (λ x. IsIn x (keys_of counts)) (sym (key_one q w l.0 e)) (IsIn-keys_of counts l.0 l.1 l.2)
      by (inr e) = absurd (longer q [] (atom_of (Keyed (length q) w)) (atom_of (Keyed (length q) l.0)) (0 ∷ unsigned_varint l.1) e)

  -- A datum below a key is the writer's count.
  pub count_of_layout : (w payload : List ℕ) → InLayout Counter q (Counter counts) (datum_path (key_path q w) payload) → (n : ℕ) × IsAt w n counts × (payload ≡ unsigned_varint n)
  count_of_layout w payload l = by l.3
    where
      by : (datum_path (key_path q w) payload ≡ key_path q l.0) ⊎ (datum_path (key_path q w) payload ≡ datum_path (key_path q l.0) (unsigned_varint l.1)) → (n : ℕ) × IsAt w n counts × (payload ≡ unsigned_varint n)
      by (inl e) = absurd (longer q [] (atom_of (Keyed (length q) l.0)) (atom_of (Keyed (length q) w)) (0 ∷ payload) (sym e))
      by (inr e) =
          let ends = same_end (key_path q w) (key_path q l.0) (0 ∷ payload) (0 ∷ unsigned_varint l.1) e in
          let bytes : payload ≡ unsigned_varint l.1 = tails payload (unsigned_varint l.1) ends.1 in
          (l.1, subst (λ x. IsAt x l.1 counts) (sym (key_one q w l.0 ends.0)) l.2, bytes)
        where
          tails : (x y : List ℕ) → 0 ∷ x ≡ 0 ∷ y → x ≡ y
          tails x y f = cc

-- ---- reading a layout

layout_taint : (P : Path → Type 0) (q : Path) (v : Value) → IsOfShape Taint v → SameBelow q P (InLayout Taint q v) → Reads Taint P q v
layout_taint P q (Taint on) p s = ((λ t. ([], s.1 [] 0 [] (t, refl))), λ d. (s.0 [] 0 d.0 d.1).0)
layout_taint P q v p s = absurd p

layout_scalar : (pick : Pick) (kind : ScalarKind) (P : Path → Type 0) (q : Path) (v : Value) → IsOfShape (Scalar pick kind) v → SameBelow q P (InLayout (Scalar pick kind) q v) → Reads (Scalar pick kind) P q v
layout_scalar pick kind P q (Scalar own None) p s = (p, λ w h. s.0 [] 0 (spelling kind w) h.1)
layout_scalar pick kind P q (Scalar own (Some v)) p s = (p.0, ((p.1, s.1 [] 0 (spelling kind v) refl), λ w h l. by w h l))
  where
    by : (w : ScalarValue) → HasScalar kind P q w → pick_cmp pick w v ≡ Less → ⊥
    by w h l =
        let same : w ≡ v = spelling-one kind w v h.0 p.1 (datum_one q (spelling kind w) (spelling kind v) (s.0 [] 0 (spelling kind w) h.1)) in
        let tie : pick_cmp pick w v ≡ Equal = ap (λ x. pick_cmp pick x v) same ∙ tied_itself (pick_total pick) v in
        let clash : Less ≡ Equal = sym l ∙ tie in
        cc
layout_scalar pick kind P q v p s = absurd p

layout_set : (kind : ScalarKind) (P : Path → Type 0) (q : Path) (v : Value) → IsOfShape (Set kind) v → SameBelow q P (InLayout (Set kind) q v) → Reads (Set kind) P q v
layout_set kind P q (Set own vs) p s = (p.0, p.1, λ v. ((λ i. (fits v i, s.1 [] 0 (spelling kind v) (v, i, refl))), λ h. back v h (s.0 [] 0 (spelling kind v) h.1)))
  where
    fits : (v : ScalarValue) → IsIn v vs → IsScalarOf kind v
    fits v i = All-at (IsScalarOf kind) vs v p.2 i

    back : (v : ScalarValue) → HasScalar kind P q v → InLayout (Set kind) q (Set own vs) (datum_path q (spelling kind v)) → IsIn v vs
    back v h l = subst (λ x. IsIn x vs) (sym (spelling-one kind v l.0 h.0 (fits l.0 l.1) (datum_one q (spelling kind v) (spelling kind l.0) l.2))) l.1
layout_set kind P q v p s = absurd p

layout_counter : (P : Path → Type 0) (q : Path) (v : Value) → IsOfShape Counter v → SameBelow q P (InLayout Counter q v) → Reads Counter P q v
layout_counter P q (Counter counts) p s = (
  p.0,
  λ w. ((λ i. let a : HasValue w counts = value_of_key counts w i in key_back P (InLayout Counter q (Counter counts)) q s w (w, a.value, a.at, inl refl)), λ i. writer_of_layout q counts w (key_there P (InLayout Counter q (Counter counts)) q s w i)),
  EachPair-from (λ w n. IsGreatest P (key_path q w) n) counts (λ w n at. greatest w n at),
)
  where
    small : (w : List ℕ) (n : ℕ) → IsAt w n counts → n < 2 ^ 64
    small w n at = EachPair-at (λ w n. n < 2 ^ 64) counts w n p.1 at

    greatest : (w : List ℕ) (n : ℕ) → IsAt w n counts → IsGreatest P (key_path q w) n
    greatest w n at = (inl (small w n at, k.1 [] 0 (unsigned_varint n) (w, n, at, inr refl)), λ m h. most m h (count_of_layout q counts w (unsigned_varint m) (k.0 [] 0 (unsigned_varint m) h.1)))
      where
        k : SameBelow (key_path q w) P (InLayout Counter q (Counter counts))
        k = below_key P (InLayout Counter q (Counter counts)) q s w

        most : (m : ℕ) → HasCount P (key_path q w) m → (o : ℕ) × IsAt w o counts × (unsigned_varint m ≡ unsigned_varint o) → m ≤ n
        most m h o =
            let counts_one : o.0 ≡ n = IsAt-unique atom_cmp atoms_total counts w o.0 n p.0 o.1 at in
            let same : m ≡ o.0 = unsigned_varint-injective m o.0 h.0 (small w o.0 o.1) o.2 in
            omega arith
layout_counter P q v p s = absurd p

layout_map : (kind : ScalarKind) (shape : Shape) (P : Path → Type 0) (q : Path) (v : Value) → IsOfShape (Map kind shape) v → SameBelow q P (InLayout (Map kind shape) q v)
    → ((key : List ℕ) (v : Value) → IsOfShape shape v → SameBelow (key_path q key) P (InLayout shape (key_path q key) v) → Reads shape P (key_path q key) v)
    → Reads (Map kind shape) P q v
layout_map kind shape P q (Map es) p s below = (
  p.0,
  λ k. ((λ i. let a : HasValue k (pairs es) = value_of_key (pairs es) k i in ((entry_fits kind shape q es p k a.value a.at).0, key_back P L q s (spelling kind k) (k, a.value, a.at, inl refl))), λ h. back k h (key_of_layout kind shape q es p (spelling kind k) (key_there P L q s (spelling kind k) h.1))),
  EachPair-from (λ k v. Reads shape P (key_path q (spelling kind k)) v) (pairs es)
      (λ k v at. below (spelling kind k) v (entry_fits kind shape q es p k v at).1
      (same_onwards (key_path q (spelling kind k)) P L (InLayout shape (key_path q (spelling kind k)) v) (below_key P L q s (spelling kind k)) (own_key kind shape q es p k v at))),
)
  where
    L : Path → Type 0
    L = InLayout (Map kind shape) q (Map es)

    back : (k : ScalarValue) → HasKey kind P q k → (j : ScalarValue) × (v : Value) × IsAt j v (pairs es) × (spelling kind k ≡ spelling kind j) → IsIn k (keys_of (pairs es))
    back k h j = subst (λ x. IsIn x (keys_of (pairs es))) (sym (spelling-one kind k j.0 h.0 (entry_fits kind shape q es p j.0 j.1 j.2).0 j.3)) (IsIn-keys_of (pairs es) j.0 j.1 j.2)
layout_map kind shape P q v p s below = absurd p

mutual
  -- Paths that are those of a layout, below the path of the field, say the value.
  pub Reads-layout : (shape : Shape) (P : Path → Type 0) (q : Path) (v : Value) → IsShape shape → IsOfShape shape v → SameBelow q P (InLayout shape q v) → Reads shape P q v
  Reads-layout Taint P q v w p s = layout_taint P q v p s
  Reads-layout (Scalar pick kind) P q v w p s = layout_scalar pick kind P q v p s
  Reads-layout (Set kind) P q v w p s = layout_set kind P q v p s
  Reads-layout Counter P q v w p s = layout_counter P q v p s
  Reads-layout (Map kind shape) P q v w p s = layout_map kind shape P q v p s (λ key u t d. Reads-layout shape P (key_path q key) u w.1 t d)
  Reads-layout (Bag nodes) P q (Bag vs) w p s =
      ReadsEach-layout nodes P q vs w p (λ f i. same_step q (atom_of (Indexed (length q) f.number)) P (InLayouts nodes q vs) s)
  Reads-layout (Bag nodes) P q v w p s = absurd p

  pub ReadsEach-layout : (nodes : Nodes) (P : Path → Type 0) (q : Path) (vs : Values) → AreFields nodes → AreOfShapes nodes vs
      → ((f : Field) → IsIn f (fields nodes) → SameBelow (node_path q f.number) P (InLayouts nodes q vs)) → ReadsEach nodes P q vs
  ReadsEach-layout no_node P q no_value w p s = tt
  ReadsEach-layout no_node P q (value v vs) w p s = absurd p
  ReadsEach-layout (node name number shape nodes) P q (value v vs) w p s = (
    Reads-layout shape P (node_path q number) v w.2 p.0
        (same_onwards (node_path q number) P (InLayouts (node name number shape nodes) q (value v vs)) (InLayout shape (node_path q number) v) (s (record { name = name; number = number; shape = shape }) (inl refl)) (own_field name number shape nodes w q v vs)),
    ReadsEach-layout nodes P q vs w.4 p.1
        (λ f i. same_onwards (node_path q f.number) P (InLayouts (node name number shape nodes) q (value v vs)) (InLayouts nodes q vs) (s f (inr i)) (other_field name number shape nodes w q v vs f i)),
  )
  ReadsEach-layout (node name number shape nodes) P q no_value w p s = absurd p

-- ---- a layout is typed

typed_map : (kind : ScalarKind) (shape : Shape) (P : Path → Type 0) (q : Path) (v : Value) → IsOfShape (Map kind shape) v → SameBelow q P (InLayout (Map kind shape) q v)
    → ((key : List ℕ) (v : Value) → IsOfShape shape v → SameBelow (key_path q key) P (InLayout shape (key_path q key) v) → IsTyped shape P (key_path q key))
    → IsTyped (Map kind shape) P q
typed_map kind shape P q (Map es) p s below = λ key i. by key (key_of_layout kind shape q es p key (key_there P L q s key i))
  where
    L : Path → Type 0
    L = InLayout (Map kind shape) q (Map es)

    by : (key : List ℕ) → (k : ScalarValue) × (v : Value) × IsAt k v (pairs es) × (key ≡ spelling kind k) → IsSpelling kind key × IsTyped shape P (key_path q key)
    by key k = (
      (k.0, (entry_fits kind shape q es p k.0 k.1 k.2).0, k.3),
      subst (λ x. IsTyped shape P (key_path q x)) (sym k.3)
          (below (spelling kind k.0) k.1 (entry_fits kind shape q es p k.0 k.1 k.2).1
          (same_onwards (key_path q (spelling kind k.0)) P L (InLayout shape (key_path q (spelling kind k.0)) k.1) (below_key P L q s (spelling kind k.0)) (own_key kind shape q es p k.0 k.1 k.2))),
    )
typed_map kind shape P q v p s below = absurd p

typed_counter : (P : Path → Type 0) (q : Path) (v : Value) → IsOfShape Counter v → SameBelow q P (InLayout Counter q v) → IsTyped Counter P q
typed_counter P q (Counter counts) p s = λ w payload i j.
    let c = count_of_layout q counts w payload ((below_key P (InLayout Counter q (Counter counts)) q s w).0 [] 0 payload j) in
    (c.0, EachPair-at (λ w n. n < 2 ^ 64) counts w c.0 p.1 c.1, c.2)
typed_counter P q v p s = absurd p

typed_scalar : (pick : Pick) (kind : ScalarKind) (P : Path → Type 0) (q : Path) (v : Value) → IsOfShape (Scalar pick kind) v → SameBelow q P (InLayout (Scalar pick kind) q v) → IsTyped (Scalar pick kind) P q
typed_scalar pick kind P q (Scalar own None) p s = λ payload i. absurd (s.0 [] 0 payload i)
typed_scalar pick kind P q (Scalar own (Some v)) p s = λ payload i. (v, p.1, datum_one q payload (spelling kind v) (s.0 [] 0 payload i))
typed_scalar pick kind P q v p s = absurd p

typed_set : (kind : ScalarKind) (P : Path → Type 0) (q : Path) (v : Value) → IsOfShape (Set kind) v → SameBelow q P (InLayout (Set kind) q v) → IsTyped (Set kind) P q
typed_set kind P q (Set own vs) p s = λ payload i. let l = s.0 [] 0 payload i in (l.0, All-at (IsScalarOf kind) vs l.0 p.2 l.1, datum_one q payload (spelling kind l.0) l.2)
typed_set kind P q v p s = absurd p

typed_taint : (P : Path → Type 0) (q : Path) (v : Value) → IsOfShape Taint v → SameBelow q P (InLayout Taint q v) → IsTyped Taint P q
typed_taint P q (Taint on) p s = λ payload i. datum_one q payload [] (s.0 [] 0 payload i).1
typed_taint P q v p s = absurd p

mutual
  pub IsTyped-layout : (shape : Shape) (P : Path → Type 0) (q : Path) (v : Value) → IsShape shape → IsOfShape shape v → SameBelow q P (InLayout shape q v) → IsTyped shape P q
  IsTyped-layout Taint P q v w p s = typed_taint P q v p s
  IsTyped-layout (Scalar pick kind) P q v w p s = typed_scalar pick kind P q v p s
  IsTyped-layout (Set kind) P q v w p s = typed_set kind P q v p s
  IsTyped-layout Counter P q v w p s = typed_counter P q v p s
  IsTyped-layout (Map kind shape) P q v w p s = typed_map kind shape P q v p s (λ key u t d. IsTyped-layout shape P (key_path q key) u w.1 t d)
  IsTyped-layout (Bag nodes) P q (Bag vs) w p s =
      AreTyped-layout nodes P q vs w p (λ f i. same_step q (atom_of (Indexed (length q) f.number)) P (InLayouts nodes q vs) s)
  IsTyped-layout (Bag nodes) P q v w p s = absurd p

  pub AreTyped-layout : (nodes : Nodes) (P : Path → Type 0) (q : Path) (vs : Values) → AreFields nodes → AreOfShapes nodes vs
      → ((f : Field) → IsIn f (fields nodes) → SameBelow (node_path q f.number) P (InLayouts nodes q vs)) → AreTyped nodes P q
  AreTyped-layout no_node P q vs w p s = tt
  AreTyped-layout (node name number shape nodes) P q (value v vs) w p s = (
    IsTyped-layout shape P (node_path q number) v w.2 p.0
        (same_onwards (node_path q number) P (InLayouts (node name number shape nodes) q (value v vs)) (InLayout shape (node_path q number) v) (s (record { name = name; number = number; shape = shape }) (inl refl)) (own_field name number shape nodes w q v vs)),
    AreTyped-layout nodes P q vs w.4 p.1
        (λ f i. same_onwards (node_path q f.number) P (InLayouts (node name number shape nodes) q (value v vs)) (InLayouts nodes q vs) (s f (inr i)) (other_field name number shape nodes w q v vs f i)),
  )
  AreTyped-layout (node name number shape nodes) P q no_value w p s = absurd p

-- ---- encodings

encoded_same : (nodes : Nodes) (vs : Values) (list : List Atom) → IsEncoding nodes vs list → (q : Path) → SameBelow q (PathsOf list) (InLayouts nodes [] vs)
encoded_same nodes vs list e q = ((λ p b bytes i. (e.exact (q ++ (p ++ (b ∷ bytes) ∷ []))).0 i), λ p b bytes l. (e.exact (q ++ (p ++ (b ∷ bytes) ∷ []))).1 l)

pub encodings_read_back : EncodingsReadBack
encodings_read_back = record {
  typed = λ nodes vs list e. AreTyped-layout nodes (PathsOf list) [] vs (e.table).well_formed e.shapes (λ f i. encoded_same nodes vs list e.encoding (node_path [] f.number));
  reads = λ nodes vs list e. ReadsEach-layout nodes (PathsOf list) [] vs (e.table).well_formed e.shapes (λ f i. encoded_same nodes vs list e.encoding (node_path [] f.number));
  one = λ nodes vs a b f g. HasPaths-unique (InLayouts nodes [] vs) a b f g;
}
