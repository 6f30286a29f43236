-- What typed paths say under shapes that fit agrees.
use Rattle.std.proofs.Common.{◌≡◌, inl, inr, ◌↔◌, ℕ, List, Option, Some, None, Ordering, refl, sym, ◌∙◌, subst}
use Rattle.context_model.specs.Orders.{Path, IsIn}
use Rattle.context_model.specs.KeyedMerge.{keys_of, IsAt}
use Rattle.context_model.proofs.GreedyElements.{Rises-unique}
use Rattle.context_model.proofs.MergeLaws.{EachPair-at, EachPair-from, IsIn-keys_of}
use Rattle.bag_model.specs.declared.Pick.{Pick}
use Rattle.bag_model.specs.Scalars.{ScalarKind, ScalarValue, scalar_cmp, pick_cmp, spelling}
use Rattle.bag_model.specs.Shapes.{Shape, Nodes, Field, Taint, Scalar, Set, Counter, Map, Bag, no_node, node, fields}
use Rattle.bag_model.specs.Values.{Value, Values, Taint, Scalar, Set, Counter, Map, Bag, no_value, value, pairs}
use Rattle.bag_model.specs.Readings.{datum_path, key_path, node_path, HasScalar, HasKey, IsFirst, Reads, ReadsEach}
use Rattle.bag_model.specs.Typed.{IsTyped, AreTyped}
use Rattle.bag_model.proofs.ScalarOrder.{scalar_total, pick_total, pick_exact}
use Rattle.bag_model.proofs.Uniqueness.{IsFirst-unique, Reads-unique}
use Rattle.def_evolve.specs.Widening.{Widens}
use Rattle.def_evolve.specs.Breaks.{Fits}
use Rattle.def_evolve.specs.Agreement.{HasField, Agree, AgreeEach}
use Rattle.def_evolve.proofs.Wider.{same_values, wider_kinds_spell_alike}
use Rattle.def_evolve.proofs.Fitting.{FieldsFit, fits_inside}

-- ---- scalars and sets

first_same : (R : ScalarValue → ScalarValue → Ordering) (kind wider : ScalarKind) (P : Path → Type 0) (q : Path) (o : Option ScalarValue)
    → ((v : ScalarValue) → HasScalar kind P q v ↔ HasScalar wider P q v) → IsFirst R wider P q o → IsFirst R kind P q o
first_same R kind wider P q None same f = λ w h. f w ((same w).0 h)
first_same R kind wider P q (Some v) same f = ((same v).1 f.0, λ w h. f.1 w ((same w).0 h))

agree_scalar : (pick own : Pick) (kind wider : ScalarKind) (P : Path → Type 0) (q : Path) → own ≡ pick → Widens kind wider → IsTyped (Scalar pick kind) P q
    → (v w : Value) → Reads (Scalar pick kind) P q v → Reads (Scalar own wider) P q w → v ≡ w
agree_scalar pick own kind wider P q e up t (Scalar k a) (Scalar l b) r s =
    let picks : k ≡ l = r.0 ∙ sym e ∙ sym s.0 in
    let first : IsFirst (pick_cmp pick) wider P q b = subst (λ p. IsFirst (pick_cmp p) wider P q b) e s.1 in
    let same = same_values kind wider (λ bytes. P (datum_path q bytes)) up t in
    let items : a ≡ b = IsFirst-unique (pick_cmp pick) (pick_total pick) (pick_exact pick) kind P q a b r.1 (first_same (pick_cmp pick) kind wider P q b same first) in
    λ i. Scalar (picks i) (items i)
agree_scalar pick own kind wider P q e up t (Scalar k a) w r s = absurd s
agree_scalar pick own kind wider P q e up t v w r s = absurd r

agree_set : (kind wider : ScalarKind) (P : Path → Type 0) (q : Path) → Widens kind wider → IsTyped (Set kind) P q
    → (v w : Value) → Reads (Set kind) P q v → Reads (Set wider) P q w → Agree (Set kind) (Set wider) v w
agree_set kind wider P q up t (Set k a) (Set l b) r s =
    let same = same_values kind wider (λ bytes. P (datum_path q bytes)) up t in
    Rises-unique scalar_cmp scalar_total a b r.1 s.1 (λ v. ((λ i. (s.2 v).1 ((same v).0 ((r.2 v).0 i))), λ i. (r.2 v).1 ((same v).1 ((s.2 v).0 i))))
agree_set kind wider P q up t (Set k a) w r s = absurd s
agree_set kind wider P q up t v w r s = absurd r

-- ---- maps

agree_map : (kind wider : ScalarKind) (shape more : Shape) (P : Path → Type 0) (q : Path) → Widens kind wider → IsTyped (Map kind shape) P q
    → ((key : List ℕ) → IsTyped shape P (key_path q key) → (v w : Value) → Reads shape P (key_path q key) v → Reads more P (key_path q key) w → Agree shape more v w)
    → (v w : Value) → Reads (Map kind shape) P q v → Reads (Map wider more) P q w → Agree (Map kind shape) (Map wider more) v w
agree_map kind wider shape more P q up t below (Map es) (Map fs) r s = (keys, EachPair-from (λ key v. (w : Value) → IsAt key w (pairs fs) → Agree shape more v w) (pairs es) each)
  where
    same : (key : ScalarValue) → HasKey kind P q key ↔ HasKey wider P q key
    same key = same_values kind wider (λ bytes. P (key_path q bytes)) up (λ bytes i. (t bytes i).0) key

    keys : keys_of (pairs es) ≡ keys_of (pairs fs)
    keys = Rises-unique scalar_cmp scalar_total (keys_of (pairs es)) (keys_of (pairs fs)) r.0 s.0
        (λ k. ((λ i. (s.1 k).1 ((same k).0 ((r.1 k).0 i))), λ i. (r.1 k).1 ((same k).1 ((s.1 k).0 i))))

    each : (key : ScalarValue) (v : Value) → IsAt key v (pairs es) → (w : Value) → IsAt key w (pairs fs) → Agree shape more v w
    each key v at w also =
        let has : HasKey kind P q key = (r.1 key).0 (IsIn-keys_of (pairs es) key v at) in
        let spelled : spelling wider key ≡ spelling kind key = wider_kinds_spell_alike.spellings kind wider key up has.0 in
        below (spelling kind key) (t (spelling kind key) has.1).1 v w
        (EachPair-at (λ k x. Reads shape P (key_path q (spelling kind k)) x) (pairs es) key v r.2 at)
        (subst (λ bytes. Reads more P (key_path q bytes) w) spelled (EachPair-at (λ k x. Reads more P (key_path q (spelling wider k)) x) (pairs fs) key w s.2 also))
agree_map kind wider shape more P q up t below (Map es) w r s = absurd s
agree_map kind wider shape more P q up t below v w r s = absurd r

-- ---- bags

-- a field of a bag, and that its value is read there
record IsReadField (others : Nodes) (P : Path → Type 0) (q : Path) (number : ℕ) (shape : Shape) (w : Value) : Type 0 where
  field : Field
  there : IsIn field (fields others)
  numbered : field.number ≡ number
  shaped : field.shape ≡ shape
  reads : Reads shape P (node_path q number) w

field_read : (others : Nodes) (P : Path → Type 0) (q : Path) (ws : Values) (number : ℕ) (shape : Shape) (w : Value) → ReadsEach others P q ws → HasField others ws number shape w → IsReadField others P q number shape w
field_read no_node P q ws number shape w r h = absurd h
field_read (node name own other nodes) P q no_value number shape w r h = absurd h
field_read (node name own other nodes) P q (value u ws) number shape w r (inl h) = record {
  field = record { name = name; number = own; shape = other };
  there = inl refl;
  numbered = h.0;
  shaped = h.1;
  reads = subst (λ n. Reads shape P (node_path q n) w) h.0 (subst (λ (s : Shape). Reads s P (node_path q own) w) h.1 (subst (Reads other P (node_path q own)) h.2 r.0));
}
field_read (node name own other nodes) P q (value u ws) number shape w r (inr h) =
    let f = field_read nodes P q ws number shape w r.1 h in
    record { field = f.field; there = inr f.there; numbered = f.numbered; shaped = f.shaped; reads = f.reads }

mutual
  -- What is said under both shapes agrees.
  pub agree_at : (old new : Shape) (P : Path → Type 0) (q : Path) → Fits old new → IsTyped old P q → (v w : Value) → Reads old P q v → Reads new P q w → Agree old new v w
  agree_at Taint Taint P q f t v w r s = Reads-unique Taint P q v w r s
  agree_at (Scalar pick kind) (Scalar own wider) P q f t v w r s =
      let g = fits_inside (Scalar pick kind) (Scalar own wider) f in agree_scalar pick own kind wider P q g.0 g.1 t v w r s
  agree_at (Set kind) (Set wider) P q f t v w r s = agree_set kind wider P q (fits_inside (Set kind) (Set wider) f) t v w r s
  agree_at Counter Counter P q f t v w r s = Reads-unique Counter P q v w r s
  agree_at (Map kind shape) (Map wider more) P q f t v w r s =
      let g = fits_inside (Map kind shape) (Map wider more) f in
      agree_map kind wider shape more P q g.0 t (λ key typed x y a b. agree_at shape more P (key_path q key) g.1 typed x y a b) v w r s
  agree_at (Bag nodes) (Bag others) P q f t (Bag vs) (Bag ws) r s = agree_each nodes others P q (fits_inside (Bag nodes) (Bag others) f) t vs ws r s
  agree_at (Bag nodes) (Bag others) P q f t (Bag vs) w r s = absurd s
  agree_at (Bag nodes) (Bag others) P q f t v w r s = absurd r
  agree_at old new P q f t v w r s = absurd (fits_inside old new f)

  agree_each : (nodes others : Nodes) (P : Path → Type 0) (q : Path) → FieldsFit nodes others → AreTyped nodes P q → (vs ws : Values) → ReadsEach nodes P q vs → ReadsEach others P q ws → AgreeEach nodes others vs ws
  agree_each no_node others P q f t vs ws r s = tt
  agree_each (node name number shape nodes) others P q f t no_value ws r s = absurd r
  agree_each (node name number shape nodes) others P q f t (value v vs) ws r s = (
    (λ other w h.
        let x = field_read others P q ws number other w s h in
        let own : Field = record { name = name; number = number; shape = shape } in
        agree_at shape other P (node_path q number) (subst (λ (z : Shape). Fits shape z) x.shaped (f own x.field (inl refl) x.there x.numbered)) t.0 v w r.0 x.reads),
    agree_each nodes others P q (λ a b i j e. f a b (inr i) j e) t.1 vs ws r.1 s,
  )
