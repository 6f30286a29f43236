-- Fewer paths that say all that more paths say.
use Rattle.std.proofs.Common.{◌≡◌, ◌⊎◌, inl, inr, ◌↔◌, ℕ, ◌^◌, ◌<◌, ◌≤◌, List, [], length, true, Some, None, Less, refl, sym, ◌∙◌, subst, arith}
use Rattle.std.specs.Cmp.{ranks}
use Rattle.std.specs.Ordering.{nat_cmp, MatchOrdering}
use Rattle.context_model.specs.Orders.{Path, atom_cmp}
use Rattle.context_model.specs.Kinds.{atom_of}
use Rattle.context_model.specs.Kinds.Kind.{Indexed, Keyed}
use Rattle.context_model.specs.Varints.{unsigned_varint}
use Rattle.context_model.proofs.OrderLaws.{atoms_total}
use Rattle.context_model.proofs.MergeLaws.{EachPair-at, EachPair-from, IsIn-keys_of}
use Rattle.bag_model.specs.declared.Pick.{Pick}
use Rattle.bag_model.specs.declared.Pick.TheVariants.{Least, Greatest}
use Rattle.bag_model.specs.Scalars.{ScalarKind, ScalarValue, scalar_cmp, pick_cmp, IsScalarOf, spelling}
use Rattle.bag_model.specs.Shapes.{Shape, Nodes, Taint, Scalar, Set, Counter, Map, Bag, no_node, node}
use Rattle.bag_model.specs.Values.{Value, Values, Taint, Scalar, Set, Counter, Map, Bag, no_value, value, pairs}
use Rattle.bag_model.specs.Readings.{datum_path, key_path, node_path, HasScalar, HasCount, IsGreatest, Reads, ReadsEach}
use Rattle.bag_model.specs.Typed.{IsSpelling, IsCount, IsTyped, AreTyped}
use Rattle.bag_model.specs.NormalForm.{Keeping, EachDatum, LeastDatum, GreatestDatum, kept_by, GivesWay}
use Rattle.bag_model.proofs.ScalarOrder.{pick_total}
use Rattle.bag_model.proofs.SpellingOrder.{spelling-order}
use Rattle.bag_model.proofs.NumberCodes.{unsigned_code}
use Rattle.bag_model.proofs.Codes.{code_order}
use Rattle.bag_model.proofs.PathSets.{AnyOf, SameBelow, same_step}
use Rattle.bag_model.proofs.Unions.{key_there, key_back}

-- The data of P at q are data of Q, and for each datum of Q there is one in P that is it, or to which it gives way.
abbrev pub CoversData : Keeping → (Path → Type 0) → (Path → Type 0) → Path → Type 0
CoversData keep P Q q =
    ((x : List ℕ) → P (datum_path q x) → Q (datum_path q x))
    × ((x : List ℕ) → Q (datum_path q x) → (y : List ℕ) × P (datum_path q y) × ((y ≡ x) ⊎ GivesWay keep x y))

-- For a field of this shape at q, P says all that Q says. Of what is below a key that is no
-- spelling nothing is asked.
abbrev mutual
  pub Covers : Shape → (Path → Type 0) → (Path → Type 0) → Path → Type 0
  Covers Taint P Q q = CoversData EachDatum P Q q
  Covers (Scalar pick kind) P Q q = CoversData (kept_by pick) P Q q
  Covers (Set kind) P Q q = CoversData EachDatum P Q q
  Covers Counter P Q q = (w : List ℕ) → (P (key_path q w) ↔ Q (key_path q w)) × CoversData GreatestDatum P Q (key_path q w)
  Covers (Map kind shape) P Q q = (key : List ℕ) → (P (key_path q key) ↔ Q (key_path q key)) × (IsSpelling kind key → Covers shape P Q (key_path q key))
  Covers (Bag nodes) P Q q = AreCovered nodes P Q q

  pub AreCovered : Nodes → (Path → Type 0) → (Path → Type 0) → Path → Type 0
  AreCovered no_node P Q q = Unit {0}
  AreCovered (node name number shape nodes) P Q q = Covers shape P Q (node_path q number) × AreCovered nodes P Q q

-- ---- sets that are the same, one after another, and unions

data_alike : (keep : Keeping) (P Q : Path → Type 0) (q : Path) → SameBelow q P Q → CoversData keep P Q q
data_alike keep P Q q s = ((λ x i. s.0 [] 0 x i), λ x i. (x, s.1 [] 0 x i, inl refl))

mutual
  pub Covers-alike : (shape : Shape) (P Q : Path → Type 0) (q : Path) → SameBelow q P Q → Covers shape P Q q
  Covers-alike Taint P Q q s = data_alike EachDatum P Q q s
  Covers-alike (Scalar pick kind) P Q q s = data_alike (kept_by pick) P Q q s
  Covers-alike (Set kind) P Q q s = data_alike EachDatum P Q q s
  Covers-alike Counter P Q q s = λ w. ((key_there P Q q s w, key_back P Q q s w), data_alike GreatestDatum P Q (key_path q w) (same_step q (atom_of (Keyed (length q) w)) P Q s))
  Covers-alike (Map kind shape) P Q q s = λ key. ((key_there P Q q s key, key_back P Q q s key), λ spelled. Covers-alike shape P Q (key_path q key) (same_step q (atom_of (Keyed (length q) key)) P Q s))
  Covers-alike (Bag nodes) P Q q s = AreCovered-alike nodes P Q q s

  pub AreCovered-alike : (nodes : Nodes) (P Q : Path → Type 0) (q : Path) → SameBelow q P Q → AreCovered nodes P Q q
  AreCovered-alike no_node P Q q s = tt
  AreCovered-alike (node name number shape nodes) P Q q s =
      (Covers-alike shape P Q (node_path q number) (same_step q (atom_of (Indexed (length q) number)) P Q s), AreCovered-alike nodes P Q q s)

-- giving way goes on
pub way_onwards : (keep : Keeping) (x y z : List ℕ) → GivesWay keep x y → GivesWay keep y z → GivesWay keep x z
way_onwards EachDatum x y z f g = f
way_onwards LeastDatum x y z f g = atoms_total.trans z y x g f
way_onwards GreatestDatum x y z f g = atoms_total.trans x y z f g

data_onwards : (keep : Keeping) (P Q S : Path → Type 0) (q : Path) → CoversData keep P Q q → CoversData keep Q S q → CoversData keep P S q
data_onwards keep P Q S q f g = ((λ x i. g.0 x (f.0 x i)), λ x i. by x (g.1 x i))
  where
    joined : (x y z : List ℕ) → (y ≡ x) ⊎ GivesWay keep x y → (z ≡ y) ⊎ GivesWay keep y z → (z ≡ x) ⊎ GivesWay keep x z
    joined x y z (inl e) (inl d) = inl (d ∙ e)
    joined x y z (inl e) (inr d) = inr (subst (λ v. GivesWay keep v z) e d)
    joined x y z (inr e) (inl d) = inr (subst (GivesWay keep x) (sym d) e)
    joined x y z (inr e) (inr d) = inr (way_onwards keep x y z e d)

    by : (x : List ℕ) → (y : List ℕ) × Q (datum_path q y) × ((y ≡ x) ⊎ GivesWay keep x y) → (y : List ℕ) × P (datum_path q y) × ((y ≡ x) ⊎ GivesWay keep x y)
    by x y = let z = f.1 y.0 y.1 in (z.0, z.1, joined x y.0 z.0 y.2 z.2)

mutual
  pub Covers-onwards : (shape : Shape) (P Q S : Path → Type 0) (q : Path) → Covers shape P Q q → Covers shape Q S q → Covers shape P S q
  Covers-onwards Taint P Q S q f g = data_onwards EachDatum P Q S q f g
  Covers-onwards (Scalar pick kind) P Q S q f g = data_onwards (kept_by pick) P Q S q f g
  Covers-onwards (Set kind) P Q S q f g = data_onwards EachDatum P Q S q f g
  Covers-onwards Counter P Q S q f g = λ w. let a = f w in let b = g w in ((λ i. b.0.0 (a.0.0 i), λ i. a.0.1 (b.0.1 i)), data_onwards GreatestDatum P Q S (key_path q w) a.1 b.1)
  Covers-onwards (Map kind shape) P Q S q f g = λ key. let a = f key in let b = g key in ((λ i. b.0.0 (a.0.0 i), λ i. a.0.1 (b.0.1 i)), λ spelled. Covers-onwards shape P Q S (key_path q key) (a.1 spelled) (b.1 spelled))
  Covers-onwards (Bag nodes) P Q S q f g = AreCovered-onwards nodes P Q S q f g

  pub AreCovered-onwards : (nodes : Nodes) (P Q S : Path → Type 0) (q : Path) → AreCovered nodes P Q q → AreCovered nodes Q S q → AreCovered nodes P S q
  AreCovered-onwards no_node P Q S q f g = tt
  AreCovered-onwards (node name number shape nodes) P Q S q f g = (Covers-onwards shape P Q S (node_path q number) f.0 g.0, AreCovered-onwards nodes P Q S q f.1 g.1)

data_any : (keep : Keeping) (I : Type 0) (F G : I → Path → Type 0) (q : Path) → ((i : I) → CoversData keep (F i) (G i) q) → CoversData keep (AnyOf F) (AnyOf G) q
data_any keep I F G q f = ((λ x i. (i.0, (f i.0).0 x i.1)), λ x i. let y = (f i.0).1 x i.1 in (y.0, (i.0, y.1), y.2))

mutual
  pub Covers-any : (shape : Shape) (I : Type 0) (F G : I → Path → Type 0) (q : Path) → ((i : I) → Covers shape (F i) (G i) q) → Covers shape (AnyOf F) (AnyOf G) q
  Covers-any Taint I F G q f = data_any EachDatum I F G q f
  Covers-any (Scalar pick kind) I F G q f = data_any (kept_by pick) I F G q f
  Covers-any (Set kind) I F G q f = data_any EachDatum I F G q f
  Covers-any Counter I F G q f = λ w. ((λ i. (i.0, (f i.0 w).0.0 i.1), λ i. (i.0, (f i.0 w).0.1 i.1)), data_any GreatestDatum I F G (key_path q w) (λ i. (f i w).1))
  Covers-any (Map kind shape) I F G q f = λ key. ((λ i. (i.0, (f i.0 key).0.0 i.1), λ i. (i.0, (f i.0 key).0.1 i.1)), λ spelled. Covers-any shape I F G (key_path q key) (λ i. (f i key).1 spelled))
  Covers-any (Bag nodes) I F G q f = AreCovered-any nodes I F G q f

  pub AreCovered-any : (nodes : Nodes) (I : Type 0) (F G : I → Path → Type 0) (q : Path) → ((i : I) → AreCovered nodes (F i) (G i) q) → AreCovered nodes (AnyOf F) (AnyOf G) q
  AreCovered-any no_node I F G q f = tt
  AreCovered-any (node name number shape nodes) I F G q f = (Covers-any shape I F G (node_path q number) (λ i. (f i).0), AreCovered-any nodes I F G q (λ i. (f i).1))

-- ---- what covers says the same

-- a lesser spelling is that of a lesser value
lesser_value : (kind : ScalarKind) (u w : ScalarValue) → IsScalarOf kind u → IsScalarOf kind w → atom_cmp (spelling kind u) (spelling kind w) ≡ Less → scalar_cmp u w ≡ Less
lesser_value kind u w f g l = sym (spelling-order kind u w f g) ∙ l

-- a value whose spelling another one's gives way to comes before it
first_value : (pick : Pick) (kind : ScalarKind) (u w : ScalarValue) → IsScalarOf kind u → IsScalarOf kind w → GivesWay (kept_by pick) (spelling kind w) (spelling kind u) → pick_cmp pick u w ≡ Less
first_value Least kind u w f g way = lesser_value kind u w f g way
first_value Greatest kind u w f g way = lesser_value kind w u g f way

covers_scalar : (pick : Pick) (kind : ScalarKind) (P Q : Path → Type 0) (q : Path) (v : Value) → IsTyped (Scalar pick kind) Q q → CoversData (kept_by pick) P Q q → Reads (Scalar pick kind) P q v → Reads (Scalar pick kind) Q q v
covers_scalar pick kind P Q q (Scalar own None) t c r = (r.0, λ w h. let y = c.1 (spelling kind w) h.1 in none y.0 y.1)
  where
    none : (x : List ℕ) → P (datum_path q x) → ⊥
    none x i = let s = t x (c.0 x i) in r.1 s.0 (s.1, subst (λ b. P (datum_path q b)) s.2 i)
covers_scalar pick kind P Q q (Scalar own (Some v)) t c r = (r.0, ((r.1.0.0, c.0 (spelling kind v) r.1.0.1), λ w h l. by w h l (c.1 (spelling kind w) h.1)))
  where
    by : (w : ScalarValue) → HasScalar kind Q q w → pick_cmp pick w v ≡ Less
        → (y : List ℕ) × P (datum_path q y) × ((y ≡ spelling kind w) ⊎ GivesWay (kept_by pick) (spelling kind w) y) → ⊥
    by w h l y = elim y.2 [
      | inl e ↦ r.1.1 w (h.0, subst (λ b. P (datum_path q b)) e y.1) l
      | inr g ↦ (let s = t y.0 (c.0 y.0 y.1) in
          r.1.1 s.0 (s.1, subst (λ b. P (datum_path q b)) s.2 y.1) ((pick_total pick).trans s.0 w v (first_value pick kind s.0 w s.1 h.0 (subst (GivesWay (kept_by pick) (spelling kind w)) s.2 g)) l))
    ]
covers_scalar pick kind P Q q v t c r = absurd r

-- each datum stays
each_there : (P Q : Path → Type 0) (q : Path) → CoversData EachDatum P Q q → (x : List ℕ) → Q (datum_path q x) → P (datum_path q x)
each_there P Q q c x i = let y = c.1 x i in elim y.2 [ inl e ↦ subst (λ b. P (datum_path q b)) e y.1 | inr none ↦ absurd none ]

covers_taint : (P Q : Path → Type 0) (q : Path) (v : Value) → CoversData EachDatum P Q q → Reads Taint P q v → Reads Taint Q q v
covers_taint P Q q (Taint on) c r = ((λ t. let d = r.0 t in (d.0, c.0 d.0 d.1)), λ d. r.1 (d.0, each_there P Q q c d.0 d.1))
covers_taint P Q q v c r = absurd r

covers_set : (kind : ScalarKind) (P Q : Path → Type 0) (q : Path) (v : Value) → CoversData EachDatum P Q q → Reads (Set kind) P q v → Reads (Set kind) Q q v
covers_set kind P Q q (Set own vs) c r =
    (r.0, r.1, λ v. ((λ i. let h = (r.2 v).0 i in (h.0, c.0 (spelling kind v) h.1)), λ h. (r.2 v).1 (h.0, each_there P Q q c (spelling kind v) h.1)))
covers_set kind P Q q v c r = absurd r

-- a lesser spelling is that of a lesser count
count_less : (m n : ℕ) → m < 2 ^ 64 → n < 2 ^ 64 → atom_cmp (unsigned_varint m) (unsigned_varint n) ≡ Less → m < n
count_less m n f g l =
    let is : nat_cmp m n ≡ Less = sym (code_order (unsigned_code true) m n f g) ∙ l in
    subst (λ r. MatchOrdering r (m < n) (m ≡ n) (n < m)) is (ranks m n)

covers_count : (P Q : Path → Type 0) (q : Path) (n : ℕ) → ((payload : List ℕ) → Q (datum_path q payload) → IsCount payload) → CoversData GreatestDatum P Q q → IsGreatest P q n → IsGreatest Q q n
covers_count P Q q n t c g = (elim g.0 [ inl h ↦ inl (h.0, c.0 (unsigned_varint n) h.1) | inr e ↦ inr e ], λ m h. by m h (c.1 (unsigned_varint m) h.1))
  where
    by : (m : ℕ) → HasCount Q q m → (y : List ℕ) × P (datum_path q y) × ((y ≡ unsigned_varint m) ⊎ GivesWay GreatestDatum (unsigned_varint m) y) → m ≤ n
    by m h y = elim y.2 [
      | inl e ↦ g.1 m (h.0, subst (λ b. P (datum_path q b)) e y.1)
      | inr l ↦ (let s = t y.0 (c.0 y.0 y.1) in
          let most : s.0 ≤ n = g.1 s.0 (s.1, subst (λ b. P (datum_path q b)) s.2 y.1) in
          let less : m < s.0 = count_less m s.0 h.0 s.1 (subst (λ b. atom_cmp (unsigned_varint m) b ≡ Less) s.2 l) in
          omega arith)
    ]

covers_counter : (P Q : Path → Type 0) (q : Path) (v : Value) → IsTyped Counter Q q → Covers Counter P Q q → Reads Counter P q v → Reads Counter Q q v
covers_counter P Q q (Counter counts) t c r = (
  r.0,
  λ w. ((λ i. (c w).0.0 ((r.1 w).0 i)), λ i. (r.1 w).1 ((c w).0.1 i)),
  EachPair-from (λ w n. IsGreatest Q (key_path q w) n) counts
      (λ w n at. covers_count P Q (key_path q w) n (λ payload j. t w payload ((c w).0.0 ((r.1 w).0 (IsIn-keys_of counts w n at))) j) (c w).1
      (EachPair-at (λ w n. IsGreatest P (key_path q w) n) counts w n r.2 at)),
)
covers_counter P Q q v t c r = absurd r

covers_map : (kind : ScalarKind) (shape : Shape) (P Q : Path → Type 0) (q : Path) (v : Value) → IsTyped (Map kind shape) Q q → Covers (Map kind shape) P Q q
    → ((key : List ℕ) (v : Value) → IsTyped shape Q (key_path q key) → Covers shape P Q (key_path q key) → Reads shape P (key_path q key) v → Reads shape Q (key_path q key) v)
    → Reads (Map kind shape) P q v → Reads (Map kind shape) Q q v
covers_map kind shape P Q q (Map es) t c below r = (
  r.0,
  λ k. ((λ i. let h = (r.1 k).0 i in (h.0, (c (spelling kind k)).0.0 h.1)), λ h. (r.1 k).1 (h.0, (c (spelling kind k)).0.1 h.1)),
  EachPair-from (λ k v. Reads shape Q (key_path q (spelling kind k)) v) (pairs es)
      (λ k v at. below (spelling kind k) v (t (spelling kind k) ((c (spelling kind k)).0.0 ((r.1 k).0 (IsIn-keys_of (pairs es) k v at)).1)).1
      ((c (spelling kind k)).1 (k, ((r.1 k).0 (IsIn-keys_of (pairs es) k v at)).0, refl))
      (EachPair-at (λ k v. Reads shape P (key_path q (spelling kind k)) v) (pairs es) k v r.2 at)),
)
covers_map kind shape P Q q v t c below r = absurd r

mutual
  -- What typed paths say is said by the paths that cover them.
  pub Reads-covers : (shape : Shape) (P Q : Path → Type 0) (q : Path) (v : Value) → IsTyped shape Q q → Covers shape P Q q → Reads shape P q v → Reads shape Q q v
  Reads-covers Taint P Q q v t c r = covers_taint P Q q v c r
  Reads-covers (Scalar pick kind) P Q q v t c r = covers_scalar pick kind P Q q v t c r
  Reads-covers (Set kind) P Q q v t c r = covers_set kind P Q q v c r
  Reads-covers Counter P Q q v t c r = covers_counter P Q q v t c r
  Reads-covers (Map kind shape) P Q q v t c r = covers_map kind shape P Q q v t c (λ key u a b d. Reads-covers shape P Q (key_path q key) u a b d) r
  Reads-covers (Bag nodes) P Q q (Bag vs) t c r = ReadsEach-covers nodes P Q q vs t c r
  Reads-covers (Bag nodes) P Q q v t c r = absurd r

  pub ReadsEach-covers : (nodes : Nodes) (P Q : Path → Type 0) (q : Path) (vs : Values) → AreTyped nodes Q q → AreCovered nodes P Q q → ReadsEach nodes P q vs → ReadsEach nodes Q q vs
  ReadsEach-covers no_node P Q q no_value t c r = tt
  ReadsEach-covers no_node P Q q (value v vs) t c r = absurd r
  ReadsEach-covers (node name number shape nodes) P Q q (value v vs) t c r =
      (Reads-covers shape P Q (node_path q number) v t.0 c.0 r.0, ReadsEach-covers nodes P Q q vs t.1 c.1 r.1)
  ReadsEach-covers (node name number shape nodes) P Q q no_value t c r = absurd r
