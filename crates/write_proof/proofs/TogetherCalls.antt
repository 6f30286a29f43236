-- What calls on values together owe and answer.
use Rattle.std.specs.Borrow.{Bor}
use Rattle.std.proofs.Common.{◌≡◌, ◌⊎◌, inl, inr, ◌↔◌, ℕ, zero, suc, ◌+◌, ◌<◌, ◌≤◌, ◌==◌, Bool, true, false, List, [], ◌∷◌, ◌++◌, length, map, take, get_or, Option, Some, None, refl, sym, ap, ◌∙◌, subst, arith}
use Rattle.std.specs.List.{slice_get}
use Rattle.std.specs.Option.{option_map}
use Rattle.std.proofs.lemmas.Bool.{cases_lt, eqb-true, eq-eqb}
use Rattle.std.proofs.lemmas.List.{map-append, take_all, take_more}
use Rattle.context_model.specs.KeyedMerge.{keys_of, IsAt, Finds}
use Rattle.context_model.specs.GreedyMerge.{first_of}
use Rattle.context_model.specs.Orders.{IsIn, atom_cmp}
use Rattle.context_model.proofs.MergeLaws.{EachPair-at, IsIn-keys_of, IsAt-unique}
use Rattle.context_model.proofs.OrderLaws.{atoms_total}
use Rattle.bag_model.specs.declared.Pick.{Pick}
use Rattle.bag_model.specs.declared.Pick.TheVariants.{Least, Greatest}
use Rattle.bag_model.specs.Joins.{join, IsBottom, IsValueBelow, Alike, Proper}
use Rattle.bag_model.specs.Scalars.{ScalarKind, ScalarValue, scalar_cmp, pick_cmp, IsScalarOf}
use Rattle.bag_model.specs.Shapes.{Shape, Nodes, no_node, node}
use Rattle.bag_model.specs.Values.{Value, Entries, Values, Taint, Scalar, Set, Counter, Map, Bag, no_value, value, pairs, values_list, IsOfShape, AreOfShapes}
use Rattle.bag_model.proofs.BelowLaws.{below-onwards, below-first, below-second, below-least}
use Rattle.bag_model.proofs.FirstLaws.{first-idem}
use Rattle.bag_model.proofs.OfShape.{Alike-shape, Proper-shape, IsOfShape-join}
use Rattle.bag_model.proofs.ScalarOrder.{scalar_total, pick_total}
use Rattle.scalar_types.specs.Scalars.{value_of}
use Rattle.bag_value.specs.declared.vals.Val.{Val}
use Rattle.bag_value.specs.declared.vals.Val.TheVariants as code
use Rattle.bag_value.specs.Vals.{plain, val_of}
use Rattle.bag_value.specs.ValLaws.{value_comes_back}
use Rattle.trace_model.proofs.ContributedLaws.{least_alike}
use Rattle.write_proof.specs.Belows.{AreOfOne}
use Rattle.write_proof.specs.Together.{Saying, TaintOn, StaysBeside, HasElement, CountsTo, HasKey, OfKey, OfField, Says, IsSaid, IsSaidBy, IsAtKey, IsOfField, AreOfOneShape, HaveOneJoin, values_of}
use Rattle.write_proof.proofs.Keyed.{key_value}
use Rattle.write_proof.proofs.Parts.{in_items, through_more, through_all}
use Rattle.write_proof.proofs.Reached.{in_push, push_before, push_last}
use Rattle.write_proof.proofs.SaidTogether.{said_below, join_of_all}

-- ---- one of several values

abbrev pub behind : Bor Val → Value
behind b = plain b.now

module _ (P : Value → Type 0) (others : List (Bor Val)) where
  pub one_found : (i : ℕ) (x : Bor Val) → i < length others → x ≡ get_or others i x → P (plain x.now) → (v : Value) × IsIn v (values_of others) × P v
  one_found i x l e p = (plain x.now, in_items behind others i x l e, p)

  pub none_more : (i : ℕ) (x : Bor Val) → i < length others → x ≡ get_or others i x → ((v : Value) → IsIn v (values_of (take i others)) → P v → ⊥) → (P (plain x.now) → ⊥)
      → (v : Value) → IsIn v (values_of (take (i + 1) others)) → P v → ⊥
  none_more i x l e before own = through_more behind (λ v. P v → ⊥) others i x l e before own

  pub none_found : (i : ℕ) → length others ≤ i → ((v : Value) → IsIn v (values_of (take i others)) → P v → ⊥) → ((v : Value) × IsIn v (values_of others) × P v) → ⊥
  none_found i l before f = through_all behind (λ v. P v → ⊥) others i l before f.0 f.1 f.2

-- ---- values that are gathered

taken_push : {A : Type 0} (xs : List A) (i : ℕ) (x : A) → i < length xs → x ≡ get_or xs i x → take (i + 1) xs ≡ take i xs ++ x ∷ []
taken_push xs i x l e = take_more xs i x l ∙ ap (λ y. take i xs ++ y ∷ []) (sym e)

-- The values of a list with one more.
values_push : (xs : List (Bor Val)) (x : Bor Val) → values_of (xs ++ x ∷ []) ≡ values_of xs ++ plain x.now ∷ []
values_push xs x = map-append behind xs (x ∷ [])

module _ (P : Value → Value → Type 0) where
  -- The values found are those that some of the first stand for.
  abbrev pub Gathers : List Value → List Value → Type 0
  Gathers values found = (v : Value) → IsIn v found ↔ ((own : Value) × IsIn own values × P own v)

  gathers_push : (values found : List Value) (x w : Value) → ((v : Value) → (Some w ≡ Some v) ↔ P x v) → Gathers values found → Gathers (values ++ x ∷ []) (found ++ w ∷ [])
  gathers_push values found x w is before v = (front, back)
    where
      front : IsIn v (found ++ w ∷ []) → (own : Value) × IsIn own (values ++ x ∷ []) × P own v
      front i = elim (in_push v w found i) [
        | inl k ↦ (let t = (before v).0 k in (t.0, push_before t.0 x values t.1, t.2))
        | inr e ↦ (x, push_last x x values refl, (is v).0 (ap Some (sym e)))
      ]

      back : (own : Value) × IsIn own (values ++ x ∷ []) × P own v → IsIn v (found ++ w ∷ [])
      back t = elim (in_push t.0 x values t.1) [
        | inl k ↦ push_before v w found ((before v).1 (t.0, k, t.2))
        | inr e ↦ (let some = (is v).1 (subst (λ m. P m v) e t.2) in let same : w ≡ v = cc some in push_last v w found (sym same))
      ]

  gathers_pass : (values found : List Value) (x : Value) → ((v : Value) → (None ≡ Some v) ↔ P x v) → Gathers values found → Gathers (values ++ x ∷ []) found
  gathers_pass values found x is before v = (
    (λ i. let t = (before v).0 i in (t.0, push_before t.0 x values t.1, t.2)),
    λ t. elim (in_push t.0 x values t.1) [
      | inl k ↦ (before v).1 (t.0, k, t.2)
      | inr e ↦ absurd (let none = (is v).1 (subst (λ m. P m v) e t.2) in cc none)
    ],
  )

  module _ (list : List (Bor Val)) (i : ℕ) (x : Bor Val) (l : i < length list) (e : x ≡ get_or list i x) where
    taken_values : values_of (take (i + 1) list) ≡ values_of (take i list) ++ plain x.now ∷ []
    taken_values = ap values_of (taken_push list i x l e) ∙ values_push (take i list) x

    pub gathers_found : (found next : List (Bor Val)) (w : Bor Val) → ((v : Value) → (Some (plain w.now) ≡ Some v) ↔ P (plain x.now) v) → next ≡ found ++ w ∷ []
        → Gathers (values_of (take i list)) (values_of found) → Gathers (values_of (take (i + 1) list)) (values_of next)
    gathers_found found next w is more before =
        subst (λ m. Gathers m (values_of next)) (sym taken_values)
        (subst (Gathers (values_of (take i list) ++ plain x.now ∷ [])) (sym (ap values_of more ∙ values_push found w))
        (gathers_push (values_of (take i list)) (values_of found) (plain x.now) (plain w.now) is before))

    pub gathers_other : (found : List (Bor Val)) → ((v : Value) → (None ≡ Some v) ↔ P (plain x.now) v) → Gathers (values_of (take i list)) (values_of found)
        → Gathers (values_of (take (i + 1) list)) (values_of found)
    gathers_other found is before = subst (λ m. Gathers m (values_of found)) (sym taken_values) (gathers_pass (values_of (take i list)) (values_of found) (plain x.now) is before)

  pub gathers_all : (list : List (Bor Val)) (i : ℕ) (found : List (Bor Val)) → length list ≤ i → Gathers (values_of (take i list)) (values_of found) → Gathers (values_of list) (values_of found)
  gathers_all list i found l before = subst (λ m. Gathers (values_of m) (values_of found)) (take_all i list l) before

pub gathers_none : (P : Value → Value → Type 0) → Gathers P [] []
gathers_none P v = ((λ i. absurd i), λ t. absurd t.1)

-- ---- what one value says

pub no_element : (v : Val) (x : ScalarValue) → ((set : _) → v ≡ code.Set set → ⊥) → Says (plain v) (HasElement x) → ⊥
no_element (code.Set set) x none said = none set refl
no_element v x none said = said

pub no_count : (v : Val) (writer : List ℕ) (n : ℕ) → ((counts : _) → v ≡ code.Counter counts → ⊥) → Says (plain v) (CountsTo writer n) → ⊥
no_count (code.Counter counts) writer n none said = none counts refl
no_count v writer n none said = said

-- A counter's one count of a writer.
pub count_there : (v : Value) (counts : List (List ℕ × ℕ)) (writer : List ℕ) (n most : ℕ) → v ≡ Counter counts → Proper v → IsAt writer most counts → Says v (CountsTo writer n) ↔ (n ≤ most)
count_there v counts writer n most is proper at = (
  (λ said.
      let t = subst (λ x. Says x (CountsTo writer n)) is said in
      let same = IsAt-unique atom_cmp atoms_total counts writer t.0 most (subst Proper is proper).0 t.1 at in
      let less = t.2 in
      omega (arith, same, less)),
  λ less. subst (λ x. Says x (CountsTo writer n)) (sym is) (most, at, less),
)

pub no_writer : (v : Value) (counts : List (List ℕ × ℕ)) (writer : List ℕ) (n : ℕ) → v ≡ Counter counts → (IsIn writer (keys_of counts) → ⊥) → Says v (CountsTo writer n) → ⊥
no_writer v counts writer n is none said = let t = subst (λ x. Says x (CountsTo writer n)) is said in none (IsIn-keys_of counts writer t.0 t.1)

pub no_key_at : (v : Val) (key : ScalarValue) (w : Value) → ((entries : _) → v ≡ code.Map entries → ⊥) → IsAtKey key (plain v) w → ⊥
no_key_at (code.Map entries) key w none t = none entries refl
no_key_at v key w none t = cc t.1

pub no_field_at : (v : Val) (at : ℕ) (w : Value) → ((values : _) → v ≡ code.Bag values → ⊥) → IsOfField at (plain v) w → ⊥
no_field_at (code.Bag values) at w none t = none values refl
no_field_at v at w none t = cc t.1

map_same : (es fs : Entries) → Map es ≡ Map fs → es ≡ fs
map_same es fs e = cc e

bag_same : (vs ws : Values) → Bag vs ≡ Bag ws → vs ≡ ws
bag_same vs ws e = cc e

pub found_key : (own : Value) (es : Entries) (key : ScalarValue) (found : Option Value) → own ≡ Map es → Proper own → Finds (pairs es) key found → (w : Value) → (found ≡ Some w) ↔ IsAtKey key own w
found_key own es key None is proper none w = (
  (λ e. absurd (cc e)),
  λ t. absurd (none (IsIn-keys_of (pairs es) key w (subst (λ fs. IsAt key w (pairs fs)) (sym (map_same es t.0 (sym is ∙ t.1))) t.2))),
)
found_key own es key (Some v) is proper at w = (
  (λ e. let same : v ≡ w = cc e in (es, is, subst (λ x. IsAt key x (pairs es)) same at)),
  λ t. ap Some (IsAt-unique scalar_cmp scalar_total (pairs es) key v w (subst Proper is proper).0 at (subst (λ fs. IsAt key w (pairs fs)) (sym (map_same es t.0 (sym is ∙ t.1))) t.2)),
)

pub found_field : (own : Value) (vs : Values) (at : ℕ) (found : Option Value) → own ≡ Bag vs → found ≡ slice_get (values_list vs) at → (w : Value) → (found ≡ Some w) ↔ IsOfField at own w
found_field own vs at found is there w = (
  (λ e. (vs, is, sym there ∙ e)),
  λ t. there ∙ ap (λ ws. slice_get (values_list ws) at) (bag_same vs t.0 (sym is ∙ t.1)) ∙ t.2,
)

-- ---- references to parts

pub lent_more : (parts : List Val) (others next : List (Bor Val)) (i : ℕ) (part : Val) (own : Bor Val) → i < length parts → part ≡ get_or parts i part → own.now ≡ part → next ≡ others ++ own ∷ []
    → values_of others ≡ map plain (take i parts) → values_of next ≡ map plain (take (i + 1) parts)
lent_more parts others next i part own l e is more before =
    ap values_of more ∙ values_push others own ∙ (λ k. before k ++ plain (is k) ∷ [])
    ∙ sym (ap (map plain) (taken_push parts i part l e) ∙ map-append plain (take i parts) (part ∷ []))

pub lent_all : (parts : List Val) (others : List (Bor Val)) (i : ℕ) → length parts ≤ i → values_of others ≡ map plain (take i parts) → values_of others ≡ map plain parts
lent_all parts others i l before = before ∙ ap (map plain) (take_all i parts l)

-- ---- values of one shape

pub one_of : (v : Value) (others : List Value) → AreOfOneShape (v ∷ others) → (w : Value) → IsIn w others → AreOfOne v w
one_of v others one w i = (one.0, one.1 v (inl refl), one.1 w (inr i))

pub all_proper : (v : Value) (others : List Value) → AreOfOneShape (v ∷ others) → (w : Value) → IsIn w others → Proper w
all_proper v others one w i = Proper-shape one.0 w (one.1 w (inr i))

pub set_proper : (kind : ScalarKind) (vs : List ScalarValue) (others : List Value) → AreOfOneShape (Set kind vs ∷ others) → Proper (Set kind vs)
set_proper kind vs others one = Proper-shape one.0 (Set kind vs) (one.1 (Set kind vs) (inl refl))

pub set_fits : (kind : ScalarKind) (vs : List ScalarValue) (others : List Value) → AreOfOneShape (Set kind vs ∷ others) → (own : ScalarKind) (ws : List ScalarValue) → IsIn (Set own ws) others → own ≡ kind
set_fits kind vs others one own ws i = by one.0 (one.1 (Set kind vs) (inl refl)) (one.1 (Set own ws) (inr i))
  where
    by : (shape : Shape) → IsOfShape shape (Set kind vs) → IsOfShape shape (Set own ws) → own ≡ kind
    by (Shape.Set k) p q = q.0 ∙ sym p.0
    by shape p q = absurd p

-- The values at a key are of one shape.
pub shape_at : (es : Entries) (others : List Value) (key : ScalarValue) (v : Value) → AreOfOneShape (Map es ∷ others) → IsAt key v (pairs es) → (found : List Value) → Gathers (IsAtKey key) others found
    → AreOfOneShape (v ∷ found)
shape_at es others key v one at found all = by one.0 one.1
  where
    by : (shape : Shape) → ((w : Value) → IsIn w (Map es ∷ others) → IsOfShape shape w) → AreOfOneShape (v ∷ found)
    by (Shape.Map kind inner) of = (
      inner,
      λ w i. elim i [
        | inl e ↦ subst (IsOfShape inner) (sym e) (EachPair-at (λ k x. IsScalarOf kind k × IsOfShape inner x) (pairs es) key v (of (Map es) (inl refl)).1 at).1
        | inr k ↦ (let t = (all w).0 k in EachPair-at (λ k x. IsScalarOf kind k × IsOfShape inner x) (pairs (t.2).0) key w (subst (IsOfShape (Shape.Map kind inner)) (t.2).1 (of t.0 (inr t.1))).1 (t.2).2).1
      ],
    )
    by shape of = absurd (of (Map es) (inl refl))

field_shape : (nodes : Nodes) (vs : Values) → AreOfShapes nodes vs → (at : ℕ) (v : Value) → slice_get (values_list vs) at ≡ Some v → (shape : Shape) × ((ws : Values) (w : Value) → AreOfShapes nodes ws → slice_get (values_list ws) at ≡ Some w → IsOfShape shape w)
field_shape no_node no_value p at v e = absurd (cc e)
field_shape no_node (value x vs) p at v e = absurd p
field_shape (node name number shape nodes) no_value p at v e = absurd p
field_shape (node name number shape nodes) (value x vs) p zero v e = (shape, first)
  where
    first : (ws : Values) (w : Value) → AreOfShapes (node name number shape nodes) ws → slice_get (values_list ws) 0 ≡ Some w → IsOfShape shape w
    first no_value w q d = absurd q
    first (value y ws) w q d = let same : y ≡ w = cc d in subst (IsOfShape shape) same q.0
field_shape (node name number shape nodes) (value x vs) p (suc at) v e = let more = field_shape nodes vs p.1 at v e in (more.0, later more.0 more.1)
  where
    later : (inner : Shape) → ((ws : Values) (w : Value) → AreOfShapes nodes ws → slice_get (values_list ws) at ≡ Some w → IsOfShape inner w)
        → (ws : Values) (w : Value) → AreOfShapes (node name number shape nodes) ws → slice_get (values_list ws) (suc at) ≡ Some w → IsOfShape inner w
    later inner f no_value w q d = absurd q
    later inner f (value y ws) w q d = f ws w q.1 d

-- The values of a field are of one shape.
pub shape_in : (vs : Values) (others : List Value) (at : ℕ) (v : Value) → AreOfOneShape (Bag vs ∷ others) → slice_get (values_list vs) at ≡ Some v → (found : List Value) → Gathers (IsOfField at) others found
    → AreOfOneShape (v ∷ found)
shape_in vs others at v one there found all = by one.0 one.1
  where
    by : (shape : Shape) → ((w : Value) → IsIn w (Bag vs ∷ others) → IsOfShape shape w) → AreOfOneShape (v ∷ found)
    by (Shape.Bag nodes) of =
        let f = field_shape nodes vs (of (Bag vs) (inl refl)) at v there in (
          f.0,
          λ w i. elim i [
            | inl e ↦ subst (IsOfShape f.0) (sym e) (f.1 vs v (of (Bag vs) (inl refl)) there)
            | inr k ↦ (let t = (all w).0 k in f.1 (t.2).0 w (subst (IsOfShape (Shape.Bag nodes)) (t.2).1 (of t.0 (inr t.1))) (t.2).2)
          ],
        )
    by shape of = absurd (of (Bag vs) (inl refl))

-- ---- what is said

pub elements_said : (kind : ScalarKind) (vs : List ScalarValue) (others : List Value) → ((v : ScalarValue) → IsIn v vs → IsSaid (HasElement v) others) ↔ IsSaidBy (Set kind vs) others
elements_said kind vs others = (each, λ said v i. said (HasElement v) i)
  where
    each : ((v : ScalarValue) → IsIn v vs → IsSaid (HasElement v) others) → (s : Saying) → Says (Set kind vs) s → IsSaid s others
    each f (HasElement v) i = f v i
    each f s i = absurd i

fewer : (x : Value) (writer : List ℕ) (n m : ℕ) → n ≤ m → Says x (CountsTo writer m) → Says x (CountsTo writer n)
fewer (Counter counts) writer n m less t = let more = t.2 in (t.0, t.1, omega (arith, less, more))
fewer x writer n m less t = absurd t

pub counts_said : (counts : List (List ℕ × ℕ)) (others : List Value) → ((writer : List ℕ) (n : ℕ) → IsAt writer n counts → IsSaid (CountsTo writer n) others) ↔ IsSaidBy (Counter counts) others
counts_said counts others = (each, λ said writer n at. said (CountsTo writer n) (n, at, omega arith))
  where
    each : ((writer : List ℕ) (n : ℕ) → IsAt writer n counts → IsSaid (CountsTo writer n) others) → (s : Saying) → Says (Counter counts) s → IsSaid s others
    each f (CountsTo writer n) t = let found = f writer t.0 t.1 in (found.0, found.1, fewer found.0 writer n t.0 t.2 found.2)
    each f s t = absurd t

-- Some map has the key, and all that the value says is said of the values there.
abbrev pub IsEntrySaid : ScalarValue → Value → List Value → Type 0
IsEntrySaid key v others = IsSaid (HasKey key) others × ((s : Saying) → Says v s → IsSaid (OfKey key s) others)

pub entries_said : (es : Entries) (others : List Value) → ((key : ScalarValue) (v : Value) → IsAt key v (pairs es) → IsEntrySaid key v others) ↔ IsSaidBy (Map es) others
entries_said es others = (each, λ said key v at. (said (HasKey key) (IsIn-keys_of (pairs es) key v at), λ s t. said (OfKey key s) (v, at, t)))
  where
    each : ((key : ScalarValue) (v : Value) → IsAt key v (pairs es) → IsEntrySaid key v others) → (s : Saying) → Says (Map es) s → IsSaid s others
    each f (HasKey key) i = let at = key_value (pairs es) key i in (f key at.0 at.1).0
    each f (OfKey key s) t = (f key t.0 t.1).1 s t.2
    each f s t = absurd t

key_there : (key : ScalarValue) (own : Value) → Says own (HasKey key) → (v : Value) × IsAtKey key own v
key_there key (Map es) i = let at = key_value (pairs es) key i in (at.0, (es, refl, at.1))
key_there key own i = absurd i

of_key : (key : ScalarValue) (own : Value) (s : Saying) → Says own (OfKey key s) → (v : Value) × IsAtKey key own v × Says v s
of_key key (Map es) s t = (t.0, (es, refl, t.1), t.2)
of_key key own s t = absurd t

pub entry_said : (key : ScalarValue) (v : Value) (others found : List Value) → Gathers (IsAtKey key) others found → ((w : Value) × IsIn w found) × IsSaidBy v found → IsEntrySaid key v others
entry_said key v others found all f = (
  (let t = (all (f.0).0).0 (f.0).1 in (t.0, t.1, subst (λ m. Says m (HasKey key)) (sym (t.2).1) (IsIn-keys_of (pairs (t.2).0) key (f.0).0 (t.2).2))),
  λ s t.
      let said = f.1 s t in
      let own = (all said.0).0 said.1 in
      (own.0, own.1, subst (λ m. Says m (OfKey key s)) (sym (own.2).1) (said.0, (own.2).2, said.2)),
)

pub entry_found : (key : ScalarValue) (v : Value) (others found : List Value) → Gathers (IsAtKey key) others found → IsEntrySaid key v others → ((w : Value) × IsIn w found) × IsSaidBy v found
entry_found key v others found all f = (
  (let t = f.0 in let at = key_there key t.0 t.2 in (at.0, (all at.0).1 (t.0, t.1, at.1))),
  λ s t. let said = f.1 s t in let at = of_key key said.0 s said.2 in (at.0, (all at.0).1 (said.0, said.1, at.1), at.2),
)

-- All that the value says is said of the fields at this place.
abbrev pub IsFieldSaid : ℕ → Value → List Value → Type 0
IsFieldSaid at v others = (s : Saying) → Says v s → IsSaid (OfField at s) others

pub fields_said : (vs : Values) (others : List Value) → ((at : ℕ) (v : Value) → slice_get (values_list vs) at ≡ Some v → IsFieldSaid at v others) ↔ IsSaidBy (Bag vs) others
fields_said vs others = (each, λ said at v there s t. said (OfField at s) (v, there, t))
  where
    each : ((at : ℕ) (v : Value) → slice_get (values_list vs) at ≡ Some v → IsFieldSaid at v others) → (s : Saying) → Says (Bag vs) s → IsSaid s others
    each f (OfField at s) t = f at t.0 t.1 s t.2
    each f s t = absurd t

in_field : (at : ℕ) (bag : Value) (s : Saying) → Says bag (OfField at s) → (v : Value) × IsOfField at bag v × Says v s
in_field at (Bag vs) s t = (t.0, (vs, refl, t.1), t.2)
in_field at bag s t = absurd t

pub field_said : (at : ℕ) (v : Value) (others found : List Value) → Gathers (IsOfField at) others found → IsSaidBy v found ↔ IsFieldSaid at v others
field_said at v others found all = (
  (λ f s t.
      let said = f s t in
      let own = (all said.0).0 said.1 in
      (own.0, own.1, subst (λ m. Says m (OfField at s)) (sym (own.2).1) (said.0, (own.2).2, said.2))),
  λ f s t. let said = f s t in let own = in_field at said.0 s said.2 in (own.0, (all own.0).1 (said.0, said.1, own.1), own.2),
)

-- ---- a taint or a scalar

abbrev pub IsSaidAlone : Value → List Value → Type 0
IsSaidAlone v others = IsBottom v ⊎ ((w : Value) × IsIn w others × IsValueBelow v w)

alone_together : (v : Value) (others : List Value) → AreOfOneShape (v ∷ others) → ((w : Value) × IsIn w others × IsValueBelow v w) → IsSaidBy v others
alone_together v others one f s t = (f.0, f.1, said_below one.0 v f.0 (one.1 v (inl refl)) (one.1 f.0 (inr f.1)) f.2 s t)

taint_on : (w : Value) → Says w TaintOn → w ≡ Taint true
taint_on (Taint on) e = ap Taint e
taint_on w e = absurd e

pub taint_said : (on : Bool) (others : List Value) → AreOfOneShape (Taint on ∷ others) → IsSaidAlone (Taint on) others ↔ IsSaidBy (Taint on) others
taint_said on others one = ((λ f. elim f [ inl off ↦ nothing off | inr found ↦ alone_together (Taint on) others one found ]), back on)
  where
    nothing : on ≡ false → IsSaidBy (Taint on) others
    nothing off TaintOn e = absurd (cc (e, off))
    nothing off s e = absurd e

    back : (own : Bool) → IsSaidBy (Taint own) others → IsSaidAlone (Taint own) others
    back false said = inl refl
    back true said = let found = said TaintOn refl in inr (found.0, found.1, subst (IsValueBelow (Taint true)) (sym (taint_on found.0 found.2)) refl)

scalar_stays : (pick : Pick) (v : ScalarValue) (w : Value) → Alike (Scalar pick (Some v)) w → Says w (StaysBeside v) → IsValueBelow (Scalar pick (Some v)) w
scalar_stays pick v (Scalar own held) same e = λ i. Scalar (same i) ((subst (λ o. first_of (pick_cmp o) (Some v) held ≡ held) (sym same) e) i)
scalar_stays pick v w same e = absurd e

pub scalar_said : (pick : Pick) (held : Option ScalarValue) (others : List Value) → AreOfOneShape (Scalar pick held ∷ others) → IsSaidAlone (Scalar pick held) others ↔ IsSaidBy (Scalar pick held) others
scalar_said pick held others one = ((λ f. elim f [ inl none ↦ nothing none | inr found ↦ alone_together (Scalar pick held) others one found ]), back held one)
  where
    nothing : held ≡ None → IsSaidBy (Scalar pick held) others
    nothing none (StaysBeside v) e = absurd (let bad : Some v ≡ None = subst (λ o. first_of (pick_cmp pick) (Some v) o ≡ o) none e in cc bad)
    nothing none s e = absurd e

    back : (own : Option ScalarValue) → AreOfOneShape (Scalar pick own ∷ others) → IsSaidBy (Scalar pick own) others → IsSaidAlone (Scalar pick own) others
    back None same said = inl refl
    back (Some v) same said =
        let found = said (StaysBeside v) (first-idem (pick_cmp pick) (pick_total pick) (Some v)) in
        inr (found.0, found.1, scalar_stays pick v found.0 (Alike-shape same.0 (Scalar pick (Some v)) found.0 (same.1 (Scalar pick (Some v)) (inl refl)) (same.1 found.0 (inr found.1))) found.2)

-- A value that is no set, no counter, no map and no bag.
pub alone_answer : (v : Val) (others : List Value) → AreOfOneShape (plain v ∷ others) → ((set : _) → v ≡ code.Set set → ⊥) → ((counts : _) → v ≡ code.Counter counts → ⊥) → ((entries : _) → v ≡ code.Map entries → ⊥)
    → ((values : _) → v ≡ code.Bag values → ⊥) → IsSaidAlone (plain v) others ↔ IsSaidBy (plain v) others
alone_answer (code.Taint on) others one no_set no_counter no_map no_bag = taint_said on others one
alone_answer (code.Scalar held) others one no_set no_counter no_map no_bag = scalar_said Least (option_map value_of held) others one
alone_answer (code.Greatest held) others one no_set no_counter no_map no_bag = scalar_said Greatest (option_map value_of held) others one
alone_answer (code.Set set) others one no_set no_counter no_map no_bag = absurd (no_set set refl)
alone_answer (code.Counter counts) others one no_set no_counter no_map no_bag = absurd (no_counter counts refl)
alone_answer (code.Map entries) others one no_set no_counter no_map no_bag = absurd (no_map entries refl)
alone_answer (code.Bag values) others one no_set no_counter no_map no_bag = absurd (no_bag values refl)

-- ---- walks

pub found_some : (found : List (Bor Val)) (n : ℕ) → n ≡ length found → false ≡ (n == 0) → (w : Value) × IsIn w (values_of found)
found_some [] n long e = absurd (let none : (n == 0) ≡ true = eq-eqb n 0 long in cc (none, e))
found_some (x ∷ found) n long e = (plain x.now, inl refl)

pub found_none : (found : List (Bor Val)) (n : ℕ) → n ≡ length found → true ≡ (n == 0) → (w : Value) × IsIn w (values_of found) → ⊥
found_none [] n long e t = t.1
found_none (x ∷ found) n long e t = let none : n ≡ 0 = eqb-true n 0 (sym e) in absurd (omega (arith, long, none))

-- What holds of each value before a place, and of that there, holds of each before the next.
pub each_value : (T : ℕ → Value → Type 0) (xs : List Value) (i : ℕ) (y : Value) → ((k : ℕ) (x : Value) → k < i → slice_get xs k ≡ Some x → T k x) → slice_get xs i ≡ Some y → T i y
    → (k : ℕ) (x : Value) → k < i + 1 → slice_get xs k ≡ Some x → T k x
each_value T xs i y before here t k x l e = by (cases_lt k i)
  where
    by : (k < i) ⊎ (i ≤ k) → T k x
    by (inl less) = before k x less e
    by (inr more) =
        let same : i ≡ k = omega (arith, l, more) in
        let there : Some y ≡ Some x = sym here ∙ ap (slice_get xs) same ∙ e in
        let one : y ≡ x = cc there in
        subst (λ j. T j x) same (subst (T i) one t)

-- ---- parts that are joined

-- Lists of the same values have one join.
pub alike_join : (values others : List Value) → ((v : Value) → IsIn v values ↔ IsIn v others) → HaveOneJoin values others
alike_join values others same shape joined j = record {
  of_shape = λ v i. j.of_shape v ((same v).1 i);
  join = least_alike shape (λ v. IsIn v values) (λ v. IsIn v others) joined (λ v i. (same v).0 i) (λ v i. (same v).1 i) j.join;
}

pub still_one : (values others : List Value) → AreOfOneShape values → HaveOneJoin values others → AreOfOneShape others
still_one values others one have = let all = join_of_all one.0 values one.1 in (one.0, (have one.0 all.0 all.1).of_shape)

module _ (values : List Value) (x y : Value) where
  last_two : (v : Value) → IsIn v ((values ++ x ∷ []) ++ y ∷ []) → IsIn v values ⊎ ((v ≡ x) ⊎ (v ≡ y))
  last_two v i = elim (in_push v y (values ++ x ∷ []) i) [ inl k ↦ elim (in_push v x values k) [ inl j ↦ inl j | inr e ↦ inr (inl e) ] | inr e ↦ inr (inr e) ]

  -- The last two are joined.
  last_joined : HaveOneJoin ((values ++ x ∷ []) ++ y ∷ []) (values ++ join x y ∷ [])
  last_joined shape joined j = record {
    of_shape = λ v i. elim (in_push v (join x y) values i) [ inl k ↦ j.of_shape v (early v k) | inr e ↦ subst (IsOfShape shape) (sym e) both ];
    join = record {
      of_shape = (j.join).of_shape;
      all = λ v i. elim (in_push v (join x y) values i) [
        | inl k ↦ (j.join).all v (early v k)
        | inr e ↦ subst (λ w. IsValueBelow w joined) (sym e) (below-least shape x y joined p q (j.join).of_shape ((j.join).all x first) ((j.join).all y second))
      ];
      lowest = λ w r f. (j.join).lowest w r (λ v i. elim (last_two v i) [
        | inl k ↦ f v (push_before v (join x y) values k)
        | inr e ↦ below-onwards shape v (join x y) w (j.of_shape v i) both r (under v e) (f (join x y) (push_last (join x y) (join x y) values refl))
      ]);
    };
  }
    where
      early : (v : Value) → IsIn v values → IsIn v ((values ++ x ∷ []) ++ y ∷ [])
      early v k = push_before v y (values ++ x ∷ []) (push_before v x values k)

      first : IsIn x ((values ++ x ∷ []) ++ y ∷ [])
      first = push_before x y (values ++ x ∷ []) (push_last x x values refl)

      second : IsIn y ((values ++ x ∷ []) ++ y ∷ [])
      second = push_last y y (values ++ x ∷ []) refl

      p : IsOfShape shape x
      p = j.of_shape x first

      q : IsOfShape shape y
      q = j.of_shape y second

      both : IsOfShape shape (join x y)
      both = IsOfShape-join shape x y p q

      under : (v : Value) → (v ≡ x) ⊎ (v ≡ y) → IsValueBelow v (join x y)
      under v (inl e) = subst (λ u. IsValueBelow u (join x y)) (sym e) (below-first shape x y p q)
      under v (inr e) = subst (λ u. IsValueBelow u (join x y)) (sym e) (below-second shape x y p q)

-- ---- the parts' own calls

parts_push : (parts : List Val) (part : Val) → map plain (parts ++ part ∷ []) ≡ map plain parts ++ plain part ∷ []
parts_push parts part = map-append plain parts (part ∷ [])

two_last : (old rest front : List Val) (x y : Val) → old ≡ rest ++ y ∷ [] → rest ≡ front ++ x ∷ [] → map plain old ≡ (map plain front ++ plain x ∷ []) ++ plain y ∷ []
two_last old rest front x y d e = ap (map plain) d ∙ parts_push rest y ∙ ap (λ l. l ++ plain y ∷ []) (ap (map plain) e ∙ parts_push front x)

pub join_alike : (old rest front : List Val) (x y : Val) → old ≡ rest ++ y ∷ [] → rest ≡ front ++ x ∷ [] → AreOfOneShape (map plain old) → Alike (plain x) (plain y)
join_alike old rest front x y d e one =
    Alike-shape one.0 (plain x) (plain y) (of (plain x) (push_before (plain x) (plain y) (map plain front ++ plain x ∷ []) (push_last (plain x) (plain x) (map plain front) refl)))
    (of (plain y) (push_last (plain y) (plain y) (map plain front ++ plain x ∷ []) refl))
  where
    of : (v : Value) → IsIn v ((map plain front ++ plain x ∷ []) ++ plain y ∷ []) → IsOfShape one.0 v
    of v i = one.1 v (subst (IsIn v) (sym (two_last old rest front x y d e)) i)

pub joins_last : (old rest front next : List Val) (x y j : Val) → old ≡ rest ++ y ∷ [] → rest ≡ front ++ x ∷ [] → j ≡ val_of (join (plain x) (plain y)) → next ≡ front ++ j ∷ [] → HaveOneJoin (map plain old) (map plain next)
joins_last old rest front next x y j d e is more =
    subst (λ l. HaveOneJoin l (map plain next)) (sym (two_last old rest front x y d e))
    (subst (HaveOneJoin ((map plain front ++ plain x ∷ []) ++ plain y ∷ []))
    (sym (ap (map plain) more ∙ parts_push front j ∙ ap (λ v. map plain front ++ v ∷ []) (ap plain is ∙ value_comes_back (join (plain x) (plain y)))))
    (last_joined (map plain front) (plain x) (plain y)))

pub adds_part : (old next : List Val) (part : Val) → next ≡ old ++ part ∷ [] → HaveOneJoin (plain part ∷ map plain old) (map plain next)
adds_part old next part more =
    subst (HaveOneJoin (plain part ∷ map plain old)) (sym (ap (map plain) more ∙ parts_push old part))
    (alike_join (plain part ∷ map plain old) (map plain old ++ plain part ∷ []) (λ v. (
      (λ i. elim i [ inl e ↦ push_last v (plain part) (map plain old) e | inr k ↦ push_before v (plain part) (map plain old) k ]),
      λ i. elim (in_push v (plain part) (map plain old) i) [ inl k ↦ inr k | inr e ↦ inl e ],
    )))
