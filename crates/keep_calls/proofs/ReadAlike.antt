-- What is read depends on the data and the keys below a path alone.
use Rattle.std.proofs.Common.{◌≡◌, ◌⊎◌, inl, inr, ◌↔◌, ℕ, suc, ◌+◌, ◌-◌, ◌*◌, ◌<◌, ◌≤◌, List, [], ◌∷◌, ◌++◌, length, Option, Some, None, Ordering, sym, refl, ◌∙◌, subst, arith, append_assoc}
use Rattle.context_model.specs.Atoms.{Atom}
use Rattle.context_model.specs.Kinds.{atom_of}
use Rattle.context_model.specs.Kinds.Kind.{Indexed, Keyed}
use Rattle.context_model.specs.Orders.{Path}
use Rattle.context_model.specs.Ended.{IsBelow, field_path_from}
use Rattle.context_model.specs.Varints.{unsigned_varint}
use Rattle.context_model.proofs.MergedLaws.{same_end}
use Rattle.context_model.proofs.MergeLaws.{EachPair-at, EachPair-from}
use Rattle.bag_model.specs.declared.Pick.{Pick}
use Rattle.bag_model.specs.Scalars.{ScalarKind, ScalarValue, pick_cmp, spelling}
use Rattle.bag_model.specs.Shapes.{Shape, Nodes, Taint, Scalar, Set, Counter, Map, Bag, no_node, node}
use Rattle.bag_model.specs.Slots.{SlotAt}
use Rattle.bag_model.specs.Values.{Value, Values, Taint, Scalar, Set, Counter, Map, Bag, no_value, value, pairs}
use Rattle.bag_model.specs.Readings.{PathsOf, key_path, node_path, HasScalar, IsFirst, IsGreatest, Reads, ReadsEach}
use Rattle.keep_calls.specs.declared.others.Others.{Others}
use Rattle.keep_calls.specs.Kept.{IsKeptPath, IsOnTheWay, next_numbers, gap_mark}
use Rattle.keep_calls.specs.Laws.{KeepsList, IsSlotOrNone, IsToldByTable}
use Rattle.keep_calls.proofs.SlotGaps.{own, next, few, next_few, front_or_whole}

-- Both sets have the same data and the same keys below q.
abbrev pub SaysAlike : Path → (Path → Type 0) → (Path → Type 0) → Type 0
SaysAlike q P Q = (r : Path) (bytes : List ℕ)
    → (P (q ++ (r ++ (0 ∷ bytes) ∷ [])) ↔ Q (q ++ (r ++ (0 ∷ bytes) ∷ [])))
    × ((n : ℕ) → P (q ++ (r ++ ((249 - 8 * n) ∷ bytes) ∷ [])) ↔ Q (q ++ (r ++ ((249 - 8 * n) ∷ bytes) ∷ [])))

pub turned : (q : Path) (P Q : Path → Type 0) → SaysAlike q P Q → SaysAlike q Q P
turned q P Q s = λ r bytes. let a = s r bytes in ((a.0.1, a.0.0), λ n. let b = a.1 n in (b.1, b.0))

alike_step : (q : Path) (a : Atom) (P Q : Path → Type 0) → SaysAlike q P Q → SaysAlike (q ++ a ∷ []) P Q
alike_step q a P Q s = λ r bytes. (
  by (r ++ (0 ∷ bytes) ∷ []) (s (a ∷ r) bytes).0,
  λ n. by (r ++ ((249 - 8 * n) ∷ bytes) ∷ []) ((s (a ∷ r) bytes).1 n),
)
  where
    by : (t : Path) → P (q ++ (a ∷ t)) ↔ Q (q ++ (a ∷ t)) → P ((q ++ a ∷ []) ++ t) ↔ Q ((q ++ a ∷ []) ++ t)
    by t f = subst (λ v. P v ↔ Q v) (sym (append_assoc q (a ∷ []) t)) f

module _ (P Q : Path → Type 0) (q : Path) (s : SaysAlike q P Q) where
  scalar_there : (kind : ScalarKind) (v : ScalarValue) → HasScalar kind P q v → HasScalar kind Q q v
  scalar_there kind v h = (h.0, (s [] (spelling kind v)).0.0 h.1)

  scalar_back : (kind : ScalarKind) (v : ScalarValue) → HasScalar kind Q q v → HasScalar kind P q v
  scalar_back kind v h = (h.0, (s [] (spelling kind v)).0.1 h.1)

  key_there : (key : List ℕ) → P (key_path q key) → Q (key_path q key)
  key_there key i = ((s [] key).1 (length q)).0 i

  key_back : (key : List ℕ) → Q (key_path q key) → P (key_path q key)
  key_back key i = ((s [] key).1 (length q)).1 i

  first_alike : (R : ScalarValue → ScalarValue → Ordering) (kind : ScalarKind) (o : Option ScalarValue) → IsFirst R kind P q o → IsFirst R kind Q q o
  first_alike R kind None f = λ w h. f w (scalar_back kind w h)
  first_alike R kind (Some v) f = (scalar_there kind v f.0, λ w h. f.1 w (scalar_back kind w h))

  greatest_alike : (n : ℕ) → IsGreatest P q n → IsGreatest Q q n
  greatest_alike n g = (elim g.0 [ inl h ↦ inl (h.0, (s [] (unsigned_varint n)).0.0 h.1) | inr e ↦ inr e ], λ m h. g.1 m (h.0, (s [] (unsigned_varint m)).0.1 h.1))

  taint_alike : (v : Value) → Reads Taint P q v → Reads Taint Q q v
  taint_alike (Taint on) r = ((λ t. let d = r.0 t in (d.0, (s [] d.0).0.0 d.1)), λ d. r.1 (d.0, (s [] d.0).0.1 d.1))
  taint_alike other r = absurd r

  scalar_alike : (pick : Pick) (kind : ScalarKind) (v : Value) → Reads (Scalar pick kind) P q v → Reads (Scalar pick kind) Q q v
  scalar_alike pick kind (Scalar own o) r = (r.0, first_alike (pick_cmp pick) kind o r.1)
  scalar_alike pick kind other r = absurd r

  set_alike : (kind : ScalarKind) (v : Value) → Reads (Set kind) P q v → Reads (Set kind) Q q v
  set_alike kind (Set own vs) r = (r.0, r.1, λ v. ((λ i. scalar_there kind v ((r.2 v).0 i)), λ h. (r.2 v).1 (scalar_back kind v h)))
  set_alike kind other r = absurd r

  counter_alike : ((key : List ℕ) (n : ℕ) → IsGreatest P (key_path q key) n → IsGreatest Q (key_path q key) n) → (v : Value) → Reads Counter P q v → Reads Counter Q q v
  counter_alike below (Counter counts) r = (
    r.0,
    λ w. ((λ i. key_there w ((r.1 w).0 i)), λ h. (r.1 w).1 (key_back w h)),
    EachPair-from (λ w n. IsGreatest Q (key_path q w) n) counts (λ w n at. below w n (EachPair-at (λ w n. IsGreatest P (key_path q w) n) counts w n r.2 at)),
  )
  counter_alike below other r = absurd r

  map_alike : (kind : ScalarKind) (shape : Shape) → ((key : List ℕ) (v : Value) → Reads shape P (key_path q key) v → Reads shape Q (key_path q key) v)
      → (v : Value) → Reads (Map kind shape) P q v → Reads (Map kind shape) Q q v
  map_alike kind shape below (Map es) r = (
    r.0,
    λ k. ((λ i. let h = (r.1 k).0 i in (h.0, key_there (spelling kind k) h.1)), λ h. (r.1 k).1 (h.0, key_back (spelling kind k) h.1)),
    EachPair-from (λ k v. Reads shape Q (key_path q (spelling kind k)) v) (pairs es)
        (λ k v at. below (spelling kind k) v (EachPair-at (λ k v. Reads shape P (key_path q (spelling kind k)) v) (pairs es) k v r.2 at)),
  )
  map_alike kind shape below other r = absurd r

mutual
  -- Two sets with the same data and keys below a path read the same there.
  pub Reads-says : (shape : Shape) (P Q : Path → Type 0) (q : Path) (v : Value) → SaysAlike q P Q → Reads shape P q v → Reads shape Q q v
  Reads-says Taint P Q q v s r = taint_alike P Q q s v r
  Reads-says (Scalar pick kind) P Q q v s r = scalar_alike P Q q s pick kind v r
  Reads-says (Set kind) P Q q v s r = set_alike P Q q s kind v r
  Reads-says Counter P Q q v s r = counter_alike P Q q s (λ key n g. greatest_alike P Q (key_path q key) (alike_step q (atom_of (Keyed (length q) key)) P Q s) n g) v r
  Reads-says (Map kind shape) P Q q v s r = map_alike P Q q s kind shape (λ key w t. Reads-says shape P Q (key_path q key) w (alike_step q (atom_of (Keyed (length q) key)) P Q s) t) v r
  Reads-says (Bag nodes) P Q q (Bag vs) s r = ReadsEach-says nodes P Q q vs s r
  Reads-says (Bag nodes) P Q q other s r = absurd r

  ReadsEach-says : (nodes : Nodes) (P Q : Path → Type 0) (q : Path) (vs : Values) → SaysAlike q P Q → ReadsEach nodes P q vs → ReadsEach nodes Q q vs
  ReadsEach-says no_node P Q q no_value s r = tt
  ReadsEach-says (node name number shape nodes) P Q q (value v vs) s r =
      (Reads-says shape P Q (node_path q number) v (alike_step q (atom_of (Indexed (length q) number)) P Q s) r.0, ReadsEach-says nodes P Q q vs s r.1)
  ReadsEach-says nodes P Q q vs s r = absurd r

-- ---- paths of the table have neither data nor keys

-- The first byte is that of no header of a field, and there is one.
abbrev IsOther : Atom → Type 0
IsOther a = (first : ℕ) × (rest : List ℕ) × (a ≡ first ∷ rest) × ((m : ℕ) → m < 16 → first ≡ 248 - 8 * m → ⊥)

datum_other : (bytes : List ℕ) → IsOther (0 ∷ bytes)
datum_other bytes = (0, bytes, refl, λ m l e. omega (arith, l, e))

key_other : (n : ℕ) (bytes : List ℕ) → IsOther ((249 - 8 * n) ∷ bytes)
key_other n bytes = (249 - 8 * n, bytes, refl, λ m l e. omega (arith, l, e))

not_among : (n : ℕ) (numbers : List ℕ) (r : Path) (a : Atom) (rest : Path) → n + length numbers ≤ 16 → IsOther a → field_path_from n numbers ≡ r ++ a ∷ rest → ⊥
not_among n [] [] a rest few other e = cc
not_among n [] (x ∷ r) a rest few other e = cc
not_among n (number ∷ numbers) [] a rest few other e =
    let head : (248 - 8 * n) ∷ unsigned_varint number ≡ a = cc in
    let same : (248 - 8 * n) ∷ unsigned_varint number ≡ other.0 ∷ other.1 = head ∙ other.2 in
    let first : 248 - 8 * n ≡ other.0 = cc in
    other.3 n (omega (arith, few)) (sym first)
not_among n (number ∷ numbers) (x ∷ r) a rest few other e =
    let tail : field_path_from (suc n) numbers ≡ r ++ a ∷ rest = cc in
    not_among (suc n) numbers r a rest (omega (arith, few)) other tail

module _ (nodes : Nodes) (others : Others) (list kept : List Atom) (k : KeepsList nodes others list kept) (r : Path) (a : Atom) (other : IsOther a) where
  pub off_way : IsOnTheWay nodes (r ++ a ∷ []) → ⊥
  off_way (slot, i, (rest, e)) = not_among 0 slot.numbers r a rest (omega (arith, few nodes k.table slot i)) other (e ∙ append_assoc r (a ∷ []) rest)

  off_mark : (gap : Option SlotAt) → IsSlotOrNone nodes gap → IsBelow (r ++ a ∷ []) (gap_mark gap) → ⊥
  off_mark None i (rest, e) = by r e
    where
      by : (t : Path) → let m : Path = [] ∷ [] in m ≡ (t ++ a ∷ []) ++ rest → ⊥
      by [] f = let none : [] ≡ a = cc in let clash : [] ≡ other.0 ∷ other.1 = none ∙ other.2 in cc
      by (x ∷ []) f = cc
      by (x ∷ y ∷ t) f = cc
  off_mark (Some slot) i (rest, e) = elim (front_or_whole (r ++ a ∷ []) rest (next slot) [] e) [
    | inl whole ↦ (let none : a ≡ [] = (same_end r (next slot) a [] whole).1 in let clash : other.0 ∷ other.1 ≡ [] = sym other.2 ∙ none in cc)
    | inr (t, f) ↦ not_among 0 (next_numbers slot.numbers) r a t (omega (arith, next_few nodes k.table slot i)) other (f ∙ append_assoc r (a ∷ []) t)
  ]

  pub off_table : IsToldByTable nodes (r ++ a ∷ []) → ⊥
  off_table (inl way) = off_way way
  off_table (inr (gap, i, below)) = off_mark gap i below

-- What is beyond doubt of paths below s is the same in both.
pub says_alike : (nodes : Nodes) (others : Others) (list kept : List Atom) (k : KeepsList nodes others list kept) (s : Path)
    → ((p : Path) → PathsOf kept p → (IsKeptPath nodes p × PathsOf list p) ⊎ IsToldByTable nodes p)
    → ((p : Path) → IsBelow s p → PathsOf list p → (IsOnTheWay nodes p → ⊥) → PathsOf kept p) → SaysAlike s (PathsOf kept) (PathsOf list)
says_alike nodes others list kept k s only whole = λ r bytes. (both r (0 ∷ bytes) (datum_other bytes), λ n. both r ((249 - 8 * n) ∷ bytes) (key_other n bytes))
  where
    both : (r : Path) (a : Atom) → IsOther a → PathsOf kept (s ++ (r ++ a ∷ [])) ↔ PathsOf list (s ++ (r ++ a ∷ []))
    both r a other = (
      λ i. elim (only (s ++ (r ++ a ∷ [])) i) [
        | inl h ↦ h.1
        | inr t ↦ absurd (off_table nodes others list kept k (s ++ r) a other (subst (IsToldByTable nodes) (sym (append_assoc s r (a ∷ []))) t))
      ],
      λ i. whole (s ++ (r ++ a ∷ [])) (r ++ a ∷ [], refl) i (λ way. off_way nodes others list kept k (s ++ r) a other (subst (IsOnTheWay nodes) (sym (append_assoc s r (a ∷ []))) way)),
    )
