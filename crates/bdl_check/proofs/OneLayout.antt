-- A bag has one layout, and a name one table or one fault.
use Rattle.std.proofs.Common.{◌≡◌, ◌⊎◌, inl, inr, ℕ, suc, zero, ◌<◌, ◌≤◌, List, [], ◌∷◌, map, Option, Some, refl, sym, ◌∙◌, ap, subst, arith}
use Rattle.std.specs.List.{Contains, AllPairs}
use Rattle.std.specs.List.Sorted.{IsPermutation, IsStrictlyIncreasing}
use Rattle.std.proofs.lemmas.List.Kept.{AllPairs-from_increasing}
use Rattle.std.proofs.lemmas.List.Sorted.{Contains-permutation, IsPermutation-sym}
use Rattle.bag_model.specs.Scalars.{ScalarKind}
use Rattle.bag_model.specs.Shapes.{Shape, Nodes, Field, fields, node, no_node, Map, Bag as BagOf}
use Rattle.bag_model.specs.Tables.{levels, node_count}
use Rattle.bdl_load.specs.declared.faults.Fault.{Fault}
use Rattle.bdl_parser.specs.declared.trees.Decl.{Decl}
use Rattle.bdl_parser.specs.declared.trees.Decl.TheVariants.{Bag, Struct}
use Rattle.bdl_parser.specs.Trees as trees
use Rattle.bdl_parser.specs.Trees.{BagFieldTree, TypeTree}
use Rattle.bdl_check.specs.Declarations.{Placed, decl_named}
use Rattle.bdl_check.specs.Layouts.{Layout, IsShapeOfDecl, IsShapeOf, IsFieldOf, AreFieldsOf, IsLaidOutInOrder, IsLaidOutWithin, IsLaidOut, held_shape}
use Rattle.bdl_check.specs.Tables.{BagTree, bag_named, FitsTable, IsUnfit, IsTableAmong, IsUntabled}
use Rattle.context_model.specs.declared.TheConstants.{LEVELS_MAX}
use Rattle.bag_model.specs.declared.TheConstants.{FIELDS_MAX}
use Rattle.bdl_check.proofs.Lists.{is_in_front, is_behind}

-- ---- fields in ascending order

abbrev pub Precedes : ℕ → List BagFieldTree → Type 0
Precedes number [] = Unit {0}
Precedes number (y ∷ ys) = (number < y.number) × Precedes number ys

abbrev pub Rising : List BagFieldTree → Type 0
Rising [] = Unit {0}
Rising (x ∷ xs) = Precedes x.number xs × Rising xs

abbrev pub numbers : List BagFieldTree → List ℕ
numbers list = map (λ (tree : BagFieldTree). tree.number) list

pub precedes_too : (n m : ℕ) (ys : List BagFieldTree) → n < m → Precedes m ys → Precedes n ys
precedes_too n m [] less p = tt
precedes_too n m (y ∷ ys) less (first, p) = ((omega arith), precedes_too n m ys less p)

pub rises : (xs : List BagFieldTree) → AllPairs (λ n m. n < m) (numbers xs) → Rising xs
rises [] h = tt
rises (x ∷ []) h = (tt, tt)
rises (x ∷ y ∷ ys) h =
    let first : x.number < y.number = h 0 1 0 (omega arith) (omega arith) in
    let rest = rises (y ∷ ys) (λ i j d less within. h (suc i) (suc j) d (omega (arith, less)) (omega (arith, within))) in
    ((first, precedes_too x.number y.number ys first rest.0), rest)

is_first_or_behind : (y : BagFieldTree) (ys : List BagFieldTree) (x : BagFieldTree) → Contains (y ∷ ys) x → (y ≡ x) ⊎ Contains ys x
is_first_or_behind y ys x (zero, within, is) = inl is
is_first_or_behind y ys x (suc k, within, is) = inr (k, omega (arith, within), is)

precedes_each : (n : ℕ) (ys : List BagFieldTree) (z : BagFieldTree) → Precedes n ys → Contains ys z → n < z.number
precedes_each n [] z p (k, within, is) = absurd (omega (arith, within))
precedes_each n (y ∷ ys) z (less, p) there = elim (is_first_or_behind y ys z there) [
  | inl same ↦ subst (λ (w : BagFieldTree). n < w.number) same less
  | inr behind ↦ precedes_each n ys z p behind
]

-- Of two rising lists with the same elements the first elements are the same.
same_first : (x y : BagFieldTree) (xs ys : List BagFieldTree) → Rising (x ∷ xs) → Rising (y ∷ ys) → Contains (y ∷ ys) x → Contains (x ∷ xs) y → x ≡ y
same_first x y xs ys (px, rx) (py, ry) there back = elim (is_first_or_behind y ys x there) [
  | inl same ↦ sym same
  | inr behind ↦ elim (is_first_or_behind x xs y back) [
    | inl same ↦ same
    | inr before ↦ absurd (let a = precedes_each y.number ys x py behind in let b = precedes_each x.number xs y px before in omega arith)
  ]
]

-- What is in the rest of one is in the rest of the other.
rest_within : (x : BagFieldTree) (xs ys : List BagFieldTree) → Rising (x ∷ xs) → ((z : BagFieldTree) → Contains (x ∷ xs) z → Contains (x ∷ ys) z)
    → (z : BagFieldTree) → Contains xs z → Contains ys z
rest_within x xs ys (px, rx) within z there = elim (is_first_or_behind x ys z (within z (is_behind x xs z there))) [
  | inl same ↦ absurd (let less = precedes_each x.number xs z px there in let equal = ap (λ (w : BagFieldTree). w.number) same in omega arith)
  | inr behind ↦ behind
]

one_order : (xs ys : List BagFieldTree) → Rising xs → Rising ys → ((z : BagFieldTree) → Contains xs z → Contains ys z)
    → ((z : BagFieldTree) → Contains ys z → Contains xs z) → xs ≡ ys
one_order [] [] rx ry there back = refl
one_order [] (y ∷ ys) rx ry there back = absurd (let none = back y (is_in_front y ys) in let within = none.1 in omega (arith, within))
one_order (x ∷ xs) [] rx ry there back = absurd (let none = there x (is_in_front x xs) in let within = none.1 in omega (arith, within))
one_order (x ∷ xs) (y ∷ ys) rx ry there back =
    let same = same_first x y xs ys rx ry (there x (is_in_front x xs)) (back y (is_in_front y ys)) in
    let rest = one_order xs ys rx.1 ry.1
    (rest_within x xs ys rx (λ z is. subst (λ (w : BagFieldTree). Contains (w ∷ ys) z) (sym same) (there z is)))
    (rest_within y ys xs ry (λ z is. subst (λ (w : BagFieldTree). Contains (w ∷ xs) z) same (back z is))) in
    cc (same, rest)

-- The fields of a bag have one ascending order.
pub one_sorted : (list xs ys : List BagFieldTree) → IsPermutation list xs → IsPermutation list ys → IsStrictlyIncreasing (numbers xs)
    → IsStrictlyIncreasing (numbers ys) → xs ≡ ys
one_sorted list xs ys px py rx ry =
    one_order xs ys (rises xs (AllPairs-from_increasing (numbers xs) rx)) (rises ys (AllPairs-from_increasing (numbers ys) ry))
    (λ z there. Contains-permutation list ys z py (Contains-permutation xs list z (IsPermutation-sym list xs px) there))
    (λ z there. Contains-permutation list xs z px (Contains-permutation ys list z (IsPermutation-sym list ys py) there))

-- ---- layouts

-- The layouts of a list by the first and by the second are equal.
abbrev Agree : Layout → Layout → Type 0
Agree A B = (list : List BagFieldTree) (m n : Nodes) → A list m → B list n → m ≡ n

decl_shape : (A B : Layout) → Agree A B → (decl : Decl) (s t : Shape) → IsShapeOfDecl A decl s → IsShapeOfDecl B decl t → s ≡ t
decl_shape A B one (Bag own spot list) s t a b = a.2 ∙ ap BagOf (one list a.0 b.0 a.1 b.1) ∙ sym b.2
decl_shape A B one (Struct own spot list) s t a b = a ∙ sym b

pub same_some : {X : Type 0} (o : Option X) (x y : X) → o ≡ Some x → o ≡ Some y → x ≡ y
same_some o x y a b = let e : Some x ≡ Some y = sym a ∙ b in cc e

one_shape : (ds : List Placed) (A B : Layout) → Agree A B → (tree : TypeTree) (s t : Shape) → IsShapeOf ds A tree s → IsShapeOf ds B tree t → s ≡ t
one_shape ds A B one (trees.leaf (trees.scalar word) spot) s t a b = a ∙ sym b
one_shape ds A B one (trees.leaf trees.float spot) s t a b = absurd a
one_shape ds A B one (trees.leaf trees.double spot) s t a b = absurd a
one_shape ds A B one (trees.leaf trees.taint spot) s t a b = a ∙ sym b
one_shape ds A B one (trees.leaf trees.counter spot) s t a b = a ∙ sym b
one_shape ds A B one (trees.leaf (trees.name text) spot) s t a b =
    let same = same_some (decl_named ds text) a.0 b.0 a.1 b.1 in
    decl_shape A B one b.0.decl s t (subst (λ (d : Placed). IsShapeOfDecl A d.decl s) same a.2) b.2
one_shape ds A B one (trees.held holding element spot) s t a b = a.2 ∙ ap (held_shape holding) (same_some _ a.0 b.0 a.1 b.1) ∙ sym b.2
one_shape ds A B one (trees.map key value spot) s t a b =
    let kind = same_some _ a.0 b.0 a.2 b.2 in
    let inner = one_shape ds A B one value a.1 b.1 a.3 b.3 in
    a.4 ∙ ap (λ (k : ScalarKind). Map k a.1) kind ∙ ap (Map b.0) inner ∙ sym b.4

abbrev made : List ℕ → ℕ → Shape → Field
made name number shape = record { name = name; number = number; shape = shape }

one_field : (ds : List Placed) (A B : Layout) → Agree A B → (tree : BagFieldTree) (f g : Field) → IsFieldOf ds A tree f → IsFieldOf ds B tree g
    → f ≡ g
one_field ds A B one tree f g a b =
    let shape = one_shape ds A B one tree.kind f.shape g.shape a.shape b.shape in
    ap (λ name. made name f.number f.shape) (a.name_is ∙ sym b.name_is) ∙ ap (λ number. made g.name number f.shape) (a.number_is ∙ sym b.number_is)
    ∙ ap (made g.name g.number) shape

one_list : (ds : List Placed) (A B : Layout) → Agree A B → (list : List BagFieldTree) (fs gs : List Field) → AreFieldsOf ds A list fs
    → AreFieldsOf ds B list gs → fs ≡ gs
one_list ds A B one [] [] [] a b = refl
one_list ds A B one [] [] (g ∷ gs) a b = absurd b
one_list ds A B one [] (f ∷ fs) gs a b = absurd a
one_list ds A B one (t ∷ ts) [] gs a b = absurd a
one_list ds A B one (t ∷ ts) (f ∷ fs) [] a b = absurd b
one_list ds A B one (t ∷ ts) (f ∷ fs) (g ∷ gs) (ha, a) (hb, b) =
    let first = one_field ds A B one t f g ha hb in
    let more = one_list ds A B one ts fs gs a b in
    cc (first, more)

-- Fields are those of one bag.
pub same_nodes : (m n : Nodes) → fields m ≡ fields n → m ≡ n
same_nodes no_node no_node e = refl
same_nodes no_node (node name number shape n) e = absurd (cc e)
same_nodes (node name number shape m) no_node e = absurd (cc e)
same_nodes (node name number shape m) (node other place form n) e =
    let first : made name number shape ≡ made other place form = cc e in
    let rest : fields m ≡ fields n = cc e in
    let decl_named = ap (λ (f : Field). f.name) first in
    let numbered = ap (λ (f : Field). f.number) first in
    let shaped = ap (λ (f : Field). f.shape) first in
    let more = same_nodes m n rest in
    cc (decl_named, numbered, shaped, more)

one_in_order : (ds : List Placed) (A B : Layout) → Agree A B → (list : List BagFieldTree) (m n : Nodes) → IsLaidOutInOrder ds A list m
    → IsLaidOutInOrder ds B list n → m ≡ n
one_in_order ds A B one list m n a b =
    let order = one_sorted list a.sorted b.sorted a.same b.same a.rising b.rising in
    same_nodes m n (one_list ds A B one b.sorted (fields m) (fields n) (subst (λ list. AreFieldsOf ds A list (fields m)) order a.each) b.each)

one_within : (ds : List Placed) (room other : ℕ) → Agree (IsLaidOutWithin room ds) (IsLaidOutWithin other ds)
one_within ds zero other list m n a b = absurd a
one_within ds (suc room) zero list m n a b = absurd b
one_within ds (suc room) (suc other) list m n a b = one_in_order ds (IsLaidOutWithin room ds) (IsLaidOutWithin other ds) (one_within ds room other)
    list m n a b

-- A bag has one layout.
pub one_layout : (ds : List Placed) (list : List BagFieldTree) (m n : Nodes) → IsLaidOut ds list m → IsLaidOut ds list n → m ≡ n
one_layout ds list m n a b = one_within ds a.0 b.0 list m n a.1 b.1

-- ---- tables and faults

-- Fields that are laid out in few levels aren't in more.
not_deeper : (ds : List Placed) (list : List BagFieldTree) (m n : Nodes) → IsLaidOut ds list m → IsLaidOut ds list n → LEVELS_MAX < levels m
    → levels n ≤ LEVELS_MAX → ⊥
not_deeper ds list m n a b deep shallow =
    let same = ap levels (one_layout ds list m n a b) in
    omega (arith, same, deep, shallow)

not_larger : (ds : List Placed) (list : List BagFieldTree) (m n : Nodes) → IsLaidOut ds list m → IsLaidOut ds list n → FIELDS_MAX < node_count m
    → node_count n ≤ FIELDS_MAX → ⊥
not_larger ds list m n a b large small =
    let same = ap node_count (one_layout ds list m n a b) in
    omega (arith, same, large, small)

unfit_one : (ds : List Placed) (bag : BagTree) (f g : Fault) → IsUnfit ds bag f → IsUnfit ds bag g → f ≡ g
unfit_one ds bag f g (IsUnfit.deep m a d e) (IsUnfit.deep n b _ e') = e ∙ sym e'
unfit_one ds bag f g (IsUnfit.deep m a d e) (IsUnfit.large n b s l e') = absurd (not_deeper ds bag.list m n a b d s)
unfit_one ds bag f g (IsUnfit.large m a s l e) (IsUnfit.deep n b d e') = absurd (not_deeper ds bag.list n m b a d s)
unfit_one ds bag f g (IsUnfit.large m a s l e) (IsUnfit.large n b _ _ e') = e ∙ sym e'

-- A name has one fault.
pub untabled_one : (ds : List Placed) (root name : List ℕ) (f g : Fault) → IsUntabled ds root name f → IsUntabled ds root name g → f ≡ g
untabled_one ds root name f g (IsUntabled.missing none e) (IsUntabled.missing _ e') = e ∙ sym e'
untabled_one ds root name f g (IsUntabled.missing none e) (IsUntabled.unfit bag chosen u) = absurd (let same = sym none ∙ chosen in cc same)
untabled_one ds root name f g (IsUntabled.unfit bag chosen u) (IsUntabled.missing none e) = absurd (let same = sym none ∙ chosen in cc same)
untabled_one ds root name f g (IsUntabled.unfit bag chosen u) (IsUntabled.unfit other found v) =
    let same = same_some (bag_named ds name) bag other chosen found in
    unfit_one ds other f g (subst (λ (b : BagTree). IsUnfit ds b f) same u) v

-- A name has one table.
pub table_one : (ds : List Placed) (name : List ℕ) (m n : Nodes) → IsTableAmong ds name m → IsTableAmong ds name n → m ≡ n
table_one ds name m n a b =
    let same = same_some (bag_named ds name) a.bag b.bag a.chosen b.chosen in
    one_layout ds b.bag.list m n (subst (λ (bag : BagTree). IsLaidOut ds bag.list m) same a.fits.laid_out) b.fits.laid_out

fits_excludes : (ds : List Placed) (bag : BagTree) (table : Nodes) (f : Fault) → FitsTable ds bag.list table → IsUnfit ds bag f → ⊥
fits_excludes ds bag table f t (IsUnfit.deep n a d e) = not_deeper ds bag.list n table a t.laid_out d t.shallow
fits_excludes ds bag table f t (IsUnfit.large n a s l e) = not_larger ds bag.list n table a t.laid_out l t.small

-- A name with a table has no fault.
pub table_excludes : (ds : List Placed) (root name : List ℕ) (table : Nodes) (f : Fault) → IsTableAmong ds name table → IsUntabled ds root name f → ⊥
table_excludes ds root name table f t (IsUntabled.missing none e) = let chosen = t.chosen in let same = sym none ∙ chosen in cc same
table_excludes ds root name table f t (IsUntabled.unfit bag chosen u) =
    let same = same_some (bag_named ds name) t.bag bag t.chosen chosen in
    fits_excludes ds bag table f (subst (λ (b : BagTree). FitsTable ds b.list table) same t.fits) u
