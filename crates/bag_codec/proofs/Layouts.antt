-- What is said of a value by its parts is what an encoding asks for.
use Rattle.std.proofs.Common.{◌≡◌, ℕ, ◌-◌, ◌*◌, ◌≤◌, List, [], ◌∷◌, ◌++◌, length, None, Some, inl, inr, refl, sym, subst, arith}
use Rattle.std.specs.List.{AllByRecursion}
use Rattle.std.specs.Prelude.{nat_le, ◌^◌}
use Rattle.std.proofs.lemmas.List.Sums.{count_by-le-length}
use Rattle.context_model.specs.declared.TheConstants.{ATOM_MAX}
use Rattle.context_model.specs.Atoms.{Atom}
use Rattle.context_model.specs.Merged.{last_atom}
use Rattle.context_model.specs.Orders.{Path}
use Rattle.context_model.specs.Varints.{big_endian, unsigned_form, unsigned_tail, unsigned_varint}
use Rattle.context_model.proofs.Digits.{length-big_endian}
use Rattle.context_model.proofs.GreedyElements.{All-at, All-from}
use Rattle.context_model.proofs.MergeLaws.{EachPair-at, EachPair-from}
use Rattle.bag_model.specs.Encodings.{InLayout, InLayouts}
use Rattle.bag_model.specs.Joins.{Proper, AreProper}
use Rattle.bag_model.specs.Readings.{datum_path, key_path, node_path}
use Rattle.bag_model.specs.Scalars.{ScalarKind, IsScalarOf, spelling}
use Rattle.bag_model.specs.Shapes as shapes
use Rattle.bag_model.specs.Shapes.{Shape, Nodes, no_node, node}
use Rattle.bag_model.specs.Values.{Value, Values, Taint, Scalar, Set, Counter, Map, Bag, no_value, value, pairs, IsOfShape, AreOfShapes}
use Rattle.bag_model.proofs.JoinLaws.{AreProperEntries-at}
use Rattle.bag_model.proofs.LayoutLaws.{InLayout-bottom}
use Rattle.bag_codec.specs.Encodable.{HasRoom, FitsAtom, IsEncodable, AreEncodable}

-- ---- atoms after a path

pub last_is : (q : Path) (a : Atom) → last_atom (q ++ a ∷ []) ≡ a
last_is [] a = refl
last_is (x ∷ []) a = refl
last_is (x ∷ y ∷ q) a = last_is (y ∷ q) a

-- The path ends with an atom that is within the limit.
abbrev pub Fits : Path → Type 0
Fits p = length (last_atom p) ≤ ATOM_MAX

-- Each path of the layout does.
abbrev pub LayoutFits : Shape → Path → Value → Type 0
LayoutFits shape q v = (p : Path) → InLayout shape q v p → Fits p

abbrev pub LayoutsFit : Nodes → Path → Values → Type 0
LayoutsFit nodes q vs = (p : Path) → InLayouts nodes q vs p → Fits p

fits_behind : (q p : Path) (first : ℕ) (bytes : List ℕ) → p ≡ q ++ (first ∷ bytes) ∷ [] → HasRoom bytes → Fits p
fits_behind q p first bytes e room = subst Fits (sym e) (subst (λ (a : Atom). length a ≤ ATOM_MAX) (sym (last_is q (first ∷ bytes))) (omega (arith, room)))

pub room_behind : (q : Path) (first : ℕ) (bytes : List ℕ) → Fits (q ++ (first ∷ bytes) ∷ []) → HasRoom bytes
room_behind q first bytes fits = let few = subst (λ (a : Atom). length a ≤ ATOM_MAX) (last_is q (first ∷ bytes)) fits in omega (arith, few)

short_varint : (n : ℕ) → length (unsigned_varint n) ≤ 9
unfolding unsigned_varint unsigned_form unsigned_tail
short_varint n =
    let limits : List ℕ = 2 ^ 7 ∷ 2 ^ 14 ∷ 2 ^ 21 ∷ 2 ^ 28 ∷ 2 ^ 35 ∷ 2 ^ 42 ∷ 2 ^ 49 ∷ 2 ^ 56 ∷ [] in
    let tail : unsigned_tail n ≤ 8 = count_by-le-length (λ limit. nat_le limit n) limits in
    let rest : length (big_endian (unsigned_tail n) n) ≡ unsigned_tail n = length-big_endian (unsigned_tail n) n in
    omega (arith, tail, rest)

number_room : (n : ℕ) → HasRoom (unsigned_varint n)
number_room n = let few = short_varint n in omega (arith, few)

-- ---- what fits by its parts has a layout that fits

mutual
  pub layout_fits : (shape : Shape) (q : Path) (v : Value) → IsEncodable shape v → LayoutFits shape q v
  layout_fits shapes.Taint q (Taint on) e p l = fits_behind q p 0 [] l.1 (omega arith)
  layout_fits shapes.Taint q v e p l = absurd e
  layout_fits (shapes.Scalar pick kind) q (Scalar own None) e p l = absurd l
  layout_fits (shapes.Scalar pick kind) q (Scalar own (Some v)) e p l = fits_behind q p 0 (spelling kind v) l e.1.1
  layout_fits (shapes.Scalar pick kind) q v e p l = absurd e
  layout_fits (shapes.Set kind) q (Set own vs) e p l = fits_behind q p 0 (spelling kind l.0) l.2 (All-at (FitsAtom kind) vs l.0 e.1 l.1).1
  layout_fits (shapes.Set kind) q v e p l = absurd e
  layout_fits shapes.Counter q (Counter counts) e p l =
      elim l.3 [
        | inl is ↦ fits_behind q p (249 - 8 * length q) l.0 is (EachPair-at (λ writer n. HasRoom writer) counts l.0 l.1 e l.2)
        | inr is ↦ fits_behind (key_path q l.0) p 0 (unsigned_varint l.1) is (number_room l.1)
      ]
  layout_fits shapes.Counter q v e p l = absurd e
  layout_fits (shapes.Map kind shape) q (Map es) e p l =
      let own = EachPair-at (λ key v. FitsAtom kind key × IsEncodable shape v) (pairs es) l.0 l.1 e l.2 in
      elim l.3 [
        | inl is ↦ fits_behind q p (249 - 8 * length q) (spelling kind l.0) is own.0.1
        | inr under ↦ layout_fits shape (key_path q (spelling kind l.0)) l.1 own.1 p under
      ]
  layout_fits (shapes.Map kind shape) q v e p l = absurd e
  layout_fits (shapes.Bag nodes) q (Bag vs) e p l = layouts_fit nodes q vs e p l
  layout_fits (shapes.Bag nodes) q v e p l = absurd e

  pub layouts_fit : (nodes : Nodes) (q : Path) (vs : Values) → AreEncodable nodes vs → LayoutsFit nodes q vs
  layouts_fit no_node q vs e p l = absurd l
  layouts_fit (node name number shape nodes) q no_value e p l = absurd l
  layouts_fit (node name number shape nodes) q (value v vs) e p l =
      elim l [
        | inl here ↦ (elim here.1 [
          | inl is ↦ fits_behind q p (248 - 8 * length q) (unsigned_varint number) is (number_room number)
          | inr under ↦ layout_fits shape (node_path q number) v e.0 p under
        ])
        | inr behind ↦ layouts_fit nodes q vs e.1 p behind
      ]

-- ---- and is of its shape

mutual
  pub of_shape : (shape : Shape) (v : Value) → Proper v → IsEncodable shape v → IsOfShape shape v
  of_shape shapes.Taint (Taint on) p e = tt
  of_shape shapes.Taint v p e = absurd e
  of_shape (shapes.Scalar pick kind) (Scalar own None) p e = e
  of_shape (shapes.Scalar pick kind) (Scalar own (Some v)) p e = (e.0, e.1.0)
  of_shape (shapes.Scalar pick kind) v p e = absurd e
  of_shape (shapes.Set kind) (Set own vs) p e = (e.0, p.0, subst (λ (other : ScalarKind). AllByRecursion (IsScalarOf other) vs) e.0 p.1)
  of_shape (shapes.Set kind) v p e = absurd e
  of_shape shapes.Counter (Counter counts) p e = p
  of_shape shapes.Counter v p e = absurd e
  of_shape (shapes.Map kind shape) (Map es) p e = (
    p.0,
    EachPair-from (λ key v. IsScalarOf kind key × IsOfShape shape v) (pairs es) (λ key v at.
        let own = EachPair-at (λ key v. FitsAtom kind key × IsEncodable shape v) (pairs es) key v e at in
        (own.0.0, of_shape shape v (AreProperEntries-at es key v p.1 at) own.1)),
  )
  of_shape (shapes.Map kind shape) v p e = absurd e
  of_shape (shapes.Bag nodes) (Bag vs) p e = of_shapes nodes vs p e
  of_shape (shapes.Bag nodes) v p e = absurd e

  pub of_shapes : (nodes : Nodes) (vs : Values) → AreProper vs → AreEncodable nodes vs → AreOfShapes nodes vs
  of_shapes no_node no_value p e = tt
  of_shapes no_node (value v vs) p e = absurd e
  of_shapes (node name number shape nodes) no_value p e = absurd e
  of_shapes (node name number shape nodes) (value v vs) p e = (of_shape shape v p.0 e.0, of_shapes nodes vs p.1 e.1)

-- ---- what is of its shape, with a layout that fits, fits by its parts

mutual
  pub by_parts : (shape : Shape) (q : Path) (v : Value) → IsOfShape shape v → LayoutFits shape q v → IsEncodable shape v
  by_parts shapes.Taint q (Taint on) o f = tt
  by_parts shapes.Taint q v o f = absurd o
  by_parts (shapes.Scalar pick kind) q (Scalar own None) o f = o
  by_parts (shapes.Scalar pick kind) q (Scalar own (Some v)) o f = (o.0, (o.1, room_behind q 0 (spelling kind v) (f (datum_path q (spelling kind v)) refl)))
  by_parts (shapes.Scalar pick kind) q v o f = absurd o
  by_parts (shapes.Set kind) q (Set own vs) o f = (
    o.0,
    All-from (FitsAtom kind) vs
        (λ v at. (All-at (IsScalarOf kind) vs v o.2 at, room_behind q 0 (spelling kind v) (f (datum_path q (spelling kind v)) (v, at, refl)))),
  )
  by_parts (shapes.Set kind) q v o f = absurd o
  by_parts shapes.Counter q (Counter counts) o f =
      EachPair-from (λ writer n. HasRoom writer) counts
      (λ writer n at. room_behind q (249 - 8 * length q) writer (f (key_path q writer) (writer, n, at, inl refl)))
  by_parts shapes.Counter q v o f = absurd o
  by_parts (shapes.Map kind shape) q (Map es) o f =
      EachPair-from (λ key v. FitsAtom kind key × IsEncodable shape v) (pairs es)
      (λ key v at.
      let own = EachPair-at (λ key v. IsScalarOf kind key × IsOfShape shape v) (pairs es) key v o.1 at in
      let path = key_path q (spelling kind key) in (
        (own.0, room_behind q (249 - 8 * length q) (spelling kind key) (f path (key, v, at, inl refl))),
        by_parts shape path v own.1 (λ p l. f p (key, v, at, inr l)),
      ))
  by_parts (shapes.Map kind shape) q v o f = absurd o
  by_parts (shapes.Bag nodes) q (Bag vs) o f = each_by_parts nodes q vs o f
  by_parts (shapes.Bag nodes) q v o f = absurd o

  pub each_by_parts : (nodes : Nodes) (q : Path) (vs : Values) → AreOfShapes nodes vs → LayoutsFit nodes q vs → AreEncodable nodes vs
  each_by_parts no_node q no_value o f = tt
  each_by_parts no_node q (value v vs) o f = absurd o
  each_by_parts (node name number shape nodes) q no_value o f = absurd o
  each_by_parts (node name number shape nodes) q (value v vs) o f =
      let path = node_path q number in (
        by_parts shape path v o.0 (λ p l. f p (inl ((λ b. InLayout-bottom shape path v p b l), inr l))),
        each_by_parts nodes q vs o.1 (λ p l. f p (inr l)),
      )
