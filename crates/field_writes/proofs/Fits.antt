-- The payloads of a write's encoding fit an atom.
use Rattle.std.proofs.Common.{◌≡◌, ℕ, ◌-◌, ◌*◌, ◌^◌, ◌≤◌, List, [], ◌∷◌, ◌++◌, length, inl, inr, refl, sym, ap, ◌∙◌, subst, arith}
use Rattle.std.specs.Prelude.{nat_le}
use Rattle.std.proofs.lemmas.List.Sums.{count_by-le-length}
use Rattle.context_model.specs.declared.TheConstants.{ATOM_MAX}
use Rattle.context_model.specs.Atoms.{Atom}
use Rattle.context_model.specs.Orders.{Path, IsIn}
use Rattle.context_model.specs.KeyedMerge.{IsAt}
use Rattle.context_model.specs.Merged.{last_atom}
use Rattle.context_model.specs.Varints.{big_endian, unsigned_form, unsigned_tail, unsigned_varint}
use Rattle.context_model.proofs.Digits.{length-big_endian}
use Rattle.context_model.specs.declared.Form.{Form as WireForm}
use Rattle.context_model.specs.declared.Form.TheVariants.{One, Two}
use Rattle.bag_model.specs.Encodings.{InLayout, InLayouts}
use Rattle.bag_model.specs.Readings.{datum_path, key_path, node_path}
use Rattle.bag_model.specs.Scalars.{ScalarValue, spelling}
use Rattle.bag_model.specs.Shapes as shapes
use Rattle.bag_model.specs.Shapes.{Shape, Nodes, no_node, node}
use Rattle.bag_model.specs.Values.{Value, Values, bottoms}
use Rattle.bag_model.proofs.OfShape.{IsBottom-bottom}
use Rattle.field_writes.specs.Literals.{IsWriter, most_payload}
use Rattle.field_writes.specs.Writes.{IsWrite, AreWritten}

last_is : (q : Path) (a : Atom) → last_atom (q ++ a ∷ []) ≡ a
last_is [] a = refl
last_is (x ∷ []) a = refl
last_is (x ∷ y ∷ q) a = last_is (y ∷ q) a

-- What is in a list of one.
only_in : {A : Type 0} (a b : A) → IsIn b (a ∷ []) → b ≡ a
only_in a b i = elim i [ inl e ↦ e | inr w ↦ absurd w ]

-- The path ends with an atom that fits.
abbrev Fits : Path → Type 0
Fits p = length (last_atom p) ≤ ATOM_MAX

fits_behind : (q p : Path) (a : Atom) → p ≡ q ++ a ∷ [] → length a ≤ ATOM_MAX → Fits p
fits_behind q p a e few = subst Fits (sym e) (subst (λ (b : Atom). length b ≤ ATOM_MAX) (sym (last_is q a)) few)

short_varint : (n : ℕ) → length (unsigned_varint n) ≤ 9
unfolding unsigned_varint unsigned_form unsigned_tail
short_varint n =
    let limits : List ℕ = 2 ^ 7 ∷ 2 ^ 14 ∷ 2 ^ 21 ∷ 2 ^ 28 ∷ 2 ^ 35 ∷ 2 ^ 42 ∷ 2 ^ 49 ∷ 2 ^ 56 ∷ [] in
    let tail : unsigned_tail n ≤ 8 = count_by-le-length (λ limit. nat_le limit n) limits in
    let rest : length (big_endian (unsigned_tail n) n) ≡ unsigned_tail n = length-big_endian (unsigned_tail n) n in
    omega (arith, tail, rest)

-- What is at a key in a list of one.
only_at : {K X : Type 0} (k : K) (x : X) (l : K) (y : X) → IsAt l y ((k, x) ∷ []) → (l ≡ k) × (y ≡ x)
only_at k x l y i = elim i [ inl e ↦ (e.0, e.1) | inr w ↦ absurd w ]

writer_short : (form : WireForm) (bytes text : List ℕ) → IsWriter form bytes text → length bytes ≤ most_payload form
writer_short form bytes text p = elim p [ inl w ↦ w.1 | inr w ↦ w.1 ]

-- A literal's payload with a byte before it.
fits_payload : (form : WireForm) (first : ℕ) (payload : List ℕ) → length payload ≤ most_payload form → length (first ∷ payload) ≤ ATOM_MAX
fits_payload One first payload few = omega (arith, few)
fits_payload Two first payload few = omega (arith, few)

fits_number : (first n : ℕ) → length (first ∷ unsigned_varint n) ≤ ATOM_MAX
fits_number first n = let few = short_varint n in omega (arith, few)

no_layouts : (nodes : Nodes) (q p : Path) → InLayouts nodes q (bottoms nodes) p → ⊥
no_layouts no_node q p l = l
no_layouts (node name number shape nodes) q p l =
    elim l [ inl w ↦ w.0 (IsBottom-bottom shape) | inr w ↦ no_layouts nodes q p w ]

mutual
  -- Each atom of the layout of a write's value is within the limit of bytes.
  pub write_fits : (form : WireForm) (shape : Shape) (v : Value) (text : List ℕ) (q p : Path) → IsWrite form shape v text → InLayout shape q v p → Fits p
  write_fits form shapes.Shape.Taint v text q p w l = let l' = subst (λ (x : Value). InLayout shapes.Shape.Taint q x p) w.0 l in fits_behind q p (0 ∷ []) l'.1 (omega arith)
  write_fits form (shapes.Shape.Scalar pick kind) v text q p w l =
      let l' = subst (λ (x : Value). InLayout (shapes.Shape.Scalar pick kind) q x p) w.2 l in
      fits_behind q p (0 ∷ spelling kind w.0) l' (fits_payload form 0 (spelling kind w.0) w.1.1)
  write_fits form (shapes.Shape.Set kind) v text q p w l =
      let l' = subst (λ (x : Value). InLayout (shapes.Shape.Set kind) q x p) w.2 l in
      let same = only_in w.0 l'.0 l'.1 in
      fits_behind q p (0 ∷ spelling kind w.0) (l'.2 ∙ ap (λ (s : ScalarValue). datum_path q (spelling kind s)) same) (fits_payload form 0 (spelling kind w.0) w.1.1)
  write_fits form shapes.Shape.Counter v text q p w l =
      let l' = subst (λ (x : Value). InLayout shapes.Shape.Counter q x p) w.6 l in
      let writer = only_at w.0 w.1 l'.0 l'.1 l'.2 in
      elim l'.3 [
        | inl e ↦ fits_behind q p ((249 - 8 * length q) ∷ l'.0) e
            (fits_payload form (249 - 8 * length q) l'.0 (subst (λ (b : List ℕ). length b ≤ most_payload form) (sym writer.0) (writer_short form w.0 w.2 w.3)))
        | inr e ↦ fits_behind (key_path q l'.0) p (0 ∷ unsigned_varint l'.1) e (fits_number 0 l'.1)
      ]
  write_fits form (shapes.Shape.Map kind shape) v text q p w l =
      let l' = subst (λ (x : Value). InLayout (shapes.Shape.Map kind shape) q x p) w.7 l in
      let same = only_at w.0 w.1 l'.0 l'.1 l'.2 in
      elim l'.3 [
        | inl e ↦ fits_behind q p ((249 - 8 * length q) ∷ spelling kind l'.0) e
            (fits_payload form (249 - 8 * length q) (spelling kind l'.0) (subst (λ (s : ScalarValue). length (spelling kind s) ≤ most_payload form) (sym same.0) w.4.1))
        | inr under ↦ write_fits form shape w.1 w.3 (key_path q (spelling kind l'.0)) p w.5 (subst (λ (x : Value). InLayout shape (key_path q (spelling kind l'.0)) x p) same.1 under)
      ]
  write_fits form (shapes.Shape.Bag nodes) v text q p w l =
      written_fits form nodes w.2 w.0 w.1 q p w.3 (subst (λ (x : Value). InLayout (shapes.Shape.Bag nodes) q x p) w.5 l)

  written_fits : (form : WireForm) (nodes : Nodes) (vs : Values) (name text : List ℕ) (q p : Path) → AreWritten form nodes vs name text → InLayouts nodes q vs p → Fits p
  written_fits form no_node vs name text q p w l = absurd w
  written_fits form (node own number shape nodes) vs name text q p w l =
      elim w [
        | inl a ↦ (
            let l' = subst (λ (xs : Values). InLayouts (node own number shape nodes) q xs p) a.1.2 l in
            elim l' [
              | inl here ↦ (elim here.1 [
                | inl e ↦ fits_behind q p ((248 - 8 * length q) ∷ unsigned_varint number) e (fits_number (248 - 8 * length q) number)
                | inr under ↦ write_fits form shape a.1.0 text (node_path q number) p a.1.1 under
              ])
              | inr behind ↦ absurd (no_layouts nodes q p behind)
            ])
        | inr a ↦ (
            let l' = subst (λ (xs : Values). InLayouts (node own number shape nodes) q xs p) a.1.2 l in
            elim l' [
              | inl here ↦ absurd (here.0 (IsBottom-bottom shape))
              | inr behind ↦ written_fits form nodes a.1.0 name text q p a.1.1 behind
            ])
      ]
