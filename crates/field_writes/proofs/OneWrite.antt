-- A text is at most one write of a shape, and its value is of the shape.
use Rattle.std.proofs.Common.{◌≡◌, ℕ, List, [], ◌∷◌, ◌++◌, codes, Some, inl, inr, refl, sym, ap, ◌∙◌, subst, append_assoc}
use Rattle.std.specs.Fmt.{decimal}
use Rattle.std.proofs.lemmas.Fmt.{decimal_injective}
use Rattle.context_model.specs.declared.Form.{Form as WireForm}
use Rattle.bag_model.specs.Scalars.{ScalarValue}
use Rattle.bag_model.specs.Shapes as shapes
use Rattle.bag_model.specs.Shapes.{Shape, Nodes, no_node, node}
use Rattle.bag_model.specs.Tables.{AreFields, IsShape}
use Rattle.bag_model.specs.Values.{Value, Values, Scalar, Set, Counter, Map, Bag, no_entry, entry, value, bottom, bottoms, IsOfShape, AreOfShapes}
use Rattle.bag_model.proofs.OfShape.{IsOfShape-bottom, AreOfShapes-bottom}
use Rattle.field_writes.specs.Literals.{IsLiteral, IsWriter}
use Rattle.field_writes.specs.Ends.{BeginsWithOne}
use Rattle.field_writes.specs.Writes.{IsWrite, AreWritten}
use Rattle.field_writes.proofs.Unique.{one_literal, literal_apart, writer_apart}
use Rattle.field_writes.proofs.Bags.{names_apart, written_name}

-- A literal or a writer with a colon after it.
before_colon : (holds : List ℕ → Type 0) (text first rest : List ℕ) → holds first → text ≡ first ++ codes ":" ++ rest → BeginsWithOne holds text (58 ∷ rest)
before_colon holds text first rest p e = record { front = first; fact = p; same = e ∙ append_assoc first (58 ∷ []) rest; end = refl }

same_behind : (s r : List ℕ) → 58 ∷ s ≡ 58 ∷ r → s ≡ r
same_behind s r e = cc e

mutual
  pub one_write : (form : WireForm) (shape : Shape) (v w : Value) (text : List ℕ) → IsShape shape → IsWrite form shape v text → IsWrite form shape w text → v ≡ w
  one_write form shapes.Shape.Taint v w text is p q = p.0 ∙ sym q.0
  one_write form (shapes.Shape.Scalar pick kind) v w text is p q =
      p.2 ∙ ap (λ (s : ScalarValue). Scalar pick (Some s)) (one_literal form kind p.0 q.0 text p.1 q.1) ∙ sym q.2
  one_write form (shapes.Shape.Set kind) v w text is p q =
      p.2 ∙ ap (λ (s : ScalarValue). Set kind (s ∷ [])) (one_literal form kind p.0 q.0 text p.1 q.1) ∙ sym q.2
  one_write form shapes.Shape.Counter v w text is p q =
      let one = writer_apart form p.0 q.0 text (58 ∷ decimal p.1) (58 ∷ decimal q.1) (before_colon (IsWriter form p.0) text p.2 (decimal p.1) p.3 p.5) (before_colon (IsWriter form q.0) text q.2 (decimal q.1) q.3 q.5) in
      let count : p.1 ≡ q.1 = decimal_injective p.1 q.1 p.4 q.4 (same_behind (decimal p.1) (decimal q.1) one.1) in
      p.6 ∙ (λ i. Counter ((one.0 i, count i) ∷ [])) ∙ sym q.6
  one_write form (shapes.Shape.Map kind shape) v w text is p q =
      let one = literal_apart form kind p.0 q.0 text (58 ∷ p.3) (58 ∷ q.3) (before_colon (IsLiteral form kind p.0) text p.2 p.3 p.4 p.6) (before_colon (IsLiteral form kind q.0) text q.2 q.3 q.4 q.6) in
      let behind = same_behind p.3 q.3 one.1 in
      let under = one_write form shape p.1 q.1 p.3 is.1 p.5 (subst (IsWrite form shape q.1) (sym behind) q.5) in
      p.7 ∙ (λ i. Map (entry (one.0 i) (under i) no_entry)) ∙ sym q.7
  one_write form (shapes.Shape.Bag nodes) v w text is p q =
      let one = names_apart text p.0 q.0 p.1 q.1 p.4 (written_name form nodes p.2 p.0 p.1 is p.3) q.4 (written_name form nodes q.2 q.0 q.1 is q.3) in
      let other = subst (λ l. AreWritten form nodes q.2 p.0 l) (sym one.1) (subst (λ l. AreWritten form nodes q.2 l q.1) (sym one.0) q.3) in
      p.5 ∙ ap Bag (one_written form nodes p.2 q.2 p.0 p.1 is p.3 other) ∙ sym q.5

  one_written : (form : WireForm) (nodes : Nodes) (vs ws : Values) (name text : List ℕ) → AreFields nodes → AreWritten form nodes vs name text → AreWritten form nodes ws name text → vs ≡ ws
  one_written form no_node vs ws name text are p q = absurd p
  one_written form (node own number shape nodes) vs ws name text are p q =
      elim p [
        | inl a ↦ (elim q [
          | inl b ↦ a.1.2 ∙ ap (λ (x : Value). value x (bottoms nodes)) (one_write form shape a.1.0 b.1.0 text are.2 a.1.1 b.1.1) ∙ sym b.1.2
          | inr b ↦ absurd (b.0 a.0)
        ])
        | inr a ↦ (elim q [
          | inl b ↦ absurd (a.0 b.0)
          | inr b ↦ a.1.2 ∙ ap (value (bottom shape)) (one_written form nodes a.1.0 b.1.0 name text are.4 a.1.1 b.1.1) ∙ sym b.1.2
        ])
      ]

mutual
  pub write_of_shape : (form : WireForm) (shape : Shape) (v : Value) (text : List ℕ) → IsWrite form shape v text → IsOfShape shape v
  write_of_shape form shapes.Shape.Taint v text p = subst (IsOfShape shapes.Shape.Taint) (sym p.0) tt
  write_of_shape form (shapes.Shape.Scalar pick kind) v text p = subst (IsOfShape (shapes.Shape.Scalar pick kind)) (sym p.2) (refl, p.1.0)
  write_of_shape form (shapes.Shape.Set kind) v text p = subst (IsOfShape (shapes.Shape.Set kind)) (sym p.2) (refl, tt, (p.1.0, tt))
  write_of_shape form shapes.Shape.Counter v text p = subst (IsOfShape shapes.Shape.Counter) (sym p.6) (tt, (p.4, tt))
  write_of_shape form (shapes.Shape.Map kind shape) v text p =
      subst (IsOfShape (shapes.Shape.Map kind shape)) (sym p.7) (tt, ((p.4.0, write_of_shape form shape p.1 p.3 p.5), tt))
  write_of_shape form (shapes.Shape.Bag nodes) v text p = subst (IsOfShape (shapes.Shape.Bag nodes)) (sym p.5) (written_of_shapes form nodes p.2 p.0 p.1 p.3)

  written_of_shapes : (form : WireForm) (nodes : Nodes) (vs : Values) (name text : List ℕ) → AreWritten form nodes vs name text → AreOfShapes nodes vs
  written_of_shapes form no_node vs name text p = absurd p
  written_of_shapes form (node own number shape nodes) vs name text p =
      elim p [
        | inl a ↦ subst (AreOfShapes (node own number shape nodes)) (sym a.1.2) (write_of_shape form shape a.1.0 text a.1.1, AreOfShapes-bottom nodes)
        | inr a ↦ subst (AreOfShapes (node own number shape nodes)) (sym a.1.2) (IsOfShape-bottom shape, written_of_shapes form nodes a.1.0 name text a.1.1)
      ]
