-- What is typed under an old shape is spelled rightly for both, where the new one fits.
use Rattle.std.proofs.Common.{inl, inr, refl}
use Rattle.context_model.specs.Orders.{Path}
use Rattle.bag_model.specs.Shapes.{Shape, Nodes, Field, Taint, Scalar, Set, Counter, Map, Bag, no_node, node}
use Rattle.bag_model.specs.Readings.{key_path, node_path}
use Rattle.bag_model.specs.Typed.{IsTyped, AreTyped}
use Rattle.def_evolve.specs.Breaks.{Fits}
use Rattle.def_evolve.specs.Agreement.{IsTypedForBoth, AreTypedForBoth}
use Rattle.def_evolve.proofs.Wider.{wider_spelling}
use Rattle.def_evolve.proofs.Fitting.{FieldsFit, fits_inside}

mutual
  pub typed_for_both : (old new : Shape) (P : Path → Type 0) (q : Path) → Fits old new → IsTyped old P q → IsTypedForBoth old new P q
  typed_for_both Taint Taint P q f t = t
  typed_for_both (Scalar pick kind) (Scalar own wider) P q f t = λ payload i. wider_spelling kind wider payload (fits_inside (Scalar pick kind) (Scalar own wider) f).1 (t payload i)
  typed_for_both (Set kind) (Set wider) P q f t = λ payload i. wider_spelling kind wider payload (fits_inside (Set kind) (Set wider) f) (t payload i)
  typed_for_both Counter Counter P q f t = t
  typed_for_both (Map kind shape) (Map wider more) P q f t = λ key i.
      let g = fits_inside (Map kind shape) (Map wider more) f in
      let typed = t key i in
      (wider_spelling kind wider key g.0 typed.0, typed_for_both shape more P (key_path q key) g.1 typed.1)
  typed_for_both (Bag nodes) (Bag others) P q f t = are_typed_for_both nodes others P q (fits_inside (Bag nodes) (Bag others) f) t
  typed_for_both old new P q f t = absurd (fits_inside old new f)

  pub are_typed_for_both : (nodes others : Nodes) (P : Path → Type 0) (q : Path) → FieldsFit nodes others → AreTyped nodes P q → AreTypedForBoth nodes others P q
  are_typed_for_both no_node others P q f t = tt
  are_typed_for_both (node name number shape nodes) others P q f t = (
    (λ other i e.
        let own : Field = record { name = name; number = number; shape = shape } in
        typed_for_both shape other.shape P (node_path q number) (f own other (inl refl) i e) t.0),
    are_typed_for_both nodes others P q (λ a b i j e. f a b (inr i) j e) t.1,
  )
