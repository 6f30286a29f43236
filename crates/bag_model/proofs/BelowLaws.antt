-- One value is below another of its shape: an order in which the join is the least upper bound.
use Rattle.std.proofs.Common.{◌≡◌, sym, ap, ◌∙◌}
use Rattle.bag_model.specs.Shapes.{Shape}
use Rattle.bag_model.specs.Values.{Value, IsOfShape, bottom}
use Rattle.bag_model.specs.Joins.{join, IsValueBelow}
use Rattle.bag_model.proofs.JoinLaws.{join-commutes, join-regroups, join-repeats, join-bottom}
use Rattle.bag_model.proofs.OfShape.{Alike-shape, Proper-shape, IsOfShape-bottom, IsBottom-bottom}

module _ (shape : Shape) where
  same_order : (x y : Value) → IsOfShape shape x → IsOfShape shape y → join x y ≡ join y x
  same_order x y p q = join-commutes x y (Proper-shape shape x p) (Proper-shape shape y q) (Alike-shape shape x y p q)

  regroup : (x y z : Value) → IsOfShape shape x → IsOfShape shape y → IsOfShape shape z → join (join x y) z ≡ join x (join y z)
  regroup x y z p q r =
      join-regroups x y z (Proper-shape shape x p) (Proper-shape shape y q) (Proper-shape shape z r)
      (Alike-shape shape x y p q) (Alike-shape shape y z q r) (Alike-shape shape x z p r)

  pub below-itself : (x : Value) → IsOfShape shape x → IsValueBelow x x
  below-itself x p = join-repeats x (Proper-shape shape x p)

  pub below-both_ways : (x y : Value) → IsOfShape shape x → IsOfShape shape y → IsValueBelow x y → IsValueBelow y x → x ≡ y
  below-both_ways x y p q f g = sym g ∙ same_order y x q p ∙ f

  pub below-onwards : (x y z : Value) → IsOfShape shape x → IsOfShape shape y → IsOfShape shape z → IsValueBelow x y → IsValueBelow y z → IsValueBelow x z
  below-onwards x y z p q r f g = ap (join x) (sym g) ∙ sym (regroup x y z p q r) ∙ ap (λ v. join v z) f ∙ g

  pub below-first : (x y : Value) → IsOfShape shape x → IsOfShape shape y → IsValueBelow x (join x y)
  below-first x y p q = sym (regroup x x y p p q) ∙ ap (λ v. join v y) (below-itself x p)

  pub below-second : (x y : Value) → IsOfShape shape x → IsOfShape shape y → IsValueBelow y (join x y)
  below-second x y p q = ap (join y) (same_order x y p q) ∙ below-first y x q p ∙ same_order y x q p

  pub below-least : (x y z : Value) → IsOfShape shape x → IsOfShape shape y → IsOfShape shape z → IsValueBelow x z → IsValueBelow y z → IsValueBelow (join x y) z
  below-least x y z p q r f g = regroup x y z p q r ∙ ap (join x) g ∙ f

  pub below-bottom : (x : Value) → IsOfShape shape x → IsValueBelow (bottom shape) x
  below-bottom x p =
      join-bottom (bottom shape) x (Proper-shape shape (bottom shape) (IsOfShape-bottom shape)) (Proper-shape shape x p)
      (Alike-shape shape (bottom shape) x (IsOfShape-bottom shape) p) (IsBottom-bottom shape)
