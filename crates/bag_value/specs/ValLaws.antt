-- The plain value and the value back from it undo each other, and the laws of the join hold.
use Rattle.std.specs.Prelude.{◌≡◌, List, [], ◌∷◌, map, Some, None}
use Rattle.std.proofs.Common.{refl, sym, ap, ◌∙◌, subst}
use Rattle.bag_model.specs.declared.Pick.TheVariants as pick
use Rattle.bag_model.specs.Values as model
use Rattle.bag_model.specs.Scalars.{ScalarValue}
use Rattle.bag_model.specs.Joins.{join, IsBottom, Alike, Proper}
use Rattle.bag_model.proofs.JoinLaws.{Alike-self, Alike-back, Alike-joined, Proper-joined, join-commutes, join-regroups, join-repeats, join-bottom}
use Rattle.counter_type.specs.Lattice.{LatticeLaws}
use Rattle.scalar_types.specs.KindCodec.{kind_comes_back, plain_kind_back, scalar_of, scalar_comes_back, value_back}
use Rattle.scalar_types.specs.Scalars.{value_of}
use Rattle.scalar_types.specs.declared.scalars.Scalar.{Scalar}
use Rattle.bag_value.specs.declared.vals.Val.{Val}
use Rattle.bag_value.specs.declared.vals.Val.TheVariants as vals
use Rattle.bag_value.specs.Vals.{plain, val_of, val_joined}

-- Scalars of the model come back from those of the code.
values_back : (vs : List ScalarValue) → map value_of (map scalar_of vs) ≡ vs
values_back [] = refl
values_back (v ∷ vs) = λ i. value_back v i ∷ values_back vs i

-- Scalars of the code come back from those of the model.
scalars_back : (vs : List Scalar) → map scalar_of (map value_of vs) ≡ vs
scalars_back [] = refl
scalars_back (v ∷ vs) = λ i. scalar_comes_back v i ∷ scalars_back vs i

-- A value of the model comes back from the code's.
pub value_comes_back : (x : model.Value) → plain (val_of x) ≡ x
value_comes_back (model.Value.Taint on) = refl
value_comes_back (model.Value.Scalar pick.Least None) = refl
value_comes_back (model.Value.Scalar pick.Least (Some v)) =
    λ i. model.Value.Scalar pick.Least (Some (value_back v i))
value_comes_back (model.Value.Scalar pick.Greatest None) = refl
value_comes_back (model.Value.Scalar pick.Greatest (Some v)) =
    λ i. model.Value.Scalar pick.Greatest (Some (value_back v i))
value_comes_back (model.Value.Set kind vs) =
    λ i. model.Value.Set (plain_kind_back kind i) (values_back vs i)
value_comes_back (model.Value.Counter counts) = refl
value_comes_back (model.Value.Map entries) = refl
value_comes_back (model.Value.Bag values) = refl

-- A value of the code comes back from the model's.
pub val_back : (v : Val) → val_of (plain v) ≡ v
val_back (vals.Taint on) = refl
val_back (vals.Scalar None) = refl
val_back (vals.Scalar (Some v)) = λ i. vals.Scalar (Some (scalar_comes_back v i))
val_back (vals.Greatest None) = refl
val_back (vals.Greatest (Some v)) = λ i. vals.Greatest (Some (scalar_comes_back v i))
val_back (vals.Set set) =
    λ i. vals.Set (record { codec = kind_comes_back set.codec i; items = scalars_back set.items i })
val_back (vals.Counter counts) = refl
val_back (vals.Map entries) = refl
val_back (vals.Bag values) = refl

-- The values of the code are a join semilattice.
pub val_laws : LatticeLaws (λ v. Proper (plain v)) (λ v w. Alike (plain v) (plain w)) val_joined
    (λ v. IsBottom (plain v))
val_laws = record {
  alike_self = λ x p. Alike-self (plain x) p;
  alike_back = λ x y p q a. Alike-back (plain x) (plain y) p q a;
  alike_joined =
      λ x y z p q r a b c.
      subst (λ u. Alike u (plain z)) (sym (value_comes_back (join (plain x) (plain y))))
      (Alike-joined (plain x) (plain y) (plain z) p q r a b c);
  proper_joined =
      λ x y p q a. subst Proper (sym (value_comes_back (join (plain x) (plain y))))
      (Proper-joined (plain x) (plain y) p q a);
  commutes = λ x y p q a. ap val_of (join-commutes (plain x) (plain y) p q a);
  regroups = λ x y z p q r a b c.
      ap (λ u. val_of (join u (plain z))) (value_comes_back (join (plain x) (plain y)))
      ∙ ap val_of (join-regroups (plain x) (plain y) (plain z) p q r a b c)
      ∙ ap (λ u. val_of (join (plain x) u)) (sym (value_comes_back (join (plain y) (plain z))));
  repeats = λ x p. ap val_of (join-repeats (plain x) p) ∙ val_back x;
  bottom_first = λ b x p q a e. ap val_of (join-bottom (plain b) (plain x) p q a e) ∙ val_back x;
}
