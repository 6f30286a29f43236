-- What a set and a counter of the code know of themselves, of their plain values.
use Rattle.std.specs.Prelude.{ℕ, List, [], ◌∷◌, map}
use Rattle.std.specs.List.{AllByRecursion}
use Rattle.std.proofs.Common.{refl, sym, ◌∙◌, inl, inr}
use Rattle.context_model.specs.Orders.{IsIn, Rises}
use Rattle.bag_model.specs.Values as model
use Rattle.bag_model.specs.Scalars.{scalar_cmp, IsScalarOf, spelling}
use Rattle.bag_model.specs.Scalars as scalars
use Rattle.bag_model.specs.Joins.{Proper}
use Rattle.bag_model.proofs.SpellingOrder.{spellings_keep_order}
use Rattle.scalar_types.specs.KindViews.{kind_of}
use Rattle.scalar_types.specs.Scalars.{value_of}
use Rattle.scalar_types.specs.declared.kinds.ScalarKind.{ScalarKind}
use Rattle.scalar_types.specs.declared.scalars.Scalar.{Scalar}
use Rattle.set_map_types.specs.SetsAndMaps.{Held, value_cmp, set_proper}

-- the scalars that a set of a kind holds, and how each is spelled
abbrev pub kind_fits : ScalarKind → Scalar → Type 0
kind_fits kind v = IsScalarOf (kind_of kind) (value_of v)

abbrev pub kind_spelling : ScalarKind → Scalar → List ℕ
kind_spelling kind v = spelling (kind_of kind) (value_of v)

all_fit : (kind : scalars.ScalarKind) (vs : List Scalar) → ((v : Scalar) → IsIn v vs → IsScalarOf kind (value_of v)) → AllByRecursion (IsScalarOf kind) (map value_of vs)
all_fit kind [] fit = tt
all_fit kind (v ∷ vs) fit = (fit v (inl refl), all_fit kind vs (λ w at. fit w (inr at)))

rising : (kind : scalars.ScalarKind) (vs : List Scalar) → ((v : Scalar) → IsIn v vs → IsScalarOf kind (value_of v)) → Rises (value_cmp (λ (v : Scalar). spelling kind (value_of v))) vs → Rises scalar_cmp (map value_of vs)
rising kind [] fit rises = tt
rising kind (v ∷ []) fit rises = tt
rising kind (v ∷ w ∷ vs) fit rises = (
  sym (spellings_keep_order.order kind (value_of v) (value_of w) (fit v (inl refl)) (fit w (inr (inl refl)))) ∙ rises.0,
  rising kind (w ∷ vs) (λ u at. fit u (inr at)) rises.1,
)

-- The scalars of a set rise and are of its kind.
pub Proper-set : (set : Held ScalarKind Scalar) → set_proper kind_fits kind_spelling set → Proper (model.Value.Set (kind_of set.codec) (map value_of set.items))
Proper-set set p = (rising (kind_of set.codec) set.items p.fit p.rise, all_fit (kind_of set.codec) set.items p.fit)
