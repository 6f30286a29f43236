-- The union of two sets of the code is the join of their plain values.
use Rattle.std.specs.Prelude.{◌≡◌, List, [], ◌∷◌, map}
use Rattle.std.proofs.Common.{refl, sym, ap, ◌∙◌, subst}
use Rattle.context_model.specs.GreedyMerge.{greedy_merge}
use Rattle.context_model.proofs.GreedyMap.{map-greedy}
use Rattle.bag_model.specs.Values as model
use Rattle.bag_model.specs.Scalars.{scalar_cmp}
use Rattle.bag_model.specs.Joins.{join}
use Rattle.bag_model.proofs.SpellingOrder.{spellings_keep_order}
use Rattle.scalar_types.specs.KindCodec.{kind_from, kind_comes_back}
use Rattle.scalar_types.specs.KindViews.{kind_of}
use Rattle.scalar_types.specs.Scalars.{value_of}
use Rattle.scalar_types.specs.declared.kinds.ScalarKind.{ScalarKind}
use Rattle.scalar_types.specs.declared.scalars.Scalar.{Scalar}
use Rattle.set_map_types.specs.SetsAndMaps.{Held, IsSet, value_cmp, set_proper, set_joined}
use Rattle.bag_value.specs.declared.vals.Val.TheVariants.{Set}
use Rattle.bag_value.specs.Vals.{plain}
use Rattle.bag_value.proofs.Known.{kind_fits, kind_spelling}

-- Two kinds with one plain kind are one.
pub kinds_one : (a b : ScalarKind) → kind_of a ≡ kind_of b → a ≡ b
kinds_one a b same = sym (kind_comes_back a) ∙ ap kind_from same ∙ kind_comes_back b

pub values-union : (s t : Held ScalarKind Scalar) → set_proper kind_fits kind_spelling s → set_proper kind_fits kind_spelling t → kind_of s.codec ≡ kind_of t.codec
    → map value_of (greedy_merge (value_cmp (kind_spelling s.codec)) s.items t.items) ≡ greedy_merge scalar_cmp (map value_of s.items) (map value_of t.items)
values-union s t p q same =
    let r : IsSet (kind_fits s.codec) (kind_spelling s.codec) t.items =
    subst (λ (k : ScalarKind). IsSet (kind_fits k) (kind_spelling k) t.items) (sym (kinds_one s.codec t.codec same)) q in
    map-greedy (value_cmp (kind_spelling s.codec)) scalar_cmp value_of s.items t.items
    (λ v w i j. spellings_keep_order.order (kind_of s.codec) (value_of v) (value_of w) (p.fit v i) (r.fit w j))

pub joined-union : (s t u v : Held ScalarKind Scalar) → set_proper kind_fits kind_spelling s → set_proper kind_fits kind_spelling t → kind_of s.codec ≡ kind_of t.codec
    → u ≡ s → v ≡ set_joined kind_spelling u t → plain (Set v) ≡ join (plain (Set s)) (plain (Set t))
joined-union s t u v p q same copied joined =
    ap (λ w. plain (Set w)) (joined ∙ ap (λ w. set_joined kind_spelling w t) copied)
    ∙ ap (λ l. model.Value.Set (kind_of s.codec) l) (values-union s t p q same)

-- A set has no element where its plain value has none.
pub no_elements : (vs : List Scalar) → map value_of vs ≡ [] → vs ≡ []
no_elements [] none = refl
no_elements (v ∷ vs) none = absurd (cc none)
