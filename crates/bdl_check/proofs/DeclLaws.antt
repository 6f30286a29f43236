-- The places of types, and what is left of a list.
use Rattle.std.proofs.Common.{◌≡◌, ℕ, ◌+◌, ◌<◌, ◌≤◌, List, [], ◌∷◌, drop, length, get_or, map, refl, ap, ◌∙◌, sym}
use Rattle.std.proofs.lemmas.List.{drop_more, drop_all}
use Rattle.bdl_check.specs.Types.{type_place}
use Rattle.bdl_parser.specs.declared.trees.Spot.{Spot}
use Rattle.bdl_parser.specs.declared.trees.TypeForm.{TypeForm, Scalar, Float, Double, Taint, Counter, Set', Greatest', Map', Name}
use Rattle.bdl_parser.specs.Views.{tree_at}

-- The place of a node's tree is the node's.
pub spot_at : (spot : Spot) (form : TypeForm) → type_place (tree_at spot form) ≡ spot
spot_at spot (Scalar word) = refl
spot_at spot Float = refl
spot_at spot Double = refl
spot_at spot Taint = refl
spot_at spot Counter = refl
spot_at spot (Name text) = refl
spot_at spot (Set' p inner form) = refl
spot_at spot (Greatest' p inner form) = refl
spot_at spot (Map' p key form q value body) = refl

-- What is left of a list that is mapped, where its next item is known.
pub next_left : {A B : Type 0} (f : A → B) (xs : List A) (i : ℕ) (x : A) → i < length xs → x ≡ get_or xs i x
    → map f (drop i xs) ≡ f x ∷ map f (drop (i + 1) xs)
next_left f xs i x h e = ap (map f) (drop_more xs i x h) ∙ ap (λ y. f y ∷ map f (drop (i + 1) xs)) (sym e)

-- Nothing is left.
pub none_left : {A B : Type 0} (f : A → B) (xs : List A) (i : ℕ) → length xs ≤ i → map f (drop i xs) ≡ []
none_left f xs i h = ap (map f) (drop_all i xs h)
