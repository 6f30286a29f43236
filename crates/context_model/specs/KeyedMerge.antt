-- Merges of lists of keys with values, in the order of keys.
use Rattle.std.specs.Prelude.{◌≡◌, ◌⊎◌, ◌↔◌, List, [], ◌∷◌, map, Option, Some, None}
use Rattle.std.specs.declared.cmp.Ordering.{Ordering}
use Rattle.context_model.specs.Orders.{IsIn, by_order}

-- The merge of k with v and a list with another list, where rest is that of the list.
abbrev with_onto : {K X : Type 0} → (K → K → Ordering) → (X → X → X) → K × X → List (K × X)
    → (List (K × X) → List (K × X)) → List (K × X) → List (K × X)
with_onto R f e es rest [] = e ∷ es
with_onto R f e es rest (d ∷ ds) =
    by_order (R e.0 d.0) (e ∷ rest (d ∷ ds)) ((e.0, f e.1 d.1) ∷ rest ds)
    (d ∷ with_onto R f e es rest ds)

-- The keys of both, and at a key of both what f makes of its two values.
abbrev pub merge_with : {K X : Type 0} → (K → K → Ordering) → (X → X → X) → List (K × X)
    → List (K × X) → List (K × X)
merge_with R f [] ds = ds
merge_with R f (e ∷ es) ds = with_onto R f e es (merge_with R f es) ds

-- What a merge of a pair e and a list with another list brings, where rest is what that of the list
-- brings.
abbrev brings_onto : {K X : Type 0} → (K → K → Ordering) → (X → X → X) → K × X
    → (List (K × X) → List (K × X)) → List (K × X) → List (K × X)
brings_onto R f e rest [] = []
brings_onto R f e rest (d ∷ ds) =
    by_order (R e.0 d.0) (rest (d ∷ ds)) ((d.0, f e.1 d.1) ∷ rest ds)
    (d ∷ brings_onto R f e rest ds)

-- What a merge brings to the first list: the pairs of the second, and at a key of both what f makes
-- of its two values.
abbrev pub brings : {K X : Type 0} → (K → K → Ordering) → (X → X → X) → List (K × X) → List (K × X)
    → List (K × X)
brings R f [] ds = ds
brings R f (e ∷ es) ds = brings_onto R f e (brings R f es) ds

-- Of two values the second.
abbrev pub later : {X : Type 0} → X → X → X
later v w = w

-- The keys, without their values.
abbrev pub keys_of : {K X : Type 0} → List (K × X) → List K
keys_of es = map (λ e. e.0) es

-- P holds of each key and its value.
abbrev pub EachPair : {K X : Type 0} → (K → X → Type 0) → List (K × X) → Type 0
EachPair P [] = Unit {0}
EachPair P (e ∷ es) = P e.0 e.1 × EachPair P es

-- A pair of the list is this key with this value.
abbrev pub IsAt : {K X : Type 0} → K → X → List (K × X) → Type 0
IsAt k v [] = ⊥
IsAt k v (e ∷ es) = ((k ≡ e.0) × (v ≡ e.1)) ⊎ IsAt k v es

-- P holds of each two values, one of each list, that have one key.
abbrev pub AtOneKey : {K X : Type 0} → (X → X → Type 0) → List (K × X) → List (K × X) → Type 0
AtOneKey {K} {X} P es ds = (k : K) (v w : X) → IsAt k v es → IsAt k w ds → P v w

-- What is found at a key: the value that it has, or nothing where no pair has the key.
abbrev pub Finds : {K X : Type 0} → List (K × X) → K → Option X → Type 0
Finds es k None = ¬ (IsIn k (keys_of es))
Finds es k (Some v) = IsAt k v es

-- The union of two lists of keys with values: the keys of both, at a key of both what f makes of
-- its two values, and at a key of one alone its value there.
pub record IsUnion {K X : Type 0} (f : X → X → X) (es ds union : List (K × X)) : Type 0 where
  pub keys : (k : K) → IsIn k (keys_of union) ↔ (IsIn k (keys_of es) ⊎ IsIn k (keys_of ds))
  pub both : (k : K) (v w : X) → IsAt k v es → IsAt k w ds → IsAt k (f v w) union
  pub first : (k : K) (v : X) → IsAt k v es → ¬ (IsIn k (keys_of ds)) → IsAt k v union
  pub second : (k : K) (w : X) → ¬ (IsIn k (keys_of es)) → IsAt k w ds → IsAt k w union
