-- Merges of two lists in order.
use Rattle.std.specs.Prelude.{◌≡◌, List, [], ◌∷◌, Option, Some, None}
use Rattle.std.specs.declared.cmp.Ordering.{Ordering}
use Rattle.std.specs.declared.cmp.Ordering.TheVariants.{Less}
use Rattle.context_model.specs.Orders.{by_order}

-- The merge of x ∷ xs with a list, where rest is the merge of xs with a list.
abbrev merge_onto : {K : Type 0} → (K → K → Ordering) → K → List K → (List K → List K) → List K
    → List K
merge_onto R x xs rest [] = x ∷ xs
merge_onto R x xs rest (y ∷ ys) =
    by_order (R x y) (x ∷ rest (y ∷ ys)) (x ∷ rest ys) (y ∷ merge_onto R x xs rest ys)

-- The lesser of the two heads, and then the merge of what is left when that head is taken from each
-- list that begins with it. Where one list is empty, the other.
abbrev pub greedy_merge : {K : Type 0} → (K → K → Ordering) → List K → List K → List K
greedy_merge R [] ys = ys
greedy_merge R (x ∷ xs) ys = merge_onto R x xs (greedy_merge R xs) ys

-- The one value, or of two values the one that comes first.
abbrev pub first_of : {V : Type 0} → (V → V → Ordering) → Option V → Option V → Option V
first_of R None w = w
first_of R (Some v) None = Some v
first_of R (Some v) (Some w) = by_order (R v w) (Some v) (Some v) (Some w)

-- Each element comes before k.
abbrev pub AllBelow : {K : Type 0} → (K → K → Ordering) → List K → K → Type 0
AllBelow R [] k = Unit {0}
AllBelow R (x ∷ xs) k = (R x k ≡ Less) × AllBelow R xs k
