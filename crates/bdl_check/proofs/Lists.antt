-- What the other files cite of lists, options and tests.
use Rattle.std.proofs.Common.{◌≡◌, ℕ, zero, suc, Bool, true, false, ◌&&◌, List, [], ◌∷◌, Option, Some, None, refl, ap, sym, ◌∙◌, arith}
use Rattle.std.specs.List.{All, AllByRecursion, Contains, list_all, slice_get}
use Rattle.std.specs.Option.{option_and_then}
use Rattle.std.proofs.lemmas.List.Elements.{All-nil, All-cons, All-head, All-tail}

-- Each of two that hold holds.
pub both_first : (a b : Bool) → (a && b) ≡ true → a ≡ true
both_first true b e = refl
both_first false b e = e

pub both_second : (a b : Bool) → (a && b) ≡ true → b ≡ true
both_second true b e = e
both_second false b e = (cc)

-- What passes of each passes of the one with this number.
pub all_at : {X : Type 0} (p : X → Bool) (xs : List X) (n : ℕ) (x : X) → list_all p xs ≡ true → slice_get xs n ≡ Some x → p x ≡ true
all_at p [] n x all is = absurd (cc)
all_at p (y ∷ xs) zero x all is = let same : y ≡ x = cc in ap p (sym same) ∙ both_first (p y) (list_all p xs) all
all_at p (y ∷ xs) (suc n) x all is = all_at p xs n x (both_second (p y) (list_all p xs) all) is

-- What holds of each by recursion holds of each by number, and the other way round.
pub to_all : {A : Type 0} (P : A → Type 0) (xs : List A) → AllByRecursion P xs → All P xs
to_all P [] h = All-nil P
to_all P (x ∷ xs) h = All-cons P x xs h.0 (to_all P xs h.1)

pub from_all : {A : Type 0} (P : A → Type 0) (xs : List A) → All P xs → AllByRecursion P xs
from_all P [] h = tt
from_all P (x ∷ xs) h = (All-head P x xs h, from_all P xs (All-tail P x xs h))

-- The first element of a list, and one after it.
pub is_in_front : {X : Type 0} (x : X) (xs : List X) → Contains (x ∷ xs) x
is_in_front x xs = (0, omega arith, refl)

pub is_behind : {X : Type 0} (x : X) (xs : List X) (z : X) → Contains xs z → Contains (x ∷ xs) z
is_behind x xs z (k, within, is) = (suc k, omega (arith, within), is)

-- Where a step from an option gives something, there was something.
pub and_then_is : {X Y : Type 0} (f : X → Option Y) (o : Option X) (y : Y) → option_and_then f o ≡ Some y → (x : X) × (o ≡ Some x) × (f x ≡ Some y)
and_then_is f None y e = absurd (cc e)
and_then_is f (Some x) y e = (x, refl, e)
