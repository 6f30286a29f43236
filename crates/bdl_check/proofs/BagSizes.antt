-- What a list of fields that passes says of the field in its middle.
use Rattle.std.proofs.Common.{◌≡◌, ◌≢◌, ℕ, ◌+◌, ◌<◌, ◌==◌, Bool, true, false, not, ◌||◌, List, [], ◌∷◌, ◌++◌, length, get_or, take, drop, map, suc, add-one, drop-cons, refl, sym, ◌∙◌, ap, arith}
use Rattle.std.specs.List.{list_any, list_all, flat_map}
use Rattle.std.proofs.lemmas.Bool.Decides.{nat_tests}
use Rattle.std.proofs.lemmas.List.{take-append-drop, take_more, map-append}
use Rattle.bdl_parser.specs.Trees.{BagFieldTree}
use Rattle.bdl_check.specs.declared.sizes.Size.{Size}
use Rattle.bdl_check.specs.Declarations.{Placed}
use Rattle.bdl_check.specs.Fields.{numbers_of}
use Rattle.bdl_check.specs.Passes.{are_distinct}
use Rattle.bdl_check.specs.Recursion.{names_in}
use Rattle.bdl_check.specs.Sizes.{AreKnown}
use Rattle.bdl_check.proofs.Insertions.{IsNewNumber}
use Rattle.bdl_check.proofs.TypeSizes.{known_left, known_right}
use Rattle.bdl_check.proofs.Lists.{both_first, both_second}

-- The elements of a mapped list up to one, that one, and those after it.
pub split_at : {X Y : Type 0} (f : X → Y) (xs : List X) (i : ℕ) (x : X) → i < length xs → x ≡ get_or xs i x
    → map f xs ≡ map f (take i xs) ++ (f x ∷ map f (drop (i + 1) xs))
split_at f xs i x lt e =
    let left : drop i xs ≡ x ∷ drop (i + 1) xs = rw add-one (drop-cons xs i x lt ∙ ap (λ y. y ∷ drop (suc i) xs) (sym e)) in
    ap (map f) (sym (take-append-drop i xs) ∙ ap (λ ys. take i xs ++ ys) left) ∙ map-append f (take i xs) (x ∷ drop (i + 1) xs)

-- The elements of a mapped list up to one, and that one.
pub up_to : {X Y : Type 0} (f : X → Y) (xs : List X) (i : ℕ) (x : X) → i < length xs → x ≡ get_or xs i x
    → map f (take (i + 1) xs) ≡ map f (take i xs) ++ f x ∷ []
up_to f xs i x lt e = ap (map f) (take_more xs i x lt ∙ ap (λ y. take i xs ++ y ∷ []) (sym e)) ∙ map-append f (take i xs) (x ∷ [])

-- What passes of each passes of the one in the middle.
pub all_middle : {X : Type 0} (p : X → Bool) (front : List X) (x : X) (rest : List X) → list_all p (front ++ x ∷ rest) ≡ true → p x ≡ true
all_middle p [] x rest e = both_first (p x) (list_all p rest) e
all_middle p (y ∷ front) x rest e = all_middle p front x rest (both_second (p y) (list_all p (front ++ x ∷ rest)) e)

-- The names in its type are known where all are.
pub known_middle : (ds : List Placed) (sizes : List Size) (front : List BagFieldTree) (t : BagFieldTree) (rest : List BagFieldTree)
    → AreKnown ds sizes (flat_map (λ (field : BagFieldTree). names_in field.kind) (front ++ t ∷ rest))
    → AreKnown ds sizes (names_in t.kind)
known_middle ds sizes [] t rest h = known_left ds sizes (names_in t.kind) (flat_map (λ (field : BagFieldTree). names_in field.kind) rest) h
known_middle ds sizes (u ∷ front) t rest h =
    known_middle ds sizes front t rest (known_right ds sizes (names_in u.kind)
    (flat_map (λ (field : BagFieldTree). names_in field.kind) (front ++ t ∷ rest)) h)

pub or_first : (a b : Bool) → (a || b) ≡ false → a ≡ false
or_first true b e = e
or_first false b e = refl

pub or_second : (a b : Bool) → (a || b) ≡ false → b ≡ false
or_second true b e = absurd (cc e)
or_second false b e = e

pub not_so : (b : Bool) → not b ≡ true → b ≡ false
not_so true e = absurd (cc e)
not_so false e = refl

none_middle : (p : ℕ → Bool) (front : List BagFieldTree) (t : BagFieldTree) (rest : List BagFieldTree)
    → list_any p (numbers_of (front ++ t ∷ rest)) ≡ false → p t.number ≡ false
none_middle p [] t rest e = or_first (p t.number) (list_any p (numbers_of rest)) e
none_middle p (u ∷ front) t rest e = none_middle p front t rest (or_second (p u.number) (list_any p (numbers_of (front ++ t ∷ rest))) e)

differ : (m n : ℕ) → (m == n) ≡ false → n ≢ m
differ m n e = grind (arith, nat_tests)

-- Its number is none of those before it.
pub new_middle : (front : List BagFieldTree) (t : BagFieldTree) (rest : List BagFieldTree)
    → are_distinct (λ a b. a == b) (numbers_of (front ++ t ∷ rest)) ≡ true → IsNewNumber t.number front
new_middle [] t rest e = tt
new_middle (u ∷ front) t rest e =
    let others = numbers_of (front ++ t ∷ rest) in (
      differ u.number t.number (none_middle (λ b. u.number == b) front t rest
          (not_so (list_any (λ b. u.number == b) others)
          (both_first (not (list_any (λ b. u.number == b) others)) (are_distinct (λ a b. a == b) others) e))),
      new_middle front t rest (both_second (not (list_any (λ b. u.number == b) others)) (are_distinct (λ a b. a == b) others) e),
    )
