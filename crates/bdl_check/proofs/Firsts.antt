-- The first fault of lists that follow one another.
use Rattle.std.proofs.Common.{◌≡◌, Bool, true, false, List, [], ◌∷◌, ◌++◌, None, Some, refl, if◌then◌else◌}
use Rattle.bdl_load.specs.declared.faults.Finding.{Finding}
use Rattle.bdl_check.specs.Faults.{first, when}

-- A fault, and then others.
pub first_when : (holds : Bool) (finding : Finding) (rest : List Finding)
    → first (when holds finding ++ rest) ≡ (if holds then Some finding else first rest)
first_when true finding rest = refl
first_when false finding rest = refl

-- There is nothing in the first list.
pub first_none : {A : Type 0} (xs ys : List A) → first xs ≡ None → first (xs ++ ys) ≡ first ys
first_none [] ys e = refl
first_none (x ∷ xs) ys e = absurd (cc)

-- The first is in the first list.
pub first_some : {A : Type 0} (xs ys : List A) (x : A) → first xs ≡ Some x → first (xs ++ ys) ≡ Some x
first_some [] ys x e = absurd (cc)
first_some (y ∷ xs) ys x e = e
