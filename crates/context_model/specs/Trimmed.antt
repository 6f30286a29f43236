-- A list that is cut to a budget of bytes, with a marker where something was cut off.
use Rattle.std.specs.Prelude.{◌≡◌, ℕ, ◌<◌, ◌≤◌, zero, suc, Bool, List, [], ◌∷◌, ◌++◌, length, take, min, nat_le, if◌then◌else◌}
use Rattle.context_model.specs.declared.Form.{Form}
use Rattle.context_model.specs.Atoms.{Atom}
use Rattle.context_model.specs.Framing.{size_of, least_budget}

-- The first n atoms, and a marker after them.
abbrev pub cut_at : ℕ → List Atom → List Atom
cut_at n list = take n list ++ [] ∷ []

-- The greatest number up to n that passes the test, and 0 where none from 1 on does.
abbrev pub greatest : (ℕ → Bool) → ℕ → ℕ
greatest test zero = 0
greatest test (suc n) = if test (suc n) then suc n else greatest test n

-- How many atoms stay where this form is asked for: all of them where the list fits the budget, and
-- otherwise as many as fit with a marker after them.
unfoldable pub kept_of : Form → List Atom → ℕ → ℕ
kept_of form list budget =
    if nat_le (size_of form list) budget then length list
    else greatest (λ n. nat_le (size_of form (cut_at n list)) budget) (length list)

-- The list where it fits the budget, and otherwise the atoms that stay and a marker.
unfoldable pub trimmed : Form → List Atom → ℕ → List Atom
trimmed form list budget =
    if nat_le (size_of form list) budget then list else cut_at (kept_of form list budget) list

-- The number counts the first atoms that stay: not all stay, this many fit the budget with a marker
-- after them, and no more do.
pub record IsLongestFit (form : Form) (list : List Atom) (budget keep : ℕ) : Type 0 where
  pub within : keep < length list
  pub fits : size_of form (cut_at keep list) ≤ budget
  pub longest : (n : ℕ) → n ≤ length list → size_of form (cut_at n list) ≤ budget → n ≤ keep

-- A list that doesn't fit keeps its longest prefix that fits with a marker after it.
abbrev pub KeepsLongest : Type 0
KeepsLongest = (form : Form) (list : List Atom) (budget : ℕ)
    → least_budget form ≤ budget → budget < size_of form list
    → IsLongestFit form list budget (kept_of form list budget)

-- To trim to one budget and then to another, in one form, is to trim to the lesser of the two.
abbrev pub CutsOnce : Type 0
CutsOnce = (form : Form) (list : List Atom) (a b : ℕ)
    → least_budget form ≤ a → least_budget form ≤ b
    → trimmed form (trimmed form list a) b ≡ trimmed form list (min a b)
