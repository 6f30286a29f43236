-- What the sets of numbers and names have that a check has seen.
use Rattle.std.specs.Prelude.{◌≡◌, ℕ, Bool, List}
use Rattle.std.specs.Borrow.{Bor}
use Rattle.std.specs.BTreeSet.{BTreeSet, contains, contains_by}
use Rattle.std.specs.Cmp.Lexicographic.{slice_cmp}
use Rattle.std.specs.Ordering.{nat_cmp}
use Rattle.bdl_check.specs.Fields.{is_number_among, is_name_among}

-- The set has this number.
abbrev pub has_number : BTreeSet ℕ → ℕ → Bool
has_number numbers number = contains nat_cmp numbers number

-- The set has this text.
abbrev pub has_text : BTreeSet (Bor (List ℕ)) → List ℕ → Bool
has_text texts text = contains_by (λ key. slice_cmp nat_cmp text key.now) texts

-- The set has these numbers.
abbrev pub HasNumbers : BTreeSet ℕ → List ℕ → Type 0
HasNumbers numbers those = (number : ℕ) → has_number numbers number ≡ is_number_among number those

-- The set has these texts.
abbrev pub HasTexts : BTreeSet (Bor (List ℕ)) → List (List ℕ) → Type 0
HasTexts texts those = (text : List ℕ) → has_text texts text ≡ is_name_among text those
