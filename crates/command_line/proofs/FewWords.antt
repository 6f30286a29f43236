-- Lists of one word, of two, of three, of four and of five.
use Rattle.std.proofs.Common.{◌≡◌, ℕ, List, [], ◌∷◌, length, Some, arith}
use Rattle.std.specs.List.{slice_get}

-- One word, by itself.
pub one_word : (words : List (List ℕ)) (name : List ℕ) → length words ≡ 1 → slice_get words 0 ≡ Some name → words ≡ name ∷ []
one_word [] name one first = absurd (omega arith)
one_word (x ∷ []) name one first = cc first
one_word (x ∷ y ∷ more) name one first = absurd (omega arith)

-- Two words, by each of them.
pub two_words : (words : List (List ℕ)) (name word : List ℕ) → length words ≡ 2 → slice_get words 0 ≡ Some name → slice_get words 1 ≡ Some word → words ≡ name ∷ word ∷ []
two_words [] name word two first second = absurd (omega arith)
two_words (x ∷ []) name word two first second = absurd (omega arith)
two_words (x ∷ y ∷ []) name word two first second = cc (first, second)
two_words (x ∷ y ∷ z ∷ more) name word two first second = absurd (omega arith)

-- Three words, by each of them.
pub three_words : (words : List (List ℕ)) (name file bag : List ℕ) → length words ≡ 3 → slice_get words 0 ≡ Some name → slice_get words 1 ≡ Some file → slice_get words 2 ≡ Some bag
    → words ≡ name ∷ file ∷ bag ∷ []
three_words [] name file bag three first second third = absurd (omega arith)
three_words (x ∷ []) name file bag three first second third = absurd (omega arith)
three_words (x ∷ y ∷ []) name file bag three first second third = absurd (omega arith)
three_words (x ∷ y ∷ z ∷ []) name file bag three first second third = cc (first, second, third)
three_words (x ∷ y ∷ z ∷ w ∷ more) name file bag three first second third = absurd (omega arith)

-- Four words, by each of them.
pub four_words : (words : List (List ℕ)) (name old new bag : List ℕ) → length words ≡ 4 → slice_get words 0 ≡ Some name → slice_get words 1 ≡ Some old → slice_get words 2 ≡ Some new
    → slice_get words 3 ≡ Some bag → words ≡ name ∷ old ∷ new ∷ bag ∷ []
four_words [] name old new bag four first second third fourth = absurd (omega arith)
four_words (x ∷ []) name old new bag four first second third fourth = absurd (omega arith)
four_words (x ∷ y ∷ []) name old new bag four first second third fourth = absurd (omega arith)
four_words (x ∷ y ∷ z ∷ []) name old new bag four first second third fourth = absurd (omega arith)
four_words (x ∷ y ∷ z ∷ w ∷ []) name old new bag four first second third fourth = cc (first, second, third, fourth)
four_words (x ∷ y ∷ z ∷ w ∷ v ∷ more) name old new bag four first second third fourth = absurd (omega arith)

-- Five words, by each of them.
pub five_words : (words : List (List ℕ)) (name file bag step path : List ℕ) → length words ≡ 5 → slice_get words 0 ≡ Some name → slice_get words 1 ≡ Some file → slice_get words 2 ≡ Some bag
    → slice_get words 3 ≡ Some step → slice_get words 4 ≡ Some path → words ≡ name ∷ file ∷ bag ∷ step ∷ path ∷ []
five_words [] name file bag step path five first second third fourth fifth = absurd (omega arith)
five_words (x ∷ []) name file bag step path five first second third fourth fifth = absurd (omega arith)
five_words (x ∷ y ∷ []) name file bag step path five first second third fourth fifth = absurd (omega arith)
five_words (x ∷ y ∷ z ∷ []) name file bag step path five first second third fourth fifth = absurd (omega arith)
five_words (x ∷ y ∷ z ∷ w ∷ []) name file bag step path five first second third fourth fifth = absurd (omega arith)
five_words (x ∷ y ∷ z ∷ w ∷ v ∷ []) name file bag step path five first second third fourth fifth = cc (first, second, third, fourth, fifth)
five_words (x ∷ y ∷ z ∷ w ∷ v ∷ u ∷ more) name file bag step path five first second third fourth fifth = absurd (omega arith)
