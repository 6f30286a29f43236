-- Which kinds of scalars may take the place of a kind.
use Rattle.std.specs.Prelude.{◌≡◌, List, [], ◌∷◌}
use Rattle.context_model.specs.Orders.{IsIn}
use Rattle.bag_model.specs.declared.words.ScalarWord.TheVariants.{Int32, Int64, Sint32, Sint64, Uint32, Uint64}
use Rattle.bag_model.specs.Scalars.{Word, ScalarKind, ScalarValue, One, Packed, IsScalarOf, spelling}

-- The words that may take the place of a word: each of its values is one of theirs, and is spelled
-- alike.
abbrev pub wider_words : Word → List Word
wider_words Int32 = Int32 ∷ Sint32 ∷ Int64 ∷ Sint64 ∷ []
wider_words Sint32 = Int32 ∷ Sint32 ∷ Int64 ∷ Sint64 ∷ []
wider_words Int64 = Int64 ∷ Sint64 ∷ []
wider_words Sint64 = Int64 ∷ Sint64 ∷ []
wider_words Uint32 = Uint32 ∷ Uint64 ∷ []
wider_words word = word ∷ []

-- Each word may be replaced by the one at its place, and there are as many.
abbrev pub AreWider : List Word → List Word → Type 0
AreWider [] [] = Unit {0}
AreWider [] (wider ∷ more) = ⊥
AreWider (word ∷ words) [] = ⊥
AreWider (word ∷ words) (wider ∷ more) = IsIn wider (wider_words word) × AreWider words more

-- The second kind may take the place of the first: a word that may take that of a word, or a struct
-- with as many fields, each of which may.
abbrev pub Widens : ScalarKind → ScalarKind → Type 0
Widens (One word) (One wider) = IsIn wider (wider_words word)
Widens (One word) (Packed wider) = ⊥
Widens (Packed words) (One wider) = ⊥
Widens (Packed words) (Packed wider) = AreWider words wider

-- Where a kind may take the place of another, each value of the other is one of it, with the same
-- spelling.
pub record WiderKindsSpellAlike : Type 0 where
  pub values : (kind wider : ScalarKind) (v : ScalarValue) → Widens kind wider → IsScalarOf kind v
      → IsScalarOf wider v
  pub spellings : (kind wider : ScalarKind) (v : ScalarValue) → Widens kind wider
      → IsScalarOf kind v
      → spelling wider v ≡ spelling kind v
