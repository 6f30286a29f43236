-- What the code keeps and answers, and what it stands for.
use Rattle.std.specs.Prelude.{◌≡◌, ℕ, List, ◌++◌, ◌∷◌}
use Rattle.std.specs.Fmt.{decimal}
use Rattle.graph_lines.specs.Forms.{IsNumber, IsPath}
use Rattle.write_proof.specs.declared.entries.Entry.{Entry}
use Rattle.write_proof.specs.declared.entries.Entry.TheVariants.{Why, Value, Reach, Uses}
use Rattle.write_proof.specs.Entries as lines
use Rattle.write_proof.specs.Entries.{IsSoundEntry, entry_text}

-- What the code's entry says.
abbrev pub entry_of : Entry → lines.Entry
entry_of (Why n path) = lines.Why n path.now
entry_of (Value text) = lines.ValueText text.now
entry_of (Reach w child) = lines.Reach w child
entry_of (Uses w) = lines.Uses w

-- The text is a number and a path, with a space between them.
abbrev pub IsWhyText : List ℕ → ℕ → List ℕ → Type 0
IsWhyText text n path = IsNumber n × IsPath path × (text ≡ decimal n ++ 32 ∷ path)

-- The text is two numbers, with a space between them.
abbrev pub IsReachText : List ℕ → ℕ → ℕ → Type 0
IsReachText text w child = IsNumber w × IsNumber child × (text ≡ decimal w ++ 32 ∷ decimal child)

-- The entry has words alone: it isn't the text of a value.
abbrev pub IsOfWords : lines.Entry → Type 0
IsOfWords (lines.Why n path) = Unit {0}
IsOfWords (lines.ValueText text) = ⊥
IsOfWords (lines.Reach w child) = Unit {0}
IsOfWords (lines.Uses w) = Unit {0}

-- The text is the words of an entry.
abbrev pub IsInWords : List ℕ → lines.Entry → Type 0
IsInWords text entry = IsOfWords entry × IsSoundEntry entry × (text ≡ entry_text entry)
