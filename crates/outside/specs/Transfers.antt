-- What an object outside tells of its content. A known content is `Some`, and `None` claims
-- nothing.
use Rattle.std.specs.Prelude.{◌≡◌, ℕ, List, ◌++◌, take, Option, Some, None, IfSome, if◌then◌else◌}
use Rattle.std.specs.Option.{option_map}
use Rattle.std.specs.Str.{bytes_eq}
use Rattle.std.specs.Io.KnownBytes.{Appends}
use Rattle.outside.specs.declared.TheConstants.{FETCH_MAX}

-- A prefix of the piece was appended.
abbrev pub AppendsPart : Option (List ℕ) → Option (List ℕ) → List ℕ → Type 0
AppendsPart old new piece = (n : ℕ) × Appends old new (take n piece)

-- The files that a library holds, by name, where it tells.
abbrev pub Files : Type 0
Files = Option (List ℕ → Option (List ℕ))

-- The names that a library was asked for, in order, where it keeps them.
abbrev pub Asked : Type 0
Asked = Option (List (List ℕ))

-- A library was asked for these names, in this order, and for nothing else. Where the library no
-- longer keeps its names, this claims nothing.
abbrev pub Asks : List (List ℕ) → Asked → Asked → Type 0
Asks names before after =
    IfSome after (λ kept. option_map (λ earlier. earlier ++ names) before ≡ Some kept)

-- The files of a library with this content under this name, and else as before.
abbrev pub with_file : List ℕ → List ℕ → Files → Files
with_file name content files =
    option_map (λ held other. if bytes_eq name other then Some content else held other) files

-- What is fetched of a file: all of it, or the first FETCH_MAX bytes of a longer one.
unfoldable pub fetched : List ℕ → List ℕ
fetched file = take FETCH_MAX file

-- What was found is what is fetched of the file of this name. Nothing was found where there is no
-- such file.
abbrev pub Fetches : Files → List ℕ → Option (List ℕ) → Type 0
Fetches None name found = Unit {0}
Fetches (Some held) name found = found ≡ option_map fetched (held name)
