-- What a command takes, in which order, and what that gives.
use Rattle.std.specs.Prelude.{ℕ, List}
use Rattle.bag_model.specs.Shapes.{Nodes}
use Rattle.bdl_load.specs.Loading.{Holding}
use Rattle.text_lines.specs.Lines.{Line}
use Rattle.baggage_cli.specs.Outcomes.{Outcome, Builds, Makes, Use, Then, ThenUses}
use Rattle.baggage_cli.specs.Reading.{ReadsAll, Within}
use Rattle.baggage_cli.specs.Scene.{Change, IsSame}
use Rattle.baggage_cli.specs.Tables.{Origin, Obtains, Brings}

-- A table is taken from where it comes, and gives a text.
abbrev pub BuildsText : Origin → (Nodes → List ℕ) → Use (List ℕ)
BuildsText origin text library requests =
    Then (Obtains origin library requests) (Unit {0}) (λ table. Builds (text table))

-- A table is taken from where it comes, and then the source is read, and its lines give something
-- under the table. Where the table is refused nothing is done to the source.
abbrev pub ReadsUnder : Origin → (Nodes → List Line → Outcome → Type 0)
    → Change Holding → Change (List (List ℕ)) → Change (List ℕ) → Outcome → Type 0
ReadsUnder origin gives library requests source =
    Then (Obtains origin library requests) (IsSame source)
    (λ table. ReadsAll (Within (gives table)) source)

-- One table is taken from where it comes, then the other, and both give something. Where the first
-- is refused the library isn't asked for the second.
abbrev pub TakesTwo : Origin → Origin → (Nodes → Nodes → List ℕ → Type 0) → Use (List ℕ)
TakesTwo old new gives = ThenUses (Obtains old) (Unit {0})
    (λ before library requests.
    Then (Obtains new library requests) (Unit {0}) (λ after. Makes (gives before after)))

-- All that a file holds is taken, and then the source is read, and its lines give something beside
-- it. Where the file is refused nothing is done to the source.
abbrev pub ReadsBeside : List ℕ → (List ℕ → List Line → Outcome → Type 0) → Change (List ℕ)
    → Use (List ℕ)
ReadsBeside file gives source library requests =
    Then (Brings file library requests) (IsSame source)
    (λ text. ReadsAll (Within (gives text)) source)

-- A table is taken from where it comes, then a file, and then the source is read. Where the table
-- is refused the library isn't asked for the file.
abbrev pub ReadsUnderBeside : Origin → List ℕ → (Nodes → List ℕ → List Line → Outcome → Type 0)
    → Change Holding → Change (List (List ℕ)) → Change (List ℕ) → Outcome → Type 0
ReadsUnderBeside origin file gives library requests source =
    ThenUses (Obtains origin) (IsSame source)
    (λ table. ReadsBeside file (gives table) source) library requests
