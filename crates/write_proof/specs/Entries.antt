-- The lines of a certificate.
use Rattle.std.specs.Prelude.{◌≡◌, ℕ, List, [], ◌∷◌, ◌++◌, map, codes}
use Rattle.std.specs.Fmt.{decimal}
use Rattle.std.specs.List.{join_with_byte}
use Rattle.text_lines.specs.FedLines.{fed_lines}
use Rattle.text_lines.specs.Lines.{Line, numbered}
use Rattle.graph_lines.specs.Forms.{IsNumber, IsPath}

-- What a line says: for which step and for which slot's path the certificate is; the text of the
-- value there; a step that reaches that step, with a child of it; or a step whose contribution is
-- used.
pub data Entry : Type 0 where
  Why : ℕ → List ℕ → Entry
  ValueText : List ℕ → Entry
  Reach : ℕ → ℕ → Entry
  Uses : ℕ → Entry

-- The words of an entry, with one space between two of them.
abbrev pub entry_text : Entry → List ℕ
entry_text (Why n path) = join_with_byte 32 (codes "why" ∷ decimal n ∷ path ∷ [])
entry_text (ValueText text) = codes "value " ++ text
entry_text (Reach w child) = join_with_byte 32 (codes "reach" ∷ decimal w ∷ decimal child ∷ [])
entry_text (Uses w) = join_with_byte 32 (codes "uses" ∷ decimal w ∷ [])

-- The line of an entry, which ends with a line feed.
abbrev pub entry_line : Entry → List ℕ
entry_line entry = entry_text entry ++ 10 ∷ []

-- The entries of a certificate: its step and path, the value's text, the steps that reach with
-- their children, and the steps that are used.
abbrev pub entries_of : ℕ → List ℕ → List ℕ → List (ℕ × ℕ) → List ℕ → List Entry
entries_of n path text pairs steps =
    Why n path ∷ ValueText text ∷ (map (λ pair. Reach pair.0 pair.1) pairs ++ map Uses steps)

-- Numbers have at most ten digits, and a path is names with dots between them; the text of a value
-- may be any bytes.
abbrev pub IsSoundEntry : Entry → Type 0
IsSoundEntry (Why n path) = IsNumber n × IsPath path
IsSoundEntry (ValueText text) = Unit {0}
IsSoundEntry (Reach w child) = IsNumber w × IsNumber child
IsSoundEntry (Uses w) = IsNumber w

-- The line has a form, and says this.
abbrev pub HasEntryForm : List ℕ → Entry → Type 0
HasEntryForm line entry = IsSoundEntry entry × (line ≡ entry_line entry)

-- The lines of a certificate, with their numbers from 1. None is skipped, and the last may be
-- without its line feed.
abbrev pub lines_in : List ℕ → List Line
lines_in certificate = numbered 1 (fed_lines certificate)
