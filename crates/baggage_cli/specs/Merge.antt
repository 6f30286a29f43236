-- What lines of contexts come to, merged.
use Rattle.std.specs.Prelude.{◌≡◌, ℕ, List, [], ◌∷◌, map}
use Rattle.context_model.specs.declared.Form.{Form as WireForm}
use Rattle.context_model.specs.declared.Form.TheVariants.{One, Two}
use Rattle.context_model.specs.Atoms.{Atom}
use Rattle.context_model.specs.Framing.{bytes_of}
use Rattle.context_model.specs.Merged.{IsMerged}
use Rattle.text_lines.specs.HexLines.{hex_line}
use Rattle.text_lines.specs.Lines.{Line}
use Rattle.text_lines.specs.Readings.{Reading, AllSay, at_most}
use Rattle.baggage_cli.specs.declared.commands.merge.TheConstants.{LINES_MAX}
use Rattle.baggage_cli.specs.declared.refusals.InputCode.TheVariants.{TooManyLines}
use Rattle.baggage_cli.specs.declared.refusals.InputFault.{InputFault}
use Rattle.baggage_cli.specs.declared.refusals.InputFault.TheVariants.{Code}
use Rattle.baggage_cli.specs.Outcomes.{Outcome}
use Rattle.baggage_cli.specs.Reading.{Framed, ReadsLines, context_lines}

-- The lines that are merged, whose number is limited.
abbrev pub merged_lines : Reading Framed InputFault
merged_lines = at_most LINES_MAX (Code TooManyLines) context_lines

-- The lists alone.
abbrev pub lists_of : List Framed → List (List Atom)
lists_of said = map (λ one. one.1) said

-- Form two, where one of the lines is of it.
abbrev pub widest : List Framed → WireForm
widest [] = One
widest ((One, list) ∷ said) = widest said
widest ((Two, list) ∷ said) = Two

-- Lines say these contexts, and this is the widest of their forms.
abbrev pub AreContexts : List Line → WireForm → List (List Atom) → Type 0
AreContexts lines form lists =
    (said : List Framed) × AllSay merged_lines [] lines said × (form ≡ widest said)
    × (lists ≡ lists_of said)

-- The output is the line of the merge of these contexts, in the widest of their forms.
abbrev pub IsMergeLine : List Framed → List ℕ → Type 0
IsMergeLine said output =
    (merged : List Atom) × IsMerged (lists_of said) merged
    × (output ≡ hex_line (bytes_of (widest said) merged))

-- What lines come to, merged: lines of contexts give the line of their merge.
abbrev pub MergesLines : List Line → Outcome → Type 0
MergesLines = ReadsLines merged_lines IsMergeLine
