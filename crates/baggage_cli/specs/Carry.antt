-- What one line of a context comes to, as lines of its pieces.
use Rattle.std.specs.Prelude.{◌≡◌, ℕ, List, []}
use Rattle.context_model.specs.Atoms.{Atom}
use Rattle.context_model.specs.ContextFault.{IsContextOf}
use Rattle.text_carrier.specs.Carrying.{carried_text}
use Rattle.text_lines.specs.HexLines.{hex_lines}
use Rattle.text_lines.specs.Lines.{Line}
use Rattle.text_lines.specs.Readings.{Reading}
use Rattle.baggage_cli.specs.declared.refusals.InputFault.{InputFault}
use Rattle.baggage_cli.specs.declared.refusals.InputFault.TheVariants.{Hex}
use Rattle.baggage_cli.specs.Outcomes.{Outcome}
use Rattle.baggage_cli.specs.Reading.{ReadsOne, context_bytes}

-- Some context has these bytes.
abbrev pub AreOfContext : List ℕ → Type 0
AreOfContext bytes = (list : List Atom) × IsContextOf list bytes

-- Bytes say themselves where they are those of a context, and have the first fault of a context
-- otherwise.
abbrev pub own_bytes : Reading (List ℕ) InputFault
own_bytes = record {
  says = λ earlier bytes said. (said ≡ bytes) × AreOfContext bytes;
  faults = λ earlier bytes fault. context_bytes.faults [] bytes fault;
}

-- Lines of digits say the bytes of contexts.
abbrev pub byte_lines : Reading (List ℕ) InputFault
byte_lines = hex_lines Hex own_bytes

-- What lines come to, carried in pieces of this width: the one line of a context gives the lines of
-- the pieces of its bytes.
abbrev pub CarriesLines : ℕ → List Line → Outcome → Type 0
CarriesLines width = ReadsOne byte_lines (λ bytes output. output ≡ carried_text width bytes)
