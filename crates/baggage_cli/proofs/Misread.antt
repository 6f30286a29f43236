-- What is refused of bytes that aren't those of a list or a context.
use Rattle.std.proofs.Common.{◌≡◌, inl, inr, ℕ, ◌≤◌, List, Ok, Err, refl, sym, ap, subst}
use Rattle.context_model.specs.Framing.{form_of, least_budget}
use Rattle.context_model.specs.WireFault.{IsFirstWireFault}
use Rattle.text_carrier.specs.Collecting.{Collects}
use Rattle.text_lines.specs.HexLines.{IsHexOf}
use Rattle.text_lines.specs.Lines.{Line}
use Rattle.wire_bytes.specs.declared.contexts.ContextFault.{ContextFault}
use Rattle.wire_bytes.specs.declared.contexts.ContextFault.TheVariants as contexts
use Rattle.wire_bytes.specs.declared.reading.WireFault.{WireFault}
use Rattle.wire_bytes.specs.declared.reading.WireFault.TheVariants as wires
use Rattle.wire_bytes.specs.Reading.{code_of, IsContextRefusalOf, IsWireRefusalOf, SaysFault}
use Rattle.baggage_cli.specs.declared.refusals.InputFault.TheVariants.{Bytes}
use Rattle.baggage_cli.specs.declared.refusals.Refusal.{Refusal}
use Rattle.baggage_cli.specs.Collect.{CollectsLines}
use Rattle.baggage_cli.specs.Outcomes.{OrMemory}
use Rattle.baggage_cli.specs.Reading.{RefusesLine, context_lines, cut_lines}
use Rattle.baggage_cli.specs.Refusals.{context_refusal}

-- A line whose bytes have this fault of a context is bad.
pub misread_context : (line : Line) (bytes : List ℕ) (fault : ContextFault) (refusal : Refusal) → IsHexOf bytes line.1 → IsContextRefusalOf bytes fault → refusal ≡ context_refusal line.0 fault
    → RefusesLine context_lines line refusal
misread_context line bytes (contexts.At offset code) refusal hex first is = inr (Bytes offset code, inr (bytes, hex, (offset, code, first, refl)), is)
misread_context line bytes contexts.Memory refusal hex first is = inl is

-- So is one whose bytes have this fault of a list, where lists of their form can be cut to the budget.
pub misread_list : (budget : ℕ) (line : Line) (bytes : List ℕ) (wire : WireFault) (fault : ContextFault) (refusal : Refusal) → IsHexOf bytes line.1 → least_budget (form_of bytes) ≤ budget
    → IsWireRefusalOf bytes wire → SaysFault wire fault → refusal ≡ context_refusal line.0 fault → RefusesLine (cut_lines budget) line refusal
misread_list budget line bytes (wires.At offset wire) (contexts.At same code) refusal hex enough first says is =
    let at = subst (λ o. IsFirstWireFault bytes o (code_of wire)) (sym says.0) first in
    inr (Bytes same code, inr (bytes, hex, inr (enough, (same, code, subst (IsFirstWireFault bytes same) (sym says.1) at, refl))), is)
misread_list budget line bytes (wires.At offset wire) contexts.Memory refusal hex enough first says is = absurd says
misread_list budget line bytes wires.Memory (contexts.At same code) refusal hex enough first says is = absurd says
misread_list budget line bytes wires.Memory contexts.Memory refusal hex enough first says is = inl is

-- The bytes that pieces say are refused for this fault of a context.
pub misread_pieces : (lines : List Line) (bytes : List ℕ) (fault : ContextFault) (refusal : Refusal) → Collects lines (Ok bytes) → IsContextRefusalOf bytes fault → refusal ≡ context_refusal 0 fault
    → OrMemory (CollectsLines lines) (Err refusal)
misread_pieces lines bytes (contexts.At offset code) refusal says first is = inr (inr (bytes, offset, code, says, first, is))
misread_pieces lines bytes contexts.Memory refusal says first is = inl (ap Err is)
