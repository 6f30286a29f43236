use Rattle.std.proofs.Common.{take}
use Rattle.byte_calls.specs.Spans.{inputs_of}
use Rattle.step_calls.specs.Inputs.{AreTypedContextsOf}
use Rattle.step_calls.proofs.inputs.read_inputs.Given as goal

abbrev pub invariant-loop-place : goal.invariant-loop-place
invariant-loop-place l = AreTypedContextsOf l.table l.contexts.items (take l.place (inputs_of l.inputs))
