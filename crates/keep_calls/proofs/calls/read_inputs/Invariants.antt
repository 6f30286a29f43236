use Rattle.std.proofs.Common.{take}
use Rattle.byte_calls.specs.Spans.{inputs_of}
use Rattle.byte_calls.specs.Contexts.{AreContextsOf}
use Rattle.keep_calls.proofs.calls.read_inputs.Given as goal

abbrev pub invariant-loop-place : goal.invariant-loop-place
invariant-loop-place l = AreContextsOf l.contexts.items (take l.place (inputs_of l.inputs))
