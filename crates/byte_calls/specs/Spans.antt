-- Inputs in an array.
use Rattle.std.specs.Prelude.{ℕ, List, map}
use Rattle.byte_calls.specs.declared.spans.Span.{Span}

-- The bytes of each input.
abbrev pub inputs_of : List Span → List (List ℕ)
inputs_of spans = map (λ span. span.bytes.now) spans
