use Rattle.std.proofs.Common.{◌≡◌, ◌<◌, ℕ, List, [], length, map, Some}
use Rattle.std.specs.List.{slice_index_or}
use Rattle.text_carrier.specs.Pieces.{Piece}
use Rattle.text_carrier.specs.Views.{IsTextAt, Keeps}
use Rattle.text_carrier.proofs.pieces.Pieces.in_order.Given as goal

abbrev pub invariant-loop-piece : goal.invariant-loop-piece
invariant-loop-piece l = record {
  many : length l.texts.items ≡ l.piece;
  each : (said : List Piece) → Keeps said l.self → (place : ℕ) → place < l.piece
      → IsTextAt said place (Some (slice_index_or (map (λ text. text.now) l.texts.items) place []));
}
