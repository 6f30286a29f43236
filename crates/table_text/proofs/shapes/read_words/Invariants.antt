use Rattle.std.proofs.Common.{◌≡◌, length, map, take}
use Rattle.bag_model.specs.Words.{word_text}
use Rattle.text_lines.proofs.Separated.{pieces}
use Rattle.table_text.proofs.shapes.read_words.Given as goal

abbrev pub invariant-loop-piece : goal.invariant-loop-piece
invariant-loop-piece l = map word_text l.words ≡ take (length l.yielded) (pieces 44 l.text)
