use Rattle.std.proofs.Common.{◌≡◌, length, map, take}
use Rattle.std.specs.Fmt.{decimal}
use Rattle.std.specs.List.{AllByRecursion}
use Rattle.graph_lines.specs.Forms.{IsNumber}
use Rattle.text_lines.proofs.Separated.{pieces}
use Rattle.graph_lines.proofs.numbers.read_numbers.Given as goal

abbrev pub invariant-loop-word : goal.invariant-loop-word
invariant-loop-word l = record {
  so_far : map decimal l.numbers.items ≡ take (length l.yielded) (pieces 32 l.text);
  all : AllByRecursion IsNumber l.numbers.items;
}
