use Rattle.std.proofs.Common.{◌≡◌, length, map, take}
use Rattle.std.specs.List.{AllByRecursion}
use Rattle.graph_lines.specs.Forms.{IsPath}
use Rattle.text_lines.proofs.Separated.{pieces}
use Rattle.graph_lines.proofs.words.read_paths.Given as goal

abbrev pub invariant-loop-path : goal.invariant-loop-path
invariant-loop-path l = record {
  so_far : map (λ path. path.now) l.paths.items ≡ take (length l.yielded) (pieces 32 l.text);
  all : AllByRecursion IsPath (map (λ path. path.now) l.paths.items);
}
