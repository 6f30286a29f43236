use Rattle.std.proofs.Common.{◌↔◌, map, drop}
use Rattle.context_model.specs.Ended.{field_path, IsBeyond}
use Rattle.atom_list.specs.OpenPlaces.{atom_at}
use Rattle.atom_list.proofs.ended.are_beyond.Given as goal

abbrev pub invariant-loop-level : goal.invariant-loop-level
invariant-loop-level l =
    IsBeyond (drop l.level (field_path l.numbers)) (drop l.level (map (atom_at l.list) l.headers)) ↔ IsBeyond (field_path l.numbers) (map (atom_at l.list) l.headers)
