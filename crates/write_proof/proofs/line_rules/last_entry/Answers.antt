use Rattle.std.proofs.Common.{◌∙◌, ap}
use Rattle.std.specs.Option.{option_map}
use Rattle.write_proof.specs.Views.{entry_of}
use Rattle.write_proof.proofs.Looking.{last_read}
use Rattle.write_proof.proofs.line_rules.last_entry.Goals as goal

pub returns : goal.returns
returns c = ap (option_map entry_of) (cc) ∙ last_read c.args.entries.now
