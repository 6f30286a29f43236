use Rattle.std.proofs.Common.{◌<◌, ltb-true, lt-ltb, length, ap, arith}
use Rattle.context_model.specs.Ended.{front_of}
use Rattle.context_model.proofs.Places.{front_of-marker}
use Rattle.atom_list.proofs.contexts.Context.has_marker.Goals as goal

pub returns : goal.returns
returns c = (
  (λ t.
      let less : c.front_len.result < c.len.result = ltb-true c.front_len.result c.len.result t in
      (front_of-marker c.args.self.now).0 (omega (arith, c.front_len.ensures, c.len.ensures.len, ap length c.list.ensures.list))),
  λ m.
      let less : length (front_of c.args.self.now) < length c.args.self.now = (front_of-marker c.args.self.now).1 m in
      lt-ltb c.front_len.result c.len.result (omega (arith, c.front_len.ensures, c.len.ensures.len, ap length c.list.ensures.list)),
)
