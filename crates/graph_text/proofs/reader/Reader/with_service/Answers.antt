use Rattle.std.proofs.Common.{◌≡◌, None, sym, subst}
use Rattle.std.proofs.lemmas.Map.Text.{btree_map_updates_str}
use Rattle.trace_model.specs.Graphs.{Graph}
use Rattle.recorded_graph.specs.Plain.{service_of}
use Rattle.graph_text.specs.Names.{service_named}
use Rattle.graph_text.proofs.Numbers.{numbers_grow}
use Rattle.graph_text.proofs.reader.Reader.with_service.Goals as goal

pub invariant_of-result : goal.invariant_of-result
invariant_of-result c =
    let graph = c.self.inside.graph in
    let new : service_named graph c.args.name.now ≡ None = subst (λ (g : Graph). service_named g c.args.name.now ≡ None) (sym c.self.view_is) c.requires.new in
    numbers_grow graph c.add_service.new.self (service_of c.args.service) c.args.name.now c.services.result c.self.inside.numbers c.insert.new.self
    c.self.invariant c.requires.name c.services.ensures new
    (btree_map_updates_str c.args.name.now c.self.inside.numbers c.insert.new.self _ c.in_ok-insert.ensures.updates)
    c.in_ok-add_service.ensures.ok
