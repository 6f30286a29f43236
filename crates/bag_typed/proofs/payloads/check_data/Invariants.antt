use Rattle.bag_walks.specs.Parts.{HasNoHeader}
use Rattle.bag_typed.specs.Payloads.{IsPayload}
use Rattle.bag_typed.proofs.Data.{AreRight}
use Rattle.bag_typed.proofs.payloads.check_data.Given as goal

abbrev pub invariant-loop-at : goal.invariant-loop-at
invariant-loop-at l = record {
  part : HasNoHeader l.list l.from l.at;
  right : AreRight (IsPayload l.payload) l.list l.from l.at;
}
