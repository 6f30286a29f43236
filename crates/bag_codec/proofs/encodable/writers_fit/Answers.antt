use Rattle.std.proofs.Common.{sym, ap, ◌∙◌, arith}
use Rattle.std.specs.Option.{option_map}
use Rattle.bag_codec.specs.Encodable.{HasRoom}
use Rattle.bag_codec.proofs.Parts.{pair_at, pair_turn, both_ways}
use Rattle.bag_codec.proofs.encodable.writers_fit.Goals as goal

pub returns-then-writer-ge-ATOM_MAX : goal.returns-then-writer-ge-ATOM_MAX
returns-then-writer-ge-ATOM_MAX c = (
  λ t. absurd (cc),
  λ each.
      let room = pair_at (λ writer n. HasRoom writer) c.args.counts.now c.loop-at.at (c.unwrap.result.0.now, c.unwrap.result.1) each (sym c.nth.ensures ∙ ap (option_map (λ e. (e.0.now, e.1))) c.unwrap.ensures) in
      absurd (omega (arith, room, c.if-writer-ge-ATOM_MAX.true)),
)

pub loop-at-preserved : goal.loop-at-preserved
loop-at-preserved c =
    both_ways c.loop-at.invariant
    (pair_turn (λ writer n. HasRoom writer) c.args.counts.now c.loop-at.at (c.unwrap.result.0.now, c.unwrap.result.1) (omega (arith, c.if-writer-ge-ATOM_MAX.false))
    (sym c.nth.ensures ∙ ap (option_map (λ e. (e.0.now, e.1))) c.unwrap.ensures))
