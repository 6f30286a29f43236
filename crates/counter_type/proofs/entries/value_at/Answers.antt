use Rattle.std.proofs.Common.{◌≡◌, ◌+◌, ◌-◌, ◌/◌, sym, subst, arith}
use Rattle.std.specs.declared.cmp.Ordering.TheVariants.{Less, Equal, Greater}
use Rattle.context_model.specs.KeyedMerge.{IsAt}
use Rattle.context_model.proofs.MergeLaws.{IsIn-keys_of}
use Rattle.context_model.proofs.Search.{pairs_before, pairs_behind, pairs_absent, IsAt-place}
use Rattle.counter_type.proofs.entries.value_at.Goals as goal

pub compare-requires-clause-a_fits : goal.compare-requires-clause-a_fits
compare-requires-clause-a_fits g c =
    let e = c.index-entries-middle.result in
    let entries = c.args.entries.now in
    c.requires.keys.fit e.0 (IsIn-keys_of entries e.0 e.1 (IsAt-place entries (c.loop-low.low + (c.loop-low.high - c.loop-low.low) / 2) e (omega arith) c.index-entries-middle.is))

pub loop-low-preserved-in-Less : goal.loop-low-preserved-in-Less
loop-low-preserved-in-Less g c =
    let keys = c.args.keys.now in
    let less : g.K.Keys.order keys c.index-entries-middle.result.0 c.args.key.now ≡ Less = sym c.in-Less.ensures in
    record {
      ordered = omega arith;
      within = omega arith;
      before =
          pairs_before (g.K.Keys.order keys) (g.met.K.Keys.total keys) c.args.key.now c.args.entries.now c.requires.keys.rise
          (c.loop-low.low + (c.loop-low.high - c.loop-low.low) / 2) c.index-entries-middle.result (omega arith) c.index-entries-middle.is less;
      behind = c.loop-low.invariant.behind;
    }

pub loop-low-preserved : goal.loop-low-preserved
loop-low-preserved g c =
    let keys = c.args.keys.now in
    let greater : g.K.Keys.order keys c.index-entries-middle.result.0 c.args.key.now ≡ Greater = sym c.in-Greater.ensures in
    record {
      ordered = omega arith;
      within = omega arith;
      before = c.loop-low.invariant.before;
      behind =
          pairs_behind (g.K.Keys.order keys) (g.met.K.Keys.total keys) c.args.key.now c.args.entries.now c.requires.keys.rise
          (c.loop-low.low + (c.loop-low.high - c.loop-low.low) / 2) c.index-entries-middle.result (omega arith) c.index-entries-middle.is greater;
    }

pub returns-in-Equal : goal.returns-in-Equal
returns-in-Equal g c =
    let keys = c.args.keys.now in
    let e = c.index-entries-middle.result in
    let entries = c.args.entries.now in
    let at : IsAt e.0 e.1 entries = IsAt-place entries (c.loop-low.low + (c.loop-low.high - c.loop-low.low) / 2) e (omega arith) c.index-entries-middle.is in
    let tie : g.K.Keys.order keys e.0 c.args.key.now ≡ Equal = sym c.in-Equal.ensures in
    subst (λ (k : _). IsAt k e.1 entries)
    (g.met.K.Keys.exact keys e.0 c.args.key.now (c.requires.keys.fit e.0 (IsIn-keys_of entries e.0 e.1 at)) c.requires.key_fits tie)
    at

pub returns : goal.returns
returns g c =
    let keys = c.args.keys.now in
    pairs_absent (g.K.Keys.order keys) (g.met.K.Keys.total keys) c.args.key.now c.args.entries.now c.loop-low.low c.loop-low.high
    (omega arith) c.loop-low.invariant.ordered c.loop-low.invariant.before c.loop-low.invariant.behind
