use Rattle.std.proofs.Common.{ℕ, List, [], arith}
use Rattle.std.specs.Borrow.{Bor}
use Rattle.text_carrier.proofs.Joined.{data_at, joined_more, joined_less}
use Rattle.text_carrier.proofs.collecting.join.Goals as goal

abbrev none : Bor (List ℕ)
none = record { ref_ptr = (0, 0); now = [] }

pub append_data-requires : goal.append_data-requires
append_data-requires c = data_at c.args.texts.now c.loop-text.text-index none c.loop-text-test.true c.requires

pub returns-then-len-gt-CARRIED_MAX-clause-err : goal.returns-then-len-gt-CARRIED_MAX-clause-err
returns-then-len-gt-CARRIED_MAX-clause-err c =
    let more = c.append_data.new.into in
    let limit = joined_less c.args.texts.now c.loop-text.text-index none c.loop-text.bytes.items more.items c.loop-text-test.true c.loop-text.invariant.joined c.in_ok-append_data.ensures in
    omega (arith, limit, c.if-len-gt-CARRIED_MAX.true, c.len.ensures, more.ok.0)

pub loop-text-preserved : goal.loop-text-preserved
loop-text-preserved c =
    let more = c.append_data.new.into in
    record {
      joined = joined_more c.args.texts.now c.loop-text.text-index none c.loop-text.bytes.items more.items c.loop-text-test.true c.loop-text.invariant.joined c.in_ok-append_data.ensures;
      few = omega (arith, c.if-len-gt-CARRIED_MAX.false, c.len.ensures, more.ok.0);
    }
