use Rattle.std.proofs.Common.{◌+◌, ◌<◌, length, sym, ap, ◌∙◌, arith}
use Rattle.context_model.specs.Paths.{is_header, path_before}
use Rattle.bag_walks.specs.Parts.{IsDataPart}
use Rattle.bag_typed.specs.Payloads.{IsPayload}
use Rattle.bag_typed.proofs.Data.{datum_alone, right_data, wrong_datum}
use Rattle.bag_typed.proofs.payloads.check_data.Goals as goal

pub returns-in-Some-clause-right : goal.returns-in-Some-clause-right
returns-in-Some-clause-right c =
    let list = c.args.list.now in
    let part : IsDataPart list c.args.from c.loop-at.at = record {
      part = c.loop-at.invariant.part;
      ends = λ _. ap is_header (sym c.atom-atom.ensures) ∙ c.in-Some.ensures.0;
    } in
    right_data (IsPayload c.args.payload.now) list c.args.from (path_before list c.args.from) c.requires.behind c.loop-at.at part c.loop-at.invariant.right

pub returns-then-not-fits_atom-clause-fault : goal.returns-then-not-fits_atom-clause-fault
returns-then-not-fits_atom-clause-fault c =
    let list = c.args.list.now in
    let at = c.loop-at.at in
    let (x, is, bad) = c.fits_atom.ensures.wrong c.if-not-fits_atom.true in
    let here = sym c.atom-atom.ensures ∙ is in
    let within : at < length list = omega (arith, c.loop-at-test.true, c.len-at-end.ensures.len) in
    wrong_datum (IsPayload c.args.payload.now) list c.args.from (path_before list c.args.from) c.requires.behind (at + 1) at x
    (datum_alone list c.args.from at x within here c.loop-at.invariant.part) c.loop-at.auto.at (omega arith) here bad c.loop-at.invariant.right

pub returns-clause-right : goal.returns-clause-right
returns-clause-right c =
    let list = c.args.list.now in
    let part : IsDataPart list c.args.from c.loop-at.at = record {
      part = c.loop-at.invariant.part;
      ends = λ less. absurd (omega (arith, less, c.loop-at-test.false, c.len-at-end.ensures.len));
    } in
    right_data (IsPayload c.args.payload.now) list c.args.from (path_before list c.args.from) c.requires.behind c.loop-at.at part c.loop-at.invariant.right
