use Rattle.std.proofs.Common.{ℕ, List, sym, subst}
use Rattle.field_writes.proofs.Quoted.{ByteThen, GivesBack, GoesOn, byte_then, then_byte, back_more, goes_more, back_all, goes_nowhere}
use Rattle.field_writes.proofs.strings.take_bytes.Goals as goal

pub bytes-preserved : goal.bytes-preserved
bytes-preserved c =
    let whole : List ℕ = c.args.text.now in
    let done : List ℕ = c.bytes.bytes.items in
    let left : List ℕ = c.bytes.rest.now in
    let more : List ℕ = c.in-Some.more.now in
    let byte : ℕ = c.in-Some.byte in
    let said = c.in-Some.ensures in
    let first : ByteThen byte more left = byte_then byte said.0 more left said.1 said.2 in
    let grown = sym c.in_ok-push.ensures.items in
    record {
      back = subst (λ (l : List ℕ). GivesBack whole l more) grown (back_more whole done left more byte c.bytes.invariant.back first);
      forth = subst (λ (l : List ℕ). GoesOn whole l more) grown (goes_more whole done left more byte c.bytes.invariant.forth first);
    }

pub returns-in-Some-behind : goal.returns-in-Some-behind
returns-in-Some-behind c = back_all c.args.text.now c.bytes.bytes.items c.bytes.rest.now c.in-Some-behind.end.now c.bytes.invariant.back c.in-Some-behind.ensures

pub returns : goal.returns
returns c =
    let left : List ℕ = c.bytes.rest.now in
    goes_nowhere c.args.text.now c.bytes.bytes.items left c.bytes.invariant.forth c.in-None.ensures
    (λ byte behind p. c.in_default.ensures byte behind (then_byte byte behind left p))
