use Rattle.std.proofs.Common.{◌≡◌, ◌⊎◌, inl, inr, Result, Ok, Err, IfOk, MatchResult, string_bytes, subst}
use Rattle.baggage_cli.specs.Delivery.{TellsLine}
use Rattle.baggage_cli.specs.Refusals.{definition_line, table_line}
use Rattle.baggage_cli.specs.Scene.{change}
use Rattle.baggage_cli.proofs.delivery.refuse.Goals as goal

-- A line was written, or a notice in its place.
told_or_not : {S E Told Noticed : Type 0} (line : Result S E) (Is Says : S → Type 0) → IfOk line Is → MatchResult line Says (λ _. Noticed)
    → ((said : S) → Is said → Says said → Told) → Told ⊎ Noticed
told_or_not (Ok said) Is Says is says tells = inl (tells said is says)
told_or_not (Err wanting) Is Says is says tells = inr says

pub returns-in-Definition : goal.returns-in-Definition
returns-in-Definition g c =
    let errs = change g.E.Sink.written g.E.Sink.faults c.args.errs.now c.tell_in_full-in-Definition.new.errs in
    let answer = c.tell_in_full-in-Definition.result in
    let told = definition_line c.as_str.result.now c.in-Definition.line c.in-Definition.column c.in-Definition.code in
    rw (c.in-Definition.is, ← c.as_str.ensures.value) (told_or_not c.definition_line-line.result (λ said. string_bytes said ≡ told) (λ said. TellsLine 1 (string_bytes said) errs answer)
    c.definition_line-line.ensures c.tell_in_full-in-Definition.ensures (λ said is says. subst (λ bytes. TellsLine 1 bytes errs answer) is says))

pub returns-in-Table : goal.returns-in-Table
returns-in-Table g c =
    let errs = change g.E.Sink.written g.E.Sink.faults c.args.errs.now c.tell_in_full-in-Table.new.errs in
    let answer = c.tell_in_full-in-Table.result in
    let told = table_line c.as_str-in-Table.result.now c.in-Table.line c.in-Table.code in
    rw (c.in-Table.is, ← c.as_str-in-Table.ensures.value) (told_or_not c.table_line-line.result (λ said. string_bytes said ≡ told) (λ said. TellsLine 1 (string_bytes said) errs answer)
    c.table_line-line.ensures c.tell_in_full-in-Table.ensures (λ said is says. subst (λ bytes. TellsLine 1 bytes errs answer) is says))
