use Rattle.std.proofs.Common.{ap, ◌∙◌, sym, subst, rules, List, ℕ}
use Rattle.std.specs.Prelude.{IsUtf8}
use Rattle.field_writes.specs.Ends.{IsEnd}
use Rattle.field_writes.proofs.Quoted.{InsideThen}
use Rattle.field_writes.proofs.Taking.{no_string_inside, no_other_string, string_begins}
use Rattle.field_writes.proofs.strings.take_string.Goals as goal

pub returns-in_default-2 : goal.returns-in_default-2
returns-in_default-2 c = no_string_inside c.args.text.now c.in-Some.inside.now c.in-Some.ensures (rw c.in_default-2.is at c.in_ok-bytes.ensures)

pub returns-then-not-is_end : goal.returns-then-not-is_end
returns-then-not-is_end c =
    let bytes : List ℕ = c.in-Some-2.bytes.items in
    let rest : List ℕ = c.in-Some-2.rest.now in
    let here : InsideThen bytes rest c.in-Some.inside.now = rw c.in-Some-2.is at c.in_ok-bytes.ensures in
    let none : IsEnd rest → ⊥ = search (rules, c.if-not-is_end.ensures) in
    no_other_string c.args.text.now c.in-Some.inside.now bytes rest c.in-Some.ensures here (λ end _. none end)

pub returns-in-Ok : goal.returns-in-Ok
returns-in-Ok c =
    let bytes : List ℕ = c.in-Some-2.bytes.items in
    let rest : List ℕ = c.in-Some-2.rest.now in
    let here : InsideThen bytes rest c.in-Some.inside.now = rw c.in-Some-2.is at c.in_ok-bytes.ensures in
    let end : IsEnd rest = search (rules, c.if-not-is_end.ensures) in
    let same = c.in_ok-from_string-in-Ok.ensures.made ∙ ap (λ v. v.items) c.in-Ok.ensures.ok in
    string_begins c.in_ok-from_string-in-Ok.field-0 rest c.args.text.now c.in-Some.inside.now c.in-Some.ensures
    (subst (λ (l : List ℕ). InsideThen l rest c.in-Some.inside.now) (sym same) here) c.in_ok-from_string-in-Ok.ensures.utf8 end

pub returns : goal.returns
returns c =
    let bytes : List ℕ = c.in-Some-2.bytes.items in
    let rest : List ℕ = c.in-Some-2.rest.now in
    let here : InsideThen bytes rest c.in-Some.inside.now = rw c.in-Some-2.is at c.in_ok-bytes.ensures in
    let none : IsUtf8 bytes → ⊥ = search (rules, c.in-Err.ensures.succeeds) in
    no_other_string c.args.text.now c.in-Some.inside.now bytes rest c.in-Some.ensures here (λ _ utf8. none utf8)
