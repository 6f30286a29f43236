use Rattle.std.proofs.Common.{◌≡◌, ◌<◌, ◌≤◌, inr, sym, ◌∙◌, [], ◌∷◌, ◌++◌, length, map, subst, arith}
use Rattle.std.proofs.lemmas.List.{map-append}
use Rattle.std.proofs.lemmas.Result.{err_from_is_err_and}
use Rattle.text_lines.specs.Lines.{line_value, lines_of}
use Rattle.text_lines.proofs.LineLaws.{taken_before}
use Rattle.baggage_cli.specs.declared.commands.merge.TheConstants.{LINES_MAX}
use Rattle.baggage_cli.specs.Merge.{AreContexts}
use Rattle.baggage_cli.specs.Reading.{Framed}
use Rattle.baggage_cli.proofs.ContextLines.{contexts-few, too_many, next_refused, next_wide, next_same}
use Rattle.baggage_cli.proofs.commands.merge.read_contexts.Goals.{in-Two, in_default}
use Rattle.baggage_cli.proofs.commands.merge.read_contexts.Goals as goal

pub returns-then-len-eq-LINES_MAX-clause-err : goal.returns-then-len-eq-LINES_MAX-clause-err
returns-then-len-eq-LINES_MAX-clause-err c =
    let start : lines_of c.args.input.now ≡ c.into_iter-line-iterator.result = cc (c.lines_of-line-items.ensures, c.into_iter-line-iterator.ensures.into_iter_gives) in
    let split = start ∙ taken_before c.into_iter-line-iterator.result c.loop-line.yielded c.loop-line.line-iterator c.loop-line.yielded_by in
    let all : LINES_MAX ≤ length c.loop-line.contexts.items = omega arith in
    inr (too_many (lines_of c.args.input.now) (map line_value c.loop-line.yielded) (line_value c.in-Some.line) c.next.new.self c.loop-line.line-iterator c.loop-line.widest c.loop-line.contexts.items
    split c.in-Some.ensures.steps c.loop-line.invariant all)

pub returns-in_err-form-clause-err : goal.returns-in_err-form-clause-err
returns-in_err-form-clause-err c =
    let start : lines_of c.args.input.now ≡ c.into_iter-line-iterator.result = cc (c.lines_of-line-items.ensures, c.into_iter-line-iterator.ensures.into_iter_gives) in
    let split = start ∙ taken_before c.into_iter-line-iterator.result c.loop-line.yielded c.loop-line.line-iterator c.loop-line.yielded_by in
    let most = contexts-few (map line_value c.loop-line.yielded) c.loop-line.widest c.loop-line.contexts.items c.loop-line.invariant in
    let few : length c.loop-line.contexts.items < LINES_MAX = omega arith in
    let same = err_from_is_err_and c.from_residual.result c.from_residual.ensures.1 in
    rw (same.1, same.2) (next_refused (lines_of c.args.input.now) (map line_value c.loop-line.yielded) (line_value c.in-Some.line) c.next.new.self c.loop-line.line-iterator c.loop-line.widest
    c.loop-line.contexts.items c.in_err-form.field-0.0 split c.in-Some.ensures.steps c.loop-line.invariant few c.in_err-form.ensures.err)

pub loop-line-preserved : goal.loop-line-preserved
loop-line-preserved c =
    let lines = map line_value c.loop-line.yielded in
    let line = line_value c.in-Some.line in
    let most = contexts-few lines c.loop-line.widest c.loop-line.contexts.items c.loop-line.invariant in
    let few : length c.loop-line.contexts.items < LINES_MAX = omega arith in
    let said : Framed = (c.in_ok-form.form, c.in_ok-form.context) in
    let all : AreContexts (lines ++ line ∷ []) c.match-form.widest (c.loop-line.contexts.items ++ c.in_ok-form.context ∷ []) = elim c.match-form.branch [
      | in-Two w ↦ subst (λ form. AreContexts (lines ++ line ∷ []) form (c.loop-line.contexts.items ++ c.in_ok-form.context ∷ [])) (sym w.widest-is)
          (next_wide lines line c.loop-line.widest c.loop-line.contexts.items said w.in-Two.is c.loop-line.invariant few c.in_ok-form.ensures.ok)
      | in_default w ↦ subst (λ form. AreContexts (lines ++ line ∷ []) form (c.loop-line.contexts.items ++ c.in_ok-form.context ∷ [])) (sym w.widest-is)
          (next_same lines line c.loop-line.widest c.loop-line.contexts.items said w.in_default.not-Two c.loop-line.invariant few c.in_ok-form.ensures.ok)
    ] in
    subst (λ lists. AreContexts (map line_value (c.loop-line.yielded ++ c.in-Some.line ∷ [])) c.match-form.widest lists) (sym c.in_ok-push.ensures.items)
    (subst (λ ls. AreContexts ls c.match-form.widest (c.loop-line.contexts.items ++ c.in_ok-form.context ∷ [])) (sym (map-append line_value c.loop-line.yielded (c.in-Some.line ∷ []))) all)
