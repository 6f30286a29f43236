use Rattle.std.proofs.Common.{List, sym, subst, arith}
use Rattle.context_model.specs.Atoms.{Atom}
use Rattle.step_calls.proofs.LineTexts.{HasSaid, none_said, said_more}
use Rattle.step_calls.proofs.lines.read_writes.Goals as goal

pub loop-line-init : goal.loop-line-init
loop-line-init c =
    let text = c.args.text.now in
    record {
      said =
          subst (λ (lists : List (List Atom)). HasSaid c.args.form c.args.table.now text 1 text lists) (sym c.new-lists.ensures.items)
          (none_said c.args.form c.args.table.now text);
      numbers = omega arith;
    }

pub loop-line-preserved : goal.loop-line-preserved
loop-line-preserved c = record {
  said =
      said_more c.args.form c.args.table.now c.args.text.now c.loop-line.number c.loop-line.rest.now c.in-Some.line.now c.in-Some.behind.now c.loop-line.lists.items
      c.push_context.new.contexts.items c.in-Ok.list c.loop-line.invariant.said c.in-Some.ensures.lines c.in-Ok.ensures.ok c.in_ok-push_context.ensures;
  numbers = omega (arith, c.loop-line.invariant.numbers, c.in-Some.ensures.shorter);
}
