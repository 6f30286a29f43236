use Rattle.std.proofs.Common.{◌≡◌, Less, Equal, sym, ◌∙◌, ap, arith}
use Rattle.context_model.specs.Orders.{atom_cmp}
use Rattle.context_model.specs.Paths.{atom_at}
use Rattle.lex_merge.proofs.Taking.{run_none, run_less, run_equal}
use Rattle.lex_merge.proofs.runs.run_to.Goals as goal

pub loop-at-init : goal.loop-at-init
loop-at-init c = run_none c.args.a.now c.args.i c.args.b.now c.args.j c.requires.first (omega (arith, c.requires.second))

pub loop-at-preserved : goal.loop-at-preserved
loop-at-preserved c =
    let a = c.args.a.now in
    let b = c.args.b.now in
    let at = c.loop-at.at in
    let less : atom_cmp (atom_at a at) (atom_at b c.args.j) ≡ Less =
    ap (λ y. atom_cmp (atom_at a at) y) (sym c.atom-other.ensures) ∙ ap (λ x. atom_cmp x c.atom-other.result.now) (sym c.atom.ensures) ∙ sym c.compare.ensures ∙ c.in-Less.is in
    run_less a c.args.i b c.args.j at c.args.j c.loop-at.invariant (omega arith) c.requires.second less

pub returns-in-Equal-clause-run : goal.returns-in-Equal-clause-run
returns-in-Equal-clause-run c =
    let a = c.args.a.now in
    let b = c.args.b.now in
    let at = c.loop-at.at in
    let equal : atom_cmp (atom_at a at) (atom_at b c.args.j) ≡ Equal =
    ap (λ y. atom_cmp (atom_at a at) y) (sym c.atom-other.ensures) ∙ ap (λ x. atom_cmp x c.atom-other.result.now) (sym c.atom.ensures) ∙ sym c.compare.ensures ∙ c.in-Equal.is in
    run_equal a c.args.i b c.args.j at c.args.j c.loop-at.invariant (omega arith) c.requires.second equal
