use Rattle.std.proofs.Common.{◌≡◌, ◌≢◌, false, Less, Greater, sym, ap, ◌∙◌, arith}
use Rattle.std.specs.Ordering.{ordering_reverse, is_lt}
use Rattle.context_model.specs.Atoms.{Atom}
use Rattle.context_model.specs.Orders.{atom_cmp}
use Rattle.context_model.specs.Paths.{is_header, level, atom_at}
use Rattle.context_model.proofs.OrderLaws.{atoms_total}
use Rattle.bag_scan.proofs.searches.passes.Goals as goal

-- Where an atom doesn't come before another, that one doesn't come after it.
not_behind : (a h : Atom) → is_lt (atom_cmp a h) ≡ false → atom_cmp h a ≢ Greater
not_behind a h other greater =
    let less : atom_cmp a h ≡ Less = atoms_total.antisymm a h ∙ ap ordering_reverse greater in
    let clash = sym other ∙ ap is_lt less in
    cc

pub returns-then-own-level-2-clause-stop : goal.returns-then-own-level-2-clause-stop
returns-then-own-level-2-clause-stop c = λ other.
    let told = c.in-Some.ensures in
    let header = ap is_header (sym c.atom-atom.ensures) ∙ told.0 in
    let same : level (atom_at c.args.list.now c.args.at) ≡ c.args.level = ap level (sym c.atom-atom.ensures) ∙ sym told.1 ∙ c.if-own-level-2.true in (
      header,
      omega (arith, same),
      λ own. not_behind (atom_at c.args.list.now c.args.at) c.args.header.now
          (ap (λ a. is_lt (atom_cmp a c.args.header.now)) (sym c.atom-atom.ensures) ∙ ap is_lt (sym c.order_of.ensures) ∙ sym c.is_lt.ensures ∙ other),
    )
