use Rattle.std.proofs.Common.{◌∙◌, ◌==◌, ap, sym, cond, true}
use Rattle.std.specs.Cmp.{unsigned_ties}
use Rattle.bdl_check.specs.Lookups.{has_number}
use Rattle.bdl_check.proofs.FieldLaws.{is_added}
use Rattle.bdl_check.proofs.fields.add_number.Goals as goal

pub returns-clause-added : goal.returns-clause-added
returns-clause-added c = λ other.
    let had = has_number c.args.numbers.now other in
    c.in_ok-insert.ensures.updates.0 other ∙ ap (λ is_it. cond is_it true had) (sym (unsigned_ties c.args.number other))
    ∙ is_added (c.args.number == other) had
