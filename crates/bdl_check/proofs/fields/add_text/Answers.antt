use Rattle.std.proofs.Common.{◌∙◌, ap, cond, true}
use Rattle.std.proofs.lemmas.Map.Text.{is_eq-slice_cmp}
use Rattle.std.specs.Str.{bytes_eq}
use Rattle.bdl_check.specs.Lookups.{has_text}
use Rattle.bdl_check.proofs.FieldLaws.{is_added}
use Rattle.bdl_check.proofs.fields.add_text.Goals as goal

pub returns-clause-added : goal.returns-clause-added
returns-clause-added c = λ other.
    let had = has_text c.args.texts.now other in
    c.in_ok-insert.ensures.updates.0 (record { ref_ptr = c.args.text.ref_ptr; now = other })
    ∙ ap (λ is_it. cond is_it true had) (is_eq-slice_cmp c.args.text.now other) ∙ is_added (bytes_eq c.args.text.now other) had
