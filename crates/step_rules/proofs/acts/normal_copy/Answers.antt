use Rattle.std.proofs.Common.{List, ℕ, IfOk, subst}
use Rattle.bag_model.specs.NormalForm.{IsNormalOf}
use Rattle.field_table.specs.Views.{plain_view_of}
use Rattle.step_rules.proofs.acts.normal_copy.Goals as goal

pub returns : goal.returns
returns c =
    subst (λ (list : List (List ℕ)). IfOk c.normal.result (IsNormalOf c.args.table.now (plain_view_of c.args.view.now) list)) c.in_ok-copied.ensures c.normal.ensures
