use Rattle.std.proofs.Common.{sym, ◌∙◌, subst}
use Rattle.bag_model.specs.declared.words.ScalarWord.TheVariants.{Uint32, Fixed32}
use Rattle.bag_model.specs.Tables.{IsTable}
use Rattle.scalar_types.specs.declared.kinds.ScalarKind.TheVariants.{One}
use Rattle.field_table.proofs.Shown.{scalar_shown, set_shown, counter_shown}
use Rattle.load_maker.proofs.LoadTable.{load_is_table, three_added}
use Rattle.load_maker.proofs.loads.make_table.Goals as goal

pub of-requires-clause-table : goal.of-requires-clause-table
of-requires-clause-table c =
    subst IsTable
    (sym
    (three_added _ _ _ _ _ _ _ c.new-fields.ensures.empty c.in_ok-add.ensures.ok (scalar_shown (One Fixed32)).0
    c.in_ok-add-2.ensures.ok counter_shown.0 c.in_ok-add-3.ensures.ok (set_shown (One Uint32)).0))
    load_is_table

pub returns : goal.returns
returns c =
    c.of.ensures
    ∙ three_added _ _ _ _ _ _ _ c.new-fields.ensures.empty c.in_ok-add.ensures.ok (scalar_shown (One Fixed32)).0
    c.in_ok-add-2.ensures.ok counter_shown.0 c.in_ok-add-3.ensures.ok (set_shown (One Uint32)).0
