use Rattle.std.proofs.Common.{List, sym, ap, ◌∙◌, subst}
use Rattle.context_model.specs.Atoms.{Atom}
use Rattle.bag_model.specs.NormalForm.{IsNormalOf}
use Rattle.bag_value.specs.Vals.{plain, val_of}
use Rattle.bag_value.specs.ValLaws.{val_back}
use Rattle.field_table.specs.Views.{plain_view_of}
use Rattle.bag_codec.proofs.Said.{Says, normal_says, says_one}
use Rattle.bag_codec.proofs.normal_readings.normal_and_read.Goals as goal

pub decode-requires : goal.decode-requires
decode-requires c =
    let nodes = c.args.table.now in
    let view = plain_view_of c.args.view.now in
    let list = c.args.context.now in
    let is = subst (λ (l : List Atom). IsNormalOf nodes view l c.in_ok-fewer.fewer) c.in_ok-copy.ensures c.in_ok-fewer.ensures in
    (c.normal_form_keeps.ensures.values nodes view list c.in_ok-fewer.fewer c.nodes.ensures.table c.list.ensures.well_formed c.requires is).typed

pub returns-clause-one : goal.returns-clause-one
returns-clause-one c =
    let nodes = c.args.table.now in
    let view = plain_view_of c.args.view.now in
    let list = c.args.context.now in
    let is = subst (λ (l : List Atom). IsNormalOf nodes view l c.in_ok-fewer.fewer) c.in_ok-copy.ensures c.in_ok-fewer.ensures in
    let keeps = c.normal_form_keeps.ensures.values nodes view list c.in_ok-fewer.fewer c.nodes.ensures.table c.list.ensures.well_formed c.requires is in
    let says = normal_says nodes list c.in_ok-fewer.fewer keeps (plain c.in_ok-kept.kept) c.in_ok-kept.ensures in
    let same = says_one c.merges_read_as_joins.ensures nodes list (plain c.in_ok-kept.kept) (plain c.in_ok-read.read) says c.in_ok-read.ensures in
    sym (val_back c.in_ok-kept.kept) ∙ ap val_of same ∙ val_back c.in_ok-read.read

pub returns-clause-kept : goal.returns-clause-kept
returns-clause-kept c =
    let nodes = c.args.table.now in
    let view = plain_view_of c.args.view.now in
    let list = c.args.context.now in
    let is = subst (λ (l : List Atom). IsNormalOf nodes view l c.in_ok-fewer.fewer) c.in_ok-copy.ensures c.in_ok-fewer.ensures in
    let keeps = c.normal_form_keeps.ensures.lists nodes view list c.in_ok-fewer.fewer c.nodes.ensures.table c.list.ensures.well_formed is in
    λ normal m. subst (λ list. Says nodes list (plain c.in_ok-kept.kept)) (sym (keeps.one normal m)) c.in_ok-kept.ensures
