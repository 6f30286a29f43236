use Rattle.std.proofs.Common.{◌≡◌, [], ◌∷◌, sym, ap, ◌∙◌, subst}
use Rattle.bag_model.specs.Joins.{join}
use Rattle.bag_model.specs.Readings.{PathsOf}
use Rattle.bag_model.specs.Shapes as shapes
use Rattle.bag_model.proofs.OfShape.{Reads-shape}
use Rattle.bag_value.specs.Vals.{plain, val_of}
use Rattle.bag_value.specs.ValLaws.{val_back}
use Rattle.bag_codec.proofs.Said.{Says, says_join, says_one}
use Rattle.bag_codec.proofs.readings.merge_and_read.Goals as goal

pub decode-requires : goal.decode-requires
decode-requires c =
    c.merges_read_as_joins.ensures.typed c.args.table.now (c.args.a.now ∷ c.args.b.now ∷ []) c.in_ok-merged.merged c.in_ok-merged.ensures.merged (c.requires.a, (c.requires.b, tt))

pub join-requires : goal.join-requires
join-requires c =
    let bag = shapes.Shape.Bag c.args.table.now in
    let v = plain c.in_ok-joined.joined in
    let w = plain c.in_ok-decode.field-0 in
    c.values_of_one_shape_are_joined.ensures.alike bag v w
    (Reads-shape bag (PathsOf c.args.a.now) [] v c.in_ok-joined.ensures) (Reads-shape bag (PathsOf c.args.b.now) [] w c.in_ok-decode.ensures)

pub returns-clause-one : goal.returns-clause-one
returns-clause-one c =
    let nodes = c.args.table.now in
    let v = plain c.in_ok-joined.joined in
    let w = plain c.in_ok-decode.field-0 in
    let both = says_join c.merges_read_as_joins.ensures nodes c.args.a.now c.args.b.now c.in_ok-merged.merged v w c.in_ok-merged.ensures.merged c.in_ok-joined.ensures c.in_ok-decode.ensures in
    let same : plain c.in_ok-read.read ≡ join v w = says_one c.merges_read_as_joins.ensures nodes c.in_ok-merged.merged (plain c.in_ok-read.read) (join v w) c.in_ok-read.ensures both in
    sym (val_back c.in_ok-read.read) ∙ ap val_of same ∙ sym c.in_ok-join.ensures.ok

pub returns-clause-read : goal.returns-clause-read
returns-clause-read c = λ merged m.
    subst (λ list. Says c.args.table.now list (plain c.in_ok-read.read))
    (c.has_one_merge.ensures (c.args.a.now ∷ c.args.b.now ∷ []) c.in_ok-merged.merged merged c.in_ok-merged.ensures.merged m) c.in_ok-read.ensures

pub returns-clause-joined : goal.returns-clause-joined
returns-clause-joined c = λ v w a b.
    let nodes = c.args.table.now in
    let both = says_join c.merges_read_as_joins.ensures nodes c.args.a.now c.args.b.now c.in_ok-merged.merged v w c.in_ok-merged.ensures.merged a b in
    ap plain (sym (returns-clause-one c)) ∙ says_one c.merges_read_as_joins.ensures nodes c.in_ok-merged.merged (plain c.in_ok-read.read) (join v w) c.in_ok-read.ensures both
