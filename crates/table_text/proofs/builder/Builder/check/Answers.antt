use Rattle.std.proofs.Common.{reverse, sym, subst, ◌∙◌, arith}
use Rattle.bag_model.specs.Shapes.{fields}
use Rattle.field_table.specs.Plain.{nodes_of}
use Rattle.table_text.specs.Builder.{rows_so_far}
use Rattle.table_text.specs.Views.{plain_row_of}
use Rattle.table_text.proofs.BagRules.{IsHere, here, order_first, name_first, levels_first, count_first, none_broken}
use Rattle.table_text.proofs.builder.Builder.check.Goals as goal

pub returns-then-from-self-clause-err : goal.returns-then-from-self-clause-err
returns-then-from-self-clause-err c =
    let builder = c.args.self.now in
    let before = reverse (rows_so_far builder) in
    let row = plain_row_of c.args.row.now in
    let fs = fields (nodes_of builder.bag.fields) in
    let is : IsHere before row.depth builder.bag.level fs builder.rows = subst (λ d. IsHere before d builder.bag.level fs builder.rows) (sym c.requires.depth) (here builder c.requires.sound) in
    order_first before builder.bag.level fs builder.rows row is (omega (arith, c.if-from-self.true, c.from.ensures, c.requires.sound.bag.least))

pub returns-then-contains-clause-err : goal.returns-then-contains-clause-err
returns-then-contains-clause-err c =
    let builder = c.args.self.now in
    let before = reverse (rows_so_far builder) in
    let row = plain_row_of c.args.row.now in
    let fs = fields (nodes_of builder.bag.fields) in
    let is : IsHere before row.depth builder.bag.level fs builder.rows = subst (λ d. IsHere before d builder.bag.level fs builder.rows) (sym c.requires.depth) (here builder c.requires.sound) in
    name_first before builder.bag.level fs builder.rows row is (omega (arith, c.if-from-self.false, c.from.ensures, c.requires.sound.bag.least))
    (sym (c.requires.sound.bag.names row.name) ∙ sym c.contains.ensures ∙ c.if-contains.true)

pub returns-then-self-levels_under-ge-LEVELS_MAX-clause-err : goal.returns-then-self-levels_under-ge-LEVELS_MAX-clause-err
returns-then-self-levels_under-ge-LEVELS_MAX-clause-err c =
    let builder = c.args.self.now in
    let before = reverse (rows_so_far builder) in
    let row = plain_row_of c.args.row.now in
    let fs = fields (nodes_of builder.bag.fields) in
    let is : IsHere before row.depth builder.bag.level fs builder.rows = subst (λ d. IsHere before d builder.bag.level fs builder.rows) (sym c.requires.depth) (here builder c.requires.sound) in
    levels_first before builder.bag.level fs builder.rows row is (omega (arith, c.if-from-self.false, c.from.ensures, c.requires.sound.bag.least))
    (sym (c.requires.sound.bag.names row.name) ∙ sym c.contains.ensures ∙ c.if-contains.false)
    (omega (arith, c.if-self-levels_under-ge-LEVELS_MAX.true, c.levels_under.ensures.levels))

pub returns-then-self-ge-FIELDS_MAX-clause-err : goal.returns-then-self-ge-FIELDS_MAX-clause-err
returns-then-self-ge-FIELDS_MAX-clause-err c =
    let builder = c.args.self.now in
    let before = reverse (rows_so_far builder) in
    let row = plain_row_of c.args.row.now in
    let fs = fields (nodes_of builder.bag.fields) in
    let is : IsHere before row.depth builder.bag.level fs builder.rows = subst (λ d. IsHere before d builder.bag.level fs builder.rows) (sym c.requires.depth) (here builder c.requires.sound) in
    count_first before builder.bag.level fs builder.rows row is (omega (arith, c.if-from-self.false, c.from.ensures, c.requires.sound.bag.least))
    (sym (c.requires.sound.bag.names row.name) ∙ sym c.contains.ensures ∙ c.if-contains.false)
    (omega (arith, c.if-self-levels_under-ge-LEVELS_MAX.false, c.levels_under.ensures.levels)) c.if-self-ge-FIELDS_MAX.true

pub returns-clause-ok : goal.returns-clause-ok
returns-clause-ok c =
    let builder = c.args.self.now in
    let before = reverse (rows_so_far builder) in
    let row = plain_row_of c.args.row.now in
    let fs = fields (nodes_of builder.bag.fields) in
    let is : IsHere before row.depth builder.bag.level fs builder.rows = subst (λ d. IsHere before d builder.bag.level fs builder.rows) (sym c.requires.depth) (here builder c.requires.sound) in
    none_broken before builder.bag.level fs builder.rows row is (omega (arith, c.if-from-self.false, c.from.ensures, c.requires.sound.bag.least))
    (sym (c.requires.sound.bag.names row.name) ∙ sym c.contains.ensures ∙ c.if-contains.false)
    (omega (arith, c.if-self-levels_under-ge-LEVELS_MAX.false, c.levels_under.ensures.levels)) c.if-self-ge-FIELDS_MAX.false
