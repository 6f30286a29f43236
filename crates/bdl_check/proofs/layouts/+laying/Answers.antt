use Rattle.std.proofs.Common.{List, [], ◌∷◌, ◌++◌, ◌+◌, map, take, sym, subst, ap, ◌∙◌, arith, Bor}
use Rattle.std.proofs.lemmas.List.{take_all}
use Rattle.bag_model.specs.Shapes.{Field, fields}
use Rattle.bdl_parser.specs.declared.trees.BagField.{BagField}
use Rattle.bdl_parser.specs.Trees.{BagFieldTree}
use Rattle.bdl_parser.specs.Views.{bag_field_of}
use Rattle.bdl_check.specs.Layouts.{AreFieldsOf, IsLaidOut}
use Rattle.bdl_check.proofs.BagSizes.{up_to}
use Rattle.bdl_check.proofs.LayoutLaws.{item_level, fields_push, items_rise, sorted_layout}
use Rattle.field_table.specs.Plain.{nodes_of, field_of}
use Rattle.bdl_check.proofs.layouts.+laying.Goals as goal

pub lay_out-overflow_sub-room : goal.lay_out-overflow_sub-room
lay_out-overflow_sub-room t c =
    let field = λ (field : Bor BagField). bag_field_of field.now in
    (item_level field c.args.declarations.now c.args.fields.now c.in_ok-sorted.sorted.items c.deref-field-items.result.now c.requires.shallow.0
    c.args.room c.loop-field.field-index c.field-item.result
    c.requires.shallow.1 c.requires.shallow.2 c.in_ok-sorted.ensures.same c.deref-field-items.ensures.value c.loop-field-test.true c.field-item.is).0

pub lay_out-slot-requires : goal.lay_out-slot-requires
lay_out-slot-requires t c =
    let field = λ (field : Bor BagField). bag_field_of field.now in
    let here = item_level field c.args.declarations.now c.args.fields.now c.in_ok-sorted.sorted.items c.deref-field-items.result.now
    c.requires.shallow.0 c.args.room c.loop-field.field-index c.field-item.result
    c.requires.shallow.1 c.requires.shallow.2 c.in_ok-sorted.ensures.same c.deref-field-items.ensures.value c.loop-field-test.true c.field-item.is in
    let some = here.0 in
    (omega (arith, c.decreases, some), here.1)

pub lay_out-loop-field-preserved : goal.lay_out-loop-field-preserved
lay_out-loop-field-preserved t c =
    let ds = c.args.declarations.now in
    let items = c.deref-field-items.result.now in
    let i = c.loop-field.field-index in
    let field = λ (field : Bor BagField). bag_field_of field.now in
    let front = map field (take i items) in
    let one = field_of c.in_ok-slot.field-0 in
    let more = fields_push ds (IsLaidOut ds) front (fields (nodes_of c.loop-field.slots)) (field c.field-item.result) one c.loop-field.invariant.each
    c.in_ok-slot.ensures.field in
    let trees = up_to field items i c.field-item.result c.loop-field-test.true c.field-item.is in
    record {
      each = subst (λ (fs : List Field). AreFieldsOf ds (IsLaidOut ds) (map field (take (i + 1) items)) fs) (sym c.in_ok-push.ensures.ok)
          (subst (λ (ts : List BagFieldTree). AreFieldsOf ds (IsLaidOut ds) ts (fields (nodes_of c.loop-field.slots) ++ one ∷ [])) (sym trees) more);
      indexed = c.in_ok-push.ensures.indexed c.loop-field.invariant.indexed c.in_ok-slot.ensures.indexed;
    }

pub lay_out-returns-clause-laid_out : goal.lay_out-returns-clause-laid_out
lay_out-returns-clause-laid_out t c =
    let ds = c.args.declarations.now in
    let items = c.deref-field-items.result.now in
    let field = λ (field : Bor BagField). bag_field_of field.now in
    let all = ap (map field) (take_all c.loop-field.field-index items c.loop-field-test.false ∙ c.deref-field-items.ensures.value) in
    let sorted = map field c.in_ok-sorted.sorted.items in
    sorted_layout ds c.args.fields.now sorted c.requires.shallow.0 (nodes_of c.loop-field.slots) c.requires.shallow.1 c.in_ok-sorted.ensures.same
    (items_rise field c.in_ok-sorted.sorted.items c.in_ok-sorted.ensures.rising)
    (subst (λ (ts : List BagFieldTree). AreFieldsOf ds (IsLaidOut ds) ts (fields (nodes_of c.loop-field.slots))) all c.loop-field.invariant.each)
