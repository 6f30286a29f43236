use Rattle.std.proofs.Common.{List, [], drop, map, ap, sym, ◌∙◌, Ok}
use Rattle.bdl_check.specs.Faults.{first}
use Rattle.bdl_check.specs.Fields.{struct_faults}
use Rattle.bdl_check.specs.Declarations.{kind_named}
use Rattle.bdl_check.proofs.DeclLaws.{next_left, none_left}
use Rattle.bdl_check.proofs.FieldLaws.{texts_none, struct_more, struct_found, struct_end}
use Rattle.bdl_parser.specs.Trees.{StructFieldTree}
use Rattle.bdl_parser.specs.Views.{struct_field_of}
use Rattle.bdl_check.proofs.fields.struct_fault.Goals as goal

pub loop-field-init : goal.loop-field-init
loop-field-init c = record {
  gone = [];
  texts_are = texts_none c.new-texts.result c.new-texts.ensures.empty;
  same = ap (λ (fields : List StructFieldTree). first (struct_faults (kind_named c.args.declarations.now) [] fields)) c.as_slice-field-items.ensures;
}

pub returns-in-Some : goal.returns-in-Some
returns-in-Some c =
    struct_found (kind_named c.args.declarations.now) c.loop-field.texts c.args.fields.now
    (map struct_field_of (drop c.loop-field.field-index c.as_slice-field-items.result.now)) _ (struct_field_of c.field-item.result)
    c.in-Some.fault
    (next_left struct_field_of c.as_slice-field-items.result.now c.loop-field.field-index c.field-item.result c.loop-field-test.true c.field-item.is)
    c.loop-field.invariant
    (λ earlier texts. sym c.in-Some.is ∙ c.in_ok-fault.ensures.found earlier texts)

pub loop-field-preserved : goal.loop-field-preserved
loop-field-preserved c =
    struct_more (kind_named c.args.declarations.now) c.loop-field.texts c.struct_field_fault.new.texts c.args.fields.now
    (map struct_field_of (drop c.loop-field.field-index c.as_slice-field-items.result.now)) _ (struct_field_of c.field-item.result)
    (next_left struct_field_of c.as_slice-field-items.result.now c.loop-field.field-index c.field-item.result c.loop-field-test.true c.field-item.is)
    c.loop-field.invariant
    (λ earlier texts. sym c.in_default.is ∙ c.in_ok-fault.ensures.found earlier texts)
    (λ earlier texts. c.in_ok-fault.ensures.texts earlier texts (ap Ok c.in_default.is))

pub returns : goal.returns
returns c =
    struct_end (kind_named c.args.declarations.now) c.loop-field.texts c.args.fields.now
    (map struct_field_of (drop c.loop-field.field-index c.as_slice-field-items.result.now))
    (none_left struct_field_of c.as_slice-field-items.result.now c.loop-field.field-index c.loop-field-test.false) c.loop-field.invariant
