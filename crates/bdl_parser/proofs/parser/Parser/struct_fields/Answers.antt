use Rattle.std.proofs.Common.{List, sym, subst, arith}
use Rattle.bdl_parser.specs.declared.TheConstants.{NESTING_MAX}
use Rattle.outside.specs.declared.answers.OrMemory.{OrMemory}
use Rattle.bdl_parser.specs.declared.ParseCode.{ParseCode}
use Rattle.bdl_parser.specs.Grammar.{a_struct_field}
use Rattle.bdl_parser.specs.Refusals.{is_type_first}
use Rattle.bdl_parser.specs.Trees.{StructFieldTree}
use Rattle.bdl_parser.specs.Views.{struct_field_of}
use Rattle.bdl_parser.proofs.DeclLaws.{read_shorter, fields_item, fields_taken}
use Rattle.bdl_parser.proofs.Exits.{exit_err}
use Rattle.bdl_parser.proofs.Families.{TakenItems, items_more}
use Rattle.bdl_parser.proofs.GrammarLaws.{lawful_struct_field, grows_struct_field}
use Rattle.bdl_parser.proofs.parser.Parser.struct_fields.Goals as goal

pub returns-in_err-field-clause-err : goal.returns-in_err-field-clause-err
returns-in_err-field-clause-err c =
    exit_err {E = OrMemory ParseCode} _ _ c.in_err-field.field-0.0 c.from_residual.ensures.1 (fields_item a_struct_field lawful_struct_field grows_struct_field NESTING_MAX c.fields.fields c.in_err-field.field-0.0 c.args.self.now c.fields.self c.struct_field.new.self c.fields.invariant (sym c.fields-test.ensures) c.in_err-field.ensures.err)

pub fields-smaller : goal.fields-smaller
fields-smaller c =
    read_shorter (a_struct_field NESTING_MAX) is_type_first (lawful_struct_field NESTING_MAX) c.fields.self (struct_field_of c.in_ok-field.field) c.struct_field.new.self (c.in_ok-field.ensures.ok NESTING_MAX (omega arith))

pub fields-preserved : goal.fields-preserved
fields-preserved c =
    subst (λ (items : List StructFieldTree). TakenItems a_struct_field NESTING_MAX c.args.self.now items c.struct_field.new.self) (sym c.in_ok-push.ensures.pushed)
    (items_more a_struct_field NESTING_MAX c.fields.fields c.args.self.now c.fields.self c.struct_field.new.self (struct_field_of c.in_ok-field.field) c.fields.invariant c.in_ok-field.ensures.ok)

pub returns-clause-ok : goal.returns-clause-ok
returns-clause-ok c =
    fields_taken a_struct_field lawful_struct_field grows_struct_field NESTING_MAX c.fields.fields c.args.self.now c.fields.self c.sign.new.self c.in_ok-sign.field-0 c.fields.invariant c.in_ok-sign.ensures.ok
