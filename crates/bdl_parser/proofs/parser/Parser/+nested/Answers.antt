use Rattle.std.proofs.Common.{sym, ap, ◌∙◌, subst, subst₂, arith}
use Rattle.std.proofs.lemmas.Result.{IfOk-weaker, MatchResult-weaker}
use Rattle.bdl_parser.specs.Grammar.{held_of, map_of, a_type}
use Rattle.bdl_parser.specs.Trees.{TypeTree, held, map}
use Rattle.bdl_parser.specs.Views.{tree_of}
use Rattle.grammar_model.specs.Stops.{Taken}
use Rattle.bdl_parser.specs.declared.trees.TypeNode.{TypeNode}
use Rattle.outside.specs.declared.answers.OrMemory.{OrMemory}
use Rattle.bdl_parser.specs.declared.ParseCode.{ParseCode}
use Rattle.bdl_parser.proofs.Chains.{after_token, after_type, at_last, at_token, at_type, last_token, refused_by, taken_by, token_then, type_then}
use Rattle.bdl_parser.proofs.Exits.{exit_err}
use Rattle.bdl_parser.proofs.TypeLaws.{leaf_taken, held_taken_type, map_taken_type, leaf_refused, held_refused_type, map_refused_type}
use Rattle.bdl_parser.proofs.parser.Parser.+nested.Goals as goal

pub held_type-returns-in_err-sign-clause-err : goal.held_type-returns-in_err-sign-clause-err
held_type-returns-in_err-sign-clause-err t c =
    exit_err {E = OrMemory ParseCode} _ _ c.in_err-sign.field-0.0 c.from_residual-in_err-sign.ensures.1
    (refused_by _ _ c.args.room c.in_err-sign.field-0.0 c.args.self.now c.sign.new.self
    (after_token c.in_ok-holding.ensures.ok (at_token _ _ c.in_err-sign.ensures.err)))

pub held_type-returns-in_err-element-clause-err : goal.held_type-returns-in_err-element-clause-err
held_type-returns-in_err-element-clause-err t c =
    exit_err {E = OrMemory ParseCode} _ _ c.in_err-element.field-0.0 c.from_residual-in_err-element.ensures.1
    (refused_by _ _ c.args.room c.in_err-element.field-0.0 c.args.self.now c.type_node.new.self
    (after_token c.in_ok-holding.ensures.ok (after_token c.in_ok-sign.ensures.ok (at_type _ c.in_err-element.ensures.err))))

pub held_type-returns-in_err-sign-2-clause-err : goal.held_type-returns-in_err-sign-2-clause-err
held_type-returns-in_err-sign-2-clause-err t c =
    exit_err {E = OrMemory ParseCode} _ _ c.in_err-sign-2.field-0.0 c.from_residual-in_err-sign-2.ensures.1
    (refused_by _ _ c.args.room c.in_err-sign-2.field-0.0 c.args.self.now c.sign-2.new.self
    (after_token c.in_ok-holding.ensures.ok (after_token c.in_ok-sign.ensures.ok (after_type _ c.in_ok-element.ensures.ok (at_last _ c.in_err-sign-2.ensures.err)))))

pub held_type-returns-clause-ok : goal.held_type-returns-clause-ok
held_type-returns-clause-ok t c =
    subst (λ (tree : TypeTree). Taken (λ n. held_of (a_type n)) c.args.room c.args.self.now tree c.sign-2.new.self)
    (sym (c.held_form-form.ensures c.in_ok-holding.at ∙ ap (λ node. held c.in_ok-holding.holding (tree_of node) c.in_ok-holding.at) c.in_ok-box_node.ensures))
    (taken_by _ _ c.args.room c.args.self.now _ c.sign-2.new.self
    (token_then c.in_ok-holding.ensures.ok (token_then c.in_ok-sign.ensures.ok (type_then c.in_ok-element.ensures.ok (last_token c.in_ok-sign-2.ensures.ok)))))

pub map_type-returns-in_err-sign-clause-err : goal.map_type-returns-in_err-sign-clause-err
map_type-returns-in_err-sign-clause-err t c =
    exit_err {E = OrMemory ParseCode} _ _ c.in_err-sign.field-0.0 c.from_residual-in_err-sign.ensures.1
    (refused_by _ _ c.args.room c.in_err-sign.field-0.0 c.args.self.now c.sign.new.self
    (after_token c.in_ok-at.ensures.ok (at_token _ _ c.in_err-sign.ensures.err)))

pub map_type-returns-in_err-key-clause-err : goal.map_type-returns-in_err-key-clause-err
map_type-returns-in_err-key-clause-err t c =
    exit_err {E = OrMemory ParseCode} _ _ c.in_err-key.field-0.0 c.from_residual-in_err-key.ensures.1
    (refused_by _ _ c.args.room c.in_err-key.field-0.0 c.args.self.now c.type_node.new.self
    (after_token c.in_ok-at.ensures.ok (after_token c.in_ok-sign.ensures.ok (at_type _ c.in_err-key.ensures.err))))

pub map_type-returns-in_err-sign-2-clause-err : goal.map_type-returns-in_err-sign-2-clause-err
map_type-returns-in_err-sign-2-clause-err t c =
    exit_err {E = OrMemory ParseCode} _ _ c.in_err-sign-2.field-0.0 c.from_residual-in_err-sign-2.ensures.1
    (refused_by _ _ c.args.room c.in_err-sign-2.field-0.0 c.args.self.now c.sign-2.new.self
    (after_token c.in_ok-at.ensures.ok (after_token c.in_ok-sign.ensures.ok (after_type _ c.in_ok-key.ensures.ok (at_token _ _ c.in_err-sign-2.ensures.err)))))

pub map_type-returns-in_err-value-clause-err : goal.map_type-returns-in_err-value-clause-err
map_type-returns-in_err-value-clause-err t c =
    exit_err {E = OrMemory ParseCode} _ _ c.in_err-value.field-0.0 c.from_residual-in_err-value.ensures.1
    (refused_by _ _ c.args.room c.in_err-value.field-0.0 c.args.self.now c.type_node-2.new.self
    (after_token c.in_ok-at.ensures.ok (after_token c.in_ok-sign.ensures.ok (after_type _ c.in_ok-key.ensures.ok (after_token c.in_ok-sign-2.ensures.ok (at_type _ c.in_err-value.ensures.err))))))

pub map_type-returns-in_err-sign-3-clause-err : goal.map_type-returns-in_err-sign-3-clause-err
map_type-returns-in_err-sign-3-clause-err t c =
    exit_err {E = OrMemory ParseCode} _ _ c.in_err-sign-3.field-0.0 c.from_residual-in_err-sign-3.ensures.1
    (refused_by _ _ c.args.room c.in_err-sign-3.field-0.0 c.args.self.now c.sign-3.new.self
    (after_token c.in_ok-at.ensures.ok (after_token c.in_ok-sign.ensures.ok (after_type _ c.in_ok-key.ensures.ok (after_token c.in_ok-sign-2.ensures.ok (after_type _ c.in_ok-value.ensures.ok (at_last _ c.in_err-sign-3.ensures.err)))))))

pub map_type-returns-clause-ok : goal.map_type-returns-clause-ok
map_type-returns-clause-ok t c =
    subst₂
    (λ (key value : TypeNode).
    Taken (λ n. map_of (a_type n)) c.args.room c.args.self.now (map (tree_of key) (tree_of value) c.in_ok-at.at) c.sign-3.new.self)
    (sym c.in_ok-box_node.ensures) (sym c.in_ok-box_node-2.ensures)
    (taken_by _ _ c.args.room c.args.self.now _ c.sign-3.new.self
    (token_then c.in_ok-at.ensures.ok (token_then c.in_ok-sign.ensures.ok (type_then c.in_ok-key.ensures.ok (token_then c.in_ok-sign-2.ensures.ok (type_then c.in_ok-value.ensures.ok (last_token c.in_ok-sign-3.ensures.ok)))))))

pub type_node-returns-then-is_at_holding-clause-ok : goal.type_node-returns-then-is_at_holding-clause-ok
type_node-returns-then-is_at_holding-clause-ok t c =
    IfOk-weaker c.held_type.result _ _ (λ node taken. held_taken_type c.args.room c.in-Some.inner c.args.self.now (tree_of node) c.held_type.new.self (omega (arith, c.in-Some.ensures)) taken) c.held_type.ensures.ok

pub type_node-returns-then-is_at_holding-clause-err : goal.type_node-returns-then-is_at_holding-clause-err
type_node-returns-then-is_at_holding-clause-err t c =
    MatchResult-weaker c.held_type.result c.held_type.ensures.err (λ node taken. tt) (λ e refused. held_refused_type c.args.room c.in-Some.inner e c.args.self.now c.held_type.new.self (omega (arith, c.in-Some.ensures)) (sym c.if-is_at_holding.ensures) refused)

pub type_node-returns-then-is_at_key-clause-ok : goal.type_node-returns-then-is_at_key-clause-ok
type_node-returns-then-is_at_key-clause-ok t c =
    IfOk-weaker c.map_type.result _ _ (λ node taken. map_taken_type c.args.room c.in-Some.inner c.args.self.now (tree_of node) c.map_type.new.self (omega (arith, c.in-Some.ensures)) taken) c.map_type.ensures.ok

pub type_node-returns-then-is_at_key-clause-err : goal.type_node-returns-then-is_at_key-clause-err
type_node-returns-then-is_at_key-clause-err t c =
    MatchResult-weaker c.map_type.result c.map_type.ensures.err (λ node taken. tt) (λ e refused. map_refused_type c.args.room c.in-Some.inner e c.args.self.now c.map_type.new.self (omega (arith, c.in-Some.ensures)) (sym c.if-is_at_key.ensures) refused)

pub type_node-returns-clause-ok : goal.type_node-returns-clause-ok
type_node-returns-clause-ok t c =
    IfOk-weaker c.leaf.result _ _ (λ node taken. leaf_taken c.args.room c.in-Some.inner c.args.self.now (tree_of node) c.leaf.new.self (omega (arith, c.in-Some.ensures)) taken) c.leaf.ensures.ok

pub type_node-returns-clause-err : goal.type_node-returns-clause-err
type_node-returns-clause-err t c =
    MatchResult-weaker c.leaf.result c.leaf.ensures.err (λ node taken. tt) (λ e refused. leaf_refused c.args.room e c.args.self.now c.leaf.new.self (sym c.if-is_at_holding.ensures) (sym c.if-is_at_key.ensures) refused)
