use Rattle.std.proofs.Common.{◌≡◌, true, false, not, List, ap, map, sym, subst, ◌∙◌}
use Rattle.std.proofs.lemmas.List.{length-map, map-append}
use Rattle.std.proofs.lemmas.Map.Text.{btree_map_updates_str}
use Rattle.std.specs.Option.{is_some}
use Rattle.bdl_check.specs.Declarations.{Placed, number_named}
use Rattle.bdl_check.specs.DeclarationViews.{placed_of, NumbersDeclarations}
use Rattle.bdl_check.proofs.Numbers.{done, none_numbered, is_taken, numbers_more}
use Rattle.bdl_check.proofs.declarations.Declarations.declare.Goals as goal

pub returns-then-is_some-clause-new : goal.returns-then-is_some-clause-new
returns-then-is_some-clause-new c =
    let some : is_some c.number.result ≡ true = (cc (c.is_some.ensures, c.if-is_some.true)) in
    sym (ap not (is_taken c.args.self.now c.decl_name-name.result.now _ c.number.result c.decl_name-name.ensures c.number.ensures ∙ some))

pub returns-clause-new : goal.returns-clause-new
returns-clause-new c =
    let none : is_some c.number.result ≡ false = (cc (c.is_some.ensures, c.if-is_some.false)) in
    sym (ap not (is_taken c.args.self.now c.decl_name-name.result.now _ c.number.result c.decl_name-name.ensures c.number.ensures ∙ none))

pub invariant_of-self-else-is_err : goal.invariant_of-self-else-is_err
invariant_of-self-else-is_err c =
    let ds = map placed_of c.self.inside.all.items in
    let name = c.decl_name-name.result.now in
    let none = none_numbered c.number.result (cc (c.is_some.ensures, c.if-is_some.false)) in
    let new = ap (λ (all : List Placed). number_named all name) c.self.view_is ∙ sym c.number.ensures ∙ none in
    let count = c.len-number.ensures ∙ c.self.inside.all.ok.0 ∙ sym (length-map c.self.inside.all.items placed_of) in
    let updates = done c.insert.result (cc (c.is_err.ensures.value, c.if-is_err.false)) c.insert.ensures.updates in
    let grown = numbers_more ds _ name c.len-number.result c.self.inside.numbers c.insert.new.self c.self.invariant c.decl_name-name.ensures count new
    (btree_map_updates_str name c.self.inside.numbers c.insert.new.self _ updates) in
    subst (λ (all : List Placed). NumbersDeclarations all c.insert.new.self)
    (sym (ap (map placed_of) c.in_ok-push.ensures.items ∙ map-append placed_of c.self.inside.all.items _)) grown
