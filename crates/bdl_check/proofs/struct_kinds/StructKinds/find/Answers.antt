use Rattle.std.proofs.Common.{Option, List, sym, ap, ◌∙◌}
use Rattle.std.specs.Option.{option_map}
use Rattle.bdl_check.specs.declared.struct_kinds.WithKinds.{WithKinds}
use Rattle.bdl_check.specs.Declarations.{Placed, decl_named}
use Rattle.bdl_check.specs.DeclarationViews.{placed_of}
use Rattle.bdl_check.proofs.LayoutKinds.{words_at}
use Rattle.bdl_check.proofs.PassedTypes.{named_at, not_named}
use Rattle.bdl_check.proofs.struct_kinds.StructKinds.find.Goals as goal

pub returns-in_err-number : goal.returns-in_err-number
returns-in_err-number c =
    let ds = c.self.inside.declarations.now in
    let nothing = ap (λ (found : Option WithKinds). option_map (λ (listed : WithKinds). placed_of listed.declaration) found)
    c.from_residual.ensures in
    nothing ∙ sym (not_named ds c.args.name.now (sym c.in_err-number.ensures)) ∙ ap (λ (all : List Placed). decl_named all c.args.name.now) c.self.view_is

pub returns-in_err-declaration : goal.returns-in_err-declaration
returns-in_err-declaration c =
    let ds = c.self.inside.declarations.now in
    let nothing = ap (λ (found : Option WithKinds). option_map (λ (listed : WithKinds). placed_of listed.declaration) found)
    c.from_residual-in_err-declaration.ensures in
    let there = named_at ds c.args.name.now c.in_ok-number.number (sym c.in_ok-number.ensures) in
    nothing ∙ c.in_err-declaration.ensures ∙ sym there ∙ ap (λ (all : List Placed). decl_named all c.args.name.now) c.self.view_is

pub invariant_of-result : goal.invariant_of-result
invariant_of-result c =
    let ds = c.self.inside.declarations.now in
    record {
      kinds_are = c.index.ensures ∙ words_at ds c.self.inside.kinds.items c.in_ok-number.number (placed_of c.in_ok-declaration.declaration) _
          c.self.invariant (sym c.in_ok-declaration.ensures);
    }

pub returns : goal.returns
returns c =
    let ds = c.self.inside.declarations.now in
    let there = named_at ds c.args.name.now c.in_ok-number.number (sym c.in_ok-number.ensures) in
    c.in_ok-declaration.ensures ∙ sym there ∙ ap (λ (all : List Placed). decl_named all c.args.name.now) c.self.view_is
