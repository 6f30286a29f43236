use Rattle.std.proofs.Common.{Option, sym, ap, ◌∙◌}
use Rattle.std.specs.Option.{option_map}
use Rattle.bdl_check.specs.declared.declarations.Declaration.{Declaration}
use Rattle.bdl_check.specs.DeclarationViews.{placed_of}
use Rattle.bdl_check.proofs.PassedTypes.{named_at, not_named}
use Rattle.bdl_check.proofs.declarations.Declarations.find.Goals as goal

pub returns-in_err-number : goal.returns-in_err-number
returns-in_err-number c =
    ap (λ (found : Option Declaration). option_map placed_of found) c.from_residual.ensures
    ∙ sym (not_named c.args.self.now c.args.name.now (sym c.in_err-number.ensures))

pub returns : goal.returns
returns c = c.get.ensures ∙ sym (named_at c.args.self.now c.args.name.now c.in_ok-number.number (sym c.in_ok-number.ensures))
