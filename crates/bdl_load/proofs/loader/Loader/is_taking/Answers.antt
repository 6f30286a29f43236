use Rattle.std.proofs.Common.{◌<◌, ℕ, List, length, sym, ◌∙◌, ap, subst}
use Rattle.std.specs.Str.{bytes_eq}
use Rattle.bdl_load.proofs.FilesSoFar.{among_taking}
use Rattle.bdl_load.proofs.loader.Loader.is_taking.Goals as goal

pub returns-then-eq : goal.returns-then-eq
returns-then-eq c =
    let numbers : List ℕ = c.args.self.now.taking.items in
    let same = c.deref-number-items.ensures.value in
    let within : c.loop-number.number-index < length numbers = subst (λ (numbers : List ℕ). c.loop-number.number-index < length numbers) same c.loop-number-test.true in
    let inside = c.requires c.loop-number.number-index 0 within in
    let at = rw same at c.index.ensures in
    let named = ap (bytes_eq c.args.name.now) (sym c.as_str.ensures.value) ∙ sym c.if-eq.ensures in
    sym (among_taking c.args.name.now c.args.self.now.files.items numbers c.loop-number.number-index c.index.result.now within inside at named)
