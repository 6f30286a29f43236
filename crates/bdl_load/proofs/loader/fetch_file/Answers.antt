use Rattle.std.proofs.Common.{ap}
use Rattle.std.specs.Prelude.{Err}
use Rattle.bdl_load.specs.declared.faults.DefFault.{DefFault}
use Rattle.bdl_load.specs.declared.faults.Fault.{Fault}
use Rattle.bdl_load.specs.Loader.{IsBroken}
use Rattle.bdl_load.specs.Loading.{loaded_as}
use Rattle.bdl_load.specs.Source.{IsFaultOfSource}
use Rattle.bdl_load.proofs.Exits.{exit_err}
use Rattle.bdl_load.proofs.Fetched.{says_held, breaks_held}
use Rattle.bdl_load.proofs.Taking.{blames_so}
use Rattle.bdl_load.proofs.Treated.{treated_ok, treated_refused, treated_unless, treated_after, treated_fetched, treated_unfetched}
use Rattle.bdl_load.proofs.loader.fetch_file.Goals as goal

pub returns-clause-found : goal.returns-clause-found
returns-clause-found g c =
    let held = rw c.in-Some.is at c.in_ok-source.ensures.held in
    let bound = rw c.in-Some.is at c.in_ok-source.ensures.bound in
    let read = rw c.deref.ensures.value at c.in_ok-module.ensures.read in
    let module_ = c.in_ok-module.module in
    let says = says_held (g.L.Library.files c.args.library.now) c.args.name.now c.in-Some.source.items module_ bound held read in
    record {
      source = says.source;
      module_ = module_;
      told = says.told;
      says = says.says;
      is = ap (λ name. loaded_as name module_) c.in_ok-name.ensures.made;
      spelled = c.in_ok-module.ensures.spelled;
    }

pub returns-in_err-module-clause-fault : goal.returns-in_err-module-clause-fault
returns-in_err-module-clause-fault g c =
    let files = g.L.Library.files c.args.library.now in
    let name = c.args.name.now in
    let source = c.in-Some.source.items in
    let held = rw c.in-Some.is at c.in_ok-source.ensures.held in
    let bound = rw c.in-Some.is at c.in_ok-source.ensures.bound in
    let refusal = c.in_err-module.field-0.0 in
    let first = rw c.deref.ensures.value at c.in_err-module.ensures.fault in
    exit_err {E = DefFault} _ _ refusal c.from_residual-in_err-module.ensures.1
    (blames_so (IsFaultOfSource name source) (IsBroken files name) refusal
    (λ (fault : Fault) (f : IsFaultOfSource name source fault).
    let breaks = breaks_held files name source f.finding bound held f.first in
    record { source = breaks.source; finding = f.finding; told = breaks.told; first = breaks.first; is = f.is })
    first)

pub returns-in_err-source-clause-library : goal.returns-in_err-source-clause-library
returns-in_err-source-clause-library g c =
    treated_unfetched g.L.Library.files g.L.Library.faults c.args.library.now c.fetch.new.self c.in_err-source.field-0.0
    c.from_residual.result c.from_residual.ensures.1 c.in_err-source.ensures.cause c.in_err-source.ensures.same

pub returns-in_default-clause-library : goal.returns-in_default-clause-library
returns-in_default-clause-library g c =
    treated_after g.L.Library.files g.L.Library.faults c.args.library.now c.fetch.new.self c.fetch.new.self _ _
    (treated_fetched g.L.Library.files g.L.Library.faults c.args.library.now c.fetch.new.self _ c.in_ok-source.ensures.cause
    c.in_ok-source.ensures.same)
    (treated_ok g.L.Library.files g.L.Library.faults c.fetch.new.self _)

pub returns-in_err-module-clause-library : goal.returns-in_err-module-clause-library
returns-in_err-module-clause-library g c =
    let library = c.fetch.new.self in
    let result = c.from_residual-in_err-module.result in
    treated_after g.L.Library.files g.L.Library.faults c.args.library.now library library _ result
    (treated_fetched g.L.Library.files g.L.Library.faults c.args.library.now library _ c.in_ok-source.ensures.cause c.in_ok-source.ensures.same)
    (treated_refused g.L.Library.files g.L.Library.faults library c.in_err-module.field-0.0 result c.from_residual-in_err-module.ensures.1
    (λ failed. c.in_err-module.ensures.inside (ap Err failed)))

pub returns-in_err-name-clause-library : goal.returns-in_err-name-clause-library
returns-in_err-name-clause-library g c =
    let library = c.fetch.new.self in
    let result = c.from_residual-in_err-name.result in
    treated_after g.L.Library.files g.L.Library.faults c.args.library.now library library _ result
    (treated_fetched g.L.Library.files g.L.Library.faults c.args.library.now library _ c.in_ok-source.ensures.cause c.in_ok-source.ensures.same)
    (treated_unless g.L.Library.files g.L.Library.faults library result c.from_residual-in_err-name.ensures.1)

pub returns-clause-library : goal.returns-clause-library
returns-clause-library g c =
    treated_after g.L.Library.files g.L.Library.faults c.args.library.now c.fetch.new.self c.fetch.new.self _ _
    (treated_fetched g.L.Library.files g.L.Library.faults c.args.library.now c.fetch.new.self _ c.in_ok-source.ensures.cause
    c.in_ok-source.ensures.same)
    (treated_ok g.L.Library.files g.L.Library.faults c.fetch.new.self _)
