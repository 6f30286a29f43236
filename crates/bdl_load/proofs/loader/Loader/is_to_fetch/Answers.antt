use Rattle.std.proofs.Common.{◌≡◌, ◌≤◌, true, false, ℕ, List, ◌∷◌, length, sym, ◌∙◌, ap, arith}
use Rattle.bdl_load.specs.declared.loader.TheConstants.{FILES_MAX}
use Rattle.bdl_parser.specs.declared.trees.Import.{Import}
use Rattle.bdl_load.specs.declared.faults.DefCode.TheVariants.{ImportCycle, TooManyFiles}
use Rattle.bdl_load.specs.declared.faults.Fault.{Fault}
use Rattle.bdl_load.specs.Loader.{names_at}
use Rattle.bdl_load.specs.Faults.{found, fault_in}
use Rattle.bdl_load.specs.Loading.{Holding, Takes, stopped, is_among, file_names}
use Rattle.bdl_load.proofs.Taking.{halts_of}
use Rattle.bdl_load.proofs.loader.Loader.is_to_fetch.Goals as goal

pub returns-then-is_taking-clause-fault : goal.returns-then-is_taking-clause-fault
returns-then-is_taking-clause-fault c =
    let loaded = c.args.self.now.files.items in
    let taking = names_at loaded c.args.self.now.taking.items in
    let from = c.args.from.now in
    let import = c.args.import.now in
    let among : is_among import.file taking ≡ true = ap (λ (name : List ℕ). is_among name taking) (sym c.as_str-name.ensures.value) ∙ sym c.is_taking.ensures ∙ c.if-is_taking.true in
    halts_of (λ (fault : Fault). (held : Holding) → (rest : List Import) → Takes held taking loaded from (import ∷ rest) (stopped (file_names loaded) fault))
    (fault_in from (found import.at ImportCycle)) (λ held rest. Takes.cycle taking loaded from import rest among)
    c.blame.result c.blame.ensures.says c.blame.ensures.inside

pub returns-then-len-ge-FILES_MAX-clause-fault : goal.returns-then-len-ge-FILES_MAX-clause-fault
returns-then-len-ge-FILES_MAX-clause-fault c =
    let loaded = c.args.self.now.files.items in
    let taking = names_at loaded c.args.self.now.taking.items in
    let from = c.args.from.now in
    let import = c.args.import.now in
    let closed : is_among import.file taking ≡ false = ap (λ (name : List ℕ). is_among name taking) (sym c.as_str-name.ensures.value) ∙ sym c.is_taking.ensures ∙ c.if-is_taking.false in
    let fresh : is_among import.file (file_names loaded) ≡ false = ap (λ (name : List ℕ). is_among name (file_names loaded)) (sym c.as_str-name.ensures.value) ∙ sym c.is_loaded.ensures ∙ c.if-is_loaded.false in
    let many : FILES_MAX ≤ length loaded = omega arith in
    halts_of (λ (fault : Fault). (held : Holding) → (rest : List Import) → Takes held taking loaded from (import ∷ rest) (stopped (file_names loaded) fault))
    (fault_in from (found import.at TooManyFiles)) (λ held rest. Takes.too_many taking loaded from import rest closed fresh many)
    c.blame-then-len-ge-FILES_MAX.result c.blame-then-len-ge-FILES_MAX.ensures.says c.blame-then-len-ge-FILES_MAX.ensures.inside
