-- A refusal that blames the first fault of a file's bytes.
use Rattle.std.proofs.Common.{◌≡◌, ℕ, List}
use Rattle.bdl_load.specs.declared.faults.DefFault.{DefFault}
use Rattle.bdl_load.specs.declared.faults.Finding.{Finding}
use Rattle.bdl_load.specs.Faults.{Blames, fault_in}
use Rattle.bdl_load.specs.Source.{IsSourceFault, IsFaultOfSource}
use Rattle.bdl_load.proofs.Taking.{blames_so}

pub blames_source : (name source : List ℕ) (finding : Finding) (refusal : DefFault) → IsSourceFault source finding
    → Blames (λ fault. fault ≡ fault_in name finding) refusal → Blames (IsFaultOfSource name source) refusal
blames_source name source finding refusal first says =
    blames_so (λ fault. fault ≡ fault_in name finding) (IsFaultOfSource name source) refusal
    (λ fault is. record { finding = finding; first = first; is = is }) says
