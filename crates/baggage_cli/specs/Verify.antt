-- What the verdict on a certificate comes to.
use Rattle.std.specs.Prelude.{◌≡◌, ℕ, List, [], ◌∷◌, ◌++◌, codes}
use Rattle.std.specs.Fmt.{decimal}
use Rattle.bag_model.specs.Shapes.{Nodes}
use Rattle.text_lines.specs.Lines.{Line}
use Rattle.trace_model.specs.Graphs.{Graph}
use Rattle.write_proof.specs.CodeNames.{verify_code_name}
use Rattle.write_proof.specs.Verdicts.{IsVerdictOf, TellsTruth}
use Rattle.write_proof.specs.declared.verdicts.Verified.{Verified}
use Rattle.write_proof.specs.declared.verdicts.Verified.TheVariants.{Yes, No}
use Rattle.baggage_cli.specs.Outcomes.{Outcome}
use Rattle.baggage_cli.specs.Run.{GraphGives}

-- The line of a verdict.
abbrev pub verified_line : Verified → List ℕ
verified_line Yes = codes "yes" ++ 10 ∷ []
verified_line (No line code) =
    codes "no " ++ (decimal line ++ (codes " " ++ (verify_code_name code ++ 10 ∷ [])))

-- The output is the line of the verdict on the certificate for this graph.
abbrev pub IsVerified : Nodes → List ℕ → Graph → List ℕ → Type 0
IsVerified table certificate graph output =
    (verdict : Verified) × IsVerdictOf table graph certificate verdict
    × (output ≡ verified_line verdict)

-- What lines come to, by which a certificate is verified: the verdict on it for the graph that they
-- say.
abbrev pub VerifiesLines : Nodes → List ℕ → List Line → Outcome → Type 0
VerifiesLines table certificate = GraphGives table (IsVerified table certificate)

-- A certificate that is accepted tells the truth.
abbrev pub TruthWhereYes : Nodes → Graph → List ℕ → Verified → Type 0
TruthWhereYes table graph certificate verdict = verdict ≡ Yes → TellsTruth table graph certificate
