use Rattle.std.proofs.Common.{◌≡◌, ℕ, List, ◌∷◌, ◌++◌, All, length, sym, ◌∙◌, arith, rules}
use Rattle.scalar_types.specs.Escapes.{IsNonzero}
use Rattle.scalar_types.proofs.EscapeLaws.{no_zero, neither_byte, no_cons, heads}
use Rattle.scalar_types.proofs.escapes.first_piece.Goals as goal

pub returns-in_err-run-clause-none : goal.returns-in_err-run-clause-none
returns-in_err-run-clause-none c = λ _. no_zero c.args.bytes.now (search rules)

pub returns-in_err-second-clause-none : goal.returns-in_err-second-clause-none
returns-in_err-second-clause-none c =
    let run : List ℕ = c.in_ok-run.run'.now in
    let tail : List ℕ = c.in_ok-run.tail.now in
    let nonzero : All IsNonzero run = search rules in
    let same : c.args.bytes.now ≡ run ++ 0 ∷ tail = search rules in
    let empty : length tail ≡ 0 = search rules in
    λ _. neither_byte c.args.bytes.now run tail nonzero same (λ t e. no_cons tail 1 t empty e) (λ t e. no_cons tail 255 t empty e)

pub returns-in_default-clause-none : goal.returns-in_default-clause-none
returns-in_default-clause-none c =
    let run : List ℕ = c.in_ok-run.run'.now in
    let tail : List ℕ = c.in_ok-run.tail.now in
    let second : ℕ = c.in_ok-second.second.now in
    let rest : List ℕ = c.in_ok-second.rest.now in
    let nonzero : All IsNonzero run = search rules in
    let same : c.args.bytes.now ≡ run ++ 0 ∷ tail = search rules in
    let parts : tail ≡ second ∷ rest = search rules in
    λ _. neither_byte c.args.bytes.now run tail nonzero same
    (λ t e. let first : second ≡ 1 = heads second 1 rest t (sym parts ∙ e) in omega arith)
    (λ t e. let first : second ≡ 255 = heads second 255 rest t (sym parts ∙ e) in omega arith)
