-- The bytes of a file say one module, or they have one first fault.
use Rattle.std.proofs.Common.{◌≡◌, ℕ, List, sym, ◌∙◌, ap, subst, arith}
use Rattle.bdl_lexer.specs.declared.LexCode.{LexCode}
use Rattle.bdl_lexer.specs.declared.Token.{Token}
use Rattle.bdl_lexer.specs.Faults.{FirstLexicalFault}
use Rattle.bdl_lexer.specs.Tokens.{AreTokensOf}
use Rattle.bdl_parser.specs.declared.ParseCode.{ParseCode}
use Rattle.bdl_parser.specs.declared.trees.Module.{Module}
use Rattle.bdl_parser.specs.declared.trees.Spot.{Spot}
use Rattle.bdl_parser.specs.FirstFault.{IsModuleOf, FaultAt}
use Rattle.bdl_parser.specs.Lexemes.{Lexeme, lexemes_of}
use Rattle.bdl_load.specs.declared.faults.Finding.{Finding}
use Rattle.bdl_load.specs.Faults.{found}
use Rattle.bdl_load.specs.Source.{of_lexer, SaysModule, IsLexical, IsSyntactic, IsSourceFault}

-- ---- what the layers below promise

abbrev pub TokensOne : Type 0
TokensOne = (source : List ℕ) → (tokens others : List Token) → AreTokensOf source tokens → AreTokensOf source others → tokens ≡ others

abbrev pub NoTokens : Type 0
NoTokens = (source : List ℕ) → (tokens : List Token) → (line column : ℕ) → (code : LexCode) → AreTokensOf source tokens → FirstLexicalFault source line column code → ⊥

abbrev pub LexicalOne : Type 0
LexicalOne = (source : List ℕ) → (line column row place : ℕ) → (code other : LexCode) → FirstLexicalFault source line column code → FirstLexicalFault source row place other → (line ≡ row) × (column ≡ place) × (code ≡ other)

abbrev pub ModulesOne : Type 0
ModulesOne = (tokens : List Lexeme) → (module_ other : Module) → IsModuleOf tokens module_ → IsModuleOf tokens other → module_ ≡ other

abbrev pub NoModule : Type 0
NoModule = (tokens : List Lexeme) → (module_ : Module) → (token : ℕ) → (code : ParseCode) → IsModuleOf tokens module_ → FaultAt tokens token code → ⊥

abbrev pub SyntacticOne : Type 0
SyntacticOne = (tokens : List Lexeme) → (token place : ℕ) → (code other : ParseCode) → FaultAt tokens token code → FaultAt tokens place other → (token ≡ place) × (code ≡ other)

-- ---- modules

module_one : TokensOne → ModulesOne → (source : List ℕ) (m n : Module) → SaysModule source m → SaysModule source n → m ≡ n
module_one tokens_one modules_one source m n a b =
    let tokens = tokens_one source a.tokens b.tokens a.are b.are in
    modules_one (lexemes_of source b.tokens) m n (subst (λ ts. IsModuleOf (lexemes_of source ts) m) tokens a.says) b.says

-- a file that is read has no fault of its bytes
module_excludes : TokensOne → NoTokens → NoModule → (source : List ℕ) (m : Module) (f : Finding) → SaysModule source m → IsSourceFault source f → ⊥
module_excludes tokens_one no_tokens no_module source m f r (IsSourceFault.too_long long e) = let fits = r.fits in omega (arith, long)
module_excludes tokens_one no_tokens no_module source m f r (IsSourceFault.lexical x) = no_tokens source r.tokens f.at.line f.at.column x.code r.are x.first
module_excludes tokens_one no_tokens no_module source m f r (IsSourceFault.syntactic y) =
    let same = tokens_one source y.tokens r.tokens y.are r.are in
    no_module (lexemes_of source r.tokens) m y.number y.code r.says (subst (λ ts. FaultAt (lexemes_of source ts) y.number y.code) same y.first)

-- ---- the first fault

abbrev place : ℕ → ℕ → Spot
place line column = record { line = line; column = column }

lexical_same : LexicalOne → (source : List ℕ) (f g : Finding) → IsLexical source f → IsLexical source g → f ≡ g
lexical_same lexical_one source f g x y =
    let same = lexical_one source f.at.line f.at.column g.at.line g.at.column x.code y.code x.first y.first in
    let line = same.0 in let column = same.1 in
    let code = x.code_is ∙ ap of_lexer same.2 ∙ sym y.code_is in
    ap (λ l. found (place l f.at.column) f.code) line ∙ ap (λ c. found (place g.at.line c) f.code) column ∙ ap (found g.at) code

syntactic_same : TokensOne → SyntacticOne → (source : List ℕ) (f g : Finding) → IsSyntactic source f → IsSyntactic source g → f ≡ g
syntactic_same tokens_one syntactic_one source f g x y =
    let tokens = tokens_one source x.tokens y.tokens x.are y.are in
    let same = syntactic_one (lexemes_of source y.tokens) x.number y.number x.code y.code (subst (λ ts. FaultAt (lexemes_of source ts) x.number x.code) tokens x.first) y.first in
    let number = same.0 in let code = same.1 in
    let there = x.finding_is in let other = y.finding_is in
    cc (tokens, number, code, there, other)

fault_one : TokensOne → NoTokens → LexicalOne → SyntacticOne → (source : List ℕ) (f g : Finding) → IsSourceFault source f → IsSourceFault source g → f ≡ g
fault_one tokens_one no_tokens lexical_one syntactic_one source f g (IsSourceFault.too_long l e) (IsSourceFault.too_long _ e') = e ∙ sym e'
fault_one tokens_one no_tokens lexical_one syntactic_one source f g (IsSourceFault.too_long l e) (IsSourceFault.lexical y) = absurd (let fits = y.fits in omega (arith, l))
fault_one tokens_one no_tokens lexical_one syntactic_one source f g (IsSourceFault.too_long l e) (IsSourceFault.syntactic y) = absurd (let fits = y.fits in omega (arith, l))
fault_one tokens_one no_tokens lexical_one syntactic_one source f g (IsSourceFault.lexical x) (IsSourceFault.too_long l e) = absurd (let fits = x.fits in omega (arith, l))
fault_one tokens_one no_tokens lexical_one syntactic_one source f g (IsSourceFault.syntactic x) (IsSourceFault.too_long l e) = absurd (let fits = x.fits in omega (arith, l))
fault_one tokens_one no_tokens lexical_one syntactic_one source f g (IsSourceFault.lexical x) (IsSourceFault.lexical y) = lexical_same lexical_one source f g x y
fault_one tokens_one no_tokens lexical_one syntactic_one source f g (IsSourceFault.lexical x) (IsSourceFault.syntactic y) = absurd (no_tokens source y.tokens f.at.line f.at.column x.code y.are x.first)
fault_one tokens_one no_tokens lexical_one syntactic_one source f g (IsSourceFault.syntactic x) (IsSourceFault.lexical y) = absurd (no_tokens source x.tokens g.at.line g.at.column y.code x.are y.first)
fault_one tokens_one no_tokens lexical_one syntactic_one source f g (IsSourceFault.syntactic x) (IsSourceFault.syntactic y) = syntactic_same tokens_one syntactic_one source f g x y

-- ---- both

-- a source says one module or has one first fault
pub record SaysOne : Type 0 where
  pub modules : (source : List ℕ) (m n : Module) → SaysModule source m → SaysModule source n → m ≡ n
  pub excludes : (source : List ℕ) (m : Module) (f : Finding) → SaysModule source m → IsSourceFault source f → ⊥
  pub faults : (source : List ℕ) (f g : Finding) → IsSourceFault source f → IsSourceFault source g → f ≡ g

pub says_one : TokensOne → NoTokens → LexicalOne → ModulesOne → NoModule → SyntacticOne → SaysOne
says_one tokens_one no_tokens lexical_one modules_one no_module syntactic_one = record {
  modules = module_one tokens_one modules_one;
  excludes = module_excludes tokens_one no_tokens no_module;
  faults = fault_one tokens_one no_tokens lexical_one syntactic_one;
}
