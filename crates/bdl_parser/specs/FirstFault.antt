-- The module that tokens say, or the token at which they first go wrong.
use Rattle.std.specs.Prelude.{ℕ, ◌+◌, ◌<◌, ◌≤◌, List, [], length, take}
use Rattle.bdl_parser.specs.declared.TheConstants.{NESTING_MAX}
use Rattle.bdl_parser.specs.declared.trees.Module.{Module}
use Rattle.bdl_parser.specs.declared.ParseCode.{ParseCode}
use Rattle.bdl_parser.specs.declared.ParseCode.TheVariants.{Expected, TypeNesting}
use Rattle.bdl_parser.specs.declared.ParseFault.{ParseFault}
use Rattle.bdl_parser.specs.declared.ParseFault.TheVariants.{At, Memory}
use Rattle.bdl_parser.specs.Grammar.{a_module}
use Rattle.bdl_parser.specs.Lexemes.{Lexeme}

-- The tokens say this module, in which at most `NESTING_MAX` types are inside one another.
abbrev pub IsModuleOf : List Lexeme → Module → Type 0
IsModuleOf ts module_ = (a_module NESTING_MAX).reads ts module_ []

-- The tokens begin some module, however deep its types.
abbrev pub BeginsModule : List Lexeme → Type 0
BeginsModule ts = (n : ℕ) × (a_module n).begins ts

-- The longest prefix that begins some module has k tokens; it begins one that isn't too deep, and
-- the tokens say no module.
pub record ExpectedAt (ts : List Lexeme) (k : ℕ) : Type 0 where
  pub within : k ≤ length ts
  pub begins : BeginsModule (take k ts)
  pub longest : (j : ℕ) → j ≤ length ts → BeginsModule (take j ts) → j ≤ k
  pub shallow : (a_module NESTING_MAX).begins (take k ts)
  pub none : (n : ℕ) (module_ : Module) → (a_module n).reads ts module_ [] → ⊥

-- With the token k the prefix begins some module, but none in which at most `NESTING_MAX` types are
-- inside one another.
pub record NestsAt (ts : List Lexeme) (k : ℕ) : Type 0 where
  pub within : k < length ts
  pub shallow : (a_module NESTING_MAX).begins (take k ts)
  pub begins : BeginsModule (take (k + 1) ts)
  pub deep : (a_module NESTING_MAX).begins (take (k + 1) ts) → ⊥

-- The first fault of the tokens.
abbrev pub FaultAt : List Lexeme → ℕ → ParseCode → Type 0
FaultAt ts k Expected = ExpectedAt ts k
FaultAt ts k TypeNesting = NestsAt ts k

-- What a refusal says: the first fault, or that there is no memory.
abbrev pub IsParseRefusalOf : List Lexeme → ParseFault → Type 0
IsParseRefusalOf ts (At k code) = FaultAt ts k code
IsParseRefusalOf ts Memory = Unit {0}
