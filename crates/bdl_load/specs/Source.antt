-- What the bytes of a file say, or their first fault.
use Rattle.std.specs.Prelude.{◌≡◌, ℕ, ◌-◌, ◌<◌, ◌≤◌, List, length, min}
use Rattle.std.specs.List.{slice_get}
use Rattle.std.specs.Option.{option_map_or}
use Rattle.bdl_load.specs.declared.faults.TheConstants.{FIRST_SPOT}
use Rattle.bdl_lexer.specs.declared.TheConstants.{SOURCE_MAX}
use Rattle.bdl_lexer.specs.declared.LexCode.{LexCode}
use Rattle.bdl_lexer.specs.declared.LexCode.TheVariants.{NotUtf8 as LexNotUtf8, BadByte as LexBadByte, OpenComment as LexOpenComment, OpenString as LexOpenString, NumberRange as LexNumberRange}
use Rattle.bdl_lexer.specs.declared.Token.{Token}
use Rattle.bdl_lexer.specs.Faults.{FirstLexicalFault}
use Rattle.bdl_lexer.specs.Tokens.{AreTokensOf}
use Rattle.bdl_parser.specs.declared.ParseCode.{ParseCode}
use Rattle.bdl_parser.specs.declared.ParseCode.TheVariants.{Expected as ParseExpected, TypeNesting as ParseTypeNesting}
use Rattle.bdl_parser.specs.declared.trees.Module.{Module}
use Rattle.bdl_parser.specs.declared.trees.Spot.{Spot}
use Rattle.bdl_parser.specs.FirstFault.{IsModuleOf, FaultAt}
use Rattle.bdl_parser.specs.Lexemes.{Lexeme, lexemes_of}
use Rattle.bdl_load.specs.declared.faults.DefCode.{DefCode}
use Rattle.bdl_load.specs.declared.faults.DefCode.TheVariants.{NotUtf8, BadByte, OpenComment, OpenString, NumberRange, Expected, TypeNesting, DefTooLong}
use Rattle.bdl_load.specs.declared.faults.Fault.{Fault}
use Rattle.bdl_load.specs.declared.faults.Finding.{Finding}
use Rattle.bdl_load.specs.Faults.{found, fault_in}

-- The code of a lexical fault.
abbrev pub of_lexer : LexCode → DefCode
of_lexer LexNotUtf8 = NotUtf8
of_lexer LexBadByte = BadByte
of_lexer LexOpenComment = OpenComment
of_lexer LexOpenString = OpenString
of_lexer LexNumberRange = NumberRange

-- The code of a parse fault.
abbrev pub of_parser : ParseCode → DefCode
of_parser ParseExpected = Expected
of_parser ParseTypeNesting = TypeNesting

-- The place of the token with this number; the last token's at the end, and the first place where
-- there are no tokens.
abbrev pub spot_at : List Lexeme → ℕ → Spot
spot_at ts k = option_map_or (λ t. t.spot) (slice_get ts (min k (length ts - 1))) FIRST_SPOT

-- The source says this module, by its tokens.
pub record SaysModule (source : List ℕ) (module_ : Module) : Type 0 where
  pub tokens : List Token
  pub fits : length source ≤ SOURCE_MAX
  pub are : AreTokensOf source tokens
  pub says : IsModuleOf (lexemes_of source tokens) module_

-- The first lexical fault of the source.
pub record IsLexical (source : List ℕ) (finding : Finding) : Type 0 where
  pub code : LexCode
  pub fits : length source ≤ SOURCE_MAX
  pub first : FirstLexicalFault source finding.at.line finding.at.column code
  pub code_is : finding.code ≡ of_lexer code

-- The first parse fault of the source's tokens.
pub record IsSyntactic (source : List ℕ) (finding : Finding) : Type 0 where
  pub tokens : List Token
  pub number : ℕ
  pub code : ParseCode
  pub fits : length source ≤ SOURCE_MAX
  pub are : AreTokensOf source tokens
  pub first : FaultAt (lexemes_of source tokens) number code
  pub finding_is : finding ≡ found (spot_at (lexemes_of source tokens) number) (of_parser code)

-- The first fault of a file's bytes: their length, or else a lexical fault, or else a parse fault.
pub data IsSourceFault (source : List ℕ) (finding : Finding) : Type 0 where
  too_long : SOURCE_MAX < length source → finding ≡ found FIRST_SPOT DefTooLong
      → IsSourceFault source finding
  lexical : IsLexical source finding → IsSourceFault source finding
  syntactic : IsSyntactic source finding → IsSourceFault source finding

-- The fault is the first one of a file's bytes, in the file of this name.
pub record IsFaultOfSource (name source : List ℕ) (fault : Fault) : Type 0 where
  pub finding : Finding
  pub first : IsSourceFault source finding
  pub is : fault ≡ fault_in name finding
