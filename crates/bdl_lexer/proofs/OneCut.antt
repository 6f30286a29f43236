-- A source is cut in one way: into its tokens, or up to its first fault.
use Rattle.std.proofs.Common.{◌≡◌, ℕ, Option, List, [], ◌∷◌, ◌++◌, length, take, refl, sym, ap, ◌∙◌, subst, inl, inr, ◌⊎◌, arith, length-append}
use Rattle.std.specs.Str.{IsUtf8, IsValidUpTo}
use Rattle.std.proofs.lemmas.List.{take_all}
use Rattle.std.proofs.lemmas.Str.{utf8_valid_len-IsValidUpTo}
use Rattle.bdl_lexer.specs.declared.LexCode.{LexCode}
use Rattle.bdl_lexer.specs.declared.LexCode.TheVariants.{NotUtf8, BadByte, OpenComment, OpenString, NumberRange}
use Rattle.bdl_lexer.specs.declared.Token.{Token}
use Rattle.bdl_lexer.specs.declared.TokenClass.{TokenClass}
use Rattle.bdl_lexer.specs.Faults.{IsFault, IsNotUtf8, IsFaultBehind, FirstLexicalFault}
use Rattle.bdl_lexer.specs.Scan.{IsPiece}
use Rattle.bdl_lexer.specs.Places.{first_place, place_behind}
use Rattle.bdl_lexer.specs.Tokens.{SourcePiece, BeginsWithPieces, tokens_from, text_of_pieces, AreTokensOf}
use Rattle.bdl_lexer.proofs.OnePiece.{piece_same, piece_some, fault_some, piece_or_fault, code_same}

-- no piece is whole here
abbrev NoPiece : List ℕ → Type 0
NoPiece rest = (c : Option TokenClass) (text after : List ℕ) → IsPiece c text after → rest ≡ text ++ after → ⊥

none_at_end : NoPiece []
none_at_end c text after p e = let some = piece_some c text after p in omega (arith, ap length e, length-append text after)

none_at_fault : (code : LexCode) (rest : List ℕ) → IsFault code rest → NoPiece rest
none_at_fault code rest fault c text after p e = piece_or_fault code c rest text after fault p e

-- pieces as far as they go are cut in one way
one_cut : (ps qs : List SourcePiece) (source rest left : List ℕ) → BeginsWithPieces ps source rest → BeginsWithPieces qs source left → NoPiece rest → NoPiece left → (ps ≡ qs) × (rest ≡ left)
one_cut [] [] source rest left b d none other = (refl, sym b ∙ d)
one_cut [] (q ∷ qs) source rest left b d none other = absurd (none q.class q.text d.0 d.2 (sym b ∙ d.1))
one_cut (p ∷ ps) [] source rest left b d none other = absurd (other p.class p.text b.0 b.2 (sym d ∙ b.1))
one_cut (p ∷ ps) (q ∷ qs) source rest left b d none other =
    let same = piece_same p.class q.class p.text q.text b.0 d.0 b.2 d.2 (sym b.1 ∙ d.1) in
    let begins : BeginsWithPieces qs b.0 left = subst (λ s. BeginsWithPieces qs s left) (sym same.rest) d.3 in
    let more = one_cut ps qs b.0 rest left b.3 begins none other in
    let heads : ◌≡◌ {A = SourcePiece} p q = λ i. record { class = same.class i; text = same.text i } in
    ((λ i. heads i ∷ more.0 i), more.1)

-- a source has one list of tokens
pub one_list : (source : List ℕ) (tokens others : List Token) → AreTokensOf source tokens → AreTokensOf source others → tokens ≡ others
one_list source tokens others a b =
    let same = one_cut a.pieces b.pieces source [] [] a.cover b.cover none_at_end none_at_end in
    a.are ∙ ap (tokens_from first_place) same.0 ∙ sym b.are

valid_clash : (source : List ℕ) (valid : ℕ) → IsValidUpTo source valid → IsUtf8 source → ⊥
valid_clash source valid p text =
    p.longest (length source) p.short (subst IsUtf8 (sym (take_all (length source) source (omega arith))) text)

behind_clash : (source : List ℕ) (tokens : List Token) (line column : ℕ) (code : LexCode) → AreTokensOf source tokens → IsFaultBehind source line column code → ⊥
behind_clash source tokens line column code a f =
    let same = one_cut a.pieces f.pieces source [] f.rest a.cover f.begins none_at_end (none_at_fault code f.rest f.fault) in
    let some = fault_some code f.rest f.fault in
    omega (arith, ap length same.1)

-- a source that has tokens has no fault
pub tokens_or_fault : (source : List ℕ) (tokens : List Token) (line column : ℕ) (code : LexCode) → AreTokensOf source tokens → FirstLexicalFault source line column code → ⊥
tokens_or_fault source tokens line column NotUtf8 a f = valid_clash source f.valid f.longest a.text
tokens_or_fault source tokens line column BadByte a f = behind_clash source tokens line column BadByte a f
tokens_or_fault source tokens line column OpenComment a f = behind_clash source tokens line column OpenComment a f
tokens_or_fault source tokens line column OpenString a f = behind_clash source tokens line column OpenString a f
tokens_or_fault source tokens line column NumberRange a f = behind_clash source tokens line column NumberRange a f

-- two faults are one
pub record IsOneFault (line column other there : ℕ) (code unlike : LexCode) : Type 0 where
  pub line_is : line ≡ other
  pub column_is : column ≡ there
  pub code_is : code ≡ unlike

invalid_same : (source : List ℕ) (line column other there : ℕ) → IsNotUtf8 source line column → IsNotUtf8 source other there → IsOneFault line column other there NotUtf8 NotUtf8
invalid_same source line column other there p q =
    let same : p.valid ≡ q.valid = sym (utf8_valid_len-IsValidUpTo source p.valid p.longest) ∙ utf8_valid_len-IsValidUpTo source q.valid q.longest in
    let places = ap (λ n. place_behind first_place (take n source)) same in
    record { line_is = p.line_is ∙ ap (λ w. w.line) places ∙ sym q.line_is; column_is = p.column_is ∙ ap (λ w. w.column) places ∙ sym q.column_is; code_is = refl }

behind_same : (source : List ℕ) (line column other there : ℕ) (code unlike : LexCode) → IsFaultBehind source line column code → IsFaultBehind source other there unlike → IsOneFault line column other there code unlike
behind_same source line column other there code unlike p q =
    let same = one_cut p.pieces q.pieces source p.rest q.rest p.begins q.begins (none_at_fault code p.rest p.fault) (none_at_fault unlike q.rest q.fault) in
    let places = ap (λ ps. place_behind first_place (text_of_pieces ps)) same.0 in
    record {
      line_is = p.line_is ∙ ap (λ w. w.line) places ∙ sym q.line_is;
      column_is = p.column_is ∙ ap (λ w. w.column) places ∙ sym q.column_is;
      code_is = code_same code unlike p.rest p.fault (subst (IsFault unlike) (sym same.1) q.fault);
    }

-- the cause of a fault, by whether the source is UTF-8
abbrev Cause : List ℕ → ℕ → ℕ → LexCode → Type 0
Cause source line column code = ((code ≡ NotUtf8) × IsNotUtf8 source line column) ⊎ IsFaultBehind source line column code

cause_of : (source : List ℕ) (line column : ℕ) (code : LexCode) → FirstLexicalFault source line column code → Cause source line column code
cause_of source line column NotUtf8 f = inl (refl, f)
cause_of source line column BadByte f = inr f
cause_of source line column OpenComment f = inr f
cause_of source line column OpenString f = inr f
cause_of source line column NumberRange f = inr f

one_cause : (source : List ℕ) (line column other there : ℕ) (code unlike : LexCode) → Cause source line column code → Cause source other there unlike → IsOneFault line column other there code unlike
one_cause source line column other there code unlike (inl p) (inl q) =
    let one = invalid_same source line column other there p.1 q.1 in
    record { line_is = one.line_is; column_is = one.column_is; code_is = p.0 ∙ sym q.0 }
one_cause source line column other there code unlike (inl p) (inr q) = absurd (valid_clash source p.1.valid p.1.longest q.text)
one_cause source line column other there code unlike (inr p) (inl q) = absurd (valid_clash source q.1.valid q.1.longest p.text)
one_cause source line column other there code unlike (inr p) (inr q) = behind_same source line column other there code unlike p q

-- a source has one first fault
pub one_fault : (source : List ℕ) (line column other there : ℕ) (code unlike : LexCode) → FirstLexicalFault source line column code → FirstLexicalFault source other there unlike → (line ≡ other) × (column ≡ there) × (code ≡ unlike)
one_fault source line column other there code unlike p q =
    let one = one_cause source line column other there code unlike (cause_of source line column code p) (cause_of source other there unlike q) in
    (one.line_is, one.column_is, one.code_is)
