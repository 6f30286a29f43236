-- At one place there is at most one piece, or one fault.
use Rattle.std.proofs.Common.{◌≡◌, ℕ, ◌+◌, ◌<◌, ◌≤◌, Bool, true, false, cond, eqb, ◌||◌, ◌&&◌, Option, None, Some, List, [], ◌∷◌, ◌++◌, length, get_or, refl, sym, ap, ◌∙◌, subst, ⊎_elim, inl, inr, ◌⊎◌, arith, append_assoc, append-nil, length-append}
use Rattle.std.specs.Char.{is_ascii_digit}
use Rattle.std.proofs.lemmas.Bool.Decides.{nat_tests}
use Rattle.std.proofs.lemmas.List.{get_or_append_left, get_or_at}
use Rattle.std.proofs.str.Laws.{order}
use Rattle.bdl_lexer.specs.declared.TheConstants.{NUMBER_MAX}
use Rattle.bdl_lexer.specs.declared.LexCode.{LexCode}
use Rattle.bdl_lexer.specs.declared.LexCode.TheVariants.{NotUtf8, BadByte, OpenComment, OpenString, NumberRange}
use Rattle.bdl_lexer.specs.declared.TokenClass.{TokenClass}
use Rattle.bdl_lexer.specs.declared.TokenClass.TheVariants.{Word, Number, Text, Sign}
use Rattle.bdl_lexer.specs.Bytes.{is_blank, is_letter, is_text_byte, is_line_byte, is_sign}
use Rattle.bdl_lexer.specs.Faults.{begins_comment, begins_piece, IsBadByte, IsOpenComment, IsOpenString, IsLargeNumber, IsFault}
use Rattle.bdl_lexer.specs.Scan.{HasTokenForm, IsText, IsLongest, IsToken, IsBlank, EndsLine, IsLineComment, HasNoClose, IsBlockComment, IsPiece}
use Rattle.bdl_lexer.proofs.FirstBytes.{kind_of, kind_blank}
use Rattle.bdl_lexer.proofs.Longest.{Starts, same_kind, class_kind, form_starts}
use Rattle.bdl_lexer.proofs.Runs.{StopsAt, run_longest}

-- two texts at one place, as long as one another, are one
pub split_same : (a b x y : List ℕ) → a ++ x ≡ b ++ y → length a ≡ length b → (a ≡ b) × (x ≡ y)
split_same [] [] x y e len = (refl, e)
split_same [] (c ∷ b) x y e len = absurd (omega arith)
split_same (d ∷ a) [] x y e len = absurd (omega arith)
split_same (d ∷ a) (c ∷ b) x y e len =
    let heads : d ≡ c = cc in
    let tails : a ++ x ≡ b ++ y = cc in
    let more = split_same a b x y tails (omega arith) in
    ((λ i. heads i ∷ more.0 i), more.1)

-- a text has one class
class_same : (c d : TokenClass) (text : List ℕ) → class_kind c ≡ class_kind d → HasTokenForm c text → HasTokenForm d text → c ≡ d
class_same Word Word text k p q = refl
class_same (Number v) (Number w) text k p q = ap Number (p.value_is ∙ sym q.value_is)
class_same Text Text text k p q = refl
class_same (Sign b) (Sign c) text k p q = ap Sign (let heads : b ∷ [] ≡ c ∷ [] = sym p.is ∙ q.is in cc)
class_same Word (Number w) text k p q = absurd (omega arith)
class_same Word Text text k p q = absurd (omega arith)
class_same Word (Sign c) text k p q = absurd (omega arith)
class_same (Number v) Word text k p q = absurd (omega arith)
class_same (Number v) Text text k p q = absurd (omega arith)
class_same (Number v) (Sign c) text k p q = absurd (omega arith)
class_same Text Word text k p q = absurd (omega arith)
class_same Text (Number w) text k p q = absurd (omega arith)
class_same Text (Sign c) text k p q = absurd (omega arith)
class_same (Sign b) Word text k p q = absurd (omega arith)
class_same (Sign b) (Number w) text k p q = absurd (omega arith)
class_same (Sign b) Text text k p q = absurd (omega arith)

-- two pieces are one
pub record AreSame (c d : Option TokenClass) (a b x y : List ℕ) : Type 0 where
  pub class : c ≡ d
  pub text : a ≡ b
  pub rest : x ≡ y

pub token_same : (c d : TokenClass) (a b x y : List ℕ) → IsLongest c a x → IsLongest d b y → a ++ x ≡ b ++ y → AreSame (Some c) (Some d) a b x y
token_same c d a b x y p q e =
    let shorter = p.longest d b y e q.form in
    let longer = q.longest c a x (sym e) p.form in
    let same = split_same a b x y e (omega arith) in
    let form : HasTokenForm d a = subst (HasTokenForm d) (sym same.0) q.form in
    let kinds = same_kind (class_kind c) (class_kind d) a a [] [] (form_starts c a p.form) (form_starts d a form) refl in
    record { class = ap Some (class_same c d a kinds p.form form); text = same.0; rest = same.1 }

token_starts : (c : TokenClass) (a x : List ℕ) → IsToken c a x → Starts (class_kind c) a
token_starts c a x p = form_starts c a p.longest.form

blank_starts : (a : List ℕ) → IsBlank a → Starts 0 a
blank_starts a p = record { byte = p.byte; more = []; is = p.is; kind_is = kind_blank p.byte p.blank }

line_starts : (a x : List ℕ) → IsLineComment a x → Starts 5 a
line_starts a x p = record { byte = 47; more = 47 ∷ p.inner; is = p.is; kind_is = refl }

block_starts : (a : List ℕ) → IsBlockComment a → Starts 5 a
block_starts a p = record { byte = 47; more = 42 ∷ (p.inner ++ 42 ∷ 47 ∷ []); is = p.is; kind_is = refl }

-- blanks and comments begin as no token does
class_above : (c : TokenClass) → (1 ≤ class_kind c) × (class_kind c ≤ 4)
class_above Word = (omega arith, omega arith)
class_above (Number v) = (omega arith, omega arith)
class_above Text = (omega arith, omega arith)
class_above (Sign b) = (omega arith, omega arith)

blank_same : (a b x y : List ℕ) → IsBlank a → IsBlank b → a ++ x ≡ b ++ y → AreSame None None a b x y
blank_same a b x y p q e =
    let same = split_same a b x y e (omega (arith, ap length p.is, ap length q.is)) in
    record { class = refl; text = same.0; rest = same.1 }

ends_stops : (xs : List ℕ) → EndsLine xs → StopsAt is_line_byte xs
ends_stops [] ends = tt
ends_stops (b ∷ xs) ends = ap is_line_byte ends

ends_text : (xs : List ℕ) → EndsLine xs → StopsAt is_text_byte xs
ends_text [] ends = tt
ends_text (b ∷ xs) ends = ap is_text_byte ends

-- the bytes after the two that open a comment
behind_two : (a b x y more other : List ℕ) (c d : ℕ) → a ≡ 47 ∷ c ∷ more → b ≡ 47 ∷ d ∷ other → a ++ x ≡ b ++ y → (c ≡ d) × (more ++ x ≡ other ++ y)
behind_two a b x y more other c d p q e =
    let both : 47 ∷ c ∷ (more ++ x) ≡ 47 ∷ d ∷ (other ++ y) = (λ i. (sym p i) ++ x) ∙ e ∙ (λ i. (q i) ++ y) in
    (cc, cc)

line_same : (a b x y : List ℕ) → IsLineComment a x → IsLineComment b y → a ++ x ≡ b ++ y → AreSame None None a b x y
line_same a b x y p q e =
    let inner = (behind_two a b x y p.inner q.inner 47 47 p.is q.is e).1 in
    let shorter = run_longest is_line_byte p.inner q.inner x y inner (ends_stops x p.ends) q.each in
    let longer = run_longest is_line_byte q.inner p.inner y x (sym inner) (ends_stops y q.ends) p.each in
    let same = split_same a b x y e (omega (arith, ap length p.is, ap length q.is)) in
    record { class = refl; text = same.0; rest = same.1 }

-- a "*/" in what holds none
close_clash : (open_ before after rest : List ℕ) → HasNoClose open_ → open_ ++ rest ≡ before ++ 42 ∷ 47 ∷ after → length before + 1 < length open_ → ⊥
close_clash open_ before after rest none e short =
    let star_in : get_or open_ (length before) 0 ≡ 42 =
    sym (get_or_append_left open_ rest 0 (length before) (omega arith)) ∙ ap (λ xs. get_or xs (length before) 0) e ∙ get_or_at before 42 (47 ∷ after) 0 (length before) refl in
    let shift : before ++ 42 ∷ 47 ∷ after ≡ (before ++ 42 ∷ []) ++ 47 ∷ after = sym (append_assoc before (42 ∷ []) (47 ∷ after)) in
    let slash_in : get_or open_ (length before + 1) 0 ≡ 47 =
    sym (get_or_append_left open_ rest 0 (length before + 1) short) ∙ ap (λ xs. get_or xs (length before + 1) 0) (e ∙ shift) ∙ get_or_at (before ++ 42 ∷ []) 47 after 0 (length before + 1) (length-append before (42 ∷ [])) in
    none (length before) short star_in slash_in

-- the first "*/" after a "/*" is no later than any
block_no_longer : (inner other x y : List ℕ) → HasNoClose (other ++ 42 ∷ []) → (inner ++ 42 ∷ 47 ∷ []) ++ x ≡ (other ++ 42 ∷ 47 ∷ []) ++ y → length other ≤ length inner
block_no_longer inner other x y none e =
    let left : (inner ++ 42 ∷ 47 ∷ []) ++ x ≡ inner ++ 42 ∷ 47 ∷ x = append_assoc inner (42 ∷ 47 ∷ []) x in
    let right : (other ++ 42 ∷ 47 ∷ []) ++ y ≡ (other ++ 42 ∷ []) ++ 47 ∷ y =
    append_assoc other (42 ∷ 47 ∷ []) y ∙ sym (append_assoc other (42 ∷ []) (47 ∷ y)) in
    ⊎_elim
    (λ longer. absurd (close_clash (other ++ 42 ∷ []) inner x (47 ∷ y) none (sym right ∙ sym e ∙ left) (omega (arith, length-append other (42 ∷ [])))))
    (λ fine. fine)
    (order (length inner) (length other))

block_same : (a b x y : List ℕ) → IsBlockComment a → IsBlockComment b → a ++ x ≡ b ++ y → AreSame None None a b x y
block_same a b x y p q e =
    let inner = (behind_two a b x y (p.inner ++ 42 ∷ 47 ∷ []) (q.inner ++ 42 ∷ 47 ∷ []) 42 42 p.is q.is e).1 in
    let shorter = block_no_longer p.inner q.inner x y q.first inner in
    let longer = block_no_longer q.inner p.inner y x p.first (sym inner) in
    let same = split_same a b x y e (omega (arith, ap length p.is, ap length q.is, length-append p.inner (42 ∷ 47 ∷ []), length-append q.inner (42 ∷ 47 ∷ []))) in
    record { class = refl; text = same.0; rest = same.1 }

clash : (k l : ℕ) (a b x y : List ℕ) → Starts k a → Starts l b → a ++ x ≡ b ++ y → (k ≡ l → ⊥) → ⊥
clash k l a b x y p q e differ = differ (same_kind k l a b x y p q e)

line_block : (a b x y : List ℕ) → IsLineComment a x → IsBlockComment b → a ++ x ≡ b ++ y → ⊥
line_block a b x y p q e =
    let seconds : ◌≡◌ {A = ℕ} 47 42 = (behind_two a b x y p.inner (q.inner ++ 42 ∷ 47 ∷ []) 47 42 p.is q.is e).0 in
    omega arith

other_same : (a b x y : List ℕ) → IsPiece None a x → IsPiece None b y → a ++ x ≡ b ++ y → AreSame None None a b x y
other_same a b x y (inl p) (inl q) e = blank_same a b x y p q e
other_same a b x y (inl p) (inr (inl q)) e = absurd (clash 0 5 a b x y (blank_starts a p) (line_starts b y q) e (λ (z : 0 ≡ 5). omega arith))
other_same a b x y (inl p) (inr (inr q)) e = absurd (clash 0 5 a b x y (blank_starts a p) (block_starts b q) e (λ (z : 0 ≡ 5). omega arith))
other_same a b x y (inr (inl p)) (inl q) e = absurd (clash 5 0 a b x y (line_starts a x p) (blank_starts b q) e (λ (z : 5 ≡ 0). omega arith))
other_same a b x y (inr (inl p)) (inr (inl q)) e = line_same a b x y p q e
other_same a b x y (inr (inl p)) (inr (inr q)) e = absurd (line_block a b x y p q e)
other_same a b x y (inr (inr p)) (inl q) e = absurd (clash 5 0 a b x y (block_starts a p) (blank_starts b q) e (λ (z : 5 ≡ 0). omega arith))
other_same a b x y (inr (inr p)) (inr (inl q)) e = absurd (line_block b a y x q p (sym e))
other_same a b x y (inr (inr p)) (inr (inr q)) e = block_same a b x y p q e

-- the kind of a blank or a comment is 0 or 5
record IsOther (a : List ℕ) : Type 0 where
  kind : ℕ
  starts : Starts kind a
  which : (kind ≡ 0) ⊎ (kind ≡ 5)

other_starts : (a x : List ℕ) → IsPiece None a x → IsOther a
other_starts a x (inl p) = record { kind = 0; starts = blank_starts a p; which = inl refl }
other_starts a x (inr (inl p)) = record { kind = 5; starts = line_starts a x p; which = inr refl }
other_starts a x (inr (inr p)) = record { kind = 5; starts = block_starts a p; which = inr refl }

other_or_token : (d : TokenClass) (a b x y : List ℕ) → IsPiece None a x → IsToken d b y → a ++ x ≡ b ++ y → ⊥
other_or_token d a b x y p q e =
    let it = other_starts a x p in
    let same = same_kind it.kind (class_kind d) a b x y it.starts (token_starts d b y q) e in
    let above = class_above d in
    ⊎_elim (λ (z : it.kind ≡ 0). let w : ⊥ = omega arith in w) (λ (z : it.kind ≡ 5). let w : ⊥ = omega arith in w) it.which

pub piece_same : (c d : Option TokenClass) (a b x y : List ℕ) → IsPiece c a x → IsPiece d b y → a ++ x ≡ b ++ y → AreSame c d a b x y
piece_same None None a b x y p q e = other_same a b x y p q e
piece_same None (Some d) a b x y p q e = absurd (other_or_token d a b x y p q e)
piece_same (Some c) None a b x y p q e = absurd (other_or_token c b a y x q p (sym e))
piece_same (Some c) (Some d) a b x y p q e = token_same c d a b x y p.longest q.longest e

or_false : (a b : Bool) → (a || b) ≡ false → (a ≡ false) × (b ≡ false)
or_false false b e = (refl, e)
or_false true b e = absurd (let w : true ≡ false = e in cc)

-- what begins with these bytes, by their first byte
record IsNothing (b : ℕ) (more : List ℕ) : Type 0 where
  blank : is_blank b ≡ false
  letter : is_letter b ≡ false
  digit : is_ascii_digit b ≡ false
  quote : eqb b 34 ≡ false
  sign : is_sign b ≡ false
  comment : (eqb b 47 && begins_comment more) ≡ false

nothing_of : (b : ℕ) (more : List ℕ) → begins_piece b more ≡ false → IsNothing b more
nothing_of b more e =
    let a = or_false (is_blank b || is_letter b || is_ascii_digit b || eqb b 34 || is_sign b) (eqb b 47 && begins_comment more) e in
    let s = or_false (is_blank b || is_letter b || is_ascii_digit b || eqb b 34) (is_sign b) a.0 in
    let q = or_false (is_blank b || is_letter b || is_ascii_digit b) (eqb b 34) s.0 in
    let d = or_false (is_blank b || is_letter b) (is_ascii_digit b) q.0 in
    let l = or_false (is_blank b) (is_letter b) d.0 in
    record { blank = l.0; letter = l.1; digit = d.1; quote = q.1; sign = s.1; comment = a.1 }

true_false : (b : Bool) → b ≡ true → b ≡ false → ⊥
true_false b p q = let e : true ≡ false = sym p ∙ q in cc

kind_nothing : (b : ℕ) (more : List ℕ) (k : ℕ) → IsNothing b more → kind_of b ≡ k → 5 ≤ k
kind_nothing b more k none e =
    let step : kind_of b ≡ cond (eqb b 47) 5 6 =
    (λ i. cond (none.blank i) 0 (cond (none.letter i) 1 (cond (none.digit i) 2 (cond (none.quote i) 3 (cond (none.sign i) 4 (cond (eqb b 47) 5 6)))))) in
    grind (arith, nat_tests)

-- a bad byte begins no token and no blank
bad_apart : (k : ℕ) (s a x : List ℕ) → IsBadByte s → Starts k a → s ≡ a ++ x → k < 5 → ⊥
bad_apart k s a x bad starts e small =
    let heads : bad.byte ∷ bad.more ≡ starts.byte ∷ (starts.more ++ x) = sym bad.is ∙ e ∙ ap (λ xs. xs ++ x) starts.is in
    let same : bad.byte ≡ starts.byte = cc in
    let above = kind_nothing bad.byte bad.more k (nothing_of bad.byte bad.more bad.none) (ap kind_of same ∙ starts.kind_is) in
    omega arith

-- nor a comment
bad_comment : (s more : List ℕ) (second : ℕ) → IsBadByte s → s ≡ 47 ∷ second ∷ more → begins_comment (second ∷ []) ≡ true → ⊥
bad_comment s more second bad e begins =
    let heads : bad.byte ∷ bad.more ≡ 47 ∷ second ∷ more = sym bad.is ∙ e in
    let first : bad.byte ≡ 47 = cc in
    let others : bad.more ≡ second ∷ more = cc in
    let none = (nothing_of bad.byte bad.more bad.none).comment in
    true_false (begins_comment (second ∷ [])) begins ((λ i. eqb (sym first i) 47 && begins_comment (sym others i)) ∙ none)

pub piece_or_bad : (c : Option TokenClass) (s a x : List ℕ) → IsPiece c a x → s ≡ a ++ x → IsBadByte s → ⊥
piece_or_bad None s a x (inl p) e bad = bad_apart 0 s a x bad (blank_starts a p) e (omega arith)
piece_or_bad None s a x (inr (inl p)) e bad = bad_comment s (p.inner ++ x) 47 bad (e ∙ ap (λ xs. xs ++ x) p.is) refl
piece_or_bad None s a x (inr (inr p)) e bad = bad_comment s ((p.inner ++ 42 ∷ 47 ∷ []) ++ x) 42 bad (e ∙ ap (λ xs. xs ++ x) p.is) refl
piece_or_bad (Some d) s a x p e bad = let above = class_above d in bad_apart (class_kind d) s a x bad (token_starts d a x p) e (omega arith)

-- the kind with which a fault other than a bad byte begins
comment_starts : (s : List ℕ) → IsOpenComment s → Starts 5 s
comment_starts s p = record { byte = 47; more = 42 ∷ p.inner; is = p.is; kind_is = refl }

string_starts : (s : List ℕ) → IsOpenString s → Starts 3 s
string_starts s p = record { byte = 34; more = p.inner ++ p.after; is = p.is; kind_is = refl }

large_starts : (s : List ℕ) → IsLargeNumber s → Starts 2 s
large_starts s p =
    let digits = form_starts (Number p.value) p.digits p.longest.form in
    record { byte = digits.byte; more = digits.more ++ p.after; is = p.is ∙ ap (λ xs. xs ++ p.after) digits.is; kind_is = digits.kind_is }

-- a piece and a fault of two kinds don't begin at one place
fault_clash : (k l : ℕ) (s a x : List ℕ) → Starts k s → Starts l a → s ≡ a ++ x → (k ≡ l → ⊥) → ⊥
fault_clash k l s a x p q e differ = differ (same_kind k l s a [] x p q (append-nil s ∙ e))

token_or_comment : (d : TokenClass) (s a x : List ℕ) → IsToken d a x → s ≡ a ++ x → IsOpenComment s → ⊥
token_or_comment d s a x p e fault =
    let above = class_above d in
    fault_clash 5 (class_kind d) s a x (comment_starts s fault) (token_starts d a x p) e (λ (z : 5 ≡ class_kind d). let w : ⊥ = omega arith in w)

pub piece_or_comment : (c : Option TokenClass) (s a x : List ℕ) → IsPiece c a x → s ≡ a ++ x → IsOpenComment s → ⊥
piece_or_comment None s a x (inl p) e fault =
    fault_clash 5 0 s a x (comment_starts s fault) (blank_starts a p) e (λ (z : 5 ≡ 0). omega arith)
piece_or_comment None s a x (inr (inl p)) e fault =
    let seconds : ◌≡◌ {A = ℕ} 42 47 = (behind_two s a [] x fault.inner p.inner 42 47 fault.is p.is (append-nil s ∙ e)).0 in
    omega arith
piece_or_comment None s a x (inr (inr p)) e fault =
    let inner = (behind_two s a [] x fault.inner (p.inner ++ 42 ∷ 47 ∷ []) 42 42 fault.is p.is (append-nil s ∙ e)).1 in
    let whole : fault.inner ++ [] ≡ p.inner ++ 42 ∷ 47 ∷ x = inner ∙ append_assoc p.inner (42 ∷ 47 ∷ []) x in
    close_clash fault.inner p.inner x [] fault.open_ whole (omega (arith, ap length whole, length-append fault.inner [], length-append p.inner (42 ∷ 47 ∷ x)))
piece_or_comment (Some d) s a x p e fault = token_or_comment d s a x p e fault

string_or_text : (s a x : List ℕ) → IsText a → s ≡ a ++ x → IsOpenString s → ⊥
string_or_text s a x p e fault =
    let both : 34 ∷ (fault.inner ++ fault.after) ≡ 34 ∷ ((p.inner ++ 34 ∷ []) ++ x) = sym fault.is ∙ e ∙ ap (λ xs. xs ++ x) p.is in
    let tails : fault.inner ++ fault.after ≡ (p.inner ++ 34 ∷ []) ++ x = cc in
    let lined : fault.inner ++ fault.after ≡ p.inner ++ 34 ∷ x = tails ∙ append_assoc p.inner (34 ∷ []) x in
    let shorter = run_longest is_text_byte fault.inner p.inner fault.after (34 ∷ x) lined (ends_text fault.after fault.ends) p.each in
    let longer = run_longest is_text_byte p.inner fault.inner (34 ∷ x) fault.after (sym lined) refl fault.each in
    let same = split_same fault.inner p.inner fault.after (34 ∷ x) lined (omega arith) in
    let ends : ◌≡◌ {A = ℕ} 34 10 = subst EndsLine same.1 fault.ends in
    omega arith

other_or_string : (s a x : List ℕ) → IsPiece None a x → s ≡ a ++ x → IsOpenString s → ⊥
other_or_string s a x (inl p) e fault =
    fault_clash 3 0 s a x (string_starts s fault) (blank_starts a p) e (λ (z : 3 ≡ 0). omega arith)
other_or_string s a x (inr (inl p)) e fault =
    fault_clash 3 5 s a x (string_starts s fault) (line_starts a x p) e (λ (z : 3 ≡ 5). omega arith)
other_or_string s a x (inr (inr p)) e fault =
    fault_clash 3 5 s a x (string_starts s fault) (block_starts a p) e (λ (z : 3 ≡ 5). omega arith)

pub piece_or_string : (c : Option TokenClass) (s a x : List ℕ) → IsPiece c a x → s ≡ a ++ x → IsOpenString s → ⊥
piece_or_string None s a x p e fault = other_or_string s a x p e fault
piece_or_string (Some Word) s a x p e fault =
    fault_clash 3 1 s a x (string_starts s fault) (token_starts Word a x p) e (λ (z : 3 ≡ 1). omega arith)
piece_or_string (Some (Number v)) s a x p e fault =
    fault_clash 3 2 s a x (string_starts s fault) (token_starts (Number v) a x p) e (λ (z : 3 ≡ 2). omega arith)
piece_or_string (Some Text) s a x p e fault = string_or_text s a x p.longest.form e fault
piece_or_string (Some (Sign b)) s a x p e fault =
    fault_clash 3 4 s a x (string_starts s fault) (token_starts (Sign b) a x p) e (λ (z : 3 ≡ 4). omega arith)

-- the value of a number, and 0 of any other class
abbrev number_in : Option TokenClass → ℕ
number_in (Some (Number v)) = v
number_in _ = 0

number_small : (c : Option TokenClass) (a x : List ℕ) → IsPiece c a x → number_in c ≤ NUMBER_MAX
number_small None a x p = omega arith
number_small (Some Word) a x p = omega arith
number_small (Some (Number v)) a x p = p.in_range
number_small (Some Text) a x p = omega arith
number_small (Some (Sign b)) a x p = omega arith

token_or_large : (d : TokenClass) (s a x : List ℕ) → IsToken d a x → s ≡ a ++ x → IsLargeNumber s → ⊥
token_or_large d s a x p e fault =
    let same = token_same (Number fault.value) d fault.digits a fault.after x fault.longest p.longest (sym fault.is ∙ e) in
    let small = number_small (Some d) a x p in
    let value : fault.value ≡ number_in (Some d) = ap number_in same.class in
    omega (arith, fault.large)

pub piece_or_large : (c : Option TokenClass) (s a x : List ℕ) → IsPiece c a x → s ≡ a ++ x → IsLargeNumber s → ⊥
piece_or_large None s a x (inl p) e fault =
    fault_clash 2 0 s a x (large_starts s fault) (blank_starts a p) e (λ (z : 2 ≡ 0). omega arith)
piece_or_large None s a x (inr (inl p)) e fault =
    fault_clash 2 5 s a x (large_starts s fault) (line_starts a x p) e (λ (z : 2 ≡ 5). omega arith)
piece_or_large None s a x (inr (inr p)) e fault =
    fault_clash 2 5 s a x (large_starts s fault) (block_starts a p) e (λ (z : 2 ≡ 5). omega arith)
piece_or_large (Some d) s a x p e fault = token_or_large d s a x p e fault

-- where there is a fault, there is no piece
pub piece_or_fault : (code : LexCode) (c : Option TokenClass) (s a x : List ℕ) → IsFault code s → IsPiece c a x → s ≡ a ++ x → ⊥
piece_or_fault NotUtf8 c s a x fault p e = fault
piece_or_fault BadByte c s a x fault p e = piece_or_bad c s a x p e fault
piece_or_fault OpenComment c s a x fault p e = piece_or_comment c s a x p e fault
piece_or_fault OpenString c s a x fault p e = piece_or_string c s a x p e fault
piece_or_fault NumberRange c s a x fault p e = piece_or_large c s a x p e fault

kinds_apart : (k l : ℕ) (s : List ℕ) → Starts k s → Starts l s → k ≡ l
kinds_apart k l s p q = same_kind k l s s [] [] p q refl

bad_or_kind : (k : ℕ) (s : List ℕ) → IsBadByte s → Starts k s → k < 5 → ⊥
bad_or_kind k s bad starts small = bad_apart k s s [] bad starts (sym (append-nil s)) small

bad_or_comment : (s : List ℕ) → IsBadByte s → IsOpenComment s → ⊥
bad_or_comment s bad p = bad_comment s p.inner 42 bad p.is refl

-- at one place there is one fault
pub code_same : (c d : LexCode) (s : List ℕ) → IsFault c s → IsFault d s → c ≡ d
code_same NotUtf8 d s p q = absurd p
code_same BadByte NotUtf8 s p q = absurd q
code_same OpenComment NotUtf8 s p q = absurd q
code_same OpenString NotUtf8 s p q = absurd q
code_same NumberRange NotUtf8 s p q = absurd q
code_same BadByte BadByte s p q = refl
code_same BadByte OpenComment s p q = absurd (bad_or_comment s p q)
code_same BadByte OpenString s p q = absurd (bad_or_kind 3 s p (string_starts s q) (omega arith))
code_same BadByte NumberRange s p q = absurd (bad_or_kind 2 s p (large_starts s q) (omega arith))
code_same OpenComment BadByte s p q = absurd (bad_or_comment s q p)
code_same OpenComment OpenComment s p q = refl
code_same OpenComment OpenString s p q = absurd (let z : 5 ≡ 3 = kinds_apart 5 3 s (comment_starts s p) (string_starts s q) in omega arith)
code_same OpenComment NumberRange s p q = absurd (let z : 5 ≡ 2 = kinds_apart 5 2 s (comment_starts s p) (large_starts s q) in omega arith)
code_same OpenString BadByte s p q = absurd (bad_or_kind 3 s q (string_starts s p) (omega arith))
code_same OpenString OpenComment s p q = absurd (let z : 3 ≡ 5 = kinds_apart 3 5 s (string_starts s p) (comment_starts s q) in omega arith)
code_same OpenString OpenString s p q = refl
code_same OpenString NumberRange s p q = absurd (let z : 3 ≡ 2 = kinds_apart 3 2 s (string_starts s p) (large_starts s q) in omega arith)
code_same NumberRange BadByte s p q = absurd (bad_or_kind 2 s q (large_starts s p) (omega arith))
code_same NumberRange OpenComment s p q = absurd (let z : 2 ≡ 5 = kinds_apart 2 5 s (large_starts s p) (comment_starts s q) in omega arith)
code_same NumberRange OpenString s p q = absurd (let z : 2 ≡ 3 = kinds_apart 2 3 s (large_starts s p) (string_starts s q) in omega arith)
code_same NumberRange NumberRange s p q = refl

-- a piece has bytes, and so has a fault
pub piece_some : (c : Option TokenClass) (a x : List ℕ) → IsPiece c a x → 0 < length a
piece_some None a x p = let s = (other_starts a x p).starts in omega (arith, ap length s.is)
piece_some (Some d) a x p = let s = token_starts d a x p in omega (arith, ap length s.is)

pub fault_some : (code : LexCode) (s : List ℕ) → IsFault code s → 0 < length s
fault_some NotUtf8 s p = absurd p
fault_some BadByte s p = omega (arith, ap length p.is)
fault_some OpenComment s p = omega (arith, ap length p.is)
fault_some OpenString s p = omega (arith, ap length p.is)
fault_some NumberRange s p = let q = large_starts s p in omega (arith, ap length q.is)
