-- What is inside a string, byte by byte.
use Rattle.std.proofs.Common.{◌≡◌, ◌⊎◌, ℕ, Option, ◌≤◌, true, false, List, [], ◌∷◌, ◌++◌, codes, inl, inr, refl, sym, ap, ◌∙◌, subst, append_assoc, arith}
use Rattle.std.specs.Prelude.{IsTrue}
use Rattle.std.proofs.lemmas.List.{append-nil}
use Rattle.text_model.specs.ScalarTexts.{is_marked}
use Rattle.field_writes.specs.Literals.{AreDigitsOf, SaysEscaped, SaysByte, SpellsBytes}
use Rattle.field_writes.specs.Ends.{TakesFront}
use Rattle.field_writes.proofs.Answered.{takes_same}

-- A text that says a byte after a backslash, and the rest after it.
abbrev pub EscapedThen : ℕ → List ℕ → List ℕ → Type 0
EscapedThen byte rest text =
    ((text ≡ byte ∷ rest) × IsTrue (is_marked byte))
    ⊎ ((high low : ℕ) × AreDigitsOf byte high low × (text ≡ 120 ∷ high ∷ low ∷ rest))

-- A text that says a byte, and the rest after it.
abbrev pub ByteThen : ℕ → List ℕ → List ℕ → Type 0
ByteThen byte rest text =
    ((text ≡ byte ∷ rest) × (32 ≤ byte) × (is_marked byte ≡ false))
    ⊎ ((behind : List ℕ) × EscapedThen byte rest behind × (text ≡ 92 ∷ behind))

pub escaped_then : (byte : ℕ) (escaped rest text : List ℕ) → SaysEscaped byte escaped → text ≡ escaped ++ rest → EscapedThen byte rest text
escaped_then byte escaped rest text says same =
    elim says [
      | inl w ↦ inl (same ∙ ap (λ l. l ++ rest) w.0, w.1)
      | inr w ↦ inr (w.0, w.1, w.2, same ∙ ap (λ l. l ++ rest) w.3)
    ]

pub then_escaped : (byte : ℕ) (rest text : List ℕ) → EscapedThen byte rest text → (escaped : List ℕ) × SaysEscaped byte escaped × (text ≡ escaped ++ rest)
then_escaped byte rest text says =
    elim says [
      | inl w ↦ (byte ∷ [], inl (refl, w.1), w.0)
      | inr w ↦ (120 ∷ w.0 ∷ w.1 ∷ [], inr (w.0, w.1, w.2, refl), w.3)
    ]

pub byte_then : (byte : ℕ) (first rest text : List ℕ) → SaysByte byte first → text ≡ first ++ rest → ByteThen byte rest text
byte_then byte first rest text says same =
    elim says [
      | inl w ↦ inl (same ∙ ap (λ l. l ++ rest) w.0, w.1, w.2)
      | inr w ↦ inr (w.0 ++ rest, escaped_then byte w.0 rest (w.0 ++ rest) w.1 refl, same ∙ ap (λ l. l ++ rest) w.2)
    ]

pub then_byte : (byte : ℕ) (rest text : List ℕ) → ByteThen byte rest text → (first : List ℕ) × SaysByte byte first × (text ≡ first ++ rest)
then_byte byte rest text says =
    elim says [
      | inl w ↦ (byte ∷ [], inl (refl, w.1, w.2), w.0)
      | inr w ↦ (
          let e = then_escaped byte rest w.0 w.1 in
          (92 ∷ e.0, inr (e.0, e.1, refl), w.2 ∙ ap (λ (l : List ℕ). 92 ∷ l) e.2))
    ]

-- ---- a text says one byte

pub digits_one : (a b high low : ℕ) → AreDigitsOf a high low → AreDigitsOf b high low → a ≡ b
digits_one a b high low p q = p.2 ∙ sym q.2

no_mark : (byte : ℕ) → byte ≡ 120 → IsTrue (is_marked byte) → ⊥
no_mark byte e h = let computed : false ≡ true = ap is_marked (sym e) ∙ h in cc computed

no_backslash : (byte : ℕ) → byte ≡ 92 → is_marked byte ≡ false → ⊥
no_backslash byte e h = let computed : true ≡ false = ap is_marked (sym e) ∙ h in cc computed

pub no_quote : (byte : ℕ) → byte ≡ 34 → is_marked byte ≡ false → ⊥
no_quote byte e h = let computed : true ≡ false = ap is_marked (sym e) ∙ h in cc computed

pub escaped_apart : (a b : ℕ) (s r text : List ℕ) → EscapedThen a s text → EscapedThen b r text → (a ≡ b) × (s ≡ r)
escaped_apart a b s r text p q =
    elim p [
      | inl v ↦ (elim q [
        | inl w ↦ (let e : a ∷ s ≡ b ∷ r = sym v.0 ∙ w.0 in let one : a ≡ b = cc e in let other : s ≡ r = cc e in (one, other))
        | inr w ↦ (let e : a ∷ s ≡ 120 ∷ w.0 ∷ w.1 ∷ r = sym v.0 ∙ w.3 in let one : a ≡ 120 = cc e in absurd (no_mark a one v.1))
      ])
      | inr v ↦ (elim q [
        | inl w ↦ (let e : 120 ∷ v.0 ∷ v.1 ∷ s ≡ b ∷ r = sym v.3 ∙ w.0 in let one : b ≡ 120 = cc e in absurd (no_mark b one w.1))
        | inr w ↦ (
            let e : 120 ∷ v.0 ∷ v.1 ∷ s ≡ 120 ∷ w.0 ∷ w.1 ∷ r = sym v.3 ∙ w.3 in
            let high : w.0 ≡ v.0 = cc e in
            let low : w.1 ≡ v.1 = cc e in
            let other : s ≡ r = cc e in
            (digits_one a b v.0 v.1 v.2 (subst (λ l. AreDigitsOf b v.0 l) low (subst (λ h. AreDigitsOf b h w.1) high w.2)), other))
      ])
    ]

pub byte_apart : (a b : ℕ) (s r text : List ℕ) → ByteThen a s text → ByteThen b r text → (a ≡ b) × (s ≡ r)
byte_apart a b s r text p q =
    elim p [
      | inl v ↦ (elim q [
        | inl w ↦ (let e : a ∷ s ≡ b ∷ r = sym v.0 ∙ w.0 in let one : a ≡ b = cc e in let other : s ≡ r = cc e in (one, other))
        | inr w ↦ (let e : a ∷ s ≡ 92 ∷ w.0 = sym v.0 ∙ w.2 in let one : a ≡ 92 = cc e in absurd (no_backslash a one v.2))
      ])
      | inr v ↦ (elim q [
        | inl w ↦ (let e : 92 ∷ v.0 ≡ b ∷ r = sym v.2 ∙ w.0 in let one : b ≡ 92 = cc e in absurd (no_backslash b one w.2))
        | inr w ↦ (
            let e : 92 ∷ v.0 ≡ 92 ∷ w.0 = sym v.2 ∙ w.2 in
            let same : w.0 ≡ v.0 = cc e in
            escaped_apart a b s r v.0 v.1 (subst (EscapedThen b r) same w.1))
      ])
    ]

pub byte_no_quote : (byte : ℕ) (rest behind text : List ℕ) → ByteThen byte rest text → text ≡ 34 ∷ behind → ⊥
byte_no_quote byte rest behind text p e =
    elim p [
      | inl v ↦ (let two : byte ∷ rest ≡ 34 ∷ behind = sym v.0 ∙ e in let one : byte ≡ 34 = cc two in no_quote byte one v.2)
      | inr v ↦ (let two : 92 ∷ v.0 ≡ 34 ∷ behind = sym v.2 ∙ e in let one : ◌≡◌ {A = ℕ} 92 34 = cc two in absurd (omega (arith, one)))
    ]

-- ---- all bytes of a string

-- The text says these bytes, and a quotation mark and the rest follow them.
abbrev pub InsideThen : List ℕ → List ℕ → List ℕ → Type 0
InsideThen bytes rest text = (inside : List ℕ) × SpellsBytes bytes inside × (text ≡ inside ++ codes "\"" ++ rest)

-- It begins with the first byte, or with the quotation mark where there is no byte.
pub inside_none : (rest text : List ℕ) → InsideThen [] rest text → text ≡ 34 ∷ rest
inside_none rest text p = p.2 ∙ ap (λ (l : List ℕ). (l ++ 34 ∷ []) ++ rest) p.1

pub none_inside : (rest text : List ℕ) → text ≡ 34 ∷ rest → InsideThen [] rest text
none_inside rest text e = ([], refl, e)

-- How the parts of a longer string group.
grouped : (first more rest : List ℕ) → ((first ++ more) ++ 34 ∷ []) ++ rest ≡ first ++ ((more ++ 34 ∷ []) ++ rest)
grouped first more rest =
    append_assoc (first ++ more) (34 ∷ []) rest ∙ append_assoc first more (34 ∷ rest) ∙ ap (λ l. first ++ l) (sym (append_assoc more (34 ∷ []) rest))

pub inside_some : (byte : ℕ) (bytes rest text : List ℕ) → InsideThen (byte ∷ bytes) rest text
    → (behind : List ℕ) × ByteThen byte behind text × InsideThen bytes rest behind
inside_some byte bytes rest text p =
    let parts = p.1 in
    let behind : List ℕ = (parts.1 ++ 34 ∷ []) ++ rest in (
      behind,
      byte_then byte parts.0 behind text parts.2 (p.2 ∙ ap (λ (l : List ℕ). (l ++ 34 ∷ []) ++ rest) parts.4 ∙ grouped parts.0 parts.1 rest),
      (parts.1, parts.3, refl),
    )

pub some_inside : (byte : ℕ) (bytes rest text behind : List ℕ) → ByteThen byte behind text → InsideThen bytes rest behind → InsideThen (byte ∷ bytes) rest text
some_inside byte bytes rest text behind first p =
    let f = then_byte byte behind text first in (
      f.0 ++ p.0,
      (f.0, p.0, f.1, p.1, refl),
      f.2 ∙ ap (λ l. f.0 ++ l) p.2 ∙ sym (grouped f.0 p.0 rest),
    )

pub inside_apart : (as' bs s r text : List ℕ) → InsideThen as' s text → InsideThen bs r text → (as' ≡ bs) × (s ≡ r)
inside_apart [] [] s r text p q =
    let e : 34 ∷ s ≡ 34 ∷ r = sym (inside_none s text p) ∙ inside_none r text q in
    let same : s ≡ r = cc e in (refl, same)
inside_apart [] (b ∷ bs) s r text p q =
    let more = inside_some b bs r text q in
    absurd (byte_no_quote b more.0 s text more.1 (inside_none s text p))
inside_apart (a ∷ as') [] s r text p q =
    let more = inside_some a as' s text p in
    absurd (byte_no_quote a more.0 r text more.1 (inside_none r text q))
inside_apart (a ∷ as') (b ∷ bs) s r text p q =
    let one = inside_some a as' s text p in
    let two = inside_some b bs r text q in
    let first = byte_apart a b one.0 two.0 text one.1 two.1 in
    let others = inside_apart as' bs s r one.0 one.2 (subst (InsideThen bs r) (sym first.1) two.2) in
    (λ i. first.0 i ∷ others.0 i, others.1)

-- ---- a loop over the bytes of a string

-- With these bytes before it, what the rest says the whole says.
abbrev pub GivesBack : List ℕ → List ℕ → List ℕ → Type 0
GivesBack whole done left = (bytes rest : List ℕ) → InsideThen bytes rest left → InsideThen (done ++ bytes) rest whole

-- What the whole says, the rest says without these bytes before it.
abbrev pub GoesOn : List ℕ → List ℕ → List ℕ → Type 0
GoesOn whole done left =
    (bytes rest : List ℕ) → InsideThen bytes rest whole → (more : List ℕ) × (bytes ≡ done ++ more) × InsideThen more rest left

pub back_more : (whole done left behind : List ℕ) (byte : ℕ) → GivesBack whole done left → ByteThen byte behind left → GivesBack whole (done ++ byte ∷ []) behind
back_more whole done left behind byte back first bytes rest p =
    subst (λ l. InsideThen l rest whole) (sym (append_assoc done (byte ∷ []) bytes)) (back (byte ∷ bytes) rest (some_inside byte bytes rest left behind first p))

next_bytes : (done left behind : List ℕ) (byte : ℕ) → ByteThen byte behind left → (bytes rest all : List ℕ) → all ≡ done ++ bytes → InsideThen bytes rest left
    → (more : List ℕ) × (all ≡ (done ++ byte ∷ []) ++ more) × InsideThen more rest behind
next_bytes done left behind byte first [] rest all e p = absurd (byte_no_quote byte behind rest left first (inside_none rest left p))
next_bytes done left behind byte first (b ∷ bytes) rest all e p =
    let parts = inside_some b bytes rest left p in
    let same = byte_apart b byte parts.0 behind left parts.1 first in (
      bytes,
      e ∙ ap (λ (x : ℕ). done ++ x ∷ bytes) same.0 ∙ sym (append_assoc done (byte ∷ []) bytes),
      subst (InsideThen bytes rest) same.1 parts.2,
    )

pub goes_more : (whole done left behind : List ℕ) (byte : ℕ) → GoesOn whole done left → ByteThen byte behind left → GoesOn whole (done ++ byte ∷ []) behind
goes_more whole done left behind byte goes first bytes rest p =
    let q = goes bytes rest p in
    next_bytes done left behind byte first q.0 rest bytes q.1 q.2

-- Where the rest says no byte and begins with no quotation mark, the whole says nothing.
no_more : (left : List ℕ) → ((behind : List ℕ) → left ≡ 34 ∷ behind → ⊥) → ((byte : ℕ) (behind : List ℕ) → ByteThen byte behind left → ⊥)
    → (bytes rest : List ℕ) → InsideThen bytes rest left → ⊥
no_more left bare none [] rest p = bare rest (inside_none rest left p)
no_more left bare none (b ∷ bytes) rest p = let parts = inside_some b bytes rest left p in none b parts.0 parts.1

pub goes_nowhere : (whole done left : List ℕ) → GoesOn whole done left → ((behind : List ℕ) → left ≡ 34 ∷ behind → ⊥) → ((byte : ℕ) (behind : List ℕ) → ByteThen byte behind left → ⊥)
    → (bytes rest : List ℕ) → InsideThen bytes rest whole → ⊥
goes_nowhere whole done left goes bare none bytes rest p = let q = goes bytes rest p in no_more left bare none q.0 rest q.2

-- ---- what the code takes

x_digits : (byte : ℕ) (rest text tail : List ℕ) → text ≡ 120 ∷ tail → EscapedThen byte rest text → (high low : ℕ) × AreDigitsOf byte high low × (tail ≡ high ∷ low ∷ rest)
x_digits byte rest text tail e p =
    elim p [
      | inl v ↦ (let two : byte ∷ rest ≡ 120 ∷ tail = sym v.0 ∙ e in let one : byte ≡ 120 = cc two in absurd (no_mark byte one v.1))
      | inr v ↦ (let two : 120 ∷ tail ≡ 120 ∷ v.0 ∷ v.1 ∷ rest = sym e ∙ v.3 in let same : tail ≡ v.0 ∷ v.1 ∷ rest = cc two in (v.0, v.1, v.2, same))
    ]

-- After a backslash, the digits after an x.
pub escaped_digits : (text tail : List ℕ) (taken : Option (ℕ × List ℕ)) → text ≡ 120 ∷ tail
    → TakesFront (λ byte rest. (high low : ℕ) × AreDigitsOf byte high low × (tail ≡ high ∷ low ∷ rest)) taken
    → TakesFront (λ byte rest. (escaped : List ℕ) × SaysEscaped byte escaped × (text ≡ escaped ++ rest)) taken
escaped_digits text tail taken e t =
    takes_same (λ (byte : ℕ) (rest : List ℕ). (high low : ℕ) × AreDigitsOf byte high low × (tail ≡ high ∷ low ∷ rest))
    (λ (byte : ℕ) (rest : List ℕ). (escaped : List ℕ) × SaysEscaped byte escaped × (text ≡ escaped ++ rest)) taken
    (λ byte rest p. then_escaped byte rest text (inr (p.0, p.1, p.2, e ∙ ap (λ (l : List ℕ). 120 ∷ l) p.3)))
    (λ byte rest q. x_digits byte rest text tail e (escaped_then byte q.0 rest text q.1 q.2)) t

behind_it : (byte : ℕ) (rest text tail : List ℕ) → text ≡ 92 ∷ tail → ByteThen byte rest text → (escaped : List ℕ) × SaysEscaped byte escaped × (tail ≡ escaped ++ rest)
behind_it byte rest text tail e p =
    elim p [
      | inl v ↦ (let two : byte ∷ rest ≡ 92 ∷ tail = sym v.0 ∙ e in let one : byte ≡ 92 = cc two in absurd (no_backslash byte one v.2))
      | inr v ↦ (let two : 92 ∷ v.0 ≡ 92 ∷ tail = sym v.2 ∙ e in let same : v.0 ≡ tail = cc two in then_escaped byte rest tail (subst (EscapedThen byte rest) same v.1))
    ]

-- A backslash, and a byte after it.
pub byte_escaped : (text tail : List ℕ) (taken : Option (ℕ × List ℕ)) → text ≡ 92 ∷ tail
    → TakesFront (λ byte rest. (escaped : List ℕ) × SaysEscaped byte escaped × (tail ≡ escaped ++ rest)) taken
    → TakesFront (λ byte rest. (first : List ℕ) × SaysByte byte first × (text ≡ first ++ rest)) taken
byte_escaped text tail taken e t =
    takes_same (λ (byte : ℕ) (rest : List ℕ). (escaped : List ℕ) × SaysEscaped byte escaped × (tail ≡ escaped ++ rest))
    (λ (byte : ℕ) (rest : List ℕ). (first : List ℕ) × SaysByte byte first × (text ≡ first ++ rest)) taken
    (λ byte rest p. then_byte byte rest text (inr (tail, escaped_then byte p.0 rest tail p.1 p.2, e)))
    (λ byte rest q. behind_it byte rest text tail e (byte_then byte q.0 rest text q.1 q.2)) t

-- All bytes of a string, where a quotation mark follows them.
pub back_all : (whole done left rest : List ℕ) → GivesBack whole done left → left ≡ 34 ∷ rest → InsideThen done rest whole
back_all whole done left rest back e = subst (λ l. InsideThen l rest whole) (append-nil done) (back [] rest (none_inside rest left e))
