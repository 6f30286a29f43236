-- Laws of texts that are read line by line.
use Rattle.std.proofs.Common.{◌≡◌, inl, inr, ℕ, ◌+◌, ◌≤◌, List, [], ◌∷◌, ◌++◌, length, refl, sym, ◌∙◌, ap, subst, length-append, append_assoc, arith}
use Rattle.std.proofs.lemmas.List.{append-nil}
use Rattle.text_lines.specs.Lines.{Line}
use Rattle.text_lines.specs.Readings.{Reading, IsDefinite, AllSay, IsFirstBad, IsFirstOf, NoneOf, at_most}

-- ---- the first condition that holds

-- Conditions have one first.
pub first_of_one : {C : Type 0} (holds : C → Type 0) (codes : List C) (c d : C) → IsFirstOf holds codes c → IsFirstOf holds codes d → c ≡ d
first_of_one holds [] c d f g = absurd f
first_of_one holds (code ∷ codes) c d (inl f) (inl g) = f.0 ∙ sym g.0
first_of_one holds (code ∷ codes) c d (inl f) (inr g) = absurd (g.0 f.1)
first_of_one holds (code ∷ codes) c d (inr f) (inl g) = absurd (f.0 g.1)
first_of_one holds (code ∷ codes) c d (inr f) (inr g) = first_of_one holds codes c d f.1 g.1

-- There is no first where none holds.
pub first_of_none : {C : Type 0} (holds : C → Type 0) (codes : List C) (c : C) → NoneOf holds codes → IsFirstOf holds codes c → ⊥
first_of_none holds [] c none f = f
first_of_none holds (code ∷ codes) c none (inl f) = none.0 f.1
first_of_none holds (code ∷ codes) c none (inr f) = first_of_none holds codes c none.1 f.1

-- ---- all lines

-- Lines say as many things as they are.
pub all_say-length : {A F : Type 0} (reading : Reading A F) (earlier : List A) (lines : List Line) (said : List A) → AllSay reading earlier lines said → length lines ≡ length said
all_say-length reading earlier [] [] all = refl
all_say-length reading earlier [] (a ∷ said) all = absurd all
all_say-length reading earlier (line ∷ lines) [] all = absurd all
all_say-length reading earlier (line ∷ lines) (a ∷ said) all = let more = all_say-length reading (earlier ++ a ∷ []) lines said all.1 in omega arith

-- One line more says one thing more.
say_more : {A F : Type 0} (reading : Reading A F) (earlier : List A) (lines : List Line) (said : List A) (line : Line) (a : A)
    → AllSay reading earlier lines said → reading.says (earlier ++ said) line.1 a → AllSay reading earlier (lines ++ line ∷ []) (said ++ a ∷ [])
say_more reading earlier [] [] line a all says = (subst (λ before. reading.says before line.1 a) (append-nil earlier) says, tt)
say_more reading earlier [] (b ∷ said) line a all says = absurd all
say_more reading earlier (l ∷ lines) [] line a all says = absurd all
say_more reading earlier (l ∷ lines) (b ∷ said) line a all says =
    (all.0, say_more reading (earlier ++ b ∷ []) lines said line a all.1 (subst (λ before. reading.says before line.1 a) (sym (append_assoc earlier (b ∷ []) said)) says))

pub all_say_more : {A F : Type 0} (reading : Reading A F) (lines : List Line) (said : List A) (line : Line) (a : A)
    → AllSay reading [] lines said → reading.says said line.1 a → AllSay reading [] (lines ++ line ∷ []) (said ++ a ∷ [])
all_say_more reading lines said line a all says = say_more reading [] lines said line a all says

-- Lines say one list of things.
say_one : {A F : Type 0} (reading : Reading A F) → IsDefinite reading → (earlier : List A) (lines : List Line) (said others : List A)
    → AllSay reading earlier lines said → AllSay reading earlier lines others → said ≡ others
say_one reading definite earlier [] [] [] f g = refl
say_one reading definite earlier [] [] (b ∷ others) f g = absurd g
say_one reading definite earlier [] (a ∷ said) others f g = absurd f
say_one reading definite earlier (line ∷ lines) [] others f g = absurd f
say_one reading definite earlier (line ∷ lines) (a ∷ said) [] f g = absurd g
say_one reading definite earlier (line ∷ lines) (a ∷ said) (b ∷ others) f g =
    let first : a ≡ b = definite.one_said earlier line.1 a b f.0 g.0 in
    let rest = say_one reading definite (earlier ++ a ∷ []) lines said others f.1 (subst (λ x. AllSay reading (earlier ++ x ∷ []) lines others) (sym first) g.1) in
    cc (first, rest)

pub all_say_one : {A F : Type 0} (reading : Reading A F) → IsDefinite reading → (lines : List Line) (said others : List A)
    → AllSay reading [] lines said → AllSay reading [] lines others → said ≡ others
all_say_one reading definite lines said others f g = say_one reading definite [] lines said others f g

-- ---- the first bad line

one_bad : {A F : Type 0} (reading : Reading A F) → IsDefinite reading → (earlier : List A) (before other : List Line) (line stop : Line) (after more : List Line) (said others : List A) (f g : F)
    → before ++ line ∷ after ≡ other ++ stop ∷ more → AllSay reading earlier before said → AllSay reading earlier other others
    → reading.faults (earlier ++ said) line.1 f → reading.faults (earlier ++ others) stop.1 g → (line.0 ≡ stop.0) × (f ≡ g)
one_bad reading definite earlier [] [] line stop after more [] [] f g e p q x y =
    let same : line ≡ stop = cc e in
    (ap (λ l. l.0) same, definite.one_fault (earlier ++ []) line.1 f g x (subst (λ l. reading.faults (earlier ++ []) l.1 g) (sym same) y))
one_bad reading definite earlier [] [] line stop after more (a ∷ said) others f g e p q x y = absurd p
one_bad reading definite earlier [] [] line stop after more [] (b ∷ others) f g e p q x y = absurd q
one_bad reading definite earlier [] (l ∷ other) line stop after more (a ∷ said) others f g e p q x y = absurd p
one_bad reading definite earlier [] (l ∷ other) line stop after more [] [] f g e p q x y = absurd q
one_bad reading definite earlier [] (l ∷ other) line stop after more [] (b ∷ others) f g e p q x y =
    let same : line ≡ l = cc e in
    absurd (definite.not_both earlier line.1 b f (subst (λ k. reading.says earlier k.1 b) (sym same) q.0) (subst (λ before. reading.faults before line.1 f) (append-nil earlier) x))
one_bad reading definite earlier (k ∷ before) [] line stop after more [] others f g e p q x y = absurd p
one_bad reading definite earlier (k ∷ before) [] line stop after more (a ∷ said) (b ∷ others) f g e p q x y = absurd q
one_bad reading definite earlier (k ∷ before) [] line stop after more (a ∷ said) [] f g e p q x y =
    let same : k ≡ stop = cc e in
    absurd (definite.not_both earlier stop.1 a g (subst (λ l. reading.says earlier l.1 a) same p.0) (subst (λ before. reading.faults before stop.1 g) (append-nil earlier) y))
one_bad reading definite earlier (k ∷ before) (l ∷ other) line stop after more [] others f g e p q x y = absurd p
one_bad reading definite earlier (k ∷ before) (l ∷ other) line stop after more (a ∷ said) [] f g e p q x y = absurd q
one_bad reading definite earlier (k ∷ before) (l ∷ other) line stop after more (a ∷ said) (b ∷ others) f g e p q x y =
    let same : k ≡ l = cc e in
    let rest : before ++ line ∷ after ≡ other ++ stop ∷ more = cc e in
    let first : a ≡ b = definite.one_said earlier k.1 a b p.0 (subst (λ m. reading.says earlier m.1 b) (sym same) q.0) in
    one_bad reading definite (earlier ++ a ∷ []) before other line stop after more said others f g rest p.1
    (subst (λ c. AllSay reading (earlier ++ c ∷ []) other others) (sym first) q.1)
    (subst (λ behind. reading.faults behind line.1 f) (sym (append_assoc earlier (a ∷ []) said)) x)
    (subst (λ behind. reading.faults behind stop.1 g) (ap (λ c. earlier ++ c ∷ others) (sym first) ∙ sym (append_assoc earlier (a ∷ []) others)) y)

-- Lines have one first bad line, with one fault.
pub first_bad_one : {A F : Type 0} (reading : Reading A F) → IsDefinite reading → (lines : List Line) (m n : ℕ) (f g : F)
    → IsFirstBad reading lines m f → IsFirstBad reading lines n g → (m ≡ n) × (f ≡ g)
first_bad_one reading definite lines m n f g x y =
    let same = one_bad reading definite [] x.before y.before x.line y.line x.after y.after x.said y.said f g (sym x.split ∙ y.split) x.good y.good x.bad y.bad in
    (x.number_is ∙ same.0 ∙ sym y.number_is, same.1)

says_at : {A F : Type 0} (reading : Reading A F) → IsDefinite reading → (earlier : List A) (before : List Line) (line : Line) (after : List Line) (good said : List A)
    → AllSay reading earlier before good → AllSay reading earlier (before ++ line ∷ after) said → (a : A) × reading.says (earlier ++ good) line.1 a
says_at reading definite earlier [] line after [] [] p q = absurd q
says_at reading definite earlier [] line after [] (b ∷ said) p q = (b, subst (λ behind. reading.says behind line.1 b) (sym (append-nil earlier)) q.0)
says_at reading definite earlier [] line after (a ∷ good) said p q = absurd p
says_at reading definite earlier (k ∷ before) line after [] said p q = absurd p
says_at reading definite earlier (k ∷ before) line after (a ∷ good) [] p q = absurd q
says_at reading definite earlier (k ∷ before) line after (a ∷ good) (b ∷ said) p q =
    let first : a ≡ b = definite.one_said earlier k.1 a b p.0 q.0 in
    let rest = says_at reading definite (earlier ++ a ∷ []) before line after good said p.1 (subst (λ c. AllSay reading (earlier ++ c ∷ []) (before ++ line ∷ after) said) (sym first) q.1) in
    (rest.0, subst (λ behind. reading.says behind line.1 rest.0) (append_assoc earlier (a ∷ []) good) rest.1)

-- Lines that all say something have no bad one.
pub good_not_bad : {A F : Type 0} (reading : Reading A F) → IsDefinite reading → (lines : List Line) (said : List A) (number : ℕ) (fault : F)
    → AllSay reading [] lines said → IsFirstBad reading lines number fault → ⊥
good_not_bad reading definite lines said number fault all bad =
    let at_line = says_at reading definite [] bad.before bad.line bad.after bad.said said bad.good (subst (λ ls. AllSay reading [] ls said) bad.split all) in
    definite.not_both bad.said bad.line.1 at_line.0 fault at_line.1 bad.bad

-- No lines, none bad.
pub none_bad : {A F : Type 0} (reading : Reading A F) (number : ℕ) (fault : F) → IsFirstBad reading [] number fault → ⊥
none_bad reading number fault bad = splits bad.before bad.line bad.after bad.split
  where
    splits : (before : List Line) (line : Line) (after : List Line) → [] ≡ before ++ line ∷ after → ⊥
    splits [] line after e = cc e
    splits (k ∷ before) line after e = cc e

-- After lines that say something, a line with a fault is the first bad one.
pub next_bad : {A F : Type 0} (reading : Reading A F) (lines before : List Line) (line : Line) (after rest : List Line) (said : List A) (fault : F)
    → lines ≡ before ++ rest → rest ≡ line ∷ after → AllSay reading [] before said → reading.faults said line.1 fault → IsFirstBad reading lines line.0 fault
next_bad reading lines before line after rest said fault split next good bad = record {
  before = before;
  line = line;
  after = after;
  said = said;
  split = split ∙ ap (λ ls. before ++ ls) next;
  good = good;
  bad = bad;
  number_is = refl;
}

-- ---- at most a given number of lines

pub at_most_definite : {A F : Type 0} (most : ℕ) (extra : F) (reading : Reading A F) → IsDefinite reading → IsDefinite (at_most most extra reading)
at_most_definite most extra reading definite = record {
  one_said = λ earlier text a b f g. definite.one_said earlier text a b f.1 g.1;
  one_fault = λ earlier text f g x y. elim x [
    | inl p ↦ elim y [
      | inl q ↦ definite.one_fault earlier text f g p.1 q.1
      | inr q ↦ absurd (let few = p.0 in let many = q.0 in omega arith)
    ]
    | inr p ↦ elim y [
      | inl q ↦ absurd (let many = p.0 in let few = q.0 in omega arith)
      | inr q ↦ p.1 ∙ sym q.1
    ]
  ];
  not_both = λ earlier text said fault f g. elim g [
    | inl p ↦ definite.not_both earlier text said fault f.1 p.1
    | inr p ↦ absurd (let few = f.0 in let many = p.0 in omega arith)
  ];
}

-- Where at most `most` lines are read, no more than `most` things are said.
few_say : {A F : Type 0} (most : ℕ) (extra : F) (reading : Reading A F) (earlier : List A) (lines : List Line) (said : List A)
    → AllSay (at_most most extra reading) earlier lines said → length earlier ≤ most → length earlier + length said ≤ most
few_say most extra reading earlier [] [] all few = omega arith
few_say most extra reading earlier [] (a ∷ said) all few = absurd all
few_say most extra reading earlier (line ∷ lines) [] all few = absurd all
few_say most extra reading earlier (line ∷ lines) (a ∷ said) all few =
    let less = all.0.0 in
    let parts = length-append earlier (a ∷ []) in
    let more = few_say most extra reading (earlier ++ a ∷ []) lines said all.1 (omega arith) in
    omega arith

pub at_most-few : {A F : Type 0} (most : ℕ) (extra : F) (reading : Reading A F) (lines : List Line) (said : List A)
    → AllSay (at_most most extra reading) [] lines said → length said ≤ most
at_most-few most extra reading lines said all = let few = few_say most extra reading [] lines said all (omega arith) in omega arith

-- What lines say where at most `most` are read, they say where any number is.
pub at_most-all_say : {A F : Type 0} (most : ℕ) (extra : F) (reading : Reading A F) (earlier : List A) (lines : List Line) (said : List A)
    → AllSay (at_most most extra reading) earlier lines said → AllSay reading earlier lines said
at_most-all_say most extra reading earlier [] [] all = tt
at_most-all_say most extra reading earlier [] (a ∷ said) all = absurd all
at_most-all_say most extra reading earlier (line ∷ lines) [] all = absurd all
at_most-all_say most extra reading earlier (line ∷ lines) (a ∷ said) all = (all.0.1, at_most-all_say most extra reading (earlier ++ a ∷ []) lines said all.1)
