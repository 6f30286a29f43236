-- What begins with a field, piece by piece.
use Rattle.std.proofs.Common.{◌≡◌, ℕ, zero, suc, ◌+◌, ◌<◌, Bool, true, false, List, [], ◌∷◌, ◌++◌, length, get_or, All, sym, refl, ap, ◌∙◌, subst, lit<, arith, inl, inr, ◌⊎◌}
use Rattle.std.proofs.lemmas.List.Elements.{All-head, All-tail, All-get_or}
use Rattle.std.proofs.lemmas.Str.{IsUtf8-append, IsUtf8-from_ascii, IsUtf8-drop, IsUtf8-take, IsCharBoundary-after_ascii, IsCharBoundary-at_seam}
use Rattle.std.proofs.lemmas.List.{length-append, append_assoc}
use Rattle.std.proofs.Math.Seq.{drop-append-add, take-append_seam, get_or-append_seam}
use Rattle.std.specs.Str.{IsAscii, IsUtf8}
use Rattle.bag_model.specs.Scalars.{terminated}
use Rattle.scalar_types.specs.Codec.{AlwaysFits}
use Rattle.scalar_types.specs.Fronts.{Begins, BeginsWithSome}
use Rattle.scalar_types.specs.Escapes.{IsNonzero, IsEscapedRun, FitsOpen}

-- what a field with something after it is, up to its first zero byte
pub ended-last : (run t : List ℕ) → All IsNonzero run → terminated run ++ t ≡ run ++ 0 ∷ 1 ∷ t
ended-last [] t h = refl
ended-last (zero ∷ run) t h = absurd (All-head IsNonzero zero run h refl)
ended-last (suc b ∷ run) t h = ap (λ l. suc b ∷ l) (ended-last run t (All-tail IsNonzero (suc b) run h))

pub ended-more : (run v t : List ℕ) → All IsNonzero run → terminated (run ++ 0 ∷ v) ++ t ≡ run ++ 0 ∷ 255 ∷ (terminated v ++ t)
ended-more [] v t h = refl
ended-more (zero ∷ run) v t h = absurd (All-head IsNonzero zero run h refl)
ended-more (suc b ∷ run) v t h = ap (λ l. suc b ∷ l) (ended-more run v t (All-tail IsNonzero (suc b) run h))

-- a field has a zero byte
pub record HasZero (bytes : List ℕ) : Type 0 where
  pub place : ℕ
  pub within : place < length bytes
  pub is_zero : get_or bytes place 0 ≡ 0

pub ended_has_zero : (v t : List ℕ) → HasZero (terminated v ++ t)
ended_has_zero [] t = record { place = 0; within = omega arith; is_zero = refl }
ended_has_zero (zero ∷ v) t = record { place = 0; within = omega arith; is_zero = refl }
ended_has_zero (suc b ∷ v) t =
    let below : HasZero (terminated v ++ t) = ended_has_zero v t in
    record { place = suc below.place; within = omega arith; is_zero = below.is_zero }

-- a field that begins with bytes other than zero and then a zero ends there, or has it as a byte of its own
pub record EndsThere (run tail v t : List ℕ) : Type 0 where
  pub whole : v ≡ run
  pub end : tail ≡ 1 ∷ t

pub record GoesOn (run tail v t : List ℕ) : Type 0 where
  pub more : List ℕ
  pub parts : v ≡ run ++ 0 ∷ more
  pub next : tail ≡ 255 ∷ (terminated more ++ t)

pub zero_cases : (run tail v t : List ℕ) → All IsNonzero run → terminated v ++ t ≡ run ++ 0 ∷ tail → EndsThere run tail v t ⊎ GoesOn run tail v t
zero_cases [] tail [] t h e = inl record { whole = refl; end = cc }
zero_cases [] tail (zero ∷ v) t h e = inr record { more = v; parts = refl; next = cc }
zero_cases [] tail (suc b ∷ v) t h e = cc
zero_cases (r ∷ run) tail [] t h e = absurd (All-head IsNonzero r run h (cc))
zero_cases (r ∷ run) tail (zero ∷ v) t h e = absurd (All-head IsNonzero r run h (cc))
zero_cases (r ∷ run) tail (suc b ∷ v) t h e =
    let first : suc b ≡ r = cc in
    let others : terminated v ++ t ≡ run ++ 0 ∷ tail = cc in
    elim (zero_cases run tail v t (All-tail IsNonzero r run h) others) [
      | inl d ↦ inl record { whole = λ i. first i ∷ d.whole i; end = d.end }
      | inr d ↦ inr record { more = d.more; parts = λ i. first i ∷ d.parts i; next = d.next }
    ]

-- ---- bytes that no field begins

pub no_zero : (bytes : List ℕ) → All IsNonzero bytes → BeginsWithSome AlwaysFits terminated bytes → ⊥
no_zero bytes all b =
    let found : HasZero bytes = subst HasZero b.1.1.same (ended_has_zero b.0 b.1.0) in
    All-get_or IsNonzero bytes found.place 0 found.within all found.is_zero

pub neither_byte : (bytes run tail : List ℕ) → All IsNonzero run → bytes ≡ run ++ 0 ∷ tail
    → ((t : List ℕ) → tail ≡ 1 ∷ t → ⊥) → ((t : List ℕ) → tail ≡ 255 ∷ t → ⊥) → BeginsWithSome AlwaysFits terminated bytes → ⊥
neither_byte bytes run tail all e no_end no_more b = elim (zero_cases run tail b.0 b.1.0 all (b.1.1.same ∙ e)) [
  | inl d ↦ no_end b.1.0 d.end
  | inr d ↦ no_more (terminated d.more ++ b.1.0) d.next
]

-- ---- a field through a piece

pub last_begins : (bytes run rest : List ℕ) → IsEscapedRun bytes run true rest → terminated run ++ rest ≡ bytes
last_begins bytes run rest p = ended-last run rest p.nonzero ∙ sym p.same

pub more_begins : (bytes run rest v t : List ℕ) → IsEscapedRun bytes run false rest → terminated v ++ t ≡ rest → terminated (run ++ 0 ∷ v) ++ t ≡ bytes
more_begins bytes run rest v t p e = ended-more run v t p.nonzero ∙ ap (λ l. run ++ 0 ∷ 255 ∷ l) e ∙ sym p.same

-- where a field goes on, what follows begins with the field of its other bytes
pub more_follows : (bytes run rest v t : List ℕ) → IsEscapedRun bytes run false rest → terminated v ++ t ≡ bytes
    → (w : List ℕ) × (v ≡ run ++ 0 ∷ w) × (terminated w ++ t ≡ rest)
more_follows bytes run rest v t p e = elim (zero_cases run (255 ∷ rest) v t p.nonzero (e ∙ p.same)) [
  | inl d ↦ absurd (other d.end)
  | inr d ↦ (d.more, d.parts, sym (tails d.next))
]
  where
    other : 255 ∷ rest ≡ 1 ∷ t → ⊥
    other same = let heads : ◌≡◌ {A = ℕ} 255 1 = cc in absurd (omega arith)

    tails : {x : List ℕ} → 255 ∷ rest ≡ 255 ∷ x → rest ≡ x
    tails same = cc

-- where a field ends, its bytes are those before the zero
pub last_follows : (bytes run rest v t : List ℕ) → IsEscapedRun bytes run true rest → terminated v ++ t ≡ bytes → v ≡ run
last_follows bytes run rest v t p e = elim (zero_cases run (1 ∷ rest) v t p.nonzero (e ∙ p.same)) [
  | inl d ↦ d.whole
  | inr d ↦ absurd (other d.next)
]
  where
    other : {x : List ℕ} → 1 ∷ rest ≡ 255 ∷ x → ⊥
    other same = let heads : ◌≡◌ {A = ℕ} 1 255 = cc in absurd (omega arith)

-- ---- the same for texts, whose pieces are valid alone

zero_ascii : IsAscii (0 ∷ [])
zero_ascii zero = lit< tt
zero_ascii (suc i) = lit< tt

zero_text : IsUtf8 (0 ∷ [])
zero_text = IsUtf8-from_ascii (0 ∷ []) zero_ascii

text_behind : (run v : List ℕ) → IsUtf8 (run ++ 0 ∷ v) → IsUtf8 v
text_behind run v p =
    let bytes : List ℕ = run ++ 0 ∷ v in
    let zero_there : get_or bytes (length run) 0 ≡ 0 = get_or-append_seam run 0 v 0 in
    let within : length run < length bytes = omega (arith, length-append run (0 ∷ v)) in
    subst IsUtf8 (drop-append-add run (0 ∷ v) 1)
    (IsUtf8-drop bytes (length run + 1) p (IsCharBoundary-after_ascii bytes (length run) p within (omega arith)))

text_before : (run v : List ℕ) → IsUtf8 (run ++ 0 ∷ v) → IsUtf8 run
text_before run v p =
    subst IsUtf8 (take-append_seam run (0 ∷ v))
    (IsUtf8-take (run ++ 0 ∷ v) (length run) p
    (IsCharBoundary-at_seam (run ++ 0 ∷ v) run (0 ∷ v) refl (IsUtf8-append (0 ∷ []) v zero_text (text_behind run v p))))

pub FitsOpen-append : (is_text : Bool) (run v : List ℕ) → FitsOpen is_text run → FitsOpen is_text v → FitsOpen is_text (run ++ 0 ∷ v)
FitsOpen-append true run v p q = IsUtf8-append run (0 ∷ v) p (IsUtf8-append (0 ∷ []) v zero_text q)
FitsOpen-append false run v p q = tt

pub FitsOpen-behind : (is_text : Bool) (run v : List ℕ) → FitsOpen is_text (run ++ 0 ∷ v) → FitsOpen is_text v
FitsOpen-behind true run v p = text_behind run v p
FitsOpen-behind false run v p = tt

pub FitsOpen-before : (is_text : Bool) (run v : List ℕ) → FitsOpen is_text (run ++ 0 ∷ v) → FitsOpen is_text run
FitsOpen-before true run v p = text_before run v p
FitsOpen-before false run v p = tt

-- ---- one step of a walk over the pieces of a field

-- the bytes of a field so far are followed by those of the rest
abbrev pub IsFollowed : List ℕ → List ℕ → List ℕ → Type 0
IsFollowed bytes field rest = (v t : List ℕ) → terminated v ++ t ≡ rest → terminated (field ++ v) ++ t ≡ bytes

pub followed_more : (bytes field rest run after : List ℕ) → IsFollowed bytes field rest → IsEscapedRun rest run false after
    → IsFollowed bytes ((field ++ run) ++ 0 ∷ []) after
followed_more bytes field rest run after back p v t e =
    ap (λ l. terminated l ++ t) (append_assoc (field ++ run) (0 ∷ []) v ∙ append_assoc field run (0 ∷ v)) ∙ back (run ++ 0 ∷ v) t (more_begins rest run after v t p e)

-- some field begins the rest too
pub follows_more : (rest run after : List ℕ) → IsEscapedRun rest run false after → BeginsWithSome AlwaysFits terminated rest → BeginsWithSome AlwaysFits terminated after
follows_more rest run after p b =
    let next = more_follows rest run after b.0 b.1.0 p b.1.1.same in
    (next.0, (b.1.0, record { fit = tt; same = next.2 }))

pub open_more : (is_text : Bool) (rest run after : List ℕ) → IsEscapedRun rest run false after → FitsOpen is_text run
    → (v t : List ℕ) → Begins (FitsOpen is_text) terminated after v t → Begins (FitsOpen is_text) terminated rest (run ++ 0 ∷ v) t
open_more is_text rest run after p q v t b = record { fit = FitsOpen-append is_text run v q b.fit; same = more_begins rest run after v t p b.same }

pub open_follows : (is_text : Bool) (rest run after : List ℕ) → IsEscapedRun rest run false after
    → BeginsWithSome (FitsOpen is_text) terminated rest → BeginsWithSome (FitsOpen is_text) terminated after
open_follows is_text rest run after p b =
    let next = more_follows rest run after b.0 b.1.0 p b.1.1.same in
    (next.0, (b.1.0, record { fit = FitsOpen-behind is_text run next.0 (subst (FitsOpen is_text) next.1 b.1.1.fit); same = next.2 }))

-- a field that begins with a piece has a valid piece
pub open_piece : (is_text last : Bool) (rest run after : List ℕ) → IsEscapedRun rest run last after → BeginsWithSome (FitsOpen is_text) terminated rest → FitsOpen is_text run
open_piece is_text true rest run after p b = subst (FitsOpen is_text) (last_follows rest run after b.0 b.1.0 p b.1.1.same) b.1.1.fit
open_piece is_text false rest run after p b =
    let next = more_follows rest run after b.0 b.1.0 p b.1.1.same in
    FitsOpen-before is_text run next.0 (subst (FitsOpen is_text) next.1 b.1.1.fit)

-- ---- lists

pub no_cons : (bytes : List ℕ) (b : ℕ) (t : List ℕ) → length bytes ≡ 0 → bytes ≡ b ∷ t → ⊥
no_cons bytes b t empty e = let same : length bytes ≡ length (b ∷ t) = ap length e in omega arith

pub heads : (a b : ℕ) (s t : List ℕ) → a ∷ s ≡ b ∷ t → a ≡ b
heads a b s t e = cc
