-- Bytes written after others, or before them, and which atoms have a frame in the form that is
-- written.
use Rattle.std.proofs.Common.{◌≡◌, ℕ, ◌+◌, ◌-◌, ◌<◌, ◌≤◌, inl, inr, Bool, true, false, ◌||◌, List, [], ◌∷◌, ◌++◌, length, length-append, length-drop, append_assoc, take, drop, nat_lt, if◌then◌else◌, refl, sym, ◌∙◌, ap, subst, arith}
use Rattle.std.proofs.lemmas.Bool.{cases_lt}
use Rattle.std.proofs.lemmas.Bool.Decides.{nat_tests}
use Rattle.std.proofs.lemmas.List.{take_at, drop_at, take_rest, drop_all, drop-drop, append-nil, length-take-le}
use borrow.Rule.Slice.PartMut.{put_mid}
use Rattle.context_model.specs.declared.Form.{Form}
use Rattle.context_model.specs.declared.Form.TheVariants.{One, Two}
use Rattle.context_model.specs.declared.TheConstants.{ATOM_MAX, LENGTH_MAX}
use Rattle.context_model.specs.Atoms.{Atom}
use Rattle.context_model.specs.Framing.{frame, frames, has_long, most, written_in}
use Rattle.context_model.proofs.FramingLaws.{frames-append, frames_len-append, long-append}
use Rattle.byte_forward.specs.Room.{HoldsBytes}

-- ---- rooms

-- A buffer keeps its length.
pub holds_len : (bytes old new : List ℕ) (size : ℕ) → HoldsBytes bytes size old new → length new ≡ length old
holds_len bytes old new size holds =
    let l = ap length holds.2 in
    let k = length-append bytes (drop size old) in
    let m = length-drop size old in
    omega (arith, holds.0, holds.1)

-- What follows those bytes is what was there.
rest_is : (front old room : List ℕ) (at : ℕ) → HoldsBytes front at old room → take (length room - at) (drop at room) ≡ drop at old
rest_is front old room at holds = take_rest room at ∙ ap (drop at) holds.2 ∙ drop_at front (drop at old) at (sym holds.0)

-- More bytes are written after those.
pub put_behind : (front more old room new : List ℕ) (at count : ℕ) → HoldsBytes front at old room → HoldsBytes more count (take (length room - at) (drop at room)) new
    → HoldsBytes (front ++ more) (at + count) old (put_mid at (length room - at) room new)
put_behind front more old room new at count holds put =
    let part = rest_is front old room at holds in
    let written : new ≡ more ++ drop (at + count) old = put.2 ∙ ap (λ rest. more ++ drop count rest) part ∙ ap (λ rest. more ++ rest) (drop-drop count at old) in
    let kept : take at room ≡ front = ap (take at) holds.2 ∙ take_at front (drop at old) at (sym holds.0) in
    let long = holds_len front old room at holds in
    let none : drop (length room - at) (drop at room) ≡ [] = drop_all (length room - at) (drop at room) (let l = length-drop at room in omega arith) in
    let place = ap length part in
    let left = length-drop at old in (
      omega (arith, holds.0, put.0, length-append front more),
      omega (arith, holds.1, put.1),
      (λ i. kept i ++ (written i ++ none i)) ∙ ap (λ rest. front ++ rest) (append-nil (more ++ drop (at + count) old)) ∙ sym (append_assoc front more (drop (at + count) old)),
    )

-- Bytes are written before those that come after their place.
pub put_before : (front more old new room : List ℕ) (at count : ℕ) → at ≤ length old → HoldsBytes more count (take (length old - at) (drop at old)) new
    → HoldsBytes front at (put_mid at (length old - at) old new) room → HoldsBytes (front ++ more) (at + count) old room
put_before front more old new room at count within put holds =
    let part : take (length old - at) (drop at old) ≡ drop at old = take_rest old at in
    let written : new ≡ more ++ drop (at + count) old = put.2 ∙ ap (λ rest. more ++ drop count rest) part ∙ ap (λ rest. more ++ rest) (drop-drop count at old) in
    let none : drop (length old - at) (drop at old) ≡ [] = drop_all (length old - at) (drop at old) (let l = length-drop at old in omega arith) in
    let behind : drop at (put_mid at (length old - at) old new) ≡ more ++ drop (at + count) old =
    drop_at (take at old) (new ++ drop (length old - at) (drop at old)) at (length-take-le at old within) ∙ (λ i. written i ++ none i) ∙ append-nil (more ++ drop (at + count) old) in
    let place = ap length part in
    let left = length-drop at old in (
      omega (arith, holds.0, put.0, length-append front more),
      omega (arith, put.1),
      holds.2 ∙ ap (λ rest. front ++ rest) behind ∙ sym (append_assoc front more (drop (at + count) old)),
    )

-- ---- frames

pub frames-push : (width : Form) (front : List Atom) (atom : Atom) → frames width (front ++ atom ∷ []) ≡ frames width front ++ frame width atom
frames-push width front atom = frames-append width front (atom ∷ []) ∙ ap (λ bytes. frames width front ++ bytes) (append-nil (frame width atom))

-- There is place for the next frame.
pub next_fits : (width : Form) (past : List Atom) (atom : Atom) (rest : List Atom) (old room : List ℕ) (at : ℕ) → HoldsBytes (frames width past) at old room
    → length (frames width (past ++ atom ∷ rest)) ≤ length old → length (frame width atom) ≤ length (take (length room - at) (drop at room))
next_fits width past atom rest old room at holds fits =
    let all = frames_len-append width past (atom ∷ rest) in
    let next = length-append (frame width atom) (frames width rest) in
    let place = ap length (rest_is (frames width past) old room at holds) in
    let left = length-drop at old in
    omega (arith, holds.0)

-- An atom of a list has a frame in the form that the list is written in.
pub has_frame : (form width written : Form) (past : List Atom) (atom : Atom) (rest : List Atom) → written ≡ written_in form (past ++ atom ∷ rest) → length atom ≤ most width → length atom ≤ most written
has_frame form One Two past atom rest is short = omega arith
has_frame form Two Two past atom rest is short = short
has_frame form width One past atom rest is short = elim (cases_lt LENGTH_MAX (length atom)) [
  | inl long ↦ (
      let own : nat_lt LENGTH_MAX (length atom) ≡ true = grind (arith, nat_tests, long) in
      let some : has_long (past ++ atom ∷ rest) ≡ true = long-append past (atom ∷ rest) ∙ ap (λ b. has_long past || (b || has_long rest)) own ∙ or-true (has_long past) in
      absurd (wide form some is)
      )
  | inr few ↦ few
]
  where
    or-true : (b : Bool) → (b || true) ≡ true
    or-true true = refl
    or-true false = refl

    wide : (form : Form) → has_long (past ++ atom ∷ rest) ≡ true → One ≡ written_in form (past ++ atom ∷ rest) → ⊥
    wide One some is = let two : written_in One (past ++ atom ∷ rest) ≡ Two = ap (λ b. if b then Two else One) some in absurd (cc (is, two))
    wide Two some is = absurd (cc is)
