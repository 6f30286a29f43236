-- Bytes written after others into a buffer.
use Rattle.std.proofs.Common.{◌≡◌, ℕ, ◌+◌, ◌-◌, List, [], ◌++◌, length, length-append, length-drop, append_assoc, take, drop, sym, ◌∙◌, ap, arith}
use Rattle.std.proofs.lemmas.List.{take_at, drop_at, take_rest, drop_all, drop-drop, append-nil}
use borrow.Rule.Slice.PartMut.{put_mid}
use Rattle.byte_forward.specs.Room.{HoldsBytes}

-- A buffer keeps its length.
pub holds_len : (bytes old new : List ℕ) (size : ℕ) → HoldsBytes bytes size old new → length new ≡ length old
holds_len bytes old new size holds =
    let l = ap length holds.2 in
    let k = length-append bytes (drop size old) in
    let m = length-drop size old in
    omega (arith, holds.0, holds.1)

-- What follows those bytes is what was there.
pub rest_is : (front old room : List ℕ) (at : ℕ) → HoldsBytes front at old room → take (length room - at) (drop at room) ≡ drop at old
rest_is front old room at holds = take_rest room at ∙ ap (drop at) holds.2 ∙ drop_at front (drop at old) at (sym holds.0)

-- How much place is left after them.
pub place_left : (front old room : List ℕ) (at : ℕ) → HoldsBytes front at old room → length (take (length room - at) (drop at room)) ≡ length old - length front
place_left front old room at holds = ap length (rest_is front old room at holds) ∙ length-drop at old ∙ ap (λ size. length old - size) holds.0

-- More bytes are written after those.
pub put_behind : (front more old room new : List ℕ) (at count : ℕ) → HoldsBytes front at old room → HoldsBytes more count (take (length room - at) (drop at room)) new
    → HoldsBytes (front ++ more) (at + count) old (put_mid at (length room - at) room new)
put_behind front more old room new at count holds put =
    let part = rest_is front old room at holds in
    let written : new ≡ more ++ drop (at + count) old = put.2 ∙ ap (λ rest. more ++ drop count rest) part ∙ ap (λ rest. more ++ rest) (drop-drop count at old) in
    let kept : take at room ≡ front = ap (take at) holds.2 ∙ take_at front (drop at old) at (sym holds.0) in
    let long = holds_len front old room at holds in
    let none : drop (length room - at) (drop at room) ≡ [] = drop_all (length room - at) (drop at room) (let l = length-drop at room in omega arith) in
    let place = ap length part in
    let left = length-drop at old in (
      omega (arith, holds.0, put.0, length-append front more),
      omega (arith, holds.1, put.1),
      (λ i. kept i ++ (written i ++ none i)) ∙ ap (λ rest. front ++ rest) (append-nil (more ++ drop (at + count) old)) ∙ sym (append_assoc front more (drop (at + count) old)),
    )
