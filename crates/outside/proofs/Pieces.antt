-- What the loops and the objects in memory need of the prefix of a list and of the rest after it.
use Rattle.std.proofs.Common.{◌≡◌, ℕ, ◌+◌, ◌-◌, ◌≤◌, List, ◌++◌, length, take, drop, refl, sym, ◌∙◌, ap, append_assoc, length-drop, arith}
use Rattle.std.proofs.lemmas.List.{take_at, take_rest, take-append-drop, drop-drop, length-take-le}

-- The bytes that a read puts at the beginning of a buffer are those that its source loses.
pub front_read : (content into new : List ℕ) (at count len : ℕ) → at + count ≤ length content → len ≡ at + count - at → new ≡ take len (drop at content)
    → drop at content ≡ take count (new ++ drop count into) ++ drop (at + count) content
front_read content into new at count len fits same is =
    let long : len ≡ count = same ∙ omega arith in
    let e : new ≡ take count (drop at content) = is ∙ ap (λ n. take n (drop at content)) long in
    let l : length new ≡ count = ap length e ∙ length-take-le count (drop at content) (omega (arith, length-drop at content)) in
    let front : take count (new ++ drop count into) ≡ take count (drop at content) = take_at new (drop count into) count l ∙ e in
    let back : drop count (drop at content) ≡ drop (at + count) content = drop-drop count at content in
    rw (front, ← back) (sym (take-append-drop count (drop at content)))

-- What is written grows by what a write took.
pub written_more : (piece done rest : List ℕ) (count : ℕ) → piece ≡ done ++ rest → piece ≡ (done ++ take count rest) ++ take (length rest - count) (drop count rest)
written_more piece done rest count e =
    rw (take_rest rest count, append_assoc, take-append-drop) e

-- The prefix that was written is a prefix of the piece.
pub written_front : (piece done rest : List ℕ) → piece ≡ done ++ rest → take (length done) piece ≡ done
written_front piece done rest e = ap (take (length done)) e ∙ take_at done rest (length done) refl
