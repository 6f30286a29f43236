-- Bytes that are cut into pieces, and the pieces put together.
use Rattle.std.proofs.Common.{◌≡◌, inl, inr, ℕ, zero, suc, ◌+◌, ◌-◌, ◌*◌, ◌/◌, ◌%◌, ◌<◌, ◌≤◌, min, max, List, [], ◌∷◌, ◌++◌, length, map, take, drop, sym, ◌∙◌, ap, arith}
use Rattle.std.specs.Int.{div_ceil}
use Rattle.std.specs.List.{concat, range_with_len}
use Rattle.std.proofs.Math.Nat.{add-mul, mul-le-mul_right, mul-le-mul_left}
use Rattle.std.proofs.lemmas.Bool.{cases_eq}
use Rattle.std.proofs.lemmas.List.{append-nil, take-append-drop, take-take, drop-take, take_all, take_min, length-drop, flat_map_more}
use Rattle.std.proofs.lemmas.List.Folds.{concat-append}
use Rattle.std.proofs.lemmas.List.FromFn.{map-range_with_len_more}
use Rattle.std.proofs.lemmas.Nat.{div-add-mod'}
use Rattle.text_carrier.specs.Pieces.{piece_line}
use Rattle.text_carrier.specs.Carrying.{piece_at, piece_count, text_of_lines}

-- ---- how many pieces

-- All pieces together reach the end.
pub reaches_end : (len width : ℕ) → 0 < width → len ≤ max (div_ceil len width) 1 * width
reaches_end len width some =
    let parts = div-add-mod' len width in
    let rest : len % width < width = omega arith in
    elim (cases_eq (len % width) 0) [
      | inl none ↦
          let many : len / width ≤ max (div_ceil len width) 1 = omega arith in
          let all = mul-le-mul_right {m = len / width} {n = max (div_ceil len width) 1} width many in
          omega (arith, parts, none, all)
      | inr more ↦
          let many : len / width + 1 ≤ max (div_ceil len width) 1 = omega arith in
          let all = mul-le-mul_right {m = len / width + 1} {n = max (div_ceil len width) 1} width many in
          omega (arith, parts, rest, all, add-mul (len / width) 1 width, one_times width)
    ]
  where
    one_times : (n : ℕ) → 1 * n ≡ n
    one_times n = omega arith

-- Pieces of four bytes or more are at most 262,144.
pub few_pieces : (len width : ℕ) → 4 ≤ width → len ≤ 1048576 → max (div_ceil len width) 1 ≤ 262144
few_pieces len width least few =
    let parts = div-add-mod' len width in
    let fours = mul-le-mul_left {m = 4} {n = width} (len / width) least in
    omega (arith, parts, fours)

-- ---- the bytes of pieces

-- The bytes from a place on, up to the end or the next piece.
pub piece_slice : (bytes : List ℕ) (start width end : ℕ) → end ≡ min (length bytes) (start + width) → take (end - start) (drop start bytes) ≡ take width (drop start bytes)
piece_slice bytes start width end is =
    let size : end - start ≡ min width (length (drop start bytes)) = omega (arith, is, length-drop start bytes) in
    ap (λ n. take n (drop start bytes)) size ∙ take_min width (drop start bytes)

-- The bytes of a piece.
abbrev pub part_at : ℕ → List ℕ → ℕ → List ℕ
part_at width bytes place = take width (drop (place * width) bytes)

take_more_bytes : (bytes : List ℕ) (a n : ℕ) → take a bytes ++ take n (drop a bytes) ≡ take (a + n) bytes
take_more_bytes bytes a n =
    ap (λ (l : List ℕ). l ++ take n (drop a bytes)) (sym (take-take a (a + n) bytes (omega arith)))
    ∙ ap (λ (l : List ℕ). take a (take (a + n) bytes) ++ l) (sym (drop-take a n bytes))
    ∙ take-append-drop a (take (a + n) bytes)

first_parts : (width : ℕ) (bytes : List ℕ) (n : ℕ) → concat (map (part_at width bytes) (range_with_len 0 n)) ≡ take (n * width) bytes
first_parts width bytes zero = sym (ap (λ k. take k bytes) (none width))
  where
    none : (w : ℕ) → 0 * w ≡ 0
    none w = omega arith
first_parts width bytes (suc n) =
    let one_more : suc n ≡ n + 1 = omega arith in
    let step : n * width + width ≡ suc n * width = sym (ap (λ k. k * width) one_more ∙ add-mul n 1 width ∙ ap (λ k. n * width + k) (one_times width)) in
    ap (λ k. concat (map (part_at width bytes) (range_with_len 0 k))) one_more
    ∙ ap concat (map-range_with_len_more (part_at width bytes) 0 n n (omega arith))
    ∙ concat-append (map (part_at width bytes) (range_with_len 0 n)) (part_at width bytes n ∷ [])
    ∙ ap (λ (l : List ℕ). l ++ concat (part_at width bytes n ∷ [])) (first_parts width bytes n)
    ∙ ap (λ (l : List ℕ). take (n * width) bytes ++ l) (append-nil (part_at width bytes n))
    ∙ take_more_bytes bytes (n * width) width
    ∙ ap (λ k. take k bytes) step
  where
    one_times : (k : ℕ) → 1 * k ≡ k
    one_times k = omega arith

-- All pieces together are the bytes.
pub all_parts : (width : ℕ) (bytes : List ℕ) → 0 < width → bytes ≡ concat (map (part_at width bytes) (range_with_len 0 (piece_count width bytes)))
all_parts width bytes some =
    sym (first_parts width bytes (piece_count width bytes) ∙ take_all (piece_count width bytes * width) bytes (reaches_end (length bytes) width some))

-- ---- the lines of the first pieces

-- The line of a piece.
abbrev pub line_at : ℕ → List ℕ → ℕ → List ℕ
line_at width bytes place = piece_line (piece_at width bytes place)

abbrev pub first_lines : ℕ → List ℕ → ℕ → List ℕ
first_lines width bytes n = text_of_lines (map (line_at width bytes) (range_with_len 0 n))

pub lines_more : (width : ℕ) (bytes before after : List ℕ) (place : ℕ) → before ≡ first_lines width bytes place → after ≡ before ++ (line_at width bytes place ++ 10 ∷ [])
    → after ≡ first_lines width bytes (place + 1)
lines_more width bytes before after place so_far is =
    is ∙ ap (λ (l : List ℕ). l ++ (line_at width bytes place ++ 10 ∷ [])) so_far
    ∙ flat_map_more (λ (line : List ℕ). line ++ 10 ∷ []) [] (map (line_at width bytes) (range_with_len 0 place)) (line_at width bytes place)
    ∙ ap text_of_lines (sym (map-range_with_len_more (line_at width bytes) 0 place place (omega arith)))
