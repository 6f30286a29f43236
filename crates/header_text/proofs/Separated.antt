-- Values that are cut at their first comma, and the blanks around a part.
use Rattle.std.proofs.Common.{◌≡◌, ℕ, ◌+◌, ◌<◌, ◌≤◌, ◌==◌, suc, false, List, [], ◌∷◌, ◌++◌, length, get_or, take, drop, map, refl, sym, ◌∙◌, ap, arith}
use Rattle.std.specs.Prelude.{◌≢◌}
use Rattle.std.specs.List.{All, prefix_len}
use Rattle.std.proofs.lemmas.Bool.{eq-eqb, ne_eqb}
use Rattle.std.proofs.lemmas.Grind.{common_steps}
use Rattle.std.proofs.lemmas.List.{get_or-take, length-take}
use Rattle.std.proofs.lemmas.List.Elements.{All-nil, All-cons}
use Rattle.std.proofs.lemmas.List.Splits.{slice_split_none, slice_split_at}
use Rattle.header_text.specs.Parts.{is_space, blanks_before, parts_of, without_blanks}

-- No byte is a comma.
abbrev pub IsFree : List ℕ → Type 0
IsFree bytes = All (λ byte. (byte == 44) ≡ false) bytes

pub free_from : (bytes : List ℕ) → ((k : ℕ) → k < length bytes → get_or bytes k 0 ≢ 44) → IsFree bytes
free_from [] h = All-nil (λ byte. (byte == 44) ≡ false)
free_from (byte ∷ bytes) h =
    All-cons (λ byte. (byte == 44) ≡ false) byte bytes (ne_eqb byte 44 (h 0 (omega arith))) (free_from bytes (λ k less. h (suc k) (omega (arith, less))))

free_take : (bytes : List ℕ) (at : ℕ) → at < length bytes → ((k : ℕ) → k < at → get_or bytes k 0 ≢ 44) → IsFree (take at bytes)
free_take bytes at within h =
    free_from (take at bytes) (λ k less.
    let front : k < at = omega (arith, less, length-take at bytes, within) in
    λ is. h k front (sym (get_or-take at bytes k 0 front) ∙ is))

-- A value with a comma begins with the part before the first.
pub first_part : (value : List ℕ) (at : ℕ) → at < length value → ((k : ℕ) → k < at → get_or value k 0 ≢ 44) → get_or value at 0 ≡ 44
    → parts_of value ≡ without_blanks (take at value) ∷ parts_of (drop (at + 1) value)
first_part value at within free is =
    let around : value ≡ take at value ++ 44 ∷ drop (at + 1) value = grind (arith, common_steps) in
    ap parts_of around
    ∙ ap (λ (parts : List (List ℕ)). map without_blanks parts) (slice_split_at (λ byte. byte == 44) (take at value) 44 (drop (at + 1) value) (free_take value at within free) (eq-eqb 44 44 refl))

-- A value without a comma is one part.
pub only_part : (value : List ℕ) → IsFree value → parts_of value ≡ without_blanks value ∷ []
only_part value free = ap (λ (parts : List (List ℕ)). map without_blanks parts) (slice_split_none (λ byte. byte == 44) value free)

-- There are no more blanks than bytes.
pub few_blanks : (bytes : List ℕ) → blanks_before bytes ≤ length bytes
few_blanks bytes = omega (arith, length-take (prefix_len is_space bytes) bytes)
