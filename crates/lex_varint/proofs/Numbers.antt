-- One byte more after a number.
use Rattle.std.proofs.Common.{◌≡◌, ℕ, suc, ◌+◌, ◌-◌, ◌*◌, ◌/◌, ◌^◌, ◌<◌, ◌≤◌, Bool, true, false, List, [], ◌∷◌, ◌++◌, length, take, get_or, map, sym, ap, ◌∙◌, subst, arith, lit<, mul-le-mul_right, mul-le-mul_left, pow-suc, add-one}
use Rattle.std.proofs.Math.Nat.{div-lt_iff_lt-mul, pow-le-pow_right}
use Rattle.std.proofs.lemmas.List.{take_more, map-append}
use Rattle.context_model.specs.Varints.{big_endian, complement}
use Rattle.context_model.proofs.Digits.{power_positive, more-div, big_endian-more}
use Rattle.lex_varint.specs.Readings.{turned}

-- the number with one byte more stays below the bound of the whole
pub room_more : (high number i n : ℕ) → number / 256 ^ i ≡ high → i < n → (high + 1) * 256 ^ n ≤ 2 ^ 64 → number * 256 + 255 < 2 ^ 64
room_more high number i n e h l =
    let small : number < (high + 1) * 256 ^ i = (div-lt_iff_lt-mul (power_positive i)).0 (omega arith) in
    let wide : suc number * 256 ≤ (high + 1) * 256 ^ i * 256 = mul-le-mul_right 256 small in
    let power : 256 ^ suc i ≤ 256 ^ n = pow-le-pow_right (lit< tt) h in
    let all : (high + 1) * (256 ^ i * 256) ≤ (high + 1) * 256 ^ n = mul-le-mul_left (high + 1) (subst (λ v. v ≤ 256 ^ n) (pow-suc 256 i) power) in
    omega arith

pub high_more : (high number d i : ℕ) → d < 256 → number / 256 ^ i ≡ high → (number * 256 + d) / 256 ^ (i + 1) ≡ high
high_more high number d i h e = rw add-one (more-div i number d h ∙ e)

turned_more : (negative : Bool) (bytes : List ℕ) (i : ℕ) → i < length bytes → turned negative (take (i + 1) bytes) ≡ turned negative (take i bytes) ++ turned negative (get_or bytes i 0 ∷ [])
unfolding complement
turned_more true bytes i h = ap (map (λ b. 255 - b)) (take_more bytes i 0 h) ∙ map-append (λ b. 255 - b) (take i bytes) (get_or bytes i 0 ∷ [])
turned_more false bytes i h = take_more bytes i 0 h

pub low_more : (negative : Bool) (bytes : List ℕ) (number d i : ℕ) → i < length bytes → d < 256 → turned negative (get_or bytes i 0 ∷ []) ≡ d ∷ []
    → big_endian i number ≡ turned negative (take i bytes) → big_endian (i + 1) (number * 256 + d) ≡ turned negative (take (i + 1) bytes)
low_more negative bytes number d i h l digit e =
    rw add-one (big_endian-more i number d l) ∙ ap (λ v. v ++ d ∷ []) e ∙ sym (turned_more negative bytes i h ∙ ap (λ v. turned negative (take i bytes) ++ v) digit)
