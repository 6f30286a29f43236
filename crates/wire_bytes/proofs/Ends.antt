-- The end of bytes of form two, which their head tells.
use Rattle.std.proofs.Common.{◌≡◌, ◌⊎◌, inl, inr, ℕ, zero, suc, ◌+◌, ◌*◌, ◌/◌, ◌%◌, ◌^◌, ◌<◌, ◌≤◌, Bool, true, false, if◌then◌else◌, List, [], ◌∷◌, ◌++◌, length, take, drop, nat_lt, Some, None, refl, sym, ◌∙◌, ap, ap₂, subst, append_assoc, length-append, arith, pow-suc}
use Rattle.std.proofs.Math.Nat.{mod-one, mod-eq_of_lt}
use Rattle.context_model.specs.declared.Form.{Form}
use Rattle.context_model.specs.declared.Form.TheVariants.{One, Two}
use Rattle.context_model.specs.Atoms.{Atom}
use Rattle.context_model.specs.Varints.{big_endian}
use Rattle.context_model.specs.Framing.{base_128, frames, mark, form_of, head_len, bytes_in, bytes_of, AreWithin, IsBytesOf}
use Rattle.context_model.specs.ByteCodes.ByteCode.{AtomTooLong, CutBody}
use Rattle.context_model.specs.WireFault.{length_front, wire_code}
use Rattle.context_model.proofs.Digits.{low_place, power_positive}
use Rattle.context_model.proofs.FramingLaws.{length-head}
use Rattle.context_model.proofs.LengthCodes.{wire_code-length}
use Rattle.context_model.proofs.Heads.{read_back}
use Rattle.wire_bytes.specs.Laws.{FormTwoEnds}

-- ---- the number in a head

-- Numbers with the same lowest bytes are the same except for what is above these.
same_low : (w m n : ℕ) → big_endian w m ≡ big_endian w n → m % 256 ^ w ≡ n % 256 ^ w
same_low zero m n e = mod-one m ∙ sym (mod-one n)
same_low (suc w) m n e =
    let p = 256 ^ w in
    let positive : 0 < p = power_positive w in
    let first : m / p % 256 ≡ n / p % 256 = cc e in
    let later : m % p ≡ n % p = same_low w m n (cc e) in
    let low_m : m % 256 ^ suc w ≡ m / p % 256 * p + m % p = ap (λ v. m % v) (pow-suc 256 w) ∙ low_place m p positive in
    let low_n : n % 256 ^ suc w ≡ n / p % 256 * p + n % p = ap (λ v. n % v) (pow-suc 256 w) ∙ low_place n p positive in
    low_m ∙ ap₂ (λ a b. a * p + b) first later ∙ sym low_n

same_count : (m n : ℕ) → m < 2 ^ 64 → n < 2 ^ 64 → big_endian 8 m ≡ big_endian 8 n → m ≡ n
same_count m n small_m small_n e = sym (mod-eq_of_lt small_m) ∙ same_low 8 m n e ∙ mod-eq_of_lt small_n

-- ---- a prefix that is read in form two

no_rest : (rest : List ℕ) → length rest ≡ 0 → rest ≡ []
no_rest [] e = refl
no_rest (b ∷ rest) e = absurd (cc e)

two_in : (bytes : List ℕ) (list : List Atom) → form_of bytes ≡ Two → IsBytesOf list bytes → bytes ≡ bytes_in Two list
two_in bytes list is e = e ∙ ap (λ form. bytes_of form list) is

long_two : (list : List Atom) → length (bytes_in Two list) ≡ 12 + length (frames Two list)
long_two list = length-append (mark ++ big_endian 8 (length (frames Two list))) (frames Two list) ∙ ap (λ n. n + length (frames Two list)) (length-head Two (length (frames Two list)))

two_ends : (front rest : List ℕ) (part whole : List Atom) → front ≡ bytes_in Two part → front ++ rest ≡ bytes_in Two whole → length (front ++ rest) < 2 ^ 64 → rest ≡ []
two_ends front rest part whole f w small =
    let m = length (frames Two part) in
    let n = length (frames Two whole) in
    let same : big_endian 8 m ≡ big_endian 8 n = ap (λ bytes. take 8 (drop 4 bytes)) (sym (ap (λ bytes. bytes ++ rest) f) ∙ w) in
    let long_front : length front ≡ 12 + m = ap length f ∙ long_two part in
    let long : length (front ++ rest) ≡ 12 + n = ap length w ∙ long_two whole in
    let parts = length-append front rest in
    let counts : m ≡ n = same_count m n (omega arith) (omega arith) same in
    no_rest rest (omega arith)

-- ---- a prefix that is read in form one

too_long : (xs : List ℕ) → wire_code (255 ∷ 255 ∷ 255 ∷ xs) ≡ Some AtomTooLong
unfolding wire_code length_front
too_long xs = refl

-- No length in form one begins as the mark does.
no_length : (bytes xs ys : List ℕ) (n : ℕ) → n ≤ 65535 → bytes ≡ 255 ∷ 255 ∷ 255 ∷ xs → bytes ≡ base_128 n ++ ys → ⊥
no_length bytes xs ys n within marked lengthy = by (nat_lt (length ys) n) (sym (too_long xs) ∙ ap wire_code (sym marked ∙ lengthy) ∙ wire_code-length n ys within)
  where
    by : (cuts : Bool) → Some AtomTooLong ≡ (if cuts then Some CutBody else None) → ⊥
    by true e = absurd (cc e)
    by false e = absurd (cc e)

one_ends : (front rest more : List ℕ) (part : List Atom) → AreWithin One part → front ≡ frames One part → front ++ rest ≡ mark ++ more → front ≡ []
one_ends front rest more [] within f w = f
one_ends front rest more (atom ∷ part) within f w =
    let ys = atom ++ (frames One part ++ rest) in
    let split : front ++ rest ≡ base_128 (length atom) ++ ys =
    ap (λ bytes. bytes ++ rest) f ∙ append_assoc (base_128 (length atom) ++ atom) (frames One part) rest ∙ append_assoc (base_128 (length atom)) atom (frames One part ++ rest) in
    absurd (no_length (front ++ rest) (2 ∷ more) ys (length atom) within.0 w split)

-- ---- either

pub form_two_ends : FormTwoEnds
form_two_ends front rest part whole short_part short_whole f w is small = by (form_of front) refl
  where
    all : front ++ rest ≡ bytes_in Two whole
    all = two_in (front ++ rest) whole is w

    by : (form : Form) → form_of front ≡ form → (front ≡ []) ⊎ (rest ≡ [])
    by Two two = inr (two_ends front rest part whole (two_in front part two f) all small)
    by One one =
        let read = read_back front part short_part f in
        let within : AreWithin One part = subst (λ form. AreWithin form part) one read.1 in
        let framed : front ≡ frames One part = subst (λ form. drop (head_len form) front ≡ frames form part) one read.2 in
        inl (one_ends front rest (big_endian 8 (length (frames Two whole)) ++ frames Two whole) part within framed all)
