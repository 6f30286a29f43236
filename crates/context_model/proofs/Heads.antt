-- Heads: in which form bytes are read, and what is after a head.
use Rattle.std.proofs.Common.{◌≡◌, ℕ, ◌+◌, ◌-◌, ◌/◌, ◌≤◌, inl, inr, Bool, true, false, ◌||◌, if◌then◌else◌, [], List, ◌∷◌, ◌++◌, length, take, drop, nat_lt, Some, None, refl, sym, ◌∙◌, ap, subst, append_assoc, arith, take-append-drop}
use Rattle.std.specs.Str.{bytes_eq}
use Rattle.std.proofs.lemmas.Slice.Eq.{bytes_eq-Decides}
use Rattle.std.proofs.lemmas.Bool.{cases_lt, ltb-false}
use Rattle.std.proofs.lemmas.Bool.Decides.{nat_tests}
use Rattle.std.proofs.lemmas.List.{length-drop, drop-drop}
use Rattle.context_model.specs.declared.TheConstants.{LENGTH_MAX}
use Rattle.context_model.specs.declared.Form.{Form}
use Rattle.context_model.specs.declared.Form.TheVariants.{One, Two}
use Rattle.context_model.specs.Atoms.{Atom, AreAtoms}
use Rattle.context_model.specs.Varints.{big_endian}
use Rattle.context_model.specs.Framing.{base_128, frames, mark, form_of, head_len, bytes_in, has_long, written_in, bytes_of, AreWithin, IsBytesOf}
use Rattle.context_model.specs.ByteCodes.ByteCode.{CutLength, BadCount}
use Rattle.context_model.specs.WireFault.{head_code}
use Rattle.context_model.proofs.LengthCodes.{code_one, code_two, code_three}

-- ---- the mark

no_mark : (bytes : List ℕ) → (take 4 bytes ≡ mark → ⊥) → form_of bytes ≡ One
no_mark bytes none = by (bytes_eq (take 4 bytes) mark) refl
  where
    by : (b : Bool) → bytes_eq (take 4 bytes) mark ≡ b → form_of bytes ≡ One
    by true e = absurd (none ((bytes_eq-Decides (take 4 bytes) mark).0 e))
    by false e = ap (λ b. if b then Two else One) e

has_mark : (bytes : List ℕ) → form_of bytes ≡ Two → take 4 bytes ≡ mark
has_mark bytes is = by (bytes_eq (take 4 bytes) mark) refl
  where
    by : (b : Bool) → bytes_eq (take 4 bytes) mark ≡ b → take 4 bytes ≡ mark
    by true e = (bytes_eq-Decides (take 4 bytes) mark).0 e
    by false e = let other : Two ≡ One = sym is ∙ ap (λ b. if b then Two else One) e in absurd (cc other)

-- A length ends within three bytes, and its last byte is less than 128.
code_apart : (n : ℕ) (xs : List ℕ) → n ≤ LENGTH_MAX → take 4 (base_128 n ++ xs) ≡ mark → ⊥
code_apart n xs within = elim (cases_lt n 128) [
  | inl one ↦ rw (code_one n one) (λ e. let first : n ≡ 255 = cc e in omega arith)
  | inr more ↦ elim (cases_lt n 16384) [
    | inl two ↦ rw (code_two n more two) (λ e. let second : n / 128 ≡ 255 = cc e in omega arith)
    | inr three ↦ rw (code_three n three) (λ e. let third : n / 16384 ≡ 255 = cc e in omega arith)
  ]
]

-- So frames of form one never begin with the mark.
mark_apart : (list : List Atom) → AreWithin One list → form_of (frames One list) ≡ One
mark_apart [] short = refl
mark_apart (atom ∷ list) short =
    no_mark (frames One (atom ∷ list)) (subst (λ bytes. take 4 bytes ≡ mark → ⊥) (sym (append_assoc (base_128 (length atom)) atom (frames One list)))
    (code_apart (length atom) (atom ++ frames One list) short.0))

-- ---- which atoms a form has room for

within_one : (list : List Atom) → has_long list ≡ false → AreWithin One list
within_one [] none = tt
within_one (atom ∷ list) none = by (nat_lt LENGTH_MAX (length atom)) refl none (λ more. within_one list more)
  where
    by : (own : Bool) → nat_lt LENGTH_MAX (length atom) ≡ own → (own || has_long list) ≡ false → (has_long list ≡ false → AreWithin One list) → AreWithin One (atom ∷ list)
    by true e none later = absurd (cc none)
    by false e none later = (ltb-false LENGTH_MAX (length atom) e, later none)

none_long : (list : List Atom) → AreWithin One list → has_long list ≡ false
none_long [] short = refl
none_long (atom ∷ list) short = let l = short.0 in let own : nat_lt LENGTH_MAX (length atom) ≡ false = grind (arith, nat_tests) in ap (λ b. b || has_long list) own ∙ none_long list short.1

pub AreWithin-written : (form : Form) (list : List Atom) → AreAtoms list → AreWithin (written_in form list) list
AreWithin-written Two list short = short
AreWithin-written One list short = by (has_long list) refl
  where
    by : (long : Bool) → has_long list ≡ long → AreWithin (if has_long list then Two else One) list
    by true e = subst (λ b. AreWithin (if b then Two else One) list) (sym e) short
    by false e = subst (λ b. AreWithin (if b then Two else One) list) (sym e) (within_one list e)

pub AreWithin-atoms : (form : Form) (list : List Atom) → AreWithin form list → AreAtoms list
AreWithin-atoms Two list short = short
AreWithin-atoms One [] short = tt
AreWithin-atoms One (atom ∷ list) short = let l = short.0 in (omega arith, AreWithin-atoms One list short.1)

-- ---- the form that bytes are written in is the one that they are read in

pub form_back : (form : Form) (list : List Atom) → AreAtoms list → form_of (bytes_of form list) ≡ written_in form list
form_back Two list short = refl
form_back One list short = by (has_long list) refl
  where
    by : (long : Bool) → has_long list ≡ long → form_of (bytes_of One list) ≡ written_in One list
    by true e = ap (λ b. form_of (bytes_in (if b then Two else One) list)) e ∙ ap (λ b. if b then Two else One) (sym e)
    by false e = ap (λ b. form_of (bytes_in (if b then Two else One) list)) e ∙ mark_apart list (within_one list e) ∙ ap (λ b. if b then Two else One) (sym e)

written_again : (form : Form) (list : List Atom) → written_in (written_in form list) list ≡ written_in form list
written_again Two list = refl
written_again One list = by (has_long list) refl
  where
    by : (long : Bool) → has_long list ≡ long → written_in (if has_long list then Two else One) list ≡ (if has_long list then Two else One)
    by true e = ap (λ b. written_in (if b then Two else One) list) e ∙ ap (λ b. if b then Two else One) (sym e)
    by false e = ap (λ b. written_in (if b then Two else One) list) e

-- Bytes of a list, whatever form was asked for, are so in the form that they are read in.
pub IsBytesOf-any : (form : Form) (list : List Atom) (bytes : List ℕ) → AreAtoms list → bytes ≡ bytes_of form list → IsBytesOf list bytes
IsBytesOf-any form list bytes short e =
    let own : form_of bytes ≡ written_in form list = ap form_of e ∙ form_back form list short in
    e ∙ ap (λ width. bytes_in width list) (sym (written_again form list) ∙ ap (λ width. written_in width list) (sym own))

-- ---- what is after a head

head_right : (form : Form) (list : List Atom) → head_code form (bytes_in form list) ≡ None
head_right One list = refl
head_right Two list =
    let count = length (frames Two list) in
    let bytes = bytes_in Two list in
    let long : length bytes ≡ 12 + count = omega arith in
    let behind : length bytes - 12 ≡ count = omega arith in
    let enough : nat_lt (length bytes) 12 ≡ false = grind (arith, nat_tests) in
    let same : bytes_eq (big_endian 8 count) (big_endian 8 (length bytes - 12)) ≡ true = (bytes_eq-Decides (big_endian 8 count) (big_endian 8 (length bytes - 12))).1 (ap (big_endian 8) (sym behind)) in
    ap (λ b. if b then Some CutLength else if bytes_eq (big_endian 8 count) (big_endian 8 (length bytes - 12)) then None else Some BadCount) enough
    ∙ ap (λ b. if b then None else Some BadCount) same

head_off : (form : Form) (list : List Atom) → drop (head_len form) (bytes_in form list) ≡ frames form list
head_off One list = refl
head_off Two list = refl

-- Bytes of a list have a right head, and after it are the frames of the list.
pub read_back : (bytes : List ℕ) (list : List Atom) → AreAtoms list → IsBytesOf list bytes
    → (head_code (form_of bytes) bytes ≡ None) × AreWithin (form_of bytes) list × (drop (head_len (form_of bytes)) bytes ≡ frames (form_of bytes) list)
read_back bytes list short e =
    let form = form_of bytes in
    let own : form ≡ written_in form list = ap form_of e ∙ form_back form list short in
    let is : bytes ≡ bytes_in form list = e ∙ ap (λ width. bytes_in width list) (sym own) in (
      ap (head_code form) is ∙ head_right form list,
      subst (λ width. AreWithin width list) (sym own) (AreWithin-written form list short),
      ap (drop (head_len form)) is ∙ head_off form list,
    )

-- And back.
pub read_there : (bytes : List ℕ) (list : List Atom) → head_code (form_of bytes) bytes ≡ None → AreWithin (form_of bytes) list
    → drop (head_len (form_of bytes)) bytes ≡ frames (form_of bytes) list → IsBytesOf list bytes
read_there bytes list right short behind = by (form_of bytes) refl right short behind
  where
    counted : bytes_eq (take 4 bytes) mark ≡ true → (low right : Bool) → nat_lt (length bytes) 12 ≡ low → bytes_eq (take 8 (drop 4 bytes)) (big_endian 8 (length bytes - 12)) ≡ right
        → (if low then Some CutLength else if right then None else Some BadCount) ≡ None → take 8 (drop 4 bytes) ≡ big_endian 8 (length bytes - 12)
    counted marked true right l e none = absurd (cc none)
    counted marked false false l e none = absurd (cc none)
    counted marked false true l e none = (bytes_eq-Decides (take 8 (drop 4 bytes)) (big_endian 8 (length bytes - 12))).0 e

    by : (form : Form) → form_of bytes ≡ form → head_code form bytes ≡ None → AreWithin form list → drop (head_len form) bytes ≡ frames form list → bytes ≡ bytes_of form list
    by One is right short behind = behind ∙ ap (λ b. bytes_in (if b then Two else One) list) (sym (none_long list short))
    by Two is right short behind =
        let marked = has_mark bytes is in
        let said = counted ((bytes_eq-Decides (take 4 bytes) mark).1 marked) (nat_lt (length bytes) 12) (bytes_eq (take 8 (drop 4 bytes)) (big_endian 8 (length bytes - 12))) refl refl right in
        let count : length bytes - 12 ≡ length (frames Two list) = sym (length-drop 12 bytes) ∙ ap length behind in
        let rest : drop 8 (drop 4 bytes) ≡ drop 12 bytes = drop-drop 8 4 bytes in
        sym (take-append-drop 4 bytes) ∙ ap (λ front. front ++ drop 4 bytes) marked
        ∙ ap (λ xs. mark ++ xs) (sym (take-append-drop 8 (drop 4 bytes)) ∙ ap (λ front. front ++ drop 8 (drop 4 bytes)) (said ∙ ap (big_endian 8) count) ∙ ap (λ xs. big_endian 8 (length (frames Two list)) ++ xs) (rest ∙ behind))
