-- From the varint that is taken at the beginning of some bytes to what begins them.
use Rattle.std.proofs.Common.{◌≡◌, ℕ, ℤ, ◌-◌, ◌≤◌, Bool, true, List, ◌++◌, length, take, drop, Result, Ok, Err, sym, refl, ap, ◌∙◌, subst, arith}
use Rattle.std.proofs.Math.Seq.{drop-append_seam}
use Rattle.std.proofs.lemmas.List.{take_rest, length-append}
use Rattle.context_model.specs.Varints.{unsigned_varint, signed_varint}
use Rattle.lex_varint.specs.Readings.{IsUnsignedAt, IsSignedAt}
use Rattle.bag_model.specs.Scalars.{IsUnsigned, IsSigned}
use Rattle.bag_model.proofs.Codes.{code_apart}
use Rattle.bag_model.proofs.NumberCodes.{unsigned_code, signed_code, unsigned_wide, signed_wide}
use Rattle.scalar_types.specs.Fronts.{Begins, BeginsWithSome}

pub unsigned_count : (bytes : List ℕ) (n : ℕ) (count : ℕ) → IsUnsignedAt bytes n count → count ≤ length bytes
unsigned_count bytes n count at =
    let whole : length bytes ≡ length (unsigned_varint n ++ at.front.0) = ap length at.front.1 in
    let size : count ≡ length (unsigned_varint n) = at.whole in
    omega (arith, length-append (unsigned_varint n) at.front.0)

pub unsigned_begins : (wide : Bool) (bytes : List ℕ) (n : ℕ) (count : ℕ) → IsUnsignedAt bytes n count → IsUnsigned wide n
    → Begins (IsUnsigned wide) unsigned_varint bytes n (take (length bytes - count) (drop count bytes))
unsigned_begins wide bytes n count at fit = record {
  fit = fit;
  same = ap (λ l. unsigned_varint n ++ l) (take_rest bytes count ∙ behind) ∙ sym at.front.1;
}
  where
    behind : drop count bytes ≡ at.front.0
    behind = ap (λ k. drop k bytes) at.whole ∙ ap (drop (length (unsigned_varint n))) at.front.1 ∙ drop-append_seam (unsigned_varint n) at.front.0

-- a varint that begins the bytes is the one that is taken
pub unsigned_at : (wide : Bool) (bytes : List ℕ) (b : BeginsWithSome (IsUnsigned wide) unsigned_varint bytes) → IsUnsignedAt bytes b.0 (length (unsigned_varint b.0))
unsigned_at wide bytes b = record { fits = unsigned_wide wide b.0 b.1.1.fit; front = (b.1.0, sym b.1.1.same); whole = refl }

-- out of its range no other begins the bytes
pub unsigned_out : (wide : Bool) (bytes : List ℕ) (n : ℕ) (count : ℕ) → IsUnsignedAt bytes n count → (IsUnsigned wide n → ⊥) → BeginsWithSome (IsUnsigned wide) unsigned_varint bytes → ⊥
unsigned_out wide bytes n count at out b =
    let one : b.0 ≡ n = code_apart (unsigned_code true) b.0 n b.1.0 at.front.0 (unsigned_wide wide b.0 b.1.1.fit) at.fits (b.1.1.same ∙ at.front.1) in
    out (subst (IsUnsigned wide) one b.1.1.fit)

pub signed_count : (bytes : List ℕ) (n : ℤ) (count : ℕ) → IsSignedAt bytes n count → count ≤ length bytes
signed_count bytes n count at =
    let whole : length bytes ≡ length (signed_varint n ++ at.front.0) = ap length at.front.1 in
    let size : count ≡ length (signed_varint n) = at.whole in
    omega (arith, length-append (signed_varint n) at.front.0)

pub signed_begins : (wide : Bool) (bytes : List ℕ) (n : ℤ) (count : ℕ) → IsSignedAt bytes n count → IsSigned wide n
    → Begins (IsSigned wide) signed_varint bytes n (take (length bytes - count) (drop count bytes))
signed_begins wide bytes n count at fit = record {
  fit = fit;
  same = ap (λ l. signed_varint n ++ l) (take_rest bytes count ∙ behind) ∙ sym at.front.1;
}
  where
    behind : drop count bytes ≡ at.front.0
    behind = ap (λ k. drop k bytes) at.whole ∙ ap (drop (length (signed_varint n))) at.front.1 ∙ drop-append_seam (signed_varint n) at.front.0

-- a varint that begins the bytes is the one that is taken
pub signed_at : (wide : Bool) (bytes : List ℕ) (b : BeginsWithSome (IsSigned wide) signed_varint bytes) → IsSignedAt bytes b.0 (length (signed_varint b.0))
signed_at wide bytes b = record { fits = signed_wide wide b.0 b.1.1.fit; front = (b.1.0, sym b.1.1.same); whole = refl }

-- out of its range no other begins the bytes
pub signed_out : (wide : Bool) (bytes : List ℕ) (n : ℤ) (count : ℕ) → IsSignedAt bytes n count → (IsSigned wide n → ⊥) → BeginsWithSome (IsSigned wide) signed_varint bytes → ⊥
signed_out wide bytes n count at out b =
    let one : b.0 ≡ n = code_apart (signed_code true) b.0 n b.1.0 at.front.0 (signed_wide wide b.0 b.1.1.fit) at.fits (b.1.1.same ∙ at.front.1) in
    out (subst (IsSigned wide) one b.1.1.fit)

pub ok_is_no_err : {T E : Type 0} (r : Result T E) (t : T) (e : E) → r ≡ Ok t → r ≡ Err e → ⊥
ok_is_no_err r t e ok err = cc
