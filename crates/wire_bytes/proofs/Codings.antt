-- Lengths as varints, what they are written anew as, and bytes in either form.
use Rattle.std.proofs.Common.{◌≡◌, ℕ, ◌+◌, ◌-◌, ◌≤◌, List, ◌++◌, length, take, drop, slice_range, sym, ◌∙◌, ap, refl, length-append, arith}
use Rattle.std.proofs.lemmas.List.{take_at, drop_at, drop-drop, length-take-le, length-drop}
use Rattle.context_model.specs.declared.TheConstants.{ATOM_MAX}
use Rattle.context_model.specs.Varints.{unsigned_varint, IsUnsignedAt}
use Rattle.context_model.specs.declared.Form.{Form}
use Rattle.context_model.specs.declared.Form.TheVariants.{One, Two}
use Rattle.context_model.specs.Atoms.{Atom, AreAtoms}
use Rattle.context_model.specs.Framing.{base_128, frames}
use Rattle.context_model.proofs.FramingLaws.{codes_alike, frames_lens}

-- A list has as many bytes of frames as in form one.
pub frames_any : (form : Form) (list : List Atom) → AreAtoms list → length (frames One list) ≡ length (frames form list)
frames_any One list short = refl
frames_any Two list short = frames_lens list short

-- A varint that the bytes begin with is no longer than they are.
pub taken_within : (bytes : List ℕ) (n count : ℕ) → IsUnsignedAt bytes n count → count ≤ length bytes
taken_within bytes n count at = omega (arith, at.whole, ap length at.front.1 ∙ length-append (unsigned_varint n) at.front.0)

pub taken_code : (bytes : List ℕ) (n count : ℕ) → IsUnsignedAt bytes n count → take count bytes ≡ unsigned_varint n
taken_code bytes n count at = ap (take count) at.front.1 ∙ take_at (unsigned_varint n) at.front.0 count (sym at.whole)

module _ (rest rest' : List ℕ) (skip len : ℕ) (short : len ≤ ATOM_MAX) (within : skip + len ≤ length rest) (code : take skip rest ≡ unsigned_varint len) where
  -- In base 128 the length has as many bytes.
  pub skip_is : skip ≡ length (base_128 len)
  skip_is = sym (length-take-le skip rest (omega arith)) ∙ ap length code ∙ sym (codes_alike len (omega arith))

  module _ (written : rest' ≡ base_128 len ++ drop skip rest) where
    -- What is after the length stays.
    pub behind_is : drop skip rest' ≡ drop skip rest
    behind_is = ap (drop skip) written ∙ drop_at (base_128 len) (drop skip rest) skip (sym skip_is)

    pub code_is : take skip rest' ≡ base_128 len
    code_is = ap (take skip) written ∙ take_at (base_128 len) (drop skip rest) skip (sym skip_is)

    pub still_within : skip + len ≤ length rest'
    still_within = omega (arith, skip_is, ap length written ∙ length-append (base_128 len) (drop skip rest), length-drop skip rest)

    pub atom_is : slice_range rest' skip (skip + len) ≡ slice_range rest skip (skip + len)
    atom_is = ap (take (skip + len - skip)) behind_is

    pub left_is : drop (skip + len) rest' ≡ drop (skip + len) rest
    left_is = sym (drop-drop len skip rest') ∙ ap (drop len) behind_is ∙ drop-drop len skip rest
