-- The first fault of bytes that aren't those of a context.
use Rattle.std.specs.Prelude.{◌≡◌, ◌⊎◌, ℕ, ◌<◌, ◌≤◌, List, ◌++◌, length, take, drop, []}
use Rattle.context_model.specs.declared.Form.{Form}
use Rattle.context_model.specs.Atoms.{Atom, AreAtoms}
use Rattle.context_model.specs.Framing.{frame, frames, most, AreWithin, IsBytesOf}
use Rattle.context_model.specs.ByteCodes.{ByteCode}
use Rattle.context_model.specs.Paths.{last_path_after}
use Rattle.context_model.specs.WellFormed.{IsWellFormed}
use Rattle.context_model.specs.WireFault.{IsUnframed, FirstFault}
use Rattle.context_model.specs.ShapeFault.{IsWrong}

-- The bytes are those of a context.
abbrev pub IsContextOf : List Atom → List ℕ → Type 0
IsContextOf list bytes = AreAtoms list × IsWellFormed list × IsBytesOf list bytes

-- The bytes are the frames of a well-formed list.
abbrev pub IsFrontOf : Form → List Atom → List ℕ → Type 0
IsFrontOf form list bytes = AreWithin form list × IsWellFormed list × (bytes ≡ frames form list)

-- The code says what is wrong with the bytes after the frames of a list: they begin with no frame,
-- or with that of an atom that is not allowed there.
abbrev pub IsWrongBehind : Form → List Atom → List ℕ → ByteCode → Type 0
IsWrongBehind form list rest code =
    IsUnframed form rest code
    ⊎ ((atom : Atom) × (more : List ℕ) × (length atom ≤ most form)
    × (rest ≡ frame form atom ++ more) × IsWrong code (last_path_after [] list) atom)

-- The longest prefix that is the frames of a well-formed list ends before the bytes do, and this is
-- wrong with what follows.
pub record IsFirstUnformed (form : Form) (bytes : List ℕ) (offset : ℕ)
    (code : ByteCode) : Type 0 where
  pub list : List Atom
  pub within : offset < length bytes
  pub front : IsFrontOf form list (take offset bytes)
  pub longest : (n : ℕ) (other : List Atom) → n ≤ length bytes → IsFrontOf form other (take n bytes)
      → n ≤ offset
  pub applies : IsWrongBehind form list (drop offset bytes) code

-- The first fault of bytes that aren't a context's: where it is, and its code.
abbrev pub IsFirstContextFault : List ℕ → ℕ → ByteCode → Type 0
IsFirstContextFault = FirstFault IsFirstUnformed

-- Bytes are those of at most one context, have at most one first fault, and never both.
pub record HasOneContext (bytes : List ℕ) : Type 0 where
  pub list : (a b : List Atom) → IsContextOf a bytes → IsContextOf b bytes → a ≡ b
  pub fault : (i j : ℕ) (c d : ByteCode) → IsFirstContextFault bytes i c
      → IsFirstContextFault bytes j d → (i ≡ j) × (c ≡ d)
  pub either : (list : List Atom) (offset : ℕ) (code : ByteCode) → IsContextOf list bytes
      → IsFirstContextFault bytes offset code → ⊥
