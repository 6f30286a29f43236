-- The kinds of atoms, and the atom of each kind.
use Rattle.std.specs.Prelude.{◌≡◌, ℕ, ◌-◌, ◌*◌, ◌^◌, ◌<◌, List, [], ◌∷◌}
use Rattle.context_model.specs.declared.TheConstants.{LEVELS_MAX}
use Rattle.context_model.specs.Atoms.{Atom}
use Rattle.context_model.specs.Varints.{unsigned_varint}

-- A marker, a datum with its payload, an indexed header with its level and number, or a keyed
-- header with its level and key.
pub data Kind : Type 0 where
  Marker : Kind
  Datum : List ℕ → Kind
  Indexed : ℕ → ℕ → Kind
  Keyed : ℕ → List ℕ → Kind

-- The atom of a kind: a header has its level in its first byte, and then its number or key.
abbrev pub atom_of : Kind → Atom
atom_of Marker = []
atom_of (Datum payload) = 0 ∷ payload
atom_of (Indexed level number) = (248 - 8 * level) ∷ unsigned_varint number
atom_of (Keyed level key) = (249 - 8 * level) ∷ key

-- The level is below LEVELS_MAX, and the number below 2 ^ 64.
abbrev pub IsKind : Kind → Type 0
IsKind Marker = Unit {0}
IsKind (Datum payload) = Unit {0}
IsKind (Indexed level number) = (level < LEVELS_MAX) × (number < 2 ^ 64)
IsKind (Keyed level key) = level < LEVELS_MAX

-- The atom is that of some kind.
pub record HasKind (atom : Atom) : Type 0 where
  pub kind : Kind
  pub fits : IsKind kind
  pub spelled : atom ≡ atom_of kind

-- The atom begins as an indexed header does, whatever follows.
pub record IsIndexLike (atom : Atom) : Type 0 where
  pub level : ℕ
  pub rest : List ℕ
  pub fits : level < LEVELS_MAX
  pub begins : atom ≡ (248 - 8 * level) ∷ rest

-- The atom has no kind, and doesn't begin as an indexed header does.
pub record HasBadPrefix (atom : Atom) : Type 0 where
  pub none : HasKind atom → ⊥
  pub other : IsIndexLike atom → ⊥

-- The atom begins as an indexed header does, and what follows isn't one number and nothing more.
pub record HasBadIndex (atom : Atom) : Type 0 where
  pub none : HasKind atom → ⊥
  pub like : IsIndexLike atom
