-- What is said of an atom's kind.
use Rattle.std.specs.Prelude.{◌≡◌, ℕ, ◌<◌, ◌^◌, true, List}
use Rattle.context_model.specs.declared.TheConstants.{LEVELS_MAX}
use Rattle.context_model.specs.Varints.{unsigned_varint}
use Rattle.context_model.specs.Paths.{is_header, level}
use Rattle.context_model.specs.Kinds.{HasKind}
use Rattle.context_model.specs.Kinds.{Kind as PlainKind}
use Rattle.context_model.specs.Kinds.Kind.{Marker as PlainMarker, Datum as PlainDatum, Indexed as PlainIndexed, Keyed as PlainKeyed}
use Rattle.atom_kinds.specs.declared.Kind.{Kind}
use Rattle.atom_kinds.specs.declared.Kind.TheVariants.{Marker, Datum, Indexed, Keyed}

-- The kind without payload and key.
abbrev pub outer_kind : PlainKind → Kind
outer_kind PlainMarker = Marker
outer_kind (PlainDatum payload) = Datum
outer_kind (PlainIndexed level number) = Indexed level number
outer_kind (PlainKeyed level key) = Keyed level

-- The atom has a kind, and the code's value stands for it.
abbrev pub TellsKind : List ℕ → Kind → Type 0
TellsKind atom kind = (f : HasKind atom) × (outer_kind f.kind ≡ kind)

-- The atom is a header of this level.
abbrev pub IsHeaderOfLevel : List ℕ → ℕ → Type 0
IsHeaderOfLevel atom found = (is_header atom ≡ true) × (found ≡ level atom) × (found < LEVELS_MAX)

-- The bytes are the code of this number, from the first to the last.
abbrev pub IsNumberCode : List ℕ → ℕ → Type 0
IsNumberCode bytes number = (number < 2 ^ 64) × (bytes ≡ unsigned_varint number)
