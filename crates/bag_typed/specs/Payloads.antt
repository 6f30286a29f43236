-- What payloads of data are to be.
use Rattle.std.specs.Prelude.{◌≡◌, ℕ, List, [], ◌∷◌}
use Rattle.context_model.specs.Atoms.{Atom}
use Rattle.bag_model.specs.Typed.{IsSpelling, IsCount}
use Rattle.scalar_types.specs.KindViews.{kind_of}
use Rattle.bag_typed.specs.declared.payloads.Payload.{Payload}
use Rattle.bag_typed.specs.declared.payloads.Payload.TheVariants.{Empty, Count, Scalar}

-- The bytes are such a payload.
abbrev pub IsPayload : Payload → List ℕ → Type 0
IsPayload Empty bytes = bytes ≡ []
IsPayload Count bytes = IsCount bytes
IsPayload (Scalar kind) bytes = IsSpelling (kind_of kind.now) bytes

-- Where the atom is a datum, its payload is a right one.
abbrev pub HasRight : (List ℕ → Type 0) → Atom → Type 0
HasRight Right a = (payload : List ℕ) → a ≡ 0 ∷ payload → Right payload

-- The atom is a datum whose payload isn't a right one.
abbrev pub HasWrong : (List ℕ → Type 0) → Atom → Type 0
HasWrong Right a = (payload : List ℕ) × (a ≡ 0 ∷ payload) × ¬ (Right payload)
