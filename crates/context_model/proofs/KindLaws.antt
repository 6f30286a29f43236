-- At most one kind fits an atom, and what the first byte says of the kind.
use Rattle.std.proofs.Common.{◌≡◌, ◌-◌, ◌*◌, sym, refl, ap, ap₂, ◌∙◌, arith}
use Rattle.context_model.specs.Atoms.{Atom}
use Rattle.context_model.specs.Varints.{unsigned_varint}
use Rattle.context_model.specs.Kinds.{Kind, atom_of, IsKind, HasKind}
use Rattle.context_model.specs.Kinds.Kind.{Marker, Datum, Indexed, Keyed}
use Rattle.context_model.proofs.VarintLaws.{unsigned_varint-injective}

-- equal atoms have equal kinds
pub atom_of-injective : (j k : Kind) → IsKind j → IsKind k → atom_of j ≡ atom_of k → j ≡ k
atom_of-injective Marker Marker f g e = refl
atom_of-injective Marker (Datum p) f g e = cc
atom_of-injective Marker (Indexed l n) f g e = cc
atom_of-injective Marker (Keyed l k) f g e = cc
atom_of-injective (Datum p) Marker f g e = cc
atom_of-injective (Datum p) (Datum q) f g e = let t : p ≡ q = cc in ap Datum t
atom_of-injective (Datum p) (Indexed l n) f g e = let h : 0 ≡ 248 - 8 * l = cc in absurd (omega arith)
atom_of-injective (Datum p) (Keyed l k) f g e = let h : 0 ≡ 249 - 8 * l = cc in absurd (omega arith)
atom_of-injective (Indexed l n) Marker f g e = cc
atom_of-injective (Indexed l n) (Datum q) f g e = let h : 248 - 8 * l ≡ 0 = cc in absurd (omega arith)
atom_of-injective (Indexed l n) (Indexed m o) f g e =
    let h : 248 - 8 * l ≡ 248 - 8 * m = cc in
    let t : unsigned_varint n ≡ unsigned_varint o = cc in
    ap₂ Indexed (omega arith) (unsigned_varint-injective n o f.1 g.1 t)
atom_of-injective (Indexed l n) (Keyed m k) f g e = let h : 248 - 8 * l ≡ 249 - 8 * m = cc in absurd (omega arith)
atom_of-injective (Keyed l k) Marker f g e = cc
atom_of-injective (Keyed l k) (Datum q) f g e = let h : 249 - 8 * l ≡ 0 = cc in absurd (omega arith)
atom_of-injective (Keyed l k) (Indexed m o) f g e = let h : 249 - 8 * l ≡ 248 - 8 * m = cc in absurd (omega arith)
atom_of-injective (Keyed l k) (Keyed m j) f g e =
    let h : 249 - 8 * l ≡ 249 - 8 * m = cc in
    let t : k ≡ j = cc in
    ap₂ Keyed (omega arith) t

-- an atom has at most one kind
pub HasKind-unique : (atom : Atom) (f g : HasKind atom) → f.kind ≡ g.kind
HasKind-unique atom f g = atom_of-injective f.kind g.kind f.fits g.fits (sym f.spelled ∙ g.spelled)
