-- What the first byte of an atom says of its kind, and the three clauses of an answer.
use Rattle.std.proofs.Common.{◌≡◌, ℕ, ◌-◌, ◌*◌, ◌/◌, ◌%◌, ◌^◌, ◌<◌, ◌≤◌, ◌↔◌, List, ◌∷◌, Result, Ok, Err, refl, ap, ◌∙◌, subst, arith, get_or}
use Rattle.context_model.specs.Varints.{unsigned_varint}
use Rattle.context_model.specs.Kinds.{atom_of, IsKind, HasKind, HasBadPrefix, HasBadIndex}
use Rattle.context_model.specs.Kinds.{Kind as PlainKind}
use Rattle.context_model.specs.Kinds.Kind.{Marker as PlainMarker, Datum as PlainDatum, Indexed as PlainIndexed, Keyed as PlainKeyed}
use Rattle.context_model.proofs.KindLaws.{HasKind-unique}
use Rattle.atom_kinds.specs.declared.Kind.{Kind}
use Rattle.atom_kinds.specs.declared.KindFault.{KindFault}
use Rattle.atom_kinds.specs.declared.KindFault.TheVariants.{BadPrefix, BadIndex}
use Rattle.atom_kinds.specs.Kinds.{outer_kind, TellsKind}

pub record Answers (atom : List ℕ) (result : Result Kind KindFault) : Type 0 where
  pub kind : (kind : Kind) → (result ≡ Ok kind) ↔ TellsKind atom kind
  pub prefix : (result ≡ Err BadPrefix) ↔ HasBadPrefix atom
  pub index : (result ≡ Err BadIndex) ↔ HasBadIndex atom

pub kind_at : (atom : List ℕ) (k : PlainKind) → IsKind k → atom ≡ atom_of k → Answers atom (Ok (outer_kind k))
kind_at atom k f e = record {
  kind = λ kind. ((λ s. let t : outer_kind k ≡ kind = cc in (has, t)), λ (g, t). ap Ok (ap outer_kind (HasKind-unique atom has g) ∙ t));
  prefix = ((λ s. cc), λ b. absurd (b.none has));
  index = ((λ s. cc), λ b. absurd (b.none has));
}
  where
    has : HasKind atom
    has = record { kind = k; fits = f; spelled = e }

pub bad_index : (atom : List ℕ) → HasBadIndex atom → Answers atom (Err BadIndex)
bad_index atom b = record {
  kind = λ kind. ((λ s. cc), λ (g, t). absurd (b.none g));
  prefix = ((λ s. cc), λ p. absurd (p.other b.like));
  index = ((λ s. b), λ s. refl);
}

-- the first byte of an atom that has a kind: that of a datum, of an indexed header or of a keyed header
data StartsAs (first : ℕ) (rest : List ℕ) : Type 0 where
  datum : first ≡ 0 → StartsAs first rest
  indexed : (level number : ℕ) → level < 16 → number < 2 ^ 64 → first ≡ 248 - 8 * level → rest ≡ unsigned_varint number → StartsAs first rest
  keyed : (level : ℕ) → level < 16 → first ≡ 249 - 8 * level → StartsAs first rest

starts : (first : ℕ) (rest : List ℕ) (k : PlainKind) → IsKind k → first ∷ rest ≡ atom_of k → StartsAs first rest
starts first rest PlainMarker f e = cc
starts first rest (PlainDatum payload) f e = let h : first ≡ 0 = cc in datum h
starts first rest (PlainIndexed level number) f e =
    let h : first ≡ 248 - 8 * level = cc in
    let t : rest ≡ unsigned_varint number = cc in
    indexed level number f.0 f.1 h t
starts first rest (PlainKeyed level key) f e = let h : first ≡ 249 - 8 * level = cc in keyed level f h

pub level_below : (first : ℕ) → 128 ≤ first → (255 - first) / 8 < 16
level_below first h = omega arith

pub index_byte : (first : ℕ) → 128 ≤ first → first < 256 → first % 8 ≡ 0 → first ≡ 248 - 8 * ((255 - first) / 8)
index_byte first l h e = omega arith

pub key_byte : (first : ℕ) → 128 ≤ first → first < 256 → first % 8 ≡ 1 → first ≡ 249 - 8 * ((255 - first) / 8)
key_byte first l h e = omega arith

-- an indexed header with another rest
pub no_number : (first : ℕ) (rest : List ℕ) → 128 ≤ first → first < 256 → first % 8 ≡ 0 → ((number : ℕ) → number < 2 ^ 64 → rest ≡ unsigned_varint number → ⊥) → HasBadIndex (first ∷ rest)
no_number first rest l h e never = record {
  none = λ f. by (starts first rest f.kind f.fits f.spelled);
  like = record { level = (255 - first) / 8; rest = rest; fits = level_below first l; begins = λ i. index_byte first l h e i ∷ rest };
}
  where
    by : StartsAs first rest → ⊥
    by (datum z) = omega arith
    by (indexed level number a b t r) = never number b r
    by (keyed level a t) = omega arith

pub header_indexed : (first : ℕ) (rest : List ℕ) (number : ℕ) → 128 ≤ first → first < 256 → first % 8 ≡ 0 → rest ≡ unsigned_varint number → first ∷ rest ≡ atom_of (PlainIndexed ((255 - first) / 8) number)
header_indexed first rest number l h e r = λ i. index_byte first l h e i ∷ r i

pub header_keyed : (first : ℕ) (rest : List ℕ) → 128 ≤ first → first < 256 → first % 8 ≡ 1 → first ∷ rest ≡ atom_of (PlainKeyed ((255 - first) / 8) rest)
header_keyed first rest l h e = λ i. key_byte first l h e i ∷ rest

pub first_byte : (atom : List ℕ) (first : ℕ) (rest : List ℕ) → atom ≡ first ∷ rest → get_or atom 0 0 < 256 → first < 256
first_byte atom first rest e h = subst (λ v. get_or v 0 0 < 256) e h
