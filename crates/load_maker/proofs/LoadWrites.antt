-- What the load writes to its slots, as texts of their shapes.
use Rattle.std.proofs.Common.{◌≡◌, inl, ℕ, ◌+◌, ◌^◌, ◌<◌, ◌≤◌, ◌==◌, ◌||◌, Bool, false, Some, List, [], ◌∷◌, ◌++◌, length, codes, refl, sym, ap, ◌∙◌, subst, arith}
use Rattle.std.specs.Prelude.{nat_le}
use Rattle.std.proofs.lemmas.Bool.{ne_eqb}
use Rattle.std.proofs.lemmas.Fmt.{decimal_digit, decimal_is_IsNumeral}
use Rattle.std.proofs.lemmas.List.Sums.{count_by-le-length}
use Rattle.std.specs.Fmt.{decimal}
use Rattle.context_model.specs.declared.Form.TheVariants.{One}
use Rattle.context_model.specs.Varints.{big_endian, unsigned_form, unsigned_tail, unsigned_varint}
use Rattle.context_model.proofs.Digits.{length-big_endian}
use Rattle.bag_model.specs.declared.Pick.TheVariants.{Least}
use Rattle.bag_model.specs.declared.words.ScalarWord.TheVariants.{Uint32, Fixed32}
use Rattle.bag_model.specs.Scalars as scalars
use Rattle.bag_model.specs.Scalars.{ScalarValue, Unsigned}
use Rattle.bag_model.specs.Shapes as shapes
use Rattle.bag_model.specs.Values as values
use Rattle.bag_model.specs.Values.{Value}
use Rattle.text_model.specs.ScalarTexts.{is_marked}
use Rattle.field_writes.specs.Literals.{SaysByte, IsWriter}
use Rattle.field_writes.specs.Writes.{IsWrite}
use Rattle.load_maker.specs.Loads.{hit}
use Rattle.load_maker.proofs.CleanLines.{AreClean, clean_number, clean_utf8}

-- A text of the shape says some value, in form one.
abbrev pub SaysValue : shapes.Shape → List ℕ → Type 0
SaysValue shape text = (v : Value) × IsWrite One shape v text

-- ---- numbers

short_varint : (n : ℕ) → length (unsigned_varint n) ≤ 9
unfolding unsigned_varint unsigned_form unsigned_tail
short_varint n =
    let limits : List ℕ = 2 ^ 7 ∷ 2 ^ 14 ∷ 2 ^ 21 ∷ 2 ^ 28 ∷ 2 ^ 35 ∷ 2 ^ 42 ∷ 2 ^ 49 ∷ 2 ^ 56 ∷ [] in
    let tail : unsigned_tail n ≤ 8 = count_by-le-length (λ limit. nat_le limit n) limits in
    let rest : length (big_endian (unsigned_tail n) n) ≡ unsigned_tail n = length-big_endian (unsigned_tail n) n in
    omega (arith, tail, rest)

pub some_digit : (n : ℕ) → n < 2 ^ 64 → 0 < length (decimal n)
some_digit n small = (decimal_is_IsNumeral n small).0.0

pub says_least : (n : ℕ) → n < 2 ^ 32 → SaysValue (shapes.Scalar Least (scalars.ScalarKind.One Fixed32)) (decimal n)
says_least n small =
    (values.Scalar Least (Some (ScalarValue.One (Unsigned n))), (ScalarValue.One (Unsigned n), (small, omega arith, refl), refl))

pub says_seen : (n : ℕ) → n < 2 ^ 32 → SaysValue (shapes.Set (scalars.ScalarKind.One Uint32)) (decimal n)
says_seen n small =
    (values.Set (scalars.ScalarKind.One Uint32) (ScalarValue.One (Unsigned n) ∷ []), (ScalarValue.One (Unsigned n), (small, (let few = short_varint n in omega (arith, few)), refl), refl))

-- ---- counts

-- The bytes of a lane's writer.
abbrev writer : ℕ → List ℕ
writer lane = 119 ∷ (48 + lane) ∷ []

writer_clean : (lane : ℕ) → lane < 8 → AreClean (writer lane)
writer_clean lane few = ((omega arith, omega arith), ((omega (arith, few), omega (arith, few)), tt))

unmarked : (lane : ℕ) → lane < 8 → is_marked (48 + lane) ≡ false
unmarked lane few =
    let quote : (48 + lane ≡ 34) → ⊥ = λ e. omega (arith, e) in
    let slash : (48 + lane ≡ 92) → ⊥ = λ e. omega (arith, few, e) in
    ap (λ (b : Bool). b || (48 + lane == 92)) (ne_eqb (48 + lane) 34 quote) ∙ ne_eqb (48 + lane) 92 slash

writer_said : (lane : ℕ) → lane < 8 → IsWriter One (writer lane) (codes "\"" ++ writer lane ++ codes "\"")
writer_said lane few =
    let w : SaysByte 119 (119 ∷ []) = inl (refl, omega arith, refl) in
    let digit : SaysByte (48 + lane) ((48 + lane) ∷ []) = inl (refl, omega arith, unmarked lane few) in
    inl (clean_utf8 (writer lane) (writer_clean lane few), omega arith, (writer lane, (119 ∷ [], (48 + lane) ∷ [], w, ((48 + lane) ∷ [], [], digit, refl, refl), refl), refl))

hit_parts : (round lane : ℕ) → lane < 8 → hit round lane ≡ (codes "\"" ++ writer lane ++ codes "\"") ++ codes ":" ++ decimal (round + 1)
hit_parts round lane few = ap (λ (digit : List ℕ). codes "\"w" ++ digit ++ codes "\":" ++ decimal (round + 1)) (decimal_digit lane (omega (arith, few)))

pub says_hit : (round lane : ℕ) → lane < 8 → round < 1000 → SaysValue shapes.Counter (hit round lane)
says_hit round lane few small =
    (values.Counter ((writer lane, round + 1) ∷ []), (writer lane, round + 1, codes "\"" ++ writer lane ++ codes "\"", writer_said lane few, omega (arith, small), hit_parts round lane few, refl))

pub clean_hit : (round lane : ℕ) → lane < 8 → round < 1000 → AreClean (hit round lane)
clean_hit round lane few small =
    subst AreClean (sym (hit_parts round lane few))
    ((omega arith, omega arith), ((omega arith, omega arith), ((omega (arith, few), omega (arith, few)), ((omega arith, omega arith), ((omega arith, omega arith), clean_number (round + 1) (omega (arith, small)))))))

pub some_hit : (round lane : ℕ) → 0 < length (hit round lane)
some_hit round lane = omega arith
