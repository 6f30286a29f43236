-- The spellings of scalars keep the order of the values: form by form, field by field, kind by kind.
use Rattle.std.proofs.Common.{◌≡◌, ℕ, ℤ, pos, Bool, true, false, List, [], ◌∷◌, ◌++◌, Ordering, Less, nat_cmp, int_cmp, sym, refl, ap, ap₂, ◌∙◌, arith}
use Rattle.std.proofs.lemmas.List.{append-nil, append_assoc}
use Rattle.std.proofs.lemmas.Bool.Decides.{nat_tests}
use Rattle.std.specs.Ordering.{ordering_then, bool_cmp}
use Rattle.std.specs.Cmp.Lexicographic.{slice_cmp}
use Rattle.context_model.proofs.Digits.{then-assoc}
use Rattle.bag_model.specs.Scalars.{Word, SpellingForm, TruthByte, UnsignedVarint, SignedVarint, FixedBytes, SignedFixedBytes, TextBytes, RawBytes, spelling_form_of, ScalarKind, Plain, Truth, Signed, Unsigned, Text, Octets, ScalarValue, IsOfForm, ArePlainsOf, IsScalarOf, plain_cmp, scalar_cmp, plain_spelling, field_spelling, packed_spelling, spelling}
use Rattle.bag_model.specs.SpellingLaws.{SpellingsKeepOrder}
use Rattle.bag_model.proofs.Codes.{KeepsOrder, then-equal, bytes_tied, code_order, code_apart}
use Rattle.bag_model.proofs.NumberCodes.{truth_code, unsigned_code, signed_code, fixed_code, signed_fixed_code, ended_code}
use Rattle.bag_model.proofs.ScalarOrder.{plain_exact, scalar_exact}

-- ---- the order of two values of one variant is that of what they hold

truth_cmp : (a b : Bool) → plain_cmp (Truth a) (Truth b) ≡ bool_cmp a b
truth_cmp false false = refl
truth_cmp false true = refl
truth_cmp true false = refl
truth_cmp true true = refl

signed_cmp : (y z : ℤ) → plain_cmp (Signed y) (Signed z) ≡ int_cmp y z
signed_cmp y z = then-equal (int_cmp y z)

unsigned_cmp : (m n : ℕ) → plain_cmp (Unsigned m) (Unsigned n) ≡ nat_cmp m n
unsigned_cmp m n = then-equal (int_cmp (pos m) (pos n)) ∙ from_zero
  where
    from_zero : int_cmp (pos m) (pos n) ≡ nat_cmp m n
    from_zero = grind (arith, nat_tests)

-- first the values, whose order this is, and then what follows
behind : (o p : Ordering) (s t : List ℕ) → p ≡ o → ordering_then o (slice_cmp nat_cmp s t) ≡ ordering_then p (slice_cmp nat_cmp s t)
behind o p s t e = ap (λ r. ordering_then r (slice_cmp nat_cmp s t)) (sym e)

-- ---- a field of a struct

field-order : (form : SpellingForm) (v w : Plain) (s t : List ℕ) → IsOfForm form v → IsOfForm form w
    → slice_cmp nat_cmp (field_spelling form v ++ s) (field_spelling form w ++ t) ≡ ordering_then (plain_cmp v w) (slice_cmp nat_cmp s t)
field-order TruthByte (Truth a) (Truth b) s t p q = truth_code.order a b s t p q ∙ behind _ _ s t (truth_cmp a b)
field-order (UnsignedVarint wide) (Unsigned m) (Unsigned n) s t p q = (unsigned_code wide).order m n s t p q ∙ behind _ _ s t (unsigned_cmp m n)
field-order (SignedVarint wide) (Signed y) (Signed z) s t p q = (signed_code wide).order y z s t p q ∙ behind _ _ s t (signed_cmp y z)
field-order (FixedBytes wide) (Unsigned m) (Unsigned n) s t p q = (fixed_code wide).order m n s t p q ∙ behind _ _ s t (unsigned_cmp m n)
field-order (SignedFixedBytes wide) (Signed y) (Signed z) s t p q = (signed_fixed_code wide).order y z s t p q ∙ behind _ _ s t (signed_cmp y z)
field-order TextBytes (Text a) (Text b) s t p q = ended_code.order a b s t tt tt
field-order RawBytes (Octets a) (Octets b) s t p q = ended_code.order a b s t tt tt
field-order form v w s t p q = absurd (search (p, q))

pub field_code : (form : SpellingForm) → KeepsOrder (IsOfForm form) (field_spelling form) plain_cmp
field_code form = record { order = field-order form; exact = plain_exact }

-- ---- a value by itself

pub plain_spelling-order : (form : SpellingForm) (v w : Plain) → IsOfForm form v → IsOfForm form w
    → slice_cmp nat_cmp (plain_spelling form v) (plain_spelling form w) ≡ plain_cmp v w
plain_spelling-order TextBytes (Text a) (Text b) p q = refl
plain_spelling-order RawBytes (Octets a) (Octets b) p q = refl
plain_spelling-order TruthByte v w p q = code_order (field_code TruthByte) v w p q
plain_spelling-order (UnsignedVarint wide) v w p q = code_order (field_code (UnsignedVarint wide)) v w p q
plain_spelling-order (SignedVarint wide) v w p q = code_order (field_code (SignedVarint wide)) v w p q
plain_spelling-order (FixedBytes wide) v w p q = code_order (field_code (FixedBytes wide)) v w p q
plain_spelling-order (SignedFixedBytes wide) v w p q = code_order (field_code (SignedFixedBytes wide)) v w p q
plain_spelling-order form v w p q = absurd (search (p, q))

-- ---- the fields of a struct

packed-order : (words : List Word) (vs ws : List Plain) (s t : List ℕ) → ArePlainsOf words vs → ArePlainsOf words ws
    → slice_cmp nat_cmp (packed_spelling words vs ++ s) (packed_spelling words ws ++ t) ≡ ordering_then (slice_cmp plain_cmp vs ws) (slice_cmp nat_cmp s t)
packed-order [] [] [] s t p q = refl
packed-order (word ∷ words) (v ∷ vs) (w ∷ ws) s t p q =
    let form : SpellingForm = spelling_form_of word in
    ap₂ (slice_cmp nat_cmp) (append_assoc (field_spelling form v) (packed_spelling words vs) s) (append_assoc (field_spelling form w) (packed_spelling words ws) t)
    ∙ field-order form v w (packed_spelling words vs ++ s) (packed_spelling words ws ++ t) p.0 q.0
    ∙ ap (λ o. ordering_then (plain_cmp v w) o) (packed-order words vs ws s t p.1 q.1)
    ∙ sym (then-assoc (plain_cmp v w) (slice_cmp plain_cmp vs ws) (slice_cmp nat_cmp s t))
packed-order words vs ws s t p q = absurd (search (p, q))

-- ---- a value of any kind

pub spelling-order : (kind : ScalarKind) (v w : ScalarValue) → IsScalarOf kind v → IsScalarOf kind w
    → slice_cmp nat_cmp (spelling kind v) (spelling kind w) ≡ scalar_cmp v w
spelling-order (ScalarKind.One word) (ScalarValue.One v) (ScalarValue.One w) p q =
    plain_spelling-order (spelling_form_of word) v w p q ∙ sym (then-equal (plain_cmp v w))
spelling-order (ScalarKind.Packed words) (ScalarValue.Packed vs) (ScalarValue.Packed ws) p q =
    ap₂ (slice_cmp nat_cmp) (sym (append-nil (packed_spelling words vs))) (sym (append-nil (packed_spelling words ws)))
    ∙ packed-order words vs ws [] [] p q ∙ then-equal (slice_cmp plain_cmp vs ws)
spelling-order kind v w p q = absurd (search (p, q))

-- a lesser value has the lesser spelling
pub spelling-less : (kind : ScalarKind) (v w : ScalarValue) → IsScalarOf kind v → IsScalarOf kind w
    → scalar_cmp v w ≡ Less → slice_cmp nat_cmp (spelling kind v) (spelling kind w) ≡ Less
spelling-less kind v w p q e = spelling-order kind v w p q ∙ e

pub spelling-one : (kind : ScalarKind) (v w : ScalarValue) → IsScalarOf kind v → IsScalarOf kind w → spelling kind v ≡ spelling kind w → v ≡ w
spelling-one kind v w p q e = scalar_exact v w (sym (spelling-order kind v w p q) ∙ bytes_tied (spelling kind v) (spelling kind w) e)

pub spellings_keep_order : SpellingsKeepOrder
spellings_keep_order = record {
  order = spelling-order;
  one_value = spelling-one;
  fields_apart = λ word v w s t p q e. code_apart (field_code (spelling_form_of word)) v w s t p q e;
}
