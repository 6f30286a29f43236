-- Known values and their bytes, computed from the definitions.
use Rattle.std.proofs.Common.{◌≡◌, pos, negsuc, true, false, [], ◌∷◌, Less, refl}
use Rattle.context_model.specs.Varints.{unsigned_varint, unsigned_form, unsigned_tail, signed_varint, signed_form, signed_tail, natural_form, natural_tail, complement}
use Rattle.bag_model.specs.declared.words.ScalarWord.TheVariants.{Bool as Boolean, Int32, Uint64, Fixed32, Sfixed32, Sfixed64, Str, Bytes}
use Rattle.bag_model.specs.Scalars as model
use Rattle.bag_model.specs.Scalars.{Truth, Signed, Unsigned, Text, Octets, spelling, scalar_cmp}

truth_row : spelling (model.ScalarKind.One Boolean) (model.ScalarValue.One (Truth true)) ≡ 1 ∷ []
truth_row = refl

fixed_row : spelling (model.ScalarKind.One Fixed32) (model.ScalarValue.One (Unsigned 7)) ≡ 0 ∷ 0 ∷ 0 ∷ 7 ∷ []
fixed_row = refl

below_zero_row : spelling (model.ScalarKind.One Sfixed32) (model.ScalarValue.One (Signed (negsuc 0))) ≡ 127 ∷ 255 ∷ 255 ∷ 255 ∷ []
below_zero_row = refl

zero_row : spelling (model.ScalarKind.One Sfixed32) (model.ScalarValue.One (Signed (pos 0))) ≡ 128 ∷ 0 ∷ 0 ∷ 0 ∷ []
zero_row = refl

least_row : spelling (model.ScalarKind.One Sfixed64) (model.ScalarValue.One (Signed (negsuc 9223372036854775807))) ≡ 0 ∷ 0 ∷ 0 ∷ 0 ∷ 0 ∷ 0 ∷ 0 ∷ 0 ∷ []
least_row = refl

unsigned_row : spelling (model.ScalarKind.One Uint64) (model.ScalarValue.One (Unsigned 16383)) ≡ 191 ∷ 255 ∷ []
unfolding unsigned_varint unsigned_form unsigned_tail
unsigned_row = refl

-- a text with a zero byte, and -1
struct_row : spelling (model.ScalarKind.Packed (Str ∷ Int32 ∷ [])) (model.ScalarValue.Packed (Text (97 ∷ 0 ∷ []) ∷ Signed (negsuc 0) ∷ [])) ≡ 97 ∷ 0 ∷ 255 ∷ 0 ∷ 1 ∷ 127 ∷ []
unfolding signed_varint signed_form signed_tail natural_form natural_tail complement
struct_row = refl

-- an empty field between two others
empty_row : spelling (model.ScalarKind.Packed (Boolean ∷ Bytes ∷ Boolean ∷ [])) (model.ScalarValue.Packed (Truth true ∷ Octets [] ∷ Truth false ∷ [])) ≡ 1 ∷ 0 ∷ 1 ∷ 0 ∷ []
empty_row = refl

order_row : scalar_cmp (model.ScalarValue.Packed (Text (97 ∷ []) ∷ Signed (pos 5) ∷ [])) (model.ScalarValue.Packed (Text (97 ∷ 0 ∷ []) ∷ Signed (pos 1) ∷ [])) ≡ Less
order_row = refl
