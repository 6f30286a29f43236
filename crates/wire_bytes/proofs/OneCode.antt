-- A code is known by what it says.
use Rattle.std.proofs.Common.{◌≡◌, refl, sym, ◌∙◌, ap}
use Rattle.context_model.specs.ByteCodes.{ByteCode as PlainCode}
use Rattle.context_model.specs.ByteCodes as plain
use Rattle.wire_bytes.specs.declared.contexts.ByteCode.{ByteCode}
use Rattle.wire_bytes.specs.declared.contexts.ByteCode.TheVariants.{CutLength, BadCount, AtomTooLong, LongForm, CutBody, BadPrefix, BadIndex, LevelJump, OutOfOrder}
use Rattle.wire_bytes.specs.Reading.{byte_code_of}

code_back : PlainCode → ByteCode
code_back plain.ByteCode.CutLength = CutLength
code_back plain.ByteCode.BadCount = BadCount
code_back plain.ByteCode.AtomTooLong = AtomTooLong
code_back plain.ByteCode.LongForm = LongForm
code_back plain.ByteCode.CutBody = CutBody
code_back plain.ByteCode.BadPrefix = BadPrefix
code_back plain.ByteCode.BadIndex = BadIndex
code_back plain.ByteCode.LevelJump = LevelJump
code_back plain.ByteCode.OutOfOrder = OutOfOrder

code_back-byte_code_of : (code : ByteCode) → code_back (byte_code_of code) ≡ code
unfolding code_back
code_back-byte_code_of CutLength = refl
code_back-byte_code_of BadCount = refl
code_back-byte_code_of AtomTooLong = refl
code_back-byte_code_of LongForm = refl
code_back-byte_code_of CutBody = refl
code_back-byte_code_of BadPrefix = refl
code_back-byte_code_of BadIndex = refl
code_back-byte_code_of LevelJump = refl
code_back-byte_code_of OutOfOrder = refl

pub one_code : (c d : ByteCode) → byte_code_of c ≡ byte_code_of d → c ≡ d
one_code c d e = sym (code_back-byte_code_of c) ∙ ap code_back e ∙ code_back-byte_code_of d
