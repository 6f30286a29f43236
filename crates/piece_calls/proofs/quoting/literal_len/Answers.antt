use Rattle.std.proofs.Common.{◌≡◌, ◌+◌, ◌*◌, length, subst, sym, arith}
use Rattle.hex.specs.Hex.{lower_digits}
use Rattle.hex.proofs.HexLemmas.{length-encode_with}
use Rattle.piece_calls.specs.Quoting.{literal_text}
use Rattle.piece_calls.specs.declared.quoting.Literal.{Literal}
use Rattle.piece_calls.proofs.quoting.literal_len.Goals as goal

pub returns-in-Bytes : goal.returns-in-Bytes
returns-in-Bytes c =
    let bytes = c.args.bytes.now in
    let P : Literal → Type 0 = λ literal. 2 + 2 * length bytes ≡ length (literal_text literal bytes) in
    subst P (sym c.in-Bytes.is) (omega (arith, length-encode_with lower_digits bytes))
