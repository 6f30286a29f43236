use Rattle.std.proofs.Common.{◌≡◌, ℕ, ◌+◌, ◌-◌, List, ◌∷◌, ◌++◌, length, drop, ap, sym, ◌∙◌, arith}
use Rattle.std.specs.List.{slice_set}
use Rattle.base64.specs.Engines.{url_safe_no_pad}
use Rattle.base64.specs.GeneralPurpose.{encode_of}
use Rattle.base64.specs.Rfc4648.{unpadded_len}
use borrow.Rule.Slice.PartMut.{put_mid}
use Rattle.header_text.specs.Texts.{check_letters, letters}
use Rattle.header_text.proofs.Letters.{encoded, length_check, length_letters, whole_text, written_front}
use Rattle.header_text.proofs.texts.write_text.Goals as goal

pub returns : goal.returns
returns c =
    let bytes = c.args.bytes.now in
    let room = c.args.room.now in
    let n : ℕ = unpadded_len (length bytes) in
    let u = c.unwrap-size.result in
    let out = c.encode_slice.new.output in
    let copied = c.copy_from_slice.new.self in
    let ok = c.encode_slice.ensures.fits (omega (arith, c.requires)) in
    let unwrapped = c.unwrap-size.ensures in
    let u_is : u ≡ n = cc (ok, unwrapped) in
    let written : out ≡ encode_of url_safe_no_pad bytes ++ drop n room = written_front (encode_of url_safe_no_pad bytes) room out n n c.encode_slice.result ok c.encode_slice.ensures.written in
    let out_is : out ≡ letters bytes ++ drop u room = written ∙ ap (λ (a : List ℕ). a ++ drop n room) (encoded bytes) ∙ ap (λ k. letters bytes ++ drop k room) (sym u_is) in
    let copy : copied ≡ check_letters bytes = c.copy_from_slice.ensures.after ∙ c.check_letters.ensures in
    ap (λ (o : List ℕ). put_mid (u + 1) (length (slice_set o u 46) - (u + 1)) (slice_set o u 46) copied) out_is
    ∙ whole_text (letters bytes) copied room u (length_letters bytes ∙ sym u_is) (omega (arith, c.requires, u_is)) (ap length copy ∙ length_check bytes)
    ∙ ap (λ (k : List ℕ). letters bytes ++ 46 ∷ k) copy
