-- Where the bytes of an atom are, and what the form changes.
use Rattle.std.proofs.Common.{◌≡◌, ℕ, ◌+◌, Bool, true, false, if◌then◌else◌, List, ◌++◌, length, take, drop, refl, sym, ◌∙◌, ap, append_assoc, length-append, arith}
use Rattle.std.proofs.lemmas.List.{take_at, take-append-drop}
use Rattle.context_model.specs.declared.TheConstants.{HEAD_LEN}
use Rattle.context_model.specs.declared.Form.{Form}
use Rattle.context_model.specs.declared.Form.TheVariants.{One, Two}
use Rattle.context_model.specs.Atoms.{Atom, AreAtoms}
use Rattle.context_model.specs.Framing.{frames, head, head_len, has_long, written_in, bytes_of, size_of, offset_of}
use Rattle.context_model.proofs.FramingLaws.{frames-append, frames_lens, length-head, size_is}
use Rattle.wire_bytes.specs.Laws.{OffsetsStand, FormsDifferByHead}

pub offsets_stand : OffsetsStand
offsets_stand form list place =
    let width = written_in form list in
    let before = frames width (take place list) in
    let after = frames width (drop place list) in
    let start = head width (length (frames width list)) in
    let split : frames width list ≡ before ++ after =
    ap (frames width) (sym (take-append-drop place list)) ∙ frames-append width (take place list) (drop place list) in
    let whole : bytes_of form list ≡ (start ++ before) ++ after = ap (λ bytes. start ++ bytes) split ∙ sym (append_assoc start before after) in
    let long : length (start ++ before) ≡ offset_of form list place =
    length-append start before ∙ ap (λ n. n + length before) (length-head width (length (frames width list))) in
    let front : take (offset_of form list place) (bytes_of form list) ≡ start ++ before =
    ap (take (offset_of form list place)) whole ∙ take_at (start ++ before) after (offset_of form list place) long in
    whole ∙ ap (λ bytes. bytes ++ after) (sym front)

pub forms_differ_by_head : FormsDifferByHead
forms_differ_by_head list short = by (has_long list) refl
  where
    by : (long : Bool) → has_long list ≡ long
        → size_of Two list ≡ (if has_long list then 0 else HEAD_LEN) + size_of One list
    by true e =
        let one : written_in One list ≡ Two = ap (λ long. if long then Two else One) e in
        let wide = size_is Two list in
        let narrow = size_is One list ∙ ap (λ width. head_len width + length (frames width list)) one in
        let more : (if has_long list then 0 else HEAD_LEN) ≡ 0 = ap (λ long. if long then 0 else HEAD_LEN) e in
        omega arith
    by false e =
        let one : written_in One list ≡ One = ap (λ long. if long then Two else One) e in
        let wide = size_is Two list in
        let narrow = size_is One list ∙ ap (λ width. head_len width + length (frames width list)) one in
        let more : (if has_long list then 0 else HEAD_LEN) ≡ HEAD_LEN = ap (λ long. if long then 0 else HEAD_LEN) e in
        let same = frames_lens list short in
        omega arith
