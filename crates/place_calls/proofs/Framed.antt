-- The bytes at the place of a slot are the frames of its part.
use Rattle.std.proofs.Common.{◌≡◌, ℕ, ◌+◌, ◌-◌, ◌≤◌, List, ◌++◌, length, take, drop, Option, Some, None, sym, ap, ◌∙◌, append_assoc, length-append, arith}
use Rattle.std.specs.List.{slice_range}
use Rattle.std.proofs.lemmas.List.{take_at, drop_at, take-append-drop}
use Rattle.std.proofs.lemmas.List.Folds.{drop_split}
use Rattle.context_model.specs.declared.Form.{Form}
use Rattle.context_model.specs.Atoms.{Atom}
use Rattle.context_model.specs.ContextFault.{IsContextOf}
use Rattle.context_model.specs.Ended.{field_path}
use Rattle.context_model.specs.Framing.{frames, head, head_len, written_in, bytes_in, form_of, bytes_of, offset_of}
use Rattle.context_model.proofs.FramingLaws.{frames-append, length-head}
use Rattle.bag_walks.specs.Slots.{IsSpanOf}
use Rattle.place_calls.proofs.Offsets.{written_as_read}
use Rattle.place_calls.specs.declared.places.Place.{Place}
use Rattle.place_calls.specs.Places.{HasBytesOf}
use Rattle.place_calls.specs.Parts.{part_of, PlacesHoldFrames}

cut_out : (front middle after : List ℕ) (start size : ℕ) → length front ≡ start → length middle ≡ size → slice_range (front ++ (middle ++ after)) start (start + size) ≡ middle
cut_out front middle after start size before own =
    let many : start + size - start ≡ size = omega arith in
    ap (λ n. take n (drop start (front ++ (middle ++ after)))) many
    ∙ ap (take size) (drop_at front (middle ++ after) start before)
    ∙ take_at middle after size own

-- In the bytes of a list in one form, the frames of its part from one place up to another are
-- between the offsets of the two.
framed_between : (width : Form) (list : List Atom) (from stop size : ℕ) → from ≤ stop
    → (head_len width + length (frames width (take from list))) + size ≡ head_len width + length (frames width (take stop list))
    → slice_range (bytes_in width list) (head_len width + length (frames width (take from list))) ((head_len width + length (frames width (take from list))) + size) ≡ frames width (slice_range list from stop)
framed_between width list from stop size rises ends =
    let start = head width (length (frames width list)) in
    let before = frames width (take from list) in
    let middle = frames width (slice_range list from stop) in
    let after = frames width (drop stop list) in
    let rest : frames width (drop from list) ≡ middle ++ after = ap (frames width) (drop_split list from stop rises) ∙ frames-append width (slice_range list from stop) (drop stop list) in
    let split : frames width list ≡ before ++ (middle ++ after) =
    ap (frames width) (sym (take-append-drop from list)) ∙ frames-append width (take from list) (drop from list) ∙ ap (λ bytes. before ++ bytes) rest in
    let other : frames width list ≡ frames width (take stop list) ++ after =
    ap (frames width) (sym (take-append-drop stop list)) ∙ frames-append width (take stop list) (drop stop list) in
    let whole : bytes_in width list ≡ (start ++ before) ++ (middle ++ after) = ap (λ bytes. start ++ bytes) split ∙ sym (append_assoc start before (middle ++ after)) in
    let long : length (start ++ before) ≡ head_len width + length before = length-append start before ∙ ap (λ n. n + length before) (length-head width (length (frames width list))) in
    let a : length (frames width list) ≡ length before + (length middle + length after) = ap length split ∙ length-append before (middle ++ after) ∙ ap (λ n. length before + n) (length-append middle after) in
    let b : length (frames width list) ≡ length (frames width (take stop list)) + length after = ap length other ∙ length-append (frames width (take stop list)) after in
    let own : length middle ≡ size = omega (arith, a, b, ends) in
    ap (λ bytes. slice_range bytes (head_len width + length before) ((head_len width + length before) + size)) whole
    ∙ cut_out (start ++ before) middle after (head_len width + length before) size long own

framed : (bytes : List ℕ) (list : List Atom) (s : List Atom) (place : Place) (from : Option ℕ) (stop : ℕ) → IsContextOf list bytes → IsSpanOf list s from stop → HasBytesOf (form_of bytes) list from stop place
    → slice_range bytes place.offset (place.offset + place.length) ≡ frames (form_of bytes) (part_of list from stop)
framed bytes list s place None stop context span has =
    let none : place.offset + place.length - place.offset ≡ 0 = omega (arith, has.1) in
    ap (λ n. take n (drop place.offset bytes)) none
framed bytes list s place (Some from) stop context span has =
    let form = form_of bytes in
    let width : form ≡ written_in form list = sym (written_as_read bytes list context) in
    let rises : from ≤ stop = span.1.part.rises in
    let at : place.offset ≡ offset_of form list from = has.0 in
    let ends : offset_of form list from + place.length ≡ offset_of form list stop = ap (λ n. n + place.length) (sym at) ∙ has.1 in
    ap (λ l. slice_range l place.offset (place.offset + place.length)) context.2
    ∙ ap (λ n. slice_range (bytes_of form list) n (n + place.length)) at
    ∙ framed_between (written_in form list) list from stop place.length rises ends
    ∙ ap (λ w. frames w (slice_range list from stop)) (sym width)

pub places_hold_frames : PlacesHoldFrames
places_hold_frames bytes list at place context typed = record {
  from = typed.from;
  stop = typed.stop;
  span = typed.span;
  frames = framed bytes list (field_path at.numbers) place typed.from typed.stop context typed.span typed.bytes;
}
