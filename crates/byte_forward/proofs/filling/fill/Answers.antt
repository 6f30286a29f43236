use Rattle.std.proofs.Common.{◌≡◌, ◌+◌, ◌-◌, ◌≤◌, ◌++◌, length, take, drop, sym, ap, ◌∙◌, subst, arith}
use Rattle.context_model.specs.declared.Form.TheVariants.{Two}
use Rattle.context_model.specs.Framing.{frames, head, head_len, bytes_in, written_in}
use Rattle.context_model.proofs.FramingLaws.{size_is}
use Rattle.byte_forward.specs.Room.{HoldsBytes}
use Rattle.byte_forward.proofs.Rooms.{put_before}
use Rattle.byte_forward.proofs.filling.fill.Goals as goal

pub returns-in-Two : goal.returns-in-Two
returns-in-Two c =
    let old = c.args.room.now in
    let form = c.args.cut.form in
    let count = c.put_frames-count.result in
    let put = c.put_frames-count.ensures in
    let list = put.0 in
    let two : written_in form list ≡ Two = sym put.2 ∙ c.in-Two.is in
    let given = c.requires in
    let wide : written_in form given.0 ≡ Two = sym given.2 ∙ c.in-Two.is in
    let within : 12 ≤ length old = omega (arith, given.3, size_is form given.0, ap head_len wide) in
    let body = subst (λ width. HoldsBytes (frames width list) count (take (length old - 12) (drop 12 old)) c.put_frames-count.new.room) c.in-Two.is put.3 in
    let all = put_before (head Two count) (frames Two list) old c.put_frames-count.new.room c.put_head.new.room 12 count within body c.put_head.ensures in
    let bytes : head Two count ++ frames Two list ≡ bytes_in (written_in form list) list =
    ap (λ n. head Two n ++ frames Two list) body.0 ∙ ap (λ width. bytes_in width list) (sym two) in
    (list, put.1, subst (λ written. HoldsBytes written (12 + count) old c.put_head.new.room) bytes all)
