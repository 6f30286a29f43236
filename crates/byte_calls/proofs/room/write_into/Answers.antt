use Rattle.std.proofs.Common.{◌≡◌, ◌^◌, ◌<◌, length, refl, sym, ap, ◌∙◌, subst, arith}
use Rattle.context_model.specs.declared.Form.TheVariants.{One}
use Rattle.context_model.specs.Framing.{frames, bytes_of, size_of}
use Rattle.byte_calls.specs.Room.{HoldsBytes}
use Rattle.byte_calls.proofs.Sizes.{size_small, bytes_bare}
use Rattle.byte_calls.proofs.room.write_into.Goals as goal

pub overflow_cast-result : goal.overflow_cast-result
overflow_cast-result c =
    let small : size_of c.args.form c.args.list.now < 2 ^ 64 = size_small c.args.form c.args.list.now c.len-count.ensures.atoms c.len-count.ensures.light in
    omega (arith, c.size-size.ensures, small)

pub returns-in_ok-write_front-in-Some :
    goal.returns-in_ok-write_front-in-Some
returns-in_ok-write_front-in-Some c =
    let form = c.args.form in
    let list = c.args.list.now in
    let bare : length (frames One list) ≡ size_of form list = sym (ap length c.in-Some.ensures) ∙ c.if-bytes-size.true ∙ c.size-size.ensures in
    let are : c.in-Some.bytes.now ≡ bytes_of form list = c.in-Some.ensures ∙ bytes_bare form list c.len-count.ensures.atoms bare in
    (list, refl, subst (λ bytes. HoldsBytes bytes c.in_ok-write_front-in-Some.field-0 c.args.room.now c.write_front.new.room) are c.in_ok-write_front-in-Some.ensures)
