use Rattle.std.proofs.Common.{◌≡◌, refl, sym, ap, ◌∙◌, subst, arith}
use Rattle.context_model.specs.declared.Form.{Form}
use Rattle.context_model.specs.Framing.{written_in, size_of}
use Rattle.overflow_trim.proofs.Overs.{written_narrow}
use Rattle.byte_forward.proofs.Fitting.{trimmed_within}
use Rattle.byte_forward.proofs.Made.{not_long}
use Rattle.byte_forward.proofs.calls.write_cut.Goals as goal
use Rattle.byte_forward.proofs.calls.write_cut.Goals.{in-One, in-Two}

pub fill-requires : goal.fill-requires
fill-requires c =
    let given = c.requires in
    let list = given.0 in
    let f = given.1 in
    let form = c.args.cut.form in
    let as_asked : written_in form list ≡ form = elim c.match-cut.branch [
      | in-One w ↦ written_narrow form list (given.2 (not_long c.args.long (sym w.as_asked-is ∙ c.if-as_asked.true)))
      | in-Two w ↦ (let P : Form → Type 0 = λ f. written_in f list ≡ f in subst P (sym w.in-Two.is) refl)
    ] in
    let within = trimmed_within form f.rest c.args.cut.budget f.some in
    let size = ap (size_of form) f.whole in
    (list, f, sym as_asked, omega (arith, given.3, within, size, c.min.ensures, c.from.ensures, c.if-min-room.true))
