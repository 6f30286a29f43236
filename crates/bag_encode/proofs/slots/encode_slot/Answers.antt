use Rattle.std.proofs.Common.{◌≡◌, ◌++◌, ap, ◌∙◌, sym, subst}
use Rattle.bag_model.specs.Encodings.{IsEncoding}
use Rattle.bag_model.specs.SlotValues.{only}
use Rattle.bag_value.specs.Vals.{plain}
use Rattle.bag_encode.specs.Values.{field_atoms}
use Rattle.bag_encode.proofs.EncodingLaws.{IsEncoding-atoms, AreAtoms-fit}
use Rattle.bag_encode.proofs.SlotSteps.{only_shaped}
use Rattle.bag_encode.proofs.slots.encode_slot.Goals as goal

pub put_slot-requires-clause-fits : goal.put_slot-requires-clause-fits
put_slot-requires-clause-fits c =
    let nodes = c.args.table.now in
    let v = plain c.args.value.now in
    AreAtoms-fit nodes (only nodes c.args.slot v) c.known.ensures (only_shaped nodes c.args.slot v c.requires.slot c.requires.shape) c.requires.fits

pub of-requires : goal.of-requires
of-requires c =
    let nodes = c.args.table.now in
    let slot = c.args.slot in
    let v = plain c.args.value.now in
    let made : c.in_ok-finish.field-0 ≡ field_atoms nodes 0 (only nodes slot v) =
    c.in_ok-finish.ensures ∙ c.in_ok-put_slot.ensures ∙ ap (λ w. w ++ field_atoms nodes 0 (only nodes slot v)) c.in_ok-list.ensures
    in
    let encoded : IsEncoding nodes (only nodes slot v) c.in_ok-finish.field-0 =
    subst (IsEncoding nodes (only nodes slot v)) (sym made) (IsEncoding-atoms nodes (only nodes slot v) c.known.ensures (only_shaped nodes slot v c.requires.slot c.requires.shape))
    in
    encoded.well_formed

pub returns : goal.returns
returns c =
    let nodes = c.args.table.now in
    let slot = c.args.slot in
    let v = plain c.args.value.now in
    let made : c.of.result ≡ field_atoms nodes 0 (only nodes slot v) =
    c.of.ensures ∙ c.in_ok-finish.ensures ∙ c.in_ok-put_slot.ensures ∙ ap (λ w. w ++ field_atoms nodes 0 (only nodes slot v)) c.in_ok-list.ensures
    in
    subst (IsEncoding nodes (only nodes slot v)) (sym made) (IsEncoding-atoms nodes (only nodes slot v) c.known.ensures (only_shaped nodes slot v c.requires.slot c.requires.shape))
