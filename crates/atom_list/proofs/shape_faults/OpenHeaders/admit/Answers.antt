use Rattle.std.proofs.Common.{◌≡◌, ℕ, List, [], Ok, Err, slice_get, option_copied, Some, sym, ◌∙◌, ap, subst}
use Rattle.std.proofs.lemmas.Option.{get_or_from_slice_get}
use Rattle.context_model.specs.Kinds.{HasBadPrefix, HasBadIndex}
use Rattle.context_model.specs.Paths.{path_after}
use Rattle.atom_kinds.specs.declared.Kind.TheVariants.{Marker, Datum, Indexed, Keyed}
use Rattle.atom_list.specs.OpenPlaces.{atom_at, path_before, IsOpenPath, IsHeaderOf, MayStandBehind}
use Rattle.atom_list.proofs.Opening.{told_datum, told_marker, told_indexed, told_keyed, marker_follows, marker_opens}
use Rattle.atom_list.proofs.Walking.{path_next}
use Rattle.atom_list.proofs.shape_faults.OpenHeaders.admit.Goals as goal

-- What the look-up gave is the atom at the place.
is_there : (list : List (List ℕ)) (at : ℕ) (x : List ℕ) → slice_get list at ≡ Some x → x ≡ atom_at list at
is_there list at x there = sym (get_or_from_slice_get list at x [] there)

pub admit_datum-requires-clause-atom : goal.admit_datum-requires-clause-atom
admit_datum-requires-clause-atom c = is_there c.args.list.now c.args.at c.unwrap-atom.result.now (sym c.get.ensures.value ∙ ap option_copied c.unwrap-atom.ensures)

pub admit_header-requires-clause-atom : goal.admit_header-requires-clause-atom
admit_header-requires-clause-atom c = is_there c.args.list.now c.args.at c.unwrap-atom.result.now (sym c.get.ensures.value ∙ ap option_copied c.unwrap-atom.ensures)

pub admit_header-requires-in-Ok-Keyed-clause-atom : goal.admit_header-requires-in-Ok-Keyed-clause-atom
admit_header-requires-in-Ok-Keyed-clause-atom c = is_there c.args.list.now c.args.at c.unwrap-atom.result.now (sym c.get.ensures.value ∙ ap option_copied c.unwrap-atom.ensures)

pub admit_datum-requires-clause-datum : goal.admit_datum-requires-clause-datum
admit_datum-requires-clause-datum c =
    let same = is_there c.args.list.now c.args.at c.unwrap-atom.result.now (sym c.get.ensures.value ∙ ap option_copied c.unwrap-atom.ensures) in
    let told = told_datum c.unwrap-atom.result.now ((c.in-Ok-Datum.ensures.kind Datum).0 (ap Ok c.in-Ok-Datum.field-0-is)) in
    (told.0, sym same ∙ told.1)

pub admit_header-requires-clause-header : goal.admit_header-requires-clause-header
admit_header-requires-clause-header c =
    let same = is_there c.args.list.now c.args.at c.unwrap-atom.result.now (sym c.get.ensures.value ∙ ap option_copied c.unwrap-atom.ensures) in
    let header = told_indexed c.unwrap-atom.result.now c.in-Ok-Indexed.level c.in-Ok-Indexed.field-0-1 ((c.in-Ok-Indexed.ensures.kind (Indexed c.in-Ok-Indexed.level c.in-Ok-Indexed.field-0-1)).0 (ap Ok c.in-Ok-Indexed.field-0-is)) in
    subst (IsHeaderOf (atom_at c.args.list.now c.args.at)) (sym c.from.ensures) (subst (λ a. IsHeaderOf a c.in-Ok-Indexed.level) same header)

pub admit_header-requires-in-Ok-Keyed-clause-header : goal.admit_header-requires-in-Ok-Keyed-clause-header
admit_header-requires-in-Ok-Keyed-clause-header c =
    let same = is_there c.args.list.now c.args.at c.unwrap-atom.result.now (sym c.get.ensures.value ∙ ap option_copied c.unwrap-atom.ensures) in
    let header = told_keyed c.unwrap-atom.result.now c.in-Ok-Keyed.level ((c.in-Ok-Keyed.ensures.kind (Keyed c.in-Ok-Keyed.level)).0 (ap Ok c.in-Ok-Keyed.field-0-is)) in
    subst (IsHeaderOf (atom_at c.args.list.now c.args.at)) (sym c.from-in-Ok-Keyed.ensures) (subst (λ a. IsHeaderOf a c.in-Ok-Keyed.level) same header)

pub returns-in-Ok-Marker-clause-ok : goal.returns-in-Ok-Marker-clause-ok
returns-in-Ok-Marker-clause-ok c =
    let same = is_there c.args.list.now c.args.at c.unwrap-atom.result.now (sym c.get.ensures.value ∙ ap option_copied c.unwrap-atom.ensures) in
    let marker = told_marker c.unwrap-atom.result.now ((c.in-Ok-Marker.ensures.kind Marker).0 (ap Ok c.in-Ok-Marker.field-0-is)) in
    subst (MayStandBehind (path_before c.args.list.now c.args.at)) (sym marker ∙ same) (marker_follows (path_before c.args.list.now c.args.at))

pub returns-in-Ok-Marker-clause-open : goal.returns-in-Ok-Marker-clause-open
returns-in-Ok-Marker-clause-open c =
    let list = c.args.list.now in
    let q = path_before list c.args.at in
    let same = is_there list c.args.at c.unwrap-atom.result.now (sym c.get.ensures.value ∙ ap option_copied c.unwrap-atom.ensures) in
    let marker = told_marker c.unwrap-atom.result.now ((c.in-Ok-Marker.ensures.kind Marker).0 (ap Ok c.in-Ok-Marker.field-0-is)) in
    subst (λ p. IsOpenPath list p c.args.self.now.headers c.args.self.now.datum) (sym (path_next list c.args.at c.requires.at))
    (subst (λ a. IsOpenPath list (path_after q a) c.args.self.now.headers c.args.self.now.datum) (sym marker ∙ same) (marker_opens list q _ _ c.requires.«open»))

pub returns-in-Err-BadPrefix-clause-err : goal.returns-in-Err-BadPrefix-clause-err
returns-in-Err-BadPrefix-clause-err c =
    let same = is_there c.args.list.now c.args.at c.unwrap-atom.result.now (sym c.get.ensures.value ∙ ap option_copied c.unwrap-atom.ensures) in
    subst HasBadPrefix same (c.in-Err-BadPrefix.ensures.prefix.0 (ap Err c.in-Err-BadPrefix.field-0-is))

pub returns-in-Err-BadIndex-clause-err : goal.returns-in-Err-BadIndex-clause-err
returns-in-Err-BadIndex-clause-err c =
    let same = is_there c.args.list.now c.args.at c.unwrap-atom.result.now (sym c.get.ensures.value ∙ ap option_copied c.unwrap-atom.ensures) in
    subst HasBadIndex same (c.in-Err-BadIndex.ensures.index.0 (ap Err c.in-Err-BadIndex.field-0-is))
