use Rattle.std.proofs.Common.{Ok, sym, ap, subst}
use Rattle.context_model.specs.Paths.{path_after}
use Rattle.atom_kinds.specs.declared.Kind.TheVariants.{Marker, Datum, Indexed, Keyed}
use Rattle.atom_list.specs.OpenPlaces.{IsHeaderOf, MayStandBehind}
use Rattle.byte_frames.specs.OpenAtoms.{IsOpenFor, opened_by}
use Rattle.byte_frames.proofs.Opening.{marker_follows, marker_opens, told_datum, told_marker, told_indexed, told_keyed}
use Rattle.byte_frames.proofs.open_atoms.OpenHeaders.admit.Goals as goal

pub admit_datum-requires : goal.admit_datum-requires
admit_datum-requires c = told_datum c.args.atom.now ((c.in-Ok-Datum.ensures.kind Datum).0 (ap Ok c.in-Ok-Datum.field-0-is))

pub admit_header-requires : goal.admit_header-requires
admit_header-requires c =
    let kind = Indexed c.in-Ok-Indexed.level c.in-Ok-Indexed.field-0-1 in
    let header = told_indexed c.args.atom.now c.in-Ok-Indexed.level c.in-Ok-Indexed.field-0-1 ((c.in-Ok-Indexed.ensures.kind kind).0 (ap Ok c.in-Ok-Indexed.field-0-is)) in
    subst (IsHeaderOf c.args.atom.now) (sym c.from.ensures) header

pub admit_header-requires-in-Ok-Keyed : goal.admit_header-requires-in-Ok-Keyed
admit_header-requires-in-Ok-Keyed c =
    let header = told_keyed c.args.atom.now c.in-Ok-Keyed.level ((c.in-Ok-Keyed.ensures.kind (Keyed c.in-Ok-Keyed.level)).0 (ap Ok c.in-Ok-Keyed.field-0-is)) in
    subst (IsHeaderOf c.args.atom.now) (sym c.from-in-Ok-Keyed.ensures) header

pub returns-in-Ok-Marker : goal.returns-in-Ok-Marker
returns-in-Ok-Marker c = λ q before.
    let marker = told_marker c.args.atom.now ((c.in-Ok-Marker.ensures.kind Marker).0 (ap Ok c.in-Ok-Marker.field-0-is)) in (
      subst (MayStandBehind q) (sym marker) (marker_follows q),
      subst (λ a. IsOpenFor (path_after q a) (opened_by c.args.self.now c.args.datum.now)) (sym marker) (marker_opens q (opened_by c.args.self.now c.args.datum.now) before),
    )
