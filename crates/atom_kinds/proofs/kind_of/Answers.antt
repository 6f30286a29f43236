use Rattle.std.proofs.Common.{◌∷◌, ◌<◌, ◌/◌, ◌-◌, Ok, Err, sym, subst, ap, ◌∙◌}
use Rattle.std.proofs.lemmas.List.{nil_from_length}
use Rattle.context_model.specs.Kinds.Kind.{Marker as PlainMarker, Datum as PlainDatum, Indexed as PlainIndexed, Keyed as PlainKeyed}
use Rattle.atom_kinds.specs.declared.Kind.TheVariants.{Marker, Datum, Indexed, Keyed}
use Rattle.atom_kinds.specs.declared.KindFault.TheVariants.{BadIndex}
use Rattle.atom_kinds.proofs.FirstBytes.{Answers, kind_at, bad_index, no_number, header_indexed, header_keyed, level_below, first_byte}
use Rattle.atom_kinds.proofs.kind_of.Goals as goal

pub returns-in_default : goal.returns-in_default
returns-in_default c =
    let a : Answers c.args.atom.now (Ok Marker) = kind_at c.args.atom.now PlainMarker tt (nil_from_length c.args.atom.now c.in_default.ensures.cases) in
    record { kind = a.kind; prefix = a.prefix; index = a.index }

pub returns-then-first-eq0 : goal.returns-then-first-eq0
returns-then-first-eq0 c =
    let a : Answers c.args.atom.now (Ok Datum) = kind_at c.args.atom.now (PlainDatum c.in-Some.rest.now) tt (c.in-Some.ensures.cases.0 ∙ ap (λ v. v ∷ c.in-Some.rest.now) c.if-first-eq0.true) in
    record { kind = a.kind; prefix = a.prefix; index = a.index }

pub returns-in-Some-whole_number : goal.returns-in-Some-whole_number
returns-in-Some-whole_number c =
    let byte : c.in-Some.first.now < 256 = first_byte c.args.atom.now c.in-Some.first.now c.in-Some.rest.now c.in-Some.ensures.cases.0 (c.type_inv.atom 0).fits in
    let a : Answers c.args.atom.now (Ok (Indexed c.level_of-level.result c.in-Some-whole_number.number)) =
    subst (λ level. Answers c.args.atom.now (Ok (Indexed level c.in-Some-whole_number.number))) (sym c.level_of-level.ensures)
    (kind_at c.args.atom.now (PlainIndexed ((255 - c.in-Some.first.now) / 8) c.in-Some-whole_number.number) (level_below c.in-Some.first.now c.if-first-lt-LOWEST_HEADER.false, c.in-Some-whole_number.ensures.0)
    (c.in-Some.ensures.cases.0 ∙ header_indexed c.in-Some.first.now c.in-Some.rest.now c.in-Some-whole_number.number c.if-first-lt-LOWEST_HEADER.false byte c.in-0.is (c.in-Some-whole_number.ensures.1))) in
    record { kind = a.kind; prefix = a.prefix; index = a.index }

pub returns-in-None : goal.returns-in-None
returns-in-None c =
    let byte : c.in-Some.first.now < 256 = first_byte c.args.atom.now c.in-Some.first.now c.in-Some.rest.now c.in-Some.ensures.cases.0 (c.type_inv.atom 0).fits in
    let a : Answers c.args.atom.now (Err BadIndex) =
    subst (λ v. Answers v (Err BadIndex)) (sym c.in-Some.ensures.cases.0)
    (bad_index (c.in-Some.first.now ∷ c.in-Some.rest.now) (no_number c.in-Some.first.now c.in-Some.rest.now c.if-first-lt-LOWEST_HEADER.false byte c.in-0.is (λ number h e. c.in-None.ensures number (h, e)))) in
    record { kind = a.kind; prefix = a.prefix; index = a.index }

pub returns-in-1 : goal.returns-in-1
returns-in-1 c =
    let byte : c.in-Some.first.now < 256 = first_byte c.args.atom.now c.in-Some.first.now c.in-Some.rest.now c.in-Some.ensures.cases.0 (c.type_inv.atom 0).fits in
    let a : Answers c.args.atom.now (Ok (Keyed c.level_of-level.result)) =
    subst (λ level. Answers c.args.atom.now (Ok (Keyed level))) (sym c.level_of-level.ensures)
    (kind_at c.args.atom.now (PlainKeyed ((255 - c.in-Some.first.now) / 8) c.in-Some.rest.now) (level_below c.in-Some.first.now c.if-first-lt-LOWEST_HEADER.false)
    (c.in-Some.ensures.cases.0 ∙ header_keyed c.in-Some.first.now c.in-Some.rest.now c.if-first-lt-LOWEST_HEADER.false byte c.in-1.is)) in
    record { kind = a.kind; prefix = a.prefix; index = a.index }
