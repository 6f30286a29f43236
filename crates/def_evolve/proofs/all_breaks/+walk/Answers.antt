use Rattle.std.proofs.Common.{◌≡◌, ◌≢◌, true, false, if◌then◌else◌, ◌+◌, List, [], ◌∷◌, ◌++◌, map, refl, sym, ap, ◌∙◌, subst, subst₂, arith}
use Rattle.bag_model.specs.declared.Pick.TheVariants.{Least, Greatest}
use Rattle.bag_model.specs.Shapes.{Taint, Scalar, Set, Counter, fields}
use Rattle.bag_model.proofs.PathLaws.{is_field}
use Rattle.scalar_types.specs.KindViews.{kind_of}
use Rattle.field_table.specs.Plain.{nodes_of, shape_of}
use Rattle.field_table.proofs.Shown.{taint_shown, scalar_shown, greatest_shown, set_shown, counter_shown, map_shown, bag_shown}
use Rattle.def_evolve.specs.declared.verdicts.Change.TheVariants as changes
use Rattle.def_evolve.specs.declared.verdicts.Part.TheVariants.{Number, MapValue}
use Rattle.def_evolve.specs.Breaks.{variant_of}
use Rattle.def_evolve.specs.BreakLists.{BreakAt, break_of, break_behind, own_break, values_name, AreBreaks}
use Rattle.def_evolve.proofs.BreakSteps.{own_told_at, apart_end, leaf_end, map_breaks, BreaksUpTo, breaks_begin, breaks_end, no_partner, partner}
use Rattle.def_evolve.proofs.FieldPlaces.{opened, field_at, field_smaller, field_there, found_open, none_open, found_shape}
use Rattle.def_evolve.proofs.ShapeViews.{apart}
use Rattle.def_evolve.proofs.all_breaks.+walk.Goals as goal
use Rattle.def_evolve.proofs.all_breaks.+walk.Goals.{breaks_of-in_default-via-in-Taint+in_default, breaks_of-in_default-via-in-Counter+in_default, breaks_of-in_default-via-in-Scalar+in_default, breaks_of-in_default-via-in-Greatest+in_default, breaks_of-in_default-via-in-Set+in_default, breaks_of-in_default-via-in-Map+in_default, breaks_of-in_default-via-in-Bag+in_default, breaks_in-in-Some+in_ok-inner+in_ok-put_inner, breaks_in-in_default}

-- ---- one field

pub breaks_of-returns-in-Taint-Taint : goal.breaks_of-returns-in-Taint-Taint
breaks_of-returns-in-Taint-Taint t c =
    let own = c.own_breaks in
    own_told_at (λ found. map break_of found.items) (shape_of c.args.old.now) (shape_of c.args.new.now) Taint Taint changes.Shape true own.result
    (ap shape_of c.in-Taint-Taint.is-0 ∙ taint_shown.0) (ap shape_of c.in-Taint-Taint.is-1 ∙ taint_shown.0) (leaf_end Taint Taint tt) (λ e. tt) (λ e. absurd (cc e)) own.ensures

pub breaks_of-returns-in-Counter-Counter : goal.breaks_of-returns-in-Counter-Counter
breaks_of-returns-in-Counter-Counter t c =
    let own = c.own_breaks-in-Counter-Counter in
    own_told_at (λ found. map break_of found.items) (shape_of c.args.old.now) (shape_of c.args.new.now) Counter Counter changes.Shape true own.result
    (ap shape_of c.in-Counter-Counter.is-0 ∙ counter_shown.0) (ap shape_of c.in-Counter-Counter.is-1 ∙ counter_shown.0) (leaf_end Counter Counter tt) (λ e. tt) (λ e. absurd (cc e)) own.ensures

pub breaks_of-returns-in-Scalar-Scalar : goal.breaks_of-returns-in-Scalar-Scalar
breaks_of-returns-in-Scalar-Scalar t c =
    let a = c.in-Scalar-Scalar in
    let own = c.own_breaks-in-Scalar-Scalar in
    let widens = c.widens in
    own_told_at (λ found. map break_of found.items) (shape_of c.args.old.now) (shape_of c.args.new.now) (Scalar Least (kind_of a.kind)) (Scalar Least (kind_of a.wider)) changes.Kind widens.result own.result
    (ap shape_of a.is-0 ∙ (scalar_shown a.kind).0) (ap shape_of a.is-1 ∙ (scalar_shown a.wider).0) (leaf_end (Scalar Least (kind_of a.kind)) (Scalar Least (kind_of a.wider)) tt) (λ e. (refl, widens.ensures.0 e)) (λ e. (refl, λ up. let f = widens.ensures.1 up in cc)) own.ensures

pub breaks_of-returns-in-Greatest-Greatest : goal.breaks_of-returns-in-Greatest-Greatest
breaks_of-returns-in-Greatest-Greatest t c =
    let a = c.in-Greatest-Greatest in
    let own = c.own_breaks-in-Greatest-Greatest in
    let widens = c.widens-in-Greatest-Greatest in
    own_told_at (λ found. map break_of found.items) (shape_of c.args.old.now) (shape_of c.args.new.now) (Scalar Greatest (kind_of a.kind)) (Scalar Greatest (kind_of a.wider)) changes.Kind widens.result own.result
    (ap shape_of a.is-0 ∙ (greatest_shown a.kind).0) (ap shape_of a.is-1 ∙ (greatest_shown a.wider).0) (leaf_end (Scalar Greatest (kind_of a.kind)) (Scalar Greatest (kind_of a.wider)) tt) (λ e. (refl, widens.ensures.0 e)) (λ e. (refl, λ up. let f = widens.ensures.1 up in cc)) own.ensures

pub breaks_of-returns-in-Set-Set : goal.breaks_of-returns-in-Set-Set
breaks_of-returns-in-Set-Set t c =
    let a = c.in-Set-Set in
    let own = c.own_breaks-in-Set-Set in
    let widens = c.widens-in-Set-Set in
    own_told_at (λ found. map break_of found.items) (shape_of c.args.old.now) (shape_of c.args.new.now) (Set (kind_of a.kind)) (Set (kind_of a.wider)) changes.Kind widens.result own.result
    (ap shape_of a.is-0 ∙ (set_shown a.kind).0) (ap shape_of a.is-1 ∙ (set_shown a.wider).0) (leaf_end (Set (kind_of a.kind)) (Set (kind_of a.wider)) tt) (λ e. widens.ensures.0 e) (λ e. λ up. let f = widens.ensures.1 up in cc) own.ensures

-- ---- maps

pub breaks_of-returns-in_ok-put_inner-in-Map-Map : goal.breaks_of-returns-in_ok-put_inner-in-Map-Map
breaks_of-returns-in_ok-put_inner-in-Map-Map t c =
    let a = c.in-Map-Map in
    let key = kind_of a.key in
    let other = kind_of a.wider in
    let shape = shape_of a.value.value in
    let more = shape_of a.more.value in
    let inner : AreBreaks shape more (map break_of c.in_ok-inner-in-Map-Map.inner.items) =
    subst₂ (λ x y. AreBreaks (shape_of x) (shape_of y) (map break_of c.in_ok-inner-in-Map-Map.inner.items)) c.deref.ensures c.deref-in-Map-Map.ensures c.in_ok-inner-in-Map-Map.ensures in
    let old = ap shape_of a.is-0 ∙ map_shown a.key a.value in
    let new = ap shape_of a.is-1 ∙ map_shown a.wider a.more in
    let deeper = map (break_behind MapValue values_name values_name) (map break_of c.in_ok-inner-in-Map-Map.inner.items) in
    let fits = c.widens-in-Map-Map.result in
    subst (AreBreaks (shape_of c.args.old.now) (shape_of c.args.new.now)) (sym (c.in_ok-put_inner-in-Map-Map.ensures ∙ ap (λ (front : List BreakAt). front ++ deeper) c.in_ok-found-in-Map-Map.ensures))
    (subst₂ (λ x y. AreBreaks x y ((if fits then [] else own_break changes.Key x y ∷ []) ++ deeper)) (sym old) (sym new)
    (map_breaks key other shape more (map break_of c.in_ok-inner-in-Map-Map.inner.items) inner fits c.widens-in-Map-Map.ensures))

-- ---- other variants

pub breaks_of-returns-in_default : goal.breaks_of-returns-in_default
breaks_of-returns-in_default t c =
    let old = c.args.old.now in
    let new = c.args.new.now in
    let own = c.own_breaks-in_default in
    let apart_now : variant_of (shape_of old) ≢ variant_of (shape_of new) = elim c.in_default.branch [
      | breaks_of-in_default-via-in-Taint+in_default w ↦ apart old new 0 (ap variant_of (ap shape_of w.in_default.is-0 ∙ taint_shown.0)) w.in_default.not-Taint-1
      | breaks_of-in_default-via-in-Counter+in_default w ↦ apart old new 4 (ap variant_of (ap shape_of w.in_default.is-0 ∙ counter_shown.0)) w.in_default.not-Counter-1
      | breaks_of-in_default-via-in-Scalar+in_default w ↦ apart old new 1 (ap variant_of (ap shape_of w.in_default.is-0 ∙ (scalar_shown w.in_default.field-0-0).0)) (λ s. w.in_default.not-Scalar-1 s.0 s.1)
      | breaks_of-in_default-via-in-Greatest+in_default w ↦ apart old new 2 (ap variant_of (ap shape_of w.in_default.is-0 ∙ (greatest_shown w.in_default.field-0-0).0)) (λ s. w.in_default.not-Greatest-1 s.0 s.1)
      | breaks_of-in_default-via-in-Set+in_default w ↦ apart old new 3 (ap variant_of (ap shape_of w.in_default.is-0 ∙ (set_shown w.in_default.field-0-0).0)) (λ s. w.in_default.not-Set-1 s.0 s.1)
      | breaks_of-in_default-via-in-Map+in_default w ↦ apart old new 5 (ap variant_of (ap shape_of w.in_default.is-0 ∙ map_shown w.in_default.field-0-0 w.in_default.field-1-0)) (λ s. w.in_default.not-Map-1 s.0 s.1 s.2)
      | breaks_of-in_default-via-in-Bag+in_default w ↦ apart old new 6 (ap variant_of (ap shape_of w.in_default.is-0 ∙ bag_shown w.in_default.field-0-0)) (λ s. w.in_default.not-Bag-1 s.0 s.1)
    ] in
    own_told_at (λ found. map break_of found.items) (shape_of old) (shape_of new) (shape_of old) (shape_of new) changes.Shape false own.result
    refl refl (apart_end (shape_of old) (shape_of new) apart_now) (λ e. absurd (cc e)) (λ e. apart_now) own.ensures

-- ---- the fields of a bag

pub breaks_in-loop-at-init : goal.breaks_in-loop-at-init
breaks_in-loop-at-init t c =
    let nodes = nodes_of c.args.fields.now in
    let others = nodes_of c.args.others.now in
    subst (BreaksUpTo nodes others 0) (sym (ap (map break_of) c.new-found.ensures.items)) (breaks_begin nodes others)

pub breaks_in-unwrap-field-requires : goal.breaks_in-unwrap-field-requires
breaks_in-unwrap-field-requires t c = field_there c.args.fields.now c.loop-at.at c.get.result c.get.ensures (omega (arith, c.loop-at-test.true, c.len-at-end.ensures))

pub breaks_in-breaks_of-requires : goal.breaks_in-breaks_of-requires
breaks_in-breaks_of-requires t c =
    let f = opened c.unwrap-field.result.now in
    let at = field_at c.args.fields.now c.loop-at.at c.get.result c.unwrap-field.result c.get.ensures c.unwrap-field.ensures in
    let less = field_smaller c.args.fields.now c.loop-at.at c.get.result c.unwrap-field.result c.get.ensures c.unwrap-field.ensures in
    let found = found_open (fields (nodes_of c.args.others.now)) c.from.result f.number c.in-Some.field-0-0 c.in-Some.other.now c.from.ensures c.in-Some.ensures.found in (
      omega (arith, c.decreases, less),
      (
        (is_field (nodes_of c.args.fields.now) c.loop-at.at f c.requires.old at).1,
        found_shape (nodes_of c.args.others.now) f.number c.in-Some.field-0-0 (opened c.in-Some.other.now) c.requires.new found,
      ),
    )

pub breaks_in-returns : goal.breaks_in-returns
breaks_in-returns t c =
    breaks_end (nodes_of c.args.fields.now) (nodes_of c.args.others.now) c.loop-at.at (map break_of c.loop-at.found.items) (omega (arith, c.loop-at-test.false, c.len-at-end.ensures)) c.loop-at.invariant

pub breaks_in-loop-at-preserved : goal.breaks_in-loop-at-preserved
breaks_in-loop-at-preserved t c =
    let nodes = nodes_of c.args.fields.now in
    let others = nodes_of c.args.others.now in
    let list = map break_of c.loop-at.found.items in
    let f = opened c.unwrap-field.result.now in
    let at = field_at c.args.fields.now c.loop-at.at c.get.result c.unwrap-field.result c.get.ensures c.unwrap-field.ensures in
    elim c.match-find_number.branch [
      | breaks_in-in-Some+in_ok-inner+in_ok-put_inner w ↦
          let g = opened w.in-Some.other.now in
          let found = found_open (fields others) c.from.result f.number w.in-Some.field-0-0 w.in-Some.other.now c.from.ensures w.in-Some.ensures.found in
          let inner = map break_of w.in_ok-inner.inner.items in
          let pushed : map break_of w.put_inner.new.found.items ≡ list ++ map (break_behind (Number f.number) w.as_str.result.now w.as_str-in-Some.result.now) inner = w.in_ok-put_inner.ensures in
          rw w.found-is (subst (BreaksUpTo nodes others (c.loop-at.at + 1)) (sym pushed)
          (subst₂ (λ name also. BreaksUpTo nodes others (c.loop-at.at + 1) (list ++ map (break_behind (Number f.number) name also) inner)) (sym w.as_str.ensures.value) (sym w.as_str-in-Some.ensures.value)
          (partner nodes others c.requires.old c.requires.new c.loop-at.at list f at c.loop-at.invariant w.in-Some.field-0-0 g found inner w.in_ok-inner.ensures)))
      | breaks_in-in_default w ↦
          rw w.found-is (no_partner nodes others c.requires.old c.requires.new c.loop-at.at list f at c.loop-at.invariant (none_open (fields others) c.from.result f.number c.from.ensures w.in_default.ensures.found))
    ]
