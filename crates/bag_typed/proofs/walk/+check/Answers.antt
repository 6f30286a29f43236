use Rattle.std.proofs.Common.{◌≡◌, ◌-◌, ap, ◌∙◌, subst, arith, rules}
use Rattle.context_model.specs.Paths.{path_before}
use Rattle.bag_model.specs.Readings.{key_path}
use Rattle.bag_model.specs.Shapes as model
use Rattle.bag_model.specs.Typed.{IsSpelling, Misspells}
use Rattle.bag_model.proofs.SizeLaws.{size_at}
use Rattle.field_table.specs.Plain.{nodes_of, shape_of}
use Rattle.field_table.proofs.Shown.{taint_shown, scalar_shown, greatest_shown, set_shown}
use Rattle.scalar_types.specs.KindViews.{kind_of}
use Rattle.bag_walks.specs.Parts.{IsBehind}
use Rattle.bag_typed.specs.Walk.{HasNone, IsFirstOfPaths}
use Rattle.bag_typed.proofs.Data.{not_both}
use Rattle.bag_scan.proofs.FieldGets.{opened}
use Rattle.bag_scan.proofs.FieldHeaders.{found_open}
use Rattle.bag_typed.proofs.Fields.{field_turn, field_end}
use Rattle.bag_typed.proofs.Keys.{OfSomeKey, key_end, clear_turn}
use Rattle.bag_typed.proofs.Shapes.{none_alike, first_alike, typed_seen, fault_seen, of_key, key_under, from_key, to_key, entry_none, entry_fault, key_fault}
use Rattle.scalar_types.proofs.KindSpelled.{spelling_told}
use Rattle.bag_typed.proofs.walk.+check.Goals as goal

-- ---- a field

pub check_slot-returns-in-Taint-clause-typed : goal.check_slot-returns-in-Taint-clause-typed
check_slot-returns-in-Taint-clause-typed t c =
    typed_seen c.args.list.now (path_before c.args.list.now c.args.from) c.check_data.result _ _ (ap shape_of c.in-Taint.is ∙ taint_shown.0) c.check_data.ensures.right

pub check_slot-returns-in-Taint-clause-fault : goal.check_slot-returns-in-Taint-clause-fault
check_slot-returns-in-Taint-clause-fault t c =
    fault_seen c.args.list.now (path_before c.args.list.now c.args.from) c.check_data.result _ _ (ap shape_of c.in-Taint.is ∙ taint_shown.0) c.check_data.ensures.fault

pub check_slot-returns-in-Scalar-clause-typed : goal.check_slot-returns-in-Scalar-clause-typed
check_slot-returns-in-Scalar-clause-typed t c =
    typed_seen c.args.list.now (path_before c.args.list.now c.args.from) c.check_data-in-Scalar.result _ _ (ap shape_of c.in-Scalar.is ∙ (scalar_shown c.in-Scalar.kind).0) c.check_data-in-Scalar.ensures.right

pub check_slot-returns-in-Scalar-clause-fault : goal.check_slot-returns-in-Scalar-clause-fault
check_slot-returns-in-Scalar-clause-fault t c =
    fault_seen c.args.list.now (path_before c.args.list.now c.args.from) c.check_data-in-Scalar.result _ _ (ap shape_of c.in-Scalar.is ∙ (scalar_shown c.in-Scalar.kind).0) c.check_data-in-Scalar.ensures.fault

pub check_slot-returns-in-Greatest-clause-typed : goal.check_slot-returns-in-Greatest-clause-typed
check_slot-returns-in-Greatest-clause-typed t c =
    typed_seen c.args.list.now (path_before c.args.list.now c.args.from) c.check_data-in-Greatest.result _ _ (ap shape_of c.in-Greatest.is ∙ (greatest_shown c.in-Greatest.kind).0) c.check_data-in-Greatest.ensures.right

pub check_slot-returns-in-Greatest-clause-fault : goal.check_slot-returns-in-Greatest-clause-fault
check_slot-returns-in-Greatest-clause-fault t c =
    fault_seen c.args.list.now (path_before c.args.list.now c.args.from) c.check_data-in-Greatest.result _ _ (ap shape_of c.in-Greatest.is ∙ (greatest_shown c.in-Greatest.kind).0) c.check_data-in-Greatest.ensures.fault

pub check_slot-returns-in-Set-clause-typed : goal.check_slot-returns-in-Set-clause-typed
check_slot-returns-in-Set-clause-typed t c =
    typed_seen c.args.list.now (path_before c.args.list.now c.args.from) c.check_data-in-Set.result _ _ (ap shape_of c.in-Set.is ∙ (set_shown c.in-Set.kind).0) c.check_data-in-Set.ensures.right

pub check_slot-returns-in-Set-clause-fault : goal.check_slot-returns-in-Set-clause-fault
check_slot-returns-in-Set-clause-fault t c =
    fault_seen c.args.list.now (path_before c.args.list.now c.args.from) c.check_data-in-Set.result _ _ (ap shape_of c.in-Set.is ∙ (set_shown c.in-Set.kind).0) c.check_data-in-Set.ensures.fault

-- ---- the entries of a map

pub check_entries-returns-then-not-spelled-clause-fault : goal.check_entries-returns-then-not-spelled-clause-fault
check_entries-returns-then-not-spelled-clause-fault t c =
    let list = c.args.list.now in
    let q = path_before list c.args.from in
    let kind = kind_of c.args.kind.now in
    let value = shape_of c.args.value.now in
    let key = c.in-Ok.key.now in
    let turn = clear_turn (of_key kind value q) list q c.args.from c.args.level c.requires.level c.requires.behind (omega (arith, c.requires.room)) (key_under kind value q)
    c.keys.place c.keys.invariant key c.in-Ok.start c.in-Ok.ensures.found in
    let wrong = λ (spelled : IsSpelling kind key). not_both c.spelled.result (c.spelled.ensures.1 ((spelling_told kind key).1 spelled)) c.if-not-spelled.true in
    let at = turn.its.found.place in
    let own = key_fault kind value list q key at (subst (IsBehind list (key_path q key)) turn.its.found.next turn.its.below) wrong in
    let fault : IsFirstOfPaths list (Misspells (model.Shape.Map kind value) q) at =
    first_alike list (OfSomeKey (of_key kind value q)) (Misspells (model.Shape.Map kind value) q) at (from_key kind value q) (to_key kind value q) (turn.fault at own) in
    subst (IsFirstOfPaths list (Misspells (model.Shape.Map kind value) q)) (let e : at ≡ c.in-Ok.start - 1 = omega (arith, turn.its.found.next) in e) fault

pub check_entries-check_slot-requires : goal.check_entries-check_slot-requires
check_entries-check_slot-requires t c =
    let list = c.args.list.now in
    let q = path_before list c.args.from in
    let kind = kind_of c.args.kind.now in
    let value = shape_of c.args.value.now in
    let key = c.in-Ok.key.now in
    let turn = clear_turn (of_key kind value q) list q c.args.from c.args.level c.requires.level c.requires.behind (omega (arith, c.requires.room)) (key_under kind value q)
    c.keys.place c.keys.invariant key c.in-Ok.start c.in-Ok.ensures.found in
    (omega (arith, c.decreases), (turn.its.starts, (turn.its.deeper, (c.requires.shape, omega (arith, c.requires.room)))))

pub check_entries-returns-in_err-place-in-Ok-clause-fault : goal.check_entries-returns-in_err-place-in-Ok-clause-fault
check_entries-returns-in_err-place-in-Ok-clause-fault t c =
    let list = c.args.list.now in
    let q = path_before list c.args.from in
    let kind = kind_of c.args.kind.now in
    let value = shape_of c.args.value.now in
    let key = c.in-Ok.key.now in
    let turn = clear_turn (of_key kind value q) list q c.args.from c.args.level c.requires.level c.requires.behind (omega (arith, c.requires.room)) (key_under kind value q)
    c.keys.place c.keys.invariant key c.in-Ok.start c.in-Ok.ensures.found in
    let first = c.in_err-place-in-Ok.field-0.0 in
    let spelled = (spelling_told kind key).0 (c.spelled.ensures.0 c.if-not-spelled.false) in
    let own = entry_fault kind value list q key first spelled (subst (λ p. IsFirstOfPaths list (Misspells value p) first) turn.its.below.path c.in_err-place-in-Ok.ensures.fault) in
    let fault : IsFirstOfPaths list (Misspells (model.Shape.Map kind value) q) first =
    first_alike list (OfSomeKey (of_key kind value q)) (Misspells (model.Shape.Map kind value) q) first (from_key kind value q) (to_key kind value q) (turn.fault first own) in
    search rules

pub check_entries-keys-preserved : goal.check_entries-keys-preserved
check_entries-keys-preserved t c =
    let list = c.args.list.now in
    let q = path_before list c.args.from in
    let kind = kind_of c.args.kind.now in
    let value = shape_of c.args.value.now in
    let key = c.in-Ok.key.now in
    let turn = clear_turn (of_key kind value q) list q c.args.from c.args.level c.requires.level c.requires.behind (omega (arith, c.requires.room)) (key_under kind value q)
    c.keys.place c.keys.invariant key c.in-Ok.start c.in-Ok.ensures.found in
    let spelled = (spelling_told kind key).0 (c.spelled.ensures.0 c.if-not-spelled.false) in
    let none = entry_none kind value list q key spelled (subst (λ p. HasNone list (Misspells value p)) turn.its.below.path c.in_ok-place-in-Ok.ensures.typed) in
    turn.more c.in_ok-place-in-Ok.place none c.in_ok-place-in-Ok.ensures.end

pub check_entries-returns-in-Err-clause-typed : goal.check_entries-returns-in-Err-clause-typed
check_entries-returns-in-Err-clause-typed t c =
    let list = c.args.list.now in
    let q = path_before list c.args.from in
    let kind = kind_of c.args.kind.now in
    let value = shape_of c.args.value.now in
    none_alike list (OfSomeKey (of_key kind value q)) (Misspells (model.Shape.Map kind value) q) (to_key kind value q)
    (key_end (of_key kind value q) list q c.args.from c.args.level c.requires.level c.requires.behind (omega (arith, c.requires.room)) (key_under kind value q)
    c.keys.place c.keys.invariant c.in-Err.stop c.in-Err.ensures.none)

-- ---- the fields of a bag

pub check_fields-check_slot-requires : goal.check_fields-check_slot-requires
check_fields-check_slot-requires t c =
    let list = c.args.list.now in
    let q = path_before list c.args.from in
    let nodes = nodes_of c.args.fields.now in
    let i = c.in-Ok.field-0-0 in
    let f = opened c.in-Ok.field.now in
    let found = found_open nodes list c.args.level c.headers.place i c.in-Ok.field.now c.in-Ok.behind c.in-Ok.ensures.found in
    let turn = field_turn nodes list q c.args.from c.args.level c.requires.level c.requires.behind c.requires.fields c.requires.room c.headers.place c.headers.invariant i f c.in-Ok.behind found in
    (omega (arith, c.decreases, size_at nodes i f found.header.there), (turn.starts, (turn.deeper, (turn.shape, turn.room))))

pub check_fields-returns-in_err-place-in-Ok-clause-fault : goal.check_fields-returns-in_err-place-in-Ok-clause-fault
check_fields-returns-in_err-place-in-Ok-clause-fault t c =
    let list = c.args.list.now in
    let q = path_before list c.args.from in
    let nodes = nodes_of c.args.fields.now in
    let i = c.in-Ok.field-0-0 in
    let f = opened c.in-Ok.field.now in
    let found = found_open nodes list c.args.level c.headers.place i c.in-Ok.field.now c.in-Ok.behind c.in-Ok.ensures.found in
    let turn = field_turn nodes list q c.args.from c.args.level c.requires.level c.requires.behind c.requires.fields c.requires.room c.headers.place c.headers.invariant i f c.in-Ok.behind found in
    let fault = turn.fault c.in_err-place-in-Ok.field-0.0 c.in_err-place-in-Ok.ensures.fault in
    search rules

pub check_fields-headers-preserved : goal.check_fields-headers-preserved
check_fields-headers-preserved t c =
    let list = c.args.list.now in
    let q = path_before list c.args.from in
    let nodes = nodes_of c.args.fields.now in
    let i = c.in-Ok.field-0-0 in
    let f = opened c.in-Ok.field.now in
    let found = found_open nodes list c.args.level c.headers.place i c.in-Ok.field.now c.in-Ok.behind c.in-Ok.ensures.found in
    let turn = field_turn nodes list q c.args.from c.args.level c.requires.level c.requires.behind c.requires.fields c.requires.room c.headers.place c.headers.invariant i f c.in-Ok.behind found in
    turn.more c.in_ok-place-in-Ok.place c.in_ok-place-in-Ok.ensures.typed c.in_ok-place-in-Ok.ensures.end

pub check_fields-returns-in-Err-clause-typed : goal.check_fields-returns-in-Err-clause-typed
check_fields-returns-in-Err-clause-typed t c =
    field_end (nodes_of c.args.fields.now) c.args.list.now (path_before c.args.list.now c.args.from) c.args.from c.args.level c.requires.level c.requires.behind c.requires.fields c.requires.room
    c.headers.place c.headers.invariant c.in-Err.stop c.in-Err.ensures.none
