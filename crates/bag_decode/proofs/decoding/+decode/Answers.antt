use Rattle.std.proofs.Common.{◌+◌, ◌<◌, sym, ap, ◌∙◌, subst, arith}
use Rattle.std.proofs.lemmas.List.{take_all}
use Rattle.context_model.specs.Paths.{path_before}
use Rattle.bag_model.specs.Readings.{PathsOf, node_path, Reads}
use Rattle.bag_model.specs.Shapes.{Shape, fields}
use Rattle.bag_model.specs.Typed.{IsTyped}
use Rattle.bag_model.specs.Values.{values_list, pairs}
use Rattle.bag_model.proofs.SizeLaws.{size_at}
use Rattle.bag_walks.proofs.Absent.{Reads-bare}
use Rattle.bag_walks.specs.Gathering.{GathersEntries}
use Rattle.bag_scan.proofs.FieldGets.{field_at, opened}
use Rattle.bag_scan.proofs.FieldTurns.{IsBefore, field_turn, field_gap}
use Rattle.bag_scan.proofs.KeyTurns.{key_turn}
use Rattle.bag_value.specs.Vals.{plain}
use Rattle.field_table.specs.Plain.{shape_of, nodes_of}
use Rattle.field_table.proofs.Held.{levels_there}
use Rattle.field_table.proofs.Shown.{counter_shown}
use Rattle.scalar_types.specs.KindViews.{kind_of}
use Rattle.scalar_types.specs.Scalars.{value_of}
use Rattle.bag_decode.proofs.Fields.{EachReads, each_reads_more, each_reads_whole, typed_there}
use Rattle.bag_decode.proofs.KeyTurns.{key_below, entries_turn, entries_end}
use Rattle.bag_decode.proofs.decoding.+decode.Goals as goal
use Rattle.bag_decode.proofs.decoding.+decode.Goals.{decode_fields-in-Ok+in_ok-value-in-Ok+in_ok-push-in-Ok, decode_fields-in-Err+in_ok-bottom_of-in-Err+in_ok-push-in-Err}

pub decode_field-counts_of-requires-clause-typed : goal.decode_field-counts_of-requires-clause-typed
decode_field-counts_of-requires-clause-typed t c =
    let list = c.args.list.now in
    subst (λ (s : Shape). IsTyped s (PathsOf list) (path_before list c.args.from)) (ap shape_of c.in-Counter.is ∙ counter_shown.0) c.requires.typed

-- ---- the fields of a bag

pub decode_fields-find_field-requires-clause-level : goal.decode_fields-find_field-requires-clause-level
decode_fields-find_field-requires-clause-level t c =
    let here = field_at c.args.fields.now c.loop-at.at c.get.result c.unwrap-field.result c.get.ensures c.unwrap-field.ensures in
    omega (arith, levels_there (nodes_of c.args.fields.now) c.loop-at.at (opened c.unwrap-field.result.now) here, c.requires.room)

pub decode_fields-decode_field-requires : goal.decode_fields-decode_field-requires
decode_fields-decode_field-requires t c =
    let list = c.args.list.now in
    let q = path_before list c.args.from in
    let nodes = nodes_of c.args.fields.now in
    let at = c.loop-at.at in
    let f = opened c.unwrap-field.result.now in
    let here = field_at c.args.fields.now at c.get.result c.unwrap-field.result c.get.ensures c.unwrap-field.ensures in
    let turn = field_turn list q c.args.from c.args.level nodes at f c.loop-at.place c.requires.level c.requires.behind c.requires.fields c.requires.room
    here c.loop-at.invariant.come c.from.result c.from.ensures c.in-Ok.behind c.in-Ok.ensures.found in
    let typed = subst (IsTyped f.shape (PathsOf list)) (sym turn.path) (typed_there nodes (PathsOf list) q at f c.requires.typed here) in
    (omega (arith, c.decreases, size_at nodes at f here), (turn.starts, (turn.deeper, (turn.shape, (turn.room, typed)))))

pub decode_fields-loop-at-preserved : goal.decode_fields-loop-at-preserved
decode_fields-loop-at-preserved t c =
    let list = c.args.list.now in
    let q = path_before list c.args.from in
    let nodes = nodes_of c.args.fields.now in
    let at = c.loop-at.at in
    let f = opened c.unwrap-field.result.now in
    let here = field_at c.args.fields.now at c.get.result c.unwrap-field.result c.get.ensures c.unwrap-field.ensures in
    let before = values_list c.loop-at.values in
    let after = values_list c.match-find_field.values in
    let Before = IsBefore list c.args.level nodes c.args.from (at + 1) in
    elim c.match-find_field.branch [
      | decode_fields-in-Ok+in_ok-value-in-Ok+in_ok-push-in-Ok w ↦ (
          let v = plain w.in_ok-value-in-Ok.value in
          let turn = field_turn list q c.args.from c.args.level nodes at f c.loop-at.place c.requires.level c.requires.behind c.requires.fields c.requires.room
          here c.loop-at.invariant.come c.from.result c.from.ensures w.in-Ok.behind w.in-Ok.ensures.found in
          record {
            reads = each_reads_more (PathsOf list) q (fields nodes) at before after f v here (ap values_list w.values-is ∙ w.in_ok-push-in-Ok.ensures.ok) c.loop-at.invariant.reads
                (subst (λ p. Reads f.shape (PathsOf list) p v) turn.path w.in_ok-value-in-Ok.ensures.value);
            come = subst Before (sym w.place-is) (turn.passed w.in_ok-value-in-Ok.end w.in_ok-value-in-Ok.ensures.end);
          })
      | decode_fields-in-Err+in_ok-bottom_of-in-Err+in_ok-push-in-Err w ↦ (
          let v = plain w.in_ok-bottom_of-in-Err.field-0 in
          let gap = field_gap list q c.args.from c.args.level nodes at f c.loop-at.place c.requires.level c.requires.behind c.requires.fields c.requires.room
          here c.loop-at.invariant.come c.from.result c.from.ensures w.in-Err.stop w.in-Err.ensures.missing in
          record {
            reads = each_reads_more (PathsOf list) q (fields nodes) at before after f v here (ap values_list w.values-is ∙ w.in_ok-push-in-Err.ensures.ok) c.loop-at.invariant.reads
                (subst (Reads f.shape (PathsOf list) (node_path q f.number)) (sym w.in_ok-bottom_of-in-Err.ensures) (Reads-bare f.shape (PathsOf list) (node_path q f.number) gap.bare));
            come = subst Before (sym w.place-is) gap.passed;
          })
    ]

pub decode_fields-returns-clause-value : goal.decode_fields-returns-clause-value
decode_fields-returns-clause-value t c =
    let list = c.args.list.now in
    let q = path_before list c.args.from in
    let nodes = nodes_of c.args.fields.now in
    each_reads_whole (PathsOf list) q nodes c.loop-at.values
    (subst (λ gs. EachReads (PathsOf list) q gs (values_list c.loop-at.values)) (take_all c.loop-at.at (fields nodes) (omega (arith, c.loop-at-test.false, c.len-at-end.ensures))) c.loop-at.invariant.reads)

-- ---- the keys of a map

pub decode_entries-take_known-requires : goal.decode_entries-take_known-requires
decode_entries-take_known-requires t c =
    let list = c.args.list.now in
    let q = path_before list c.args.from in
    let key = c.in-Ok.key.now in
    let few : c.args.level < 16 = omega (arith, c.requires.room) in
    let turn = key_turn list q c.args.from c.args.level c.keys.place c.requires.level few c.requires.behind c.keys.invariant.stays key c.in-Ok.start c.in-Ok.ensures.found in
    (c.requires.typed key turn.stands).0

pub decode_entries-decode_field-requires : goal.decode_entries-decode_field-requires
decode_entries-decode_field-requires t c =
    let list = c.args.list.now in
    let q = path_before list c.args.from in
    let key = c.in-Ok.key.now in
    let few : c.args.level < 16 = omega (arith, c.requires.room) in
    let turn = key_turn list q c.args.from c.args.level c.keys.place c.requires.level few c.requires.behind c.keys.invariant.stays key c.in-Ok.start c.in-Ok.ensures.found in
    let typed = subst (IsTyped (shape_of c.args.shape.now) (PathsOf list)) (sym turn.below.path) (c.requires.typed key turn.stands).1 in
    (omega (arith, c.decreases), (turn.starts, (turn.deeper, (c.requires.shape, (c.requires.room, typed)))))

pub decode_entries-push-requires : goal.decode_entries-push-requires
decode_entries-push-requires t c =
    let list = c.args.list.now in
    let q = path_before list c.args.from in
    let key = c.in-Ok.key.now in
    let few : c.args.level < 16 = omega (arith, c.requires.room) in
    let turn = key_turn list q c.args.from c.args.level c.keys.place c.requires.level few c.requires.behind c.keys.invariant.stays key c.in-Ok.start c.in-Ok.ensures.found in
    key_below list q c.args.level c.args.from c.keys.place c.requires.level few c.requires.behind key c.in-Ok.start turn
    (kind_of c.args.kind.now) (shape_of c.args.shape.now) (pairs c.keys.entries) c.keys.invariant.gathers (value_of c.in_ok-key-in-Ok.key) c.in_ok-key-in-Ok.ensures.fits c.in_ok-key-in-Ok.ensures.spelled

pub decode_entries-keys-preserved : goal.decode_entries-keys-preserved
decode_entries-keys-preserved t c =
    let list = c.args.list.now in
    let q = path_before list c.args.from in
    let key = c.in-Ok.key.now in
    let few : c.args.level < 16 = omega (arith, c.requires.room) in
    let turn = key_turn list q c.args.from c.args.level c.keys.place c.requires.level few c.requires.behind c.keys.invariant.stays key c.in-Ok.start c.in-Ok.ensures.found in
    let kind = kind_of c.args.kind.now in
    let shape = shape_of c.args.shape.now in
    let end = c.in_ok-value-in-Ok.end in
    record {
      stays = turn.past end c.in_ok-value-in-Ok.ensures.end;
      gathers = subst (GathersEntries kind shape list q c.args.from end) (sym c.in_ok-push-in-Ok.ensures.ok)
          (entries_turn list q c.args.level c.args.from c.keys.place c.requires.level few c.requires.behind key c.in-Ok.start turn
          kind shape (pairs c.keys.entries) c.keys.invariant.gathers (value_of c.in_ok-key-in-Ok.key) c.in_ok-key-in-Ok.ensures.fits c.in_ok-key-in-Ok.ensures.spelled
          (plain c.in_ok-value-in-Ok.value) end c.in_ok-value-in-Ok.ensures.value c.in_ok-value-in-Ok.ensures.end);
    }

pub decode_entries-returns-in-Err-clause-value : goal.decode_entries-returns-in-Err-clause-value
decode_entries-returns-in-Err-clause-value t c =
    let q = path_before c.args.list.now c.args.from in
    let few : c.args.level < 16 = omega (arith, c.requires.room) in
    entries_end c.args.list.now q c.args.level c.args.from c.keys.place c.requires.level few c.requires.behind c.keys.invariant.stays c.in-Err.end c.in-Err.ensures.none
    (kind_of c.args.kind.now) (shape_of c.args.shape.now) c.keys.entries c.keys.invariant.gathers
