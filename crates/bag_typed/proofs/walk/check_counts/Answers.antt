use Rattle.std.proofs.Common.{subst, arith, rules}
use Rattle.context_model.specs.Paths.{path_before}
use Rattle.bag_model.specs.Shapes.{Counter}
use Rattle.bag_model.specs.Typed.{IsCount, Misspells}
use Rattle.bag_typed.specs.Walk.{HasNone, IsFirstOfPaths, IsWrongDatum}
use Rattle.bag_typed.proofs.Keys.{OfSomeKey, key_end, clear_turn}
use Rattle.bag_typed.proofs.Shapes.{none_alike, first_alike, of_writer, writer_under, from_writer, to_writer}
use Rattle.bag_typed.proofs.walk.check_counts.Goals as goal

pub check_data-requires : goal.check_data-requires
check_data-requires c =
    let list = c.args.list.now in
    let q = path_before list c.args.from in
    let turn = clear_turn (of_writer q) list q c.args.from c.args.level c.requires.level c.requires.behind (omega (arith, c.requires.room)) (writer_under q)
    c.writers.place c.writers.invariant c.in-Ok.field-0-0.now c.in-Ok.start c.in-Ok.ensures.found in
    record { behind = turn.its.starts }

pub returns-in_err-place-in-Ok-clause-fault : goal.returns-in_err-place-in-Ok-clause-fault
returns-in_err-place-in-Ok-clause-fault c =
    let list = c.args.list.now in
    let q = path_before list c.args.from in
    let first = c.in_err-place-in-Ok.field-0.0 in
    let turn = clear_turn (of_writer q) list q c.args.from c.args.level c.requires.level c.requires.behind (omega (arith, c.requires.room)) (writer_under q)
    c.writers.place c.writers.invariant c.in-Ok.field-0-0.now c.in-Ok.start c.in-Ok.ensures.found in
    let own = subst (λ p. IsFirstOfPaths list (IsWrongDatum IsCount p) first) turn.its.below.path c.in_err-place-in-Ok.ensures.fault in
    let fault : IsFirstOfPaths list (Misspells Counter q) first =
    first_alike list (OfSomeKey (of_writer q)) (Misspells Counter q) first (from_writer q) (to_writer q) (turn.fault first own) in
    search rules

pub writers-preserved : goal.writers-preserved
writers-preserved c =
    let list = c.args.list.now in
    let q = path_before list c.args.from in
    let turn = clear_turn (of_writer q) list q c.args.from c.args.level c.requires.level c.requires.behind (omega (arith, c.requires.room)) (writer_under q)
    c.writers.place c.writers.invariant c.in-Ok.field-0-0.now c.in-Ok.start c.in-Ok.ensures.found in
    let none = subst (λ p. HasNone list (IsWrongDatum IsCount p)) turn.its.below.path c.in_ok-place-in-Ok.ensures.right in
    turn.more c.in_ok-place-in-Ok.place none c.in_ok-place-in-Ok.ensures.end

pub returns-in-Err-clause-typed : goal.returns-in-Err-clause-typed
returns-in-Err-clause-typed c =
    let list = c.args.list.now in
    let q = path_before list c.args.from in
    none_alike list (OfSomeKey (of_writer q)) (Misspells Counter q) (to_writer q)
    (key_end (of_writer q) list q c.args.from c.args.level c.requires.level c.requires.behind (omega (arith, c.requires.room)) (writer_under q)
    c.writers.place c.writers.invariant c.in-Err.stop c.in-Err.ensures.none)
