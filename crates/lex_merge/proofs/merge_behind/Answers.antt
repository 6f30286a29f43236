use Rattle.std.proofs.Common.{◌≡◌, ◌++◌, IfOk, drop, sym, ◌∙◌, ap, subst, inl, inr, arith}
use Rattle.lex_merge.specs.Runs.{merge_from}
use Rattle.lex_merge.proofs.Taking.{run_run, all_of, room_first, goes_on, goes_back, rests}
use Rattle.lex_merge.proofs.merge_behind.Goals as goal
use Rattle.lex_merge.proofs.merge_behind.Goals.{then-loop-i-test+else-j-len-2, else-loop-i-test}

pub returns-then-j-len : goal.returns-then-j-len
returns-then-j-len c =
    let a = c.args.a.now in
    let b = c.args.b.now in
    let run = run_run a 0 b 0 c.args.front c.args.front c.run_end-i.result.0 c.run_end-i.result.1 c.requires c.run_end-i.ensures.run in
    let whole = all_of a b c.run_end-i.result.0 c.run_end-i.result.1 run (omega arith) in
    subst (λ list. IfOk c.copy.result (λ merged. merged ≡ list)) (sym whole) c.copy.ensures

pub push_run-requires-clause-byte_room : goal.push_run-requires-clause-byte_room
push_run-requires-clause-byte_room c =
    let a = c.args.a.now in
    let b = c.args.b.now in
    let run = run_run a 0 b 0 c.args.front c.args.front c.run_end-i.result.0 c.run_end-i.result.1 c.requires c.run_end-i.ensures.run in
    room_first a 0 b 0 c.in_ok-built.built c.run_end-i.result.0 c.run_end-i.result.1 c.in_ok-built.ensures.room run

pub loop-i-init : goal.loop-i-init
loop-i-init c =
    let a = c.args.a.now in
    let b = c.args.b.now in
    let run = run_run a 0 b 0 c.args.front c.args.front c.run_end-i.result.0 c.run_end-i.result.1 c.requires c.run_end-i.ensures.run in
    let on = goes_on a 0 b 0 c.in_ok-built.built c.push_run.new.self c.run_end-i.result.0 c.run_end-i.result.1 c.in_ok-built.ensures.room run
    c.push_run.ensures.atoms c.push_run.ensures.byte_room c.push_run.ensures.atom_room in
    record {
      room = on.room;
      so_far = on.same ∙ ap (λ done. done ++ merge_from a 0 b 0) c.in_ok-built.ensures.empty;
      heads = c.run_end-i.ensures.ends;
    }

pub loop-i-preserved : goal.loop-i-preserved
loop-i-preserved c =
    let a = c.args.a.now in
    let b = c.args.b.now in
    let first = goes_back b c.loop-i.j a c.loop-i.i c.loop-i.built c.push_run-next_b.new.built c.push_run-next_b.result.0 c.push_run-next_b.result.1 c.push_run-next_b.ensures.on in
    let second = c.push_run-next_a.ensures.on in
    record {
      room = second.room;
      so_far = second.same ∙ first.same ∙ c.loop-i.invariant.so_far;
      heads = c.push_run-next_a.ensures.ends;
    }

pub returns : goal.returns
returns c =
    let a = c.args.a.now in
    let b = c.args.b.now in
    let rest : (c.loop-i.built.atoms ++ drop c.loop-i.i a) ++ drop c.loop-i.j b ≡ c.loop-i.built.atoms ++ merge_from a c.loop-i.i b c.loop-i.j =
    elim c.loop-i-test.branch [
      | then-loop-i-test+else-j-len-2 w ↦ rests a c.loop-i.i b c.loop-i.j c.loop-i.built.atoms (inr (omega arith))
      | else-loop-i-test w ↦ rests a c.loop-i.i b c.loop-i.j c.loop-i.built.atoms (inl (omega arith))
    ]
    in
    let whole = c.push_rest-2.ensures.atoms ∙ ap (λ done. done ++ drop c.loop-i.j b) c.push_rest.ensures.atoms ∙ rest ∙ c.loop-i.invariant.so_far in
    subst (λ list. IfOk c.finish.result (λ merged. merged ≡ list)) whole c.finish.ensures
