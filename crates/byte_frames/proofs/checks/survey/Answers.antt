use Rattle.std.proofs.Common.{◌≡◌, ◌<◌, ◌||◌, [], ◌∷◌, ◌++◌, length, nat_lt, sym, ◌∙◌, ap, arith}
use Rattle.std.proofs.lemmas.Grind.{common_steps}
use Rattle.std.proofs.lemmas.List.{length_push}
use Rattle.context_model.specs.declared.TheConstants.{LENGTH_MAX}
use Rattle.context_model.specs.Framing.{has_long}
use Rattle.wire_bytes.specs.Reading.{byte_code_of}
use Rattle.byte_frames.specs.OpenAtoms.{opened_by}
use Rattle.byte_frames.proofs.Ends.{context_read, fault_read}
use Rattle.byte_frames.proofs.Taking.{split_more, shorter, long_more}
use Rattle.byte_frames.proofs.checks.survey.Goals as goal

pub loop-rest-smaller : goal.loop-rest-smaller
loop-rest-smaller c =
    let before = c.loop-rest.invariant in
    let taken = c.in-Ok.ensures before.list before.read in
    shorter c.form_of-form.result c.loop-rest.rest.now c.in-Ok.behind.now taken.0 taken.2

pub loop-rest-preserved : goal.loop-rest-preserved
loop-rest-preserved c =
    let before = c.loop-rest.invariant in
    let taken = c.in-Ok.ensures before.list before.read in
    let less = shorter c.form_of-form.result c.loop-rest.rest.now c.in-Ok.behind.now taken.0 taken.2 in
    let counted = before.counted in
    let few = before.few in
    record {
      list = before.list ++ taken.0 ∷ [];
      read = taken.3;
      split = split_more c.form_of-form.result _ c.loop-rest.rest.now c.in-Ok.behind.now before.list taken.0 before.split taken.2;
      counted = omega (arith, length_push before.list taken.0);
      few = omega arith;
      long = ap (λ b. b || nat_lt LENGTH_MAX c.in-Ok.len) before.long ∙ ap (λ n. has_long before.list || nat_lt LENGTH_MAX n) taken.1 ∙ sym (long_more before.list taken.0);
    }

pub returns-in-Err-take_atom-clause-fault : goal.returns-in-Err-take_atom-clause-fault
returns-in-Err-take_atom-clause-fault c =
    let before = c.loop-rest.invariant in
    let head = c.in_default.ensures in
    let some : 0 < length c.loop-rest.rest.now = grind (arith, common_steps) in
    fault_read c.form_of-form.result c.args.bytes.now before.list c.loop-rest.rest.now (opened_by c.loop-rest.«open» c.loop-rest.datum) (byte_code_of c.in-Err-take_atom.code)
    (record { form_is = c.form_of-form.ensures; right = head.right; long = head.long; split = before.split })
    before.read some (c.in-Err-take_atom.ensures before.list before.read)

pub returns-clause-found : goal.returns-clause-found
returns-clause-found c =
    let before = c.loop-rest.invariant in
    let head = c.in_default.ensures in
    let none : c.loop-rest.rest.now ≡ [] = grind (arith, common_steps) in (
      before.list,
      context_read c.form_of-form.result c.args.bytes.now before.list c.loop-rest.rest.now (opened_by c.loop-rest.«open» c.loop-rest.datum)
          (record { form_is = c.form_of-form.ensures; right = head.right; long = head.long; split = before.split }) before.read none,
      before.counted,
      before.long,
    )
