use Rattle.std.proofs.Common.{◌≡◌, ◌++◌, ℕ, ◌<◌, List, length, string_bytes, get_or, Some, sym, ap, ◌∙◌, arith}
use Rattle.std.specs.List.{slice_get}
use Rattle.std.proofs.lemmas.Option.{slice_get-get_or}
use Rattle.def_evolve.specs.declared.verdicts.Part.{Part}
use Rattle.def_evolve.specs.declared.verdicts.Part.TheVariants.{Number}
use Rattle.def_evolve.specs.Breaks.{part_text}
use Rattle.def_evolve.proofs.WiderLists.{step_first, step_more}
use Rattle.def_evolve.proofs.all_breaks.Break.path.Goals as goal
use Rattle.def_evolve.proofs.all_breaks.Break.path.Goals.{then-at-gt0+in_ok-push, else-at-gt0}

-- the part that is read
part_there : (items way : List Part) (i : ℕ) → items ≡ way → i < length items → slice_get way i ≡ Some (get_or items i (Number 0))
part_there items way i e l = ap (λ ps. slice_get ps i) (sym e) ∙ slice_get-get_or items i (Number 0) l

pub loop-at-preserved : goal.loop-at-preserved
loop-at-preserved c =
    let items = c.deref-part-items.result.now in
    let way = c.args.self.now.way.items in
    let part = get_or items c.loop-at.at (Number 0) in
    let there : slice_get way c.loop-at.at ≡ Some part = part_there items way c.loop-at.at c.deref-part-items.ensures.value c.loop-at-test.true in
    elim c.if-at-gt0.branch [
      | then-at-gt0+in_ok-push w ↦ step_more part_text way c.loop-at.at part (string_bytes c.loop-at.path) (string_bytes c.if-at-gt0.path) (string_bytes c.put_part.new.path) w.if-at-gt0.true there c.loop-at.invariant
          (ap string_bytes w.path-is ∙ w.in_ok-push.ensures.bytes ∙ ap (λ bytes. string_bytes c.loop-at.path ++ bytes) (w.in_ok-push.ensures.ascii (omega arith))) c.in_ok-put_part.ensures
      | else-at-gt0 w ↦ step_first part_text way c.loop-at.at part (string_bytes c.if-at-gt0.path) (string_bytes c.put_part.new.path) w.if-at-gt0.false there (ap string_bytes w.path-is ∙ c.loop-at.invariant) c.in_ok-put_part.ensures
    ]
