use Rattle.std.proofs.Common.{◌≡◌, ◌++◌, ◌<◌, ℕ, List, [], length, string_bytes, get_or, Some, sym, ap, ◌∙◌, arith}
use Rattle.std.specs.Borrow.{Bor}
use Rattle.std.specs.List.{slice_get}
use Rattle.std.proofs.lemmas.Option.{slice_get-get_or}
use Rattle.def_evolve.proofs.WiderLists.{step_first, step_more}
use Rattle.def_evolve.proofs.sides.Side.path.Goals as goal
use Rattle.def_evolve.proofs.sides.Side.path.Goals.{then-at-gt0+in_ok-push, else-at-gt0}

abbrev none : Bor (List ℕ)
none = record { ref_ptr = (0, 0); now = [] }

-- the bytes of a name
abbrev shown : Bor (List ℕ) → List ℕ
shown name = name.now

-- the name that is read
name_there : (items names : List (Bor (List ℕ))) (i : ℕ) → items ≡ names → i < length items → slice_get names i ≡ Some (get_or items i none)
name_there items names i e l = ap (λ xs. slice_get xs i) (sym e) ∙ slice_get-get_or items i none l

pub loop-at-preserved : goal.loop-at-preserved
loop-at-preserved c =
    let items = c.deref-name-items.result.now in
    let names = c.args.self.now.names.items in
    let name = get_or items c.loop-at.at none in
    let there : slice_get names c.loop-at.at ≡ Some name = name_there items names c.loop-at.at c.deref-name-items.ensures.value c.loop-at-test.true in
    let after = string_bytes c.push_str.new.self in
    elim c.if-at-gt0.branch [
      | then-at-gt0+in_ok-push w ↦ step_more shown names c.loop-at.at name (string_bytes c.loop-at.path) (string_bytes c.if-at-gt0.path) after w.if-at-gt0.true there c.loop-at.invariant
          (ap string_bytes w.path-is ∙ w.in_ok-push.ensures.bytes ∙ ap (λ bytes. string_bytes c.loop-at.path ++ bytes) (w.in_ok-push.ensures.ascii (omega arith))) c.in_ok-push_str.ensures.bytes
      | else-at-gt0 w ↦ step_first shown names c.loop-at.at name (string_bytes c.if-at-gt0.path) after w.if-at-gt0.false there (ap string_bytes w.path-is ∙ c.loop-at.invariant) c.in_ok-push_str.ensures.bytes
    ]
