use Rattle.std.proofs.Common.{◌+◌, ◌++◌, [], ◌∷◌, drop, get_or, sym, ap, ◌∙◌, append_assoc}
use Rattle.std.proofs.lemmas.Option.{slice_get-get_or}
use Rattle.context_model.specs.Ended.{field_path_from}
use Rattle.context_model.specs.Kinds.{atom_of}
use Rattle.context_model.specs.Kinds.Kind.{Indexed}
use Rattle.bag_encode.proofs.SlotSteps.{headers_turn}
use Rattle.bag_encode.proofs.slots.put_headers.Goals as goal

pub loop-level-preserved : goal.loop-level-preserved
loop-level-preserved c =
    let numbers = c.args.numbers.now in
    let level = c.loop-level.level in
    let number = get_or numbers level 0 in
    let rest = field_path_from (level + 1) (drop (level + 1) numbers) in
    ap (λ l. l ++ rest) c.in_ok-push_index.ensures
    ∙ append_assoc c.loop-level.list (atom_of (Indexed level number) ∷ []) rest
    ∙ ap (λ l. c.loop-level.list ++ l) (sym (headers_turn numbers level number (slice_get-get_or numbers level 0 c.loop-level-test.true)))
    ∙ c.loop-level.invariant
