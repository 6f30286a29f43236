use Rattle.std.proofs.Common.{◌++◌, ◌∷◌, ◌∙◌, [], List, ℕ, ap, string_bytes, sym}
use Rattle.std.specs.Vec.Iter.{into_iter_items, into_iter_len}
use Rattle.baggage.proofs.CommandLine.{behind_first, one_more, none_left}
use Rattle.baggage.proofs.adapters.words_behind_first.Goals as goal

pub loop-text-init : goal.loop-text-init
loop-text-init c =
    rw (c.new-words.ensures, c.into_iter-text-iterator.ensures.into_iter_gives)
    (behind_first string_bytes c.next-program.result (into_iter_items c.args.texts) (into_iter_items c.next-program.new.self)
    (into_iter_len c.args.texts) c.next-program.ensures.items c.args.texts.rest.ok.0 c.next-program.ensures.variant)

pub loop-text-preserved : goal.loop-text-preserved
loop-text-preserved c =
    one_more string_bytes c.in-Some.text (into_iter_items c.loop-text.text-iterator) (into_iter_items c.next.new.self)
    c.loop-text.words c.push.new.self _ c.in-Some.ensures.steps.0
    (c.in_ok-push.ensures.ok ∙ ap (λ (word : List ℕ). c.loop-text.words ++ word ∷ []) c.in_ok-from_string.ensures.made)
    c.loop-text.invariant

pub returns : goal.returns
returns c =
    none_left string_bytes (into_iter_items c.loop-text.text-iterator) c.loop-text.words _
    (sym c.loop-text.text-iterator.rest.ok.0 ∙ c.in-None.ensures.steps.0) c.loop-text.invariant
