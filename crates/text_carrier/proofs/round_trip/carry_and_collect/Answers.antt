use Rattle.std.proofs.Common.{◌≡◌, Ok, Err, List, ℕ, inl, inr, sym, ◌∙◌, subst}
use Rattle.std.proofs.lemmas.Result.{IfErr-weaker, IfOk-weaker}
use Rattle.text_lines.specs.Lines.{lines_of}
use Rattle.text_carrier.specs.declared.faults.CarryFault.{CarryFault}
use Rattle.text_carrier.specs.declared.faults.CarryFault.TheVariants as faults
use Rattle.text_carrier.specs.Carrying.{IsCarried, carried_lines, carried_text}
use Rattle.text_carrier.specs.Collecting.{Collects}
use Rattle.text_carrier.proofs.OneWay.{AreOneAnswer}
use Rattle.text_carrier.proofs.round_trip.carry_and_collect.Goals as goal

-- One of the answers is the bytes; so the other is the same bytes, or memory ran out.
same_bytes : (text back bytes : List ℕ) → AreOneAnswer (lines_of text) (Ok back) (Ok bytes) → back ≡ bytes
same_bytes text back bytes (inl is) = cc is
same_bytes text back bytes (inr (inl bad)) = absurd (cc bad)
same_bytes text back bytes (inr (inr bad)) = absurd (cc bad)

only_want : (text bytes : List ℕ) (fault : CarryFault) → AreOneAnswer (lines_of text) (Err fault) (Ok bytes) → fault ≡ faults.Memory
only_want text bytes fault (inl bad) = absurd (cc bad)
only_want text bytes fault (inr (inl is)) = cc is
only_want text bytes fault (inr (inr bad)) = absurd (cc bad)

-- The text that was carried collects to the bytes.
comes_back : (width : ℕ) (bytes text : List ℕ) → IsCarried width bytes → text ≡ carried_text width bytes → Collects (lines_of (carried_text width bytes)) (Ok bytes) → Collects (lines_of text) (Ok bytes)
comes_back width bytes text carried is back = subst (λ t. Collects (lines_of t) (Ok bytes)) (sym is) back

pub returns-clause-ok : goal.returns-clause-ok
returns-clause-ok c =
    let bytes = c.args.bytes.now in
    let text = c.as_slice.result.now in
    let carried : IsCarried c.args.width bytes = record { least = c.requires.least; most = c.requires.most; few = c.requires.few; are_bytes = λ i. (c.type_inv.bytes i).fits } in
    let here = comes_back c.args.width bytes text carried (c.as_slice.ensures.value ∙ c.in_ok-text.ensures)
    (c.carried_lines_come_back.ensures c.args.width bytes (carried_lines c.args.width bytes) carried (λ line i. i) (λ line i. i)) in
    IfOk-weaker c.collect.result (λ found. Collects (lines_of text) (Ok found.items)) (λ found. found.items ≡ bytes)
    (λ found collects. same_bytes text found.items bytes (c.lines_collect_one_way.ensures (lines_of text) (Ok found.items) (Ok bytes) collects here))
    c.collect.ensures.ok

pub returns-clause-err : goal.returns-clause-err
returns-clause-err c =
    let bytes = c.args.bytes.now in
    let text = c.as_slice.result.now in
    let carried : IsCarried c.args.width bytes = record { least = c.requires.least; most = c.requires.most; few = c.requires.few; are_bytes = λ i. (c.type_inv.bytes i).fits } in
    let here = comes_back c.args.width bytes text carried (c.as_slice.ensures.value ∙ c.in_ok-text.ensures)
    (c.carried_lines_come_back.ensures c.args.width bytes (carried_lines c.args.width bytes) carried (λ line i. i) (λ line i. i)) in
    IfErr-weaker c.collect.result (λ fault. Collects (lines_of text) (Err fault)) (λ fault. fault ≡ faults.Memory)
    (λ fault collects. only_want text bytes fault (c.lines_collect_one_way.ensures (lines_of text) (Err fault) (Ok bytes) collects here))
    c.collect.ensures.err
