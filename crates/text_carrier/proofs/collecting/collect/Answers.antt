use Rattle.std.proofs.Common.{◌≡◌, ◌≤◌, Ok, Err, length, sym, ◌∙◌, ap, subst}
use Rattle.std.specs.List.{All}
use Rattle.std.proofs.lemmas.Result.{IfErr-weaker, err_from_is_err_and}
use Rattle.text_lines.specs.Lines.{lines_of}
use Rattle.text_carrier.specs.declared.TheConstants.{CARRIED_MAX}
use Rattle.text_carrier.specs.Collecting.{AreWhole, Collects}
use Rattle.text_carrier.specs.Views.{IsData, IsJoinFault, all_bytes}
use Rattle.text_carrier.proofs.Joined.{all_data, both_ok, join_fault, order_fault, texts_of, whole}
use Rattle.text_carrier.proofs.collecting.collect.Goals as goal

pub returns-in_err-texts-clause-err : goal.returns-in_err-texts-clause-err
returns-in_err-texts-clause-err c =
    let (said, all, keeps) = c.in_ok-pieces.ensures.ok in
    let exit = err_from_is_err_and c.from_residual-in_err-texts.result c.from_residual-in_err-texts.ensures.1 in
    rw (exit.1, exit.2) (order_fault (lines_of c.args.text.now) said _ all (c.in_err-texts.ensures.err said keeps))

pub join-requires : goal.join-requires
join-requires c =
    let (said, all, keeps) = c.in_ok-pieces.ensures.ok in
    let ordered = c.in_ok-texts.ensures.ok said keeps in
    subst (λ texts. All IsData (texts_of texts)) (sym c.as_slice.ensures.value) (all_data said c.in_ok-pieces.pieces (texts_of c.in_ok-texts.texts.items) keeps ordered.1)

pub returns-clause-ok : goal.returns-clause-ok
returns-clause-ok c =
    let (said, all, keeps) = c.in_ok-pieces.ensures.ok in
    let ordered = c.in_ok-texts.ensures.ok said keeps in
    let texts = texts_of c.in_ok-texts.texts.items in
    let is_whole = whole said c.in_ok-pieces.pieces texts keeps ordered.1 in
    let same : all_bytes (texts_of c.as_slice.result.now) ≡ all_bytes texts = ap (λ ts. all_bytes (texts_of ts)) c.as_slice.ensures.value in
    both_ok c.join.result (λ bytes. bytes.items ≡ all_bytes (texts_of c.as_slice.result.now)) (λ bytes. length bytes.items ≤ CARRIED_MAX) (λ bytes. Collects (lines_of c.args.text.now) (Ok bytes.items))
    (λ bytes is few. (said, (all, ordered.0), subst (AreWhole said) (sym (is ∙ same)) is_whole, few))
    c.join.ensures.bytes c.join.ensures.few

pub returns-clause-err : goal.returns-clause-err
returns-clause-err c =
    let (said, all, keeps) = c.in_ok-pieces.ensures.ok in
    let ordered = c.in_ok-texts.ensures.ok said keeps in
    let texts = texts_of c.in_ok-texts.texts.items in
    let is_whole = whole said c.in_ok-pieces.pieces texts keeps ordered.1 in
    IfErr-weaker c.join.result (IsJoinFault (texts_of c.as_slice.result.now)) (λ fault. Collects (lines_of c.args.text.now) (Err fault))
    (λ fault is. join_fault (lines_of c.args.text.now) said texts fault (all, ordered.0) is_whole (subst (λ ts. IsJoinFault (texts_of ts) fault) c.as_slice.ensures.value is))
    c.join.ensures.err
