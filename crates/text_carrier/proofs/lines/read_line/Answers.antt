use Rattle.std.proofs.Common.{◌≡◌, ◌∷◌, ◌++◌, ◌<◌, true, ℕ, List, drop, length, sym, ap, ◌∙◌, subst}
use Rattle.std.specs.Fmt.{decimal}
use Rattle.text_lines.specs.Words.{HasNoSpace}
use Rattle.text_carrier.proofs.lines.read_line.Goals as goal

pub returns-in_err-place : goal.returns-in_err-place
returns-in_err-place c =
    rw c.from_residual-in_err-place.ensures
    (λ place count word form.
    c.in_err-place.ensures place (decimal count ++ 32 ∷ word) (form.place_few, c.in_ok-rest.ensures.cases.1 ∙ ap (λ (l : List ℕ). drop 2 l) form.is))

pub returns-in_err-count : goal.returns-in_err-count
returns-in_err-count c =
    rw c.from_residual-in_err-count.ensures
    (λ place count word form.
    let one = c.in_ok-place.ensures.1 place (decimal count ++ 32 ∷ word) (form.place_few, c.in_ok-rest.ensures.cases.1 ∙ ap (λ (l : List ℕ). drop 2 l) form.is) in
    c.in_err-count.ensures count word (form.count_few, sym one.1))

pub returns-then-not-is_one_word : goal.returns-then-not-is_one_word
returns-then-not-is_one_word c = λ place count word form.
    let one = c.in_ok-place.ensures.1 place (decimal count ++ 32 ∷ word) (form.place_few, c.in_ok-rest.ensures.cases.1 ∙ ap (λ (l : List ℕ). drop 2 l) form.is) in
    let two = c.in_ok-count.ensures.1 count word (form.count_few, sym one.1) in
    let is_one : c.is_one_word.result ≡ true =
    c.is_one_word.ensures.1 (subst (λ w. 0 < length w) two.1 form.word_some, subst HasNoSpace two.1 form.word_whole) in
    cc (is_one, c.if-not-is_one_word.true)
