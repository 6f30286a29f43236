-- The text of statements, part by part.
use Rattle.std.proofs.Common.{◌≡◌, ℕ, ◌+◌, suc, List, [], ◌∷◌, ◌++◌, refl, sym, ap, ◌∙◌, append_assoc, codes, arith}
use Rattle.std.proofs.Math.Numerals.{add-one}
use Rattle.std.proofs.lemmas.Grind.{flat_map-append}
use Rattle.std.proofs.lemmas.List.{append-nil}
use Rattle.std.proofs.lemmas.Fmt.{decimal_digit}
use Rattle.graph_lines.specs.Statements.{Statement}
use Rattle.load_maker.specs.Loads.{in_order, opening, statement_line, statements_text}

pub text_of-append : (first rest : List Statement) → statements_text (first ++ rest) ≡ statements_text first ++ statements_text rest
unfolding statements_text
text_of-append first rest = flat_map-append statement_line first rest

pub in_order-none : (part : ℕ → List Statement) → in_order part 0 ≡ []
unfolding in_order
in_order-none part = refl

pub in_order-more : (part : ℕ → List Statement) (n : ℕ) → in_order part (suc n) ≡ in_order part n ++ part n
unfolding in_order
in_order-more part n = refl

pub none_text : statements_text [] ≡ []
unfolding statements_text
none_text = refl

-- The text of one part more.
pub part_more : (before : List ℕ) (part : ℕ → List Statement) (n : ℕ) → (before ++ statements_text (in_order part n)) ++ statements_text (part n) ≡ before ++ statements_text (in_order part (n + 1))
part_more before part n =
    append_assoc before (statements_text (in_order part n)) (statements_text (part n))
    ∙ ap (λ (text : List ℕ). before ++ text) (sym (text_of-append (in_order part n) (part n)) ∙ ap statements_text (sym (in_order-more part n) ∙ ap (in_order part) (sym (add-one n))))

-- No part was written yet.
pub no_part : (before : List ℕ) (part : ℕ → List Statement) → before ≡ before ++ statements_text (in_order part 0)
no_part before part = sym (append-nil before) ∙ ap (λ (text : List ℕ). before ++ text) (sym (ap statements_text (in_order-none part) ∙ none_text))

-- The text of some statements, and after it that of others.
pub then_text : (before : List ℕ) (first rest : List Statement) → (before ++ statements_text first) ++ statements_text rest ≡ before ++ statements_text (first ++ rest)
then_text before first rest = append_assoc before (statements_text first) (statements_text rest) ∙ ap (λ (text : List ℕ). before ++ text) (sym (text_of-append first rest))

-- The lines before the first round.
pub opening_text : statements_text opening ≡ (codes "service a all" ++ 10 ∷ []) ++ ((codes "service b none" ++ 10 ∷ []) ++ (codes "start 0 a" ++ 10 ∷ []))
unfolding statements_text
opening_text =
    ap (λ (number : List ℕ). (codes "service a all" ++ 10 ∷ []) ++ ((codes "service b none" ++ 10 ∷ []) ++ (((codes "start " ++ (number ++ codes " a")) ++ 10 ∷ []) ++ [])))
    (decimal_digit 0 (omega arith))

pub one_text : (line : Statement) → statements_text (line ∷ []) ≡ statement_line line
unfolding statements_text
one_text line = append-nil (statement_line line)
