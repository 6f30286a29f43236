use Rattle.std.proofs.Common.{◌≡◌, ◌++◌, ◌*◌, [], ◌∷◌, List, ℕ, sym, ap, ◌∙◌, string_bytes, arith}
use Rattle.graph_lines.specs.Statements.{Show}
use Rattle.load_maker.specs.Loads.{in_order, round_of, opening, statement_line, statements_text}
use Rattle.load_maker.proofs.TextParts.{no_part, part_more, opening_text, one_text, text_of-append}
use Rattle.load_maker.proofs.loads.make_text.Goals as goal

pub loop-round-init : goal.loop-round-init
loop-round-init c = c.in_ok-text.ensures.ok ∙ sym opening_text ∙ no_part (statements_text opening) round_of

pub loop-round-preserved : goal.loop-round-preserved
loop-round-preserved c =
    c.in_ok-put_round.ensures
    ∙ ap (λ (text : List ℕ). text ++ statements_text (round_of c.loop-round.round)) c.loop-round.invariant
    ∙ part_more (statements_text opening) round_of c.loop-round.round

pub returns : goal.returns
returns c =
    let n = c.args.rounds in
    let all : c.loop-round.round ≡ n = omega arith in
    let rounds : string_bytes c.loop-round.text ≡ statements_text (opening ++ in_order round_of n) =
    c.loop-round.invariant ∙ ap (λ (m : ℕ). statements_text opening ++ statements_text (in_order round_of m)) all ∙ sym (text_of-append opening (in_order round_of n)) in
    let shown : string_bytes c.writeln.new.self ≡ string_bytes c.loop-round.text ++ statement_line (Show (42 * n)) = c.in_ok-writeln.ensures.bytes in
    shown
    ∙ ap (λ (text : List ℕ). text ++ statement_line (Show (42 * n))) rounds
    ∙ ap (λ (line : List ℕ). statements_text (opening ++ in_order round_of n) ++ line) (sym (one_text (Show (42 * n))))
    ∙ sym (text_of-append (opening ++ in_order round_of n) (Show (42 * n) ∷ []))
