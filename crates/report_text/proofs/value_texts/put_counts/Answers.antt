use Rattle.std.proofs.Common.{◌≡◌, ℕ, List, ◌++◌, codes, map, Result, IsErrAnd, ap, ◌∙◌, append_assoc, arith}
use Rattle.std.specs.Global.{Vec}
use Rattle.std.specs.Prelude.{sum_by}
use Rattle.std.specs.Fmt.{decimal}
use Rattle.std.proofs.lemmas.List.{length-map}
use Rattle.text_model.specs.Commas.{in_braces}
use Rattle.report_text.specs.Extension.{Extends, Appends}
use Rattle.text_model.specs.ScalarTexts.{bytes_text}
use Rattle.text_model.specs.ValueTexts.{count_text}
use Rattle.report_text.proofs.Grown.{unchanged, stopped}
use Rattle.report_text.proofs.Joined.{first_joined, next_text, closed, three_parts}
use Rattle.report_text.proofs.Places.{answered, mapped}
use Rattle.report_text.proofs.value_texts.put_counts.Goals as goal

pub loop-at-preserved : goal.loop-at-preserved
loop-at-preserved c =
    let at = c.loop-at.at in
    let counts = c.args.counts.now in
    let writer = c.unwrap-count.result.0.now in
    let count = c.unwrap-count.result.1 in
    next_text ((c.args.into.now.items ++ decimal (sum_by (λ entry. entry.1) counts)) ++ codes "{") c.loop-at.into.items c.put_comma.new.into.items c.put_number-in-loop-at.new.into.items
    (map count_text counts) at (count_text (writer, count)) c.loop-at.invariant c.in_ok-put_comma.ensures.ok
    (three_parts c.put_comma.new.into.items c.put_bytes.new.into.items c.push-in-loop-at.new.self.items c.put_number-in-loop-at.new.into.items
    (bytes_text writer) (codes ":") (decimal count) c.in_ok-put_bytes.ensures.ok c.in_ok-push-2.ensures.items c.in_ok-put_number-2.ensures.ok)
    (mapped count_text counts at (writer, count) (answered _ c.nth.result c.unwrap-count.result counts at c.nth.ensures c.unwrap-count.ensures))

pub returns : goal.returns
returns c =
    let counts = c.args.counts.now in
    let total = decimal (sum_by (λ entry. entry.1) counts) in
    let whole : c.push-2.new.self.items ≡ (c.args.into.now.items ++ total) ++ in_braces (map count_text counts) =
    closed (c.args.into.now.items ++ total) (codes "{") c.loop-at.into.items c.push-2.new.self.items (codes "}") (map count_text counts) c.loop-at.at c.loop-at.invariant
    (omega (arith, length-map counts count_text))
    c.in_ok-push-3.ensures.items
    in
    record { ok = whole ∙ append_assoc c.args.into.now.items total (in_braces (map count_text counts)); err = tt }

-- A refusal after the total, the opening and some counts.
stopped_counts : {E : Type 0} (Q : E → Type 0) (r : Result (Unit {0}) E) (text total opening so_far : List ℕ) (old new : Vec ℕ) (before : List ℕ)
    → IsErrAnd r Q → before ≡ ((old.items ++ total) ++ opening) ++ so_far → Extends before new.items → Appends r text old new
stopped_counts Q r text total opening so_far old new before told come rest =
    stopped Q r text (total ++ opening) so_far old new before told (come ∙ ap (λ (l : List ℕ). l ++ so_far) (append_assoc old.items total opening)) rest

pub returns-in_err-put_comma : goal.returns-in_err-put_comma
returns-in_err-put_comma c =
    let counts = c.args.counts.now in
    stopped_counts _ c.from_residual-in_err-put_comma.result _ (decimal (sum_by (λ entry. entry.1) counts)) (codes "{") (first_joined c.loop-at.at (map count_text counts))
    c.args.into.now c.put_comma.new.into c.loop-at.into.items c.from_residual-in_err-put_comma.ensures.1 c.loop-at.invariant c.in_err-put_comma.ensures.err

pub returns-in_err-push-3 : goal.returns-in_err-push-3
returns-in_err-push-3 c =
    let counts = c.args.counts.now in
    stopped_counts _ c.from_residual-in_err-push-3.result _ (decimal (sum_by (λ entry. entry.1) counts)) (codes "{") (first_joined c.loop-at.at (map count_text counts))
    c.args.into.now c.push-2.new.self c.loop-at.into.items c.from_residual-in_err-push-3.ensures.1 c.loop-at.invariant (unchanged _ _ c.in_err-push-3.ensures.items)
