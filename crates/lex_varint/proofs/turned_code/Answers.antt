use Rattle.std.proofs.Common.{◌≡◌, ℕ, ◌+◌, ◌-◌, ◌<◌, ◌≤◌, List, ◌++◌, map, take, drop, length, sym, refl, ap, ap₂, ◌∙◌, arith, rules, append-nil, get_or, set, length-append, take-append-drop}
use Rattle.std.proofs.lemmas.List.{get_or_default, length-map, take-map, take_all, drop_all}
use Rattle.std.proofs.lemmas.List.Edits.{map_over_more}
use Rattle.context_model.specs.Varints.{complement}
use Rattle.lex_varint.proofs.turned_code.Goals as goal

long : (xs ys : List ℕ) (i : ℕ) → ys ≡ map (λ b. 255 - b) (take i xs) ++ drop i xs → length ys ≡ length xs
long xs ys i e = ap length e ∙ length-append (map (λ b. 255 - b) (take i xs)) (drop i xs) ∙ ap (λ v. v + length (drop i xs)) (length-map (take i xs) (λ b. 255 - b)) ∙ sym (length-append (take i xs) (drop i xs)) ∙ ap length (take-append-drop i xs)

step : (xs ys : List ℕ) (i : ℕ) → i < length xs → ys ≡ map (λ b. 255 - b) (take i xs) ++ drop i xs
    → set ys i (255 - get_or ys i 0) ≡ map (λ b. 255 - b) (take (i + 1) xs) ++ drop (i + 1) xs
step xs ys i h e = map_over_more (λ b. 255 - b) xs ys i (get_or ys i 0) h e (get_or_default ys i 0 (get_or ys i 0) (omega (arith, long xs ys i e)))

pub loop-byte-init : goal.loop-byte-init
loop-byte-init c = record { long = search rules; done = refl }

pub loop-byte-preserved : goal.loop-byte-preserved
loop-byte-preserved c = record {
  long = c.loop-byte.invariant.long;
  done = step c.code.inside.bytes c.loop-byte.byte-items c.loop-byte.byte-index (omega (arith, c.loop-byte.invariant.long)) c.loop-byte.invariant.done;
}

whole : (xs ys : List ℕ) (i : ℕ) → length xs ≤ i → ys ≡ map (λ b. 255 - b) (take i xs) ++ drop i xs → ys ≡ map (λ b. 255 - b) xs
whole xs ys i h e = e ∙ ap₂ (λ a b. map (λ b. 255 - b) a ++ b) (take_all i xs h) (drop_all i xs h) ∙ append-nil (map (λ b. 255 - b) xs)

pub returns : goal.returns
unfolding complement
returns c =
    ap (take c.code.inside.len) (whole c.code.inside.bytes c.loop-byte.byte-items c.loop-byte.byte-index (omega (arith, c.loop-byte.invariant.long)) c.loop-byte.invariant.done)
    ∙ take-map (λ b. 255 - b) c.code.inside.len c.code.inside.bytes ∙ ap (map (λ b. 255 - b)) c.code.view_is
