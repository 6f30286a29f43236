-- Runs: the longest prefix of a list whose bytes pass a test.
use Rattle.std.proofs.Common.{◌≡◌, ℕ, ◌<◌, ◌≤◌, Bool, true, false, List, [], ◌∷◌, ◌++◌, length, get_or, take, drop, sym, ap, ◌∙◌, subst, ⊎_elim, arith}
use Rattle.std.specs.List.{AllPass, prefix_len, take_while}
use Rattle.std.proofs.lemmas.List.{get_or-take, length-take-le, drop_more, drop_all}
use Rattle.std.proofs.lemmas.List.Elements.{All-head, All-tail, All-from_get_or}
use Rattle.std.proofs.lemmas.List.Folds.{length-prefix_len}
use Rattle.std.proofs.lemmas.List.Sums.{prefix_len-le-length, prefix_len_passes, prefix_len_stops}
use Rattle.std.proofs.str.Laws.{order}

-- the list is empty or its first byte fails the test
abbrev pub StopsAt : (ℕ → Bool) → List ℕ → Type 0
StopsAt test [] = Unit {0}
StopsAt test (b ∷ _) = test b ≡ false

-- the first n bytes are the longest prefix that passes
pub record IsRun (test : ℕ → Bool) (n : ℕ) (s : List ℕ) : Type 0 where
  pub within : n ≤ length s
  pub each : AllPass test (take n s)
  pub stops : StopsAt test (drop n s)

stops_at_prefix : (test : ℕ → Bool) (s : List ℕ) (n : ℕ) → n ≡ prefix_len test s → StopsAt test (drop n s)
stops_at_prefix test s n e =
    ⊎_elim
    (λ short. subst (StopsAt test) (sym (drop_more s n 0 short)) (ap (λ k. test (get_or s k 0)) e ∙ prefix_len_stops test s 0 (omega arith)))
    (λ whole. subst (StopsAt test) (sym (drop_all n s whole)) tt)
    (order n (length s))

pub run_of : (test : ℕ → Bool) (s : List ℕ) (n : ℕ) → n ≡ length (take_while test s) → IsRun test n s
run_of test s n e =
    let is : n ≡ prefix_len test s = e ∙ length-prefix_len test s in
    let most = prefix_len-le-length test s in
    let short : n ≤ length s = omega arith in
    record {
      within = short;
      each = All-from_get_or (λ b. test b ≡ true) (take n s) 0 (λ i lt.
          let len = length-take-le n s short in
          let below : i < n = omega arith in
          ap test (get_or-take n s i 0 below) ∙ prefix_len_passes test s i 0 (omega arith));
      stops = stops_at_prefix test s n is;
    }

-- a prefix that passes is no longer than one after which the test fails
pub run_longest : (test : ℕ → Bool) (a b x y : List ℕ) → a ++ x ≡ b ++ y → StopsAt test x → AllPass test b → length b ≤ length a
run_longest test a [] x y e stops each = omega arith
run_longest test [] (c ∷ b) x y e stops each =
    let fails : test c ≡ false = subst (StopsAt test) e stops in
    let passes : test c ≡ true = All-head (λ b. test b ≡ true) c b each in
    absurd (let clash : true ≡ false = sym passes ∙ fails in cc)
run_longest test (d ∷ a) (c ∷ b) x y e stops each =
    let tails : a ++ x ≡ b ++ y = cc in
    let shorter = run_longest test a b x y tails stops (All-tail (λ b. test b ≡ true) c b each) in
    omega arith
