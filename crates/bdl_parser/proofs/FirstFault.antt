-- From where the parser stops to the first fault.
use Rattle.std.proofs.Common.{◌≡◌, ℕ, zero, suc, ◌+◌, ◌<◌, ◌≤◌, List, [], ◌∷◌, ◌++◌, length, take, refl, sym, ap, ◌∙◌, subst, ⊎_elim, arith, append_assoc, length-append}
use Rattle.std.proofs.lemmas.List.{append_cancel_right, take_at}
use Rattle.std.proofs.str.Laws.{order}
use Rattle.bdl_parser.specs.declared.TheConstants.{NESTING_MAX}
use Rattle.bdl_parser.specs.declared.ParseCode.{ParseCode}
use Rattle.bdl_parser.specs.declared.ParseCode.TheVariants.{Expected, TypeNesting}
use Rattle.outside.specs.declared.answers.OrMemory.TheVariants.{Fault}
use Rattle.bdl_parser.specs.declared.trees.Module.{Module}
use Rattle.bdl_parser.specs.FirstFault.{ExpectedAt, NestsAt, FaultAt}
use Rattle.bdl_parser.specs.Grammar.{a_type, a_module}
use Rattle.bdl_parser.specs.Lexemes.{Lexeme}
use Rattle.bdl_parser.specs.Refusals.{IsFormRefused}
use Rattle.grammar_model.specs.Stops.{behind}
use Rattle.grammar_model.proofs.Growth.{Grows, grows_same}
use Rattle.bdl_parser.proofs.GrammarLaws.{ender_module, grows_type, grows_module}

compose : (n m k : ℕ) → Grows (a_type n) (a_type m) → Grows (a_type m) (a_type k) → Grows (a_type n) (a_type k)
compose n m k g h = record { read = λ ts a rest r. h.read ts a rest (g.read ts a rest r); begun = λ ts b. h.begun ts (g.begun ts b) }

-- more room, however much
more_room : (n d : ℕ) → Grows (a_type n) (a_type (d + n))
more_room n zero = let e : n ≡ 0 + n = omega arith in subst (λ m. Grows (a_type n) (a_type m)) e (grows_same (a_type n))
more_room n (suc d) =
    let e : suc (d + n) ≡ suc d + n = omega arith in
    subst (λ m. Grows (a_type n) (a_type m)) e (compose n (d + n) (suc (d + n)) (more_room n d) (grows_type (d + n)))

-- a module of any room has as much room as it and NESTING_MAX
module_grows : (n : ℕ) → Grows (a_module n) (a_module (NESTING_MAX + n))
module_grows n = grows_module n (NESTING_MAX + n) (more_room n NESTING_MAX)

-- a longer prefix goes on with the next token
goes_on : (front bad : List Lexeme) (j : ℕ) → length front < j → j ≤ length (front ++ bad) → (t : Lexeme) × (rest more : List Lexeme) × (bad ≡ t ∷ rest) × (take j (front ++ bad) ≡ front ++ t ∷ more)
goes_on front [] j past within = absurd (omega (arith, length-append front []))
goes_on front (t ∷ bad) zero past within = absurd (omega arith)
goes_on [] (t ∷ bad) (suc j) past within = (t, bad, take j bad, refl, refl)
goes_on (u ∷ front) (t ∷ bad) (suc j) past within =
    let it = goes_on front (t ∷ bad) j (omega arith) (omega arith) in
    (it.0, it.1, it.2, it.3, λ i. u ∷ it.4 i)

tail : List Lexeme → List Lexeme
tail [] = []
tail (t ∷ ts) = ts

all_behind : (bad : List Lexeme) → bad ≡ behind bad (tail bad)
unfolding tail
all_behind [] = refl
all_behind (t ∷ bad) = refl

expected_at : (ts bad : List Lexeme) (k : ℕ) → IsFormRefused a_module NESTING_MAX (Fault Expected) ts bad → k + length bad ≡ length ts → ExpectedAt ts k
expected_at ts bad k r count =
    let s = r NESTING_MAX (omega arith) in
    let split = ap length s.cut ∙ length-append s.front bad in
    let front_len : length s.front ≡ k = omega arith in
    let front_is : take k ts ≡ s.front = ap (take k) s.cut ∙ take_at s.front bad k front_len in
    record {
      within = omega arith;
      begins = (NESTING_MAX, subst (a_module NESTING_MAX).begins (sym front_is) s.begun);
      longest = λ j short b.
          ⊎_elim
          (λ (past : k < j).
          let wide = r (NESTING_MAX + b.0) (omega arith) in
          let same : wide.front ≡ s.front = append_cancel_right wide.front s.front bad (sym wide.cut ∙ s.cut) in
          let it = goes_on s.front bad j (omega arith) (subst (λ xs. j ≤ length xs) s.cut short) in
          let begun = (module_grows b.0).begun (take j ts) b.1 in
          let there : take j ts ≡ wide.front ++ it.0 ∷ it.2 = ap (take j) s.cut ∙ it.4 ∙ ap (λ xs. xs ++ it.0 ∷ it.2) (sym same) in
          absurd (wide.ends it.0 it.1 it.2 it.3 (subst (a_module (NESTING_MAX + b.0)).begins there begun)))
          (λ fine. fine)
          (order k j);
      shallow = subst (a_module NESTING_MAX).begins (sym front_is) s.begun;
      none = λ n module_ reads.
          let wide = r (NESTING_MAX + n) (omega arith) in
          let read = (module_grows n).read ts module_ [] reads in
          let there : ts ≡ wide.front ++ behind bad (tail bad) = wide.cut ∙ ap (λ xs. wide.front ++ xs) (all_behind bad) in
          wide.none (tail bad) module_ [] (subst (λ xs. (a_module (NESTING_MAX + n)).reads xs module_ []) there read);
    }

next_front : (front bad rest : List Lexeme) (next : Lexeme) (k : ℕ) → bad ≡ next ∷ rest → length front ≡ k → take (k + 1) (front ++ bad) ≡ front ++ next ∷ []
next_front front bad rest next k is len =
    let e : front ++ bad ≡ (front ++ next ∷ []) ++ rest = ap (λ xs. front ++ xs) is ∙ sym (append_assoc front (next ∷ []) rest) in
    ap (take (k + 1)) e ∙ take_at (front ++ next ∷ []) rest (k + 1) (let l = length-append front (next ∷ []) in omega arith)

nests_at : (ts bad : List Lexeme) (k : ℕ) → IsFormRefused a_module NESTING_MAX (Fault TypeNesting) ts bad → k + length bad ≡ length ts → NestsAt ts k
nests_at ts bad k r count =
    let s = r.stops in
    let split = ap length s.cut ∙ length-append s.front bad in
    let same : r.front ≡ s.front = append_cancel_right r.front s.front bad (sym r.cut ∙ s.cut) in
    let front_len : length s.front ≡ k = omega arith in
    let bad_len = ap length r.there in
    let front_is : take k ts ≡ s.front = ap (take k) s.cut ∙ take_at s.front bad k front_len in
    let next_is : take (k + 1) ts ≡ s.front ++ r.next ∷ [] = ap (take (k + 1)) s.cut ∙ next_front s.front bad r.rest r.next k r.there front_len in
    record {
      within = omega arith;
      shallow = subst (a_module NESTING_MAX).begins (sym front_is) s.begun;
      begins = (NESTING_MAX + 1, subst (a_module (NESTING_MAX + 1)).begins (ap (λ xs. xs ++ r.next ∷ []) same ∙ sym next_is) r.on);
      deep = λ b. s.ends r.next r.rest [] r.there (subst (a_module NESTING_MAX).begins next_is b);
    }

-- what is left is no longer than all
pub fault_within : (code : ParseCode) (ts bad : List Lexeme) → IsFormRefused a_module NESTING_MAX (Fault code) ts bad
    → length bad ≤ length ts
fault_within Expected ts bad r =
    let s = r NESTING_MAX (omega arith) in omega (arith, ap length s.cut, length-append s.front bad)
fault_within TypeNesting ts bad r = omega (arith, ap length r.cut, length-append r.front bad)

-- the place of the parser is the first fault
pub fault_at : (code : ParseCode) (ts bad : List Lexeme) (k : ℕ) → IsFormRefused a_module NESTING_MAX (Fault code) ts bad
    → k + length bad ≡ length ts → FaultAt ts k code
fault_at Expected ts bad k r count = expected_at ts bad k r count
fault_at TypeNesting ts bad k r count = nests_at ts bad k r count

-- a module is one
pub one_module : (ts : List Lexeme) (a b : Module) → (a_module NESTING_MAX).reads ts a [] → (a_module NESTING_MAX).reads ts b [] → a ≡ b
one_module ts a b r s = ((ender_module NESTING_MAX).one ts a b [] [] r s).0
