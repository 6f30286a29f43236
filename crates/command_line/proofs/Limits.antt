-- The numbers of what words ask for are within their limits.
use Rattle.std.proofs.Common.{◌≡◌, ℕ, ◌<◌, Bool, true, false, ◌||◌, List, [], ◌∷◌, nat_lt, if◌then◌else◌, codes, bytes_eq, Option, Some, None, IfSome, refl, sym, subst, arith}
use Rattle.std.specs.Option.{option_map, option_and_then}
use Rattle.std.proofs.lemmas.Bool.Decides.{nat_tests}
use Rattle.graph_lines.specs.declared.TheConstants.{ROUNDS_MAX}
use Rattle.text_carrier.specs.declared.TheConstants.{WIDTH_MIN, WIDTH_MAX}
use Rattle.command_line.specs.declared.commands.Command.{Command}
use Rattle.command_line.specs.Commands.{Task, IsWithinLimits, carry, check, collect, command_of, decode, evolve, load, merge, positive_number_of, table, rounds_of, run, run_json, run_table, step_of_word, task_of, trim, verify, why, width_of}
use Rattle.command_line.proofs.Numbers.{positive}

-- What is asked for, if anything, is within its limits.
abbrev pub Limited : Option Task → Type 0
Limited task = IfSome task IsWithinLimits

either : (test : Bool) (task other : Option Task) → Limited task → Limited other → Limited (if test then task else other)
either true task other first second = first
either false task other first second = second

-- A task is within its limits whatever its number.
mapped : (task : ℕ → Task) → ((number : ℕ) → IsWithinLimits (task number)) → (number : Option ℕ) → Limited (option_map task number)
mapped task within None = tt
mapped task within (Some number) = within number

carried : (number : Option ℕ) → Limited (option_map carry (option_and_then (λ width. if nat_lt width WIDTH_MIN || nat_lt WIDTH_MAX width then None else Some width) number))
carried None = tt
carried (Some width) = by (nat_lt width WIDTH_MIN || nat_lt WIDTH_MAX width) refl
  where
    by : (test : Bool) → (nat_lt width WIDTH_MIN || nat_lt WIDTH_MAX width) ≡ test → Limited (option_map carry (if test then None else Some width))
    by true e = tt
    by false e = (grind (arith, nat_tests, e), grind (arith, nat_tests, e))

loaded : (number : Option ℕ) → IfSome number (λ n. 0 < n) → Limited (option_map load (option_and_then (λ rounds. if nat_lt ROUNDS_MAX rounds then None else Some rounds) number))
loaded None some = tt
loaded (Some rounds) some = by (nat_lt ROUNDS_MAX rounds) refl
  where
    by : (test : Bool) → nat_lt ROUNDS_MAX rounds ≡ test → Limited (option_map load (if test then None else Some rounds))
    by true e = tt
    by false e = let least : 0 < rounds = some in (omega (arith, least), grind (arith, nat_tests, e))

limited : (words : List (List ℕ)) → Limited (command_of words)
unfolding command_of
limited [] = tt
limited (name ∷ []) =
    either (bytes_eq name (codes "merge")) (Some merge) _ tt (either (bytes_eq name (codes "collect")) (Some collect) None tt tt)
limited (name ∷ word ∷ []) =
    either (bytes_eq name (codes "trim")) (option_map trim (positive_number_of word)) _ (mapped trim (λ n. tt) (positive_number_of word))
    (either (bytes_eq name (codes "carry")) (option_map carry (width_of word)) _ (carried (positive_number_of word))
    (either (bytes_eq name (codes "load")) (option_map load (rounds_of word)) _ (loaded (positive_number_of word) (positive word))
    (either (bytes_eq name (codes "runtable")) (Some (run_table word)) None tt tt)))
limited (name ∷ file ∷ bag ∷ []) =
    either (bytes_eq name (codes "check")) (Some (check file bag)) _ tt (either (bytes_eq name (codes "table")) (Some (table file bag)) _ tt
    (either (bytes_eq name (codes "decode")) (Some (decode file bag)) _ tt (either (bytes_eq name (codes "run")) (Some (run file bag)) _ tt
    (either (bytes_eq name (codes "runjson")) (Some (run_json file bag)) None tt tt))))
limited (name ∷ file ∷ second ∷ third ∷ []) =
    either (bytes_eq name (codes "evolve")) (Some (evolve file second third)) _ tt (either (bytes_eq name (codes "verify")) (Some (verify file second third)) None tt tt)
limited (name ∷ file ∷ bag ∷ step ∷ path ∷ []) =
    let explain : ℕ → Task = λ number. why file bag number path in
    either (bytes_eq name (codes "why")) (option_map explain (step_of_word step)) None (mapped explain (λ n. tt) (step_of_word step)) tt
limited (name ∷ file ∷ bag ∷ step ∷ path ∷ word ∷ more) = tt

pub within_limits : (words : List (List ℕ)) (command : Option Command) → option_map task_of command ≡ command_of words → IfSome command (λ c. IsWithinLimits (task_of c))
within_limits words None is = tt
within_limits words (Some command) is = subst Limited (sym is) (limited words)
