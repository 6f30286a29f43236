-- What the arguments of a command line ask for.
use Rattle.std.specs.Prelude.{ℕ, ◌^◌, ◌&&◌, ◌||◌, List, [], ◌∷◌, nat_lt, if◌then◌else◌, codes, bytes_eq, Option, Some, None, option_and_then, ◌≤◌}
use Rattle.std.specs.Fmt.{decimal}
use Rattle.std.specs.Option.{option_map}
use Rattle.std.specs.Int.NonZero.{non_zero_u32_get}
use Rattle.std.specs.Str.Parse.{digits_value}
use Rattle.graph_lines.specs.declared.TheConstants.{ROUNDS_MAX}
use Rattle.text_carrier.specs.declared.TheConstants.{WIDTH_MIN, WIDTH_MAX}
use Rattle.command_line.specs.declared.commands.Command.{Command}
use Rattle.command_line.specs.declared.commands.Command.TheVariants as code

-- What is to be done, by the name of its command. A list is cut to a budget, contexts are merged,
-- and a context goes into lines of pieces of a given number of bytes and comes back from them. The
-- slots of a bag's table are counted, the table is printed, and a context is decoded under it. A
-- graph is run under the table of a bag, or under the one that a file prints, and its report is
-- printed as lines or as JSON; or the load of a given number of rounds is run. The table of a bag
-- is compared with the one that a newer definition gives it. The value that the slot of a name path
-- has at a step of a graph is explained by a certificate, and a certificate is verified, which a
-- file holds.
pub data Task : Type 0 where
  trim : ℕ → Task
  merge : Task
  carry : ℕ → Task
  collect : Task
  check : List ℕ → List ℕ → Task
  table : List ℕ → List ℕ → Task
  decode : List ℕ → List ℕ → Task
  run : List ℕ → List ℕ → Task
  run_table : List ℕ → Task
  run_json : List ℕ → List ℕ → Task
  load : ℕ → Task
  evolve : List ℕ → List ℕ → List ℕ → Task
  why : List ℕ → List ℕ → ℕ → List ℕ → Task
  verify : List ℕ → List ℕ → List ℕ → Task

-- What the code's command asks for.
abbrev pub task_of : Command → Task
task_of (code.Trim budget) = trim (non_zero_u32_get budget)
task_of code.Merge = merge
task_of (code.Carry width) = carry width
task_of code.Collect = collect
task_of (code.Check file bag) = check file.now bag.now
task_of (code.Table file bag) = table file.now bag.now
task_of (code.Decode file bag) = decode file.now bag.now
task_of (code.Run file bag) = run file.now bag.now
task_of (code.RunTable file) = run_table file.now
task_of (code.RunJson file bag) = run_json file.now bag.now
task_of (code.Load rounds) = load rounds
task_of (code.Evolve old new bag) = evolve old.now new.now bag.now
task_of (code.Why file bag step path) = why file.now bag.now step path.now
task_of (code.Verify file bag certificate) = verify file.now bag.now certificate.now

-- ---- arguments

-- A number from 1 to 4,294,967,295, whose decimal digits the argument is.
unfoldable pub positive_number_of : List ℕ → Option ℕ
positive_number_of word =
    if bytes_eq word (decimal (digits_value 10 word)) && nat_lt 0 (digits_value 10 word) && nat_lt
    (digits_value 10 word) (2 ^ 32)
    then Some (digits_value 10 word)
    else None

-- A number from 1 to `ROUNDS_MAX`, whose decimal digits the argument is.
abbrev pub rounds_of : List ℕ → Option ℕ
rounds_of word =
    option_and_then (λ rounds. if nat_lt ROUNDS_MAX rounds then None else Some rounds)
    (positive_number_of word)

-- A number that may be the width of a piece, whose decimal digits the argument is.
abbrev pub width_of : List ℕ → Option ℕ
width_of word =
    option_and_then (λ width.
    if nat_lt width WIDTH_MIN || nat_lt WIDTH_MAX width then None else Some width)
    (positive_number_of word)

-- The number of a step, whose decimal digits the argument is, at most ten of them.
unfoldable pub step_of_word : List ℕ → Option ℕ
step_of_word word =
    if bytes_eq word (decimal (digits_value 10 word)) && nat_lt (digits_value 10 word) (10 ^ 10)
    then Some (digits_value 10 word)
    else None

-- What the arguments ask for, by the first one and their number; `None` where they have no form.
unfoldable pub command_of : List (List ℕ) → Option Task
command_of (name ∷ file ∷ bag ∷ step ∷ path ∷ []) =
    if bytes_eq name (codes "why") then option_map (λ number. why file bag number path)
    (step_of_word step) else None
command_of (name ∷ file ∷ second ∷ third ∷ []) =
    if bytes_eq name (codes "evolve") then Some (evolve file second third)
    else if bytes_eq name (codes "verify") then Some (verify file second third)
    else None
command_of (name ∷ file ∷ bag ∷ []) =
    if bytes_eq name (codes "check") then Some (check file bag)
    else if bytes_eq name (codes "table") then Some (table file bag)
    else if bytes_eq name (codes "decode") then Some (decode file bag)
    else if bytes_eq name (codes "run") then Some (run file bag)
    else if bytes_eq name (codes "runjson") then Some (run_json file bag)
    else None
command_of (name ∷ word ∷ []) =
    if bytes_eq name (codes "trim") then option_map trim (positive_number_of word)
    else if bytes_eq name (codes "carry") then option_map carry (width_of word)
    else if bytes_eq name (codes "load") then option_map load (rounds_of word)
    else if bytes_eq name (codes "runtable") then Some (run_table word)
    else None
command_of (name ∷ []) =
    if bytes_eq name (codes "merge") then Some merge
    else if bytes_eq name (codes "collect") then Some collect
    else None
command_of words = None

-- ---- limits

-- The numbers of a task are within their limits: the width of a piece is neither less nor greater
-- than is allowed, and a load has at least one round and no more than are allowed.
abbrev pub IsWithinLimits : Task → Type 0
IsWithinLimits (carry width) = (WIDTH_MIN ≤ width) × (width ≤ WIDTH_MAX)
IsWithinLimits (load rounds) = (1 ≤ rounds) × (rounds ≤ ROUNDS_MAX)
IsWithinLimits other = Unit {0}
