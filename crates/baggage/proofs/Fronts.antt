-- What is read of a stream to its end, where only a prefix of it may be read.
use Rattle.std.proofs.Common.{◌≡◌, ℕ, List, ◌++◌, take, Option, Some, None, Result, Ok, Err, sym, ap, ◌∙◌, append-nil, subst}
use Rattle.std.specs.Global.{Vec}
use Rattle.std.specs.Option.{option_map, IfSome}
use Rattle.std.specs.Result.{IfOk, OnOk}
use Rattle.std.specs.Io.KnownBytes.{Consumes, IsAtEnd}

-- Where nothing is left, all was read.
read_whole : (all bytes : List ℕ) (after : Option (List ℕ)) → Consumes (Some all) after bytes → IsAtEnd after → bytes ≡ all
read_whole all bytes None read end = absurd read
read_whole all bytes (Some rest) read end = sym (read ∙ ap (λ rest. bytes ++ rest) end ∙ append-nil bytes)

-- All of the prefix was read.
read_to_limit : (content left after : Option (List ℕ)) (limit : ℕ) (bytes : List ℕ) → left ≡ option_map (take limit) content
    → Consumes left after bytes → IsAtEnd after → IfSome content (λ all. bytes ≡ take limit all)
read_to_limit None left after limit bytes is read end = tt
read_to_limit (Some all) left after limit bytes is read end =
    read_whole (take limit all) bytes after (subst (λ (left : Option (List ℕ)). Consumes left after bytes) is read) end

-- The same of what a call read, where it succeeded.
pub front_read : {E : Type 0} (content left after : Option (List ℕ)) (limit : ℕ) (result : Result (Vec ℕ) E) → left ≡ option_map (take limit) content
    → IfOk result (λ bytes. Consumes left after bytes.items) → OnOk result (IsAtEnd after) → IfOk result (λ bytes. IfSome content (λ all. bytes.items ≡ take limit all))
front_read content left after limit (Ok bytes) is read end = read_to_limit content left after limit bytes.items is read end
front_read content left after limit (Err error) is read end = tt
