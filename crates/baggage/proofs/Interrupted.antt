-- A read or a write after calls that a signal interrupted, which moved no byte.
use Rattle.std.proofs.Common.{ℕ, List, Option, Some, None, Result, Ok, Err, subst}
use Rattle.std.specs.Io.KnownBytes.{Keeps, ReadConsumes, WriteAppends}

-- A read after calls that kept what is left.
pub kept_then_read : {E : Type 0} (a b c : Option (List ℕ)) (r : Result ℕ E) (buf : List ℕ) → Keeps a b → ReadConsumes b c r buf → ReadConsumes a c r buf
kept_then_read None b c (Ok n) buf k h = (tt, h.1)
kept_then_read None b c (Err e) buf k h = tt
kept_then_read (Some xs) None c r buf k h = absurd k
kept_then_read (Some xs) (Some ys) c r buf k h = subst (λ (zs : List ℕ). ReadConsumes (Some zs) c r buf) k h

-- A write after calls that kept what was written.
pub kept_then_write : {E : Type 0} (a b c : Option (List ℕ)) (r : Result ℕ E) (buf : List ℕ) → Keeps a b → WriteAppends b c r buf → WriteAppends a c r buf
kept_then_write None b c (Ok n) buf k h = tt
kept_then_write None b c (Err e) buf k h = tt
kept_then_write (Some xs) None c r buf k h = absurd k
kept_then_write (Some xs) (Some ys) c r buf k h = subst (λ (zs : List ℕ). WriteAppends (Some zs) c r buf) k h
