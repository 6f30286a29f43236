-- What is said of the bytes that were fetched holds of the file.
use Rattle.std.proofs.Common.{◌≡◌, ℕ, ◌<◌, ◌≤◌, Option, None, Some, List, length, take, subst, sym, refl, ◌⊎◌, inl, inr, arith}
use Rattle.std.specs.Option.{option_map}
use Rattle.std.proofs.lemmas.Bool.{cases_lt}
use Rattle.std.proofs.lemmas.List.{take_all, length-take-le}
use Rattle.outside.specs.declared.TheConstants.{FETCH_MAX}
use Rattle.bdl_lexer.specs.declared.TheConstants.{SOURCE_MAX}
use Rattle.bdl_parser.specs.declared.trees.Module.{Module}
use Rattle.outside.specs.Transfers.{Files, Fetches, fetched}
use Rattle.bdl_load.specs.declared.faults.Finding.{Finding}
use Rattle.bdl_load.specs.Loader.{IsHeld}
use Rattle.bdl_load.specs.Source.{SaysModule, IsSourceFault, too_long, lexical, syntactic}

-- all of a file was fetched, or one byte too many
whole_or : (file : List ℕ) → (fetched file ≡ file) ⊎ ((SOURCE_MAX < length (fetched file)) × (SOURCE_MAX < length file))
unfolding fetched
whole_or file = by (cases_lt FETCH_MAX (length file))
  where
    by : (FETCH_MAX < length file) ⊎ (length file ≤ FETCH_MAX) → (take FETCH_MAX file ≡ file) ⊎ ((SOURCE_MAX < length (take FETCH_MAX file)) × (SOURCE_MAX < length file))
    by (inl long) = inr (omega (arith, length-take-le FETCH_MAX file (omega (arith, long))), omega (arith, long))
    by (inr short) = inl (take_all FETCH_MAX file short)

whole : (source : List ℕ) → length source ≤ FETCH_MAX → source ≡ fetched source
unfolding fetched
whole source short = sym (take_all FETCH_MAX source short)

module_of_file : (file : List ℕ) (m : Module) → SaysModule (fetched file) m → SaysModule file m
module_of_file file m s = by (whole_or file)
  where
    by : (fetched file ≡ file) ⊎ ((SOURCE_MAX < length (fetched file)) × (SOURCE_MAX < length file)) → SaysModule file m
    by (inl e) = subst (λ (source : List ℕ). SaysModule source m) e s
    by (inr h) = absurd (omega (arith, h.0, s.fits))

long_source : (file source : List ℕ) (f : Finding) → SOURCE_MAX < length source → SOURCE_MAX < length file → IsSourceFault source f → IsSourceFault file f
long_source file source f h k (too_long l e) = too_long k e
long_source file source f h k (lexical r) = absurd (omega (arith, h, r.fits))
long_source file source f h k (syntactic r) = absurd (omega (arith, h, r.fits))

fault_of_file : (file : List ℕ) (f : Finding) → IsSourceFault (fetched file) f → IsSourceFault file f
fault_of_file file f s = by (whole_or file)
  where
    by : (fetched file ≡ file) ⊎ ((SOURCE_MAX < length (fetched file)) × (SOURCE_MAX < length file)) → IsSourceFault file f
    by (inl e) = subst (λ (source : List ℕ). IsSourceFault source f) e s
    by (inr h) = long_source file (fetched file) f h.0 h.1 s

-- a content of which the fetched bytes are those that are fetched
record Content (files : Files) (name source : List ℕ) : Type 0 where
  pub file : List ℕ
  pub told : IsHeld files name (Some file)
  pub is : source ≡ fetched file

told_content : (held : List ℕ → Option (List ℕ)) (name source : List ℕ) (found : Option (List ℕ)) → held name ≡ found → Some source ≡ option_map fetched found → Content (Some held) name source
told_content held name source None e f = absurd (cc f)
told_content held name source (Some file) e f = record { file = file; told = e; is = cc f }

content : (files : Files) (name source : List ℕ) → length source ≤ FETCH_MAX → Fetches files name (Some source) → Content files name source
content None name source short f = record { file = source; told = tt; is = whole source short }
content (Some held) name source short f = told_content held name source (held name) refl f

-- what the library's file says, from what the fetched bytes say
pub record Says (files : Files) (name : List ℕ) (m : Module) : Type 0 where
  pub source : List ℕ
  pub told : IsHeld files name (Some source)
  pub says : SaysModule source m

pub says_held : (files : Files) (name source : List ℕ) (m : Module) → length source ≤ FETCH_MAX → Fetches files name (Some source) → SaysModule source m → Says files name m
says_held files name source m short f s =
    let c = content files name source short f in
    record { source = c.file; told = c.told; says = module_of_file c.file m (subst (λ (bytes : List ℕ). SaysModule bytes m) c.is s) }

-- the first fault of the library's file, from that of the fetched bytes
pub record Breaks (files : Files) (name : List ℕ) (f : Finding) : Type 0 where
  pub source : List ℕ
  pub told : IsHeld files name (Some source)
  pub first : IsSourceFault source f

pub breaks_held : (files : Files) (name source : List ℕ) (b : Finding) → length source ≤ FETCH_MAX → Fetches files name (Some source) → IsSourceFault source b → Breaks files name b
breaks_held files name source b short f s =
    let c = content files name source short f in
    record { source = c.file; told = c.told; first = fault_of_file c.file b (subst (λ (bytes : List ℕ). IsSourceFault bytes b) c.is s) }
