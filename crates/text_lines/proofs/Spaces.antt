-- Where a text has its first space, and whether it has one.
use Rattle.std.proofs.Common.{◌≡◌, ◌↔◌, ℕ, ◌+◌, ◌-◌, ◌<◌, Bool, true, false, not, is_some, IsTrue, List, length, get_or, take, drop, Option, None, Some, MatchOption, refl}
use Rattle.std.specs.Prelude.{◌≢◌, IfSome}
use Rattle.text_lines.specs.Words.{HasNoSpace, IsOneWord}
use Rattle.text_lines.proofs.Separated.{free_from, free_take, free_there, around}

-- The first space is here.
abbrev IsSpaceAt : List ℕ → ℕ → Type 0
IsSpaceAt text at = (at < length text) × (get_or text at 0 ≡ 32) × HasNoSpace (take at text)

pub space_found : (text : List ℕ) (r : Option ℕ) → (r ≡ None → (k : ℕ) → k < length text → get_or text k 0 ≢ 32)
    → IfSome r (λ at. at < length text) → IfSome r (λ at. (k : ℕ) → k < at → get_or text k 0 ≢ 32) → IfSome r (λ at. get_or text at 0 ≡ 32)
    → MatchOption r (HasNoSpace text) (IsSpaceAt text)
space_found text None none within first there = free_from 32 text (none refl)
space_found text (Some at) none within first there = (within, there, free_take 32 text at within first)

-- A text that isn't empty is one word where no space is found.
pub one_word_test : (text : List ℕ) (r : Option ℕ) (b : Bool) → 0 < length text → is_some r ≡ not b → MatchOption r (HasNoSpace text) (IsSpaceAt text)
    → IsTrue b ↔ IsOneWord text
one_word_test text None true some e h = (λ _. (some, h), λ _. refl)
one_word_test text None false some e h = absurd (cc e)
one_word_test text (Some at) true some e h = absurd (cc e)
one_word_test text (Some at) false some e h =
    (λ bad. cc bad, λ one. absurd (free_there 32 text (take at text) (take (length text - (at + 1)) (drop (at + 1) text)) one.1 (around 32 text at h.0 h.1)))
