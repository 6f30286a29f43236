use Rattle.std.proofs.Common.{◌≡◌, ℕ, Some, List, true≢false, rules, sym, ap, ◌∙◌}
use Rattle.base64.specs.GeneralPurpose.{IsBytes}
use Rattle.header_text.specs.Reading.{AreLettersOf}
use Rattle.header_text.specs.Texts.{check_letters, letters}
use Rattle.header_text.proofs.Letters.{length_check, one_letters, text_cut}
use Rattle.header_text.proofs.reading.carried_bytes.Goals as goal

pub returns-in_default : goal.returns-in_default
returns-in_default c = λ bytes are is. c.in_default.ensures (letters bytes) (check_letters bytes) (length_check bytes) is

pub returns-in_default-2 : goal.returns-in_default-2
returns-in_default-2 c =
    let none : (bytes : List ℕ) → IsBytes bytes → c.in-Some.data.now ≡ letters bytes → ⊥ = search rules in
    λ bytes are is. none bytes are (text_cut c.in-Some.data.now c.in-Some.check.now bytes c.in-Some.ensures.0 (sym c.in-Some.ensures.1 ∙ is)).0

pub returns-else-is_check_of : goal.returns-else-is_check_of
returns-else-is_check_of c =
    let items = c.in-Some-2.bytes.items in
    let of : AreLettersOf c.in-Some.data.now (Some items) = search rules in
    λ bytes are is.
    let parts = text_cut c.in-Some.data.now c.in-Some.check.now bytes c.in-Some.ensures.0 (sym c.in-Some.ensures.1 ∙ is) in
    let same = one_letters bytes items are of.0 (sym parts.0 ∙ of.1) in
    true≢false (sym (c.is_check_of.ensures.1 (parts.1 ∙ ap check_letters (same ∙ sym c.deref.ensures.value))) ∙ c.if-is_check_of.false)
