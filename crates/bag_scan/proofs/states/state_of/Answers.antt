use Rattle.std.proofs.Common.{◌≡◌, ℕ, List, Option, Some, refl, ap, ◌∙◌, subst}
use Rattle.std.specs.Option.{option_map}
use Rattle.context_model.specs.Ended.{IsEnded, field_path}
use Rattle.bag_model.specs.Slots.{SlotAt}
use Rattle.bag_scan.proofs.states.state_of.Goals as goal

-- The numbers that the table gives are those of the slot.
numbers_are : (numbers given : List ℕ) (found : Option SlotAt) (at : SlotAt) → Some numbers ≡ option_map (λ (slot : SlotAt). slot.numbers) found → found ≡ Some at → given ≡ numbers → given ≡ at.numbers
numbers_are numbers given found at e is same = let f = e ∙ ap (option_map (λ (slot : SlotAt). slot.numbers)) is in let g : numbers ≡ at.numbers = cc in same ∙ g

pub returns-then-ended : goal.returns-then-ended
returns-then-ended c = λ at is.
    let same = numbers_are c.numbers.result c.as_slice.result.now _ at c.numbers.ensures is c.as_slice.ensures.numbers in
    (λ e. subst (λ numbers. IsEnded c.args.context.now (field_path numbers)) same (c.if-ended.ensures.0 refl), λ ended. refl)
