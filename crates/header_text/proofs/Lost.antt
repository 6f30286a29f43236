-- The context of one marker, and what carries none.
use Rattle.std.proofs.Common.{◌≡◌, ℕ, List, [], ◌∷◌, Option, None, Some, refl, sym, ap, ◌∙◌, subst, lit≤}
use Rattle.context_model.specs.Atoms.{Atom, AreAtoms}
use Rattle.context_model.specs.ByteCodes.{ByteCode}
use Rattle.context_model.specs.WellFormed.{IsWellFormed}
use Rattle.context_model.specs.ContextFault.{IsContextOf, IsFirstContextFault}
use Rattle.context_model.specs.Framing.{base_128}
use Rattle.context_model.specs.Kinds.Kind.{Marker}
use Rattle.context_model.proofs.ContextFronts.{has_one_context}
use Rattle.header_text.specs.Reading.{Carries, IsReadFrom, IsCarriedBy, lost_list}
use Rattle.header_text.proofs.Letters.{one_text}

atoms : AreAtoms lost_list
atoms = (lit≤ tt, tt)

pub well_formed : IsWellFormed lost_list
well_formed = record { kinds = (record { kind = Marker; fits = tt; spelled = refl }, tt); levels = tt; order = tt }

in_one : IsContextOf lost_list (0 ∷ [])
unfolding base_128
in_one = (atoms, well_formed, refl)

-- What is read of a marker alone is the lost_list context.
pub read_lost : (list : List Atom) → IsContextOf list (0 ∷ []) → list ≡ lost_list
read_lost list of = (has_one_context (0 ∷ [])).list list lost_list of in_one

-- A text carries one context.
pub carries_one : (part : List ℕ) (a b : List Atom) → Carries part a → Carries part b → a ≡ b
carries_one part a b of_a of_b =
    let same = one_text of_a.0 of_b.0 of_a.1 of_b.1 (sym of_a.3 ∙ of_b.3) in
    (has_one_context of_b.0).list a b (subst (IsContextOf a) same of_a.2) of_b.2

-- The text of bytes that have a fault carries no context.
pub faulty : (part bytes : List ℕ) (offset : ℕ) (code : ByteCode) → IsCarriedBy part (Some bytes) → IsFirstContextFault bytes offset code
    → (list : List Atom) → Carries part list → ⊥
faulty part bytes offset code carried fault list carries =
    let same = one_text carries.0 bytes carries.1 carried.0 (sym carries.3 ∙ carried.1) in
    (has_one_context bytes).either list offset code (subst (IsContextOf list) same carries.2) fault

pub reads_one_way : (part : List ℕ) (a b : Option (List Atom)) → IsReadFrom part a → IsReadFrom part b → a ≡ b
reads_one_way part (Some a) (Some b) of_a of_b = ap (λ (l : List Atom). Some l) (carries_one part a b of_a of_b)
reads_one_way part (Some a) None of_a none = absurd (none a of_a)
reads_one_way part None (Some b) none of_b = absurd (none b of_b)
reads_one_way part None None of_a of_b = refl
