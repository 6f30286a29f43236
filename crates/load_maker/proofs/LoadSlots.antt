-- The slots of the load's table, by their names.
use Rattle.std.proofs.Common.{◌≡◌, ℕ, zero, suc, List, [], ◌∷◌, codes, Some, refl, ap, ◌∙◌, arith}
use Rattle.std.specs.List.{slice_index}
use Rattle.bag_model.specs.declared.Pick.TheVariants.{Least}
use Rattle.bag_model.specs.declared.words.ScalarWord.TheVariants.{Uint32, Fixed32}
use Rattle.bag_model.specs.Scalars as scalars
use Rattle.bag_model.specs.Shapes.{Shape, Scalar, Set, Counter}
use Rattle.bag_model.specs.Slots.{SlotAt, name_path, FindsSlot}
use Rattle.bag_model.specs.SlotValues.{HasSlot}
use Rattle.load_maker.specs.Loads.{load_table}

-- The slot of this number, and of no other, has this path.
pub record IsSlot (path : List ℕ) (slot : ℕ) (at : SlotAt) : Type 0 where
  pub there : HasSlot load_table slot at
  pub path_is : name_path at ≡ path
  pub only : (other : ℕ) → FindsSlot load_table path (Some other) → other ≡ slot

abbrev slot_at : List ℕ → ℕ → Shape → SlotAt
slot_at name number shape = record { names = name ∷ []; numbers = number ∷ []; shape = shape }

abbrev pub least_slot : SlotAt
least_slot = slot_at (codes "least") 0 (Scalar Least (scalars.ScalarKind.One Fixed32))

abbrev pub hits_slot : SlotAt
hits_slot = slot_at (codes "hits") 1 Counter

abbrev pub seen_slot : SlotAt
seen_slot = slot_at (codes "seen") 2 (Set (scalars.ScalarKind.One Uint32))

-- A slot that is found at a place has the name of the slot there.
found_name : (own found : SlotAt) (path : List ℕ) → Some own ≡ Some found → name_path found ≡ path → name_path own ≡ path
found_name own found path same is = let one : own ≡ found = cc same in ap name_path one ∙ is

first_byte : (a b : List ℕ) → a ≡ b → slice_index a 0 ≡ slice_index b 0
first_byte a b e = ap (λ (l : List ℕ). slice_index l 0) e

pub least_is : IsSlot (codes "least") 0 least_slot
least_is = record { there = refl; path_is = refl; only = only }
  where
    only : (other : ℕ) → FindsSlot load_table (codes "least") (Some other) → other ≡ 0
    only zero (at, there, is) = refl
    only (suc zero) (at, there, is) = absurd (let clash : 104 ≡ 108 = first_byte _ _ (found_name hits_slot at (codes "least") there is) in omega (arith, clash))
    only (suc (suc zero)) (at, there, is) = absurd (let clash : 115 ≡ 108 = first_byte _ _ (found_name seen_slot at (codes "least") there is) in omega (arith, clash))
    only (suc (suc (suc n))) (at, there, is) = absurd (cc there)

pub hits_is : IsSlot (codes "hits") 1 hits_slot
hits_is = record { there = refl; path_is = refl; only = only }
  where
    only : (other : ℕ) → FindsSlot load_table (codes "hits") (Some other) → other ≡ 1
    only zero (at, there, is) = absurd (let clash : 108 ≡ 104 = first_byte _ _ (found_name least_slot at (codes "hits") there is) in omega (arith, clash))
    only (suc zero) (at, there, is) = refl
    only (suc (suc zero)) (at, there, is) = absurd (let clash : 115 ≡ 104 = first_byte _ _ (found_name seen_slot at (codes "hits") there is) in omega (arith, clash))
    only (suc (suc (suc n))) (at, there, is) = absurd (cc there)

pub seen_is : IsSlot (codes "seen") 2 seen_slot
seen_is = record { there = refl; path_is = refl; only = only }
  where
    only : (other : ℕ) → FindsSlot load_table (codes "seen") (Some other) → other ≡ 2
    only zero (at, there, is) = absurd (let clash : 108 ≡ 115 = first_byte _ _ (found_name least_slot at (codes "seen") there is) in omega (arith, clash))
    only (suc zero) (at, there, is) = absurd (let clash : 104 ≡ 115 = first_byte _ _ (found_name hits_slot at (codes "seen") there is) in omega (arith, clash))
    only (suc (suc zero)) (at, there, is) = refl
    only (suc (suc (suc n))) (at, there, is) = absurd (cc there)
