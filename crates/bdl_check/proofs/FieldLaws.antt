-- Fields that are looked at one after another.
use Rattle.std.proofs.Common.{◌≡◌, ℕ, Bool, true, false, ◌||◌, List, [], ◌∷◌, ◌++◌, None, Some, refl, sym, ◌∙◌, ap, if◌then◌else◌}
use Rattle.std.specs.Borrow.{Bor}
use Rattle.std.specs.BTreeSet.{BTreeSet, IsEmpty}
use Rattle.std.specs.Cmp.Lexicographic.{slice_cmp}
use Rattle.std.specs.Ordering.{is_eq, nat_cmp}
use Rattle.std.specs.List.{list_any}
use Rattle.bdl_load.specs.declared.faults.Finding.{Finding}
use Rattle.bdl_check.specs.Faults.{first}
use Rattle.bdl_check.specs.Fields.{numbers_of, bag_field_names, struct_names_of, bag_field_faults, bag_faults, struct_field_faults, struct_faults}
use Rattle.bdl_check.specs.Lookups.{HasNumbers, HasTexts}
use Rattle.bdl_check.specs.Types.{Kinds}
use Rattle.bdl_parser.specs.Trees.{BagFieldTree, StructFieldTree}
use Rattle.bdl_check.proofs.Firsts.{first_none, first_some}

-- What is left of a bag's fields has the first fault of all.
pub record BagLeft (kinds : Kinds) (numbers : BTreeSet ℕ) (texts : BTreeSet (Bor (List ℕ))) (all left : List BagFieldTree) : Type 0
  where
    pub gone : List BagFieldTree
    pub numbers_are : HasNumbers numbers (numbers_of gone)
    pub texts_are : HasTexts texts (bag_field_names gone)
    pub same : first (bag_faults kinds gone left) ≡ first (bag_faults kinds [] all)

-- What is left of a struct's fields has the first fault of all.
pub record StructLeft (kinds : Kinds) (texts : BTreeSet (Bor (List ℕ))) (all left : List StructFieldTree) : Type 0 where
  pub gone : List StructFieldTree
  pub texts_are : HasTexts texts (struct_names_of gone)
  pub same : first (struct_faults kinds gone left) ≡ first (struct_faults kinds [] all)

-- The empty sets.
pub numbers_none : (numbers : BTreeSet ℕ) → IsEmpty numbers → HasNumbers numbers []
numbers_none numbers e = λ other. ap (λ (keys : List ℕ). list_any (λ (key : ℕ). is_eq (nat_cmp other key)) keys) e

pub texts_none : (texts : BTreeSet (Bor (List ℕ))) → IsEmpty texts → HasTexts texts []
texts_none texts e = λ other. ap (λ (keys : List (Bor (List ℕ))). list_any (λ (key : Bor (List ℕ)). is_eq (slice_cmp nat_cmp other key.now)) keys) e

-- One field of a bag is looked at.
pub bag_more : (kinds : Kinds) (numbers more_numbers : BTreeSet ℕ) (texts more_texts : BTreeSet (Bor (List ℕ)))
    (all rest left : List BagFieldTree) (field : BagFieldTree) → rest ≡ field ∷ left →
    BagLeft kinds numbers texts all rest →
    ((earlier : List BagFieldTree) → HasNumbers numbers (numbers_of earlier) → HasTexts texts (bag_field_names earlier)
    → None ≡ first (bag_field_faults kinds earlier field)) →
    ((earlier : List BagFieldTree) → HasNumbers numbers (numbers_of earlier) → HasNumbers more_numbers (numbers_of (earlier ++ field ∷ []))) →
    ((earlier : List BagFieldTree) → HasTexts texts (bag_field_names earlier) → HasTexts more_texts (bag_field_names (earlier ++ field ∷ []))) →
    BagLeft kinds more_numbers more_texts all left
bag_more kinds numbers more_numbers texts more_texts all rest left field is so_far none numbers_added texts_added = record {
  gone = so_far.gone ++ field ∷ [];
  numbers_are = numbers_added so_far.gone so_far.numbers_are;
  texts_are = texts_added so_far.gone so_far.texts_are;
  same = sym (first_none (bag_field_faults kinds so_far.gone field) (bag_faults kinds (so_far.gone ++ field ∷ []) left)
      (sym (none so_far.gone so_far.numbers_are so_far.texts_are)))
      ∙ sym (ap (λ (fields : List BagFieldTree). first (bag_faults kinds so_far.gone fields)) is) ∙ so_far.same;
}

-- The field has the first fault.
pub bag_found : (kinds : Kinds) (numbers : BTreeSet ℕ) (texts : BTreeSet (Bor (List ℕ))) (all rest left : List BagFieldTree)
    (field : BagFieldTree) (fault : Finding) → rest ≡ field ∷ left →
    BagLeft kinds numbers texts all rest →
    ((earlier : List BagFieldTree) → HasNumbers numbers (numbers_of earlier) → HasTexts texts (bag_field_names earlier)
    → Some fault ≡ first (bag_field_faults kinds earlier field)) →
    Some fault ≡ first (bag_faults kinds [] all)
bag_found kinds numbers texts all rest left field fault is so_far some =
    sym (first_some (bag_field_faults kinds so_far.gone field) (bag_faults kinds (so_far.gone ++ field ∷ []) left) fault
    (sym (some so_far.gone so_far.numbers_are so_far.texts_are)))
    ∙ sym (ap (λ (fields : List BagFieldTree). first (bag_faults kinds so_far.gone fields)) is) ∙ so_far.same

-- No field is left.
pub bag_end : (kinds : Kinds) (numbers : BTreeSet ℕ) (texts : BTreeSet (Bor (List ℕ))) (all rest : List BagFieldTree) → rest ≡ []
    → BagLeft kinds numbers texts all rest → None ≡ first (bag_faults kinds [] all)
bag_end kinds numbers texts all rest is so_far = sym (ap (λ (fields : List BagFieldTree). first (bag_faults kinds so_far.gone fields)) is)
    ∙ so_far.same

-- One field of a struct is looked at.
pub struct_more : (kinds : Kinds) (texts more_texts : BTreeSet (Bor (List ℕ))) (all rest left : List StructFieldTree)
    (field : StructFieldTree) → rest ≡ field ∷ left →
    StructLeft kinds texts all rest →
    ((earlier : List StructFieldTree) → HasTexts texts (struct_names_of earlier) → None ≡ first (struct_field_faults kinds earlier field)) →
    ((earlier : List StructFieldTree) → HasTexts texts (struct_names_of earlier) → HasTexts more_texts (struct_names_of (earlier ++ field ∷ []))) →
    StructLeft kinds more_texts all left
struct_more kinds texts more_texts all rest left field is so_far none texts_added = record {
  gone = so_far.gone ++ field ∷ [];
  texts_are = texts_added so_far.gone so_far.texts_are;
  same = sym (first_none (struct_field_faults kinds so_far.gone field) (struct_faults kinds (so_far.gone ++ field ∷ []) left)
      (sym (none so_far.gone so_far.texts_are)))
      ∙ sym (ap (λ (fields : List StructFieldTree). first (struct_faults kinds so_far.gone fields)) is) ∙ so_far.same;
}

-- The field has the first fault.
pub struct_found : (kinds : Kinds) (texts : BTreeSet (Bor (List ℕ))) (all rest left : List StructFieldTree) (field : StructFieldTree)
    (fault : Finding) → rest ≡ field ∷ left →
    StructLeft kinds texts all rest →
    ((earlier : List StructFieldTree) → HasTexts texts (struct_names_of earlier) → Some fault ≡ first (struct_field_faults kinds earlier field)) →
    Some fault ≡ first (struct_faults kinds [] all)
struct_found kinds texts all rest left field fault is so_far some =
    sym (first_some (struct_field_faults kinds so_far.gone field) (struct_faults kinds (so_far.gone ++ field ∷ []) left) fault
    (sym (some so_far.gone so_far.texts_are)))
    ∙ sym (ap (λ (fields : List StructFieldTree). first (struct_faults kinds so_far.gone fields)) is) ∙ so_far.same

-- No field is left.
pub struct_end : (kinds : Kinds) (texts : BTreeSet (Bor (List ℕ))) (all rest : List StructFieldTree) → rest ≡ []
    → StructLeft kinds texts all rest → None ≡ first (struct_faults kinds [] all)
struct_end kinds texts all rest is so_far = sym (ap (λ (fields : List StructFieldTree). first (struct_faults kinds so_far.gone fields)) is)
    ∙ so_far.same

-- A number or a text is added.
pub is_added : (is_it had : Bool) → (if is_it then true else had) ≡ (is_it || had)
is_added true had = refl
is_added false had = refl
