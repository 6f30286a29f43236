-- Entries: keys in order, each with a value.
use Rattle.std.specs.Prelude.{◌≡◌, List}
use Rattle.std.specs.declared.cmp.Ordering.{Ordering}
use Rattle.std.specs.declared.cmp.Ordering.TheVariants.{Equal}
use Rattle.context_model.specs.Orders.{IsIn, Rises}
use Rattle.context_model.specs.KeyedMerge.{keys_of, EachPair}

-- Two keys that fit and tie are one key.
abbrev pub IsExact : {K : Type 0} → (K → Type 0) → (K → K → Ordering) → Type 0
IsExact {K} fits R = (k j : K) → fits k → fits j → R k j ≡ Equal → k ≡ j

-- Each key fits, and comes before the next.
pub record AreKeys {K : Type 0} (fits : K → Type 0) (R : K → K → Ordering)
    (keys : List K) : Type 0 where
  pub fit : (k : K) → IsIn k keys → fits k
  pub rise : Rises R keys

-- The keys are in order, and each value is proper.
pub record AreEntries {K L : Type 0} (fits : K → Type 0) (R : K → K → Ordering)
    (proper : L → Type 0) (entries : List (K × L)) : Type 0 where
  pub keys : AreKeys fits R (keys_of entries)
  pub values : EachPair (λ k v. proper v) entries
