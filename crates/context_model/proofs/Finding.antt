-- What is found at a key, as an answer whether the key is there.
use Rattle.std.proofs.Common.{List, Option, Some, None, IsTrue, refl}
use Rattle.std.specs.Prelude.{◌↔◌}
use Rattle.std.specs.Option.{is_some}
use Rattle.context_model.specs.Orders.{IsIn}
use Rattle.context_model.specs.KeyedMerge.{Finds, keys_of}
use Rattle.context_model.proofs.MergeLaws.{IsIn-keys_of}

module _ {K X : Type 0} where
  -- Something is found exactly where the key is one of the keys.
  pub Finds-some : (es : List (K × X)) (k : K) (found : Option X) → Finds es k found → IsTrue (is_some found) ↔ IsIn k (keys_of es)
  Finds-some es k None none = (λ no. (cc), λ at. absurd (none at))
  Finds-some es k (Some v) at = (λ yes. IsIn-keys_of es k v at, λ also. refl)
