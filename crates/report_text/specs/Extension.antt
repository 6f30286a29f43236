-- Texts that grew.
use Rattle.std.specs.Prelude.{◌≡◌, ℕ, List, ◌++◌, Result, OnOk, OnErr}
use Rattle.std.specs.Global.{Vec}

-- What was there stays, with a part after it.
pub record Extends (before after : List ℕ) : Type 0 where
  pub part : List ℕ
  pub stands : after ≡ before ++ part

-- The call puts this text after what is there; where it is refused, some part may follow that.
pub record Appends {E : Type 0} (result : Result (Unit {0}) E) (text : List ℕ)
    (before after : Vec ℕ) : Type 0 where
  pub ok : OnOk result (after.items ≡ before.items ++ text)
  pub err : OnErr result (Extends before.items after.items)
