-- What a map from names to contents holds.
use Rattle.std.specs.Prelude.{ℕ, String, Some}
use Rattle.std.specs.BTreeMap.{BTreeMap, get_by_text}
use Rattle.std.specs.Global.{Global, Vec}
use Rattle.std.specs.Option.{option_map}
use Rattle.outside.specs.Transfers.{Files}

-- Each name that the map has, with its content.
abbrev pub held_in : BTreeMap (String Global) (Vec ℕ) → Files
held_in contents =
    Some (λ name. option_map (λ content. content.items) (get_by_text contents name))
