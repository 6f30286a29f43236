use Rattle.std.proofs.Common.{List, ℕ, ◌∷◌, [], ◌++◌, ◌≡◌, OnOk, sym, subst}
use Rattle.bag_model.specs.Scalars.{spelling}
use Rattle.scalar_types.specs.KindViews.{kind_of}
use Rattle.scalar_types.specs.Scalars.{value_of}
use Rattle.bag_encode.proofs.growing_list.GrowingList.push_key.Goals as goal

pub returns : goal.returns
returns c =
    subst (λ (atom : List ℕ). OnOk c.push_spelled.result (c.push_spelled.new.self ≡ c.args.self.now ++ atom ∷ []))
    (sym (c.keyed_prefix.ensures (spelling (kind_of c.args.kind.now) (value_of c.args.key.now)))) c.push_spelled.ensures
