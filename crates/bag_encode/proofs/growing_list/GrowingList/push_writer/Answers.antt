use Rattle.std.proofs.Common.{List, ℕ, ◌∷◌, [], ◌++◌, ◌≡◌, OnOk, sym, subst}
use Rattle.bag_encode.proofs.growing_list.GrowingList.push_writer.Goals as goal

pub returns : goal.returns
returns c =
    subst (λ (atom : List ℕ). OnOk c.push.result (c.push.new.self ≡ c.args.self.now ++ atom ∷ []))
    (sym (c.keyed_prefix.ensures c.args.writer.now)) c.push.ensures
