use Rattle.std.proofs.Common.{◌≡◌, ℕ, ◌+◌, ◌-◌, ◌<◌, List, length, take, drop, set, replicate, sym, ◌∙◌, ap, arith}
use Rattle.std.proofs.lemmas.List.{drop-set-lt, drop-drop, drop-replicate, length-take-le}
use Rattle.atom_list.proofs.open_places.OpenPlaces.push.Goals as goal

-- The levels after the new one stay closed.
closed_behind : (above : List ℕ) (count at : ℕ) → count < 16 → drop count above ≡ replicate (16 - count) 0 → drop (count + 1) (set above count at) ≡ replicate (16 - (count + 1)) 0
closed_behind above count at few closed =
    drop-set-lt (count + 1) above count at (omega arith)
    ∙ sym (drop-drop 1 count above)
    ∙ ap (drop 1) closed
    ∙ drop-replicate 1 (16 - count) 0
    ∙ ap (λ n. replicate n 0) (let e : 16 - count - 1 ≡ 16 - (count + 1) = omega arith in e)

pub invariant_of-self : goal.invariant_of-self
invariant_of-self c =
    let here : length (take c.self.inside.count c.self.inside.above) ≡ c.self.inside.count = length-take-le c.self.inside.count c.self.inside.above (omega arith) in
    let few : c.self.inside.count < 16 = omega (arith, c.requires, here, ap length c.self.view_is) in
    (omega arith, closed_behind c.self.inside.above c.self.inside.count c.args.at few c.self.invariant.1)
