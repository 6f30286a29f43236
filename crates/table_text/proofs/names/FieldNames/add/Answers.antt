use Rattle.std.proofs.Common.{ℕ, List, [], ◌∷◌, ◌++◌, map, take, sym, subst, arith}
use Rattle.std.proofs.lemmas.List.{take_more_set}
use Rattle.std.specs.Borrow.{Bor}
use Rattle.table_text.specs.Names.{HaveNames}
use Rattle.table_text.proofs.NameLists.{have_pushed, have_inserted}
use Rattle.table_text.proofs.names.FieldNames.add.Goals as goal

pub returns-then-self-lt-FEW : goal.returns-then-self-lt-FEW
returns-then-self-lt-FEW c =
    let first = take c.self.inside.count c.self.inside.first in
    let keys = c.self.inside.others.keys in
    let more = take_more_set c.self.inside.first c.self.inside.count c.args.name (omega (arith, c.if-self-lt-FEW.true, c.self.told)) in
    subst (λ (names : List (Bor (List ℕ))). HaveNames (map (λ key. key.now) (names ++ keys)) (c.args.name.now ∷ c.args.self.now)) (sym more)
    (subst (λ (had : List (List ℕ)). HaveNames (map (λ key. key.now) ((first ++ c.args.name ∷ []) ++ keys)) (c.args.name.now ∷ had)) c.self.view_is
    (have_pushed c.args.name first keys))

pub returns-in_ok-insert : goal.returns-in_ok-insert
returns-in_ok-insert c =
    let first = take c.self.inside.count c.self.inside.first in
    let more = have_inserted c.args.name first c.self.inside.others.keys c.insert.new.self.keys c.in_ok-insert.ensures.updates.0 in
    subst (λ (had : List (List ℕ)). HaveNames (map (λ key. key.now) (first ++ c.insert.new.self.keys)) (c.args.name.now ∷ had)) c.self.view_is more
