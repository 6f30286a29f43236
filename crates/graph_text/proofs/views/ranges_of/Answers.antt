use Rattle.std.proofs.Common.{List, ℕ, ◌+◌, ◌∷◌, [], ◌++◌, map, take, refl, sym, subst}
use Rattle.std.proofs.lemmas.List.{map_more}
use Rattle.std.specs.Borrow.{Bor}
use Rattle.graph_text.specs.Additions.{AreRangesOf}
use Rattle.graph_text.proofs.Members.{in_get, in_map}
use Rattle.graph_text.proofs.ViewPaths.{ranges_push}
use Rattle.graph_text.proofs.views.ranges_of.Goals as goal

pub loop-path-preserved : goal.loop-path-preserved
loop-path-preserved c =
    let table = c.args.table.now in
    let paths = c.args.paths.now in
    let old = c.loop-path.ranges.items in
    let more = ranges_push table (map (λ (path : Bor (List ℕ)). path.now) (take c.loop-path.path-index paths)) old _ c.in-Some.range c.loop-path.invariant c.in-Some.ensures in
    subst (AreRangesOf table (map (λ (path : Bor (List ℕ)). path.now) (take (c.loop-path.path-index + 1) paths))) (sym c.in_ok-push.ensures.items)
    (subst (λ names. AreRangesOf table names (old ++ c.in-Some.range ∷ [])) (sym (map_more (λ (path : Bor (List ℕ)). path.now) paths c.loop-path.path-index _ c.loop-path-test.true)) more)

pub returns-in_default-clause-err : goal.returns-in_default-clause-err
returns-in_default-clause-err c =
    let paths = c.args.paths.now in
    ((_, in_map (λ (path : Bor (List ℕ)). path.now) paths _ (in_get paths c.loop-path.path-index _ c.loop-path-test.true), c.in_default.ensures), refl)
