use Rattle.std.proofs.Common.{◌≡◌, ◌++◌, ◌∷◌, [], List, map, refl, sym, ap, ◌∙◌, append_assoc}
use Rattle.std.proofs.lemmas.List.{map-append}
use Rattle.std.proofs.lemmas.Iterator.Adapters.{YieldsList-from_vec}
use Rattle.std.proofs.lemmas.Iterator.Consumers.{YieldsList-end}
use Rattle.def_evolve.specs.declared.all_breaks.Break.{Break}
use Rattle.def_evolve.specs.BreakLists.{BreakAt, break_of, break_behind}
use Rattle.def_evolve.proofs.all_breaks.put_inner.Goals as goal

pub loop-one-preserved : goal.loop-one-preserved
loop-one-preserved c =
    let seen = break_behind c.args.part c.args.name.now c.args.other.now in
    let yielded = c.loop-one.yielded in
    let item = c.in-Some.one in
    let made = c.in_ok-prepend.field-0 in
    let start = map break_of c.args.found.now.items in
    ap (map break_of) c.in_ok-push.ensures.items
    ∙ map-append break_of c.loop-one.found.items (made ∷ [])
    ∙ ap (λ (l : List BreakAt). l ++ break_of made ∷ []) c.loop-one.invariant
    ∙ ap (λ (b : BreakAt). (start ++ map seen (map break_of yielded)) ++ b ∷ []) c.in_ok-prepend.ensures
    ∙ append_assoc start (map seen (map break_of yielded)) (seen (break_of item) ∷ [])
    ∙ ap (λ (l : List BreakAt). start ++ l) (sym (map-append seen (map break_of yielded) (break_of item ∷ [])) ∙ ap (map seen) (sym (map-append break_of yielded (item ∷ []))))

same : (xs : List Break) → map (λ x. x) xs ≡ xs
same [] = refl
same (x ∷ xs) = ap (λ (l : List Break). x ∷ l) (same xs)

pub returns : goal.returns
returns c =
    let inner = c.args.inner.items in
    let given = c.into_iter-one-iterator.ensures.into_iter_gives in
    let end = YieldsList-end (YieldsList-from_vec {s = c.into_iter-one-iterator.result} inner given.0 (given.1 ∙ c.args.inner.ok.0)) c.loop-one.yielded c.loop-one.one-iterator c.loop-one.yielded_by c.next.result c.next.new.self c.in-None.is c.next.ensures.steps in
    let all : c.loop-one.yielded ≡ inner = sym (same c.loop-one.yielded) ∙ end.0 in
    c.loop-one.invariant ∙ ap (λ (l : List Break). map break_of c.args.found.now.items ++ map (break_behind c.args.part c.args.name.now c.args.other.now) (map break_of l)) all
