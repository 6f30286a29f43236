use Rattle.std.proofs.Common.{◌≡◌, List, sym, ap, ◌∙◌, subst}
use Rattle.bag_model.specs.Joins.{AreProper, AreAlike, join_values}
use Rattle.bag_model.specs.Values as model
use Rattle.bag_value.specs.declared.vals.Val.{Val}
use Rattle.bag_value.specs.InPlace.{with_news}
use Rattle.bag_value.specs.Vals.{plain_values}
use Rattle.bag_value.proofs.Joining.{values_proper}
use Rattle.bag_value.proofs.lists.Vals.join_in_place.Goals as goal

pub brought-requires-clause-ours : goal.brought-requires-clause-ours
brought-requires-clause-ours c = subst (λ (l : List Val). AreProper (plain_values l)) (sym c.as_slice.ensures.value) c.self.invariant

pub brought-requires-clause-theirs : goal.brought-requires-clause-theirs
brought-requires-clause-theirs c = subst (λ (l : List Val). AreProper (plain_values l)) (sym c.as_slice-2.ensures.value) c.other.invariant

pub brought-requires-clause-alike : goal.brought-requires-clause-alike
brought-requires-clause-alike c =
    let a : plain_values c.as_slice.result.now ≡ c.args.self.now = ap plain_values c.as_slice.ensures.value ∙ c.self.view_is in
    let b : plain_values c.as_slice-2.result.now ≡ c.args.other.now = ap plain_values c.as_slice-2.ensures.value ∙ c.other.view_is in
    subst (λ (x : model.Values). AreAlike x (plain_values c.as_slice-2.result.now)) (sym a) (subst (λ (x : model.Values). AreAlike c.args.self.now x) (sym b) c.requires)

pub invariant_of-self : goal.invariant_of-self
invariant_of-self c =
    let a : plain_values c.as_slice.result.now ≡ c.args.self.now = ap plain_values c.as_slice.ensures.value ∙ c.self.view_is in
    let b : plain_values c.as_slice-2.result.now ≡ c.args.other.now = ap plain_values c.as_slice-2.ensures.value ∙ c.other.view_is in
    let placed : c.put_in_place.new.values.items ≡ with_news c.as_slice.result.now c.in_ok-news.news.items =
    c.put_in_place.ensures ∙ (let s = sym c.as_slice.ensures.value in let n = c.from.ensures.0 in λ t. with_news (s t) (n t))
    in
    values_proper c.args.self.now c.args.other.now (plain_values c.put_in_place.new.values.items)
    (subst AreProper c.self.view_is c.self.invariant) (subst AreProper c.other.view_is c.other.invariant) c.requires
    (ap plain_values placed ∙ c.in_ok-news.ensures.joined ∙ (λ t. join_values (a t) (b t)))

pub returns-clause-ok : goal.returns-clause-ok
returns-clause-ok c =
    let a : plain_values c.as_slice.result.now ≡ c.args.self.now = ap plain_values c.as_slice.ensures.value ∙ c.self.view_is in
    let b : plain_values c.as_slice-2.result.now ≡ c.args.other.now = ap plain_values c.as_slice-2.ensures.value ∙ c.other.view_is in
    let placed : c.put_in_place.new.values.items ≡ with_news c.as_slice.result.now c.in_ok-news.news.items =
    c.put_in_place.ensures ∙ (let s = sym c.as_slice.ensures.value in let n = c.from.ensures.0 in λ t. with_news (s t) (n t))
    in
    ap plain_values placed ∙ c.in_ok-news.ensures.joined ∙ (λ t. join_values (a t) (b t))
