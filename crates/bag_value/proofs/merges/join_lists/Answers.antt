use Rattle.std.proofs.Common.{◌≡◌, map, refl, sym, ap, ◌∙◌}
use borrow.Author.Tests.{eqb-true}
use Rattle.bag_value.specs.Vals.{plain_entries, pair_of}
use Rattle.bag_value.proofs.ListLaws.{no_entries}
use Rattle.bag_value.proofs.Merging.{join-nothing, rest_brought, rest_placed, placed_whole}
use Rattle.bag_value.proofs.merges.join_lists.Goals as goal

pub returns-then-is_empty-clause-ok : goal.returns-then-is_empty-clause-ok
returns-then-is_empty-clause-ok c =
    let none = eqb-true _ _ (sym c.if-is_empty.ensures) in
    join-nothing (plain_entries c.args.ours.now.items) (plain_entries c.args.theirs.now) (no_entries c.args.theirs.now none)

pub brought-requires : goal.brought-requires
brought-requires c = rw c.as_slice.ensures.value c.requires

pub returns-clause-ok : goal.returns-clause-ok
returns-clause-ok c =
    let es = c.args.ours.now.items in
    let fs = c.args.theirs.now in
    let news = c.in_ok-news.news.items in
    let brought : map pair_of news ≡ rest_brought es fs = c.in_ok-news.ensures ∙ ap (λ l. rest_brought l fs) c.as_slice.ensures.value in
    let placed : map pair_of c.merged.result.items ≡ rest_placed es news =
    c.merged.ensures ∙ (let o = c.from.ensures.0 ∙ ap (λ v. v.items) c.replace-entries.ensures.value in let n = c.from-2.ensures.0 in λ t. rest_placed (o t) (n t))
    in
    placed_whole (plain_entries es) (plain_entries fs) es fs news c.merged.result.items refl refl brought placed
