use Rattle.std.proofs.Common.{◌≡◌, List, [], ◌∷◌, length, refl, sym, arith}
use borrow.Author.Tests.{eqb-true}
use Rattle.context_model.proofs.MergeLaws.{with-right_empty}
use Rattle.context_model.proofs.Brought.{brings-completes, keys_of-brings}
use Rattle.counter_type.proofs.entries.join_entries.Goals as goal

empty_is : {A : Type 0} (xs : List A) → length xs ≡ 0 → xs ≡ []
empty_is [] e = refl
empty_is (x ∷ xs) e = absurd (omega arith)

pub returns-then-is_empty-clause-ok : goal.returns-then-is_empty-clause-ok
returns-then-is_empty-clause-ok g c =
    let nothing = empty_is c.args.theirs.now (eqb-true _ _ (sym c.if-is_empty.ensures)) in
    rw nothing (sym (with-right_empty (g.K.Keys.order c.args.keys.now) g.L.Lattice.joined c.args.ours.now.items))

pub merged-requires-clause-ours_fit : goal.merged-requires-clause-ours_fit
merged-requires-clause-ours_fit g c = rw (c.from.ensures.0, c.replace-entries.ensures.value) c.requires.ours.keys.fit

pub brought-requires-clause-alike : goal.brought-requires-clause-alike
brought-requires-clause-alike g c = rw c.deref.ensures.value c.requires.alike

pub merged-requires-clause-news_fit : goal.merged-requires-clause-news_fit
merged-requires-clause-news_fit g c =
    rw (c.from-2.ensures.0, c.in_ok-news.ensures, c.deref.ensures.value, keys_of-brings (g.K.Keys.order c.args.keys.now) g.L.Lattice.joined c.args.ours.now.items c.args.theirs.now) c.requires.theirs.keys.fit

pub returns-clause-ok : goal.returns-clause-ok
returns-clause-ok g c =
    rw (c.merged.ensures, c.from.ensures.0, c.from-2.ensures.0, c.replace-entries.ensures.value, c.in_ok-news.ensures, c.deref.ensures.value) (brings-completes (g.K.Keys.order c.args.keys.now) g.L.Lattice.joined c.args.ours.now.items c.args.theirs.now)
