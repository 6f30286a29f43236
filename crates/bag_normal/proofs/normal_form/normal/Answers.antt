use Rattle.std.proofs.Common.{◌≡◌, ℕ, ◌+◌, List, [], ◌∷◌, refl, sym, ap, ◌∙◌, subst}
use Rattle.context_model.specs.Atoms.{Atom}
use Rattle.context_model.specs.WithoutData.{AreDataPlaces, without, without_from}
use Rattle.bag_model.specs.Views.{Knows}
use Rattle.field_table.specs.declared.views.View.{View}
use Rattle.field_table.specs.Views.{plain_view_of}
use Rattle.bag_normal.proofs.SlotTurns.{superseded_data}
use Rattle.bag_normal.proofs.normal_form.normal.Goals as goal

-- Without nothing a list is as it was.
without_none : (i : ℕ) (list : List Atom) → without_from i [] list ≡ list
without_none i [] = refl
without_none i (a ∷ list) = ap (λ l. a ∷ l) (without_none (i + 1) list)

pub returns-in-Nothing : goal.returns-in-Nothing
returns-in-Nothing c = record {
  gone = [];
  rises = tt;
  exact = λ place. (
    λ none. absurd none,
    λ s. absurd (subst (λ (v : View). Knows (plain_view_of v) s.1.slot) c.in-Nothing.is s.1.knows),
  );
  left = sym (without_none 0 c.args.context);
}

pub drop_data-requires-clause-data : goal.drop_data-requires-clause-data
drop_data-requires-clause-data c =
    subst (λ (gone : List ℕ). AreDataPlaces gone c.args.context) (sym c.as_slice.ensures.value)
    (superseded_data c.args.table.now (plain_view_of c.args.view.now) c.args.context c.in_ok-gone.gone.items (λ place i. (c.in_ok-gone.ensures.exact place).0 i))

pub returns : goal.returns
returns c = record {
  gone = c.in_ok-gone.gone.items;
  rises = c.in_ok-gone.ensures.rises;
  exact = c.in_ok-gone.ensures.exact;
  left = c.drop_data.ensures ∙ ap (λ (gone : List ℕ). without gone c.args.context) c.as_slice.ensures.value;
}
