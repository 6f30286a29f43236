use Rattle.std.proofs.Common.{◌≡◌, ◌↔◌, IsTrue, Ordering, Less, Equal, Greater, refl, sym, ap, subst, ◌∙◌}
use Rattle.std.specs.Ordering.{is_eq}
use Rattle.std.proofs.lemmas.Cmp.{tied_itself}
use Rattle.context_model.specs.Atoms.{Atom}
use Rattle.context_model.specs.Orders.{atom_cmp}
use Rattle.context_model.proofs.OrderLaws.{atoms_total, atoms_anti}
use Rattle.atom_kinds.proofs.headers.FieldHeader.is.Goals as goal

-- Two atoms tie exactly where they are one.
tied : (a h : Atom) → IsTrue (is_eq (atom_cmp a h)) ↔ (a ≡ h)
tied a h = (
  λ t. atoms_anti a h (eq_of (atom_cmp a h) t),
  λ same. subst (λ b. IsTrue (is_eq (atom_cmp b h))) (sym same) (subst (λ o. IsTrue (is_eq o)) (sym (tied_itself atoms_total h)) refl),
)
  where
    eq_of : (o : Ordering) → IsTrue (is_eq o) → o ≡ Equal
    eq_of Less t = cc
    eq_of Equal t = refl
    eq_of Greater t = cc

pub returns : goal.returns
returns c = subst (λ b. IsTrue b ↔ (c.args.atom.now ≡ c.args.self.now)) (sym (c.is_eq.ensures ∙ ap is_eq c.order_of.ensures)) (tied c.args.atom.now c.args.self.now)
