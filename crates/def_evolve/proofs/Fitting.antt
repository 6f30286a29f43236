-- What fits, step by step.
use Rattle.std.proofs.Common.{◌≡◌, ℕ, List, [], ◌∷◌, ◌++◌, refl, subst, sym}
use Rattle.context_model.specs.Orders.{IsIn}
use Rattle.bag_model.specs.declared.Pick.{Pick}
use Rattle.bag_model.specs.declared.Pick.TheVariants.{Least, Greatest}
use Rattle.bag_model.specs.Scalars.{ScalarKind}
use Rattle.bag_model.specs.Shapes.{Shape, Nodes, Field, Taint, Scalar, Set, Counter, Map, Bag, fields}
use Rattle.def_evolve.specs.declared.verdicts.Change.{Change}
use Rattle.def_evolve.specs.declared.verdicts.Change.TheVariants as changes
use Rattle.def_evolve.specs.declared.verdicts.Part.{Part}
use Rattle.def_evolve.specs.declared.verdicts.Part.TheVariants.{Number, MapValue}
use Rattle.def_evolve.specs.Widening.{Widens}
use Rattle.def_evolve.specs.Breaks.{variant_of, Differs, LeadsAlong, Fits}
use Rattle.def_evolve.proofs.Wider.{told_wider}

-- The fields with one number fit.
abbrev pub FieldsFit : Nodes → Nodes → Type 0
FieldsFit nodes others =
    (a b : Field) → IsIn a (fields nodes) → IsIn b (fields others) → b.number ≡ a.number → Fits a.shape b.shape

-- Shapes of one variant, with a wider kind, and with what fits inside.
abbrev pub FitsInside : Shape → Shape → Type 0
FitsInside Taint Taint = Unit {0}
FitsInside (Scalar pick kind) (Scalar own other) = (own ≡ pick) × Widens kind other
FitsInside (Set kind) (Set other) = Widens kind other
FitsInside Counter Counter = Unit {0}
FitsInside (Map key shape) (Map other more) = Widens key other × Fits shape more
FitsInside (Bag nodes) (Bag others) = FieldsFit nodes others
FitsInside old new = ⊥

-- Scalars of which the same value stays.
one_pick : (pick own : Pick) (kind other : ScalarKind) → ((variant_of (Scalar pick kind) ≡ variant_of (Scalar own other) → ⊥) → ⊥) → own ≡ pick
one_pick Least Least kind other f = refl
one_pick Greatest Greatest kind other f = refl
one_pick Least Greatest kind other f = absurd (f (λ e. cc e))
one_pick Greatest Least kind other f = absurd (f (λ e. cc e))

-- A scalar is neither of these variants.
no_scalar : (pick : Pick) (kind : ScalarKind) (n : ℕ) → (n ≡ 1 → ⊥) → (n ≡ 2 → ⊥) → variant_of (Scalar pick kind) ≡ n → ⊥
no_scalar Least kind n f g e = f (sym e)
no_scalar Greatest kind n f g e = g (sym e)

at_once : (old new : Shape) (change : Change) → Fits old new → Differs change old new → ⊥
at_once old new change f d = f [] change (old, new, refl, refl, d)

pub fits_inside : (old new : Shape) → Fits old new → FitsInside old new
fits_inside Taint Taint f = tt
fits_inside (Scalar pick kind) (Scalar own other) f =
    let same : own ≡ pick = one_pick pick own kind other (λ d. at_once (Scalar pick kind) (Scalar own other) changes.Shape f d) in
    (same, told_wider kind other (λ d. at_once (Scalar pick kind) (Scalar own other) changes.Kind f (same, d)))
fits_inside (Set kind) (Set other) f = told_wider kind other (λ d. at_once (Set kind) (Set other) changes.Kind f d)
fits_inside Counter Counter f = tt
fits_inside (Map key shape) (Map other more) f = (
  told_wider key other (λ d. at_once (Map key shape) (Map other more) changes.Key f d),
  λ way change b. f (MapValue ∷ way) change (b.0, b.1, (shape, refl, b.2), (more, refl, b.3), b.4),
)
fits_inside (Bag nodes) (Bag others) f = λ a b i j e way change x.
    f (Number a.number ∷ way) change (x.0, x.1, (a.shape, (a, i, refl, refl), x.2), (b.shape, (b, j, e, refl), x.3), x.4)
fits_inside (Scalar pick kind) new f = absurd (at_once (Scalar pick kind) new changes.Shape f (no_scalar pick kind (variant_of new) (λ e. cc e) (λ e. cc e)))
fits_inside old (Scalar pick kind) f = absurd (at_once old (Scalar pick kind) changes.Shape f (λ e. no_scalar pick kind (variant_of old) (λ e. cc e) (λ e. cc e) (sym e)))
fits_inside old new f = absurd (at_once old new changes.Shape f (λ e. cc e))

-- Ways one after another.
pub leads_on : (own mid shape : Shape) (way more : List Part) → LeadsAlong own way mid → LeadsAlong mid more shape → LeadsAlong own (way ++ more) shape
leads_on own mid shape [] more e l = subst (λ (s : Shape). LeadsAlong s more shape) (sym e) l
leads_on own mid shape (part ∷ way) more s l = (s.0, s.1, leads_on s.0 mid shape way more s.2 l)
