use Rattle.std.proofs.Common.{Result, Ok, ◌≡◌, ◌↔◌, ℕ, ◌<◌, ◌^◌, refl, sym, ap, ◌∙◌, subst}
use Rattle.context_model.specs.Atoms.{Atom}
use Rattle.context_model.specs.Kinds.{atom_of, IsKind}
use Rattle.context_model.specs.Kinds.{Kind as PlainKind}
use Rattle.context_model.specs.Kinds.Kind.{Marker as PlainMarker, Datum as PlainDatum, Indexed as PlainIndexed, Keyed as PlainKeyed}
use Rattle.atom_kinds.specs.Kinds.{outer_kind, TellsKind}
use Rattle.atom_kinds.specs.declared.Kind.{Kind}
use Rattle.atom_kinds.specs.declared.Kind.TheVariants.{Marker, Datum, Indexed, Keyed}
use Rattle.atom_kinds.specs.declared.KindFault.{KindFault}
use Rattle.bag_scan.specs.Headers.{IsIndex}
use Rattle.bag_scan.proofs.headers.index_of.Goals as goal

-- What is said of an indexed header is its level and its number.
told : (a : Atom) (n number : ℕ) → TellsKind a (Indexed n number) → IsIndex n a number
told a n number (f, is) = by f.kind f.spelled f.fits is
  where
    by : (k : PlainKind) → a ≡ atom_of k → IsKind k → outer_kind k ≡ Indexed n number → IsIndex n a number
    by PlainMarker e fits is = absurd (cc is)
    by (PlainDatum payload) e fits is = absurd (cc is)
    by (PlainIndexed l m) e fits is =
        let low : l ≡ n = cc is in
        let same : m ≡ number = cc is in
        record {
          low = subst (λ i. i < 16) low fits.0;
          wide = subst (λ i. i < 2 ^ 64) same fits.1;
          is = e ∙ ap (λ i. atom_of (PlainIndexed i m)) low ∙ ap (λ i. atom_of (PlainIndexed n i)) same;
        }
    by (PlainKeyed l key) e fits is = absurd (cc is)

-- And it is said of each.
tells : (a : Atom) (n number : ℕ) → IsIndex n a number → TellsKind a (Indexed n number)
tells a n number index = (record { kind = PlainIndexed n number; fits = (index.low, index.wide); spelled = index.is }, refl)

-- An atom that is said to be of another kind is no such header.
other : (a : Atom) (n : ℕ) (r : Result Kind KindFault) (kind : Kind) → ((k : Kind) → (r ≡ Ok k) ↔ TellsKind a k) → r ≡ Ok kind → ((number : ℕ) → kind ≡ Indexed n number → ⊥) → (number : ℕ) → IsIndex n a number → ⊥
other a n r kind told_of is differs number index =
    differs number (let same : Ok kind ≡ Ok (Indexed n number) = sym is ∙ (told_of (Indexed n number)).1 (tells a n number index) in cc same)

pub returns-in_default : goal.returns-in_default
returns-in_default c number index =
    let e = (c.kind_of.ensures.kind (Indexed c.args.level number)).1 (tells c.args.atom.now c.args.level number index) in
    let clash = sym e ∙ c.in_default.is in cc

pub returns-then-from-level : goal.returns-then-from-level
returns-then-from-level c =
    let whole : c.kind_of.result ≡ Ok (Indexed c.in-Indexed.own c.in-Indexed.number) = c.in-Ok.is ∙ ap Ok c.in-Indexed.is in
    let own = told c.args.atom.now c.in-Indexed.own c.in-Indexed.number ((c.kind_of.ensures.kind (Indexed c.in-Indexed.own c.in-Indexed.number)).0 whole) in
    subst (λ n. IsIndex n c.args.atom.now c.in-Indexed.number) (sym c.from.ensures ∙ c.if-from-level.true) own

pub returns-else-from-level : goal.returns-else-from-level
returns-else-from-level c =
    other c.args.atom.now c.args.level c.kind_of.result (Indexed c.in-Indexed.own c.in-Indexed.number) c.kind_of.ensures.kind (c.in-Ok.is ∙ ap Ok c.in-Indexed.is)
    (λ number same. c.if-from-level.false (c.from.ensures ∙ (let e : c.in-Indexed.own ≡ c.args.level = cc same in e)))

pub returns-in-Marker : goal.returns-in-Marker
returns-in-Marker c = other c.args.atom.now c.args.level c.kind_of.result Marker c.kind_of.ensures.kind (c.in-Ok.is ∙ ap Ok c.in-Marker.is) (λ number same. cc same)

pub returns-in-Datum : goal.returns-in-Datum
returns-in-Datum c = other c.args.atom.now c.args.level c.kind_of.result Datum c.kind_of.ensures.kind (c.in-Ok.is ∙ ap Ok c.in-Datum.is) (λ number same. cc same)

pub returns-in-Keyed : goal.returns-in-Keyed
returns-in-Keyed c = other c.args.atom.now c.args.level c.kind_of.result (Keyed _) c.kind_of.ensures.kind (c.in-Ok.is ∙ ap Ok c.in-Keyed.is) (λ number same. cc same)
