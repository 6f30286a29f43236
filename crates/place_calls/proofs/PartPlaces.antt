-- The pieces of a part, by the places of its atoms.
use Rattle.std.proofs.Common.{◌≡◌, ◌⊎◌, inl, inr, ◌↔◌, ℕ, zero, suc, ◌+◌, ◌-◌, ◌<◌, ◌≤◌, Bool, true, false, ◌&&◌, nat_le, if◌then◌else◌, List, [], ◌∷◌, length, take, drop, Some, Less, refl, sym, ap, ◌∙◌, subst, le_refl, arith}
use Rattle.std.specs.List.{slice_get, slice_range, AllByRecursion}
use Rattle.std.proofs.lemmas.Bool.{and_parts, cases_order}
use Rattle.std.proofs.lemmas.Bool.Decides.{nat_tests}
use Rattle.std.proofs.lemmas.List.{drop_more}
use Rattle.context_model.specs.Atoms.{Atom}
use Rattle.context_model.specs.Kinds.{atom_of, Kind, IsKind, HasKind}
use Rattle.context_model.specs.Kinds.Kind.{Marker, Datum, Indexed, Keyed}
use Rattle.context_model.specs.Orders.{Path, atom_cmp, IsIn, Rises}
use Rattle.context_model.specs.Paths.{is_header, level, atom_at}
use Rattle.context_model.specs.WellFormed.{IsWellFormed}
use Rattle.bag_walks.specs.Parts.{IsBehind, HasNoHeader, StaysBelow, Stands}
use Rattle.bag_walks.proofs.Gathering.{datum_before}
use Rattle.bag_walks.proofs.Sets.{key_header, index_header}
use Rattle.bag_walks.proofs.Stops.{atom_there}
use Rattle.place_calls.specs.Telling.{data_of, below}

-- ---- a part, atom by atom

pub part_none : (list : List Atom) (k : ℕ) → slice_range list k k ≡ []
part_none list k = let e : k - k ≡ 0 = omega arith in ap (λ n. take n (drop k list)) e

pub part_over : (list : List Atom) (k stop : ℕ) → k + 0 ≡ stop → slice_range list k stop ≡ []
part_over list k stop e = ap (slice_range list k) (let s : stop ≡ k = omega arith in s) ∙ part_none list k

pub part_step : (list : List Atom) (k stop : ℕ) → k < stop → stop ≤ length list → slice_range list k stop ≡ atom_at list k ∷ slice_range list (k + 1) stop
part_step list k stop less within =
    let more : stop - k ≡ suc (stop - (k + 1)) = omega arith in
    ap (take (stop - k)) (drop_more list k [] (omega arith)) ∙ ap (λ n. take n (atom_at list k ∷ drop (k + 1) list)) more

-- ---- the kinds of atoms

all_at : {A : Type 0} (P : A → Type 0) (xs : List A) (i : ℕ) (x : A) → AllByRecursion P xs → slice_get xs i ≡ Some x → P x
all_at P [] i x all there = absurd (cc there)
all_at P (y ∷ xs) zero x all there = let same : y ≡ x = cc there in subst P same all.0
all_at P (y ∷ xs) (suc i) x all there = all_at P xs i x all.1 there

plain_kind : (a : Atom) (kind : Kind) → IsKind kind → a ≡ atom_of kind → is_header a ≡ false → (a ≡ []) ⊎ ((payload : List ℕ) × (a ≡ 0 ∷ payload))
plain_kind a Marker fits is plain = inl is
plain_kind a (Datum payload) fits is plain = inr (payload, is)
plain_kind a (Indexed n number) fits is plain = absurd (let clash : true ≡ false = sym (index_header n number fits.0).0 ∙ ap is_header (sym is) ∙ plain in cc)
plain_kind a (Keyed n key) fits is plain = absurd (let clash : true ≡ false = sym (key_header n key fits).0 ∙ ap is_header (sym is) ∙ plain in cc)

-- An atom that is no header is a marker or a datum.
plain_atom : (list : List Atom) (k : ℕ) → IsWellFormed list → k < length list → is_header (atom_at list k) ≡ false → (atom_at list k ≡ []) ⊎ ((payload : List ℕ) × (atom_at list k ≡ 0 ∷ payload))
plain_atom list k w within plain =
    let its : HasKind (atom_at list k) = all_at HasKind list k (atom_at list k) w.kinds (atom_there list k within) in
    plain_kind (atom_at list k) its.kind its.fits its.spelled plain

-- ---- data

data_header : (a : Atom) (part : List Atom) → is_header a ≡ true → data_of (a ∷ part) ≡ []
data_header [] part e = absurd (cc e)
data_header (b ∷ payload) part e = ap (λ t. if t then [] else payload ∷ data_of part) e

no_header_one : (list : List Atom) (k to : ℕ) → k < length list → is_header (atom_at list k) ≡ false → HasNoHeader list (k + 1) to → HasNoHeader list k to
no_header_one list k to within plain part = record {
  rises = omega (arith, part.rises);
  within = part.within;
  none = λ j l m. elim (cases_order j k) [
    | inl same ↦ subst (λ i. is_header (atom_at list i) ≡ false) (sym same) plain
    | inr (inl before) ↦ absurd (omega arith)
    | inr (inr after) ↦ part.none j (omega arith) m
  ];
}

no_header_join : (list : List Atom) (from k to : ℕ) → HasNoHeader list from k → HasNoHeader list k to → HasNoHeader list from to
no_header_join list from k to first second = record {
  rises = omega (arith, first.rises, second.rises);
  within = second.within;
  none = λ j l m. elim (cases_order j k) [
    | inl same ↦ second.none j (omega arith) m
    | inr (inl before) ↦ first.none j l before
    | inr (inr after) ↦ second.none j (omega arith) m
  ];
}

no_header_none : (list : List Atom) (k : ℕ) → k ≤ length list → HasNoHeader list k k
no_header_none list k within = record { rises = le_refl k; within = within; none = λ j l m. absurd (omega arith) }

pub stands_later : (list : List Atom) (a : Atom) (k to : ℕ) → Stands list a (k + 1) to → Stands list a k to
stands_later list a k to s = record { place = s.place; from_on = omega (arith, s.from_on); up_to = s.up_to; atom = s.atom }

-- An atom from a place on is there, or later.
pub stands_split : (list : List Atom) (a : Atom) (k to : ℕ) → Stands list a k to → (atom_at list k ≡ a) ⊎ Stands list a (k + 1) to
stands_split list a k to s = elim (cases_order s.place k) [
  | inl same ↦ inl (ap (atom_at list) (sym same) ∙ s.atom)
  | inr (inl before) ↦ absurd (omega (arith, before, s.from_on))
  | inr (inr after) ↦ inr (record { place = s.place; from_on = omega (arith, after); up_to = s.up_to; atom = s.atom })
]

rises_first : (x : List ℕ) (xs : List (List ℕ)) → ((y : List ℕ) → IsIn y xs → atom_cmp x y ≡ Less) → Rises atom_cmp xs → Rises atom_cmp (x ∷ xs)
rises_first x [] least rises = tt
rises_first x (y ∷ xs) least rises = (least y (inl refl), rises)

pub rises_front : (x : List ℕ) (xs : List (List ℕ)) → ((y : List ℕ) → IsIn y xs → atom_cmp x y ≡ Less) → Rises atom_cmp xs → Rises atom_cmp (x ∷ xs)
rises_front x xs least rises = rises_first x xs least rises

-- The data from a place on, up to the first header.
pub record DataUpTo (list : List Atom) (stop k : ℕ) : Type 0 where
  pub end : ℕ
  pub part : HasNoHeader list k end
  pub upto : end ≤ stop
  pub ends : end < stop → is_header (atom_at list end) ≡ true
  pub holds : (x : List ℕ) → IsIn x (data_of (slice_range list k stop)) ↔ Stands list (0 ∷ x) k end
  pub order : (q : Path) (from : ℕ) → IsBehind list q from → HasNoHeader list from k → Rises atom_cmp (data_of (slice_range list k stop))

module _ (list : List Atom) (stop : ℕ) (w : IsWellFormed list) (within : stop ≤ length list) where
  no_data : (k : ℕ) → k ≤ stop → data_of (slice_range list k stop) ≡ [] → (k < stop → is_header (atom_at list k) ≡ true) → DataUpTo list stop k
  no_data k less none ends = record {
    end = k;
    part = no_header_none list k (omega arith);
    upto = less;
    ends = ends;
    holds = λ x. (
      λ i. absurd (let none_in : ⊥ = subst (λ l. IsIn x l) none i in none_in),
      λ s. absurd (omega (arith, s.from_on, s.up_to)),
    );
    order = λ q from behind part. subst (Rises atom_cmp) (sym none) tt;
  }

  module _ (k : ℕ) (less : k < stop) (plain : is_header (atom_at list k) ≡ false) (rest : DataUpTo list stop (k + 1)) where
    here : k < length list
    here = omega arith

    same_end : HasNoHeader list k rest.end
    same_end = no_header_one list k rest.end here plain rest.part

    marker_more : atom_at list k ≡ [] → DataUpTo list stop k
    marker_more is = record {
      end = rest.end;
      part = same_end;
      upto = rest.upto;
      ends = rest.ends;
      holds = λ x. (
        λ i. stands_later list (0 ∷ x) k rest.end ((rest.holds x).0 (subst (λ l. IsIn x l) same i)),
        λ s. subst (λ l. IsIn x l) (sym same) ((rest.holds x).1 (later x (stands_split list (0 ∷ x) k rest.end s))),
      );
      order = λ q from behind part. subst (Rises atom_cmp) (sym same) (rest.order q from behind (no_header_join list from k (k + 1) part (no_header_one list k (k + 1) here plain (no_header_none list (k + 1) (omega arith)))));
    }
      where
        same : data_of (slice_range list k stop) ≡ data_of (slice_range list (k + 1) stop)
        same = ap data_of (part_step list k stop less within) ∙ ap (λ a. data_of (a ∷ slice_range list (k + 1) stop)) is

        later : (x : List ℕ) → (atom_at list k ≡ 0 ∷ x) ⊎ Stands list (0 ∷ x) (k + 1) rest.end → Stands list (0 ∷ x) (k + 1) rest.end
        later x (inl e) = absurd (let clash : [] ≡ 0 ∷ x = sym is ∙ e in cc)
        later x (inr s) = s

    datum_more : (payload : List ℕ) → atom_at list k ≡ 0 ∷ payload → DataUpTo list stop k
    datum_more payload is = record {
      end = rest.end;
      part = same_end;
      upto = rest.upto;
      ends = rest.ends;
      holds = λ x. (
        λ i. there x (subst (λ l. IsIn x l) same i),
        λ s. subst (λ l. IsIn x l) (sym same) (back x (stands_split list (0 ∷ x) k rest.end s)),
      );
      order = λ q from behind part. subst (Rises atom_cmp) (sym same) (rises_front payload (data_of (slice_range list (k + 1) stop))
          (λ y i. before q from behind part y ((rest.holds y).0 i))
          (rest.order q from behind (no_header_join list from k (k + 1) part (no_header_one list k (k + 1) here plain (no_header_none list (k + 1) (omega arith))))));
    }
      where
        same : data_of (slice_range list k stop) ≡ payload ∷ data_of (slice_range list (k + 1) stop)
        same = ap data_of (part_step list k stop less within) ∙ ap (λ a. data_of (a ∷ slice_range list (k + 1) stop)) is

        there : (x : List ℕ) → (x ≡ payload) ⊎ IsIn x (data_of (slice_range list (k + 1) stop)) → Stands list (0 ∷ x) k rest.end
        there x (inl e) = record { place = k; from_on = le_refl k; up_to = omega (arith, rest.part.rises); atom = is ∙ ap (λ p. 0 ∷ p) (sym e) }
        there x (inr i) = stands_later list (0 ∷ x) k rest.end ((rest.holds x).0 i)

        back : (x : List ℕ) → (atom_at list k ≡ 0 ∷ x) ⊎ Stands list (0 ∷ x) (k + 1) rest.end → (x ≡ payload) ⊎ IsIn x (data_of (slice_range list (k + 1) stop))
        back x (inl e) = inl (let same_atom : 0 ∷ x ≡ 0 ∷ payload = sym e ∙ is in cc)
        back x (inr s) = inr ((rest.holds x).1 s)

        before : (q : Path) (from : ℕ) → IsBehind list q from → HasNoHeader list from k → (y : List ℕ) → Stands list (0 ∷ y) (k + 1) rest.end → atom_cmp payload y ≡ Less
        before q from behind part y s =
            datum_before list q from rest.end k s.place payload y behind (no_header_join list from k rest.end part same_end) part.rises (omega (arith, s.from_on)) s.up_to is s.atom

    plain_more : (atom_at list k ≡ []) ⊎ ((payload : List ℕ) × (atom_at list k ≡ 0 ∷ payload)) → DataUpTo list stop k
    plain_more (inl is) = marker_more is
    plain_more (inr (payload, is)) = datum_more payload is

  pub data_up_to : (m k : ℕ) → k + m ≡ stop → DataUpTo list stop k
  data_up_to zero k e = no_data k (omega arith) (ap data_of (part_over list k stop e)) (λ less. absurd (omega arith))
  data_up_to (suc m) k e = by (is_header (atom_at list k)) refl (data_up_to m (k + 1) (omega arith))
    where
      by : (t : Bool) → is_header (atom_at list k) ≡ t → DataUpTo list stop (k + 1) → DataUpTo list stop k
      by true header rest = no_data k (omega arith) (ap data_of (part_step list k stop (omega arith) within) ∙ data_header (atom_at list k) (slice_range list (k + 1) stop) header) (λ less. header)
      by false plain rest = plain_more k (omega arith) plain rest (plain_atom list k w (omega arith) plain)

-- ---- what is below a header

-- The atoms from a place on, up to the first header of this level or of a lesser one.
pub record BelowUpTo (list : List Atom) (stop n k : ℕ) : Type 0 where
  pub end : ℕ
  pub upto : end ≤ stop
  pub is : below n (slice_range list k stop) ≡ slice_range list k end
  pub stays : StaysBelow list (n + 1) k end
  pub ends : end < stop → (is_header (atom_at list end) ≡ true) × (level (atom_at list end) ≤ n)

not_deeper : (n l : ℕ) (t : Bool) → t ≡ true → (t && nat_le l n) ≡ false → n < l
not_deeper n l true e both = grind (arith, nat_tests)
not_deeper n l false e both = absurd (cc e)

deeper : (n l : ℕ) → nat_le l n ≡ true → l ≤ n
deeper n l e = grind (arith, nat_tests)

module _ (list : List Atom) (stop n : ℕ) (within : stop ≤ length list) where
  nothing_below : (k : ℕ) → k ≤ stop → below n (slice_range list k stop) ≡ [] → (k < stop → (is_header (atom_at list k) ≡ true) × (level (atom_at list k) ≤ n)) → BelowUpTo list stop n k
  nothing_below k less none ends = record {
    end = k;
    upto = less;
    is = none ∙ sym (part_none list k);
    stays = record { rises = le_refl k; within = omega arith; deep = λ j l m. absurd (omega arith) };
    ends = ends;
  }

  one_below : (k : ℕ) → k < stop → (is_header (atom_at list k) && nat_le (level (atom_at list k)) n) ≡ false → BelowUpTo list stop n (k + 1) → BelowUpTo list stop n k
  one_below k less plain rest = record {
    end = rest.end;
    upto = rest.upto;
    is = ap (below n) (part_step list k stop less within)
        ∙ ap (λ t. if t then [] else atom_at list k ∷ below n (slice_range list (k + 1) stop)) plain
        ∙ ap (λ l. atom_at list k ∷ l) rest.is
        ∙ sym (part_step list k rest.end (omega (arith, rest.stays.rises)) (omega (arith, rest.upto)));
    stays = record {
      rises = omega (arith, rest.stays.rises);
      within = rest.stays.within;
      deep = λ j l m header. elim (cases_order j k) [
        | inl same ↦ (let own : n < level (atom_at list j) = not_deeper n (level (atom_at list j)) (is_header (atom_at list j)) header
            (subst (λ i. (is_header (atom_at list i) && nat_le (level (atom_at list i)) n) ≡ false) (sym same) plain) in omega (arith, own))
        | inr (inl before) ↦ absurd (omega arith)
        | inr (inr after) ↦ rest.stays.deep j (omega arith) m header
      ];
    };
    ends = rest.ends;
  }

  pub below_up_to : (m k : ℕ) → k + m ≡ stop → BelowUpTo list stop n k
  below_up_to zero k e = nothing_below k (omega arith) (ap (below n) (part_over list k stop e)) (λ less. absurd (omega arith))
  below_up_to (suc m) k e = by (is_header (atom_at list k) && nat_le (level (atom_at list k)) n) refl (below_up_to m (k + 1) (omega arith))
    where
      by : (t : Bool) → (is_header (atom_at list k) && nat_le (level (atom_at list k)) n) ≡ t → BelowUpTo list stop n (k + 1) → BelowUpTo list stop n k
      by true ends rest =
          let parts = and_parts (is_header (atom_at list k)) (nat_le (level (atom_at list k)) n) ends in
          nothing_below k (omega arith)
          (ap (below n) (part_step list k stop (omega arith) within) ∙ ap (λ t. if t then [] else atom_at list k ∷ below n (slice_range list (k + 1) stop)) ends)
          (λ less. (parts.0, deeper n (level (atom_at list k)) parts.1))
      by false plain rest = one_below k (omega arith) plain rest
