-- What the next atom does to the atoms that are open, and whether it may be there.
use Rattle.std.proofs.Common.{◌≡◌, ℕ, zero, suc, ◌+◌, ◌-◌, ◌*◌, ◌/◌, ◌<◌, ◌≤◌, ◌≢◌, ◌↔◌, inl, inr, true, cond, List, [], ◌∷◌, ◌++◌, length, take, set, get_or, slice_get, Option, Some, None, Less, refl, sym, ◌∙◌, ap, subst, le_refl, leb-true, le-leb, arith}
use Rattle.std.specs.Borrow.{Bor}
use Rattle.std.specs.Option.{option_copied}
use Rattle.std.proofs.lemmas.Option.{slice_get_within, slice_get-get_or}
use Rattle.std.proofs.lemmas.Bool.{cases_lt}
use Rattle.std.proofs.lemmas.Bool.Decides.{nat_tests}
use Rattle.context_model.specs.declared.TheConstants.{LEVELS_MAX}
use Rattle.context_model.specs.Atoms.{Atom}
use Rattle.context_model.specs.Kinds.{atom_of, IsKind, HasKind}
use Rattle.context_model.specs.Kinds.{Kind as PlainKind}
use Rattle.context_model.specs.Kinds.Kind.{Marker as PlainMarker, Datum as PlainDatum, Indexed as PlainIndexed, Keyed as PlainKeyed}
use Rattle.context_model.specs.Orders.{Path, atom_cmp, path_cmp}
use Rattle.context_model.specs.Paths.{is_header, level, header_count, path_after}
use Rattle.context_model.specs.ByteCodes.ByteCode.{OutOfOrder}
use Rattle.context_model.specs.ShapeFault.{IsWrong}
use Rattle.context_model.proofs.Following.{Fits-marker, header_count-length, next_bound, marker_kind}
use Rattle.context_model.proofs.PathPlaces.{place_below, place_at, length_at, later_end, later_place, header_path}
use Rattle.atom_kinds.specs.declared.Kind.TheVariants.{Marker, Datum, Indexed, Keyed}
use Rattle.atom_kinds.specs.Kinds.{outer_kind, TellsKind}
use Rattle.atom_list.specs.OpenPlaces.{IsHeaderOf, MayStandBehind}
use Rattle.byte_frames.specs.OpenAtoms.{OpenAtoms, EndsWithDatum, IsOpenFor, RisesToAtom}

-- ---- a list with one element changed

slice_get-set_same : {A : Type 0} (xs : List A) (i : ℕ) (x : A) → i < length xs → slice_get (set xs i x) i ≡ Some x
slice_get-set_same [] i x within = absurd (omega arith)
slice_get-set_same (y ∷ xs) zero x within = refl
slice_get-set_same (y ∷ xs) (suc i) x within = slice_get-set_same xs i x (omega arith)

slice_get-set_other : {A : Type 0} (xs : List A) (i k : ℕ) (x : A) → k ≢ i → slice_get (set xs i x) k ≡ slice_get xs k
slice_get-set_other [] i k x apart = refl
slice_get-set_other (y ∷ xs) zero zero x apart = absurd (apart refl)
slice_get-set_other (y ∷ xs) zero (suc k) x apart = refl
slice_get-set_other (y ∷ xs) (suc i) zero x apart = refl
slice_get-set_other (y ∷ xs) (suc i) (suc k) x apart = slice_get-set_other xs i k x (λ e. apart (ap suc e))

-- ---- markers

pub marker_follows : (q : Path) → MayStandBehind q []
marker_follows q = let f = Fits-marker q in record {
  kind = marker_kind;
  level = f.level;
  later = f.later;
}

marker_ends : (q : Path) (count : ℕ) (datum : Option Atom) → EndsWithDatum q count datum → EndsWithDatum (path_after q []) count datum
marker_ends q count (Some datum) (payload, is, stands) =
    (payload, is, place_below (length q) count q [] (slice_get_within q count datum stands) (le_refl (length q)) ∙ stands)
marker_ends q count None (inr marker) =
    inr (place_below (length q) count q [] (slice_get_within q count [] marker) (le_refl (length q)) ∙ marker)
marker_ends q count None (inl whole) =
    inr (subst (λ n. slice_get (path_after q []) n ≡ Some []) whole (place_at (length q) q [] (le_refl (length q))))

pub marker_opens : (q : Path) (opened : OpenAtoms) → IsOpenFor q opened → IsOpenFor (path_after q []) opened
marker_opens q opened before =
    let long = header_count-length q in
    let number = before.number in
    record {
      number = number ∙ sym (next_bound q [] (λ e. cc));
      few = before.few;
      stand = λ k below. before.stand k below ∙ sym (place_below (length q) k q [] (omega arith) (le_refl (length q)));
      behind = marker_ends q opened.count (option_copied opened.datum) before.behind;
    }

-- ---- data

-- A datum comes later exactly where it is greater than the one in its place.
datum_later : (q : Path) (count : ℕ) (datum : Option Atom) (a : Atom) → EndsWithDatum q count datum
    → (payload : List ℕ) × (a ≡ 0 ∷ payload)
    → ((earlier : Atom) → datum ≡ Some earlier → atom_cmp earlier a ≡ Less) → path_cmp q (take count q ++ a ∷ []) ≡ Less
datum_later q count (Some datum) a (other, is, stands) own less = (later_place count q a datum stands).1 (less datum refl)
datum_later q count None a (inl whole) own less = later_end count q a whole
datum_later q count None a (inr marker) (payload, is) less = (later_place count q a [] marker).1 (ap (atom_cmp []) is)

datum_less : (q : Path) (count : ℕ) (datum : Option Atom) (a : Atom) → EndsWithDatum q count datum
    → path_cmp q (take count q ++ a ∷ []) ≡ Less → (earlier : Atom) → datum ≡ Some earlier → atom_cmp earlier a ≡ Less
datum_less q count datum a ends later earlier is =
    let stands : EndsWithDatum q count (Some earlier) = subst (EndsWithDatum q count) is ends in
    (later_place count q a earlier stands.2).0 later

-- The path of a datum has the headers before it.
datum_path : (q : Path) (count : ℕ) (a : Atom) → count ≡ header_count q → (payload : List ℕ) × (a ≡ 0 ∷ payload)
    → path_after q a ≡ take count q ++ a ∷ []
datum_path q count a number (payload, is) =
    ap (path_after q) is ∙ ap (λ n. take n q ++ (0 ∷ payload) ∷ []) (sym number) ∙ ap (λ x. take count q ++ x ∷ []) (sym is)

-- It is no header.
datum_plain : (a : Atom) → (payload : List ℕ) × (a ≡ 0 ∷ payload) → is_header a ≡ true → ⊥
datum_plain a (payload, is) header = let e = sym (ap is_header is) ∙ header in cc

module _ (q : Path) (opened : OpenAtoms) (before : IsOpenFor q opened) (atom : Bor (List ℕ)) (is : (payload : List ℕ) × (atom.now ≡ 0 ∷ payload)) where
  pub datum_follows : RisesToAtom opened.datum atom.now → MayStandBehind q atom.now
  datum_follows less = record {
    kind = record { kind = PlainDatum is.0; fits = tt; spelled = is.1 };
    level = λ header. absurd (datum_plain atom.now is header);
    later = ap (path_cmp q) (datum_path q opened.count atom.now before.number is) ∙ datum_later q opened.count (option_copied opened.datum) atom.now before.behind is less;
  }

  pub datum_wrong : (RisesToAtom opened.datum atom.now → ⊥) → IsWrong OutOfOrder q atom.now
  datum_wrong not_less = (
    record { kind = PlainDatum is.0; fits = tt; spelled = is.1 },
    λ jump. datum_plain atom.now is jump.0,
    λ later. not_less (datum_less q opened.count (option_copied opened.datum) atom.now before.behind (ap (path_cmp q) (sym (datum_path q opened.count atom.now before.number is)) ∙ later)),
  )

  pub datum_opens : IsOpenFor (path_after q atom.now) (record opened { datum = Some atom })
  datum_opens =
      let long = header_count-length q in
      let number = before.number in
      let path = datum_path q opened.count atom.now number is in
      record {
        number = number ∙ sym (next_bound q atom.now (λ header. absurd (datum_plain atom.now is header)) ∙ ap (λ x. cond (is_header x) (level x + 1) (header_count q)) is.1);
        few = before.few;
        stand = λ k below. before.stand k below ∙ sym (ap (λ p. slice_get p k) path ∙ place_below opened.count k q atom.now below (omega arith));
        behind = (is.0, is.1, ap (λ p. slice_get p opened.count) path ∙ place_at opened.count q atom.now (omega arith));
      }

-- ---- headers

-- A datum and a marker come before every header.
datum_before : (a : Atom) (payload : List ℕ) → is_header a ≡ true → atom_cmp (0 ∷ payload) a ≡ Less
datum_before [] payload e = cc
datum_before (b ∷ bytes) payload e = let h : 128 ≤ b = leb-true 128 b e in grind (arith, nat_tests)

marker_before : (a : Atom) → is_header a ≡ true → atom_cmp [] a ≡ Less
marker_before [] e = cc
marker_before (b ∷ bytes) e = refl

-- A header of the next level comes later than what is after the headers.
header_below : (q : Path) (count : ℕ) (datum : Option Atom) (a : Atom) → EndsWithDatum q count datum → is_header a ≡ true
    → path_cmp q (take count q ++ a ∷ []) ≡ Less
header_below q count (Some datum) a (payload, is, stands) header =
    (later_place count q a datum stands).1 (ap (λ x. atom_cmp x a) is ∙ datum_before a payload header)
header_below q count None a (inl whole) header = later_end count q a whole
header_below q count None a (inr marker) header = (later_place count q a [] marker).1 (marker_before a header)

module _ (q : Path) (opened : OpenAtoms) (long : length opened.headers ≡ LEVELS_MAX) (before : IsOpenFor q opened) (atom : Bor (List ℕ)) (n : ℕ) (is : IsHeaderOf atom.now n) where
  header_path_is : path_after q atom.now ≡ take n q ++ atom.now ∷ []
  header_path_is = header_path q atom.now is.header ∙ ap (λ l. take l q ++ atom.now ∷ []) is.level

  -- Where its level is open, it comes later exactly where it is greater than the header that is open there.
  header_beside : (other : Bor (List ℕ)) → n < opened.count
      → (path_cmp q (path_after q atom.now) ≡ Less) ↔ (atom_cmp (get_or opened.headers n other).now atom.now ≡ Less)
  header_beside other below =
      let few = is.few in
      let earlier = get_or opened.headers n other in
      let there : slice_get q n ≡ Some earlier.now = sym (before.stand n below) ∙ ap option_copied (slice_get-get_or opened.headers n other (omega arith)) in
      subst (λ p. (path_cmp q p ≡ Less) ↔ (atom_cmp earlier.now atom.now ≡ Less)) (sym header_path_is) (later_place n q atom.now earlier.now there)

  pub header_follows : (other : Bor (List ℕ)) → n ≤ opened.count
      → (n < opened.count → atom_cmp (get_or opened.headers n other).now atom.now ≡ Less) → MayStandBehind q atom.now
  header_follows other upto less = record {
    kind = is.kind;
    level = λ e. (let number = before.number in let own = is.level in omega arith);
    later = elim (cases_lt n opened.count) [
      | inl below ↦ (header_beside other below).1 (less below)
      | inr last ↦ (
          let same : opened.count ≡ n = omega arith in
          ap (path_cmp q) header_path_is ∙ header_below q n (option_copied opened.datum) atom.now (subst (λ k. EndsWithDatum q k (option_copied opened.datum)) same before.behind) is.header
          )
    ];
  }

  pub header_wrong : (other : Bor (List ℕ)) → n < opened.count → (atom_cmp (get_or opened.headers n other).now atom.now ≡ Less → ⊥)
      → IsWrong OutOfOrder q atom.now
  header_wrong other below not_less = (
    is.kind,
    λ jump. (let number = before.number in let own = is.level in let over = jump.1 in absurd (omega arith)),
    λ later. not_less ((header_beside other below).0 later),
  )

  pub header_opens : n ≤ opened.count
      → IsOpenFor (path_after q atom.now) (record { headers = set opened.headers n atom; count = n + 1; datum = None })
  header_opens upto =
      let number = before.number in
      let own = is.level in
      let few = is.few in
      let q_long = header_count-length q in
      let path = header_path_is in
      record {
        number = sym (next_bound q atom.now (λ e. omega arith) ∙ ap (λ b. cond b (level atom.now + 1) (header_count q)) is.header ∙ ap (λ l. l + 1) own);
        few = omega arith;
        stand = λ k below. elim (cases_lt k n) [
          | inl less ↦ ap option_copied (slice_get-set_other opened.headers n k atom (λ e. omega arith)) ∙ before.stand k (omega arith)
              ∙ sym (ap (λ p. slice_get p k) path ∙ place_below n k q atom.now less (omega arith))
          | inr last ↦ (
              let same : n ≡ k = omega arith in
              subst (λ j. option_copied (slice_get (set opened.headers n atom) j) ≡ slice_get (path_after q atom.now) j) same
              (ap option_copied (slice_get-set_same opened.headers n atom (omega arith)) ∙ sym (ap (λ p. slice_get p n) path ∙ place_at n q atom.now (omega arith)))
              )
        ];
        behind = inl (ap length path ∙ length_at n q atom.now (omega arith));
      }

-- ---- what the kind of an atom says of it

pub told_datum : (a : Atom) → TellsKind a Datum → (payload : List ℕ) × (a ≡ 0 ∷ payload)
told_datum a (f, is) = by f.kind f.spelled is
  where
    by : (k : PlainKind) → a ≡ atom_of k → outer_kind k ≡ Datum → (payload : List ℕ) × (a ≡ 0 ∷ payload)
    by PlainMarker e is = absurd (cc is)
    by (PlainDatum payload) e is = (payload, e)
    by (PlainIndexed l n) e is = absurd (cc is)
    by (PlainKeyed l key) e is = absurd (cc is)

pub told_marker : (a : Atom) → TellsKind a Marker → a ≡ []
told_marker a (f, is) = by f.kind f.spelled is
  where
    by : (k : PlainKind) → a ≡ atom_of k → outer_kind k ≡ Marker → a ≡ []
    by PlainMarker e is = e
    by (PlainDatum payload) e is = absurd (cc is)
    by (PlainIndexed l n) e is = absurd (cc is)
    by (PlainKeyed l key) e is = absurd (cc is)

header_of : (a : Atom) (n first : ℕ) (rest : List ℕ) → HasKind a → n < LEVELS_MAX → a ≡ first ∷ rest → 128 ≤ first
    → (255 - first) / 8 ≡ n → IsHeaderOf a n
header_of a n first rest f few e high is = record {
  kind = f;
  header = ap is_header e ∙ le-leb 128 first high;
  level = ap level e ∙ is;
  few = few;
}

pub told_indexed : (a : Atom) (n number : ℕ) → TellsKind a (Indexed n number) → IsHeaderOf a n
told_indexed a n number (f, is) = by f.kind f.spelled f.fits is
  where
    by : (k : PlainKind) → a ≡ atom_of k → IsKind k → outer_kind k ≡ Indexed n number → IsHeaderOf a n
    by PlainMarker e fits is = absurd (cc is)
    by (PlainDatum payload) e fits is = absurd (cc is)
    by (PlainIndexed l m) e fits is = let same : l ≡ n = cc is in header_of a n (248 - 8 * l) _ f (let b = fits.0 in omega arith) e (let b = fits.0 in omega arith) (let b = fits.0 in omega arith)
    by (PlainKeyed l key) e fits is = absurd (cc is)

pub told_keyed : (a : Atom) (n : ℕ) → TellsKind a (Keyed n) → IsHeaderOf a n
told_keyed a n (f, is) = by f.kind f.spelled f.fits is
  where
    by : (k : PlainKind) → a ≡ atom_of k → IsKind k → outer_kind k ≡ Keyed n → IsHeaderOf a n
    by PlainMarker e fits is = absurd (cc is)
    by (PlainDatum payload) e fits is = absurd (cc is)
    by (PlainIndexed l m) e fits is = absurd (cc is)
    by (PlainKeyed l key) e fits is = let same : l ≡ n = cc is in header_of a n (249 - 8 * l) key f (omega arith) e (omega arith) (omega arith)
