-- What the next atom does to the headers that are open, and whether it may be there.
use Rattle.std.proofs.Common.{◌≡◌, ℕ, ◌+◌, ◌-◌, ◌*◌, ◌/◌, ◌<◌, ◌≤◌, ◌↔◌, inl, inr, true, cond, List, [], ◌∷◌, ◌++◌, length, take, get_or, slice_get, Option, Some, None, Less, refl, sym, ◌∙◌, ap, subst, le_refl, leb-true, le-leb, arith}
use Rattle.std.proofs.lemmas.Option.{slice_get_within, slice_get-get_or, get_or_from_slice_get}
use Rattle.std.proofs.lemmas.List.{get_or_append_left, get_or-take, get_or_push, length_push, length-take-le}
use Rattle.std.proofs.lemmas.Bool.{cases_lt}
use Rattle.std.proofs.lemmas.Bool.Decides.{nat_tests}
use Rattle.context_model.specs.Atoms.{Atom}
use Rattle.context_model.specs.Kinds.{atom_of, IsKind, HasKind}
use Rattle.context_model.specs.Kinds.{Kind as PlainKind}
use Rattle.context_model.specs.Kinds.Kind.{Marker as PlainMarker, Datum as PlainDatum, Indexed as PlainIndexed, Keyed as PlainKeyed}
use Rattle.context_model.specs.Orders.{Path, atom_cmp, path_cmp}
use Rattle.context_model.specs.Paths.{is_header, level, header_count, path_after}
use Rattle.context_model.specs.ByteCodes.ByteCode.{OutOfOrder}
use Rattle.context_model.specs.ShapeFault.{IsWrong}
use Rattle.context_model.proofs.Following.{Fits-marker, header_count-length, next_bound, marker_kind}
use Rattle.context_model.proofs.PathPlaces.{place_below, place_at, length_at, later_end, later_place}
use Rattle.atom_kinds.specs.declared.Kind.TheVariants.{Marker, Datum, Indexed, Keyed}
use Rattle.atom_kinds.specs.Kinds.{outer_kind, TellsKind}
use Rattle.atom_list.specs.OpenPlaces.{atom_at, EndsWith, IsOpenPath, IsHeaderOf, MayStandBehind}

-- A header's path has as many headers before it as its level.
header_path : (q : Path) (a : Atom) → is_header a ≡ true → path_after q a ≡ take (level a) q ++ a ∷ []
header_path q [] e = cc
header_path q (b ∷ bytes) e = ap (λ v. take (cond v (level (b ∷ bytes)) (header_count q)) q ++ (b ∷ bytes) ∷ []) e

-- ---- markers

pub marker_follows : (q : Path) → MayStandBehind q []
marker_follows q = let f = Fits-marker q in record {
  kind = marker_kind;
  level = f.level;
  later = f.later;
}

marker_ends : (list : List Atom) (q : Path) (count : ℕ) (datum : Option ℕ) → count ≡ header_count q → EndsWith list q count datum → EndsWith list (path_after q []) count datum
marker_ends list q count (Some place) number (payload, stands) =
    (payload, (stands.0, place_below (length q) count q [] (slice_get_within q count (0 ∷ payload) stands.1) (le_refl (length q)) ∙ stands.1))
marker_ends list q count None number (inr marker) =
    inr (place_below (length q) count q [] (slice_get_within q count [] marker) (le_refl (length q)) ∙ marker)
marker_ends list q count None number (inl whole) =
    inr (subst (λ n. slice_get (path_after q []) n ≡ Some []) whole (place_at (length q) q [] (le_refl (length q))))

pub marker_opens : (list : List Atom) (q : Path) (above : List ℕ) (datum : Option ℕ) → IsOpenPath list q above datum → IsOpenPath list (path_after q []) above datum
marker_opens list q above datum opened = record {
  number = opened.number ∙ sym (next_bound q [] (λ e. cc));
  few = opened.few;
  stand = λ k below. (
      let h = opened.stand k below in
      (h.0, (h.1.0, place_below (length q) k q [] (slice_get_within q k h.0 h.1.1) (le_refl (length q)) ∙ h.1.1))
      );
  behind = marker_ends list q (length above) datum opened.number opened.behind;
}

-- ---- data

-- A datum comes later than what is in its place.
pub datum_later : (list : List Atom) (q : Path) (above : List ℕ) (datum : Option ℕ) (payload : List ℕ) → IsOpenPath list q above datum
    → ((place : ℕ) → datum ≡ Some place → atom_cmp (atom_at list place) (0 ∷ payload) ≡ Less) → path_cmp q (path_after q (0 ∷ payload)) ≡ Less
datum_later list q above datum payload opened less =
    subst (λ n. path_cmp q (take n q ++ (0 ∷ payload) ∷ []) ≡ Less) opened.number (by datum opened.behind less)
  where
    by : (datum : Option ℕ) → EndsWith list q (length above) datum → ((place : ℕ) → datum ≡ Some place → atom_cmp (atom_at list place) (0 ∷ payload) ≡ Less) → path_cmp q (take (length above) q ++ (0 ∷ payload) ∷ []) ≡ Less
    by (Some place) (other, stands) less =
        (later_place (length above) q (0 ∷ payload) (0 ∷ other) stands.1).1 (subst (λ x. atom_cmp x (0 ∷ payload) ≡ Less) (get_or_from_slice_get list place (0 ∷ other) [] stands.0) (less place refl))
    by None (inl whole) less = later_end (length above) q (0 ∷ payload) whole
    by None (inr marker) less = (later_place (length above) q (0 ∷ payload) [] marker).1 refl

pub datum_is_less : (list : List Atom) (q : Path) (above : List ℕ) (datum : Option ℕ) (payload : List ℕ) → IsOpenPath list q above datum
    → path_cmp q (path_after q (0 ∷ payload)) ≡ Less → (place : ℕ) → datum ≡ Some place → atom_cmp (atom_at list place) (0 ∷ payload) ≡ Less
datum_is_less list q above datum payload opened later place is =
    let stands : EndsWith list q (length above) (Some place) = subst (EndsWith list q (length above)) is opened.behind in
    let same = get_or_from_slice_get list place (0 ∷ stands.0) [] stands.1.0 in
    subst (λ x. atom_cmp x (0 ∷ payload) ≡ Less) (sym same)
    ((later_place (length above) q (0 ∷ payload) (0 ∷ stands.0) stands.1.1).0 (subst (λ n. path_cmp q (take n q ++ (0 ∷ payload) ∷ []) ≡ Less) (sym opened.number) later))

-- The datum is in the list.
pub datum_within : (list : List Atom) (q : Path) (above : List ℕ) (datum : Option ℕ) → IsOpenPath list q above datum → (place : ℕ) → datum ≡ Some place → place < length list
datum_within list q above datum opened place is =
    let stands : EndsWith list q (length above) (Some place) = subst (EndsWith list q (length above)) is opened.behind in
    slice_get_within list place (0 ∷ stands.0) stands.1.0

-- A header that is open is in the list.
pub header_within : (list : List Atom) (q : Path) (above : List ℕ) (datum : Option ℕ) (k : ℕ) → IsOpenPath list q above datum → k < length above → get_or above k 0 < length list
header_within list q above datum k opened below =
    let h = opened.stand k below in
    slice_get_within list (get_or above k 0) h.0 h.1.0

pub datum_opens : (list : List Atom) (q : Path) (above : List ℕ) (datum : Option ℕ) (at : ℕ) (payload : List ℕ) → IsOpenPath list q above datum
    → slice_get list at ≡ Some (0 ∷ payload) → IsOpenPath list (path_after q (0 ∷ payload)) above (Some at)
datum_opens list q above datum at payload opened there =
    let few = header_count-length q in
    record {
      number = opened.number ∙ sym (next_bound q (0 ∷ payload) (λ e. cc));
      few = opened.few;
      stand = λ k below. (
          let h = opened.stand k below in
          (h.0, (h.1.0, place_below (header_count q) k q (0 ∷ payload) (let n = opened.number in omega arith) few ∙ h.1.1))
          );
      behind = (payload, (there, subst (λ n. slice_get (path_after q (0 ∷ payload)) n ≡ Some (0 ∷ payload)) (sym opened.number) (place_at (header_count q) q (0 ∷ payload) few)));
    }

-- ---- headers

-- A datum and a marker come before every header.
before_header : (a : Atom) (payload : List ℕ) → is_header a ≡ true → atom_cmp (0 ∷ payload) a ≡ Less
before_header [] payload e = cc
before_header (b ∷ bytes) payload e = let h : 128 ≤ b = leb-true 128 b e in grind (arith, nat_tests)

marker_before : (a : Atom) → is_header a ≡ true → atom_cmp [] a ≡ Less
marker_before [] e = cc
marker_before (b ∷ bytes) e = refl

-- A header of the next level comes later than what is after the headers.
pub header_below : (list : List Atom) (q : Path) (above : List ℕ) (datum : Option ℕ) (a : Atom) → IsOpenPath list q above datum → is_header a ≡ true → level a ≡ length above
    → path_cmp q (path_after q a) ≡ Less
header_below list q above datum a opened header level_is =
    subst (λ p. path_cmp q p ≡ Less) (sym (header_path q a header)) (subst (λ n. path_cmp q (take n q ++ a ∷ []) ≡ Less) (sym level_is) (by datum opened.behind))
  where
    by : (datum : Option ℕ) → EndsWith list q (length above) datum → path_cmp q (take (length above) q ++ a ∷ []) ≡ Less
    by (Some place) (payload, stands) = (later_place (length above) q a (0 ∷ payload) stands.1).1 (before_header a payload header)
    by None (inl whole) = later_end (length above) q a whole
    by None (inr marker) = (later_place (length above) q a [] marker).1 (marker_before a header)

-- A header of an open level comes later exactly where it is greater than the one that is open.
pub header_beside : (list : List Atom) (q : Path) (above : List ℕ) (datum : Option ℕ) (a : Atom) → IsOpenPath list q above datum → is_header a ≡ true → level a < length above
    → (path_cmp q (path_after q a) ≡ Less) ↔ (atom_cmp (atom_at list (get_or above (level a) 0)) a ≡ Less)
header_beside list q above datum a opened header below =
    let h = opened.stand (level a) below in
    let same = get_or_from_slice_get list (get_or above (level a) 0) h.0 [] h.1.0 in
    let here = later_place (level a) q a h.0 h.1.1 in
    let path = header_path q a header in (
      λ later. subst (λ x. atom_cmp x a ≡ Less) (sym same) (here.0 (subst (λ p. path_cmp q p ≡ Less) path later)),
      λ less. subst (λ p. path_cmp q p ≡ Less) (sym path) (here.1 (subst (λ x. atom_cmp x a ≡ Less) same less)),
    )

pub header_opens : (list : List Atom) (q : Path) (above : List ℕ) (datum : Option ℕ) (at : ℕ) (a : Atom) → IsOpenPath list q above datum → is_header a ≡ true → level a ≤ length above → level a < 16
    → slice_get list at ≡ Some a → IsOpenPath list (path_after q a) (take (level a) above ++ at ∷ []) None
header_opens list q above datum at a opened header upto few there =
    let n = level a in
    let kept = take n above in
    let q_long = header_count-length q in
    let number = opened.number in
    let path = header_path q a header in
    let kept_long : length kept ≡ n = length-take-le n above upto in
    let long : length (kept ++ at ∷ []) ≡ n + 1 = omega (arith, length_push kept at) in
    record {
      number = long ∙ sym (next_bound q a (λ e. omega arith) ∙ ap (λ b. cond b (n + 1) (header_count q)) header);
      few = omega arith;
      stand = λ k below. elim (cases_lt k n) [
        | inl less ↦ (
            let h = opened.stand k (omega arith) in (
              h.0,
              (
                subst (λ p. slice_get list p ≡ Some h.0) (sym (get_or_append_left kept (at ∷ []) 0 k (omega arith) ∙ get_or-take n above k 0 less)) h.1.0,
                subst (λ p. slice_get p k ≡ Some h.0) (sym path) (place_below n k q a less (omega arith) ∙ h.1.1),
              ),
            )
            )
        | inr last ↦ (
            let same : k ≡ n = omega arith in (
              a,
              (
                subst (λ p. slice_get list p ≡ Some a) (sym (get_or_push kept at 0 k (kept_long ∙ sym same))) there,
                subst (λ p. slice_get p k ≡ Some a) (sym path) (ap (slice_get (take n q ++ a ∷ [])) same ∙ place_at n q a (omega arith)),
              ),
            )
            )
      ];
      behind = inl (subst (λ p. length p ≡ length (kept ++ at ∷ [])) (sym path) (length_at n q a (omega arith) ∙ sym long));
    }

-- ---- what the kind of an atom says of it

pub told_datum : (a : Atom) → TellsKind a Datum → (payload : List ℕ) × (a ≡ 0 ∷ payload)
told_datum a (f, is) = by f.kind f.spelled is
  where
    by : (k : PlainKind) → a ≡ atom_of k → outer_kind k ≡ Datum → (payload : List ℕ) × (a ≡ 0 ∷ payload)
    by PlainMarker e is = absurd (cc is)
    by (PlainDatum payload) e is = (payload, e)
    by (PlainIndexed l n) e is = absurd (cc is)
    by (PlainKeyed l key) e is = absurd (cc is)

pub told_marker : (a : Atom) → TellsKind a Marker → a ≡ []
told_marker a (f, is) = by f.kind f.spelled is
  where
    by : (k : PlainKind) → a ≡ atom_of k → outer_kind k ≡ Marker → a ≡ []
    by PlainMarker e is = e
    by (PlainDatum payload) e is = absurd (cc is)
    by (PlainIndexed l n) e is = absurd (cc is)
    by (PlainKeyed l key) e is = absurd (cc is)

header_of : (a : Atom) (n first : ℕ) (rest : List ℕ) → HasKind a → n < 16 → a ≡ first ∷ rest → 128 ≤ first → (255 - first) / 8 ≡ n → IsHeaderOf a n
header_of a n first rest f few e high is = record {
  kind = f;
  header = ap is_header e ∙ le-leb 128 first high;
  level = ap level e ∙ is;
  few = few;
}

pub told_indexed : (a : Atom) (n number : ℕ) → TellsKind a (Indexed n number) → IsHeaderOf a n
told_indexed a n number (f, is) = by f.kind f.spelled f.fits is
  where
    by : (k : PlainKind) → a ≡ atom_of k → IsKind k → outer_kind k ≡ Indexed n number → IsHeaderOf a n
    by PlainMarker e fits is = absurd (cc is)
    by (PlainDatum payload) e fits is = absurd (cc is)
    by (PlainIndexed l m) e fits is = let same : l ≡ n = cc is in header_of a n (248 - 8 * l) _ f (let b = fits.0 in omega arith) e (let b = fits.0 in omega arith) (let b = fits.0 in omega arith)
    by (PlainKeyed l key) e fits is = absurd (cc is)

pub told_keyed : (a : Atom) (n : ℕ) → TellsKind a (Keyed n) → IsHeaderOf a n
told_keyed a n (f, is) = by f.kind f.spelled f.fits is
  where
    by : (k : PlainKind) → a ≡ atom_of k → IsKind k → outer_kind k ≡ Keyed n → IsHeaderOf a n
    by PlainMarker e fits is = absurd (cc is)
    by (PlainDatum payload) e fits is = absurd (cc is)
    by (PlainIndexed l m) e fits is = absurd (cc is)
    by (PlainKeyed l key) e fits is = let same : l ≡ n = cc is in header_of a n (249 - 8 * l) key f (omega arith) e (omega arith) (omega arith)

-- ---- a datum, where it is

-- It may be there where it is greater than the datum before it, and comes out of order otherwise.
pub datum_follows : (list : List Atom) (q : Path) (above : List ℕ) (datum : Option ℕ) (a : Atom) → IsOpenPath list q above datum → (payload : List ℕ) × (a ≡ 0 ∷ payload)
    → ((place : ℕ) → datum ≡ Some place → atom_cmp (atom_at list place) a ≡ Less) → MayStandBehind q a
datum_follows list q above datum a opened (payload, is) less =
    subst (MayStandBehind q) (sym is) (record {
      kind = record { kind = PlainDatum payload; fits = tt; spelled = refl };
      level = λ e. cc;
      later = datum_later list q above datum payload opened (λ place at. subst (λ x. atom_cmp (atom_at list place) x ≡ Less) is (less place at));
    })

pub datum_wrong : (list : List Atom) (q : Path) (above : List ℕ) (datum : Option ℕ) (a : Atom) → IsOpenPath list q above datum → (payload : List ℕ) × (a ≡ 0 ∷ payload)
    → (((place : ℕ) → datum ≡ Some place → atom_cmp (atom_at list place) a ≡ Less) → ⊥) → IsWrong OutOfOrder q a
datum_wrong list q above datum a opened (payload, is) not_less =
    subst (IsWrong OutOfOrder q) (sym is) (
      record { kind = PlainDatum payload; fits = tt; spelled = refl },
      λ jump. cc (jump.0),
      λ later. not_less (λ place at. subst (λ x. atom_cmp (atom_at list place) x ≡ Less) (sym is) (datum_is_less list q above datum payload opened later place at)),
    )

pub datum_taken : (list : List Atom) (q : Path) (above : List ℕ) (datum : Option ℕ) (at : ℕ) → IsOpenPath list q above datum → at < length list → (payload : List ℕ) × (atom_at list at ≡ 0 ∷ payload)
    → IsOpenPath list (path_after q (atom_at list at)) above (Some at)
datum_taken list q above datum at opened within (payload, is) =
    subst (λ a. IsOpenPath list (path_after q a) above (Some at)) (sym is) (datum_opens list q above datum at payload opened (slice_get-get_or list at [] within ∙ ap Some is))

-- ---- a header, where it is

pub header_wrong : (list : List Atom) (q : Path) (above : List ℕ) (datum : Option ℕ) (a : Atom) (n : ℕ) → IsOpenPath list q above datum → IsHeaderOf a n → n < length above
    → (atom_cmp (atom_at list (get_or above n 0)) a ≡ Less → ⊥) → IsWrong OutOfOrder q a
header_wrong list q above datum a n opened header below not_less =
    let at_level : level a < length above = (let l = header.level in omega arith) in (
      header.kind,
      λ jump. (let l = header.level in let m = opened.number in let j = jump.1 in absurd (omega arith)),
      λ later. not_less (subst (λ k. atom_cmp (atom_at list (get_or above k 0)) a ≡ Less) header.level ((header_beside list q above datum a opened header.header at_level).0 later)),
    )

pub header_follows : (list : List Atom) (q : Path) (above : List ℕ) (datum : Option ℕ) (a : Atom) (n : ℕ) → IsOpenPath list q above datum → IsHeaderOf a n → n ≤ length above
    → (n < length above → atom_cmp (atom_at list (get_or above n 0)) a ≡ Less) → MayStandBehind q a
header_follows list q above datum a n opened header upto less = record {
  kind = header.kind;
  level = λ e. (let l = header.level in let m = opened.number in omega arith);
  later = elim (cases_lt n (length above)) [
    | inl below ↦ (
        let at_level : level a < length above = (let l = header.level in omega arith) in
        (header_beside list q above datum a opened header.header at_level).1 (subst (λ k. atom_cmp (atom_at list (get_or above k 0)) a ≡ Less) (sym header.level) (less below))
        )
    | inr last ↦ header_below list q above datum a opened header.header (let l = header.level in omega arith)
  ];
}

pub header_taken : (list : List Atom) (q : Path) (above : List ℕ) (datum : Option ℕ) (at n : ℕ) → IsOpenPath list q above datum → at < length list → IsHeaderOf (atom_at list at) n → n ≤ length above
    → IsOpenPath list (path_after q (atom_at list at)) (take n above ++ at ∷ []) None
header_taken list q above datum at n opened within header upto =
    subst (λ k. IsOpenPath list (path_after q (atom_at list at)) (take k above ++ at ∷ []) None) header.level
    (header_opens list q above datum at (atom_at list at) opened header.header (let l = header.level in omega arith) (let l = header.level in let f = header.few in omega arith) (slice_get-get_or list at [] within))
