-- The keys and the fields of a part, by the places of their headers.
use Rattle.std.proofs.Common.{◌≡◌, ◌⊎◌, inl, inr, ◌↔◌, ℕ, zero, suc, ◌+◌, ◌-◌, ◌*◌, ◌<◌, ◌≤◌, Bool, true, false, ◌==◌, if◌then◌else◌, List, [], ◌∷◌, ◌++◌, length, Less, refl, sym, ap, ◌∙◌, subst, le_refl, eq-eqb, length-append, append_assoc, arith}
use Rattle.std.specs.List.{slice_range}
use Rattle.std.specs.Str.{bytes_eq}
use Rattle.std.proofs.lemmas.Bool.{cases_order}
use Rattle.std.proofs.lemmas.Bool.Decides.{nat_tests}
use Rattle.std.proofs.lemmas.Slice.Eq.{bytes_eq-Decides}
use Rattle.context_model.specs.Atoms.{Atom}
use Rattle.context_model.specs.KeyedMerge.{keys_of, EachPair}
use Rattle.context_model.specs.Kinds.{atom_of}
use Rattle.context_model.specs.Kinds.Kind.{Indexed, Keyed}
use Rattle.context_model.specs.Orders.{Path, atom_cmp, IsIn, Rises}
use Rattle.context_model.specs.Paths.{is_header, level, atom_at}
use Rattle.bag_model.specs.Readings.{PathsOf, datum_path, key_path, node_path}
use Rattle.bag_walks.specs.Parts.{IsBehind, HasNoHeader, IsDataPart, IsSegment, Stands}
use Rattle.bag_walks.proofs.Absent.{IsBare}
use Rattle.bag_walks.proofs.Bridge.{data_are, headers_are, none_below}
use Rattle.bag_walks.proofs.Gathering.{header_before, same_first}
use Rattle.bag_walks.proofs.Inside.{inside_along, child_behind}
use Rattle.bag_walks.proofs.Sets.{key_header, index_header}
use Rattle.place_calls.specs.Telling.{data_of, below, below_keys, below_field}
use Rattle.place_calls.proofs.PartPlaces.{part_over, part_step, rises_front, stands_later, stands_split, DataUpTo, data_up_to, BelowUpTo, below_up_to}

-- The part is below the header with the path q.
pub record IsThere (list : List Atom) (q : Path) (part : List Atom) : Type 0 where
  pub from : ℕ
  pub stop : ℕ
  pub behind : IsBehind list q from
  pub segment : IsSegment list (length q) from stop
  pub is : part ≡ slice_range list from stop

-- It is what is below the path q: below its header, or nothing where there is none.
abbrev pub IsPart : List Atom → Path → List Atom → Type 0
IsPart list q part = IsThere list q part ⊎ (IsBare (PathsOf list) q × (part ≡ []))

-- ---- data

-- These are the payloads of the data at q, in order.
pub record HasData (P : Path → Type 0) (q : Path) (payloads : List (List ℕ)) : Type 0 where
  pub holds : (x : List ℕ) → IsIn x payloads ↔ P (datum_path q x)
  pub rises : Rises atom_cmp payloads

no_header_less : (list : List Atom) (q : Path) (from stop : ℕ) → IsBehind list q from → IsSegment list (length q) from stop → HasData (PathsOf list) q (data_of (slice_range list from stop))
no_header_less list q from stop behind segment =
    let found : DataUpTo list stop from = data_up_to list stop behind.well_formed segment.part.within (stop - from) from (omega (arith, segment.part.rises)) in
    let its : IsDataPart list from found.end = record { part = found.part; ends = λ inside. ends found (cases_order found.end stop) inside } in
    record {
      holds = λ x. (λ i. (data_are list q from found.end x behind its).1 ((found.holds x).0 i), λ p. (found.holds x).1 ((data_are list q from found.end x behind its).0 p));
      rises = found.order q from behind (none_yet behind.within);
    }
  where
    ends : (found : DataUpTo list stop from) → (found.end ≡ stop) ⊎ ((found.end < stop) ⊎ (stop < found.end)) → found.end < length list → is_header (atom_at list found.end) ≡ true
    ends found (inl same) inside = subst (λ k. is_header (atom_at list k) ≡ true) (sym same) (segment.ends (omega (arith, same, inside))).0
    ends found (inr (inl before)) inside = found.ends before
    ends found (inr (inr after)) inside = absurd (omega (arith, found.upto, after))

    none_yet : from ≤ length list → HasNoHeader list from from
    none_yet within = record { rises = le_refl from; within = within; none = λ j l m. absurd (omega arith) }

pub data_facts : (list : List Atom) (q : Path) (part : List Atom) → IsPart list q part → HasData (PathsOf list) q (data_of part)
data_facts list q part (inl its) = subst (λ l. HasData (PathsOf list) q (data_of l)) (sym its.is) (no_header_less list q its.from its.stop its.behind its.segment)
data_facts list q part (inr (bare, none)) = subst (λ l. HasData (PathsOf list) q (data_of l)) (sym none) (record {
  holds = λ x. (λ i. absurd i, λ p. absurd (bare ((0 ∷ x) ∷ []) p));
  rises = tt;
})

-- ---- what is below a header of the level right below q

-- From a place on, where all headers of q are open.
module _ (list : List Atom) (q : Path) (from stop : ℕ) (behind : IsBehind list q from) (segment : IsSegment list (length q) from stop) where
  child_part : (k : ℕ) → from ≤ k → k < stop → is_header (atom_at list k) ≡ true → level (atom_at list k) ≡ length q → IsPart list (q ++ atom_at list k ∷ []) (below (length q) (slice_range list (k + 1) stop))
  child_part k later less header own =
      let b : BelowUpTo list stop (length q) (k + 1) = below_up_to list stop (length q) segment.part.within (stop - (k + 1)) (k + 1) (omega arith) in
      inl (record {
        from = k + 1;
        stop = b.end;
        behind = child_behind list q k behind.well_formed behind.headers (omega (arith, segment.part.within)) (inside_along list q from stop behind segment.part k later (omega arith)) header own;
        segment = subst (λ n. IsSegment list n (k + 1) b.end) (sym (length-append q (atom_at list k ∷ []))) (record {
          part = b.stays;
          ends = λ inside. ends b (cases_order b.end stop) inside;
        });
        is = b.is;
      })
    where
      ends : (b : BelowUpTo list stop (length q) (k + 1)) → (b.end ≡ stop) ⊎ ((b.end < stop) ⊎ (stop < b.end)) → b.end < length list → (is_header (atom_at list b.end) ≡ true) × (level (atom_at list b.end) < length q + 1)
      ends b (inl same) inside =
          let out = segment.ends (omega (arith, same, inside)) in
          subst (λ i. (is_header (atom_at list i) ≡ true) × (level (atom_at list i) < length q + 1)) (sym same) (out.0, omega (arith, out.1))
      ends b (inr (inl before)) inside = let out = b.ends before in (out.0, omega (arith, out.1))
      ends b (inr (inr after)) inside = absurd (omega (arith, b.upto, after))

-- ---- keys

eq_true : (b c : ℕ) → (b == c) ≡ true → b ≡ c
eq_true b c e = grind (arith, nat_tests)

eq_false : (b c : ℕ) → (b == c) ≡ false → b ≡ c → ⊥
eq_false b c e same = let clash : true ≡ false = sym (eq-eqb b c same) ∙ e in cc clash

-- An atom is the header of a key of this level, or it isn't.
keyed_step : (n : ℕ) (a : Atom)
    → ((key : List ℕ) × (a ≡ atom_of (Keyed n key)) × ((part : List Atom) → below_keys n (a ∷ part) ≡ (key, below n part) ∷ below_keys n part))
    ⊎ (((key : List ℕ) → a ≡ atom_of (Keyed n key) → ⊥) × ((part : List Atom) → below_keys n (a ∷ part) ≡ below_keys n part))
keyed_step n [] = inr (λ key e. cc e, λ part. refl)
keyed_step n (b ∷ key) = by (b == 249 - 8 * n) refl
  where
    by : (t : Bool) → (b == 249 - 8 * n) ≡ t
        → ((own : List ℕ) × (b ∷ key ≡ atom_of (Keyed n own)) × ((part : List Atom) → below_keys n ((b ∷ key) ∷ part) ≡ (own, below n part) ∷ below_keys n part))
        ⊎ (((own : List ℕ) → b ∷ key ≡ atom_of (Keyed n own) → ⊥) × ((part : List Atom) → below_keys n ((b ∷ key) ∷ part) ≡ below_keys n part))
    by true e = inl (key, ap (λ c. c ∷ key) (eq_true b (249 - 8 * n) e), λ part. ap (λ t. if t then (key, below n part) ∷ below_keys n part else below_keys n part) e)
    by false e = inr (
      λ own is. eq_false b (249 - 8 * n) e (let first : b ≡ 249 - 8 * n = cc is in first),
      λ part. ap (λ t. if t then (key, below n part) ∷ below_keys n part else below_keys n part) e,
    )

-- These are the keys at q, in order, each with its part.
pub record HasKeys (list : List Atom) (q : Path) (keys : List (List ℕ × List Atom)) : Type 0 where
  pub holds : (key : List ℕ) → IsIn key (keys_of keys) ↔ PathsOf list (key_path q key)
  pub rises : Rises atom_cmp (keys_of keys)
  pub each : EachPair (λ key part. IsPart list (key_path q key) part) keys

-- The same from a place on.
record KeysFrom (list : List Atom) (q : Path) (stop k : ℕ) : Type 0 where
  holds : (key : List ℕ) → IsIn key (keys_of (below_keys (length q) (slice_range list k stop))) ↔ Stands list (atom_of (Keyed (length q) key)) k stop
  rises : Rises atom_cmp (keys_of (below_keys (length q) (slice_range list k stop)))
  each : EachPair (λ key part. IsPart list (key_path q key) part) (below_keys (length q) (slice_range list k stop))

module _ (list : List Atom) (q : Path) (from stop : ℕ) (few : length q < 16) (behind : IsBehind list q from) (segment : IsSegment list (length q) from stop) where
  keys_none : (k : ℕ) → k + 0 ≡ stop → KeysFrom list q stop k
  keys_none k e =
      let none : slice_range list k stop ≡ [] = part_over list k stop e in
      record {
        holds = λ key. (
          λ i. absurd (let none_in : ⊥ = subst (λ l. IsIn key (keys_of (below_keys (length q) l))) none i in none_in),
          λ s. absurd (omega (arith, s.from_on, s.up_to, e)),
        );
        rises = subst (λ l. Rises atom_cmp (keys_of (below_keys (length q) l))) (sym none) tt;
        each = subst (λ l. EachPair (λ key part. IsPart list (key_path q key) part) (below_keys (length q) l)) (sym none) tt;
      }

  module _ (k : ℕ) (later : from ≤ k) (less : k < stop) (rest : KeysFrom list q stop (k + 1)) where
    abbrev behind_part : List Atom
    behind_part = slice_range list (k + 1) stop

    keys_other : ((key : List ℕ) → atom_at list k ≡ atom_of (Keyed (length q) key) → ⊥) → below_keys (length q) (slice_range list k stop) ≡ below_keys (length q) behind_part → KeysFrom list q stop k
    keys_other other same = record {
      holds = λ key. (
        λ i. stands_later list (atom_of (Keyed (length q) key)) k stop ((rest.holds key).0 (subst (λ l. IsIn key (keys_of l)) same i)),
        λ s. subst (λ l. IsIn key (keys_of l)) (sym same) ((rest.holds key).1 (beyond key (stands_split list (atom_of (Keyed (length q) key)) k stop s))),
      );
      rises = subst (λ l. Rises atom_cmp (keys_of l)) (sym same) rest.rises;
      each = subst (EachPair (λ key part. IsPart list (key_path q key) part)) (sym same) rest.each;
    }
      where
        beyond : (key : List ℕ) → (atom_at list k ≡ atom_of (Keyed (length q) key)) ⊎ Stands list (atom_of (Keyed (length q) key)) (k + 1) stop → Stands list (atom_of (Keyed (length q) key)) (k + 1) stop
        beyond key (inl e) = absurd (other key e)
        beyond key (inr s) = s

    keys_more : (own : List ℕ) → atom_at list k ≡ atom_of (Keyed (length q) own) → below_keys (length q) (slice_range list k stop) ≡ (own, below (length q) behind_part) ∷ below_keys (length q) behind_part → KeysFrom list q stop k
    keys_more own is same = record {
      holds = λ key. (
        λ i. there key (subst (λ l. IsIn key (keys_of l)) same i),
        λ s. subst (λ l. IsIn key (keys_of l)) (sym same) (back key (stands_split list (atom_of (Keyed (length q) key)) k stop s)),
      );
      rises = subst (λ l. Rises atom_cmp (keys_of l)) (sym same) (rises_front own (keys_of (below_keys (length q) behind_part)) (λ y i. before y ((rest.holds y).0 i)) rest.rises);
      each = subst (EachPair (λ key part. IsPart list (key_path q key) part)) (sym same)
          (subst (λ a. IsPart list (q ++ a ∷ []) (below (length q) behind_part)) is (child_part list q from stop behind segment k later less header own_level), rest.each);
    }
      where
        header : is_header (atom_at list k) ≡ true
        header = ap is_header is ∙ (key_header (length q) own few).0

        own_level : level (atom_at list k) ≡ length q
        own_level = ap level is ∙ (key_header (length q) own few).1

        there : (key : List ℕ) → (key ≡ own) ⊎ IsIn key (keys_of (below_keys (length q) behind_part)) → Stands list (atom_of (Keyed (length q) key)) k stop
        there key (inl e) = record { place = k; from_on = le_refl k; up_to = less; atom = is ∙ ap (λ x. atom_of (Keyed (length q) x)) (sym e) }
        there key (inr i) = stands_later list (atom_of (Keyed (length q) key)) k stop ((rest.holds key).0 i)

        back : (key : List ℕ) → (atom_at list k ≡ atom_of (Keyed (length q) key)) ⊎ Stands list (atom_of (Keyed (length q) key)) (k + 1) stop → (key ≡ own) ⊎ IsIn key (keys_of (below_keys (length q) behind_part))
        back key (inl e) = inl (key_one key own (sym e ∙ is))
          where
            key_one : (x y : List ℕ) → atom_of (Keyed (length q) x) ≡ atom_of (Keyed (length q) y) → x ≡ y
            key_one x y e = cc e
        back key (inr s) = inr ((rest.holds key).1 s)

        before : (y : List ℕ) → Stands list (atom_of (Keyed (length q) y)) (k + 1) stop → atom_cmp own y ≡ Less
        before y s =
            sym (same_first (249 - 8 * length q) own y)
            ∙ ap (λ a. atom_cmp a (atom_of (Keyed (length q) y))) (sym is) ∙ ap (atom_cmp (atom_at list k)) (sym s.atom)
            ∙ header_before list q from stop k s.place behind segment.part later (omega (arith, s.from_on)) s.up_to header own_level
            (ap is_header s.atom ∙ (key_header (length q) y few).0) (ap level s.atom ∙ (key_header (length q) y few).1)

  keys_from : (m k : ℕ) → k + m ≡ stop → from ≤ k → KeysFrom list q stop k
  keys_from zero k e later = keys_none k e
  keys_from (suc m) k e later = by (keyed_step (length q) (atom_at list k)) (keys_from m (k + 1) (omega arith) (omega arith))
    where
      step : slice_range list k stop ≡ atom_at list k ∷ slice_range list (k + 1) stop
      step = part_step list k stop (omega arith) segment.part.within

      by : ((key : List ℕ) × (atom_at list k ≡ atom_of (Keyed (length q) key)) × ((part : List Atom) → below_keys (length q) (atom_at list k ∷ part) ≡ (key, below (length q) part) ∷ below_keys (length q) part))
          ⊎ (((key : List ℕ) → atom_at list k ≡ atom_of (Keyed (length q) key) → ⊥) × ((part : List Atom) → below_keys (length q) (atom_at list k ∷ part) ≡ below_keys (length q) part))
          → KeysFrom list q stop (k + 1) → KeysFrom list q stop k
      by (inl (key, is, same)) rest = keys_more k later (omega arith) rest key is (ap (below_keys (length q)) step ∙ same (slice_range list (k + 1) stop))
      by (inr (other, same)) rest = keys_other k later (omega arith) rest other (ap (below_keys (length q)) step ∙ same (slice_range list (k + 1) stop))

  keys_there : HasKeys list q (below_keys (length q) (slice_range list from stop))
  keys_there =
      let found : KeysFrom list q stop from = keys_from (stop - from) from (omega (arith, segment.part.rises)) (le_refl from) in
      record {
        holds = λ key.
            let are = headers_are list q from stop (atom_of (Keyed (length q) key)) behind segment (key_header (length q) key few).0 (key_header (length q) key few).1 in
            (λ i. are.1 ((found.holds key).0 i), λ p. (found.holds key).1 (are.0 p));
        rises = found.rises;
        each = found.each;
      }

  -- ---- fields

  module _ (number : ℕ) where
    abbrev h : Atom
    h = atom_of (Indexed (length q) number)

    abbrev NumberedFrom : ℕ → Type 0
    NumberedFrom k =
        IsPart list (q ++ h ∷ []) (below_field (length q) number (slice_range list k stop))
        ⊎ ((Stands list h k stop → ⊥) × (below_field (length q) number (slice_range list k stop) ≡ []))

    numbered_from : (m k : ℕ) → k + m ≡ stop → from ≤ k → NumberedFrom k
    numbered_from zero k e later = inr (λ s. omega (arith, s.from_on, s.up_to, e), ap (below_field (length q) number) (part_over list k stop e))
    numbered_from (suc m) k e later = by (bytes_eq (atom_at list k) h) refl (numbered_from m (k + 1) (omega arith) (omega arith))
      where
        step : (t : Bool) → bytes_eq (atom_at list k) h ≡ t
            → below_field (length q) number (slice_range list k stop) ≡ (if t then below (length q) (slice_range list (k + 1) stop) else below_field (length q) number (slice_range list (k + 1) stop))
        step t is =
            ap (below_field (length q) number) (part_step list k stop (omega arith) segment.part.within)
            ∙ ap (λ t. if t then below (length q) (slice_range list (k + 1) stop) else below_field (length q) number (slice_range list (k + 1) stop)) is

        by : (t : Bool) → bytes_eq (atom_at list k) h ≡ t → NumberedFrom (k + 1) → NumberedFrom k
        by true is rest =
            let same : atom_at list k ≡ h = (bytes_eq-Decides (atom_at list k) h).0 is in
            inl (subst (IsPart list (q ++ h ∷ [])) (sym (step true is)) (subst (λ a. IsPart list (q ++ a ∷ []) (below (length q) (slice_range list (k + 1) stop))) same
            (child_part list q from stop behind segment k later (omega arith) (ap is_header same ∙ (index_header (length q) number few).0) (ap level same ∙ (index_header (length q) number few).1))))
        by false is (inl found) = inl (subst (IsPart list (q ++ h ∷ [])) (sym (step false is)) found)
        by false is (inr (none, empty)) = inr (λ s. beyond (stands_split list h k stop s), step false is ∙ empty)
          where
            beyond : (atom_at list k ≡ h) ⊎ Stands list h (k + 1) stop → ⊥
            beyond (inl same) = let clash : true ≡ false = sym ((bytes_eq-Decides (atom_at list k) h).1 same) ∙ is in cc clash
            beyond (inr s) = none s

    field_there : IsPart list (node_path q number) (below_field (length q) number (slice_range list from stop))
    field_there = by (numbered_from (stop - from) from (omega (arith, segment.part.rises)) (le_refl from))
      where
        by : NumberedFrom from → IsPart list (node_path q number) (below_field (length q) number (slice_range list from stop))
        by (inl found) = found
        by (inr (none, empty)) = inr (
          none_below list q h (λ i. none ((headers_are list q from stop h behind segment (index_header (length q) number few).0 (index_header (length q) number few).1).0 i)),
          empty,
        )

pub key_facts : (list : List Atom) (q : Path) (part : List Atom) → length q < 16 → IsPart list q part → HasKeys list q (below_keys (length q) part)
key_facts list q part few (inl its) = subst (λ l. HasKeys list q (below_keys (length q) l)) (sym its.is) (keys_there list q its.from its.stop few its.behind its.segment)
key_facts list q part few (inr (bare, none)) = subst (λ l. HasKeys list q (below_keys (length q) l)) (sym none) (record {
  holds = λ key. (λ i. absurd i, λ p. absurd (bare (atom_of (Keyed (length q) key) ∷ []) p));
  rises = tt;
  each = tt;
})

pub field_facts : (list : List Atom) (q : Path) (part : List Atom) (number : ℕ) → length q < 16 → IsPart list q part → IsPart list (node_path q number) (below_field (length q) number part)
field_facts list q part number few (inl its) = subst (λ l. IsPart list (node_path q number) (below_field (length q) number l)) (sym its.is) (field_there list q its.from its.stop few its.behind its.segment number)
field_facts list q part number few (inr (bare, none)) = inr (
  λ r i. bare (atom_of (Indexed (length q) number) ∷ r) (subst (PathsOf list) (append_assoc q (atom_of (Indexed (length q) number) ∷ []) r) i),
  ap (below_field (length q) number) none,
)
