-- One turn of a walk over the fields of a bag: the header of the next field is sought, and is there or not.
use Rattle.std.proofs.Common.{◌≡◌, ◌≢◌, ℕ, ◌+◌, ◌-◌, ◌*◌, ◌^◌, ◌<◌, ◌≤◌, true, List, [], ◌∷◌, ◌++◌, length, Ordering, Less, Equal, Greater, sym, refl, ap, ◌∙◌, subst, arith, inl, inr, le_refl}
use Rattle.std.specs.Ordering.{ordering_then}
use Rattle.std.specs.Cmp.{nat_cmp_is}
use Rattle.std.proofs.lemmas.Bool.{cases_order}
use Rattle.std.proofs.lemmas.Cmp.{tied_itself}
use Rattle.std.proofs.lemmas.List.{append-nil, length-append}
use Rattle.context_model.specs.Atoms.{Atom}
use Rattle.context_model.specs.Kinds.{atom_of}
use Rattle.context_model.specs.Kinds.Kind.{Indexed}
use Rattle.context_model.specs.Orders.{Path, atom_cmp}
use Rattle.context_model.specs.Paths.{is_header, level, atom_at, path_before}
use Rattle.context_model.specs.Varints.{unsigned_varint}
use Rattle.context_model.proofs.OrderLaws.{atoms_total, atoms_anti}
use Rattle.context_model.proofs.VarintLaws.{unsigned_varint-order}
use Rattle.bag_model.specs.Readings.{PathsOf}
use Rattle.bag_walks.specs.Parts.{IsBehind, StaysBelow, IsSegment, Stands}
use Rattle.bag_walks.specs.Searches.{HasPassed, IsSought}
use Rattle.bag_walks.proofs.Inside.{inside_along, child_behind}
use Rattle.bag_walks.proofs.Bridge.{earlier_stands, none_below}
use Rattle.bag_walks.proofs.Gathering.{same_first}
use Rattle.bag_walks.proofs.Absent.{IsBare}

-- The header of a lesser number comes first.
pub index_order : (n i j : ℕ) → i < j → j < 2 ^ 64 → atom_cmp (atom_of (Indexed n i)) (atom_of (Indexed n j)) ≡ Less
index_order n i j less few =
    same_first (248 - 8 * n) (unsigned_varint i) (unsigned_varint j)
    ∙ ap (λ l. atom_cmp l (unsigned_varint j)) (sym (append-nil (unsigned_varint i))) ∙ ap (atom_cmp (unsigned_varint i ++ [])) (sym (append-nil (unsigned_varint j)))
    ∙ unsigned_varint-order i j [] [] (omega arith) few ∙ ap (λ o. ordering_then o Equal) (sym (nat_cmp_is i j Less less))

-- ---- parts that follow one another

pub stays_whole : (list : List Atom) (depth from at to : ℕ) → StaysBelow list depth from at → StaysBelow list depth at to → StaysBelow list depth from to
stays_whole list depth from at to first second = record {
  rises = omega (arith, first.rises, second.rises);
  within = second.within;
  deep = λ k l m. elim (cases_order k at) [
    | inl same ↦ second.deep k (omega arith) m
    | inr (inl before) ↦ first.deep k l before
    | inr (inr after) ↦ second.deep k (omega arith) m
  ];
}

pub segment_whole : (list : List Atom) (depth from at to : ℕ) → StaysBelow list depth from at → IsSegment list depth at to → IsSegment list depth from to
segment_whole list depth from at to first second = record { part = stays_whole list depth from at to first second.part; ends = second.ends }

pub passed_whole : (list : List Atom) (depth : ℕ) (h : Atom) (from at to : ℕ) → HasPassed list depth h from at → HasPassed list depth h at to → HasPassed list depth h from to
passed_whole list depth h from at to first second = record {
  stays = stays_whole list depth from at to first.stays second.stays;
  passed = λ k l m. elim (cases_order k at) [
    | inl same ↦ second.passed k (omega arith) m
    | inr (inl before) ↦ first.passed k l before
    | inr (inr after) ↦ second.passed k (omega arith) m
  ];
}

pub sought_whole : (list : List Atom) (depth : ℕ) (h : Atom) (from at to : ℕ) → HasPassed list depth h from at → IsSought list depth h at to → IsSought list depth h from to
sought_whole list depth h from at to first second = record { before = passed_whole list depth h from at to first second.before; stops = second.stops }

-- What was passed for a header was passed for each greater one.
pub passed_further : (list : List Atom) (depth : ℕ) (h g : Atom) (from to : ℕ) → atom_cmp h g ≡ Less → HasPassed list depth h from to → HasPassed list depth g from to
passed_further list depth h g from to less before = record {
  stays = before.stays;
  passed = λ k l m header. let (deep, lesser) = before.passed k l m header in (deep, λ own. atoms_total.trans (atom_at list k) h g (lesser own) less);
}

-- Nothing was passed yet.
pub passed_none : (list : List Atom) (depth : ℕ) (h : Atom) (from : ℕ) → from ≤ length list → HasPassed list depth h from from
passed_none list depth h from within = record {
  stays = record { rises = le_refl from; within = within; deep = λ k l m. absurd (omega arith) };
  passed = λ k l m. absurd (omega arith);
}

pub stays_none : (list : List Atom) (depth from : ℕ) → from ≤ length list → StaysBelow list depth from from
stays_none list depth from within = record { rises = le_refl from; within = within; deep = λ k l m. absurd (omega arith) }

-- What stays below a level stays below each lesser one.
pub stays_higher : (list : List Atom) (depth less from to : ℕ) → less ≤ depth → StaysBelow list depth from to → StaysBelow list less from to
stays_higher list depth less from to l stays = record { rises = stays.rises; within = stays.within; deep = λ k m n header. let d = stays.deep k m n header in omega (arith, d) }

-- ---- a header of a level, and what is below it

-- Over the header itself all stays at its level.
pub stays_over : (list : List Atom) (depth from at : ℕ) → StaysBelow list depth from at → at < length list → level (atom_at list at) ≡ depth → StaysBelow list depth from (at + 1)
stays_over list depth from at stays within own = record {
  rises = omega (arith, stays.rises);
  within = omega (arith, within);
  deep = λ k l m header. elim (cases_order k at) [
    | inl same ↦ (let e : level (atom_at list k) ≡ depth = ap (λ n. level (atom_at list n)) same ∙ own in omega (arith, e))
    | inr (inl before) ↦ stays.deep k l before header
    | inr (inr after) ↦ absurd (omega (arith, m, after))
  ];
}

-- And so it does over all that is below the header.
pub stays_past : (list : List Atom) (depth from at next : ℕ) → StaysBelow list depth from at → at < length list → level (atom_at list at) ≡ depth → StaysBelow list (depth + 1) (at + 1) next
    → StaysBelow list depth from next
stays_past list depth from at next stays within own deep =
    stays_whole list depth from (at + 1) next (stays_over list depth from at stays within own) (stays_higher list (depth + 1) depth (at + 1) next (omega arith) deep)

-- The place after a header of the level of q is after q and the header.
pub header_below : (list : List Atom) (q : Path) (from at : ℕ) (h : Atom) → IsBehind list q from → StaysBelow list (length q) from at → at < length list → atom_at list at ≡ h → is_header h ≡ true → level h ≡ length q
    → IsBehind list (q ++ h ∷ []) (at + 1)
header_below list q from at h behind stays within there header own =
    subst (λ a. IsBehind list (q ++ a ∷ []) (at + 1)) there
    (child_behind list q at behind.well_formed behind.headers within (inside_along list q from at behind stays at stays.rises (le_refl at)) (ap is_header there ∙ header) (ap level there ∙ own))

-- One header more than q has is open there.
pub level_below : (list : List Atom) (q : Path) (depth place : ℕ) (h : Atom) → length q ≡ depth → IsBehind list (q ++ h ∷ []) place → length (path_before list place) ≡ depth + 1
level_below list q depth place h own below = ap length below.path ∙ length-append q (h ∷ []) ∙ (let e : length q + 1 ≡ depth + 1 = ap (λ n. n + 1) own in e)

module _ (list : List Atom) (q : Path) (from at to : ℕ) (h : Atom) (behind : IsBehind list q from) (header : is_header h ≡ true) (own : level h ≡ length q)
    (passed : HasPassed list (length q) h from at) (sought : IsSought list (length q) h at to) where
  abbrev whole : IsSought list (length q) h from to
  whole = sought_whole list (length q) h from at to passed sought

  -- ---- the header is there

  module _ (within : to < length list) (there : atom_at list to ≡ h) where
    -- The place after it is after its path.
    pub found_behind : IsBehind list (q ++ h ∷ []) (to + 1)
    found_behind = header_below list q from to h behind whole.before.stays within there header own

    pub found_path : path_before list (to + 1) ≡ q ++ h ∷ []
    found_path = found_behind.path

    -- After all that comes below it the walk has passed it for each greater header.
    pub found_next : (next : ℕ) (g : Atom) → atom_cmp h g ≡ Less → IsSegment list (length q + 1) (to + 1) next → HasPassed list (length q) g from next
    found_next next g less segment = passed_whole list (length q) g from (to + 1) next upto (record {
      stays = stays_higher list (length q + 1) (length q) (to + 1) next (omega arith) segment.part;
      passed = λ k l m e. let d = segment.part.deep k l m e in (omega (arith, d), λ same. absurd (omega (arith, d, same)));
    })
      where
        upto : HasPassed list (length q) g from (to + 1)
        upto = record {
          stays = stays_over list (length q) from to whole.before.stays within (ap level there ∙ own);
          passed = λ k l m e. elim (cases_order k to) [
            | inl same ↦ (let lv : level (atom_at list k) ≡ length q = ap (λ i. level (atom_at list i)) same ∙ ap level there ∙ own in
                (omega (arith, lv), λ own_level. ap (λ i. atom_cmp (atom_at list i) g) same ∙ ap (λ a. atom_cmp a g) there ∙ less))
            | inr (inl before) ↦ (passed_further list (length q) h g from to less whole.before).passed k l before e
            | inr (inr after) ↦ absurd (omega arith)
          ];
        }

    pub found_stays : (next : ℕ) → IsSegment list (length q + 1) (to + 1) next → StaysBelow list (length q) from next
    found_stays next segment = stays_past list (length q) from to next whole.before.stays within (ap level there ∙ own) segment.part

  -- ---- it isn't there

  module _ (other : to < length list → atom_at list to ≡ h → ⊥) where
    pub absent_next : (g : Atom) → atom_cmp h g ≡ Less → HasPassed list (length q) g from to
    absent_next g less = passed_further list (length q) h g from to less whole.before

    less_there : (here : to < length list) → atom_cmp h (atom_at list to) ≢ Greater → atom_cmp h (atom_at list to) ≡ Less
    less_there here most = by (atom_cmp h (atom_at list to)) refl
      where
        by : (o : Ordering) → atom_cmp h (atom_at list to) ≡ o → atom_cmp h (atom_at list to) ≡ Less
        by Less e = e
        by Equal e = absurd (other here (sym (atoms_anti h (atom_at list to) e)))
        by Greater e = absurd (most e)

    absent : PathsOf list (q ++ h ∷ []) → ⊥
    absent i =
        let s : Stands list h from to = earlier_stands list q from to h behind whole.before.stays
        (λ here. let (e, few, most) = whole.stops here in (e, few, λ same. less_there here (most same))) i in
        let (deep, lesser) = whole.before.passed s.place s.from_on s.up_to (ap is_header s.atom ∙ header) in
        let less : atom_cmp (atom_at list s.place) h ≡ Less = lesser (ap level s.atom ∙ own) in
        let tied : atom_cmp (atom_at list s.place) h ≡ Equal = ap (λ a. atom_cmp a h) s.atom ∙ tied_itself atoms_total h in
        let clash : Less ≡ Equal = sym less ∙ tied in
        cc

    -- There is nothing at its path or below.
    pub absent_bare : IsBare (PathsOf list) (q ++ h ∷ [])
    absent_bare = none_below list q h absent
