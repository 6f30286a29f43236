-- Keys after a path: what is below each, up to a place.
use Rattle.std.proofs.Common.{◌≡◌, ℕ, ◌+◌, ◌<◌, inl, inr, List, length, Ordering, Less, Equal, Greater, refl, sym, ap, ◌∙◌, subst, arith}
use Rattle.std.specs.Ordering.{ordering_reverse}
use Rattle.std.proofs.lemmas.Bool.{cases_order}
use Rattle.context_model.specs.Atoms.{Atom}
use Rattle.context_model.specs.Kinds.{atom_of}
use Rattle.context_model.specs.Kinds.Kind.{Keyed}
use Rattle.context_model.specs.Orders.{Path, atom_cmp}
use Rattle.context_model.specs.Paths.{is_header, level, atom_at, path_at}
use Rattle.context_model.proofs.OrderLaws.{atoms_total, atoms_anti}
use Rattle.bag_walks.specs.Parts.{IsBehind, StaysBelow, IsSegment, Stands}
use Rattle.bag_walks.proofs.Bridge.{headers_are, earlier_stands}
use Rattle.bag_walks.proofs.Sets.{key_header, key_back}
use Rattle.bag_walks.proofs.Turns.{stays_whole, segment_whole}
use Rattle.bag_scan.specs.Searches.{PassesNoKey, IsKeyFound, HasNoKey}
use Rattle.bag_scan.proofs.KeyTurns.{KeyTurn, key_turn}
use Rattle.bag_typed.specs.Walk.{HasNone, IsFirstOfPaths}
use Rattle.bag_typed.proofs.Orders.{StandsUnder, no_greater_before, header_of_under}

-- The header of a key after q.
abbrev pub key_at : Path → List ℕ → Atom
key_at q key = atom_of (Keyed (length q) key)

-- One of the paths that belong to some key.
abbrev pub OfSomeKey : (List ℕ → Path → Type 0) → Path → Type 0
OfSomeKey M p = (key : List ℕ) × M key p

-- A walk below q has come from the first place to the second, and the list has none of the paths of
-- the keys whose headers are there.
pub record ClearsKeys (M : List ℕ → Path → Type 0) (list : List Atom) (q : Path) (from to : ℕ) : Type 0 where
  pub stays : StaysBelow list (length q) from to
  pub clear : (key : List ℕ) → Stands list (key_at q key) from to → HasNone list (M key)

-- What is known of the next key, whose header is right before a place.
pub record ClearTurn (M : List ℕ → Path → Type 0) (list : List Atom) (q : Path) (from depth place : ℕ) (key : List ℕ) (start : ℕ) : Type 0 where
  pub its : KeyTurn list q from depth place key start
  pub more : (next : ℕ) → HasNone list (M key) → IsSegment list (depth + 1) start next → ClearsKeys M list q from next
  pub fault : (first : ℕ) → IsFirstOfPaths list (M key) first → IsFirstOfPaths list (OfSomeKey M) first

module _ (M : List ℕ → Path → Type 0) (list : List Atom) (q : Path) (from : ℕ) where
  -- There is no other key on the way to the next one.
  keys_passed : (at to : ℕ) → ClearsKeys M list q from at → PassesNoKey list (length q) at to → ClearsKeys M list q from to
  keys_passed at to clears passes = record {
    stays = stays_whole list (length q) from at to clears.stays passes.stays;
    clear = λ key s. elim (cases_order s.place at) [
      | inl same ↦ absurd (passes.none s.place key (omega arith) s.up_to s.atom)
      | inr (inl before) ↦ clears.clear key (record { place = s.place; from_on = s.from_on; up_to = before; atom = s.atom })
      | inr (inr after) ↦ absurd (passes.none s.place key (omega arith) s.up_to s.atom)
    ];
  }

  module _ (behind : IsBehind list q from) (few : length q < 16) (under : (key : List ℕ) (p : Path) → M key p → StandsUnder q (key_at q key) p) where
    -- Where a walk has come to the end of what is below q, the list has no such path.
    keys_end : (stop : ℕ) → ClearsKeys M list q from stop → IsSegment list (length q) from stop → HasNone list (OfSomeKey M)
    keys_end stop clears segment = record {
      none = λ k within (key, m).
          let header = key_header (length q) key few in
          let s : Stands list (key_at q key) from stop = (headers_are list q from stop (key_at q key) behind segment header.0 header.1).0
          (header_of_under list q (key_at q key) k within (under key (path_at list k) m)) in
          (clears.clear key s).none k within m;
    }

    module _ (place : ℕ) (key : List ℕ) (start : ℕ) (clears : ClearsKeys M list q from place) (turn : KeyTurn list q from (length q) place key start) where
      abbrev at : ℕ
      at = turn.found.place

      come : ClearsKeys M list q from at
      come = keys_passed place at clears turn.found.before

      -- The key and all below it is clear, so the walk goes on after it.
      keys_more : (next : ℕ) → HasNone list (M key) → IsSegment list (length q + 1) start next → ClearsKeys M list q from next
      keys_more next none segment = record {
        stays = turn.past next segment;
        clear = λ other s. elim (cases_order s.place at) [
          | inl same ↦ subst (λ x. HasNone list (M x)) (key_back (length q) key other (sym turn.found.is ∙ ap (atom_at list) (sym same) ∙ s.atom)) none
          | inr (inl before) ↦ come.clear other (record { place = s.place; from_on = s.from_on; up_to = before; atom = s.atom })
          | inr (inr after) ↦ absurd (deeper other s after)
        ];
      }
        where
          deeper : (other : List ℕ) (s : Stands list (key_at q other) from next) → at < s.place → ⊥
          deeper other s after =
              let head = key_header (length q) other few in
              let deep = segment.part.deep s.place (omega (arith, after, turn.found.next)) s.up_to (ap is_header s.atom ∙ head.0) in
              let same : level (atom_at list s.place) ≡ length q = ap level s.atom ∙ head.1 in
              absurd (omega (arith, deep, same))

      -- The first of this key's paths that the list has is the first of all keys'.
      keys_fault : (first : ℕ) → IsFirstOfPaths list (M key) first → IsFirstOfPaths list (OfSomeKey M) first
      keys_fault first fault = record {
        within = fault.within;
        is = (key, fault.is);
        first = λ k less (other, m). by k less other m (atom_cmp (key_at q other) (key_at q key)) refl;
      }
        where
          by : (k : ℕ) → k < first → (other : List ℕ) → M other (path_at list k) → (o : Ordering) → atom_cmp (key_at q other) (key_at q key) ≡ o → ⊥
          by k less other m Less e =
              let head = key_header (length q) key few in
              let inner : k < length list = omega (arith, less, fault.within) in
              let own : level (atom_at list at) ≡ length q = ap level turn.found.is ∙ head.1 in
              let s : Stands list (key_at q other) from at = earlier_stands list q from at (key_at q other) behind turn.come
              (λ here. (ap is_header turn.found.is ∙ head.0, omega (arith, own), λ same. subst (λ a. atom_cmp (key_at q other) a ≡ Less) (sym turn.found.is) e))
              (header_of_under list q (key_at q other) k inner (under other (path_at list k) m)) in
              (come.clear other s).none k inner m
          by k less other m Equal e =
              let same : other ≡ key = key_back (length q) other key (atoms_anti (key_at q other) (key_at q key) e) in
              fault.first k less (subst (λ x. M x (path_at list k)) same m)
          by k less other m Greater e =
              no_greater_before list q (key_at q key) (key_at q other) k first behind.well_formed fault.within (under key (path_at list first) fault.is)
              (under other (path_at list k) m) (atoms_total.antisymm (key_at q key) (key_at q other) ∙ ap ordering_reverse e) less

      own_turn : ClearTurn M list q from (length q) place key start
      own_turn = record { its = turn; more = keys_more; fault = keys_fault }

-- ---- one turn of a walk over the keys

module _ (M : List ℕ → Path → Type 0) (list : List Atom) (q : Path) (from depth : ℕ) (same : length q ≡ depth) (behind : IsBehind list q from) (few : depth < 16)
    (under : (key : List ℕ) (p : Path) → M key p → StandsUnder q (key_at q key) p) (place : ℕ) (clears : ClearsKeys M list q from place) where
  -- There is no further key.
  pub key_end : (stop : ℕ) → HasNoKey list depth place stop → HasNone list (OfSomeKey M)
  key_end stop none =
      let own : HasNoKey list (length q) place stop = subst (λ d. HasNoKey list d place stop) (sym same) none in
      keys_end M list q from behind (omega arith) under stop (keys_passed M list q from place stop clears own.before) (segment_whole list (length q) from place stop clears.stays own.segment)

  pub clear_turn : (key : List ℕ) (start : ℕ) → IsKeyFound list depth place key start → ClearTurn M list q from depth place key start
  clear_turn key start =
      subst (λ d. d < 16 → IsKeyFound list d place key start → ClearTurn M list q from d place key start) same
      (λ room found. own_turn M list q from behind room under place key start clears (key_turn list q from (length q) place refl room behind clears.stays key start found)) few
