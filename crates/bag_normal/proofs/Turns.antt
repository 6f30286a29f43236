-- One turn of a walk over the wanted headers of one level after a path: the next is found, or there
-- is none.
use Rattle.std.proofs.Common.{◌≡◌, ◌⊎◌, inl, inr, ◌↔◌, ℕ, ◌+◌, ◌<◌, ◌≤◌, true, List, [], ◌∷◌, ◌++◌, length, refl, sym, ap, ◌∙◌, subst, arith}
use Rattle.std.proofs.lemmas.Bool.{cases_order}
use Rattle.context_model.specs.Atoms.{Atom}
use Rattle.context_model.specs.Orders.{Path}
use Rattle.context_model.specs.Paths.{is_header, level, atom_at}
use Rattle.bag_model.specs.Readings.{PathsOf}
use Rattle.bag_walks.specs.Parts.{IsBehind, StaysBelow, IsSegment, Stands}
use Rattle.bag_walks.proofs.Bridge.{headers_are}
use Rattle.bag_walks.proofs.Sets.{stands_on}
use Rattle.bag_walks.proofs.Turns.{stays_whole, stays_past, segment_whole, header_below}
use Rattle.bag_normal.specs.Data.{AddsPlaces}
use Rattle.bag_normal.proofs.Places.{adds_both, adds_same}

-- From the first place up to the second there is no wanted header, and no header of a lesser level.
pub record PassesNone (W : Atom → Type 0) (list : List Atom) (depth from to : ℕ) : Type 0 where
  pub stays : StaysBelow list depth from to
  pub none : (k : ℕ) → from ≤ k → k < to → W (atom_at list k) → ⊥

-- P holds of the place after some wanted header that is from the first place up to the second.
pub record HoldsAtPassed (W : Atom → Type 0) (P : Atom → ℕ → Type 0) (list : List Atom) (from to place : ℕ) : Type 0 where
  pub header : Atom
  pub wanted : W header
  pub stands : Stands list header from to
  pub holds : P header place

-- It holds of the place after some wanted header.
pub record HoldsAtWanted (W : Atom → Type 0) (P : Atom → ℕ → Type 0) (place : ℕ) : Type 0 where
  pub header : Atom
  pub wanted : W header
  pub holds : P header place

-- What was added at the wanted headers up to a place.
pub record AddsBehind (W : Atom → Type 0) (P : Atom → ℕ → Type 0) (list : List Atom) (depth from to : ℕ) (before after : List ℕ) : Type 0 where
  pub stays : StaysBelow list depth from to
  pub adds : AddsPlaces (HoldsAtPassed W P list from to) before after

module _ (W : Atom → Type 0) (P : Atom → ℕ → Type 0) (list : List Atom) (q : Path) (depth from at : ℕ) (own : length q ≡ depth)
    (at_level : (h : Atom) → W h → (is_header h ≡ true) × (level h ≡ depth)) (behind : IsBehind list q from) (before gone : List ℕ) (come : AddsBehind W P list depth from at before gone) where
  -- ---- the next wanted header is at a place

  module _ (place : ℕ) (passed : PassesNone W list depth at place) (within : place < length list) (wanted : W (atom_at list place)) where
    stays : StaysBelow list depth from place
    stays = stays_whole list depth from at place come.stays passed.stays

    its_level : level (atom_at list place) ≡ depth
    its_level = (at_level (atom_at list place) wanted).1

    -- The place after it is after its path.
    pub header_below_own : IsBehind list (q ++ atom_at list place ∷ []) (place + 1)
    header_below_own = header_below list q from place (atom_at list place) behind (subst (λ d. StaysBelow list d from place) (sym own) stays) within refl (at_level (atom_at list place) wanted).0 (its_level ∙ sym own)

    module _ (next : ℕ) (deep : StaysBelow list (depth + 1) (place + 1) next) where
      stays_next : StaysBelow list depth from next
      stays_next = stays_past list depth from place next stays within its_level deep

      -- A wanted header up to the next place is an earlier one, or this.
      split : (p : ℕ) → (HoldsAtPassed W P list from at p ⊎ P (atom_at list place) p) ↔ HoldsAtPassed W P list from next p
      split p = (there, back)
        where
          there : HoldsAtPassed W P list from at p ⊎ P (atom_at list place) p → HoldsAtPassed W P list from next p
          there (inl s) = record { header = s.header; wanted = s.wanted; stands = stands_on list s.header from at next (omega (arith, passed.stays.rises, deep.rises)) s.stands; holds = s.holds }
          there (inr holds) = record {
            header = atom_at list place;
            wanted = wanted;
            stands = record { place = place; from_on = stays.rises; up_to = omega (arith, deep.rises); atom = refl };
            holds = holds;
          }

          back : HoldsAtPassed W P list from next p → HoldsAtPassed W P list from at p ⊎ P (atom_at list place) p
          back s = elim (cases_order s.stands.place place) [
            | inl same ↦ inr (subst (λ h. P h p) (sym s.stands.atom ∙ ap (atom_at list) same) s.holds)
            | inr (inl less) ↦ elim (cases_order s.stands.place at) as (λ v. HoldsAtPassed W P list from at p ⊎ P (atom_at list place) p) [
              | inl same ↦ absurd (passed.none s.stands.place (omega (arith, same)) less (subst W (sym s.stands.atom) s.wanted))
              | inr (inl early) ↦ inl (record { header = s.header; wanted = s.wanted; stands = record { place = s.stands.place; from_on = s.stands.from_on; up_to = early; atom = s.stands.atom }; holds = s.holds })
              | inr (inr late) ↦ absurd (passed.none s.stands.place (omega (arith, late)) less (subst W (sym s.stands.atom) s.wanted))
            ]
            | inr (inr more) ↦ absurd (
                let e = at_level s.header s.wanted in
                let d = deep.deep s.stands.place (omega (arith, more)) s.stands.up_to (ap is_header s.stands.atom ∙ e.0) in
                let lv : level (atom_at list s.stands.place) ≡ depth = ap level s.stands.atom ∙ e.1 in
                omega (arith, d, lv))
          ]

      -- What is added at this header is added to that at the earlier ones.
      pub headers_more : (after : List ℕ) → AddsPlaces (P (atom_at list place)) gone after → AddsBehind W P list depth from next before after
      headers_more after adds = record {
        stays = stays_next;
        adds = adds_same (λ p. HoldsAtPassed W P list from at p ⊎ P (atom_at list place) p) (HoldsAtPassed W P list from next) before after split
            (adds_both (HoldsAtPassed W P list from at) (P (atom_at list place)) before gone after come.adds adds);
      }

  -- ---- there is none

  module _ (stop : ℕ) (passed : PassesNone W list depth at stop) (segment : IsSegment list depth at stop) where
    -- Then what was added is all.
    pub headers_all : ((h : Atom) (p : ℕ) → W h → P h p → PathsOf list (q ++ h ∷ [])) → AddsPlaces (HoldsAtWanted W P) before gone
    headers_all below =
        adds_same (HoldsAtPassed W P list from at) (HoldsAtWanted W P) before gone
        (λ p. (λ s. record { header = s.header; wanted = s.wanted; holds = s.holds }, λ s. back p s)) come.adds
      where
        whole : IsSegment list (length q) from stop
        whole = subst (λ d. IsSegment list d from stop) (sym own) (segment_whole list depth from at stop come.stays segment)

        back : (p : ℕ) → HoldsAtWanted W P p → HoldsAtPassed W P list from at p
        back p s =
            let e = at_level s.header s.wanted in
            let stands : Stands list s.header from stop = (headers_are list q from stop s.header behind whole e.0 (e.1 ∙ sym own)).0 (below s.header p s.wanted s.holds) in
            record {
              header = s.header;
              wanted = s.wanted;
              stands = record {
                place = stands.place;
                from_on = stands.from_on;
                up_to = elim (cases_order stands.place at) [
                  | inl same ↦ absurd (passed.none stands.place (omega (arith, same)) stands.up_to (subst W (sym stands.atom) s.wanted))
                  | inr (inl early) ↦ early
                  | inr (inr late) ↦ absurd (passed.none stands.place (omega (arith, late)) stands.up_to (subst W (sym stands.atom) s.wanted))
                ];
                atom = stands.atom;
              };
              holds = s.holds;
            }
