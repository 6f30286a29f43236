-- What a walk over the keys after a path has added: with the next key, and where there is none.
use Rattle.std.proofs.Common.{◌≡◌, ℕ, ◌+◌, ◌<◌, true, List, [], ◌∷◌, ◌++◌, length, refl, sym, ap, ◌∙◌, subst, arith}
use Rattle.context_model.specs.Atoms.{Atom}
use Rattle.context_model.specs.Kinds.{atom_of}
use Rattle.context_model.specs.Kinds.Kind.{Keyed}
use Rattle.context_model.specs.Orders.{Path}
use Rattle.context_model.specs.Paths.{is_header, level, path_before}
use Rattle.bag_model.specs.Readings.{PathsOf, key_path}
use Rattle.bag_walks.specs.Parts.{IsBehind, StaysBelow}
use Rattle.bag_walks.proofs.Sets.{key_header}
use Rattle.bag_scan.specs.Searches.{PassesNoKey, HasNoKey}
use Rattle.bag_scan.proofs.KeyTurns.{KeyTurn}
use Rattle.bag_normal.specs.Data.{AddsPlaces}
use Rattle.bag_normal.specs.Known.{HoldsAtKey}
use Rattle.bag_normal.proofs.Turns.{PassesNone, HoldsAtWanted, AddsBehind, headers_more, headers_all}
use Rattle.bag_normal.proofs.Places.{adds_same}

-- The header of a key of this level.
pub record IsKeyHeader (depth : ℕ) (header : Atom) : Type 0 where
  pub key : List ℕ
  pub is : header ≡ atom_of (Keyed depth key)

-- P holds of the place with the path of the header after q.
abbrev pub AtHeader : (Path → ℕ → Type 0) → Path → Atom → ℕ → Type 0
AtHeader P q = λ header. P (q ++ header ∷ [])

-- What was added at the keys up to a place.
abbrev pub AddsKeys : (Path → ℕ → Type 0) → List Atom → Path → ℕ → ℕ → List ℕ → List ℕ → Type 0
AddsKeys P list q from to before after = AddsBehind (IsKeyHeader (length q)) (AtHeader P q) list (length q) from to before after

module _ (P : Path → ℕ → Type 0) (list : List Atom) (q : Path) (depth from at : ℕ) (own : length q ≡ depth) (few : depth < 16) (behind : IsBehind list q from)
    (before gone : List ℕ) (come : AddsKeys P list q from at before gone) where
  at_level : (h : Atom) → IsKeyHeader (length q) h → (is_header h ≡ true) × (level h ≡ length q)
  at_level h w = let e = key_header (length q) w.key (omega (arith, own, few)) in (ap is_header w.is ∙ e.0, ap level w.is ∙ e.1)

  passes : (to : ℕ) → PassesNoKey list (length q) at to → PassesNone (IsKeyHeader (length q)) list (length q) at to
  passes to p = record { stays = p.stays; none = λ k l m w. p.none k w.key l m w.is }

  -- What is added at the next key is added to that at the earlier ones.
  pub keys_more : (key : List ℕ) (start : ℕ) → KeyTurn list q from depth at key start → (next : ℕ) → StaysBelow list (depth + 1) start next → (after : List ℕ)
      → AddsPlaces (P (path_before list start)) gone after → AddsKeys P list q from next before after
  keys_more key start turn next deeper after adds =
      headers_more (IsKeyHeader (length q)) (AtHeader P q) list q (length q) from at refl at_level behind before gone come turn.found.place (passes turn.found.place turn.found.before)
      turn.found.within (record { key = key; is = turn.found.is }) next
      (subst (λ d. StaysBelow list (d + 1) (turn.found.place + 1) next) (sym own) (subst (λ n. StaysBelow list (depth + 1) n next) turn.found.next deeper)) after
      (subst (λ p. AddsPlaces (P p) gone after) (turn.below.path ∙ ap (λ h. q ++ h ∷ []) (sym turn.found.is)) adds)

  -- ---- there is none

  module _ (stop : ℕ) (missing : HasNoKey list depth at stop) where
    none_here : HasNoKey list (length q) at stop
    none_here = subst (λ d. HasNoKey list d at stop) (sym own) missing

    -- Then what was added is all.
    pub keys_all : ((key : List ℕ) (p : ℕ) → P (key_path q key) p → PathsOf list (key_path q key)) → AddsPlaces (HoldsAtKey P q) before gone
    keys_all below =
        adds_same (HoldsAtWanted (IsKeyHeader (length q)) (AtHeader P q)) (HoldsAtKey P q) before gone (λ p. (
          λ s. record { key = s.wanted.key; holds = subst (λ h. P (q ++ h ∷ []) p) s.wanted.is s.holds },
          λ s. record { header = atom_of (Keyed (length q) s.key); wanted = record { key = s.key; is = refl }; holds = s.holds },
        ))
        (headers_all (IsKeyHeader (length q)) (AtHeader P q) list q (length q) from at refl at_level behind before gone come stop (passes stop none_here.before) none_here.segment
        (λ h p w s. subst (λ g. PathsOf list (q ++ g ∷ [])) (sym w.is) (below w.key p (subst (λ g. P (q ++ g ∷ []) p) w.is s))))
