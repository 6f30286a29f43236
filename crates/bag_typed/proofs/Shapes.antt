-- What misspells in counters and maps, key by key.
use Rattle.std.proofs.Common.{◌≡◌, ◌+◌, ◌<◌, ◌⊎◌, inl, inr, ℕ, Less, List, [], ◌∷◌, ◌++◌, sym, subst, arith, ◌∙◌, append_assoc, Result, IfOk, IfErr}
use Rattle.context_model.specs.Atoms.{Atom}
use Rattle.context_model.specs.Kinds.{atom_of}
use Rattle.context_model.specs.Kinds.Kind.{Datum}
use Rattle.context_model.specs.Orders.{Path, path_cmp}
use Rattle.context_model.specs.Paths.{path_at}
use Rattle.context_model.proofs.PlacesOf.{paths_rise}
use Rattle.bag_model.specs.Readings.{key_path}
use Rattle.bag_model.specs.Scalars.{ScalarKind}
use Rattle.bag_model.specs.Shapes.{Shape, Counter, Map}
use Rattle.bag_model.specs.Typed.{IsSpelling, IsCount, Misspells}
use Rattle.bag_model.proofs.IllTyped.{Misspells-below}
use Rattle.bag_walks.specs.Parts.{IsBehind}
use Rattle.bag_walks.proofs.Bridge.{no_less, not_before}
use Rattle.bag_typed.specs.Walk.{HasNone, IsFirstOfPaths, IsWrongDatum}
use Rattle.bag_typed.proofs.Keys.{key_at, OfSomeKey}
use Rattle.bag_typed.proofs.Orders.{StandsUnder}

-- Where the same paths are meant.
pub none_alike : (list : List Atom) (P Q : Path → Type 0) → ((p : Path) → Q p → P p) → HasNone list P → HasNone list Q
none_alike list P Q back has = record { none = λ k within q. has.none k within (back (path_at list k) q) }

pub first_alike : (list : List Atom) (P Q : Path → Type 0) (place : ℕ) → ((p : Path) → P p → Q p) → ((p : Path) → Q p → P p) → IsFirstOfPaths list P place → IsFirstOfPaths list Q place
first_alike list P Q place to back is = record {
  within = is.within;
  is = to (path_at list place) is.is;
  first = λ earlier less q. is.first earlier less (back (path_at list earlier) q);
}

-- What is said of a shape is said of what is seen as it.
pub typed_seen : (list : List Atom) (q : Path) (told : Result ℕ ℕ) (shape known : Shape) → shape ≡ known → IfOk told (λ _. HasNone list (Misspells known q)) → IfOk told (λ _. HasNone list (Misspells shape q))
typed_seen list q told shape known same = subst (λ (s : Shape). IfOk told (λ _. HasNone list (Misspells s q))) (sym same)

pub fault_seen : (list : List Atom) (q : Path) (told : Result ℕ ℕ) (shape known : Shape) → shape ≡ known → IfErr told (IsFirstOfPaths list (Misspells known q)) → IfErr told (IsFirstOfPaths list (Misspells shape q))
fault_seen list q told shape known same = subst (λ (s : Shape). IfErr told (IsFirstOfPaths list (Misspells s q))) (sym same)

under_key : (q : Path) (key : List ℕ) (a : Atom) (r p : Path) → p ≡ key_path q key ++ a ∷ r → StandsUnder q (key_at q key) p
under_key q key a r p is = (a ∷ r, is ∙ append_assoc q (key_at q key ∷ []) (a ∷ r))

-- ---- counters

-- The datum after a writer that is no count.
abbrev pub of_writer : Path → List ℕ → Path → Type 0
of_writer q writer = IsWrongDatum IsCount (key_path q writer)

pub writer_under : (q : Path) (writer : List ℕ) (p : Path) → of_writer q writer p → StandsUnder q (key_at q writer) p
writer_under q writer p (payload, is, wrong) = under_key q writer (atom_of (Datum payload)) [] p is

pub from_writer : (q p : Path) → OfSomeKey (of_writer q) p → Misspells Counter q p
from_writer q p (writer, (payload, is, wrong)) = (writer, payload, is, wrong)

pub to_writer : (q p : Path) → Misspells Counter q p → OfSomeKey (of_writer q) p
to_writer q p (writer, payload, is, wrong) = (writer, (payload, is, wrong))

-- ---- maps

-- The key itself, where it is misspelled, and what misspells below it.
abbrev pub of_key : ScalarKind → Shape → Path → List ℕ → Path → Type 0
of_key kind shape q key p = ((p ≡ key_path q key) × ¬ (IsSpelling kind key)) ⊎ Misspells shape (key_path q key) p

pub key_under : (kind : ScalarKind) (shape : Shape) (q : Path) (key : List ℕ) (p : Path) → of_key kind shape q key p → StandsUnder q (key_at q key) p
key_under kind shape q key p (inl own) = ([], own.0)
key_under kind shape q key p (inr below) = let (a, r, is) = Misspells-below shape (key_path q key) p below in under_key q key a r p is

module _ (kind : ScalarKind) (shape : Shape) (list : List Atom) (q : Path) (key : List ℕ) where
  -- A spelled key is misspelled only where what is below it is.
  pub entry_none : IsSpelling kind key → HasNone list (Misspells shape (key_path q key)) → HasNone list (of_key kind shape q key)
  entry_none spelled has = record { none = λ k within m. elim m [ inl own ↦ own.1 spelled | inr below ↦ has.none k within below ] }

  pub entry_fault : (first : ℕ) → IsSpelling kind key → IsFirstOfPaths list (Misspells shape (key_path q key)) first → IsFirstOfPaths list (of_key kind shape q key) first
  entry_fault first spelled fault = record {
    within = fault.within;
    is = inr fault.is;
    first = λ k less m. elim m [ inl own ↦ own.1 spelled | inr below ↦ fault.first k less below ];
  }

  -- A misspelled key comes first: what is below it follows.
  pub key_fault : (at : ℕ) → IsBehind list (key_path q key) (at + 1) → (IsSpelling kind key → ⊥) → IsFirstOfPaths list (of_key kind shape q key) at
  key_fault at behind wrong = record {
    within = omega (arith, behind.within);
    is = inl (behind.path, wrong);
    first = λ k less m. elim m [ inl own ↦ again k less own.0 | inr below ↦ deeper k less below ];
  }
    where
      again : (k : ℕ) → k < at → path_at list k ≡ key_path q key → ⊥
      again k less is =
          no_less (key_path q key) (subst (λ p. path_cmp p (key_path q key) ≡ Less) is (subst (λ p. path_cmp (path_at list k) p ≡ Less) behind.path
          (paths_rise list behind.well_formed k at less (omega (arith, behind.within)))))

      deeper : (k : ℕ) → k < at → Misspells shape (key_path q key) (path_at list k) → ⊥
      deeper k less below =
          let (a, r, is) = Misspells-below shape (key_path q key) (path_at list k) below in
          let late = not_before list (key_path q key) r a (at + 1) k behind (omega (arith, less, behind.within)) is in
          absurd (omega (arith, late))

pub from_key : (kind : ScalarKind) (shape : Shape) (q p : Path) → OfSomeKey (of_key kind shape q) p → Misspells (Map kind shape) q p
from_key kind shape q p m = (m.0, m.1)

pub to_key : (kind : ScalarKind) (shape : Shape) (q p : Path) → Misspells (Map kind shape) q p → OfSomeKey (of_key kind shape q) p
to_key kind shape q p m = (m.0, m.1)
