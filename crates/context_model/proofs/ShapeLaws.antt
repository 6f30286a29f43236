-- A list has at most one first fault, and none where it is well formed.
use Rattle.std.proofs.Common.{◌≡◌, ℕ, zero, suc, ◌<◌, ◌≤◌, ◌⊎◌, List, [], ◌∷◌, ◌++◌, take, slice_get, Some, sym, refl, ap, ◌∙◌, subst, arith, inl, inr}
use Rattle.std.proofs.lemmas.Bool.{cases_order}
use Rattle.context_model.specs.Atoms.{Atom}
use Rattle.context_model.specs.ByteCodes.{ByteCode}
use Rattle.context_model.specs.ByteCodes.ByteCode.{CutLength, BadCount, AtomTooLong, LongForm, CutBody, BadPrefix, BadIndex, LevelJump, OutOfOrder}
use Rattle.context_model.specs.Kinds.{HasKind}
use Rattle.context_model.specs.Orders.{Path}
use Rattle.context_model.specs.Paths.{level, header_count, last_path_after}
use Rattle.context_model.specs.WellFormed.{IsWellFormed}
use Rattle.context_model.specs.ShapeFault.{IsWrong, IsFirstShapeFault, FaultsOnce}
use Rattle.context_model.proofs.Following.{Fits, Follows-back, IsWellFormed-follows, kinds_back}

-- an atom that may follow has nothing wrong
pub wrong_apart : (code : ByteCode) (q : Path) (a : Atom) → IsWrong code q a → HasKind a → Fits q a → ⊥
wrong_apart BadPrefix q a w k f = w.none k
wrong_apart BadIndex q a w k f = w.none k
wrong_apart LevelJump q a w k f = let l : level a ≤ header_count q = f.level (w.1.0) in omega (arith, w.1.1)
wrong_apart OutOfOrder q a w k f = w.2 f.later
wrong_apart CutLength q a w k f = w
wrong_apart BadCount q a w k f = w
wrong_apart AtomTooLong q a w k f = w
wrong_apart LongForm q a w k f = w
wrong_apart CutBody q a w k f = w

-- at most one code applies first
pub wrong_unique : (c d : ByteCode) (q : Path) (a : Atom) → IsWrong c q a → IsWrong d q a → c ≡ d
wrong_unique BadPrefix BadPrefix q a w v = refl
wrong_unique BadPrefix BadIndex q a w v = absurd (w.other v.like)
wrong_unique BadPrefix LevelJump q a w v = absurd (w.none v.0)
wrong_unique BadPrefix OutOfOrder q a w v = absurd (w.none v.0)
wrong_unique BadIndex BadPrefix q a w v = absurd (v.other w.like)
wrong_unique BadIndex BadIndex q a w v = refl
wrong_unique BadIndex LevelJump q a w v = absurd (w.none v.0)
wrong_unique BadIndex OutOfOrder q a w v = absurd (w.none v.0)
wrong_unique LevelJump BadPrefix q a w v = absurd (v.none w.0)
wrong_unique LevelJump BadIndex q a w v = absurd (v.none w.0)
wrong_unique LevelJump LevelJump q a w v = refl
wrong_unique LevelJump OutOfOrder q a w v = absurd (v.1 w.1)
wrong_unique OutOfOrder BadPrefix q a w v = absurd (v.none w.0)
wrong_unique OutOfOrder BadIndex q a w v = absurd (v.none w.0)
wrong_unique OutOfOrder LevelJump q a w v = absurd (w.1 v.1)
wrong_unique OutOfOrder OutOfOrder q a w v = refl
wrong_unique CutLength d q a w v = absurd w
wrong_unique BadCount d q a w v = absurd w
wrong_unique AtomTooLong d q a w v = absurd w
wrong_unique LongForm d q a w v = absurd w
wrong_unique CutBody d q a w v = absurd w
wrong_unique c CutLength q a w v = absurd v
wrong_unique c BadCount q a w v = absurd v
wrong_unique c AtomTooLong q a w v = absurd v
wrong_unique c LongForm q a w v = absurd v
wrong_unique c CutBody q a w v = absurd v

-- the atom at a place, in the list and in each prefix that reaches beyond it
pub split_at : (list : List Atom) (i : ℕ) (a : Atom) → slice_get list i ≡ Some a → (rest : List Atom) × (list ≡ take i list ++ a ∷ rest)
split_at [] i a e = cc
split_at (x ∷ list) zero a e = let h : x ≡ a = cc in (list, ap (λ v. v ∷ list) h)
split_at (x ∷ list) (suc i) a e = let s : (rest : List Atom) × (list ≡ take i list ++ a ∷ rest) = split_at list i a e in (s.0, ap (λ v. x ∷ v) (s.1))

pub split_take : (list : List Atom) (i j : ℕ) (a : Atom) → slice_get list i ≡ Some a → i < j → (rest : List Atom) × (take j list ≡ take i list ++ a ∷ rest)
split_take [] i j a e h = cc
split_take (x ∷ list) i zero a e h = absurd (omega arith)
split_take (x ∷ list) zero (suc j) a e h = let g : x ≡ a = cc in (take j list, ap (λ v. v ∷ take j list) g)
split_take (x ∷ list) (suc i) (suc j) a e h = let s : (rest : List Atom) × (take j list ≡ take i list ++ a ∷ rest) = split_take list i j a e (omega arith) in (s.0, ap (λ v. x ∷ v) (s.1))

-- an atom of a well-formed list fits after those before it
pub fits_there : (front : List Atom) (a : Atom) (rest : List Atom) → IsWellFormed (front ++ a ∷ rest) → HasKind a × Fits (last_path_after [] front) a
fits_there front a rest w = ((kinds_back front (a ∷ rest) w.kinds).0, (Follows-back [] front (a ∷ rest) (IsWellFormed-follows (front ++ a ∷ rest) w)).0)

not_inside : (list : List Atom) (i j : ℕ) (c : ByteCode) → IsFirstShapeFault list i c → IsWellFormed (take j list) → i < j → ⊥
not_inside list i j c f w h =
    let s : (rest : List Atom) × (take j list ≡ take i list ++ f.atom ∷ rest) = split_take list i j f.atom f.there h in
    let k : HasKind f.atom × Fits (last_path_after [] (take i list)) f.atom = fits_there (take i list) f.atom s.0 (subst IsWellFormed (s.1) w) in
    wrong_apart c (last_path_after [] (take i list)) f.atom f.wrong k.0 k.1

pub has_one_shape : FaultsOnce
has_one_shape list = record { fault = λ i j c d f g. by i j c d f g (cases_order i j); either = either }
  where
    same : (i j : ℕ) (c d : ByteCode) → IsFirstShapeFault list i c → IsFirstShapeFault list j d → i ≡ j → c ≡ d
    same i j c d f g e =
        let there : slice_get list i ≡ Some g.atom = ap (slice_get list) e ∙ g.there in
        let one : Some f.atom ≡ Some g.atom = sym f.there ∙ there in
        let atoms : f.atom ≡ g.atom = cc in
        wrong_unique c d (last_path_after [] (take i list)) f.atom f.wrong (subst (λ a. IsWrong d (last_path_after [] (take i list)) a) (sym atoms) (subst (λ k. IsWrong d (last_path_after [] (take k list)) g.atom) (sym e) g.wrong))

    by : (i j : ℕ) (c d : ByteCode) → IsFirstShapeFault list i c → IsFirstShapeFault list j d → (i ≡ j) ⊎ ((i < j) ⊎ (j < i)) → (i ≡ j) × (c ≡ d)
    by i j c d f g (inl e) = (e, same i j c d f g e)
    by i j c d f g (inr (inl h)) = absurd (not_inside list i j c f g.before h)
    by i j c d f g (inr (inr h)) = absurd (not_inside list j i d g f.before h)

    either : (i : ℕ) (c : ByteCode) → IsWellFormed list → IsFirstShapeFault list i c → ⊥
    either i c w f =
        let s : (rest : List Atom) × (list ≡ take i list ++ f.atom ∷ rest) = split_at list i f.atom f.there in
        let k : HasKind f.atom × Fits (last_path_after [] (take i list)) f.atom = fits_there (take i list) f.atom s.0 (subst IsWellFormed (s.1) w) in
        wrong_apart c (last_path_after [] (take i list)) f.atom f.wrong k.0 k.1
