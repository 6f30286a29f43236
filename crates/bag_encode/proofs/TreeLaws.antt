-- The list of trees: it may follow a path that ends before them, and which paths it has there.
use Rattle.std.proofs.Common.{◌≡◌, ◌≢◌, ℕ, suc, ◌+◌, ◌≤◌, ◌⊎◌, ◌↔◌, inl, inr, Bool, true, false, cond, List, [], ◌∷◌, ◌++◌, length, take, map, Less, Greater, refl, sym, ap, ◌∙◌, subst, arith, append_assoc}
use Rattle.std.specs.List.{AllByRecursion}
use Rattle.std.specs.Ordering.{ordering_then}
use Rattle.std.proofs.lemmas.Cmp.{tied_itself}
use Rattle.std.proofs.lemmas.List.{append-nil, take_at, length-append}
use Rattle.context_model.specs.declared.TheConstants.{ATOM_MAX}
use Rattle.context_model.specs.Atoms.{Atom, AreAtoms}
use Rattle.context_model.specs.Ended.{AreHeaders}
use Rattle.context_model.specs.Kinds.{HasKind}
use Rattle.context_model.specs.Merged.{last_atom}
use Rattle.context_model.specs.Orders.{Path, atom_cmp, path_cmp, IsIn, Rises}
use Rattle.context_model.specs.Paths.{is_header, level, header_count, path_after, paths_after, paths, last_path_after}
use Rattle.context_model.specs.WellFormed.{IsWellFormed}
use Rattle.context_model.proofs.Beyond.{header_greater}
use Rattle.context_model.proofs.Following.{Fits, Follows, Follows-append, IsWellFormed-from, kinds_append, last_path_after-append}
use Rattle.context_model.proofs.OrderLaws.{atoms_total}
use Rattle.context_model.proofs.PathPlaces.{header_path}
use Rattle.bag_model.proofs.Finite.{in_append, in_append_first, in_append_second}
use Rattle.bag_encode.specs.Values.{Trees, bare, tree, atoms, trees_by, header_over}

-- The paths of trees after q.
abbrev pub tree_paths : Path → Trees → List Path
tree_paths q bare = []
tree_paths q (tree a under behind) = (q ++ a ∷ []) ∷ (tree_paths (q ++ a ∷ []) under ++ tree_paths q behind)

-- What follows q once the trees are there, where before them the rest was there.
abbrev rest_after : Path → Trees → Path
rest_after rest bare = rest
rest_after rest (tree a under behind) = rest_after (a ∷ rest_after [] under) behind

-- The atom comes before the first of the trees.
abbrev pub IsBefore : Atom → Trees → Type 0
IsBefore a bare = Unit {0}
IsBefore a (tree b under behind) = atom_cmp a b ≡ Less

abbrev StartsBefore : Path → Trees → Type 0
StartsBefore [] t = Unit {0}
StartsBefore (z ∷ rest) t = IsBefore z t

-- The atom is a header of this level, or a datum with nothing under it.
abbrev pub MayHold : ℕ → Atom → Trees → Type 0
MayHold n a under = ((is_header a ≡ true) × (level a ≡ n)) ⊎ ((payload : List ℕ) × (a ≡ 0 ∷ payload) × (under ≡ bare))

-- The trees are at this level, in order.
abbrev pub AreTrees : ℕ → Trees → Type 0
AreTrees n bare = Unit {0}
AreTrees n (tree a under behind) = HasKind a × MayHold n a under × IsBefore a behind × AreTrees (n + 1) under × AreTrees n behind

-- ---- one atom

cmp_behind : (q r s : Path) → path_cmp (q ++ r) (q ++ s) ≡ path_cmp r s
cmp_behind [] r s = refl
cmp_behind (a ∷ q) r s = ap (λ o. ordering_then o (path_cmp (q ++ r) (q ++ s))) (tied_itself atoms_total a) ∙ cmp_behind q r s

header_count-headers : (q r : Path) → AreHeaders q → header_count (q ++ r) ≡ length q + header_count r
header_count-headers [] r h = omega arith
header_count-headers (a ∷ q) r h =
    let e : header_count (q ++ r) ≡ length q + header_count r = header_count-headers q r h.1 in
    ap (λ b. cond b (suc (header_count (q ++ r))) 0) h.0 ∙ omega arith

headers_more : (q : Path) (a : Atom) → AreHeaders q → is_header a ≡ true → AreHeaders (q ++ a ∷ [])
headers_more [] a h e = (e, tt)
headers_more (b ∷ q) a h e = (h.0, headers_more q a h.1 e)

-- The path begins with an atom before this one, or is empty.
abbrev Starts : Path → Atom → Type 0
Starts [] a = Unit {0}
Starts (z ∷ rest) a = atom_cmp z a ≡ Less

starts : (rest : Path) (a : Atom) (under behind : Trees) → StartsBefore rest (tree a under behind) → Starts rest a
starts [] a under behind s = tt
starts (z ∷ rest) a under behind s = s

later : (rest : Path) (a : Atom) → Starts rest a → path_cmp rest (a ∷ []) ≡ Less
later [] a s = refl
later (z ∷ rest) a s = ap (λ o. ordering_then o (path_cmp rest [])) s

no_headers : (rest : Path) (payload : List ℕ) → Starts rest (0 ∷ payload) → header_count rest ≡ 0
no_headers [] payload s = refl
no_headers (z ∷ rest) payload s = by (is_header z) refl
  where
    by : (b : Bool) → is_header z ≡ b → header_count (z ∷ rest) ≡ 0
    by true e = let g : atom_cmp z (0 ∷ payload) ≡ Greater = header_greater z (0 ∷ payload) e refl in let clash : Less ≡ Greater = sym s ∙ g in absurd (cc)
    by false e = ap (λ b. cond b (suc (header_count rest)) 0) e

-- After m the atom comes next, right after q.
record Comes (q m : Path) (a : Atom) : Type 0 where
  fits : Fits m a
  path : path_after m a ≡ q ++ a ∷ []

module _ (q rest : Path) (h : AreHeaders q) where
  comes_so : (a : Atom) → Starts rest a → (is_header a ≡ true → level a ≤ header_count (q ++ rest)) → path_after (q ++ rest) a ≡ q ++ a ∷ [] → Comes q (q ++ rest) a
  comes_so a s l e = record { fits = record { level = l; later = ap (path_cmp (q ++ rest)) e ∙ cmp_behind q rest (a ∷ []) ∙ later rest a s }; path = e }

  header_comes : (a : Atom) → Starts rest a → is_header a ≡ true → level a ≡ length q → Comes q (q ++ rest) a
  header_comes a s e l =
      comes_so a s (λ _. omega (arith, header_count-headers q rest h))
      (header_path (q ++ rest) a e ∙ ap (λ n. take n (q ++ rest) ++ a ∷ []) l ∙ ap (λ v. v ++ a ∷ []) (take_at q rest (length q) refl))

  datum_comes : (payload : List ℕ) → Starts rest (0 ∷ payload) → Comes q (q ++ rest) (0 ∷ payload)
  datum_comes payload s =
      let none : header_count rest ≡ 0 = no_headers rest payload s in
      let count : header_count (q ++ rest) ≡ length q = (let e = header_count-headers q rest h in omega arith) in
      comes_so (0 ∷ payload) s (λ e. cc)
      (ap (λ n. take n (q ++ rest) ++ (0 ∷ payload) ∷ []) count ∙ ap (λ v. v ++ (0 ∷ payload) ∷ []) (take_at q rest (length q) refl))

  comes : (a : Atom) (under : Trees) → Starts rest a → MayHold (length q) a under → Comes q (q ++ rest) a
  comes a under s (inl header) = header_comes a s header.0 header.1
  comes a under s (inr datum) = subst (Comes q (q ++ rest)) (sym datum.1) (datum_comes datum.0 (subst (Starts rest) datum.1 s))

-- ---- lists end to end

paths_after-append : (q : Path) (xs ys : List Atom) → paths_after q (xs ++ ys) ≡ paths_after q xs ++ paths_after (last_path_after q xs) ys
paths_after-append q [] ys = refl
paths_after-append q (x ∷ xs) ys = ap (λ l. path_after q x ∷ l) (paths_after-append (path_after q x) xs ys)

-- The list of the trees may follow m, and has the paths of the trees after q.
record Lays (q rest m : Path) (t : Trees) : Type 0 where
  follows : Follows m (atoms t)
  are : paths_after m (atoms t) ≡ tree_paths q t
  last : last_path_after m (atoms t) ≡ q ++ rest_after rest t

nothing_laid : (q m : Path) (t : Trees) → t ≡ bare → m ≡ q → Lays q [] m t
nothing_laid q m t none e =
    let laid : Lays q [] m bare = record { follows = tt; are = refl; last = e ∙ sym (append-nil q) } in
    subst (Lays q [] m) (sym none) laid

tree_laid : (a : Atom) (under behind : Trees) (q rest m : Path) → Comes q m a → Lays (q ++ a ∷ []) [] (path_after m a) under
    → Lays q (a ∷ rest_after [] under) (last_path_after (path_after m a) (atoms under)) behind → Lays q rest m (tree a under behind)
tree_laid a under behind q rest m c u b = record {
  follows = (c.fits, Follows-append (path_after m a) (atoms under) (atoms behind) u.follows b.follows);
  are = ap (λ l. path_after m a ∷ l) (paths_after-append (path_after m a) (atoms under) (atoms behind))
      ∙ (let first = c.path in let second = u.are in let third = b.are in λ i. first i ∷ (second i ++ third i));
  last = last_path_after-append (path_after m a) (atoms under) (atoms behind) ∙ b.last;
}

lays : (t : Trees) (q rest m : Path) → m ≡ q ++ rest → AreHeaders q → AreTrees (length q) t → StartsBefore rest t → Lays q rest m t
lays bare q rest m e h w s = record { follows = tt; are = refl; last = e }
lays (tree a under behind) q rest m e h w s =
    let c : Comes q m a = subst (λ v. Comes q v a) (sym e) (comes q rest h a under (starts rest a under behind s) w.1) in
    let u : Lays (q ++ a ∷ []) [] (path_after m a) under = elim w.1 [
      | inl header ↦ lays under (q ++ a ∷ []) [] (path_after m a) (c.path ∙ sym (append-nil (q ++ a ∷ []))) (headers_more q a h header.0)
          (subst (λ n. AreTrees n under) (sym (length-append q (a ∷ []))) w.3) tt
      | inr datum ↦ nothing_laid (q ++ a ∷ []) (path_after m a) under datum.2 c.path
    ] in
    tree_laid a under behind q rest m c u
    (lays behind q (a ∷ rest_after [] under) (last_path_after (path_after m a) (atoms under)) (u.last ∙ append_assoc q (a ∷ []) (rest_after [] under)) h w.4 w.2)

kinds : (t : Trees) (n : ℕ) → AreTrees n t → AllByRecursion HasKind (atoms t)
kinds bare n w = tt
kinds (tree a under behind) n w = (w.0, kinds_append (atoms under) (atoms behind) (kinds under (n + 1) w.3) (kinds behind n w.4))

-- The list of trees from level 0 on is well formed,
pub IsWellFormed-trees : (t : Trees) → AreTrees 0 t → IsWellFormed (atoms t)
IsWellFormed-trees t w = IsWellFormed-from (atoms t) (kinds t 0 w) (lays t [] [] [] refl tt w tt).follows

-- and has the paths of the trees.
pub paths-trees : (t : Trees) → AreTrees 0 t → paths (atoms t) ≡ tree_paths [] t
paths-trees t w = (lays t [] [] [] refl tt w tt).are

-- ---- each atom ends its path

pub last_atom-end : (q : Path) (a : Atom) → last_atom (q ++ a ∷ []) ≡ a
last_atom-end [] a = refl
last_atom-end (x ∷ []) a = refl
last_atom-end (x ∷ y ∷ q) a = last_atom-end (y ∷ q) a

pub AreAtoms-append : (xs ys : List Atom) → AreAtoms xs → AreAtoms ys → AreAtoms (xs ++ ys)
AreAtoms-append [] ys f g = g
AreAtoms-append (x ∷ xs) ys f g = (f.0, AreAtoms-append xs ys f.1 g)

pub AreAtoms-trees : (t : Trees) (q : Path) → ((p : Path) → IsIn p (tree_paths q t) → length (last_atom p) ≤ ATOM_MAX) → AreAtoms (atoms t)
AreAtoms-trees bare q f = tt
AreAtoms-trees (tree a under behind) q f = (
  subst (λ b. length b ≤ ATOM_MAX) (last_atom-end q a) (f (q ++ a ∷ []) (inl refl)),
  AreAtoms-append (atoms under) (atoms behind)
      (AreAtoms-trees under (q ++ a ∷ []) (λ p i. f p (inr (in_append_first p (tree_paths (q ++ a ∷ []) under) (tree_paths q behind) i))))
      (AreAtoms-trees behind q (λ p i. f p (inr (in_append_second p (tree_paths (q ++ a ∷ []) under) (tree_paths q behind) i)))),
)

-- ---- trees of elements

module _ {X : Type 0} (head : X → Atom) (under : X → Trees) where
  -- A path of the trees is that of an element's atom, or one under it.
  pub in_trees_by : (q : Path) (xs : List X) (p : Path) → IsIn p (tree_paths q (trees_by head under xs))
      → (x : X) × IsIn x xs × ((p ≡ q ++ head x ∷ []) ⊎ IsIn p (tree_paths (q ++ head x ∷ []) (under x)))
  in_trees_by q [] p none = absurd none
  in_trees_by q (x ∷ xs) p (inl e) = (x, inl refl, inl e)
  in_trees_by q (x ∷ xs) p (inr i) = by (in_append p (tree_paths (q ++ head x ∷ []) (under x)) (tree_paths q (trees_by head under xs)) i) (λ j. in_trees_by q xs p j)
    where
      by : IsIn p (tree_paths (q ++ head x ∷ []) (under x)) ⊎ IsIn p (tree_paths q (trees_by head under xs))
          → (IsIn p (tree_paths q (trees_by head under xs)) → (y : X) × IsIn y xs × ((p ≡ q ++ head y ∷ []) ⊎ IsIn p (tree_paths (q ++ head y ∷ []) (under y))))
          → (y : X) × IsIn y (x ∷ xs) × ((p ≡ q ++ head y ∷ []) ⊎ IsIn p (tree_paths (q ++ head y ∷ []) (under y)))
      by (inl j) rest = (x, inl refl, inr j)
      by (inr j) rest = let (y, at, f) = rest j in (y, inr at, f)

  pub trees_by_in : (q : Path) (xs : List X) (p : Path) (x : X) → IsIn x xs → (p ≡ q ++ head x ∷ []) ⊎ IsIn p (tree_paths (q ++ head x ∷ []) (under x))
      → IsIn p (tree_paths q (trees_by head under xs))
  trees_by_in q [] p x none f = absurd none
  trees_by_in q (y ∷ xs) p x (inl same) f = by (subst (λ z. (p ≡ q ++ head z ∷ []) ⊎ IsIn p (tree_paths (q ++ head z ∷ []) (under z))) same f)
    where
      by : (p ≡ q ++ head y ∷ []) ⊎ IsIn p (tree_paths (q ++ head y ∷ []) (under y)) → IsIn p (tree_paths q (trees_by head under (y ∷ xs)))
      by (inl e) = inl e
      by (inr j) = inr (in_append_first p (tree_paths (q ++ head y ∷ []) (under y)) (tree_paths q (trees_by head under xs)) j)
  trees_by_in q (y ∷ xs) p x (inr i) f =
      inr (in_append_second p (tree_paths (q ++ head y ∷ []) (under y)) (tree_paths q (trees_by head under xs)) (trees_by_in q xs p x i f))

  before_rest : (x : X) (xs : List X) → Rises atom_cmp (head x ∷ map head xs) → IsBefore (head x) (trees_by head under xs)
  before_rest x [] r = tt
  before_rest x (y ∷ ys) r = r.0

  rises_rest : (x : X) (xs : List X) → Rises atom_cmp (head x ∷ map head xs) → Rises atom_cmp (map head xs)
  rises_rest x [] r = tt
  rises_rest x (y ∷ ys) r = r.1

  -- Elements whose atoms rise make trees.
  pub AreTrees-by : (n : ℕ) (xs : List X) → ((x : X) → IsIn x xs → HasKind (head x) × MayHold n (head x) (under x) × AreTrees (n + 1) (under x))
      → Rises atom_cmp (map head xs) → AreTrees n (trees_by head under xs)
  AreTrees-by n [] f r = tt
  AreTrees-by n (x ∷ xs) f r =
      let own = f x (inl refl) in
      (own.0, own.1, before_rest x xs r, own.2, AreTrees-by n xs (λ y i. f y (inr i)) (rises_rest x xs r))

-- ---- a header over trees

pub over_paths : (h : Atom) (t behind : Trees) (q p : Path)
    → IsIn p (tree_paths q (header_over h t behind)) ↔ (((t ≢ bare) × ((p ≡ q ++ h ∷ []) ⊎ IsIn p (tree_paths (q ++ h ∷ []) t))) ⊎ IsIn p (tree_paths q behind))
over_paths h bare behind q p = ((λ i. inr i), λ u. elim u [ inl none ↦ absurd (none.0 refl) | inr i ↦ i ])
over_paths h (tree a under next) behind q p = (to, from)
  where
    some : tree a under next ≢ bare
    some e = cc

    to : IsIn p (tree_paths q (tree h (tree a under next) behind))
        → ((tree a under next ≢ bare) × ((p ≡ q ++ h ∷ []) ⊎ IsIn p (tree_paths (q ++ h ∷ []) (tree a under next)))) ⊎ IsIn p (tree_paths q behind)
    to (inl e) = inl (some, inl e)
    to (inr i) = elim (in_append p (tree_paths (q ++ h ∷ []) (tree a under next)) (tree_paths q behind) i) [ inl j ↦ inl (some, inr j) | inr j ↦ inr j ]

    from : ((tree a under next ≢ bare) × ((p ≡ q ++ h ∷ []) ⊎ IsIn p (tree_paths (q ++ h ∷ []) (tree a under next)))) ⊎ IsIn p (tree_paths q behind)
        → IsIn p (tree_paths q (tree h (tree a under next) behind))
    from (inl own) = elim own.1 [
      | inl e ↦ inl e
      | inr j ↦ inr (in_append_first p (tree_paths (q ++ h ∷ []) (tree a under next)) (tree_paths q behind) j)
    ]
    from (inr j) = inr (in_append_second p (tree_paths (q ++ h ∷ []) (tree a under next)) (tree_paths q behind) j)

pub over_bare : (h : Atom) (t behind : Trees) → header_over h t behind ≡ bare → (t ≡ bare) × (behind ≡ bare)
over_bare h bare behind e = (refl, e)
over_bare h (tree a under next) behind e = absurd (cc e)

pub AreTrees-over : (h : Atom) (t behind : Trees) (n : ℕ) → HasKind h → is_header h ≡ true → level h ≡ n → IsBefore h behind → AreTrees (n + 1) t → AreTrees n behind → AreTrees n (header_over h t behind)
AreTrees-over h bare behind n k e l b w v = v
AreTrees-over h (tree a under next) behind n k e l b w v = (k, inl (e, l), b, w, v)

-- What comes before a header and before what is after it comes before both.
pub IsBefore-over : (x h : Atom) (t behind : Trees) → atom_cmp x h ≡ Less → IsBefore x behind → IsBefore x (header_over h t behind)
IsBefore-over x h bare behind l b = b
IsBefore-over x h (tree a under next) behind l b = l
