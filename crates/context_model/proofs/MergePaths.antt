-- The greedy merge of two lists that follow one path: both rests may follow the path of the last atom taken.
use Rattle.std.proofs.Common.{◌≡◌, ℕ, zero, suc, ◌<◌, ◌≤◌, inl, inr, Bool, true, false, cond, nat_le, List, [], ◌∷◌, ◌++◌, length, take, Ordering, Less, Equal, Greater, sym, refl, ap, ◌∙◌, subst, arith, le_refl, leb-true, leb-false}
use Rattle.std.proofs.lemmas.List.{take_all, append-nil, take_at, length-take-le}
use Rattle.std.proofs.lemmas.Bool.{cases_lt}
use Rattle.std.specs.Cmp.{nat_cmp_is, tied_itself}
use Rattle.std.specs.Ordering.{ordering_then, ordering_reverse}
use Rattle.context_model.specs.Atoms.{Atom}
use Rattle.context_model.specs.Orders.{Path, atom_cmp, path_cmp}
use Rattle.context_model.specs.Paths.{is_header, level, header_count, depth_after, path_after, paths_after}
use Rattle.context_model.specs.GreedyMerge.{greedy_merge}
use Rattle.context_model.proofs.OrderLaws.{atoms_total, atoms_anti, paths_total}
use Rattle.context_model.proofs.TwoLists.{two_lists}
use Rattle.context_model.proofs.Rising.{greedy-right_empty, greedy-less, greedy-equal, greedy-greater}
use Rattle.context_model.proofs.Following.{Fits, Follows, header_count-length}
use Rattle.context_model.proofs.PathPlaces.{depth-length}
use Rattle.context_model.proofs.Lexicographic.{StartsBelow, Between, between, fronts}

-- ---- the next path

-- of two atoms the lesser has the lesser first byte, or the same
first_byte : (b c : ℕ) (bytes more : List ℕ) → atom_cmp (b ∷ bytes) (c ∷ more) ≡ Less → b ≤ c
first_byte b c bytes more l = elim (cases_lt c b) [
  | inl above ↦ (
      let greater : atom_cmp (b ∷ bytes) (c ∷ more) ≡ Greater = ap (λ r. ordering_then r (atom_cmp bytes more)) (sym (nat_cmp_is b c Greater (omega arith))) in
      let clash : Less ≡ Greater = sym l ∙ greater in
      absurd (cc)
      )
  | inr upto ↦ upto
]

-- a lesser atom is at least as deep
depth-falls : (q : Path) (x y : Atom) → atom_cmp x y ≡ Less → (is_header y ≡ true → level y ≤ header_count q) → depth_after q y ≤ depth_after q x
depth-falls q [] y l f = depth-length q y f
depth-falls q (b ∷ bytes) [] l f = let clash : Greater ≡ Less = l in cc
depth-falls q (b ∷ bytes) (c ∷ more) l f = by (nat_le 128 b) refl (nat_le 128 c) refl
  where
    by : (h : Bool) → nat_le 128 b ≡ h → (k : Bool) → nat_le 128 c ≡ k → cond k (level (c ∷ more)) (header_count q) ≤ cond h (level (b ∷ bytes)) (header_count q)
    by true h true k = let n : b ≤ c = first_byte b c bytes more l in omega arith
    by true h false k =
        let n : b ≤ c = first_byte b c bytes more l in
        let high : 128 ≤ b = leb-true 128 b h in
        let low : c < 128 = leb-false 128 c k in
        absurd (omega arith)
    by false h true k = f k
    by false h false k = le_refl (header_count q)

-- of two atoms that may come next the lesser has the lesser path
pub path_after-lesser : (q : Path) (x y : Atom) → atom_cmp x y ≡ Less → Fits q x → Fits q y → path_cmp (path_after q x) (path_after q y) ≡ Less
path_after-lesser q x y l f g =
    fronts (depth_after q y) (depth_after q x) q x y g.later (depth-falls q x y l g.level) (depth-length q x f.level) (λ _. l)

-- ---- an atom has the same path after each path that lies between

header_count-front : (n : ℕ) (q rest : Path) → n ≤ header_count q → n ≤ header_count (take n q ++ rest)
header_count-front zero q rest h = omega arith
header_count-front (suc n) [] rest h = absurd (omega arith)
header_count-front (suc n) (a ∷ q) rest h = by (is_header a) h (λ l. header_count-front n q rest l)
  where
    by : (b : Bool) → suc n ≤ cond b (suc (header_count q)) 0 → (n ≤ header_count q → n ≤ header_count (take n q ++ rest)) → suc n ≤ cond b (suc (header_count (take n q ++ rest))) 0
    by true l f = let e : n ≤ header_count (take n q ++ rest) = f (omega arith) in omega arith
    by false l f = absurd (omega arith)

header_count-headers : (q rest : Path) → header_count rest ≡ 0 → header_count (take (header_count q) q ++ rest) ≡ header_count q
header_count-headers [] rest e = e
header_count-headers (a ∷ q) rest e = by (is_header a) refl (header_count-headers q rest e)
  where
    by : (b : Bool) → is_header a ≡ b → header_count (take (header_count q) q ++ rest) ≡ header_count q
        → header_count (take (cond b (suc (header_count q)) 0) (a ∷ q) ++ rest) ≡ cond b (suc (header_count q)) 0
    by true h f = ap (λ b. cond b (suc (header_count (take (header_count q) q ++ rest))) 0) h ∙ ap (λ n. suc n) f
    by false h f = e

-- an atom before one that is no header is none
lesser_header : (z y : Atom) → atom_cmp z y ≡ Less → is_header y ≡ false → is_header z ≡ false
lesser_header [] y l e = refl
lesser_header (b ∷ bytes) [] l e = let clash : Greater ≡ Less = l in cc
lesser_header (b ∷ bytes) (c ∷ more) l e = by (nat_le 128 b) refl
  where
    by : (h : Bool) → nat_le 128 b ≡ h → h ≡ false
    by true h =
        let n : b ≤ c = first_byte b c bytes more l in
        let high : 128 ≤ b = leb-true 128 b h in
        let low : c < 128 = leb-false 128 c e in
        absurd (omega arith)
    by false h = refl

no_header : (rest : Path) (y : Atom) → StartsBelow rest y → is_header y ≡ false → header_count rest ≡ 0
no_header [] y l e = refl
no_header (z ∷ rest) y l e = ap (λ b. cond b (suc (header_count rest)) 0) (lesser_header z y l e)

none_below : (rest : Path) → StartsBelow rest [] → rest ≡ []
none_below [] l = refl
none_below ([] ∷ rest) l = let clash : Equal ≡ Less = l in cc
none_below ((b ∷ bytes) ∷ rest) l = let clash : Greater ≡ Less = l in cc

-- After the path m the atom y is within its level and has the path p.
record Stands (m : Path) (y : Atom) (p : Path) : Type 0 where
  level : is_header y ≡ true → level y ≤ header_count m
  path : path_after m y ≡ p

stands_between : (q rest : Path) (y : Atom) → (is_header y ≡ true → level y ≤ header_count q) → StartsBelow rest y → Stands (take (depth_after q y) q ++ rest) y (path_after q y)
stands_between q rest [] f l =
    let none : rest ≡ [] = none_below rest l in
    let same : take (length q) q ++ rest ≡ q = ap (λ v. take (length q) q ++ v) none ∙ append-nil (take (length q) q) ∙ take_all (length q) q (le_refl (length q)) in
    record { level = λ e. cc; path = ap (λ v. path_after v []) same }
stands_between q rest (c ∷ more) f l = by (nat_le 128 c) refl
  where
    by : (k : Bool) → nat_le 128 c ≡ k → Stands (take (cond k (level (c ∷ more)) (header_count q)) q ++ rest) (c ∷ more) (take (cond k (level (c ∷ more)) (header_count q)) q ++ (c ∷ more) ∷ [])
    by true k =
        let n : ℕ = level (c ∷ more) in
        let within : n ≤ header_count q = f k in
        let long : n ≤ length q = (let h = header_count-length q in omega arith) in
        record {
          level = λ e. header_count-front n q rest within;
          path = ap (λ b. take (cond b n (header_count (take n q ++ rest))) (take n q ++ rest) ++ (c ∷ more) ∷ []) k
              ∙ ap (λ v. v ++ (c ∷ more) ∷ []) (take_at (take n q) rest n (length-take-le n q long));
        }
    by false k =
        let n : ℕ = header_count q in
        let count : header_count (take n q ++ rest) ≡ n = header_count-headers q rest (no_header rest (c ∷ more) l k) in
        record {
          level = λ e. (let clash : true ≡ false = sym e ∙ k in cc);
          path = ap (λ b. take (cond b (level (c ∷ more)) (header_count (take n q ++ rest))) (take n q ++ rest) ++ (c ∷ more) ∷ []) k
              ∙ ap (λ i. take i (take n q ++ rest) ++ (c ∷ more) ∷ []) count
              ∙ ap (λ v. v ++ (c ∷ more) ∷ []) (take_at (take n q) rest n (length-take-le n q (header_count-length q)));
        }

path_after-between : (q m : Path) (y : Atom) → (path_cmp q m ≡ Greater → ⊥) → path_cmp m (path_after q y) ≡ Less → Fits q y → Stands m y (path_after q y)
path_after-between q m y from before f =
    let b : Between (depth_after q y) q y m = between (depth_after q y) q m y (depth-length q y f.level) from before in
    subst (λ v. Stands v y (path_after q y)) (sym b.front) (stands_between q b.rest y f.level b.below)

-- ---- a list that may follow q may follow each path that lies before its first one

-- The list may follow the path m, and has the paths ps there.
pub record Goes (m : Path) (list : List Atom) (ps : List Path) : Type 0 where
  pub follows : Follows m list
  pub are : paths_after m list ≡ ps

less_apart : (q m : Path) → path_cmp q m ≡ Less → path_cmp q m ≡ Greater → ⊥
less_apart q m e f = let clash : Less ≡ Greater = sym e ∙ f in cc

pub Follows-later : (q m : Path) (y : Atom) (ys : List Atom) → path_cmp q m ≡ Less → path_cmp m (path_after q y) ≡ Less → Follows q (y ∷ ys) → Goes m (y ∷ ys) (paths_after q (y ∷ ys))
Follows-later q m y ys from before f =
    let s : Stands m y (path_after q y) = path_after-between q m y (less_apart q m from) before f.0 in
    record {
      follows = (record { level = s.level; later = ap (path_cmp m) s.path ∙ before }, subst (λ v. Follows v ys) (sym s.path) f.1);
      are = ap (λ v. v ∷ paths_after v ys) s.path;
    }

-- ---- the merge

-- The merge of both lists may follow q, and its paths are the merge of their paths.
abbrev pub Merges : Path → List Atom → List Atom → Type 0
Merges q xs ys = Goes q (greedy_merge atom_cmp xs ys) (greedy_merge path_cmp (paths_after q xs) (paths_after q ys))

-- Two lists that may follow one path.
abbrev pub MergeAfter : List Atom → List Atom → Type 0
MergeAfter xs ys = (q : Path) → Follows q xs → Follows q ys → Merges q xs ys

lesser_back : (x y : Atom) → atom_cmp x y ≡ Greater → atom_cmp y x ≡ Less
lesser_back x y h = atoms_total.antisymm y x ∙ ap ordering_reverse h

greater_back : (p r : Path) → path_cmp r p ≡ Less → path_cmp p r ≡ Greater
greater_back p r h = paths_total.antisymm p r ∙ ap ordering_reverse h

-- the head a is taken: what is left of both goes on after it
take_head : (q : Path) (a : Atom) (rest : List Atom) (list : List Atom) (ps qs : List Path) → Fits q a → Goes (path_after q a) rest ps → list ≡ a ∷ rest → path_after q a ∷ ps ≡ qs → Goes q list qs
take_head q a rest list ps qs f g e h =
    subst (λ v. Goes q v qs) (sym e) (record { follows = (f, g.follows); are = ap (λ v. path_after q a ∷ v) g.are ∙ h })

merge_step : (x y : Atom) (xs ys : List Atom) → MergeAfter xs (y ∷ ys) → MergeAfter xs ys → MergeAfter (x ∷ xs) ys → MergeAfter (x ∷ xs) (y ∷ ys)
merge_step x y xs ys less both more q f g = by (atom_cmp x y) refl
  where
    by : (r : Ordering) → atom_cmp x y ≡ r → Merges q (x ∷ xs) (y ∷ ys)
    by Less e =
        let lesser : path_cmp (path_after q x) (path_after q y) ≡ Less = path_after-lesser q x y e f.0 g.0 in
        let there : Goes (path_after q x) (y ∷ ys) (paths_after q (y ∷ ys)) = Follows-later q (path_after q x) y ys f.0.later lesser g in
        let m : Merges (path_after q x) xs (y ∷ ys) = less (path_after q x) f.1 there.follows in
        take_head q x (greedy_merge atom_cmp xs (y ∷ ys)) _ _ _ f.0 m (greedy-less atom_cmp x y xs ys e)
        (ap (λ v. path_after q x ∷ greedy_merge path_cmp (paths_after (path_after q x) xs) v) there.are
        ∙ sym (greedy-less path_cmp (path_after q x) (path_after q y) (paths_after (path_after q x) xs) (paths_after (path_after q y) ys) lesser))
    by Equal e =
        let same : y ≡ x = sym (atoms_anti x y e) in
        let m : Merges (path_after q x) xs ys = both (path_after q x) f.1 (subst (λ v. Follows (path_after q v) ys) same g.1) in
        let tie : path_cmp (path_after q x) (path_after q y) ≡ Equal = ap (λ v. path_cmp (path_after q x) (path_after q v)) same ∙ tied_itself paths_total (path_after q x) in
        take_head q x (greedy_merge atom_cmp xs ys) _ _ _ f.0 m (greedy-equal atom_cmp x y xs ys e)
        (ap (λ v. path_after q x ∷ greedy_merge path_cmp (paths_after (path_after q x) xs) (paths_after (path_after q v) ys)) (sym same)
        ∙ sym (greedy-equal path_cmp (path_after q x) (path_after q y) (paths_after (path_after q x) xs) (paths_after (path_after q y) ys) tie))
    by Greater e =
        let lesser : path_cmp (path_after q y) (path_after q x) ≡ Less = path_after-lesser q y x (lesser_back x y e) g.0 f.0 in
        let there : Goes (path_after q y) (x ∷ xs) (paths_after q (x ∷ xs)) = Follows-later q (path_after q y) x xs g.0.later lesser f in
        let m : Merges (path_after q y) (x ∷ xs) ys = more (path_after q y) there.follows g.1 in
        take_head q y (greedy_merge atom_cmp (x ∷ xs) ys) _ _ _ g.0 m (greedy-greater atom_cmp x y xs ys e)
        (ap (λ v. path_after q y ∷ greedy_merge path_cmp v (paths_after (path_after q y) ys)) there.are
        ∙ sym (greedy-greater path_cmp (path_after q x) (path_after q y) (paths_after (path_after q x) xs) (paths_after (path_after q y) ys) (greater_back (path_after q x) (path_after q y) lesser)))

-- The greedy merge of two lists that may follow a path may follow it, and its paths are the merge of theirs.
pub merges : (xs ys : List Atom) → MergeAfter xs ys
merges = two_lists MergeAfter
    (λ ys q f g. record { follows = g; are = refl })
    (λ xs q f g. record { follows = subst (Follows q) (sym (greedy-right_empty atom_cmp xs)) f; are = ap (paths_after q) (greedy-right_empty atom_cmp xs) ∙ sym (greedy-right_empty path_cmp (paths_after q xs)) })
    merge_step
