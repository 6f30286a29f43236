-- A path as a list of its own: the paths of that list are the prefixes of the path.
use Rattle.std.proofs.Common.{◌≡◌, inl, inr, ◌↔◌, ℕ, zero, suc, ◌+◌, ◌-◌, ◌*◌, ◌<◌, ◌≤◌, Bool, true, false, cond, nat_le, List, [], ◌∷◌, ◌++◌, length, take, drop, sym, refl, ap, ◌∙◌, subst, arith, le_refl, le-leb, append_assoc, append-nil, take-append-drop, length-append}
use Rattle.std.specs.Prelude.{◌≢◌}
use Rattle.std.specs.List.{AllByRecursion}
use Rattle.std.proofs.lemmas.List.{take-take, take_all}
use Rattle.context_model.specs.Atoms.{Atom}
use Rattle.context_model.specs.Kinds.{HasKind, atom_of}
use Rattle.context_model.specs.Kinds.Kind.{Indexed}
use Rattle.context_model.specs.Orders.{Path, path_cmp, IsIn}
use Rattle.context_model.specs.Paths.{is_header, level, header_count, depth_after, path_after, paths_after, paths}
use Rattle.context_model.specs.WellFormed.{IsWellFormed}
use Rattle.context_model.specs.Ended.{IsBelow, field_path_from}
use Rattle.context_model.proofs.Following.{Follows, IsWellFormed-follows, IsWellFormed-from, path_after-marker, later_below, kinds_front, kinds_append}
use Rattle.context_model.proofs.PathPlaces.{header_path}

-- Each atom of p can follow the ones before it, and its path is all of them and it; q is before p.
abbrev pub Alone : Path → Path → Type 0
Alone q [] = Unit {0}
Alone q (a ∷ p) = (path_after q a ≡ q ++ a ∷ []) × (is_header a ≡ true → level a ≤ header_count q) × Alone (q ++ a ∷ []) p

alone_more : (q p : Path) (a : Atom) → Alone q p → path_after (q ++ p) a ≡ (q ++ p) ++ a ∷ [] → (is_header a ≡ true → level a ≤ header_count (q ++ p)) → Alone q (p ++ a ∷ [])
alone_more q [] a h e f = (
  subst (λ v. path_after v a ≡ v ++ a ∷ []) (append-nil q) e,
  subst (λ v. is_header a ≡ true → level a ≤ header_count v) (append-nil q) f,
  tt,
)
alone_more q (x ∷ p) a h e f = (
  h.0,
  h.1,
  alone_more (q ++ x ∷ []) p a h.2 (subst (λ v. path_after v a ≡ v ++ a ∷ []) (sym (append_assoc q (x ∷ []) p)) e)
      (subst (λ v. is_header a ≡ true → level a ≤ header_count v) (sym (append_assoc q (x ∷ []) p)) f),
)

alone_take : (n : ℕ) (q p : Path) → Alone q p → Alone q (take n p)
alone_take zero q p h = tt
alone_take (suc n) q [] h = tt
alone_take (suc n) q (a ∷ p) h = (h.0, h.1, alone_take n (q ++ a ∷ []) p h.2)

headers_taken : (n : ℕ) (q : Path) → n ≤ header_count q → header_count (take n q) ≡ n
headers_taken zero q h = refl
headers_taken (suc n) [] h = absurd (omega arith)
headers_taken (suc n) (a ∷ q) h = by (is_header a) h (λ l. headers_taken n q l)
  where
    by : (b : Bool) → suc n ≤ cond b (suc (header_count q)) 0 → (n ≤ header_count q → header_count (take n q) ≡ n) → cond b (suc (header_count (take n q))) 0 ≡ suc n
    by true l f = let e : header_count (take n q) ≡ n = f (omega arith) in omega arith
    by false l f = absurd (omega arith)

-- The next path is one of these, too.
alone_next : (q : Path) (a : Atom) → Alone [] q → (is_header a ≡ true → level a ≤ header_count q) → Alone [] (path_after q a)
alone_next q [] h f = subst (Alone []) (sym (path_after-marker q)) (alone_more [] q [] h (path_after-marker q) (λ e. cc))
alone_next q (b ∷ bytes) h f = by (nat_le 128 b) refl
  where
    a : Atom
    a = b ∷ bytes

    taken : (n : ℕ) (t : Bool) → nat_le 128 b ≡ t → cond t (level a) (header_count (take n q)) ≡ n → path_after (take n q) a ≡ take n q ++ a ∷ []
    taken n t e same =
        ap (λ v. take (cond v (level a) (header_count (take n q))) (take n q) ++ a ∷ []) e
        ∙ ap (λ v. take v (take n q) ++ a ∷ []) same ∙ ap (λ v. v ++ a ∷ []) (take-take n n q (le_refl n))

    by : (t : Bool) → nat_le 128 b ≡ t → Alone [] (take (cond t (level a) (header_count q)) q ++ a ∷ [])
    by true e =
        alone_more [] (take (level a) q) a (alone_take (level a) [] q h) (taken (level a) true e refl)
        (λ g. let same : header_count (take (level a) q) ≡ level a = headers_taken (level a) q (f e) in omega arith)
    by false e =
        alone_more [] (take (header_count q) q) a (alone_take (header_count q) [] q h)
        (taken (header_count q) false e (headers_taken (header_count q) q (le_refl (header_count q))))
        (λ g. let clash : true ≡ false = sym g ∙ e in cc)

alone_after : (q : Path) (list : List Atom) (p : Path) → Alone [] q → Follows q list → IsIn p (paths_after q list) → Alone [] p
alone_after q [] p h f none = elim none [ ]
alone_after q (a ∷ list) p h f (inl e) = subst (Alone []) (sym e) (alone_next q a h f.0.level)
alone_after q (a ∷ list) p h f (inr i) = alone_after (path_after q a) list p (alone_next q a h f.0.level) f.1 i

-- Each path of a well-formed list is such a path.
pub paths_alone : (list : List Atom) (p : Path) → IsWellFormed list → IsIn p (paths list) → Alone [] p
paths_alone list p w i = alone_after [] list p tt (IsWellFormed-follows list w) i

kinds_taken : (n : ℕ) (q : Path) → AllByRecursion HasKind q → AllByRecursion HasKind (take n q)
kinds_taken n q h = kinds_front (take n q) (drop n q) (subst (AllByRecursion HasKind) (sym (take-append-drop n q)) h)

kinds_after : (q : Path) (list : List Atom) (p : Path) → AllByRecursion HasKind q → AllByRecursion HasKind list → IsIn p (paths_after q list) → AllByRecursion HasKind p
kinds_after q [] p h k none = elim none [ ]
kinds_after q (a ∷ list) p h k (inl e) = subst (AllByRecursion HasKind) (sym e) (kinds_append (take (depth_after q a) q) (a ∷ []) (kinds_taken (depth_after q a) q h) (k.0, tt))
kinds_after q (a ∷ list) p h k (inr i) = kinds_after (path_after q a) list p (kinds_append (take (depth_after q a) q) (a ∷ []) (kinds_taken (depth_after q a) q h) (k.0, tt)) k.1 i

-- Each atom of a path of a well-formed list has a kind.
pub paths_kinds : (list : List Atom) (p : Path) → IsWellFormed list → IsIn p (paths list) → AllByRecursion HasKind p
paths_kinds list p w i = kinds_after [] list p tt w.kinds i

-- No path of a list is empty.
pub paths_some : (q : Path) (list : List Atom) (p : Path) → IsIn p (paths_after q list) → p ≢ []
paths_some q [] p none e = elim none [ ]
paths_some q (a ∷ list) p (inl i) e = some (take (depth_after q a) q) (sym i ∙ e)
  where
    some : (r : Path) → r ++ a ∷ [] ≡ [] → ⊥
    some [] f = cc
    some (x ∷ r) f = cc
paths_some q (a ∷ list) p (inr i) e = paths_some (path_after q a) list p i e

-- ---- as a list

pub follows_alone : (q p : Path) → Alone q p → Follows q p
follows_alone q [] h = tt
follows_alone q (a ∷ p) h = (
  record { level = h.1; later = ap (path_cmp q) h.0 ∙ later_below q a },
  subst (λ v. Follows v p) (sym h.0) (follows_alone (q ++ a ∷ []) p h.2),
)

pub alone_well_formed : (p : Path) → Alone [] p → AllByRecursion HasKind p → IsWellFormed p
alone_well_formed p h k = IsWellFormed-from p k (follows_alone [] p h)

fronts_there : (q p r : Path) → Alone q p → IsIn r (paths_after q p) → (f : Path) × (f ≢ []) × IsBelow f p × (r ≡ q ++ f)
fronts_there q [] r h none = elim none [ ]
fronts_there q (a ∷ p) r h (inl e) = (a ∷ [], (λ c. cc), (p, refl), e ∙ h.0)
fronts_there q (a ∷ p) r h (inr i) =
    let s = fronts_there (q ++ a ∷ []) p r h.2 (subst (λ v. IsIn r (paths_after v p)) h.0 i) in
    (a ∷ s.0, (λ c. cc), (s.2.0, ap (λ v. a ∷ v) s.2.1), s.3 ∙ append_assoc q (a ∷ []) s.0)

fronts_back : (q p f : Path) → Alone q p → f ≢ [] → IsBelow f p → IsIn (q ++ f) (paths_after q p)
fronts_back q p [] h some b = absurd (some refl)
fronts_back q [] (x ∷ f) h some (rest, e) = cc
fronts_back q (a ∷ p) (x ∷ []) h some (rest, e) = let same : x ≡ a = cc in inl (ap (λ v. q ++ v ∷ []) same ∙ sym h.0)
fronts_back q (a ∷ p) (x ∷ y ∷ f) h some (rest, e) =
    let same : a ≡ x = cc in
    let tail : p ≡ (y ∷ f) ++ rest = cc in
    inr (subst (λ v. IsIn (q ++ x ∷ y ∷ f) (paths_after v p)) (sym h.0)
    (subst (λ v. IsIn v (paths_after (q ++ a ∷ []) p)) (append_assoc q (a ∷ []) (y ∷ f) ∙ ap (λ v. q ++ v ∷ y ∷ f) same)
    (fronts_back (q ++ a ∷ []) p (y ∷ f) h.2 (λ c. cc) (rest, tail))))

-- The paths of the list are the prefixes of the path.
pub paths_own : (p q : Path) → Alone [] p → IsIn q (paths p) ↔ ((q ≢ []) × IsBelow q p)
paths_own p q h = (
  (λ i. let s = fronts_there [] p q h i in (subst (λ v. v ≢ []) (sym s.3) s.1, subst (λ v. IsBelow v p) (sym s.3) s.2)),
  λ b. fronts_back [] p q h b.0 b.1,
)

-- ---- of fields

indexed_level : (n number : ℕ) → n < 16 → level (atom_of (Indexed n number)) ≡ n
indexed_level n number l = omega (arith, l)

indexed_header : (n number : ℕ) → n < 16 → is_header (atom_of (Indexed n number)) ≡ true
indexed_header n number l = le-leb 128 (248 - 8 * n) (omega arith)

counted_more : (q : Path) (a : Atom) → is_header a ≡ true → header_count q ≡ length q → header_count (q ++ a ∷ []) ≡ suc (length q)
counted_more [] a e h = ap (λ b. cond b 1 0) e
counted_more (x ∷ q) a e h = by (is_header x) h (λ g. counted_more q a e g)
  where
    by : (b : Bool) → cond b (suc (header_count q)) 0 ≡ suc (length q) → (header_count q ≡ length q → header_count (q ++ a ∷ []) ≡ suc (length q))
        → cond b (suc (header_count (q ++ a ∷ []))) 0 ≡ suc (suc (length q))
    by true g f = ap suc (f (omega arith))
    by false g f = absurd (omega arith)

-- The path of a field is such a path.
pub fields_alone : (q : Path) (n : ℕ) (numbers : List ℕ) → length q ≡ n → header_count q ≡ n → n + length numbers ≤ 16 → Alone q (field_path_from n numbers)
fields_alone q n [] l h few = tt
fields_alone q n (number ∷ numbers) l h few = (
  header_path q a (indexed_header n number (omega (arith, few))) ∙ ap (λ v. v ++ a ∷ []) (take_all (level a) q (omega (arith, indexed_level n number (omega (arith, few)), l))),
  (λ e. omega (arith, indexed_level n number (omega (arith, few)), h)),
  fields_alone (q ++ a ∷ []) (suc n) numbers (omega (arith, length-append q (a ∷ []), l))
      (counted_more q a (indexed_header n number (omega (arith, few))) (h ∙ sym l) ∙ ap suc l) (omega (arith, few)),
)
  where
    a : Atom
    a = atom_of (Indexed n number)

-- And so with a marker after it.
pub fields_marked : (numbers : List ℕ) → length numbers ≤ 16 → Alone [] (field_path_from 0 numbers ++ [] ∷ [])
fields_marked numbers few = alone_more [] (field_path_from 0 numbers) [] (fields_alone [] 0 numbers refl refl (omega (arith, few))) (path_after-marker (field_path_from 0 numbers)) (λ e. cc)
