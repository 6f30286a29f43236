-- Which headers in the gap before a slot lead to it: those of its own path, one level after another.
use Rattle.std.proofs.Common.{◌≡◌, ◌⊎◌, inl, inr, ℕ, zero, suc, ◌+◌, ◌-◌, ◌*◌, ◌<◌, ◌≤◌, true, List, [], ◌∷◌, ◌++◌, length, get_or, take, drop, Ordering, Less, Equal, Greater, sym, refl, ap, ◌∙◌, subst, arith, take-append-drop, length-append}
use Rattle.std.specs.List.{AllByRecursion}
use Rattle.std.specs.Ordering.{ordering_then, ordering_reverse}
use Rattle.std.proofs.lemmas.Bool.{cases_lt, cases_order}
use Rattle.std.proofs.lemmas.Cmp.{tied_itself}
use Rattle.std.proofs.lemmas.List.{take-take, length-take-le}
use Rattle.context_model.specs.Atoms.{Atom}
use Rattle.context_model.specs.Kinds.{atom_of}
use Rattle.context_model.specs.Kinds.Kind.{Indexed}
use Rattle.context_model.specs.Orders.{Path, atom_cmp, path_cmp}
use Rattle.context_model.specs.Paths.{is_header, level, header_count, depth_after, atom_at, path_before, path_at}
use Rattle.context_model.specs.Varints.{unsigned_varint}
use Rattle.context_model.specs.WellFormed.{IsWellFormed}
use Rattle.context_model.specs.Ended.{IsBelow, IsBeyond, field_path_from, field_path}
use Rattle.context_model.proofs.OrderLaws.{atoms_total, atoms_anti}
use Rattle.context_model.proofs.Beyond.{beyond_none, beyond_less, beyond_same, beyond_cases}
use Rattle.context_model.proofs.FieldPaths.{length-field_path}
use Rattle.context_model.proofs.Following.{header_count-length}
use Rattle.context_model.proofs.PathPlaces.{header_path}
use Rattle.context_model.proofs.MergedLaws.{same_end}
use Rattle.context_model.proofs.PlacesOf.{path_at-next, last_is}
use Rattle.context_model.proofs.VarintLaws.{unsigned_varint-injective}
use Rattle.bag_walks.proofs.Inside.{fits_there}
use Rattle.bag_walks.proofs.Sets.{index_header}
use Rattle.keep_calls.specs.Walk.{AreShared, IsHeaderToSlot, LeadOn}
use Rattle.keep_calls.proofs.NextHeaders.{IsWide}
use Rattle.keep_calls.proofs.SlotGaps.{below_onwards}
use Rattle.keep_calls.proofs.GapParts.{not_before_front}

-- ---- prefixes of lists

same_front : (u v s t : Path) → length u ≡ length v → u ++ s ≡ v ++ t → u ≡ v
same_front [] [] s t l e = refl
same_front [] (y ∷ v) s t l e = absurd (omega arith)
same_front (x ∷ u) [] s t l e = absurd (omega arith)
same_front (x ∷ u) (y ∷ v) s t l e =
    let same : x ≡ y = cc in
    let tail : u ++ s ≡ v ++ t = cc in
    let rest : u ≡ v = same_front u v s t (omega (arith, l)) tail in
    λ i. same i ∷ rest i

take_below : (n : ℕ) (q : Path) → IsBelow (take n q) q
take_below n q = (drop n q, sym (take-append-drop n q))

-- ---- the path of a field, level by level

take_field : (n : ℕ) (numbers : List ℕ) (k : ℕ) → k < length numbers
    → take (suc k) (field_path_from n numbers) ≡ take k (field_path_from n numbers) ++ atom_of (Indexed (n + k) (get_or numbers k 0)) ∷ []
take_field n [] k l = absurd (omega arith)
take_field n (number ∷ numbers) zero l = ap (λ m. atom_of (Indexed m number) ∷ []) (let e : n ≡ n + zero = omega arith in e)
take_field n (number ∷ numbers) (suc k) l =
    ap (λ v. atom_of (Indexed n number) ∷ v)
    (take_field (suc n) numbers k (omega (arith, l)) ∙ ap (λ m. take k (field_path_from (suc n) numbers) ++ atom_of (Indexed m (get_or numbers k 0)) ∷ []) (let e : suc n + k ≡ n + suc k = omega arith in e))

-- ---- where two paths part

-- Both have this prefix, and then the first has the lesser atom.
pub record Parts (a b front : Path) : Type 0 where
  pub x : Atom
  pub y : Atom
  pub r : Path
  pub s : Path
  pub first : a ≡ front ++ x ∷ r
  pub second : b ≡ front ++ y ∷ s
  pub less : atom_cmp x y ≡ Less

one_less : (first second count : ℕ) (cs bs : List ℕ) → AreShared (first ∷ cs) (second ∷ bs) (suc count) → AreShared cs bs count
one_less first second count cs bs h = record {
  first = omega (arith, h.first);
  second = omega (arith, h.second);
  same = λ k l. h.same (suc k) (omega (arith, l));
  ends = λ l m. h.ends (omega (arith, l)) (omega (arith, m));
}

-- Where one of two paths of fields comes first and the other isn't below it, they part at the first
-- number that isn't shared.
pub parts_at : (n : ℕ) (cs bs : List ℕ) (count : ℕ) → AreShared cs bs count → AllByRecursion IsWide cs → AllByRecursion IsWide bs
    → path_cmp (field_path_from n cs) (field_path_from n bs) ≡ Less → (IsBelow (field_path_from n cs) (field_path_from n bs) → ⊥)
    → Parts (field_path_from n cs) (field_path_from n bs) (take count (field_path_from n bs))
parts_at n [] bs count h v w l apart = absurd (apart (field_path_from n bs, refl))
parts_at n (a ∷ cs) [] count h v w l apart = let clash : Greater ≡ Less = l in cc
parts_at n (a ∷ cs) (b ∷ bs) zero h v w l apart = by (atom_cmp (atom_of (Indexed n a)) (atom_of (Indexed n b))) refl l
  where
    by : (o : Ordering) → atom_cmp (atom_of (Indexed n a)) (atom_of (Indexed n b)) ≡ o → ordering_then o (path_cmp (field_path_from (suc n) cs) (field_path_from (suc n) bs)) ≡ Less
        → Parts (field_path_from n (a ∷ cs)) (field_path_from n (b ∷ bs)) []
    by Less e m = record { x = atom_of (Indexed n a); y = atom_of (Indexed n b); r = field_path_from (suc n) cs; s = field_path_from (suc n) bs; first = refl; second = refl; less = e }
    by Equal e m =
        let atoms : (248 - 8 * n) ∷ unsigned_varint a ≡ (248 - 8 * n) ∷ unsigned_varint b = atoms_anti (atom_of (Indexed n a)) (atom_of (Indexed n b)) e in
        let codes : unsigned_varint a ≡ unsigned_varint b = cc in
        absurd (h.ends (omega arith) (omega arith) (unsigned_varint-injective a b v.0 w.0 codes))
    by Greater e m = cc
parts_at n (a ∷ cs) (b ∷ bs) (suc count) h v w l apart =
    by (parts_at (suc n) cs bs count (one_less a b count cs bs h) v.1 w.1 (ap (λ o. ordering_then o (path_cmp (field_path_from (suc n) cs) (field_path_from (suc n) bs))) (sym tie) ∙ l)
    (λ (r, e). apart (r, λ i. sym head i ∷ e i)))
  where
    same : a ≡ b
    same = h.same 0 (omega arith)

    head : atom_of (Indexed n a) ≡ atom_of (Indexed n b)
    head = ap (λ m. atom_of (Indexed n m)) same

    tie : atom_cmp (atom_of (Indexed n a)) (atom_of (Indexed n b)) ≡ Equal
    tie = ap (λ v. atom_cmp (atom_of (Indexed n a)) v) (sym head) ∙ tied_itself atoms_total (atom_of (Indexed n a))

    by : Parts (field_path_from (suc n) cs) (field_path_from (suc n) bs) (take count (field_path_from (suc n) bs))
        → Parts (field_path_from n (a ∷ cs)) (field_path_from n (b ∷ bs)) (atom_of (Indexed n b) ∷ take count (field_path_from (suc n) bs))
    by p = record { x = p.x; y = p.y; r = p.r; s = p.s; first = λ i. head i ∷ p.first i; second = λ i. atom_of (Indexed n b) ∷ p.second i; less = p.less }

-- What is beyond the first path and before the second has the prefix of both, and more.
pub between_parts : (front : Path) (x y : Atom) (r s p : Path) → IsBeyond (front ++ x ∷ r) p → path_cmp p (front ++ y ∷ s) ≡ Less → (z : Atom) × (t : Path) × (p ≡ front ++ z ∷ t)
between_parts [] x y r s [] b l = absurd (beyond_none (x ∷ r) b)
between_parts [] x y r s (z ∷ t) b l = (z, t, refl)
between_parts (w ∷ front) x y r s [] b l = absurd (beyond_none (w ∷ front ++ x ∷ r) b)
between_parts (w ∷ front) x y r s (v ∷ p) b l = by (beyond_cases w v (front ++ x ∷ r) p b) (λ c m. between_parts front x y r s p c m)
  where
    by : (atom_cmp w v ≡ Less) ⊎ ((w ≡ v) × IsBeyond (front ++ x ∷ r) p)
        → (IsBeyond (front ++ x ∷ r) p → path_cmp p (front ++ y ∷ s) ≡ Less → (z : Atom) × (t : Path) × (p ≡ front ++ z ∷ t)) → (z : Atom) × (t : Path) × (v ∷ p ≡ w ∷ front ++ z ∷ t)
    by (inl less) deeper =
        let back : atom_cmp v w ≡ Greater = atoms_total.antisymm v w ∙ ap ordering_reverse less in
        let clash : Greater ≡ Less = ap (λ o. ordering_then o (path_cmp p (front ++ y ∷ s))) (sym back) ∙ l in
        absurd (cc)
    by (inr h) deeper =
        let tie : atom_cmp v w ≡ Equal = ap (atom_cmp v) h.0 ∙ tied_itself atoms_total v in
        let d = deeper h.1 (ap (λ o. ordering_then o (path_cmp p (front ++ y ∷ s))) (sym tie) ∙ l) in
        (d.0, d.1, λ i. sym h.0 i ∷ d.2 i)

-- What is below the second path's first atom after that prefix is beyond the first path.
pub beyond_parts : (front : Path) (x y : Atom) (r q : Path) → atom_cmp x y ≡ Less → IsBelow (front ++ y ∷ []) q → IsBeyond (front ++ x ∷ r) q
beyond_parts [] x y r q l (t, e) = subst (IsBeyond (x ∷ r)) (sym e) (beyond_less x y r t l)
beyond_parts (w ∷ front) x y r [] l (t, e) = cc
beyond_parts (w ∷ front) x y r (v ∷ q) l (t, e) =
    let same : v ≡ w = cc in
    let tail : q ≡ (front ++ y ∷ []) ++ t = cc in
    subst (λ u. IsBeyond (w ∷ front ++ x ∷ r) (u ∷ q)) (sym same) (beyond_same w (front ++ x ∷ r) q (beyond_parts front x y r q l (t, tail)))

-- ---- the walk over a gap

-- What is known of the atoms from one place up to another, before the path of the numbers: all are
-- below its first `shared` headers, and the atom before them not below one header more.
pub record IsWay (list : List Atom) (numbers : List ℕ) (shared from to : ℕ) : Type 0 where
  pub well_formed : IsWellFormed list
  pub within : to ≤ length list
  pub few : length numbers ≤ 16
  pub some : shared < length numbers
  pub inside : (k : ℕ) → from ≤ k → k < to → (z : Atom) × (t : Path) × (path_at list k ≡ take shared (field_path numbers) ++ z ∷ t)
  pub outside : IsBelow (take (suc shared) (field_path numbers)) (path_before list from) → ⊥

module _ (list : List Atom) (numbers : List ℕ) (shared from to : ℕ) (way : IsWay list numbers shared from to) where
  long : length (field_path numbers) ≡ length numbers
  long = length-field_path 0 numbers

  header : (k : ℕ) → k < length numbers → take (suc k) (field_path numbers) ≡ take k (field_path numbers) ++ atom_of (Indexed k (get_or numbers k 0)) ∷ []
  header k l = take_field 0 numbers k l ∙ ap (λ m. take k (field_path numbers) ++ atom_of (Indexed m (get_or numbers k 0)) ∷ []) (let e : 0 + k ≡ k = omega arith in e)

  -- the path before the place is that of the first `shared + j` headers, or the place is the first
  abbrev HasCome : ℕ → Type 0
  HasCome j = (path_before list (from + j) ≡ take (shared + j) (field_path numbers)) ⊎ (j ≡ 0)

  -- A header of the numbers that comes next has the path of one header more.
  next_header : (j : ℕ) → from + j < to → HasCome j → IsHeaderToSlot list numbers (shared + j) (from + j) → path_at list (from + j) ≡ take (suc (shared + j)) (field_path numbers)
  next_header j l come (less, is) = by come
    where
      within_list : from + j < length list
      within_list = omega (arith, l, way.within)

      atom : Atom
      atom = atom_of (Indexed (shared + j) (get_or numbers (shared + j) 0))

      low : shared + j < 16
      low = omega (arith, less, way.few)

      opens : is_header (atom_at list (from + j)) ≡ true
      opens = ap is_header is ∙ (index_header (shared + j) (get_or numbers (shared + j) 0) low).0

      deep : level (atom_at list (from + j)) ≡ shared + j
      deep = ap level is ∙ (index_header (shared + j) (get_or numbers (shared + j) 0) low).1

      path : path_at list (from + j) ≡ take (shared + j) (path_before list (from + j)) ++ atom ∷ []
      path =
          path_at-next list (from + j) within_list ∙ header_path (path_before list (from + j)) (atom_at list (from + j)) opens
          ∙ ap (λ n. take n (path_before list (from + j)) ++ atom_at list (from + j) ∷ []) deep ∙ ap (λ a. take (shared + j) (path_before list (from + j)) ++ a ∷ []) is

      by : HasCome j → path_at list (from + j) ≡ take (suc (shared + j)) (field_path numbers)
      by (inl e) =
          path ∙ ap (λ q. take (shared + j) q ++ atom ∷ []) e
          ∙ ap (λ q. q ++ atom ∷ []) (take-take (shared + j) (shared + j) (field_path numbers) (omega arith)) ∙ sym (header (shared + j) less)
      by (inr e) =
          let s = way.inside (from + j) (omega arith) l in
          let up : level (atom_at list (from + j)) ≤ header_count (path_before list (from + j)) = (fits_there list (from + j) way.well_formed within_list).level opens in
          let reach : shared + j ≤ length (path_before list (from + j)) = omega (arith, up, deep, header_count-length (path_before list (from + j))) in
          let front : take (shared + j) (path_before list (from + j)) ≡ take shared (field_path numbers) =
          same_front (take (shared + j) (path_before list (from + j))) (take shared (field_path numbers)) (atom ∷ []) (s.0 ∷ s.1)
          (length-take-le (shared + j) (path_before list (from + j)) reach ∙ omega (arith, e, length-take-le shared (field_path numbers) (omega (arith, long, way.some)))) (sym path ∙ s.2) in
          path ∙ ap (λ q. q ++ atom ∷ []) front
          ∙ ap (λ n. take n (field_path numbers) ++ atom ∷ []) (let f : shared ≡ shared + j = omega (arith, e) in f) ∙ sym (header (shared + j) less)

  come_to : (j : ℕ) → from + j ≤ to → ((i : ℕ) → i < j → IsHeaderToSlot list numbers (shared + i) (from + i)) → HasCome j
  come_to zero l h = inr refl
  come_to (suc j) l h =
      inl (ap (path_before list) (let e : from + suc j ≡ from + j + 1 = omega arith in e)
      ∙ next_header j (omega (arith, l)) (come_to j (omega (arith, l)) (λ i m. h i (omega (arith, m)))) (h j (omega arith))
      ∙ ap (λ n. take n (field_path numbers)) (let e : suc (shared + j) ≡ shared + suc j = omega arith in e))

  -- Where all are headers of the numbers, each leads on.
  pub all_lead : LeadOn list numbers shared from to → (k : ℕ) → from ≤ k → k < to → IsBelow (path_at list k) (field_path numbers)
  all_lead h k l m =
      let j : ℕ = k - from in
      let place : from + j ≡ k = omega (arith, l) in
      let is = next_header j (omega (arith, m, place)) (come_to j (omega (arith, m, place)) (λ i less. h i (omega (arith, less, m, place)))) (h j (omega (arith, m, place))) in
      subst (λ n. IsBelow (path_at list n) (field_path numbers)) place (subst (λ q. IsBelow q (field_path numbers)) (sym is) (take_below (suc (shared + j)) (field_path numbers)))

  -- The first of them that isn't one doesn't lead on.
  module _ (j : ℕ) (l : from + j < to) (come : HasCome j) (other : IsHeaderToSlot list numbers (shared + j) (from + j) → ⊥) (below : IsBelow (path_at list (from + j)) (field_path numbers)) where
    q : Path
    q = path_before list (from + j)

    p : Path
    p = path_at list (from + j)

    within_list : from + j < length list
    within_list = omega (arith, l, way.within)

    -- the last of its headers
    last_level : (m : ℕ) → length (path_at list (from + j)) ≡ suc m
        → (m < length numbers) × (path_at list (from + j) ≡ take m (field_path numbers) ++ atom_of (Indexed m (get_or numbers m 0)) ∷ [])
    last_level m e =
        let less : m < length numbers = omega (arith, e, long, length-append (path_at list (from + j)) below.0, ap length below.1) in
        let is : path_at list (from + j) ≡ take (suc m) (field_path numbers) =
        same_front (path_at list (from + j)) (take (suc m) (field_path numbers)) below.0 (drop (suc m) (field_path numbers))
        (e ∙ sym (length-take-le (suc m) (field_path numbers) (omega (arith, less, long)))) (sym below.1 ∙ sym (take-append-drop (suc m) (field_path numbers))) in
        (less, is ∙ header m less)

    refuted : (m : ℕ) → length (path_at list (from + j)) ≡ suc m → ⊥
    refuted m e = by come
      where
        s : (m < length numbers) × (path_at list (from + j) ≡ take m (field_path numbers) ++ atom_of (Indexed m (get_or numbers m 0)) ∷ [])
        s = last_level m e

        header_atom : Atom
        header_atom = atom_of (Indexed m (get_or numbers m 0))

        atom : atom_at list (from + j) ≡ header_atom
        atom = last_is list (from + j) (take m (field_path numbers)) header_atom within_list s.1

        low : m < 16
        low = omega (arith, s.0, way.few)

        opens : is_header (atom_at list (from + j)) ≡ true
        opens = ap is_header atom ∙ (index_header m (get_or numbers m 0) low).0

        deep : level (atom_at list (from + j)) ≡ m
        deep = ap level atom ∙ (index_header m (get_or numbers m 0) low).1

        path : path_at list (from + j) ≡ take m (path_before list (from + j)) ++ atom_at list (from + j) ∷ []
        path =
            path_at-next list (from + j) within_list ∙ header_path (path_before list (from + j)) (atom_at list (from + j)) opens
            ∙ ap (λ n. take n (path_before list (from + j)) ++ atom_at list (from + j) ∷ []) deep

        -- as many headers are the same before it
        before : take m (path_before list (from + j)) ≡ take m (field_path numbers)
        before = (same_end (take m (path_before list (from + j))) (take m (field_path numbers)) (atom_at list (from + j)) header_atom (sym path ∙ s.1)).0

        reach : m ≤ length (path_before list (from + j))
        reach =
            let up : level (atom_at list (from + j)) ≤ header_count (path_before list (from + j)) = (fits_there list (from + j) way.well_formed within_list).level opens in
            omega (arith, up, deep, header_count-length (path_before list (from + j)))

        later : path_cmp (path_before list (from + j)) (path_at list (from + j)) ≡ Less
        later = subst (λ v. path_cmp (path_before list (from + j)) v ≡ Less) (sym (path_at-next list (from + j) within_list)) (fits_there list (from + j) way.well_formed within_list).later

        whole : path_at list (from + j) ≡ take (suc m) (field_path numbers)
        whole = s.1 ∙ sym (header m s.0)

        is_one : m ≡ shared + j → ⊥
        is_one same = other (subst (λ n. IsHeaderToSlot list numbers n (from + j)) same (s.0, atom))

        -- a prefix that is no longer than the path before doesn't come after it
        no_shorter : (n : ℕ) → path_before list (from + j) ≡ take n (field_path numbers) → suc m ≤ n → ⊥
        no_shorter n e' le =
            let front : take (suc m) (path_before list (from + j)) ≡ path_at list (from + j) = ap (take (suc m)) e' ∙ take-take (suc m) n (field_path numbers) le ∙ sym whole in
            let rest : path_before list (from + j) ≡ path_at list (from + j) ++ drop (suc m) (path_before list (from + j)) =
            sym (take-append-drop (suc m) (path_before list (from + j))) ∙ ap (λ v. v ++ drop (suc m) (path_before list (from + j))) front in
            not_before_front (path_at list (from + j)) (drop (suc m) (path_before list (from + j))) (subst (λ v. path_cmp v (path_at list (from + j)) ≡ Less) rest later)

        no_longer : (n : ℕ) → path_before list (from + j) ≡ take n (field_path numbers) → m ≤ n
        no_longer n e' = elim (cases_lt n (length numbers)) [
          | inl less ↦ omega (arith, reach, ap length e', length-take-le n (field_path numbers) (omega (arith, less, long)))
          | inr more ↦ omega (arith, s.0, more)
        ]

        by : HasCome j → ⊥
        by (inl c) = elim (cases_order m (shared + j)) [
          | inl same ↦ is_one same
          | inr (inl less) ↦ no_shorter (shared + j) c less
          | inr (inr more) ↦ (let most = no_longer (shared + j) c in absurd (omega (arith, most, more)))
        ]
        by (inr c) =
            let a = way.inside (from + j) (omega arith) l in
            let least : shared ≤ m = omega (
              arith,
              e,
              ap length a.2,
              length-append (take shared (field_path numbers)) (a.0 ∷ a.1),
              length-take-le shared (field_path numbers) (omega (arith, long, way.some)),
            ) in
            elim (cases_lt shared m) [
              | inl less ↦ (let front : take (suc shared) (take m (field_path numbers)) ≡ take (suc shared) (field_path numbers) = take-take (suc shared) m (field_path numbers) less in
                  let first : IsBelow (take (suc shared) (field_path numbers)) (take m (field_path numbers)) = subst (λ v. IsBelow v (take m (field_path numbers))) front (take_below (suc shared) (take m (field_path numbers))) in
                  let second : IsBelow (take m (field_path numbers)) (path_before list (from + j)) = subst (λ v. IsBelow v (path_before list (from + j))) before (take_below m (path_before list (from + j))) in
                  way.outside (subst (λ n. IsBelow (take (suc shared) (field_path numbers)) (path_before list n)) (let f : from + j ≡ from = omega (arith, c) in f)
                  (below_onwards (take (suc shared) (field_path numbers)) (take m (field_path numbers)) (path_before list (from + j)) first second)))
              | inr more ↦ is_one (omega (arith, c, least, more))
            ]

    pub not_lead : ⊥
    not_lead = by (length (path_at list (from + j))) refl
      where
        by : (n : ℕ) → length (path_at list (from + j)) ≡ n → ⊥
        by zero e =
            omega (
              arith,
              sym (ap length (path_at-next list (from + j) within_list)) ∙ e,
              length-append (take (depth_after (path_before list (from + j)) (atom_at list (from + j))) (path_before list (from + j))) (atom_at list (from + j) ∷ []),
            )
        by (suc m) e = refuted m e

  -- So where not all are headers of the numbers, one doesn't lead on.
  pub one_leads_off : (j : ℕ) → from + j < to → LeadOn list numbers shared from (from + j) → (IsHeaderToSlot list numbers (shared + j) (from + j) → ⊥) → IsBelow (path_at list (from + j)) (field_path numbers) → ⊥
  one_leads_off j l h other below = not_lead j l (come_to j (omega (arith, l)) (λ i m. h i (omega (arith, m)))) other below
