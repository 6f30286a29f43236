-- What a step of taking atoms out of a list leaves.
use Rattle.std.proofs.Common.{◌≡◌, ℕ, zero, suc, ◌+◌, ◌<◌, ◌≤◌, ◌==◌, ◌||◌, None, slice_get, Bool, true, false, cond, List, [], ◌∷◌, ◌++◌, length, length-append, take, drop, get_or, set, Less, refl, sym, ◌∙◌, ap, arith, eq-eqb, ne_eqb, ◌⊎◌, inl, inr}
use Rattle.std.specs.List.{list_any}
use Rattle.std.specs.Ordering.{nat_cmp}
use Rattle.std.proofs.lemmas.Bool.{cases_eq, cases_order}
use Rattle.std.proofs.lemmas.Cmp.{ranked}
use Rattle.std.proofs.lemmas.List.{take_more, take_more_set, drop-set-lt, append-nil, drop_more, length-set, length-map, map-set, get_or-map, take-map, take_all}
use Rattle.std.proofs.lemmas.Option.{slice_get_within}
use Rattle.context_model.specs.declared.Form.TheVariants.{One}
use Rattle.context_model.specs.Atoms.{Atom}
use Rattle.context_model.specs.Framing.{frame, frames}
use Rattle.context_model.specs.Orders.{Rises}
use Rattle.atom_list.specs.Starts.{atom_framed_at, atoms_at}
use Rattle.context_model.specs.WithoutData.{without_from, without, AreDataPlaces}

-- ---- numbers that rise

rises_behind : (x : ℕ) (gone : List ℕ) → Rises nat_cmp (x ∷ gone) → (k : ℕ) → k < length gone → x < get_or gone k 0
rises_behind x [] rises k below = absurd (omega arith)
rises_behind x (y ∷ gone) rises zero below = ranked x y Less (sym rises.0)
rises_behind x (y ∷ gone) rises (suc k) below =
    let first : x < y = ranked x y Less (sym rises.0) in
    let rest : y < get_or gone k 0 = rises_behind y gone rises.1 k (omega arith) in
    omega arith

pub rises_by_places : (gone : List ℕ) → Rises nat_cmp gone → (i k : ℕ) → i < k → k < length gone → get_or gone i 0 < get_or gone k 0
rises_by_places [] rises i k less below = absurd (omega arith)
rises_by_places (x ∷ gone) rises i zero less below = absurd (omega arith)
rises_by_places (x ∷ gone) rises zero (suc k) less below = rises_behind x gone rises k (omega arith)
rises_by_places (x ∷ []) rises (suc i) (suc k) less below = absurd (omega arith)
rises_by_places (x ∷ y ∷ gone) rises (suc i) (suc k) less below = rises_by_places (y ∷ gone) rises.1 i k (omega arith) (omega arith)

-- ---- whether a place is gone

pub gone_there : (gone : List ℕ) (at k : ℕ) → k < length gone → get_or gone k 0 ≡ at → list_any (λ place. place == at) gone ≡ true
gone_there [] at k below e = absurd (omega arith)
gone_there (x ∷ gone) at zero below e = ap (λ b. b || list_any (λ place. place == at) gone) (eq-eqb x at e)
gone_there (x ∷ gone) at (suc k) below e = or_true (x == at) (list_any (λ place. place == at) gone) (gone_there gone at k (omega arith) e)
  where
    or_true : (a b : Bool) → b ≡ true → (a || b) ≡ true
    or_true true b e = refl
    or_true false b e = e

pub gone_nowhere : (gone : List ℕ) (at : ℕ) → ((k : ℕ) → k < length gone → get_or gone k 0 ≡ at → ⊥) → list_any (λ place. place == at) gone ≡ false
gone_nowhere [] at none = refl
gone_nowhere (x ∷ gone) at none =
    ap (λ b. b || list_any (λ place. place == at) gone) (ne_eqb x at (none 0 (omega arith)))
    ∙ gone_nowhere gone at (λ k below. none (suc k) (omega arith))

-- ---- one atom more

without_from-more : (i : ℕ) (gone : List ℕ) (list : List Atom) (a : Atom)
    → without_from i gone (list ++ a ∷ []) ≡ without_from i gone list ++ cond (list_any (λ place. place == (i + length list)) gone) [] (a ∷ [])
without_from-more i gone [] a = let e : i ≡ i + 0 = omega arith in ap (λ n. cond (list_any (λ place. place == n) gone) [] (a ∷ [])) e
without_from-more i gone (x ∷ list) a =
    ap (λ v. cond (list_any (λ place. place == i) gone) v (x ∷ v)) (without_from-more (i + 1) gone list a ∙ ap (λ n. without_from (i + 1) gone list ++ cond (list_any (λ place. place == n) gone) [] (a ∷ [])) index)
    ∙ by (list_any (λ place. place == i) gone)
  where
    index : i + 1 + length list ≡ i + suc (length list)
    index = omega arith

    by : (b : Bool) → cond b (without_from (i + 1) gone list ++ cond (list_any (λ place. place == (i + suc (length list))) gone) [] (a ∷ [])) (x ∷ (without_from (i + 1) gone list ++ cond (list_any (λ place. place == (i + suc (length list))) gone) [] (a ∷ [])))
        ≡ cond b (without_from (i + 1) gone list) (x ∷ without_from (i + 1) gone list) ++ cond (list_any (λ place. place == (i + suc (length list))) gone) [] (a ∷ [])
    by true = refl
    by false = refl

without-next : (gone : List ℕ) (list : List Atom) (at : ℕ) → at < length list
    → without gone (take (at + 1) list) ≡ without gone (take at list) ++ cond (list_any (λ place. place == at) gone) [] (get_or list at [] ∷ [])
without-next gone list at within =
    ap (without gone) (take_more list at [] within)
    ∙ without_from-more 0 gone (take at list) (get_or list at [])
    ∙ ap (λ n. without gone (take at list) ++ cond (list_any (λ place. place == n) gone) [] (get_or list at [] ∷ [])) (let e : 0 + length (take at list) ≡ at = length_front list at (omega arith) in e)
  where
    length_front : (list : List Atom) (n : ℕ) → n ≤ length list → 0 + length (take n list) ≡ n
    length_front list zero h = omega arith
    length_front [] (suc n) h = absurd (omega arith)
    length_front (x ∷ list) (suc n) h = let e : 0 + length (take n list) ≡ n = length_front list n (omega arith) in omega arith

pub without-taken : (gone : List ℕ) (list : List Atom) (at k : ℕ) → at < length list → k < length gone → get_or gone k 0 ≡ at → without gone (take (at + 1) list) ≡ without gone (take at list)
without-taken gone list at k within below there =
    without-next gone list at within
    ∙ ap (λ b. without gone (take at list) ++ cond b [] (get_or list at [] ∷ [])) (gone_there gone at k below there)
    ∙ append-nil (without gone (take at list))

pub without-kept : (gone : List ℕ) (list : List Atom) (at : ℕ) → at < length list → ((k : ℕ) → k < length gone → get_or gone k 0 ≡ at → ⊥) → without gone (take (at + 1) list) ≡ without gone (take at list) ++ get_or list at [] ∷ []
without-kept gone list at within none =
    without-next gone list at within ∙ ap (λ b. without gone (take at list) ++ cond b [] (get_or list at [] ∷ [])) (gone_nowhere gone at none)

-- Before the first place nothing goes.
pub without-before : (gone : List ℕ) (list : List Atom) (n : ℕ) → n ≤ length list → ((k : ℕ) → k < length gone → n ≤ get_or gone k 0) → without gone (take n list) ≡ take n list
without-before gone list zero within none = refl
without-before gone list (suc n) within none =
    let next : suc n ≡ n + 1 = omega arith in
    ap (λ m. without gone (take m list)) next
    ∙ without-kept gone list n (omega arith) (λ k below there. absurd (omega (arith, none k below, there)))
    ∙ ap (λ v. v ++ get_or list n [] ∷ []) (without-before gone list n (omega arith) (λ k below. omega (arith, none k below)))
    ∙ sym (take_more list n [] (omega arith)) ∙ ap (λ m. take m list) (sym next)

-- What is left has no more bytes of frames.
pub without-lighter : (i : ℕ) (gone : List ℕ) (list : List Atom) → length (frames One (without_from i gone list)) ≤ length (frames One list)
without-lighter i gone [] = omega arith
without-lighter i gone (a ∷ list) = by (list_any (λ place. place == i) gone) (without-lighter (i + 1) gone list)
  where
    by : (b : Bool) → length (frames One (without_from (i + 1) gone list)) ≤ length (frames One list)
        → length (frames One (cond b (without_from (i + 1) gone list) (a ∷ without_from (i + 1) gone list))) ≤ length (frames One (a ∷ list))
    by true less = omega (arith, length-append (frame One a) (frames One list))
    by false less = omega (arith, length-append (frame One a) (frames One list), length-append (frame One a) (frames One (without_from (i + 1) gone list)))

-- two lists that are one from a place on are one there and after
pub same_at : (xs ys : List Atom) (at : ℕ) → at < length xs → at < length ys → drop at xs ≡ drop at ys → (get_or xs at [] ≡ get_or ys at []) × (drop (at + 1) xs ≡ drop (at + 1) ys)
same_at xs ys at within within' e =
    let both : get_or xs at [] ∷ drop (at + 1) xs ≡ get_or ys at [] ∷ drop (at + 1) ys = sym (drop_more xs at [] within) ∙ e ∙ drop_more ys at [] within' in
    (cc, cc)

-- ---- places of data

-- Places of data are places of the list.
pub data_within : (gone : List ℕ) (list : List Atom) → AreDataPlaces gone list → (k : ℕ) → k < length gone → get_or gone k 0 < length list
data_within [] list data_places k below = absurd (omega arith)
data_within (place ∷ gone) list data_places zero below = slice_get_within list place (0 ∷ data_places.0.0) data_places.0.1
data_within (place ∷ gone) list data_places (suc k) below = data_within gone list data_places.1 k (omega arith)

-- ---- how far the loop has come

-- Of the atoms before `at` those that stay are before `kept`, those from there on are as they were,
-- and the loop has passed `taken` places of atoms that go.
pub record Done (gone : List ℕ) (start now : List Atom) (at kept taken : ℕ) : Type 0 where
  pub whole : length now ≡ length start
  pub upto : kept ≤ at
  pub front : take kept now ≡ without gone (take at start)
  pub back : drop at now ≡ drop at start
  pub some : taken ≤ length gone
  pub before : (k : ℕ) → k < taken → get_or gone k 0 < at
  pub behind : (k : ℕ) → taken ≤ k → k < length gone → at ≤ get_or gone k 0

module _ (gone : List ℕ) (start now : List Atom) (at kept taken : ℕ) where
  pub done_taken : Done gone start now at kept taken → Rises nat_cmp gone → at < length start → taken < length gone → get_or gone taken 0 ≡ at → Done gone start now (at + 1) kept (taken + 1)
  done_taken done rises within below there = record {
    whole = done.whole;
    upto = omega (arith, done.upto);
    front = done.front ∙ sym (without-taken gone start at taken within below there);
    back = (same_at now start at (omega (arith, done.whole)) within done.back).1;
    some = omega arith;
    before = λ k less. elim (cases_eq k taken) [
      | inl same ↦ omega (arith, there, ap (λ n. get_or gone n 0) same)
      | inr apart ↦ omega (arith, done.before k (omega arith))
    ];
    behind = λ k from less. omega (arith, there, rises_by_places gone rises taken k (omega arith) less);
  }

  pub done_kept : Done gone start now at kept taken → at < length start → ((k : ℕ) → k < length gone → get_or gone k 0 ≡ at → ⊥) → Done gone start (set now kept (get_or now at [])) (at + 1) (kept + 1) taken
  done_kept done within none =
      let same = same_at now start at (omega (arith, done.whole)) within done.back in
      let next = get_or now at [] in
      record {
        whole = length-set now kept next ∙ done.whole;
        upto = omega (arith, done.upto);
        front = take_more_set now kept next (omega (arith, done.whole, done.upto))
            ∙ ap (λ v. v ++ next ∷ []) done.front
            ∙ ap (λ v. without gone (take at start) ++ v ∷ []) same.0
            ∙ sym (without-kept gone start at within none);
        back = drop-set-lt (at + 1) now kept next (omega (arith, done.upto)) ∙ same.1;
        some = done.some;
        before = λ k less. omega (arith, done.before k less);
        behind = λ k from less. more k (done.behind k from less) (none k less);
      }
    where
      more : (k : ℕ) → at ≤ get_or gone k 0 → (get_or gone k 0 ≡ at → ⊥) → at + 1 ≤ get_or gone k 0
      more k upto apart = omega arith

  pub stays_behind : Done gone start now at kept taken → length gone ≤ taken → (k : ℕ) → k < length gone → get_or gone k 0 ≡ at → ⊥
  stays_behind done all k less there = absurd (omega (arith, done.before k (omega arith)))

  pub stays_before : Done gone start now at kept taken → Rises nat_cmp gone → taken < length gone → (get_or gone taken 0 ≡ at → ⊥) → (k : ℕ) → k < length gone → get_or gone k 0 ≡ at → ⊥
  stays_before done rises below other k less there = elim (cases_order k taken) [
    | inl same ↦ other (ap (λ n. get_or gone n 0) (sym same) ∙ there)
    | inr (inl earlier) ↦ absurd (omega (arith, done.before k earlier))
    | inr (inr later) ↦ absurd (omega (arith, rises_by_places gone rises taken k later less, done.behind taken (omega arith) below))
  ]

-- Before the loop, which begins at the first place that goes.
pub done_first : (gone : List ℕ) (start : List Atom) → Rises nat_cmp gone → 0 < length gone → get_or gone 0 0 ≤ length start → Done gone start start (get_or gone 0 0) (get_or gone 0 0) 0
done_first gone start rises some within =
    let first = get_or gone 0 0 in
    let behind : (k : ℕ) → k < length gone → first ≤ get_or gone k 0 = λ k below. first_least k below (cases_eq 0 k) in
    record {
      whole = refl;
      upto = omega arith;
      front = sym (without-before gone start first within behind);
      back = refl;
      some = omega arith;
      before = λ k below. absurd (omega arith);
      behind = λ k from below. behind k below;
    }
  where
    first_least : (k : ℕ) → k < length gone → (0 ≡ k) ⊎ (0 ≡ k → ⊥) → get_or gone 0 0 ≤ get_or gone k 0
    first_least k below (inl same) = omega (arith, ap (λ n. get_or gone n 0) same)
    first_least k below (inr apart) = omega (arith, rises_by_places gone rises 0 k (omega arith) below)

-- ---- the same of starts

-- A start is written to an earlier place.
pub atoms_at-set : (bytes : List ℕ) (now : List ℕ) (kept at : ℕ) (start : ℕ) → at < length now → start ≡ get_or now at start
    → atoms_at bytes (set now kept start) ≡ set (atoms_at bytes now) kept (get_or (atoms_at bytes now) at [])
atoms_at-set bytes now kept at start within read =
    map-set (atom_framed_at bytes) now kept start
    ∙ ap (λ v. set (atoms_at bytes now) kept v) (ap (atom_framed_at bytes) read ∙ sym (get_or-map (atom_framed_at bytes) now at start [] within))

-- As many starts as atoms are left.
pub as_many : (gone : List ℕ) (start now : List ℕ) (at kept taken : ℕ) → ((bytes : List ℕ) → Done gone (atoms_at bytes start) (atoms_at bytes now) at kept taken) → (length now ≡ length start) × (kept ≤ at)
as_many gone start now at kept taken done =
    let whole = (done []).whole in
    (omega (arith, length-map now (atom_framed_at []), length-map start (atom_framed_at [])), (done []).upto)

-- The loop's end.
pub left_out : (gone : List ℕ) (start now : List ℕ) (at kept taken : ℕ) (bytes : List ℕ) → Done gone (atoms_at bytes start) (atoms_at bytes now) at kept taken → length start ≤ at → atoms_at bytes (take kept now) ≡ without gone (atoms_at bytes start)
left_out gone start now at kept taken bytes done all =
    sym (take-map (atom_framed_at bytes) kept now) ∙ done.front ∙ ap (without gone) (take_all at (atoms_at bytes start) (omega (arith, length-map start (atom_framed_at bytes))))

-- Where nothing goes, all is left.
pub without-none : (i : ℕ) (list : List Atom) → without_from i [] list ≡ list
without-none i [] = refl
without-none i (a ∷ list) = ap (λ v. a ∷ v) (without-none (i + 1) list)

pub none_first : (xs : List ℕ) → None ≡ slice_get xs 0 → xs ≡ []
none_first [] none = refl
none_first (x ∷ xs) none = cc
