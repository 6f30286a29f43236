-- The paths of a list without some of its data: those of the places that stay, except markers. A
-- marker's path may change, since the datum before it may be gone.
use Rattle.std.proofs.Common.{◌≡◌, ℕ, zero, suc, ◌+◌, ◌<◌, ◌↔◌, Bool, true, false, cond, List, [], ◌∷◌, ◌++◌, length, take, sym, refl, ap, ◌∙◌, subst, arith, inl, inr, add-zero, zero-add, add-one, slice_get, Some, ◌==◌, ◌||◌, eqb-true, eq-eqb}
use Rattle.std.specs.List.{list_any}
use Rattle.context_model.specs.Atoms.{Atom}
use Rattle.context_model.specs.Orders.{Path, IsIn}
use Rattle.context_model.specs.Paths.{depth_after, path_after, paths_after, paths, last_path_after, path_before, path_at}
use Rattle.context_model.specs.WellFormed.{IsWellFormed}
use Rattle.context_model.specs.Ended.{HasMarker}
use Rattle.context_model.specs.WithoutData.{without_from, without, AreDataPlaces}
use Rattle.context_model.proofs.Leaving.{LeavesAllButData}
use Rattle.context_model.proofs.Leaving.LeavesAllButData.{empty, drops, keeps}
use Rattle.context_model.proofs.Following.{Follows, IsWellFormed-follows}
use Rattle.context_model.proofs.MergedLaws.{same_end}
use Rattle.context_model.proofs.EndedLaws.{Kept, kept_same, kept_path, kept_drop, kept_marker, kept_next, datum_there, without-leaves}

-- ---- markers stay

pub LeavesAllButData-marker : (list left : List Atom) → LeavesAllButData list left → HasMarker left ↔ HasMarker list
LeavesAllButData-marker list left empty = ((λ i. i), λ i. i)
LeavesAllButData-marker list left (drops {payload = payload} {list = rest} {left = kept} d) =
    let s = LeavesAllButData-marker rest kept d in ((λ i. inr (s.0 i)), λ i. elim i [ inl e ↦ absurd (cc e) | inr j ↦ s.1 j ])
LeavesAllButData-marker list left (keeps {a = a} {list = rest} {left = kept} d) =
    let s = LeavesAllButData-marker rest kept d in ((λ i. elim i [ inl e ↦ inl e | inr j ↦ inr (s.0 j) ]), λ i. elim i [ inl e ↦ inl e | inr j ↦ inr (s.1 j) ])

pub without-marker : (list : List Atom) (gone : List ℕ) → AreDataPlaces gone list → HasMarker (without gone list) ↔ HasMarker list
without-marker list gone d = LeavesAllButData-marker list (without gone list) (without-leaves gone list d)

-- ---- paths of the places that stay

abbrev is_gone : List ℕ → ℕ → Bool
is_gone gone i = list_any (λ place. place == i) gone

-- After the path q, the path of a place that stays is p; the places count from i on.
record StaysAt (q : Path) (list : List Atom) (i : ℕ) (gone : List ℕ) (p : Path) : Type 0 where
  place : ℕ
  within : place < length list
  path : last_path_after q (take (suc place) list) ≡ p
  stays : is_gone gone (i + place) ≡ false

-- what is gone is data
abbrev AreDataFrom : ℕ → List ℕ → List Atom → Type 0
AreDataFrom i gone list = (k : ℕ) (a : Atom) → slice_get list k ≡ Some a → is_gone gone (i + k) ≡ true → (payload : List ℕ) × (a ≡ 0 ∷ payload)

shift : (i k : ℕ) → i + 1 + k ≡ i + suc k
shift i k = omega arith

data_behind : (i : ℕ) (gone : List ℕ) (a : Atom) (list : List Atom) → AreDataFrom i gone (a ∷ list) → AreDataFrom (i + 1) gone list
data_behind i gone a list h = λ k b e l. h (suc k) b e (subst (λ v. is_gone gone v ≡ true) (shift i k) l)

stays_behind : (q : Path) (a : Atom) (list : List Atom) (i : ℕ) (gone : List ℕ) (p : Path) → StaysAt (path_after q a) list (i + 1) gone p → StaysAt q (a ∷ list) i gone p
stays_behind q a list i gone p s = record {
  place = suc s.place;
  within = omega (arith, s.within);
  path = s.path;
  stays = subst (λ v. is_gone gone v ≡ false) (shift i s.place) s.stays;
}

-- what is kept of a path after an atom that stays
kept_on : (q r : Path) (a : Atom) (list : List Atom) → Kept q r → Follows q (a ∷ list) → Kept (path_after q a) (path_after r a)
kept_on q r [] list k f = kept_marker q r k
kept_on q r (b ∷ bytes) list k f = kept_next q r b bytes k f.0

-- the path of an atom that is no marker is the same after both
same_path : (q r : Path) (a : Atom) (list : List Atom) (p : Path) (b : ℕ) (bytes : List ℕ) → Kept q r → Follows q (a ∷ list) → a ≡ b ∷ bytes → path_after r a ≡ path_after q a
same_path q r a list p b bytes k f e = kept_path q r a k (λ n. cc (sym e ∙ n)) f.0.level

last_one : (q : Path) (a : Atom) (p : Path) (b : ℕ) (bytes : List ℕ) → p ++ (b ∷ bytes) ∷ [] ≡ path_after q a → a ≡ b ∷ bytes
last_one q a p b bytes e = sym (same_end p (take (depth_after q a) q) (b ∷ bytes) a e).1

left_there : (q r : Path) (list : List Atom) (i : ℕ) (gone : List ℕ) (p : Path) (b : ℕ) (bytes : List ℕ) → Kept q r → Follows q list → AreDataFrom i gone list
    → IsIn (p ++ (b ∷ bytes) ∷ []) (paths_after r (without_from i gone list)) → StaysAt q list i gone (p ++ (b ∷ bytes) ∷ [])
left_there q r [] i gone p b bytes k f h j = absurd j
left_there q r (a ∷ list) i gone p b bytes k f h j =
    by (is_gone gone i) refl j
    (λ w g. left_there (path_after q a) w list (i + 1) gone p b bytes g f.1 (data_behind i gone a list h))
  where
    by : (t : Bool) → is_gone gone i ≡ t
        → IsIn (p ++ (b ∷ bytes) ∷ []) (paths_after r (cond t (without_from (i + 1) gone list) (a ∷ without_from (i + 1) gone list)))
        → ((w : Path) → Kept (path_after q a) w → IsIn (p ++ (b ∷ bytes) ∷ []) (paths_after w (without_from (i + 1) gone list)) → StaysAt (path_after q a) list (i + 1) gone (p ++ (b ∷ bytes) ∷ []))
        → StaysAt q (a ∷ list) i gone (p ++ (b ∷ bytes) ∷ [])
    by true e m deeper =
        let d : (payload : List ℕ) × (a ≡ 0 ∷ payload) = h zero a refl (subst (λ v. is_gone gone v ≡ true) (sym (add-zero i)) e) in
        let g : Kept (path_after q a) r = subst (λ v. Kept (path_after q v) r) (sym d.1) (kept_drop q r d.0 k (subst (λ v. Follows q (v ∷ list)) d.1 f).0) in
        stays_behind q a list i gone (p ++ (b ∷ bytes) ∷ []) (deeper r g m)
    by false e (inl m) deeper = record {
      place = zero;
      within = omega arith;
      path = sym (same_path q r a list p b bytes k f (last_one r a p b bytes m)) ∙ sym m;
      stays = subst (λ v. is_gone gone v ≡ false) (sym (add-zero i)) e;
    }
    by false e (inr m) deeper = stays_behind q a list i gone (p ++ (b ∷ bytes) ∷ []) (deeper (path_after r a) (kept_on q r a list k f) m)

left_back : (q r : Path) (list : List Atom) (i : ℕ) (gone : List ℕ) (p : Path) (b : ℕ) (bytes : List ℕ) → Kept q r → Follows q list → AreDataFrom i gone list
    → (place : ℕ) → place < length list → last_path_after q (take (suc place) list) ≡ p ++ (b ∷ bytes) ∷ [] → is_gone gone (i + place) ≡ false
    → IsIn (p ++ (b ∷ bytes) ∷ []) (paths_after r (without_from i gone list))
left_back q r [] i gone p b bytes k f h place l e s = absurd (omega (arith, l))
left_back q r (a ∷ list) i gone p b bytes k f h zero l e s =
    subst (λ t. IsIn (p ++ (b ∷ bytes) ∷ []) (paths_after r (cond t (without_from (i + 1) gone list) (a ∷ without_from (i + 1) gone list))))
    (sym (subst (λ v. is_gone gone v ≡ false) (add-zero i) s))
    (inl (sym e ∙ sym (same_path q r a list p b bytes k f (last_one q a p b bytes (sym e)))))
left_back q r (a ∷ list) i gone p b bytes k f h (suc place) l e s =
    by (is_gone gone i) refl
    (λ w g. left_back (path_after q a) w list (i + 1) gone p b bytes g f.1 (data_behind i gone a list h) place (omega (arith, l)) e (subst (λ v. is_gone gone v ≡ false) (sym (shift i place)) s))
  where
    by : (t : Bool) → is_gone gone i ≡ t
        → ((w : Path) → Kept (path_after q a) w → IsIn (p ++ (b ∷ bytes) ∷ []) (paths_after w (without_from (i + 1) gone list)))
        → IsIn (p ++ (b ∷ bytes) ∷ []) (paths_after r (cond t (without_from (i + 1) gone list) (a ∷ without_from (i + 1) gone list)))
    by true g deeper =
        let d : (payload : List ℕ) × (a ≡ 0 ∷ payload) = h zero a refl (subst (λ v. is_gone gone v ≡ true) (sym (add-zero i)) g) in
        deeper r (subst (λ v. Kept (path_after q v) r) (sym d.1) (kept_drop q r d.0 k (subst (λ v. Follows q (v ∷ list)) d.1 f).0))
    by false g deeper = inr (deeper (path_after r a) (kept_on q r a list k f))

-- ---- a place is gone or stays

pub gone_is_in : (gone : List ℕ) (i : ℕ) → is_gone gone i ≡ true → IsIn i gone
gone_is_in [] i e = cc
gone_is_in (g ∷ gone) i e = by (g == i) refl e (λ f. gone_is_in gone i f)
  where
    by : (t : Bool) → (g == i) ≡ t → (t || is_gone gone i) ≡ true → (is_gone gone i ≡ true → IsIn i gone) → IsIn i (g ∷ gone)
    by true f h deeper = inl (sym (eqb-true g i f))
    by false f h deeper = inr (deeper h)

pub in_is_gone : (gone : List ℕ) (i : ℕ) → IsIn i gone → is_gone gone i ≡ true
in_is_gone [] i none = elim none [ ]
in_is_gone (g ∷ gone) i (inl e) = ap (λ t. t || is_gone gone i) (eq-eqb g i (sym e))
in_is_gone (g ∷ gone) i (inr j) = by (g == i) (in_is_gone gone i j)
  where
    by : (t : Bool) → is_gone gone i ≡ true → (t || is_gone gone i) ≡ true
    by true h = refl
    by false h = h

stays_so : (gone : List ℕ) (i : ℕ) → (IsIn i gone → ⊥) → is_gone gone i ≡ false
stays_so gone i n = by (is_gone gone i) refl
  where
    by : (t : Bool) → is_gone gone i ≡ t → is_gone gone i ≡ false
    by true e = absurd (n (gone_is_in gone i e))
    by false e = e

-- The path of a place that stays.
pub record IsLeft (list : List Atom) (gone : List ℕ) (p : Path) : Type 0 where
  pub place : ℕ
  pub within : place < length list
  pub path : path_at list place ≡ p
  pub stays : IsIn place gone → ⊥

-- A path that isn't a marker's is one of what is left exactly where it is that of a place that stays.
pub left_paths : (list : List Atom) (gone : List ℕ) (p : Path) (b : ℕ) (bytes : List ℕ) → IsWellFormed list → AreDataPlaces gone list
    → IsIn (p ++ (b ∷ bytes) ∷ []) (paths (without gone list)) ↔ IsLeft list gone (p ++ (b ∷ bytes) ∷ [])
left_paths list gone p b bytes w d = (
  λ i. by (left_there [] [] list 0 gone p b bytes (kept_same []) (IsWellFormed-follows list w) from_start i),
  λ s. left_back [] [] list 0 gone p b bytes (kept_same []) (IsWellFormed-follows list w) from_start s.place s.within
      (ap (λ n. path_before list n) (sym (add-one s.place)) ∙ s.path) (subst (λ v. is_gone gone v ≡ false) (sym (zero-add s.place)) (stays_so gone s.place s.stays)),
)
  where
    from_start : AreDataFrom 0 gone list
    from_start = λ k a e l. datum_there gone list k a d e (subst (λ v. is_gone gone v ≡ true) (zero-add k) l)

    by : StaysAt [] list 0 gone (p ++ (b ∷ bytes) ∷ []) → IsLeft list gone (p ++ (b ∷ bytes) ∷ [])
    by s = record {
      place = s.place;
      within = s.within;
      path = ap (λ n. path_before list n) (add-one s.place) ∙ s.path;
      stays = λ j. let clash : true ≡ false = sym (in_is_gone gone s.place j) ∙ subst (λ v. is_gone gone v ≡ false) (zero-add s.place) s.stays in cc;
    }
