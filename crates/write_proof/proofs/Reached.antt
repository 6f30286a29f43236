-- The steps on the way to a step, with their least children.
use Rattle.std.proofs.Common.{◌≡◌, ◌≢◌, ◌⊎◌, ◌↔◌, inl, inr, ℕ, zero, suc, ◌+◌, ◌<◌, ◌≤◌, List, [], ◌∷◌, ◌++◌, length, take, get_or, replicate, Option, Some, None, refl, sym, ap, ◌∙◌, subst, add-one, arith}
use Rattle.std.specs.Ordering.{nat_cmp}
use Rattle.std.specs.declared.cmp.Ordering.TheVariants.{Less}
use Rattle.std.proofs.lemmas.Bool.Decides.{nat_tests}
use Rattle.std.proofs.lemmas.List.{map-append}
use Rattle.context_model.specs.KeyedMerge.{keys_of, EachPair}
use Rattle.context_model.specs.Orders.{IsIn, Rises}
use Rattle.trace_model.specs.Graphs.{Step, Graph, HasStep, parents_of, IsGraph}
use Rattle.trace_model.specs.Truth.{Reaches, itself, through}
use Rattle.trace_model.proofs.ReachLaws.{one_step}
use Rattle.write_proof.specs.Certificates.{IsLeastChild, AreReachPairs}
use Rattle.write_proof.specs.LineRules.{HasParent}
use Rattle.write_proof.specs.Reaching.{child_at, AreMarked, IsLeastFrom, AreChildren, IsOnWay}
use Rattle.write_proof.proofs.Complete.{reaches_no_later, parent_reaches}
use Rattle.write_proof.proofs.Decided.{in_or_not, same_number}

-- ---- numbers that are pushed

pub in_push : {A : Type 0} (w k : A) (ks : List A) → IsIn w (ks ++ k ∷ []) → IsIn w ks ⊎ (w ≡ k)
in_push w k [] (inl e) = inr e
in_push w k [] (inr i) = absurd i
in_push w k (u ∷ ks) (inl e) = inl (inl e)
in_push w k (u ∷ ks) (inr i) = elim (in_push w k ks i) [ inl j ↦ inl (inr j) | inr e ↦ inr e ]

pub push_before : {A : Type 0} (w k : A) (ks : List A) → IsIn w ks → IsIn w (ks ++ k ∷ [])
push_before w k [] i = absurd i
push_before w k (u ∷ ks) (inl e) = inl e
push_before w k (u ∷ ks) (inr i) = inr (push_before w k ks i)

pub push_last : {A : Type 0} (w k : A) (ks : List A) → w ≡ k → IsIn w (ks ++ k ∷ [])
push_last w k [] e = inl e
push_last w k (u ∷ ks) e = inr (push_last w k ks e)

less_is : (m n : ℕ) → m < n → nat_cmp m n ≡ Less
less_is m n h = grind (arith, nat_tests, h)

pub rises_push : (ks : List ℕ) (k : ℕ) → Rises nat_cmp ks → ((w : ℕ) → IsIn w ks → w < k) → Rises nat_cmp (ks ++ k ∷ [])
rises_push [] k rises below = tt
rises_push (u ∷ []) k rises below = (less_is u k (below u (inl refl)), tt)
rises_push (u ∷ v ∷ ks) k rises below = (rises.0, rises_push (v ∷ ks) k rises.1 (λ w i. below w (inr i)))

-- ---- parents that are marked

pub taken_in : (i : ℕ) (ks : List ℕ) (w k : ℕ) → i < length ks → k ≡ get_or ks i 0 → IsIn w (take (suc i) ks) → IsIn w (take i ks) ⊎ (w ≡ k)
taken_in i [] w k l e j = absurd (omega (arith, l))
taken_in zero (u ∷ ks) w k l e (inl same) = inr (same ∙ sym e)
taken_in zero (u ∷ ks) w k l e (inr j) = absurd j
taken_in (suc i) (u ∷ ks) w k l e (inl same) = inl (inl same)
taken_in (suc i) (u ∷ ks) w k l e (inr j) = elim (taken_in i ks w k (omega (arith, l)) e j) [ inl a ↦ inl (inr a) | inr b ↦ inr b ]

pub in_taken : (i : ℕ) (ks : List ℕ) (w k : ℕ) → i < length ks → k ≡ get_or ks i 0 → IsIn w (take i ks) ⊎ (w ≡ k) → IsIn w (take (suc i) ks)
in_taken i [] w k l e j = absurd (omega (arith, l))
in_taken zero (u ∷ ks) w k l e (inl j) = absurd j
in_taken zero (u ∷ ks) w k l e (inr same) = inl (same ∙ e)
in_taken (suc i) (u ∷ ks) w k l e (inl (inl same)) = inl same
in_taken (suc i) (u ∷ ks) w k l e (inl (inr j)) = inr (in_taken i ks w k (omega (arith, l)) e (inl j))
in_taken (suc i) (u ∷ ks) w k l e (inr same) = inr (in_taken i ks w k (omega (arith, l)) e (inr same))

pub whole_taken : (i : ℕ) (ks : List ℕ) → length ks ≤ i → take i ks ≡ ks
whole_taken zero [] l = refl
whole_taken (suc i) [] l = refl
whole_taken zero (u ∷ ks) l = absurd (omega (arith, l))
whole_taken (suc i) (u ∷ ks) l = ap (λ (m : List ℕ). u ∷ m) (whole_taken i ks (omega (arith, l)))

pub place_in : (i : ℕ) (ks : List ℕ) (k : ℕ) → i < length ks → k ≡ get_or ks i 0 → IsIn k ks
place_in i [] k l e = absurd (omega (arith, l))
place_in zero (u ∷ ks) k l e = inl e
place_in (suc i) (u ∷ ks) k l e = inr (place_in i ks k (omega (arith, l)) e)

module _ (child : ℕ) (start : List (Option ℕ)) where
  pub marked_more : (ks : List ℕ) (i k : ℕ) (now next : List (Option ℕ)) → i < length ks → k ≡ get_or ks i 0 → AreMarked (take i ks) child start now → length next ≡ length now → child_at next k ≡ Some child
      → ((w : ℕ) → w ≢ k → child_at next w ≡ child_at now w) → AreMarked (take (i + 1) ks) child start next
  marked_more ks i k now next l e m long here apart = subst (λ j. AreMarked (take j ks) child start next) (sym (add-one i)) (record {
    as_many = long ∙ m.as_many;
    marked = λ w j. own w (same_number w k) (taken_in i ks w k l e j);
    others = λ w out. apart w (λ same. out (in_taken i ks w k l e (inr same))) ∙ m.others w (λ j. out (in_taken i ks w k l e (inl j)));
  })
    where
      own : (w : ℕ) → (w ≡ k) ⊎ (w ≢ k) → IsIn w (take i ks) ⊎ (w ≡ k) → child_at next w ≡ Some child
      own w (inl same) t = ap (child_at next) same ∙ here
      own w (inr other) (inl j) = apart w other ∙ m.marked w j
      own w (inr other) (inr same) = absurd (other same)

-- ---- the first edge of a way

pub first_edge : (graph : Graph) (w n : ℕ) → Reaches graph w n → (w ≡ n) ⊎ ((child : ℕ) × HasParent graph child w × Reaches graph child n)
first_edge graph w n itself = inl refl
first_edge graph w n (through {parent = parent} step there i r) = by (first_edge graph w parent r)
  where
    by : (w ≡ parent) ⊎ ((child : ℕ) × HasParent graph child w × Reaches graph child parent) → (w ≡ n) ⊎ ((child : ℕ) × HasParent graph child w × Reaches graph child n)
    by (inl e) = inr (n, (step, there, subst (λ v. IsIn v (parents_of step.act)) (sym e) i), itself)
    by (inr e) = inr (e.0, e.1, through step there i e.2)

abbrev no_child : Option ℕ
no_child = None

blank_length : (k : ℕ) → length (replicate k no_child) ≡ k
blank_length zero = refl
blank_length (suc k) = ap (λ j. suc j) (blank_length k)

blank_at : (k w : ℕ) → child_at (replicate k no_child) w ≡ no_child
blank_at zero w = refl
blank_at (suc k) zero = refl
blank_at (suc k) (suc w) = blank_at k w

module _ (graph : Graph) (sound : IsGraph graph) (n : ℕ) where
  -- ---- children, from the last step down

  pub children_none : (children : List (Option ℕ)) → children ≡ replicate (n + 1) None → AreChildren graph n (n + 1) children
  children_none children is = record {
    as_many = ap length is ∙ blank_length (n + 1) ∙ (omega arith);
    each = λ w l. subst (IsLeastFrom graph n (n + 1) w) (sym (ap (λ (l : List (Option ℕ)). child_at l w) is ∙ blank_at (n + 1) w)) (λ child far p r. let near = reaches_no_later graph sound child n r in omega (arith, far, near));
  }

  -- A step is on the way where its children tell so.
  pub on_way : (from s : ℕ) (children : List (Option ℕ)) → AreChildren graph n from children → from ≤ suc s → s ≤ n → IsOnWay children n s ↔ Reaches graph s n
  on_way from s children are near within = (there, back)
    where
      from_child : (found : Option ℕ) → child_at children s ≡ found → IsLeastFrom graph n from s found → found ≢ None → Reaches graph s n
      from_child None e least some = absurd (some refl)
      from_child (Some child) e least some = parent_reaches graph child s n least.1 least.2

      there : IsOnWay children n s → Reaches graph s n
      there (inl e) = subst (λ m. Reaches graph m n) (sym e) itself
      there (inr some) = from_child (child_at children s) refl (are.each s within) some

      back : Reaches graph s n → IsOnWay children n s
      back r = by (first_edge graph s n r)
        where
          by : (s ≡ n) ⊎ ((child : ℕ) × HasParent graph child s × Reaches graph child n) → IsOnWay children n s
          by (inl e) = inl e
          by (inr edge) = inr (λ none.
              let later = sound.earlier edge.0 s (edge.1).0 (edge.1).1 (edge.1).2 in
              subst (IsLeastFrom graph n from s) none (are.each s within) edge.0 (omega (arith, near, later)) edge.1 edge.2)

  -- One child more is looked at that is no child on the way.
  lower : (s w : ℕ) (found : Option ℕ) → (HasParent graph s w → Reaches graph s n → ⊥) → IsLeastFrom graph n (suc s) w found → IsLeastFrom graph n s w found
  lower s w None out least = λ child near p r. by child p r (same_number child s) near
    where
      by : (child : ℕ) → HasParent graph child w → Reaches graph child n → (child ≡ s) ⊎ (child ≢ s) → s ≤ child → ⊥
      by child p r (inl e) near = out (subst (λ c. HasParent graph c w) e p) (subst (λ c. Reaches graph c n) e r)
      by child p r (inr other) near = least child (omega (arith, near, other)) p r
  lower s w (Some found) out least = (let l = least.0 in omega (arith, l), least.1, least.2, λ child near p r. by child p r (same_number child s) near)
    where
      by : (child : ℕ) → HasParent graph child w → Reaches graph child n → (child ≡ s) ⊎ (child ≢ s) → s ≤ child → found ≤ child
      by child p r (inl e) near = absurd (out (subst (λ c. HasParent graph c w) e p) (subst (λ c. Reaches graph c n) e r))
      by child p r (inr other) near = least.3 child (omega (arith, near, other)) p r

  pub child_passed : (s : ℕ) (children : List (Option ℕ)) → (Reaches graph s n → ⊥) → AreChildren graph n (suc s) children → AreChildren graph n s children
  child_passed s children out are = record { as_many = are.as_many; each = λ w l. lower s w (child_at children w) (λ p r. out r) (are.each w l) }

  pub child_marked : (s : ℕ) (step : Step) (parents : List ℕ) (old new : List (Option ℕ)) → HasStep graph s step → parents ≡ parents_of step.act → Reaches graph s n → AreMarked parents s old new
      → AreChildren graph n (suc s) old → AreChildren graph n s new
  child_marked s step parents old new has is r m are = record { as_many = m.as_many ∙ are.as_many; each = λ w l. by w l (in_or_not w parents) }
    where
      by : (w : ℕ) → w ≤ n → IsIn w parents ⊎ (IsIn w parents → ⊥) → IsLeastFrom graph n s w (child_at new w)
      by w l (inl i) = subst (IsLeastFrom graph n s w) (sym (m.marked w i)) (omega arith, (step, has, subst (IsIn w) is i), r, λ other near p q. near)
      by w l (inr out) = subst (IsLeastFrom graph n s w) (sym (m.others w out)) (lower s w (child_at old w) (λ p q. out (subst (IsIn w) (sym is) (subst (λ (own : Step). IsIn w (parents_of own.act)) (one_step graph s p.0 step p.1 has) p.2))) (are.each w l))

  pub parents_within : (s : ℕ) (step : Step) (parents : List ℕ) (children : List (Option ℕ)) (from : ℕ) → HasStep graph s step → parents ≡ parents_of step.act → s ≤ n → AreChildren graph n from children
      → (w : ℕ) → IsIn w parents → w < length children
  parents_within s step parents children from has is l are w i =
      let less = sound.earlier s w step has (subst (IsIn w) is i) in
      let many = are.as_many in
      omega (arith, less, l, many)

-- ---- pairs, from the first step up

-- The steps before k that reach n, with their least children.
pub record AreReachedTo (graph : Graph) (n k : ℕ) (pairs : List (ℕ × ℕ)) : Type 0 where
  pub rises : Rises nat_cmp (keys_of pairs)
  pub all : (w : ℕ) → IsIn w (keys_of pairs) ↔ ((w < k) × Reaches graph w n)
  pub each : EachPair (λ w child. IsLeastChild graph n w child) pairs

each_push : {K X : Type 0} (P : K → X → Type 0) (pairs : List (K × X)) (k : K) (x : X) → EachPair P pairs → P k x → EachPair P (pairs ++ (k, x) ∷ [])
each_push P [] k x each own = (own, tt)
each_push P (pair ∷ pairs) k x each own = (each.0, each_push P pairs k x each.1 own)

module _ (graph : Graph) (sound : IsGraph graph) (n : ℕ) where
  -- The next step isn't on the way.
  pub reached_passed : (k : ℕ) (pairs : List (ℕ × ℕ)) → AreReachedTo graph n k pairs → (Reaches graph k n → ⊥) → AreReachedTo graph n (k + 1) pairs
  reached_passed k pairs are out = record { rises = are.rises; all = λ w. (there w, back w); each = are.each }
    where
      there : (w : ℕ) → IsIn w (keys_of pairs) → (w < k + 1) × Reaches graph w n
      there w i = let r = (are.all w).0 i in let l = r.0 in (omega (arith, l), r.1)

      back : (w : ℕ) → (w < k + 1) × Reaches graph w n → IsIn w (keys_of pairs)
      back w r = by (same_number w k)
        where
          by : (w ≡ k) ⊎ (w ≢ k) → IsIn w (keys_of pairs)
          by (inl e) = absurd (out (subst (λ v. Reaches graph v n) e r.1))
          by (inr other) = (are.all w).1 (let l = r.0 in omega (arith, l, other), r.1)

  -- The next step is, and this is its least child.
  pub reached_more : (k child : ℕ) (pairs : List (ℕ × ℕ)) → AreReachedTo graph n k pairs → Reaches graph k n → IsLeastChild graph n k child → AreReachedTo graph n (k + 1) (pairs ++ (k, child) ∷ [])
  reached_more k child pairs are r least = record {
    rises = subst (Rises nat_cmp) (sym keys) (rises_push (keys_of pairs) k are.rises (λ w i. ((are.all w).0 i).0));
    all = λ w. (there w, back w);
    each = each_push (λ w c. IsLeastChild graph n w c) pairs k child are.each least;
  }
    where
      keys : keys_of (pairs ++ (k, child) ∷ []) ≡ keys_of pairs ++ k ∷ []
      keys = map-append (λ (e : ℕ × ℕ). e.0) pairs ((k, child) ∷ [])

      there : (w : ℕ) → IsIn w (keys_of (pairs ++ (k, child) ∷ [])) → (w < k + 1) × Reaches graph w n
      there w i = elim (in_push w k (keys_of pairs) (subst (IsIn w) keys i)) [
        | inl j ↦ (let own = (are.all w).0 j in let l = own.0 in (omega (arith, l), own.1))
        | inr e ↦ (omega (arith, e), subst (λ v. Reaches graph v n) (sym e) r)
      ]

      back : (w : ℕ) → (w < k + 1) × Reaches graph w n → IsIn w (keys_of (pairs ++ (k, child) ∷ []))
      back w own = subst (IsIn w) (sym keys) (by (same_number w k))
        where
          by : (w ≡ k) ⊎ (w ≢ k) → IsIn w (keys_of pairs ++ k ∷ [])
          by (inl e) = push_last w k (keys_of pairs) e
          by (inr other) = push_before w k (keys_of pairs) ((are.all w).1 (let l = own.0 in omega (arith, l, other), own.1))

  -- What the children tell of a step.
  pub least_found : (s child : ℕ) (children : List (Option ℕ)) → AreChildren graph n 0 children → s < n → child_at children s ≡ Some child → Reaches graph s n × IsLeastChild graph n s child
  least_found s child children are within e =
      let l : IsLeastFrom graph n 0 s (Some child) = subst (IsLeastFrom graph n 0 s) e (are.each s (omega (arith, within))) in
      (parent_reaches graph child s n l.1 l.2, record { parent = l.1; reaches = l.2; least = λ other p r. l.3 other (omega arith) p r })

  pub none_found : (s : ℕ) (children : List (Option ℕ)) → AreChildren graph n 0 children → s < n → child_at children s ≡ None → Reaches graph s n → ⊥
  none_found s children are within e r =
      elim ((on_way graph sound n 0 s children are (omega arith) (omega (arith, within))).1 r) [ inl same ↦ omega (arith, within, same) | inr some ↦ some e ]

  pub reached_all : (k : ℕ) (pairs : List (ℕ × ℕ)) → k ≡ n → AreReachedTo graph n k pairs → AreReachPairs graph n pairs
  reached_all k pairs same are = record {
    rises = are.rises;
    all = λ w. ((λ i. let r = (are.all w).0 i in let l = r.0 in (λ e. omega (arith, l, e, same), r.1)), λ r. (are.all w).1 (let last = reaches_no_later graph sound w n r.1 in let other = r.0 in omega (arith, last, other, same), r.1));
    each = are.each;
  }
