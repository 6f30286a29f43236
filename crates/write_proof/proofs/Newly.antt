-- The steps that say something new, one after another.
use Rattle.std.proofs.Common.{◌≡◌, ◌⊎◌, inl, inr, ◌↔◌, ℕ, zero, suc, ◌+◌, ◌<◌, ◌≤◌, List, [], ◌∷◌, ◌++◌, length, take, get_or, refl, sym, subst, arith}
use Rattle.std.specs.Ordering.{nat_cmp}
use Rattle.std.specs.declared.cmp.Ordering.TheVariants.{Less}
use Rattle.std.proofs.lemmas.Bool.Decides.{nat_tests}
use Rattle.std.proofs.lemmas.List.{take_more}
use Rattle.context_model.specs.KeyedMerge.{keys_of}
use Rattle.context_model.specs.Orders.{IsIn, Rises}
use Rattle.bag_model.specs.Joins.{join, IsValueBelow}
use Rattle.bag_model.specs.Shapes.{Nodes}
use Rattle.bag_model.specs.Slots.{SlotAt, slots_of}
use Rattle.bag_model.specs.SlotValues.{HasSlot}
use Rattle.bag_model.specs.Values.{Value, bottom, IsOfShape}
use Rattle.bag_model.proofs.BelowLaws.{below-bottom}
use Rattle.trace_model.specs.Contributions.{IsLeastAbove}
use Rattle.trace_model.specs.Graphs.{Graph, IsRecorded}
use Rattle.trace_model.specs.Truth.{Reaches, itself}
use Rattle.trace_model.proofs.ContributedLaws.{least_alike, least_one}
use Rattle.write_proof.specs.Certificates.{AreReachPairs, IsOfEarlier, IsNews, AreUsedSteps}
use Rattle.write_proof.specs.Contributions.{ContributesAt}
use Rattle.write_proof.specs.LineRules.{BringsValues, IsWriteStep}
use Rattle.write_proof.specs.Used.{UsesValue, ArePartsAt, IsUsedNext, AreNewsOf}
use Rattle.write_proof.specs.Together.{IsSaidBy, AreOfOneShape, IsJoinOfAll}
use Rattle.write_proof.specs.WholeRules.{StepContributes, IsOfSteps}
use Rattle.write_proof.proofs.BelowCalls.{place_some}
use Rattle.write_proof.proofs.Complete.{brings_or_bottom}
use Rattle.write_proof.proofs.Contributing.{step_one, step_shape, join_none, join_single, join_both}
use Rattle.write_proof.proofs.Decided.{same_number}
use Rattle.write_proof.proofs.SaidTogether.{said_together, none_together, one_more}
use Rattle.write_proof.proofs.Reached.{in_push, push_before, push_last, rises_push}

-- ---- steps that rise

less : (m n : ℕ) → nat_cmp m n ≡ Less → m < n
less m n h = grind (arith, nat_tests, h)

above_first : (u : ℕ) (ks : List ℕ) (i : ℕ) → Rises nat_cmp (u ∷ ks) → i < length ks → u < get_or ks i 0
above_first u [] i rises l = absurd (omega (arith, l))
above_first u (v ∷ ks) zero rises l = less u v rises.0
above_first u (v ∷ ks) (suc i) rises l = let first = less u v rises.0 in let more = above_first v ks i rises.1 (omega (arith, l)) in omega (arith, first, more)

rest_rises : (u : ℕ) (ks : List ℕ) → Rises nat_cmp (u ∷ ks) → Rises nat_cmp ks
rest_rises u [] rises = tt
rest_rises u (v ∷ ks) rises = rises.1

-- Those before a place are less than the one there.
pub taken_less : (ks : List ℕ) (i w : ℕ) → Rises nat_cmp ks → i < length ks → IsIn w (take i ks) → w < get_or ks i 0
taken_less [] i w rises l j = absurd (omega (arith, l))
taken_less (u ∷ ks) zero w rises l j = absurd j
taken_less (u ∷ ks) (suc i) w rises l (inl e) = let first = above_first u ks i rises (omega (arith, l)) in omega (arith, e, first)
taken_less (u ∷ ks) (suc i) w rises l (inr j) = taken_less ks i w (rest_rises u ks rises) (omega (arith, l)) j

module _ (table : Nodes) (graph : Graph) (recorded : IsRecorded table graph) (slot : ℕ) (at : SlotAt) (there : HasSlot table slot at) where
  abbrev Joined : List ℕ → Value → Type 0
  Joined steps joined = IsLeastAbove at.shape (IsOfSteps graph slot at steps) joined

  -- ---- one step

  -- Parts whose join is that of what the steps contribute.
  abbrev Parts : List ℕ → List Value → Type 0
  Parts steps parts = (joined : Value) × IsJoinOfAll at.shape parts joined × Joined steps joined

  pub next_used : (w : ℕ) (own : Value) (parts next : List Value) (before steps : List ℕ) → StepContributes graph slot at w own → Parts before parts → UsesValue w own before parts steps next
      → IsUsedNext graph slot at w before steps
  next_used w own parts next before steps c j uses = record { own = own; contributes = c; joined = j.0; join = j.2; is = by uses }
    where
      together : IsSaidBy own parts ↔ IsValueBelow own j.0
      together = said_together at.shape own parts j.0 (step_shape table slot at there graph recorded w own c) j.1

      by : UsesValue w own before parts steps next → ((IsValueBelow own j.0 → ⊥) × (steps ≡ before ++ w ∷ [])) ⊎ (IsValueBelow own j.0 × (steps ≡ before))
      by (inl u) = inl ((λ below. u.0 (together.1 below)), u.1)
      by (inr u) = inr (together.0 u.0, u.1)

  pub next_parts : (w : ℕ) (own : Value) (parts next : List Value) (before steps : List ℕ) → StepContributes graph slot at w own → Parts before parts → UsesValue w own before parts steps next → Parts steps next
  next_parts w own parts next before steps c j (inl u) = (
    join j.0 own,
    u.2 at.shape (join j.0 own) (one_more at.shape own parts j.0 (step_shape table slot at there graph recorded w own c) j.1),
    subst (λ l. Joined l (join j.0 own)) (sym u.1) (join_both table slot at there graph recorded before (w ∷ []) j.0 own j.2 (join_single table slot at there graph recorded w own c)),
  )
  next_parts w own parts next before steps c j (inr u) = subst (λ l. Parts l next) (sym u.1) (subst (Parts before) (sym u.2) j)

  pub none_parts : Parts [] []
  none_parts = (bottom at.shape, none_together at.shape, join_none table slot at there graph recorded)

  pub next_nothing : (w : ℕ) (parts : List Value) (steps : List ℕ) → StepContributes graph slot at w (bottom at.shape) → Parts steps parts → IsUsedNext graph slot at w steps steps
  next_nothing w parts steps c j = record { own = bottom at.shape; contributes = c; joined = j.0; join = j.2; is = inr (below-bottom at.shape j.0 (j.2).of_shape, refl) }

  -- ---- news

  pub news_none : AreNewsOf graph slot at [] []
  news_none = record { rises = tt; all = λ w. ((λ i. absurd i), λ n. absurd n.0) }

  -- Later steps don't change what is news.
  earlier_push : (v w : ℕ) (steps : List ℕ) (x : Value) → IsOfEarlier graph slot at steps v x → IsOfEarlier graph slot at (steps ++ w ∷ []) v x
  earlier_push v w steps x e = (e.0, push_before e.0 w steps e.1, e.2, e.3)

  earlier_back : (v w : ℕ) (steps : List ℕ) (x : Value) → v ≤ w → IsOfEarlier graph slot at (steps ++ w ∷ []) v x → IsOfEarlier graph slot at steps v x
  earlier_back v w steps x l e = elim (in_push e.0 w steps e.1) [ inl i ↦ (e.0, i, e.2, e.3) | inr same ↦ (let before = e.2 in absurd (omega (arith, before, l, same))) ]

  news_alike : (v : ℕ) (steps others : List ℕ) → ((x : Value) → IsOfEarlier graph slot at steps v x → IsOfEarlier graph slot at others v x) → ((x : Value) → IsOfEarlier graph slot at others v x → IsOfEarlier graph slot at steps v x)
      → IsNews graph slot at steps v → IsNews graph slot at others v
  news_alike v steps others f g n = record {
    own = n.own;
    contributes = n.contributes;
    joined = n.joined;
    join = least_alike at.shape (IsOfEarlier graph slot at steps v) (IsOfEarlier graph slot at others v) n.joined f g n.join;
    more = n.more;
  }

  module _ (w : ℕ) (before : List ℕ) (less : (v : ℕ) → IsIn v before → v < w) where
    all_earlier : (x : Value) → IsOfSteps graph slot at before x → IsOfEarlier graph slot at before w x
    all_earlier x c = (c.0, c.1, less c.0 c.1, c.2)

    -- The join of what all earlier used steps contribute.
    join_earlier : (joined : Value) → Joined before joined → IsLeastAbove at.shape (IsOfEarlier graph slot at before w) joined
    join_earlier joined j = least_alike at.shape (IsOfSteps graph slot at before) (IsOfEarlier graph slot at before w) joined all_earlier (λ x e. (e.0, e.1, e.3)) j

    -- What contributes more than a join brings values.
    writes : (own joined : Value) → StepContributes graph slot at w own → Joined before joined → (IsValueBelow own joined → ⊥) → IsWriteStep graph w
    writes own joined c j more = by (brings_or_bottom slot at (c.0).act own c.2)
      where
        by : BringsValues (c.0).act ⊎ (own ≡ bottom at.shape) → IsWriteStep graph w
        by (inl b) = (c.0, c.1, b)
        by (inr none) = absurd (more (subst (λ x. IsValueBelow x joined) (sym none) (below-bottom at.shape joined j.of_shape)))

  pub news_more : (seen before steps : List ℕ) (w : ℕ) → AreNewsOf graph slot at seen before → ((v : ℕ) → IsIn v seen → v < w) → IsUsedNext graph slot at w before steps → AreNewsOf graph slot at (seen ++ w ∷ []) steps
  news_more seen before steps w news below n = by n.is
    where
      less_than : (v : ℕ) → IsIn v before → v < w
      less_than v i = below v ((news.all v).0 i).0

      -- the step isn't news where its value is below the join
      no_news : IsValueBelow n.own n.joined → IsNews graph slot at before w → ⊥
      no_news under m =
          let one = step_one table slot at there graph w m.own n.own m.contributes n.contributes in
          let same = least_one at.shape (IsOfEarlier graph slot at before w) n.joined m.joined (join_earlier w before less_than n.joined n.join) m.join in
          m.more (subst (λ x. IsValueBelow x m.joined) (sym one) (subst (IsValueBelow n.own) same under))

      unused : IsValueBelow n.own n.joined → AreNewsOf graph slot at (seen ++ w ∷ []) before
      unused under = record {
        rises = news.rises;
        all = λ v. ((λ i. let own = (news.all v).0 i in (push_before v w seen own.0, own.1, own.2)), back v);
      }
        where
          back : (v : ℕ) → IsIn v (seen ++ w ∷ []) × IsWriteStep graph v × IsNews graph slot at before v → IsIn v before
          back v m = elim (in_push v w seen m.0) [
            | inl i ↦ (news.all v).1 (i, m.1, m.2)
            | inr e ↦ absurd (no_news under (subst (IsNews graph slot at before) e m.2))
          ]

      used : (IsValueBelow n.own n.joined → ⊥) → AreNewsOf graph slot at (seen ++ w ∷ []) (before ++ w ∷ [])
      used more = record {
        rises = rises_push before w news.rises less_than;
        all = λ v. (front v, back v);
      }
        where
          later : (v : ℕ) → v ≤ w → IsNews graph slot at before v → IsNews graph slot at (before ++ w ∷ []) v
          later v l m = news_alike v before (before ++ w ∷ []) (λ x e. earlier_push v w before x e) (λ x e. earlier_back v w before x l e) m

          sooner : (v : ℕ) → v ≤ w → IsNews graph slot at (before ++ w ∷ []) v → IsNews graph slot at before v
          sooner v l m = news_alike v (before ++ w ∷ []) before (λ x e. earlier_back v w before x l e) (λ x e. earlier_push v w before x e) m

          itself_news : IsNews graph slot at (before ++ w ∷ []) w
          itself_news = later w (omega arith) (record { own = n.own; contributes = n.contributes; joined = n.joined; join = join_earlier w before less_than n.joined n.join; more = more })

          front : (v : ℕ) → IsIn v (before ++ w ∷ []) → IsIn v (seen ++ w ∷ []) × IsWriteStep graph v × IsNews graph slot at (before ++ w ∷ []) v
          front v i = elim (in_push v w before i) [
            | inl j ↦ (let own = (news.all v).0 j in let l = below v own.0 in (push_before v w seen own.0, own.1, later v (omega (arith, l)) own.2))
            | inr e ↦ (
              push_last v w seen e,
              subst (IsWriteStep graph) (sym e) (writes w before less_than n.own n.joined n.contributes n.join more),
              subst (IsNews graph slot at (before ++ w ∷ [])) (sym e) itself_news,
            )
          ]

          back : (v : ℕ) → IsIn v (seen ++ w ∷ []) × IsWriteStep graph v × IsNews graph slot at (before ++ w ∷ []) v → IsIn v (before ++ w ∷ [])
          back v m = elim (in_push v w seen m.0) [
            | inl i ↦ (let l = below v i in push_before v w before ((news.all v).1 (i, m.1, sooner v (omega (arith, l)) m.2)))
            | inr e ↦ push_last v w before e
          ]

      by : ((IsValueBelow n.own n.joined → ⊥) × (steps ≡ before ++ w ∷ [])) ⊎ (IsValueBelow n.own n.joined × (steps ≡ before)) → AreNewsOf graph slot at (seen ++ w ∷ []) steps
      by (inl m) = subst (AreNewsOf graph slot at (seen ++ w ∷ [])) (sym m.1) (used m.0)
      by (inr m) = subst (AreNewsOf graph slot at (seen ++ w ∷ [])) (sym m.1) (unused m.0)

  pub news_taken : (ks : List ℕ) (i : ℕ) (before steps : List ℕ) → Rises nat_cmp ks → i < length ks → AreNewsOf graph slot at (take i ks) before → IsUsedNext graph slot at (get_or ks i 0) before steps
      → AreNewsOf graph slot at (take (i + 1) ks) steps
  news_taken ks i before steps rises l news next =
      subst (λ seen. AreNewsOf graph slot at seen steps) (sym (take_more ks i 0 l)) (news_more (take i ks) before steps (get_or ks i 0) news (λ v j. taken_less ks i v rises l j) next)

  -- All steps on the way are seen.
  pub news_used : (n : ℕ) (pairs : List (ℕ × ℕ)) (steps : List ℕ) → AreReachPairs graph n pairs → AreNewsOf graph slot at (keys_of pairs ++ n ∷ []) steps → AreUsedSteps graph n slot at steps
  news_used n pairs steps reach news = record { rises = news.rises; all = λ w. (front w, back w) }
    where
      front : (w : ℕ) → IsIn w steps → Reaches graph w n × IsWriteStep graph w × IsNews graph slot at steps w
      front w i = let own = (news.all w).0 i in (elim (in_push w n (keys_of pairs) own.0) [ inl j ↦ ((reach.all w).0 j).1 | inr e ↦ subst (λ v. Reaches graph v n) (sym e) itself ], own.1, own.2)

      back : (w : ℕ) → Reaches graph w n × IsWriteStep graph w × IsNews graph slot at steps w → IsIn w steps
      back w m = (news.all w).1 (elim (same_number w n) [ inl e ↦ push_last w n (keys_of pairs) e | inr other ↦ push_before w n (keys_of pairs) ((reach.all w).1 (other, m.0)) ], m.1, m.2)

-- What a step contributes is of the shape of the parts.
pub shape_with : (table : Nodes) (graph : Graph) → IsRecorded table graph → (slot : ℕ) → slot < length (slots_of table) → (w : ℕ) (own : Value) (steps : List ℕ) (parts : List Value)
    → ContributesAt table graph slot w (λ _. own) → ArePartsAt table graph slot steps parts → AreOfOneShape (own ∷ parts)
shape_with table graph recorded slot within w own steps parts c are =
    let s = place_some (slots_of table) slot within in (
      (s.0).shape,
      λ v i. elim i [ inl e ↦ subst (IsOfShape (s.0).shape) (sym e) (step_shape table slot s.0 s.1 graph recorded w own (c s.0 s.1)) | inr k ↦ ((are s.0 s.1).1).of_shape v k ],
    )
