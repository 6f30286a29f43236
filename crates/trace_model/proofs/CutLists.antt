-- What a trim keeps: all that is below a path that is ended in what is left.
use Rattle.std.proofs.Common.{◌≡◌, ◌⊎◌, inl, inr, ℕ, List, [], ◌∷◌, ◌++◌, take, drop, Ordering, Less, Equal, Greater, refl, sym, ap, ◌∙◌, subst, append_assoc, take-append-drop}
use Rattle.context_model.specs.Atoms.{Atom}
use Rattle.context_model.specs.Orders.{Path, path_cmp, IsIn}
use Rattle.context_model.specs.Paths.{path_after, paths_after, paths, last_path_after}
use Rattle.context_model.specs.WellFormed.{IsWellFormed}
use Rattle.context_model.specs.Ended.{IsBeyond, IsEnded}
use Rattle.context_model.specs.Trimmed.{cut_at}
use Rattle.context_model.proofs.OrderLaws.{paths_anti}
use Rattle.context_model.proofs.Beyond.{IsBeyond-later}
use Rattle.context_model.proofs.Following.{Follows, IsWellFormed-follows, Follows-back, path_after-marker, IsWellFormed-cut}
use Rattle.context_model.proofs.EndedLaws.{before_marker, ends_at_markers}
use Rattle.context_model.proofs.FirstMarkers.{follows_after}
use Rattle.bag_model.specs.Readings.{PathsOf}
use Rattle.bag_model.proofs.Finite.{in_append, in_append_first, in_append_second}
use Rattle.bag_model.proofs.PathSets.{FewerBelow, SameBelow}
use Rattle.trace_model.proofs.PlainEnds.{plain_or_marker}

-- The paths of two lists end to end.
paths_after-append : (q : Path) (xs ys : List Atom) → paths_after q (xs ++ ys) ≡ paths_after q xs ++ paths_after (last_path_after q xs) ys
paths_after-append q [] ys = refl
paths_after-append q (x ∷ xs) ys = ap (λ l. path_after q x ∷ l) (paths_after-append (path_after q x) xs ys)

module _ (list : List Atom) (keep : ℕ) (w : IsWellFormed list) where
  abbrev front : List Atom
  front = take keep list

  abbrev rest : List Atom
  rest = drop keep list

  -- the path of the last atom that stays
  abbrev last : Path
  last = last_path_after [] front

  cut_paths : paths (cut_at keep list) ≡ paths front ++ path_after last [] ∷ []
  cut_paths = paths_after-append [] front ([] ∷ [])

  list_paths : paths list ≡ paths front ++ paths_after last rest
  list_paths = ap paths (sym (take-append-drop keep list)) ∙ paths_after-append [] front rest

  front_in_cut : (p : Path) → IsIn p (paths front) → PathsOf (cut_at keep list) p
  front_in_cut p i = subst (IsIn p) (sym cut_paths) (in_append_first p (paths front) (path_after last [] ∷ []) i)

  marker_in_cut : PathsOf (cut_at keep list) (last ++ [] ∷ [])
  marker_in_cut = subst (IsIn (last ++ [] ∷ [])) (sym cut_paths) (in_append_second (last ++ [] ∷ []) (paths front) (path_after last [] ∷ []) (inl (sym (path_after-marker last))))

  -- what stays that is no marker was there
  cut_in_list : (p : Path) (b : ℕ) (bytes : List ℕ) → PathsOf (cut_at keep list) (p ++ (b ∷ bytes) ∷ []) → PathsOf list (p ++ (b ∷ bytes) ∷ [])
  cut_in_list p b bytes i = by (in_append path (paths front) (path_after last [] ∷ []) (subst (IsIn path) cut_paths i))
    where
      path : Path
      path = p ++ (b ∷ bytes) ∷ []

      by : IsIn path (paths front) ⊎ IsIn path (path_after last [] ∷ []) → PathsOf list path
      by (inl j) = subst (IsIn path) (sym list_paths) (in_append_first path (paths front) (paths_after last rest) j)
      by (inr (inl e)) = absurd (plain_or_marker p last b bytes (e ∙ path_after-marker last))
      by (inr (inr none)) = elim none [ ]

  -- what doesn't stay comes later than all that does
  stays_or_later : (p : Path) → PathsOf list p → IsIn p (paths front) ⊎ (path_cmp last p ≡ Less)
  stays_or_later p i = elim (in_append p (paths front) (paths_after last rest) (subst (IsIn p) list_paths i)) [ inl j ↦ inl j | inr j ↦ inr (follows_after last rest p follows j) ]
    where
      follows : Follows last rest
      follows = Follows-back [] front rest (subst (Follows []) (sym (take-append-drop keep list)) (IsWellFormed-follows list w))

  ended_last : (s : Path) → IsEnded (cut_at keep list) s → IsBeyond s last
  ended_last s e = (ends_at_markers (cut_at keep list) s (IsWellFormed-cut keep list w)).0 e last marker_in_cut

  pub cut_fewer : FewerBelow [] (PathsOf (cut_at keep list)) (PathsOf list)
  cut_fewer p b bytes i = cut_in_list p b bytes i

  -- Below a path that is ended in what is left, nothing is gone.
  pub cut_same : (s : Path) → IsEnded (cut_at keep list) s → SameBelow s (PathsOf (cut_at keep list)) (PathsOf list)
  cut_same s e = ((λ p b bytes i. there p b bytes i), λ p b bytes i. back p b bytes (stays_or_later (s ++ (p ++ (b ∷ bytes) ∷ [])) i))
    where
      there : (p : Path) (b : ℕ) (bytes : List ℕ) → PathsOf (cut_at keep list) (s ++ (p ++ (b ∷ bytes) ∷ [])) → PathsOf list (s ++ (p ++ (b ∷ bytes) ∷ []))
      there p b bytes i =
          let one : (s ++ p) ++ (b ∷ bytes) ∷ [] ≡ s ++ (p ++ (b ∷ bytes) ∷ []) = append_assoc s p ((b ∷ bytes) ∷ []) in
          subst (PathsOf list) one (cut_in_list (s ++ p) b bytes (subst (PathsOf (cut_at keep list)) (sym one) i))

      back : (p : Path) (b : ℕ) (bytes : List ℕ) → IsIn (s ++ (p ++ (b ∷ bytes) ∷ [])) (paths front) ⊎ (path_cmp last (s ++ (p ++ (b ∷ bytes) ∷ [])) ≡ Less)
          → PathsOf (cut_at keep list) (s ++ (p ++ (b ∷ bytes) ∷ []))
      back p b bytes (inl i) = front_in_cut (s ++ (p ++ (b ∷ bytes) ∷ [])) i
      back p b bytes (inr l) = absurd ((IsBeyond-later s last (s ++ (p ++ (b ∷ bytes) ∷ [])) (ended_last s e) l).1 (p ++ (b ∷ bytes) ∷ [], refl))

  -- What is ended in what is left was ended.
  pub cut_ended : (s : Path) → IsEnded (cut_at keep list) s → IsEnded list s
  cut_ended s e = (ends_at_markers list s w).1 (λ m i. by m (stays_or_later (m ++ [] ∷ []) i))
    where
      beyond : (m : Path) → path_cmp last (m ++ [] ∷ []) ≡ Less → (r : Ordering) → path_cmp last m ≡ r → IsBeyond s m
      beyond m l Less f = IsBeyond-later s last m (ended_last s e) f
      beyond m l Equal f = subst (IsBeyond s) (paths_anti last m f) (ended_last s e)
      beyond m l Greater f = absurd (before_marker last m l f)

      by : (m : Path) → IsIn (m ++ [] ∷ []) (paths front) ⊎ (path_cmp last (m ++ [] ∷ []) ≡ Less) → IsBeyond s m
      by m (inl i) = (ends_at_markers (cut_at keep list) s (IsWellFormed-cut keep list w)).0 e m (front_in_cut (m ++ [] ∷ []) i)
      by m (inr l) = beyond m l (path_cmp last m) refl
