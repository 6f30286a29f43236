-- The loops that join two lists: what was put out so far, and then the join of what is left of both.
use Rattle.std.specs.Prelude.{◌≡◌, ℕ, zero, suc, ◌+◌, ◌<◌, ◌≤◌, ◌⊎◌, List, [], ◌∷◌, ◌++◌, map, length}
use Rattle.std.proofs.Common.{refl, sym, ap, ◌∙◌, subst, arith, inl, inr, get_or, drop, append_assoc}
use Rattle.std.proofs.lemmas.List.{map-append, drop_all, append-nil, length-drop}
use Rattle.std.specs.declared.cmp.Ordering.TheVariants.{Equal}
use Rattle.context_model.specs.KeyedMerge.{merge_with, IsAt}
use Rattle.context_model.proofs.MergeLaws.{with-right_empty}
use Rattle.context_model.proofs.MergeSteps.{drop-place}
use Rattle.bag_model.specs.Scalars.{ScalarValue, scalar_cmp}
use Rattle.bag_model.specs.Values as model
use Rattle.bag_model.specs.Values.{pairs, values_list, value_count, value_count_of_entries, value_count_of_values}
use Rattle.bag_model.specs.Joins.{join, join_entries, join_values, Alike, AlikeEntries, AreAlike, Proper, AreProper}
use Rattle.bag_model.proofs.JoinLaws.{AlikeEntries-at, Proper-joined}
use Rattle.bag_model.proofs.PairLaws.{pairs-injective, pairs-join}
use Rattle.bag_model.proofs.ScalarOrder.{scalar_exact}
use Rattle.scalar_types.specs.Scalars.{value_of}
use Rattle.bag_value.specs.declared.lists.Entry.{Entry}
use Rattle.bag_value.specs.declared.vals.Val.{Val}
use Rattle.bag_value.specs.Vals.{plain, plain_values, pair_of, plain_entries}
use Rattle.bag_value.proofs.ListLaws.{list_values, pairs_plain, entry_at}

-- ---- entries

-- The merge of what is left.
abbrev pub rest_merged : List Entry → List Entry → List (ScalarValue × model.Value)
rest_merged es fs = merge_with scalar_cmp join (map pair_of es) (map pair_of fs)

module _ (es fs : List Entry) (i j : ℕ) (e f : Entry)
    (in_first : i < length es) (in_second : j < length fs) (is_first : e ≡ get_or es i e) (is_second : f ≡ get_or fs j f)
    (out : List Entry) (so_far : map pair_of out ++ rest_merged (drop i es) (drop j fs) ≡ rest_merged es fs) where
  -- The values at a common key are alike.
  pub entries_alike : AlikeEntries (plain_entries es) (plain_entries fs) → scalar_cmp (value_of e.key) (value_of f.key) ≡ Equal → Alike (plain e.value) (plain f.value)
  entries_alike alike h =
      AlikeEntries-at (plain_entries es) (plain_entries fs) (value_of e.key) (plain e.value) (plain f.value) alike (entry_at es i e in_first is_first)
      (subst (λ (k : ScalarValue). IsAt k (plain f.value) (pairs (plain_entries fs))) (sym (scalar_exact (value_of e.key) (value_of f.key) h)) (entry_at fs j f in_second is_second))

-- Where one list is used up, the other ends the join.
pub entries_end : (es fs out : List Entry) (i j : ℕ) → (length es ≤ i) ⊎ (length fs ≤ j) → map pair_of out ++ rest_merged (drop i es) (drop j fs) ≡ rest_merged es fs
    → plain_entries ((out ++ drop i es) ++ drop j fs) ≡ join_entries (plain_entries es) (plain_entries fs)
entries_end es fs out i j over so_far =
    pairs-injective (plain_entries ((out ++ drop i es) ++ drop j fs)) (join_entries (plain_entries es) (plain_entries fs))
    (pairs_plain ((out ++ drop i es) ++ drop j fs) ∙ ends over ∙ so_far ∙ sym whole)
  where
    whole : pairs (join_entries (plain_entries es) (plain_entries fs)) ≡ rest_merged es fs
    whole = pairs-join (plain_entries es) (plain_entries fs) ∙ (let a = pairs_plain es in let b = pairs_plain fs in λ t. merge_with scalar_cmp join (a t) (b t))

    ends : (length es ≤ i) ⊎ (length fs ≤ j) → map pair_of ((out ++ drop i es) ++ drop j fs) ≡ map pair_of out ++ rest_merged (drop i es) (drop j fs)
    ends (inl none) =
        let a = drop_all i es none in
        ap (λ l. map pair_of ((out ++ l) ++ drop j fs)) a ∙ ap (λ l. map pair_of (l ++ drop j fs)) (append-nil out)
        ∙ map-append pair_of out (drop j fs) ∙ ap (λ l. map pair_of out ++ rest_merged l (drop j fs)) (sym a)
    ends (inr none) =
        let b = drop_all j fs none in
        ap (λ l. map pair_of ((out ++ drop i es) ++ l)) b ∙ ap (map pair_of) (append-nil (out ++ drop i es))
        ∙ map-append pair_of out (drop i es) ∙ ap (λ l. map pair_of out ++ l) (sym (with-right_empty scalar_cmp join (map pair_of (drop i es))))
        ∙ ap (λ l. map pair_of out ++ rest_merged (drop i es) l) (sym b)

-- The same of the plain values that the lists are seen as.
pub entries_whole : (a b : model.Entries) (es fs out : List Entry) (i j : ℕ) → plain_entries es ≡ a → plain_entries fs ≡ b → (length es ≤ i) ⊎ (length fs ≤ j)
    → map pair_of out ++ rest_merged (drop i es) (drop j fs) ≡ rest_merged es fs → plain_entries ((out ++ drop i es) ++ drop j fs) ≡ join_entries a b
entries_whole a b es fs out i j p q over so_far = entries_end es fs out i j over so_far ∙ (λ t. join_entries (p t) (q t))

-- The join of two maps in order is in order.
pub entries_proper : (a b d : model.Entries) → Proper (model.Value.Map a) → Proper (model.Value.Map b) → AlikeEntries a b → d ≡ join_entries a b → Proper (model.Value.Map d)
entries_proper a b d p q alike made = subst (λ (x : model.Entries). Proper (model.Value.Map x)) (sym made) (Proper-joined (model.Value.Map a) (model.Value.Map b) p q alike)

-- An entry is no greater than the list.
pub entry_falls : (es : List Entry) (i : ℕ) (e : Entry) → i < length es → e ≡ get_or es i e → value_count (plain e.value) ≤ value_count_of_entries (plain_entries es)
entry_falls [] i e h is = absurd (omega (arith, h))
entry_falls (d ∷ es) zero e h is = omega (arith, ap (λ u. value_count (plain u.value)) is)
entry_falls (d ∷ es) (suc i) e h is = omega (arith, entry_falls es i e (omega (arith, h)) is)

-- ---- values of a bag

-- The joins of what is left.
abbrev pub rest_joined : List Val → List Val → List model.Value
rest_joined vs ws = values_list (join_values (plain_values vs) (plain_values ws))

length-alike : (vs ws : List Val) → AreAlike (plain_values vs) (plain_values ws) → length vs ≡ length ws
length-alike [] [] alike = refl
length-alike [] (w ∷ ws) alike = absurd alike
length-alike (v ∷ vs) [] alike = absurd alike
length-alike (v ∷ vs) (w ∷ ws) alike = ap (λ n. suc n) (length-alike vs ws alike.1)

-- Lists that are alike as far as they are left are so long.
pub within_second : (vs ws : List Val) (i : ℕ) → i < length vs → AreAlike (plain_values (drop i vs)) (plain_values (drop i ws)) → i < length ws
within_second vs ws i h alike = omega (arith, length-drop i vs, length-drop i ws, length-alike (drop i vs) (drop i ws) alike)

module _ (vs ws : List Val) (i : ℕ) (v w : Val) (in_first : i < length vs) (in_second : i < length ws) (is_first : v ≡ get_or vs i v) (is_second : w ≡ get_or ws i w) where
  left_values : drop i vs ≡ v ∷ drop (i + 1) vs
  left_values = drop-place vs i v in_first is_first

  right_values : drop i ws ≡ w ∷ drop (i + 1) ws
  right_values = drop-place ws i w in_second is_second

  pub values_alike : AreAlike (plain_values (drop i vs)) (plain_values (drop i ws)) → Alike (plain v) (plain w) × AreAlike (plain_values (drop (i + 1) vs)) (plain_values (drop (i + 1) ws))
  values_alike alike =
      subst (λ (l : List Val). AreAlike (plain_values (v ∷ drop (i + 1) vs)) (plain_values l)) right_values
      (subst (λ (l : List Val). AreAlike (plain_values l) (plain_values (drop i ws))) left_values alike)

  pub values_step : (out : List Val) (d : Val) → plain d ≡ join (plain v) (plain w) → map plain out ++ rest_joined (drop i vs) (drop i ws) ≡ rest_joined vs ws
      → map plain (out ++ d ∷ []) ++ rest_joined (drop (i + 1) vs) (drop (i + 1) ws) ≡ rest_joined vs ws
  values_step out d made so_far =
      ap (λ l. l ++ rest_joined (drop (i + 1) vs) (drop (i + 1) ws)) (map-append plain out (d ∷ []) ∙ ap (λ x. map plain out ++ x ∷ []) made)
      ∙ append_assoc (map plain out) (join (plain v) (plain w) ∷ []) (rest_joined (drop (i + 1) vs) (drop (i + 1) ws))
      ∙ (let a = sym left_values in let b = sym right_values in λ t. map plain out ++ rest_joined (a t) (b t))
      ∙ so_far

list-injective : (vs ws : model.Values) → values_list vs ≡ values_list ws → vs ≡ ws
list-injective vs ws e = sym (back vs) ∙ ap from e ∙ back ws
  where
    from : List model.Value → model.Values
    from [] = model.Values.no_value
    from (v ∷ vs) = model.Values.value v (from vs)

    back : (vs : model.Values) → from (values_list vs) ≡ vs
    back model.Values.no_value = refl
    back (model.Values.value v vs) = ap (model.Values.value v) (back vs)

-- Where nothing is left, the join is done.
pub values_end : (vs ws out : List Val) (i : ℕ) → length vs ≤ i → map plain out ++ rest_joined (drop i vs) (drop i ws) ≡ rest_joined vs ws → plain_values out ≡ join_values (plain_values vs) (plain_values ws)
values_end vs ws out i over so_far =
    let a = drop_all i vs over in
    list-injective (plain_values out) (join_values (plain_values vs) (plain_values ws))
    (list_values out ∙ sym (append-nil (map plain out)) ∙ ap (λ l. map plain out ++ rest_joined l (drop i ws)) (sym a) ∙ so_far)

-- The same of the plain values that the lists are seen as.
pub values_whole : (a b : model.Values) (vs ws out : List Val) (i : ℕ) → plain_values vs ≡ a → plain_values ws ≡ b → length vs ≤ i
    → map plain out ++ rest_joined (drop i vs) (drop i ws) ≡ rest_joined vs ws → plain_values out ≡ join_values a b
values_whole a b vs ws out i p q over so_far = values_end vs ws out i over so_far ∙ (λ t. join_values (p t) (q t))

-- The joins of values in order are in order.
pub values_proper : (a b d : model.Values) → AreProper a → AreProper b → AreAlike a b → d ≡ join_values a b → AreProper d
values_proper a b d p q alike made = subst AreProper (sym made) (Proper-joined (model.Value.Bag a) (model.Value.Bag b) p q alike)

-- A value of a bag is less than the bag.
pub value_falls : (vs : List Val) (i : ℕ) (v : Val) → i < length vs → v ≡ get_or vs i v → value_count (plain v) ≤ value_count_of_values (plain_values vs)
value_falls [] i v h is = absurd (omega (arith, h))
value_falls (u ∷ vs) zero v h is = omega (arith, ap (λ x. value_count (plain x)) is)
value_falls (u ∷ vs) (suc i) v h is = omega (arith, value_falls vs i v (omega (arith, h)) is)
