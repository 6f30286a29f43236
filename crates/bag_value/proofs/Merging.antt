-- The loops that join a map's entries in place: what was put out so far, and then what is left of both.
use Rattle.std.specs.Prelude.{◌≡◌, ℕ, ◌+◌, ◌<◌, ◌≤◌, ◌⊎◌, List, [], ◌∷◌, ◌++◌, map, length}
use Rattle.std.proofs.Common.{refl, sym, ap, ◌∙◌, subst, arith, inl, inr, get_or, drop, append_assoc}
use Rattle.std.proofs.lemmas.List.{map-append, drop_all}
use Rattle.std.specs.declared.cmp.Ordering.TheVariants.{Less, Equal, Greater}
use Rattle.context_model.specs.KeyedMerge.{merge_with, brings, later, IsAt}
use Rattle.context_model.proofs.Brought.{brings-right_empty, brings-less, brings-equal, brings-greater, brings-completes}
use Rattle.context_model.proofs.MergeSteps.{drop-place, with_rests}
use Rattle.bag_model.specs.Scalars.{ScalarValue, scalar_cmp}
use Rattle.bag_model.specs.Values as model
use Rattle.bag_model.specs.Values.{pairs}
use Rattle.bag_model.specs.Joins.{join, join_entries, Alike, AlikeEntries}
use Rattle.bag_model.proofs.JoinLaws.{AlikeEntries-at}
use Rattle.bag_model.proofs.PairLaws.{pairs-injective, pairs-join}
use Rattle.bag_model.proofs.ScalarOrder.{scalar_exact}
use Rattle.scalar_types.specs.Scalars.{value_of}
use Rattle.bag_value.specs.declared.lists.Entry.{Entry}
use Rattle.bag_value.specs.Vals.{plain, pair_of, plain_entries}
use Rattle.bag_value.proofs.ListLaws.{pairs_plain, entry_at}

-- ---- what is brought

-- What is left to bring.
abbrev pub rest_brought : List Entry → List Entry → List (ScalarValue × model.Value)
rest_brought es fs = brings scalar_cmp join (map pair_of es) (map pair_of fs)

module _ (es fs : List Entry) (i j : ℕ) (e f : Entry)
    (in_first : i < length es) (in_second : j < length fs) (is_first : e ≡ get_or es i e) (is_second : f ≡ get_or fs j f) where
  left : drop i es ≡ e ∷ drop (i + 1) es
  left = drop-place es i e in_first is_first

  right : drop j fs ≡ f ∷ drop (j + 1) fs
  right = drop-place fs j f in_second is_second

  -- The values at a common key are alike.
  pub brought_alike : AlikeEntries (plain_entries es) (plain_entries fs) → scalar_cmp (value_of e.key) (value_of f.key) ≡ Equal → Alike (plain e.value) (plain f.value)
  brought_alike alike h =
      AlikeEntries-at (plain_entries es) (plain_entries fs) (value_of e.key) (plain e.value) (plain f.value) alike (entry_at es i e in_first is_first)
      (subst (λ (k : ScalarValue). IsAt k (plain f.value) (pairs (plain_entries fs))) (sym (scalar_exact (value_of e.key) (value_of f.key) h)) (entry_at fs j f in_second is_second))

  module _ (out : List Entry) (so_far : map pair_of out ++ rest_brought (drop i es) (drop j fs) ≡ rest_brought es fs) where
    heads : map pair_of out ++ rest_brought (e ∷ drop (i + 1) es) (f ∷ drop (j + 1) fs) ≡ rest_brought es fs
    heads = (let a = sym left in let b = sym right in λ t. map pair_of out ++ rest_brought (a t) (b t)) ∙ so_far

    pub brought_less : scalar_cmp (value_of e.key) (value_of f.key) ≡ Less → map pair_of out ++ rest_brought (drop (i + 1) es) (drop j fs) ≡ rest_brought es fs
    brought_less h =
        ap (λ l. map pair_of out ++ rest_brought (drop (i + 1) es) l) right
        ∙ ap (λ l. map pair_of out ++ l) (sym (brings-less scalar_cmp join (pair_of e) (pair_of f) (map pair_of (drop (i + 1) es)) (map pair_of (drop (j + 1) fs)) h))
        ∙ heads

    pub brought_equal : (d : Entry) → pair_of d ≡ (value_of f.key, join (plain e.value) (plain f.value)) → scalar_cmp (value_of e.key) (value_of f.key) ≡ Equal
        → map pair_of (out ++ d ∷ []) ++ rest_brought (drop (i + 1) es) (drop (j + 1) fs) ≡ rest_brought es fs
    brought_equal d made h =
        ap (λ l. l ++ rest_brought (drop (i + 1) es) (drop (j + 1) fs)) (map-append pair_of out (d ∷ []) ∙ ap (λ p. map pair_of out ++ p ∷ []) made)
        ∙ append_assoc (map pair_of out) ((value_of f.key, join (plain e.value) (plain f.value)) ∷ []) (rest_brought (drop (i + 1) es) (drop (j + 1) fs))
        ∙ ap (λ l. map pair_of out ++ l) (sym (brings-equal scalar_cmp join (pair_of e) (pair_of f) (map pair_of (drop (i + 1) es)) (map pair_of (drop (j + 1) fs)) h))
        ∙ heads

    pub brought_greater : scalar_cmp (value_of e.key) (value_of f.key) ≡ Greater → map pair_of (out ++ f ∷ []) ++ rest_brought (drop i es) (drop (j + 1) fs) ≡ rest_brought es fs
    brought_greater h =
        ap (λ l. l ++ rest_brought (drop i es) (drop (j + 1) fs)) (map-append pair_of out (f ∷ []))
        ∙ append_assoc (map pair_of out) (pair_of f ∷ []) (rest_brought (drop i es) (drop (j + 1) fs))
        ∙ ap (λ l. map pair_of out ++ pair_of f ∷ rest_brought l (drop (j + 1) fs)) left
        ∙ ap (λ l. map pair_of out ++ l) (sym (brings-greater scalar_cmp join (pair_of e) (pair_of f) (map pair_of (drop (i + 1) es)) (map pair_of (drop (j + 1) fs)) h))
        ∙ heads

-- Where one list is used up, the rest of the second ends what is brought.
pub brought_ends : (es fs out : List Entry) (i j : ℕ) → (length es ≤ i) ⊎ (length fs ≤ j) → map pair_of out ++ rest_brought (drop i es) (drop j fs) ≡ rest_brought es fs
    → map pair_of (out ++ drop j fs) ≡ rest_brought es fs
brought_ends es fs out i j (inl none) so_far =
    map-append pair_of out (drop j fs) ∙ ap (λ l. map pair_of out ++ rest_brought l (drop j fs)) (sym (drop_all i es none)) ∙ so_far
brought_ends es fs out i j (inr none) so_far =
    let b = drop_all j fs none in
    map-append pair_of out (drop j fs)
    ∙ ap (λ l. map pair_of out ++ map pair_of l) b
    ∙ ap (λ l. map pair_of out ++ l) (sym (brings-right_empty scalar_cmp join (map pair_of (drop i es))))
    ∙ ap (λ l. map pair_of out ++ rest_brought (drop i es) l) (sym b)
    ∙ so_far

-- ---- the merge of what is there with what is brought

-- What is left to merge.
abbrev pub rest_placed : List Entry → List Entry → List (ScalarValue × model.Value)
rest_placed es fs = merge_with scalar_cmp later (map pair_of es) (map pair_of fs)

map-nothing : (es : List Entry) → length es ≤ 0 → length (map pair_of es) ≤ 0
map-nothing [] none = none
map-nothing (e ∷ es) none = absurd (omega (arith, none))

-- Where one list is used up, the other ends the merge.
pub placed_ends : (es fs out : List Entry) (whole : List (ScalarValue × model.Value)) → (length es ≤ 0) ⊎ (length fs ≤ 0) → map pair_of out ++ rest_placed es fs ≡ whole → map pair_of ((out ++ es) ++ fs) ≡ whole
placed_ends es fs out whole over so_far =
    map-append pair_of (out ++ es) fs ∙ ap (λ l. l ++ map pair_of fs) (map-append pair_of out es)
    ∙ with_rests scalar_cmp later (map pair_of es) (map pair_of fs) (map pair_of out) whole (none over) so_far
  where
    none : (length es ≤ 0) ⊎ (length fs ≤ 0) → (length (map pair_of es) ≤ 0) ⊎ (length (map pair_of fs) ≤ 0)
    none (inl n) = inl (map-nothing es n)
    none (inr n) = inr (map-nothing fs n)

-- ---- both

-- What is brought, merged into what is there, is the join.
pub placed_whole : (a b : model.Entries) (es fs news out : List Entry) → plain_entries es ≡ a → plain_entries fs ≡ b → map pair_of news ≡ rest_brought es fs → map pair_of out ≡ rest_placed es news
    → plain_entries out ≡ join_entries a b
placed_whole a b es fs news out p q brought placed =
    pairs-injective (plain_entries out) (join_entries (plain_entries es) (plain_entries fs))
    (pairs_plain out ∙ placed ∙ ap (merge_with scalar_cmp later (map pair_of es)) brought
    ∙ brings-completes scalar_cmp join (map pair_of es) (map pair_of fs)
    ∙ sym (pairs-join (plain_entries es) (plain_entries fs) ∙ (let c = pairs_plain es in let d = pairs_plain fs in λ t. merge_with scalar_cmp join (c t) (d t))))
    ∙ (λ t. join_entries (p t) (q t))

-- A map without keys brings nothing.
pub join-nothing : (a b : model.Entries) → b ≡ model.Entries.no_entry → a ≡ join_entries a b
join-nothing a b none = unit a ∙ ap (join_entries a) (sym none)
  where
    unit : (a : model.Entries) → a ≡ join_entries a model.Entries.no_entry
    unit model.Entries.no_entry = refl
    unit (model.Entries.entry key v es) = refl
