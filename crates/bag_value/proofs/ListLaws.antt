-- The lists of the code against the plain ones.
use Rattle.std.specs.Prelude.{◌≡◌, ℕ, zero, suc, ◌+◌, ◌<◌, List, [], ◌∷◌, ◌++◌, map, length, slice_get, Some}
use Rattle.std.proofs.Common.{refl, sym, ap, ◌∙◌, subst, arith, inl, inr, get_or}
use Rattle.std.proofs.lemmas.List.{map-append}
use Rattle.context_model.specs.Orders.{Rises}
use Rattle.context_model.specs.GreedyMerge.{AllBelow}
use Rattle.context_model.specs.KeyedMerge.{keys_of, IsAt}
use Rattle.context_model.proofs.Rising.{Rises-push}
use Rattle.bag_model.specs.Scalars.{ScalarValue, scalar_cmp}
use Rattle.bag_model.specs.Values as model
use Rattle.bag_model.specs.Values.{pairs, values_list}
use Rattle.bag_model.specs.Joins.{Proper, AreProper, AreProperEntries}
use Rattle.scalar_types.specs.Scalars.{value_of}
use Rattle.bag_value.specs.declared.lists.Entry.{Entry}
use Rattle.bag_value.specs.declared.vals.Val.{Val}
use Rattle.bag_value.specs.Vals.{plain, plain_values, pair_of, plain_entries}

-- ---- values of a bag

pub list_values : (vs : List Val) → values_list (plain_values vs) ≡ map plain vs
list_values [] = refl
list_values (v ∷ vs) = ap (λ l. plain v ∷ l) (list_values vs)

pub length_values : (vs : List Val) → length (values_list (plain_values vs)) ≡ length vs
length_values [] = refl
length_values (v ∷ vs) = ap (λ n. suc n) (length_values vs)

pub values_list-push : (vs : List Val) (v : Val) → values_list (plain_values (vs ++ v ∷ [])) ≡ values_list (plain_values vs) ++ plain v ∷ []
values_list-push [] v = refl
values_list-push (w ∷ vs) v = ap (λ l. plain w ∷ l) (values_list-push vs v)

pub AreProper-push : (vs : List Val) (v : Val) → AreProper (plain_values vs) → Proper (plain v) → AreProper (plain_values (vs ++ v ∷ []))
AreProper-push [] v p q = (q, tt)
AreProper-push (w ∷ vs) v p q = (p.0, AreProper-push vs v p.1 q)

pub get_value : (vs : List Val) (i : ℕ) (v : Val) → i < length vs → v ≡ get_or vs i v → Some (plain v) ≡ slice_get (values_list (plain_values vs)) i
get_value [] i v h is = absurd (omega (arith, h))
get_value (w ∷ vs) zero v h is = ap (λ u. Some (plain u)) is
get_value (w ∷ vs) (suc i) v h is = get_value vs i v (omega (arith, h)) is

pub no_values : (vs : List Val) → length vs ≡ 0 → plain_values vs ≡ model.Values.no_value
no_values [] none = refl
no_values (v ∷ vs) none = absurd (omega (arith, none))

pub values_none : (vs : List Val) → plain_values vs ≡ model.Values.no_value → length vs ≡ 0
values_none [] none = refl
values_none (v ∷ vs) none = absurd (cc none)

-- ---- entries of a map

pub pairs_plain : (es : List Entry) → pairs (plain_entries es) ≡ map pair_of es
pairs_plain [] = refl
pairs_plain (e ∷ es) = ap (λ l. pair_of e ∷ l) (pairs_plain es)

pub length_entries : (es : List Entry) → length (pairs (plain_entries es)) ≡ length es
length_entries [] = refl
length_entries (e ∷ es) = ap (λ n. suc n) (length_entries es)

pub pairs-push : (es : List Entry) (e : Entry) → pairs (plain_entries (es ++ e ∷ [])) ≡ pairs (plain_entries es) ++ pair_of e ∷ []
pairs-push [] e = refl
pairs-push (d ∷ es) e = ap (λ l. pair_of d ∷ l) (pairs-push es e)

entries_proper-push : (es : List Entry) (e : Entry) → AreProperEntries (plain_entries es) → Proper (plain e.value) → AreProperEntries (plain_entries (es ++ e ∷ []))
entries_proper-push [] e p q = (q, tt)
entries_proper-push (d ∷ es) e p q = (p.0, entries_proper-push es e p.1 q)

-- An entry after all others keeps a map in order.
pub Proper-push : (es : List Entry) (e : Entry) → Proper (model.Value.Map (plain_entries es)) → AllBelow scalar_cmp (keys_of (pairs (plain_entries es))) (value_of e.key)
    → Proper (plain e.value) → Proper (model.Value.Map (plain_entries (es ++ e ∷ [])))
Proper-push es e p below q = (
  subst (Rises scalar_cmp) (sym (ap keys_of (pairs-push es e) ∙ map-append (λ (d : ScalarValue × model.Value). d.0) (pairs (plain_entries es)) (pair_of e ∷ [])))
      (Rises-push scalar_cmp (keys_of (pairs (plain_entries es))) (value_of e.key) p.0 below),
  entries_proper-push es e p.1 q,
)

pub get_entry : (es : List Entry) (i : ℕ) (e : Entry) → i < length es → e ≡ get_or es i e → Some (pair_of e) ≡ slice_get (pairs (plain_entries es)) i
get_entry [] i e h is = absurd (omega (arith, h))
get_entry (d ∷ es) zero e h is = ap (λ u. Some (pair_of u)) is
get_entry (d ∷ es) (suc i) e h is = get_entry es i e (omega (arith, h)) is

pub no_entries : (es : List Entry) → length es ≡ 0 → plain_entries es ≡ model.Entries.no_entry
no_entries [] none = refl
no_entries (e ∷ es) none = absurd (omega (arith, none))

pub entries_none : (es : List Entry) → plain_entries es ≡ model.Entries.no_entry → length es ≡ 0
entries_none [] none = refl
entries_none (e ∷ es) none = absurd (cc none)

-- An entry at a place has its key with its value.
pub entry_at : (es : List Entry) (i : ℕ) (e : Entry) → i < length es → e ≡ get_or es i e → IsAt (value_of e.key) (plain e.value) (pairs (plain_entries es))
entry_at [] i e h is = absurd (omega (arith, h))
entry_at (d ∷ es) zero e h is = inl (ap (λ u. value_of u.key) is, ap (λ u. plain u.value) is)
entry_at (d ∷ es) (suc i) e h is = inr (entry_at es i e (omega (arith, h)) is)
