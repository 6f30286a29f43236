-- Entries in order: what is so at two of them whose keys tie.
use Rattle.std.proofs.Common.{◌≡◌, List, sym, subst}
use Rattle.std.specs.declared.cmp.Ordering.{Ordering}
use Rattle.std.specs.declared.cmp.Ordering.TheVariants.{Equal}
use Rattle.context_model.specs.KeyedMerge.{IsAt, AtOneKey}
use Rattle.context_model.proofs.MergeLaws.{IsIn-keys_of}
use Rattle.counter_type.specs.Entries.{IsExact, AreEntries}

module _ {K L : Type 0} (fits : K → Type 0) (R : K → K → Ordering) (exact : IsExact fits R) (proper : L → Type 0) (alike : L → L → Type 0) where
  -- The values of keys that tie are alike.
  pub tied_alike : (es ds : List (K × L)) → AreEntries fits R proper es → AreEntries fits R proper ds → AtOneKey alike es ds → (k j : K) (v w : L) → IsAt k v es → IsAt j w ds → R k j ≡ Equal → alike v w
  tied_alike es ds p q a k j v w s t tie =
      let same = exact k j (p.keys.fit k (IsIn-keys_of es k v s)) (q.keys.fit j (IsIn-keys_of ds j w t)) tie in
      a k v w s (subst (λ (i : K). IsAt i w ds) (sym same) t)
