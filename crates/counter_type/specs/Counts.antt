-- Counts of writers, and their joins.
use Rattle.std.specs.Prelude.{◌≡◌, ◌<◌, ◌^◌, ℕ, List, [], max}
use Rattle.std.proofs.Common.{sym, ap, subst, arith, inl, inr}
use Rattle.std.proofs.lemmas.Cmp.{nat_list_cmp_total}
use Rattle.std.proofs.lemmas.Map.Lookups.{exact_bytes}
use Rattle.counter_type.specs.Entries.{AreEntries}
use Rattle.counter_type.specs.Lattice.{LatticeLaws}
use Rattle.context_model.specs.Orders.{Rises, atom_cmp}
use Rattle.context_model.specs.KeyedMerge.{merge_with, keys_of, EachPair, IsUnion}
use Rattle.context_model.proofs.Rising.{Rises-greedy}
use Rattle.context_model.proofs.Meets.{with-union}
use Rattle.context_model.proofs.MergeLaws.{From, with-from, keys_of-merge_with, with-comm, with-assoc, with-idem, EachPair-at, EachPair-from}

-- A count has 64 bits.
abbrev pub FitsCount : ℕ → Type 0
FitsCount count = count < 2 ^ 64

-- Counts of 64 bits are a join semilattice, in which the greater one stays.
pub count_laws : LatticeLaws FitsCount (λ x y. Unit {0}) max (λ x. x ≡ 0)
count_laws = record {
  alike_self = λ x p. tt;
  alike_back = λ x y p q a. tt;
  alike_joined = λ x y z p q r a b c. tt;
  proper_joined = λ x y p q a. omega arith;
  commutes = λ x y p q a. omega arith;
  regroups = λ x y z p q r a b c. omega arith;
  repeats = λ x p. omega arith;
  bottom_first = λ b x p q a e. omega arith;
}

-- The writers rise, and each count has 64 bits.
pub record IsCounted (counts : List (List ℕ × ℕ)) : Type 0 where
  pub rise : Rises atom_cmp (keys_of counts)
  pub bounded : EachPair (λ writer count. FitsCount count) counts

-- The writers of both, and at a writer of both the greater count.
abbrev pub counts_joined : List (List ℕ × ℕ) → List (List ℕ × ℕ) → List (List ℕ × ℕ)
counts_joined = merge_with atom_cmp max

-- A count that is in the join of two counters has 64 bits.
greater_count : (x y : List (List ℕ × ℕ)) → IsCounted x → IsCounted y → (k : List ℕ) (v : ℕ)
    → From atom_cmp max x y k v → FitsCount v
greater_count x y p q k v (inl at) =
    EachPair-at (λ writer count. FitsCount count) x k v p.bounded at
greater_count x y p q k v (inr (inl at)) =
    EachPair-at (λ writer count. FitsCount count) y k v q.bounded at
greater_count x y p q k v (inr (inr m)) =
    let first = EachPair-at (λ writer count. FitsCount count) x k m.first p.bounded m.in_first in
    let second =
    EachPair-at (λ writer count. FitsCount count) y m.other m.second q.bounded m.in_second in
    omega (arith, first, second, m.made)

-- The join of two counters is a counter.
pub IsCounted-joined : (x y : List (List ℕ × ℕ)) → IsCounted x → IsCounted y
    → IsCounted (counts_joined x y)
IsCounted-joined x y p q = record {
  rise =
      subst (Rises atom_cmp) (sym (keys_of-merge_with atom_cmp max x y))
      (Rises-greedy atom_cmp nat_list_cmp_total (keys_of x) (keys_of y) p.rise q.rise);
  bounded =
      EachPair-from (λ writer count. FitsCount count) (counts_joined x y)
      (λ k v at. greater_count x y p q k v (with-from atom_cmp max x y k v at));
}

-- Counters are a join semilattice.
pub counts_laws : LatticeLaws IsCounted (λ x y. Unit {0}) counts_joined (λ x. x ≡ [])
counts_laws = record {
  alike_self = λ x p. tt;
  alike_back = λ x y p q a. tt;
  alike_joined = λ x y z p q r a b c. tt;
  proper_joined = λ x y p q a. IsCounted-joined x y p q;
  commutes =
      λ x y p q a. with-comm atom_cmp nat_list_cmp_total max x y
      (λ k j v w s t tie. (exact_bytes k j tie, omega arith));
  regroups =
      λ x y z p q r a b c.
      with-assoc atom_cmp nat_list_cmp_total max x y z (λ k j i v w u s t m n o. omega arith);
  repeats =
      λ x p. with-idem atom_cmp nat_list_cmp_total max x
      (EachPair-from (λ k v. max v v ≡ v) x (λ k v at. omega arith));
  bottom_first = λ b x p q a e. ap (λ l. counts_joined l x) e;
}

-- The join of two counters is their union, in which the greater count of each writer stays.
pub counts_union : (a b : List (List ℕ × ℕ)) → IsCounted a → IsCounted b
    → IsUnion max a b (counts_joined a b)
counts_union a b p q =
    with-union atom_cmp nat_list_cmp_total max a b p.rise q.rise
    (λ x y s t tie. exact_bytes x y tie)

-- Counts are entries whose keys are any writers, in byte order.
pub counted_entries : (counts : List (List ℕ × ℕ)) → IsCounted counts
    → AreEntries (λ writer. Unit {0}) atom_cmp FitsCount counts
counted_entries counts p =
    record { keys = record { fit = λ k at. tt; rise = p.rise }; values = p.bounded }
