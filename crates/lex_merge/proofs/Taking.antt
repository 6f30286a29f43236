-- The steps of a run, and what runs leave.
use Rattle.std.proofs.Common.{◌≡◌, ℕ, ◌+◌, ◌-◌, ◌<◌, ◌≤◌, ◌⊎◌, inl, inr, List, [], ◌∷◌, ◌++◌, length, take, drop, slice_range, refl, sym, ◌∙◌, ap, subst, append_assoc, Less, Equal, arith}
use Rattle.std.specs.Cmp.{tied_itself}
use Rattle.std.specs.Ordering.{ordering_reverse}
use Rattle.std.proofs.lemmas.List.{drop_more, drop_all, append-nil, append_cancel_right}
use Rattle.std.proofs.lemmas.List.Edits.{between_more}
use Rattle.std.proofs.lemmas.List.Folds.{drop_split}
use Rattle.context_model.specs.Atoms.{Atom}
use Rattle.context_model.specs.Orders.{atom_cmp}
use Rattle.context_model.specs.Paths.{atom_at}
use Rattle.context_model.specs.GreedyMerge.{greedy_merge}
use Rattle.context_model.proofs.OrderLaws.{atoms_total, atoms_anti}
use Rattle.context_model.proofs.GreedyLaws.{greedy-comm}
use Rattle.context_model.proofs.Rising.{greedy-right_empty, greedy-less, greedy-equal}
use Rattle.atom_list.specs.Builder.{Built, byte_room_for}
use Rattle.lex_merge.specs.Runs.{merge_from, IsMergeRun, ComesLater, HasMergeRoom, MergeGoesOn}

-- ---- runs

pub comm : (a b : List Atom) → greedy_merge atom_cmp a b ≡ greedy_merge atom_cmp b a
comm a b = greedy-comm atom_cmp atoms_total a b (λ x y in_a in_b tie. atoms_anti x y tie)

-- A run of no atom.
pub run_none : (a : List Atom) (i : ℕ) (b : List Atom) (j : ℕ) → i ≤ length a → j ≤ length b → IsMergeRun a i b j i j
run_none a i b j in_a in_b = record {
  from_a = omega arith;
  upto_a = in_a;
  from_b = omega arith;
  upto_b = in_b;
  no_fewer = omega arith;
  begins = let none : i - i ≡ 0 = omega arith in ap (λ n. take n (drop i a) ++ merge_from a i b j) (sym none);
}

one_more : (a : List Atom) (i k : ℕ) (whole rest next : List Atom) → i ≤ k → k < length a → whole ≡ slice_range a i k ++ rest → rest ≡ atom_at a k ∷ next → whole ≡ slice_range a i (k + 1) ++ next
one_more a i k whole rest next order within so_far step =
    so_far ∙ ap (λ l. slice_range a i k ++ l) step ∙ sym (append_assoc (slice_range a i k) (atom_at a k ∷ []) next) ∙ ap (λ l. l ++ next) (sym (between_more a i k [] order within))

-- An atom that comes before the second list's.
pub run_less : (a : List Atom) (i : ℕ) (b : List Atom) (j k l : ℕ) → IsMergeRun a i b j k l → k < length a → l < length b → atom_cmp (atom_at a k) (atom_at b l) ≡ Less → IsMergeRun a i b j (k + 1) l
run_less a i b j k l run in_a in_b less = record {
  from_a = omega (arith, run.from_a);
  upto_a = omega arith;
  from_b = run.from_b;
  upto_b = run.upto_b;
  no_fewer = omega (arith, run.no_fewer);
  begins = one_more a i k _ _ _ run.from_a in_a run.begins step;
}
  where
    step : merge_from a k b l ≡ atom_at a k ∷ merge_from a (k + 1) b l
    step =
        let at_a = drop_more a k [] in_a in
        let at_b = drop_more b l [] in_b in
        ap (λ xs. greedy_merge atom_cmp xs (drop l b)) at_a ∙ ap (greedy_merge atom_cmp (atom_at a k ∷ drop (k + 1) a)) at_b
        ∙ greedy-less atom_cmp (atom_at a k) (atom_at b l) (drop (k + 1) a) (drop (l + 1) b) less
        ∙ ap (λ ys. atom_at a k ∷ greedy_merge atom_cmp (drop (k + 1) a) ys) (sym at_b)

-- An atom of both.
pub run_equal : (a : List Atom) (i : ℕ) (b : List Atom) (j k l : ℕ) → IsMergeRun a i b j k l → k < length a → l < length b → atom_cmp (atom_at a k) (atom_at b l) ≡ Equal → IsMergeRun a i b j (k + 1) (l + 1)
run_equal a i b j k l run in_a in_b equal = record {
  from_a = omega (arith, run.from_a);
  upto_a = omega arith;
  from_b = omega (arith, run.from_b);
  upto_b = omega arith;
  no_fewer = omega (arith, run.no_fewer);
  begins = one_more a i k _ _ _ run.from_a in_a run.begins step;
}
  where
    step : merge_from a k b l ≡ atom_at a k ∷ merge_from a (k + 1) b (l + 1)
    step =
        let at_a = drop_more a k [] in_a in
        let at_b = drop_more b l [] in_b in
        ap (λ xs. greedy_merge atom_cmp xs (drop l b)) at_a ∙ ap (greedy_merge atom_cmp (atom_at a k ∷ drop (k + 1) a)) at_b
        ∙ greedy-equal atom_cmp (atom_at a k) (atom_at b l) (drop (k + 1) a) (drop (l + 1) b) equal

pub tied : (x y : Atom) → x ≡ y → atom_cmp x y ≡ Equal
tied x y same = subst (λ z. atom_cmp x z ≡ Equal) same (tied_itself atoms_total x)

-- A run after a run.
pub run_run : (a : List Atom) (i : ℕ) (b : List Atom) (j k l m n : ℕ) → IsMergeRun a i b j k l → IsMergeRun a k b l m n → IsMergeRun a i b j m n
run_run a i b j k l m n first second = record {
  from_a = omega (arith, first.from_a, second.from_a);
  upto_a = second.upto_a;
  from_b = omega (arith, first.from_b, second.from_b);
  upto_b = second.upto_b;
  no_fewer = omega (arith, first.no_fewer, second.no_fewer);
  begins =
      first.begins ∙ ap (λ rest. slice_range a i k ++ rest) second.begins ∙ sym (append_assoc (slice_range a i k) (slice_range a k m) (merge_from a m b n))
      ∙ ap (λ l. l ++ merge_from a m b n) (joined i k m first.from_a second.from_a second.upto_a);
}
  where
    joined : (i k m : ℕ) → i ≤ k → k ≤ m → m ≤ length a → slice_range a i k ++ slice_range a k m ≡ slice_range a i m
    joined i k m p q r =
        let whole : slice_range a i m ++ drop m a ≡ (slice_range a i k ++ slice_range a k m) ++ drop m a =
        sym (drop_split a i m (omega arith)) ∙ drop_split a i k p ∙ ap (λ l. slice_range a i k ++ l) (drop_split a k m q) ∙ sym (append_assoc (slice_range a i k) (slice_range a k m) (drop m a)) in
        sym (append_cancel_right (slice_range a i m) (slice_range a i k ++ slice_range a k m) (drop m a) whole)

-- Where a run from the first places on has all of the second list, the merge is the first.
pub all_of : (a b : List Atom) (i j : ℕ) → IsMergeRun a 0 b 0 i j → length b ≤ j → greedy_merge atom_cmp a b ≡ a
all_of a b i j run all =
    run.begins
    ∙ ap (λ ys. slice_range a 0 i ++ greedy_merge atom_cmp (drop i a) ys) (drop_all j b all)
    ∙ ap (λ xs. slice_range a 0 i ++ xs) (greedy-right_empty atom_cmp (drop i a))
    ∙ sym (drop_split a 0 i (omega arith))

-- Of two atoms that don't tie the other comes first.
pub later_back : (a : List Atom) (i : ℕ) (b : List Atom) (j : ℕ) → ComesLater a i b j → i < length a → j < length b → atom_cmp (atom_at b j) (atom_at a i) ≡ Less
later_back a i b j later in_a in_b = atoms_total.antisymm (atom_at b j) (atom_at a i) ∙ ap ordering_reverse (later in_a in_b)

-- ---- rooms

room_of-append : (xs ys : List Atom) → byte_room_for (xs ++ ys) ≡ byte_room_for xs + byte_room_for ys
room_of-append [] ys = omega arith
room_of-append (x ∷ xs) ys = omega (arith, room_of-append xs ys)

-- What is left takes the room of a run and of what is left after it.
pub room_split : (a : List Atom) (i k : ℕ) → i ≤ k → byte_room_for (drop i a) ≡ byte_room_for (slice_range a i k) + byte_room_for (drop k a)
room_split a i k order = ap byte_room_for (drop_split a i k order) ∙ room_of-append (slice_range a i k) (drop k a)

-- ---- building

-- The other way round.
pub room_back : (a : List Atom) (i : ℕ) (b : List Atom) (j : ℕ) (built : Built) → HasMergeRoom a i b j built → HasMergeRoom b j a i built
room_back a i b j built room = record { upto_a = room.upto_b; upto_b = room.upto_a; bytes = omega (arith, room.bytes); atoms = omega (arith, room.atoms) }

pub room_first : (a : List Atom) (i : ℕ) (b : List Atom) (j : ℕ) (built : Built) (k l : ℕ) → HasMergeRoom a i b j built → IsMergeRun a i b j k l → byte_room_for (slice_range a i k) ≤ built.byte_room
room_first a i b j built k l room run = let s = room_split a i k run.from_a in omega (arith, room.bytes)

-- A run is put out.
pub goes_on : (a : List Atom) (i : ℕ) (b : List Atom) (j : ℕ) (old new : Built) (k l : ℕ) → HasMergeRoom a i b j old → IsMergeRun a i b j k l → new.atoms ≡ old.atoms ++ slice_range a i k
    → old.byte_room ≤ new.byte_room + byte_room_for (slice_range a i k) → new.atom_room + k ≡ old.atom_room + i → MergeGoesOn a i b j old k l new
goes_on a i b j old new k l room run atoms bytes count =
    let first = room_split a i k run.from_a in
    let second = room_split b j l run.from_b in
    record {
      room = record { upto_a = run.upto_a; upto_b = run.upto_b; bytes = omega (arith, room.bytes); atoms = omega (arith, room.atoms, run.from_b) };
      same = ap (λ done. done ++ merge_from a k b l) atoms ∙ append_assoc old.atoms (slice_range a i k) (merge_from a k b l) ∙ ap (λ rest. old.atoms ++ rest) (sym run.begins);
      from_a = run.from_a;
      from_b = run.from_b;
    }

-- The other way round.
pub goes_back : (a : List Atom) (i : ℕ) (b : List Atom) (j : ℕ) (old new : Built) (k l : ℕ) → MergeGoesOn a i b j old k l new → MergeGoesOn b j a i old l k new
goes_back a i b j old new k l on = record {
  room = room_back a k b l new on.room;
  same = ap (λ rest. new.atoms ++ rest) (comm (drop l b) (drop k a)) ∙ on.same ∙ ap (λ rest. old.atoms ++ rest) (comm (drop i a) (drop j b));
  from_a = on.from_b;
  from_b = on.from_a;
}

-- Where one list is used up, the rests of both follow.
pub rests : (a : List Atom) (i : ℕ) (b : List Atom) (j : ℕ) (done : List Atom) → (length a ≤ i) ⊎ (length b ≤ j) → (done ++ drop i a) ++ drop j b ≡ done ++ merge_from a i b j
rests a i b j done (inl end_a) = rw (drop_all i a end_a, append-nil) refl
rests a i b j done (inr end_b) = rw (drop_all j b end_b, append-nil, greedy-right_empty) refl
