-- The header next after that of a field: nothing lies between it and what is below the field.
use Rattle.std.proofs.Common.{◌≡◌, ◌⊎◌, inl, inr, ℕ, suc, ◌+◌, ◌-◌, ◌*◌, ◌<◌, ◌≤◌, true, List, [], ◌∷◌, ◌++◌, length, Ordering, Less, Equal, Greater, sym, refl, ap, ◌∙◌, subst, arith}
use Rattle.std.specs.Prelude.{◌^◌}
use Rattle.std.specs.List.{AllByRecursion}
use Rattle.std.specs.Cmp.{ranks, nat_cmp_is}
use Rattle.std.specs.Ordering.{nat_cmp, ordering_then, MatchOrdering}
use Rattle.std.proofs.lemmas.Cmp.{tied_itself}
use Rattle.context_model.specs.Atoms.{Atom}
use Rattle.context_model.specs.Kinds.{HasKind, Kind, IsKind, atom_of}
use Rattle.context_model.specs.Kinds.Kind.{Marker, Datum, Indexed, Keyed}
use Rattle.context_model.specs.Orders.{Path, atom_cmp, path_cmp}
use Rattle.context_model.specs.Varints.{unsigned_varint}
use Rattle.context_model.specs.Ended.{IsBelow, field_path_from}
use Rattle.context_model.proofs.OrderLaws.{atoms_total, atoms_anti}
use Rattle.bag_model.proofs.NumberCodes.{unsigned_code}
use Rattle.bag_model.proofs.Codes.{code_order}
use Rattle.keep_calls.specs.Kept.{next_numbers}
use Rattle.keep_calls.specs.Walk.{IsSmall}

-- A number of 64 bits.
abbrev pub IsWide : ℕ → Type 0
IsWide n = n < 2 ^ 64

pub small_wide : (numbers : List ℕ) → AllByRecursion IsSmall numbers → AllByRecursion IsWide numbers
small_wide [] h = tt
small_wide (number ∷ numbers) h = (omega (arith, h.0), small_wide numbers h.1)

pub next_wide : (numbers : List ℕ) → AllByRecursion IsSmall numbers → AllByRecursion IsWide (next_numbers numbers)
next_wide [] h = tt
next_wide (number ∷ []) h = (omega (arith, h.0), tt)
next_wide (number ∷ other ∷ numbers) h = (omega (arith, h.0), next_wide (other ∷ numbers) h.1)

pub next_length : (numbers : List ℕ) → length (next_numbers numbers) ≡ length numbers
next_length [] = refl
next_length (number ∷ []) = refl
next_length (number ∷ other ∷ numbers) = ap (λ v. suc v) (next_length (other ∷ numbers))

pub fields_kinds : (n : ℕ) (numbers : List ℕ) → n + length numbers ≤ 16 → AllByRecursion IsWide numbers → AllByRecursion HasKind (field_path_from n numbers)
fields_kinds n [] few h = tt
fields_kinds n (number ∷ numbers) few h = (record { kind = Indexed n number; fits = (omega (arith, few), h.0); spelled = refl }, fields_kinds (suc n) numbers (omega (arith, few)) h.1)

-- ---- one atom

-- the order of two numbers, and of two that are compared first
nat_less : (m n : ℕ) → nat_cmp m n ≡ Less → m < n
nat_less m n e = subst (λ r. MatchOrdering r (m < n) (m ≡ n) (n < m)) e (ranks m n)

nat_same : (m n : ℕ) → nat_cmp m n ≡ Equal → m ≡ n
nat_same m n e = subst (λ r. MatchOrdering r (m < n) (m ≡ n) (n < m)) e (ranks m n)

nat_greater : (m n : ℕ) → nat_cmp m n ≡ Greater → n < m
nat_greater m n e = subst (λ r. MatchOrdering r (m < n) (m ≡ n) (n < m)) e (ranks m n)

-- Of two headers with numbers the one with the greater level comes first.
indexed_next : (n number level other : ℕ) → n < 16 → level < 16 → IsSmall number → IsWide other
    → atom_cmp (atom_of (Indexed n number)) (atom_of (Indexed level other)) ≡ Less → atom_cmp (atom_of (Indexed n (number + 1))) (atom_of (Indexed level other)) ≡ Greater → ⊥
indexed_next n number level other few low small wide = by (nat_cmp (248 - 8 * n) (248 - 8 * level))
  where
    order : (m : ℕ) → IsWide m → atom_cmp (unsigned_varint m) (unsigned_varint other) ≡ nat_cmp m other
    order m w = code_order (unsigned_code true) m other w wide

    by : (r : Ordering) → ordering_then r (atom_cmp (unsigned_varint number) (unsigned_varint other)) ≡ Less
        → ordering_then r (atom_cmp (unsigned_varint (number + 1)) (unsigned_varint other)) ≡ Greater → ⊥
    by Less e g = cc
    by Equal e g =
        let less : number < other = nat_less number other (sym (order number (omega (arith, small))) ∙ e) in
        let greater : other < number + 1 = nat_greater (number + 1) other (sym (order (number + 1) (omega (arith, small))) ∙ g) in
        omega arith
    by Greater e g = cc

-- The header with the next number is no greater than any atom of a kind that comes after the header.
atom_next : (n number : ℕ) (b : Atom) → n < 16 → IsSmall number → HasKind b
    → atom_cmp (atom_of (Indexed n number)) b ≡ Less → atom_cmp (atom_of (Indexed n (number + 1))) b ≡ Greater → ⊥
atom_next n number b few small k = subst (λ v. atom_cmp (atom_of (Indexed n number)) v ≡ Less → atom_cmp (atom_of (Indexed n (number + 1))) v ≡ Greater → ⊥) (sym k.spelled) (by k.kind k.fits)
  where
    low : (payload : List ℕ) (r : Ordering) → nat_cmp (248 - 8 * n) 0 ≡ r → ordering_then r (atom_cmp (unsigned_varint number) payload) ≡ Less → ⊥
    low payload Less e f = let l : 248 - 8 * n < 0 = nat_less (248 - 8 * n) 0 e in omega arith
    low payload Equal e f = let l : 248 - 8 * n ≡ 0 = nat_same (248 - 8 * n) 0 e in omega arith
    low payload Greater e f = cc

    keyed : (level : ℕ) (key : List ℕ) (r : Ordering) → level < 16 → nat_cmp (248 - 8 * n) (249 - 8 * level) ≡ r → ordering_then r (atom_cmp (unsigned_varint number) key) ≡ Less
        → ordering_then r (atom_cmp (unsigned_varint (number + 1)) key) ≡ Greater → ⊥
    keyed level key Less l e f g = cc
    keyed level key Equal l e f g = let same : 248 - 8 * n ≡ 249 - 8 * level = nat_same (248 - 8 * n) (249 - 8 * level) e in omega arith
    keyed level key Greater l e f g = cc

    by : (kind : Kind) → IsKind kind → atom_cmp (atom_of (Indexed n number)) (atom_of kind) ≡ Less → atom_cmp (atom_of (Indexed n (number + 1))) (atom_of kind) ≡ Greater → ⊥
    by Marker fits e g = let clash : Greater ≡ Less = e in cc
    by (Datum payload) fits e g = low payload (nat_cmp (248 - 8 * n) 0) refl e
    by (Indexed level other) fits e g = indexed_next n number level other few fits.0 small fits.1 e g
    by (Keyed level key) fits e g = keyed level key (nat_cmp (248 - 8 * n) (249 - 8 * level)) fits refl e g

number_later : (n number : ℕ) → IsSmall number → atom_cmp (atom_of (Indexed n number)) (atom_of (Indexed n (number + 1))) ≡ Less
number_later n number small =
    ap (λ r. ordering_then r (atom_cmp (unsigned_varint number) (unsigned_varint (number + 1)))) (sym (nat_cmp_is (248 - 8 * n) (248 - 8 * n) Equal refl))
    ∙ code_order (unsigned_code true) number (number + 1) (omega (arith, small)) (omega (arith, small))
    ∙ sym (nat_cmp_is number (number + 1) Less (omega arith))

-- ---- paths

-- The next header comes after that of the field.
pub next_later : (n : ℕ) (numbers : List ℕ) → 0 < length numbers → AllByRecursion IsSmall numbers
    → path_cmp (field_path_from n numbers) (field_path_from n (next_numbers numbers)) ≡ Less
next_later n [] some small = absurd (omega (arith, some))
next_later n (number ∷ []) some small = ap (λ r. ordering_then r Equal) (number_later n number small.0)
next_later n (number ∷ other ∷ numbers) some small =
    ap (λ r. ordering_then r (path_cmp (field_path_from (suc n) (other ∷ numbers)) (field_path_from (suc n) (next_numbers (other ∷ numbers))))) (tied_itself atoms_total (atom_of (Indexed n number)))
    ∙ next_later (suc n) (other ∷ numbers) (omega arith) small.1

-- It is no greater than any path that comes after the field and isn't below it.
pub next_least : (n : ℕ) (numbers : List ℕ) (p : Path) → 0 < length numbers → n + length numbers ≤ 16 → AllByRecursion IsSmall numbers → AllByRecursion HasKind p
    → path_cmp (field_path_from n numbers) p ≡ Less → (IsBelow (field_path_from n numbers) p → ⊥) → path_cmp (field_path_from n (next_numbers numbers)) p ≡ Greater → ⊥
next_least n [] p some few small kinds less apart greater = omega (arith, some)
next_least n (number ∷ []) [] some few small kinds less apart greater = let clash : Greater ≡ Less = less in cc
next_least n (number ∷ []) (b ∷ r) some few small kinds less apart greater = by (atom_cmp (atom_of (Indexed n number)) b) refl less
  where
    end : (r : Path) → path_cmp [] r ≡ Greater → ⊥
    end [] e = cc
    end (x ∷ r) e = cc

    after : (o : Ordering) → atom_cmp (atom_of (Indexed n (number + 1))) b ≡ o → (o ≡ Greater → ⊥) → ordering_then o (path_cmp [] r) ≡ Greater → ⊥
    after Less e none g = cc
    after Equal e none g = end r g
    after Greater e none g = none refl

    by : (o : Ordering) → atom_cmp (atom_of (Indexed n number)) b ≡ o → ordering_then o (path_cmp [] r) ≡ Less → ⊥
    by Less e l =
        after (atom_cmp (atom_of (Indexed n (number + 1))) b) refl (λ g. atom_next n number b (omega (arith, few)) small.0 kinds.0 e g) greater
    by Equal e l = apart (r, ap (λ v. v ∷ r) (sym (atoms_anti (atom_of (Indexed n number)) b e)))
    by Greater e l = cc
next_least n (number ∷ other ∷ numbers) [] some few small kinds less apart greater = let clash : Greater ≡ Less = less in cc
next_least n (number ∷ other ∷ numbers) (b ∷ r) some few small kinds less apart greater =
    by (atom_cmp (atom_of (Indexed n number)) b) refl less greater (λ l a g. next_least (suc n) (other ∷ numbers) r (omega arith) (omega (arith, few)) small.1 kinds.1 l a g)
  where
    tail : Path
    tail = field_path_from (suc n) (other ∷ numbers)

    next : Path
    next = field_path_from (suc n) (next_numbers (other ∷ numbers))

    by : (o : Ordering) → atom_cmp (atom_of (Indexed n number)) b ≡ o → ordering_then o (path_cmp tail r) ≡ Less → ordering_then o (path_cmp next r) ≡ Greater
        → (path_cmp tail r ≡ Less → (IsBelow tail r → ⊥) → path_cmp next r ≡ Greater → ⊥) → ⊥
    by Less e l g deeper = cc
    by Equal e l g deeper =
        deeper l (λ (rest, f). apart (rest, λ i. sym (atoms_anti (atom_of (Indexed n number)) b e) i ∷ f i)) g
    by Greater e l g deeper = cc

-- A prefix of it is it, or a prefix of the field's path that is shorter than this.
pub next_front : (n : ℕ) (numbers : List ℕ) (q : Path) → IsBelow q (field_path_from n (next_numbers numbers))
    → (q ≡ field_path_from n (next_numbers numbers)) ⊎ ((a : Atom) × (r : Path) × (field_path_from n numbers ≡ q ++ a ∷ r))
next_front n [] [] (rest, e) = inl refl
next_front n [] (x ∷ q) (rest, e) = cc
next_front n (number ∷ []) [] (rest, e) = inr (atom_of (Indexed n number), [], refl)
next_front n (number ∷ []) (x ∷ []) (rest, e) = let same : x ≡ atom_of (Indexed n (number + 1)) = cc in inl (ap (λ v. v ∷ []) same)
next_front n (number ∷ []) (x ∷ y ∷ q) (rest, e) = cc
next_front n (number ∷ other ∷ numbers) [] (rest, e) = inr (atom_of (Indexed n number), field_path_from (suc n) (other ∷ numbers), refl)
next_front n (number ∷ other ∷ numbers) (x ∷ q) (rest, e) =
    let same : x ≡ atom_of (Indexed n number) = cc in
    let tail : field_path_from (suc n) (next_numbers (other ∷ numbers)) ≡ q ++ rest = cc in
    elim (next_front (suc n) (other ∷ numbers) q (rest, tail)) [
      | inl whole ↦ inl (λ i. same i ∷ whole i)
      | inr (a, r, f) ↦ inr (a, r, λ i. sym same i ∷ f i)
    ]
