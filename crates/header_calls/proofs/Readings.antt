-- What parts are read as, part by part, and the merge of it.
use Rattle.std.proofs.Common.{◌≡◌, ◌⊎◌, inl, inr, ℕ, zero, suc, ◌+◌, ◌-◌, ◌<◌, ◌≤◌, List, [], ◌∷◌, ◌++◌, length, map, Option, None, Some, refl, sym, ap, ◌∙◌, subst, arith}
use Rattle.std.proofs.lemmas.List.{append-nil, append_assoc, length-append}
use Rattle.context_model.specs.Atoms.{Atom}
use Rattle.context_model.specs.Merged.{IsMerged}
use Rattle.context_model.specs.Orders.{IsIn}
use Rattle.context_model.proofs.MergedLaws.{merges_members}
use Rattle.header_text.specs.Parts.{all_parts}
use Rattle.header_text.specs.Reading.{counted_context, lost_list, IsReadFrom}
use Rattle.header_calls.specs.declared.extracting.Absent.{Absent}
use Rattle.header_calls.specs.declared.extracting.Absent.TheVariants.{Empty, Lost}
use Rattle.header_calls.specs.Values.{AreReadingsOf, AreReadFrom, AreReadSoFar, IsPartRead, carried_of, lost_of}
use Rattle.header_calls.specs.Extracting.{AreComing, IsExtractOf, lost_among, lost_once}

counts : (rs : List (Option (List Atom))) → length (carried_of rs) + lost_of rs ≡ length rs
counts [] = refl
counts (Some list ∷ rs) = omega (arith, counts rs)
counts (None ∷ rs) = omega (arith, counts rs)

-- ---- part by part

readings_more : (parts : List (List ℕ)) (rs : List (Option (List Atom))) (part : List ℕ) (r : Option (List Atom)) → AreReadingsOf parts rs → IsReadFrom part r → AreReadingsOf (parts ++ part ∷ []) (rs ++ r ∷ [])
readings_more [] [] part r are is = (is, tt)
readings_more [] (x ∷ rs) part r are is = absurd are
readings_more (p ∷ parts) [] part r are is = absurd are
readings_more (p ∷ parts) (x ∷ rs) part r are is = (are.0, readings_more parts rs part r are.1 is)

carried_more : (rs : List (Option (List Atom))) (r : Option (List Atom)) → carried_of (rs ++ r ∷ []) ≡ carried_of rs ++ carried_of (r ∷ [])
carried_more [] r = refl
carried_more (Some list ∷ rs) r = ap (λ (ls : List (List Atom)). list ∷ ls) (carried_more rs r)
carried_more (None ∷ rs) r = carried_more rs r

pub none_yet : (all : List (List ℕ)) → AreReadSoFar all all [] 0
none_yet all = record { past = []; split = refl; read = record { readings = []; are = tt; carried = refl; counted_context = refl } }

pub one_more : (all left more : List (List ℕ)) (part : List ℕ) (old new : List (List Atom)) (n : ℕ) → AreReadSoFar all left old n → left ≡ part ∷ more → IsPartRead part old new → AreReadSoFar all more new (n + 1)
one_more all left more part old new n so is read = record {
  past = so.past ++ part ∷ [];
  split = so.split ∙ ap (λ (t : List (List ℕ)). so.past ++ t) is ∙ sym (append_assoc so.past (part ∷ []) more);
  read = record {
    readings = so.read.readings ++ read.0 ∷ [];
    are = readings_more so.past so.read.readings part read.0 so.read.are read.1;
    carried = read.2 ∙ ap (λ (t : List (List Atom)). t ++ carried_of (read.0 ∷ [])) so.read.carried ∙ sym (carried_more so.read.readings read.0);
    counted_context = omega (arith, so.read.counted_context, length-append so.read.readings (read.0 ∷ []));
  };
}

pub all_read : (all left : List (List ℕ)) (contexts : List (List Atom)) (n : ℕ) → AreReadSoFar all left contexts n → left ≡ [] → AreReadFrom all contexts n
all_read all left contexts n so is =
    let whole : all ≡ so.past = so.split ∙ ap (λ (t : List (List ℕ)). so.past ++ t) is ∙ append-nil so.past in
    subst (λ (parts : List (List ℕ)). AreReadFrom parts contexts n) (sym whole) so.read

pub few_carried : (parts : List (List ℕ)) (contexts : List (List Atom)) (n : ℕ) → AreReadFrom parts contexts n → length contexts ≤ n
few_carried parts contexts n read = omega (arith, ap length read.carried, read.counted_context, counts read.readings)

pub carried_one : (part : List ℕ) (old : List (List Atom)) (list : List Atom) → IsReadFrom part (Some list) → IsPartRead part old (old ++ list ∷ [])
carried_one part old list is = (Some list, is, refl)

pub carried_none : (part : List ℕ) (old : List (List Atom)) → IsReadFrom part None → IsPartRead part old old
carried_none part old is = (None, is, sym (append-nil old))

-- ---- the lost context once, for all that are lost

in_append : (xs ys : List (List Atom)) (x : List Atom) → IsIn x (xs ++ ys) → IsIn x xs ⊎ IsIn x ys
in_append [] ys x i = inr i
in_append (y ∷ xs) ys x (inl e) = inl (inl e)
in_append (y ∷ xs) ys x (inr i) = elim (in_append xs ys x i) [ inl j ↦ inl (inr j) | inr j ↦ inr j ]

in_left : (xs ys : List (List Atom)) (x : List Atom) → IsIn x xs → IsIn x (xs ++ ys)
in_left [] ys x i = absurd i
in_left (y ∷ xs) ys x (inl e) = inl e
in_left (y ∷ xs) ys x (inr i) = inr (in_left xs ys x i)

in_right : (xs ys : List (List Atom)) (x : List Atom) → IsIn x ys → IsIn x (xs ++ ys)
in_right [] ys x i = i
in_right (y ∷ xs) ys x i = inr (in_right xs ys x i)

carried_in : (rs : List (Option (List Atom))) (x : List Atom) → IsIn x (carried_of rs) → IsIn x (map counted_context rs)
carried_in [] x i = absurd i
carried_in (Some list ∷ rs) x (inl e) = inl e
carried_in (Some list ∷ rs) x (inr i) = inr (carried_in rs x i)
carried_in (None ∷ rs) x i = inr (carried_in rs x i)

lost_in : (rs : List (Option (List Atom))) (x : List Atom) (n : ℕ) → x ≡ lost_list → n ≡ lost_of rs → IsIn x (lost_once n) → IsIn x (map counted_context rs)
lost_in rs x zero e is i = absurd i
lost_in [] x (suc n) e is i = absurd (omega arith)
lost_in (Some list ∷ rs) x (suc n) e is i = inr (lost_in rs x (suc n) e is i)
lost_in (None ∷ rs) x (suc n) e is i = inl e

is_lost : (n : ℕ) (x : List Atom) → IsIn x (lost_once n) → x ≡ lost_list
is_lost zero x i = absurd i
is_lost (suc n) x (inl e) = e
is_lost (suc n) x (inr i) = absurd i

counted_in : (rs : List (Option (List Atom))) (x : List Atom) → IsIn x (map counted_context rs) → IsIn x (carried_of rs) ⊎ IsIn x (lost_once (lost_of rs))
counted_in [] x i = absurd i
counted_in (Some list ∷ rs) x (inl e) = inl (inl e)
counted_in (Some list ∷ rs) x (inr i) = elim (counted_in rs x i) [ inl j ↦ inl (inr j) | inr j ↦ inr j ]
counted_in (None ∷ rs) x (inl e) = inr (inl e)
counted_in (None ∷ rs) x (inr i) = elim (counted_in rs x i) [ inl j ↦ inl j | inr j ↦ inr (inl (is_lost (lost_of rs) x j)) ]

counted_merge : (rs : List (Option (List Atom))) (a : List Atom) → IsMerged (carried_of rs ++ lost_once (lost_of rs)) a → IsMerged (map counted_context rs) a
counted_merge rs a merged =
    let once = lost_once (lost_of rs) in
    merges_members (carried_of rs ++ once) (map counted_context rs) a (λ x. (there x, back x)) merged
  where
    there : (x : List Atom) → IsIn x (carried_of rs ++ lost_once (lost_of rs)) → IsIn x (map counted_context rs)
    there x i = elim (in_append (carried_of rs) (lost_once (lost_of rs)) x i) [
      | inl j ↦ carried_in rs x j
      | inr j ↦ lost_in rs x (lost_of rs) (is_lost (lost_of rs) x j) refl j
    ]

    back : (x : List Atom) → IsIn x (map counted_context rs) → IsIn x (carried_of rs ++ lost_once (lost_of rs))
    back x i = elim (counted_in rs x i) [
      | inl j ↦ in_left (carried_of rs) (lost_once (lost_of rs)) x j
      | inr j ↦ in_right (carried_of rs) (lost_once (lost_of rs)) x j
    ]

-- ---- the extract

-- What came, the merge of it, and how many parts are lost.
abbrev Came : Absent → List (List ℕ) → List Atom → ℕ → Type 0
Came absent parts list n = (rs : List (Option (List Atom))) × AreComing absent parts rs × IsMerged (map counted_context rs) list × (n ≡ lost_of rs)

no_readings : (rs : List (Option (List Atom))) → AreReadingsOf [] rs → rs ≡ []
no_readings [] are = refl
no_readings (r ∷ rs) are = absurd are

some_readings : (part : List ℕ) (parts : List (List ℕ)) (rs : List (Option (List Atom))) → AreReadingsOf (part ∷ parts) rs → 0 < length rs
some_readings part parts [] are = absurd are
some_readings part parts (r ∷ rs) are = omega arith

lost_some : (n carried : ℕ) → 0 < n → lost_among Lost n carried ≡ n - carried
lost_some zero carried some = absurd (omega arith)
lost_some (suc n) carried some = refl

merged_so : (rs : List (Option (List Atom))) (contexts : List (List Atom)) (n : ℕ) (list : List Atom) → contexts ≡ carried_of rs → n ≡ lost_of rs → IsMerged (contexts ++ lost_once n) list → IsMerged (map counted_context rs) list
merged_so rs contexts n list c_is n_is merged =
    let same : contexts ++ lost_once n ≡ carried_of rs ++ lost_once (lost_of rs) = ap (λ (cs : List (List Atom)). cs ++ lost_once n) c_is ∙ ap (λ (k : ℕ). carried_of rs ++ lost_once k) n_is in
    counted_merge rs list (subst (λ (lists : List (List Atom)). IsMerged lists list) same merged)

difference : (parts : List (List ℕ)) (contexts : List (List Atom)) (n : ℕ) (read : AreReadFrom parts contexts n) → n - length contexts ≡ lost_of read.readings
difference parts contexts n read = omega (arith, ap length read.carried, read.counted_context, counts read.readings)

coming : (absent : Absent) (parts : List (List ℕ)) (contexts : List (List Atom)) (n : ℕ) (list : List Atom) → AreReadFrom parts contexts n
    → IsMerged (contexts ++ lost_once (lost_among absent n (length contexts))) list → Came absent parts list (lost_among absent n (length contexts))
coming Empty parts contexts n list read merged =
    let is = difference parts contexts n read in
    (read.readings, read.are, merged_so read.readings contexts (n - length contexts) list read.carried is merged, is)
coming Lost [] contexts n list read merged =
    let none = no_readings read.readings read.are in
    let c_is : contexts ≡ [] = read.carried ∙ ap carried_of none in
    let n_is : n ≡ 0 = read.counted_context ∙ ap length none in
    let one : lost_among Lost n (length contexts) ≡ 1 = ap (λ (k : ℕ). lost_among Lost k (length contexts)) n_is in
    (None ∷ [], refl, merged_so (None ∷ []) contexts (lost_among Lost n (length contexts)) list c_is one merged, one)
coming Lost (part ∷ parts) contexts n list read merged =
    let some = some_readings part parts read.readings read.are in
    let is = lost_some n (length contexts) (omega (arith, read.counted_context, some)) ∙ difference (part ∷ parts) contexts n read in
    (read.readings, read.are, merged_so read.readings contexts (lost_among Lost n (length contexts)) list read.carried is merged, is)

pub extract_of : (absent : Absent) (values : List (List ℕ)) (contexts all : List (List Atom)) (n gone : ℕ) (list : List Atom) → AreReadFrom (all_parts values) contexts n
    → gone ≡ lost_among absent n (length contexts) → all ≡ contexts ++ lost_once gone → IsMerged all list → IsExtractOf absent values list n gone
extract_of absent values contexts all n gone list read gone_is all_are merged =
    let same : all ≡ contexts ++ lost_once (lost_among absent n (length contexts)) = all_are ∙ ap (λ (k : ℕ). contexts ++ lost_once k) gone_is in
    let came = coming absent (all_parts values) contexts n list read (subst (λ (lists : List (List Atom)). IsMerged lists list) same merged) in
    record { readings = came.0; come = came.1; merged = came.2; parts_are = number (all_parts values) read; lost_are = gone_is ∙ came.3 }
  where
    as_many : (parts : List (List ℕ)) (rs : List (Option (List Atom))) → AreReadingsOf parts rs → length rs ≡ length parts
    as_many [] [] are = refl
    as_many [] (r ∷ rs) are = absurd are
    as_many (p ∷ parts) [] are = absurd are
    as_many (p ∷ parts) (r ∷ rs) are = ap suc (as_many parts rs are.1)

    number : (parts : List (List ℕ)) (read : AreReadFrom parts contexts n) → n ≡ length parts
    number parts read = read.counted_context ∙ as_many parts read.readings read.are
