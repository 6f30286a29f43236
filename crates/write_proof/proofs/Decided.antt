-- What is decided: two values are one or not, and a number is in a list or not.
use Rattle.std.proofs.Common.{◌≡◌, ◌≢◌, ◌⊎◌, inl, inr, ℕ, zero, suc, List, [], ◌∷◌, refl, ap, arith}
use Rattle.std.specs.Coded.{Coded, coded_ℕ, coded_list}
use Rattle.context_model.specs.Orders.{IsIn}
use base.Stored.{Gv, gnil, gnum, gcons}

-- A fact that can't be false is true, where it is decided.
pub surely : {A : Type 0} → A ⊎ (A → ⊥) → ((A → ⊥) → ⊥) → A
surely (inl a) f = a
surely (inr n) f = absurd (f n)

pub same_number : (a b : ℕ) → (a ≡ b) ⊎ (a ≢ b)
same_number zero zero = inl refl
same_number zero (suc b) = inr (λ e. omega (arith, e))
same_number (suc a) zero = inr (λ e. omega (arith, e))
same_number (suc a) (suc b) = elim (same_number a b) [ inl e ↦ inl (ap (λ n. suc n) e) | inr n ↦ inr (λ e. n (omega (arith, e))) ]

-- ---- codes

number_in : Gv → ℕ
number_in (gnum n) = n
number_in g = 0

first_in : Gv → Gv
first_in (gcons a b) = a
first_in g = gnil

second_in : Gv → Gv
second_in (gcons a b) = b
second_in g = gnil

abbrev kind_in : Gv → ℕ
kind_in gnil = 0
kind_in (gnum n) = 1
kind_in (gcons a b) = 2

same_code : (x y : Gv) → (x ≡ y) ⊎ (x ≢ y)
unfolding number_in first_in second_in
same_code gnil gnil = inl refl
same_code gnil (gnum n) = inr (λ e. let k : 0 ≡ 1 = ap kind_in e in omega (arith, k))
same_code gnil (gcons a b) = inr (λ e. let k : 0 ≡ 2 = ap kind_in e in omega (arith, k))
same_code (gnum m) gnil = inr (λ e. let k : 1 ≡ 0 = ap kind_in e in omega (arith, k))
same_code (gnum m) (gnum n) = elim (same_number m n) [ inl e ↦ inl (ap gnum e) | inr n' ↦ inr (λ e. n' (ap number_in e)) ]
same_code (gnum m) (gcons a b) = inr (λ e. let k : 1 ≡ 2 = ap kind_in e in omega (arith, k))
same_code (gcons a b) gnil = inr (λ e. let k : 2 ≡ 0 = ap kind_in e in omega (arith, k))
same_code (gcons a b) (gnum n) = inr (λ e. let k : 2 ≡ 1 = ap kind_in e in omega (arith, k))
same_code (gcons a b) (gcons c d) = by (same_code a c) (same_code b d)
  where
    by : (a ≡ c) ⊎ (a ≢ c) → (b ≡ d) ⊎ (b ≢ d) → (gcons a b ≡ gcons c d) ⊎ (gcons a b ≢ gcons c d)
    by (inl e) (inl f) = inl (λ i. gcons (e i) (f i))
    by (inl e) (inr n) = inr (λ f. n (ap second_in f))
    by (inr n) t = inr (λ f. n (ap first_in f))

-- Two values of a type that has codes are one or not.
pub coded_same : {A : Type 0} → Coded A → (x y : A) → (x ≡ y) ⊎ (x ≢ y)
coded_same coded x y = elim (same_code (coded.code x) (coded.code y)) [ inl e ↦ inl (coded.inj x y e) | inr n ↦ inr (λ e. n (ap coded.code e)) ]

pub same_text : (a b : List ℕ) → (a ≡ b) ⊎ (a ≢ b)
same_text a b = coded_same (coded_list coded_ℕ) a b

-- ---- lists

pub in_or_not : (w : ℕ) (list : List ℕ) → IsIn w list ⊎ (IsIn w list → ⊥)
in_or_not w [] = inr (λ i. i)
in_or_not w (v ∷ list) = by (same_number w v) (in_or_not w list)
  where
    by : (w ≡ v) ⊎ (w ≢ v) → IsIn w list ⊎ (IsIn w list → ⊥) → IsIn w (v ∷ list) ⊎ (IsIn w (v ∷ list) → ⊥)
    by (inl e) t = inl (inl e)
    by (inr n) (inl i) = inl (inr i)
    by (inr n) (inr m) = inr (λ s. elim s [ inl e ↦ n e | inr i ↦ m i ])
