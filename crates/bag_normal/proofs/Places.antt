-- Places that are gathered one after another.
use Rattle.std.proofs.Common.{Result, Ok, Err, OnOk, ◌≡◌, ◌⊎◌, inl, inr, ◌↔◌, ℕ, ◌+◌, ◌<◌, ◌≤◌, List, [], ◌∷◌, ◌++◌, nat_cmp, Less, sym, subst, arith}
use Rattle.std.proofs.lemmas.Bool.Decides.{nat_tests}
use Rattle.std.proofs.lemmas.Bool.{cases_order}
use Rattle.context_model.specs.Atoms.{Atom}
use Rattle.context_model.specs.Orders.{IsIn}
use Rattle.context_model.proofs.Rising.{Rises-push}
use Rattle.bag_walks.proofs.Gathering.{in_push, all_below}
use Rattle.bag_walks.specs.Gathering.{IsDatumAt}
use Rattle.bag_normal.specs.Data.{RisesUpTo, AddsPlaces, IsDatumBetween}

less_is : (m n : ℕ) → m < n → nat_cmp m n ≡ Less
less_is m n h = grind (arith, nat_tests, h)

-- ---- places that rise

pub rises_on : (gone : List ℕ) (to next : ℕ) → to ≤ next → RisesUpTo gone to → RisesUpTo gone next
rises_on gone to next l r = record { rises = r.rises; before = λ place i. let m = r.before place i in omega (arith, m) }

pub rises_more : (gone : List ℕ) (to : ℕ) → RisesUpTo gone to → RisesUpTo (gone ++ to ∷ []) (to + 1)
rises_more gone to r = record {
  rises = Rises-push nat_cmp gone to r.rises (all_below nat_cmp gone to (λ x i. less_is x to (r.before x i)));
  before = λ place i. elim ((in_push gone place to).0 i) [
    | inl j ↦ (let m = r.before place j in omega (arith, m))
    | inr e ↦ omega (arith, e)
  ];
}

-- ---- what is added

pub adds_none : (P : ℕ → Type 0) (gone : List ℕ) → ((place : ℕ) → P place → ⊥) → AddsPlaces P gone gone
adds_none P gone none = record { exact = λ place. (λ i. inl i, λ s. elim s [ inl i ↦ i | inr p ↦ absurd (none place p) ]) }

pub adds_same : (P Q : ℕ → Type 0) (before after : List ℕ) → ((place : ℕ) → P place ↔ Q place) → AddsPlaces P before after → AddsPlaces Q before after
adds_same P Q before after same adds = record {
  exact = λ place. (
    λ i. elim ((adds.exact place).0 i) [ inl j ↦ inl j | inr p ↦ inr ((same place).0 p) ],
    λ s. (adds.exact place).1 (elim s [ inl j ↦ inl j | inr q ↦ inr ((same place).1 q) ]),
  );
}

pub adds_both : (P Q : ℕ → Type 0) (before between after : List ℕ) → AddsPlaces P before between → AddsPlaces Q between after → AddsPlaces (λ place. P place ⊎ Q place) before after
adds_both P Q before between after first second = record {
  exact = λ place. (
    λ i. elim ((second.exact place).0 i) [
      | inl j ↦ elim ((first.exact place).0 j) [ inl k ↦ inl k | inr p ↦ inr (inl p) ]
      | inr q ↦ inr (inr q)
    ],
    λ s. (second.exact place).1 (elim s [
      | inl k ↦ inl ((first.exact place).1 (inl k))
      | inr pq ↦ elim pq [ inl p ↦ inl ((first.exact place).1 (inr p)) | inr q ↦ inr q ]
    ]),
  );
}

-- ---- data, place by place

between_more : (list : List Atom) (from to place : ℕ) → from ≤ to → IsDatumAt list to → (IsDatumBetween list from to place ⊎ (place ≡ to)) ↔ IsDatumBetween list from (to + 1) place
between_more list from to place l is = (there, back)
  where
    there : IsDatumBetween list from to place ⊎ (place ≡ to) → IsDatumBetween list from (to + 1) place
    there (inl d) = record { from_on = d.from_on; up_to = omega (arith, d.up_to); datum = d.datum }
    there (inr e) = record { from_on = omega (arith, e); up_to = omega (arith, e); datum = subst (IsDatumAt list) (sym e) is }

    back : IsDatumBetween list from (to + 1) place → IsDatumBetween list from to place ⊎ (place ≡ to)
    back d = elim (cases_order place to) [
      | inl same ↦ inr same
      | inr (inl less) ↦ inl (record { from_on = d.from_on; up_to = less; datum = d.datum })
      | inr (inr more) ↦ absurd (omega (arith, d.up_to, more))
    ]

-- The next place is added where there is a datum.
pub data_more : (list : List Atom) (from to : ℕ) (before gone : List ℕ) → from ≤ to → IsDatumAt list to → AddsPlaces (IsDatumBetween list from to) before gone → AddsPlaces (IsDatumBetween list from (to + 1)) before (gone ++ to ∷ [])
data_more list from to before gone l is adds =
    adds_same (λ place. IsDatumBetween list from to place ⊎ (place ≡ to)) (IsDatumBetween list from (to + 1)) before (gone ++ to ∷ []) (λ place. between_more list from to place l is)
    (adds_both (IsDatumBetween list from to) (λ place. place ≡ to) before gone (gone ++ to ∷ []) adds (record { exact = λ place. in_push gone place to }))

-- And else it isn't.
pub data_other : (list : List Atom) (from to : ℕ) (before gone : List ℕ) → (IsDatumAt list to → ⊥) → AddsPlaces (IsDatumBetween list from to) before gone → AddsPlaces (IsDatumBetween list from (to + 1)) before gone
data_other list from to before gone other = adds_same (IsDatumBetween list from to) (IsDatumBetween list from (to + 1)) before gone (λ place. (
  λ d. record { from_on = d.from_on; up_to = omega (arith, d.up_to); datum = d.datum },
  λ d. elim (cases_order place to) as (λ v. IsDatumBetween list from to place) [
    | inl same ↦ absurd (other (subst (IsDatumAt list) same d.datum))
    | inr (inl less) ↦ record { from_on = d.from_on; up_to = less; datum = d.datum }
    | inr (inr more) ↦ absurd (omega (arith, d.up_to, more))
  ],
))

-- What follows from a fact follows from it where the call succeeds.
pub on_ok : {A E P Q : Type 0} (r : Result A E) → (P → Q) → OnOk r P → OnOk r Q
on_ok (Ok v) f p = f p
on_ok (Err e) f p = tt

-- From nothing on, what was added is all.
pub whole : (P : ℕ → Type 0) (gone : List ℕ) → AddsPlaces P [] gone → (place : ℕ) → IsIn place gone ↔ P place
whole P gone adds place = (
  λ i. elim ((adds.exact place).0 i) [ inl none ↦ absurd none | inr p ↦ p ],
  λ p. (adds.exact place).1 (inr p),
)
