-- The laws of a type that keeps the first of its values, for any total order in which values that
-- fit and tie are equal.
use Rattle.std.specs.Prelude.{◌≡◌, Option, Some, None}
use Rattle.std.specs.Cmp.{IsTotalOrder, tied_itself, alike_right}
use Rattle.std.specs.Ordering.{ordering_reverse}
use Rattle.std.specs.declared.cmp.Ordering.{Ordering}
use Rattle.std.specs.declared.cmp.Ordering.TheVariants.{Less, Equal, Greater}
use Rattle.std.proofs.Common.{refl, sym, ◌∙◌, ap, subst}
use Rattle.counter_type.specs.Lattice.{LatticeLaws}
use Rattle.context_model.specs.GreedyMerge.{first_of}
use Rattle.set_map_types.specs.Picks.{HeldOne, IfThere, one_proper, one_joined, SameCodecOfOne, IsAbsent}

module _ {V : Type 0} (R : V → V → Ordering) (total : IsTotalOrder R) where
  -- Of two values the first stays where it comes before the second.
  picks_first : (v w : V) → R v w ≡ Less → first_of R (Some v) (Some w) ≡ Some v
  picks_first v w h = rw h refl

  -- Of two values that tie the first stays.
  picks_tied : (v w : V) → R v w ≡ Equal → first_of R (Some v) (Some w) ≡ Some v
  picks_tied v w h = rw h refl

  -- Of two values the second stays where the first comes after it.
  picks_second : (v w : V) → R v w ≡ Greater → first_of R (Some v) (Some w) ≡ Some w
  picks_second v w h = rw h refl

  -- Two values in the other order compare the other way round.
  turned : (v w : V) (r : Ordering) → R v w ≡ r → R w v ≡ ordering_reverse r
  turned v w r h = total.antisymm w v ∙ ap ordering_reverse h

  -- Which of two values stays doesn't depend on their order.
  pub first_of-comm : (fits : V → Type 0) → ((v w : V) → fits v → fits w → R v w ≡ Equal → v ≡ w)
      → (a b : Option V) → IfThere fits a → IfThere fits b → first_of R a b ≡ first_of R b a
  first_of-comm fits exact None None p q = refl
  first_of-comm fits exact None (Some w) p q = refl
  first_of-comm fits exact (Some v) None p q = refl
  first_of-comm fits exact (Some v) (Some w) p q = by (R v w) refl
    where
      by : (r : Ordering) → R v w ≡ r → first_of R (Some v) (Some w) ≡ first_of R (Some w) (Some v)
      by Less h = picks_first v w h ∙ sym (picks_second w v (turned v w Less h))
      by Equal h =
          picks_tied v w h ∙ ap Some (exact v w p q h) ∙ sym (picks_tied w v (turned v w Equal h))
      by Greater h = picks_second v w h ∙ sym (picks_first w v (turned v w Greater h))

  -- Of a value and itself the value stays.
  pub first_of-idem : (a : Option V) → first_of R a a ≡ a
  first_of-idem None = refl
  first_of-idem (Some v) = picks_tied v v (tied_itself total v)

  -- Of three values the same one stays, however they are grouped.
  three : (v w u : V) → first_of R (first_of R (Some v) (Some w)) (Some u)
      ≡ first_of R (Some v) (first_of R (Some w) (Some u))
  three v w u = by (R v w) refl (R w u) refl
    where
      by : (r : Ordering) → R v w ≡ r → (s : Ordering) → R w u ≡ s
          → first_of R (first_of R (Some v) (Some w)) (Some u)
          ≡ first_of R (Some v) (first_of R (Some w) (Some u))
      by Less p Less q =
          ap (λ o. first_of R o (Some u)) (picks_first v w p) ∙ picks_first v u
          (total.trans v w u p q) ∙ sym
          (ap (first_of R (Some v)) (picks_first w u q) ∙ picks_first v w p)
      by Less p Equal q =
          ap (λ o. first_of R o (Some u)) (picks_first v w p) ∙ picks_first v u
          (sym (alike_right total w u v q) ∙ p) ∙ sym
          (ap (first_of R (Some v)) (picks_tied w u q) ∙ picks_first v w p)
      by Less p Greater q =
          ap (λ o. first_of R o (Some u)) (picks_first v w p) ∙ sym
          (ap (first_of R (Some v)) (picks_second w u q))
      by Equal p Less q =
          ap (λ o. first_of R o (Some u)) (picks_tied v w p) ∙ picks_first v u
          (total.congr v w u p ∙ q) ∙ sym
          (ap (first_of R (Some v)) (picks_first w u q) ∙ picks_tied v w p)
      by Equal p Equal q =
          ap (λ o. first_of R o (Some u)) (picks_tied v w p) ∙ picks_tied v u
          (total.congr v w u p ∙ q) ∙ sym
          (ap (first_of R (Some v)) (picks_tied w u q) ∙ picks_tied v w p)
      by Equal p Greater q =
          ap (λ o. first_of R o (Some u)) (picks_tied v w p) ∙ sym
          (ap (first_of R (Some v)) (picks_second w u q))
      by Greater p Less q =
          ap (λ o. first_of R o (Some u)) (picks_second v w p) ∙ picks_first w u q ∙ sym
          (ap (first_of R (Some v)) (picks_first w u q) ∙ picks_second v w p)
      by Greater p Equal q =
          ap (λ o. first_of R o (Some u)) (picks_second v w p) ∙ picks_tied w u q ∙ sym
          (ap (first_of R (Some v)) (picks_tied w u q) ∙ picks_second v w p)
      by Greater p Greater q =
          let back : R u v ≡ Less =
          total.trans u w v (turned w u Greater q) (turned v w Greater p) in
          ap (λ o. first_of R o (Some u)) (picks_second v w p) ∙ picks_second w u q ∙ sym
          (ap (first_of R (Some v)) (picks_second w u q) ∙ picks_second v u
          (turned u v Less back))

  -- Of three values, any of which may be absent, the same one stays, however they are grouped.
  pub first_of-assoc : (a b c : Option V)
      → first_of R (first_of R a b) c ≡ first_of R a (first_of R b c)
  first_of-assoc None b c = refl
  first_of-assoc (Some v) None c = refl
  first_of-assoc (Some v) (Some w) None = none_last (first_of R (Some v) (Some w))
    where
      none_last : (a : Option V) → first_of R a None ≡ a
      none_last None = refl
      none_last (Some x) = refl
  first_of-assoc (Some v) (Some w) (Some u) = three v w u

  -- What holds of two values, where they are there, holds of the one that stays.
  pub first_of-there : (P : V → Type 0) (a b : Option V) → IfThere P a → IfThere P b
      → IfThere P (first_of R a b)
  first_of-there P None b p q = q
  first_of-there P (Some v) None p q = p
  first_of-there P (Some v) (Some w) p q = by (R v w) refl
    where
      by : (r : Ordering) → R v w ≡ r → IfThere P (first_of R (Some v) (Some w))
      by Less h = rw h p
      by Equal h = rw h p
      by Greater h = rw h q

module _ {C V : Type 0} (fits : C → V → Type 0) (order : C → V → V → Ordering)
    (total : (c : C) → IsTotalOrder (order c))
    (exact : (c : C) (v w : V) → fits c v → fits c w → order c v w ≡ Equal → v ≡ w) where
  -- What fits a codec fits an equal one.
  along : (s t : HeldOne C V) → SameCodecOfOne s t → one_proper fits t
      → IfThere (fits s.codec) t.value
  along s t same p = subst (λ (c : C). IfThere (fits c) t.value) (sym same) p

  -- A type that keeps the first of its values is a join semilattice.
  pub one_laws : LatticeLaws (one_proper fits) SameCodecOfOne (one_joined order) IsAbsent
  one_laws = record {
    alike_self = λ x p. refl;
    alike_back = λ x y p q a. sym a;
    alike_joined = λ x y z p q r a b c. c;
    proper_joined =
        λ x y p q a. first_of-there (order x.codec) (total x.codec) (fits x.codec) x.value y.value p
        (along x y a q);
    commutes =
        λ x y p q a. (λ i. record {
          codec = a i;
          value = first_of-comm (order x.codec)
              (total x.codec) (fits x.codec) (exact x.codec) x.value y.value p (along x y a q) i;
        })
        ∙ ap (λ c. record { codec = y.codec; value = first_of (order c) y.value x.value }) a;
    regroups = λ x y z p q r a b c.
        (λ i. record {
          codec = x.codec;
          value = first_of-assoc (order x.codec)
              (total x.codec) x.value y.value z.value i;
        })
        ∙ ap (λ d. record {
          codec = x.codec;
          value = first_of (order x.codec) x.value
              (first_of (order d) y.value z.value);
        }) a;
    repeats =
        λ x p. (λ i. record {
          codec = x.codec;
          value = first_of-idem (order x.codec)
              (total x.codec) x.value i;
        });
    bottom_first =
        λ b x p q a e. (λ i.
        record { codec = a i; value = ap (λ o. first_of (order b.codec) o x.value) e i });
  }
