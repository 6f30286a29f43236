-- Codes whose bytes have the order of what they spell, whatever follows them; no code of such a kind begins another.
use Rattle.std.proofs.Common.{◌≡◌, ℕ, List, [], ◌++◌, Ordering, Less, Equal, Greater, nat_cmp, sym, refl, ap, ap₂, ◌∙◌}
use Rattle.std.specs.Ordering.{ordering_then}
use Rattle.std.specs.Cmp.{tied_itself}
use Rattle.std.specs.Cmp.Lexicographic.{slice_cmp}
use Rattle.std.specs.FinMap.{IsAntisymmetric, nat_cmp-IsAntisymmetric, slice_cmp-IsAntisymmetric}
use Rattle.std.proofs.lemmas.Cmp.{nat_list_cmp_total}
use Rattle.std.proofs.lemmas.List.{append-nil}

-- Of two codes with something after them: the values decide, and where they are equal what follows.
pub record KeepsOrder {V : Type 0} (fits : V → Type 0) (code : V → List ℕ) (cmp : V → V → Ordering) : Type 0 where
  pub order : (v w : V) (s t : List ℕ) → fits v → fits w → slice_cmp nat_cmp (code v ++ s) (code w ++ t) ≡ ordering_then (cmp v w) (slice_cmp nat_cmp s t)
  pub exact : IsAntisymmetric cmp

pub then-equal : (o : Ordering) → ordering_then o Equal ≡ o
then-equal Less = refl
then-equal Equal = refl
then-equal Greater = refl

pub then-first : (r o : Ordering) → ordering_then r o ≡ Equal → r ≡ Equal
then-first Less o e = cc
then-first Equal o e = refl
then-first Greater o e = cc

pub then-second : (r o : Ordering) → ordering_then r o ≡ Equal → o ≡ Equal
then-second Less o e = cc
then-second Equal o e = e
then-second Greater o e = cc

pub bytes_exact : IsAntisymmetric (slice_cmp nat_cmp)
bytes_exact = slice_cmp-IsAntisymmetric nat_cmp-IsAntisymmetric

pub bytes_tied : (a b : List ℕ) → a ≡ b → slice_cmp nat_cmp a b ≡ Equal
bytes_tied a b e = ap (λ l. slice_cmp nat_cmp l b) e ∙ tied_itself nat_list_cmp_total b

module _ {V : Type 0} {fits : V → Type 0} {code : V → List ℕ} {cmp : V → V → Ordering} (keeps : KeepsOrder fits code cmp) where
  tied_with : (v w : V) (s t : List ℕ) → fits v → fits w → code v ++ s ≡ code w ++ t → ordering_then (cmp v w) (slice_cmp nat_cmp s t) ≡ Equal
  tied_with v w s t p q e = sym (keeps.order v w s t p q) ∙ bytes_tied (code v ++ s) (code w ++ t) e

  -- no code begins another one's
  pub code_apart : (v w : V) (s t : List ℕ) → fits v → fits w → code v ++ s ≡ code w ++ t → v ≡ w
  code_apart v w s t p q e = keeps.exact v w (then-first (cmp v w) (slice_cmp nat_cmp s t) (tied_with v w s t p q e))

  pub code_rest : (v w : V) (s t : List ℕ) → fits v → fits w → code v ++ s ≡ code w ++ t → s ≡ t
  code_rest v w s t p q e = bytes_exact s t (then-second (cmp v w) (slice_cmp nat_cmp s t) (tied_with v w s t p q e))

  -- by themselves the codes have the order of the values
  pub code_order : (v w : V) → fits v → fits w → slice_cmp nat_cmp (code v) (code w) ≡ cmp v w
  code_order v w p q =
      ap₂ (slice_cmp nat_cmp) (sym (append-nil (code v))) (sym (append-nil (code w))) ∙ keeps.order v w [] [] p q ∙ then-equal (cmp v w)
