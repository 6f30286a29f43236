use Rattle.std.specs.Prelude.{◌≡◌, refl}

-- What a join keeps. The laws speak of proper values alone, as every value of the type is.
pub record LatticeLaws {L : Type 0} (proper : L → Type 0) (alike : L → L → Type 0)
    (joined : L → L → L) (bottom : L → Type 0) : Type 0 where
  pub alike_self : (x : L) → proper x → alike x x
  pub alike_back : (x y : L) → proper x → proper y → alike x y → alike y x
  pub alike_joined : (x y z : L) → proper x → proper y → proper z → alike x y → alike y z
      → alike x z → alike (joined x y) z
  pub proper_joined : (x y : L) → proper x → proper y → alike x y → proper (joined x y)
  pub commutes : (x y : L) → proper x → proper y → alike x y → joined x y ≡ joined y x
  pub regroups : (x y z : L) → proper x → proper y → proper z → alike x y → alike y z → alike x z
      → joined (joined x y) z ≡ joined x (joined y z)
  pub repeats : (x : L) → proper x → joined x x ≡ x
  pub bottom_first : (b x : L) → proper b → proper x → alike b x → bottom b → joined b x ≡ x

-- The one value of the unit type is joined to itself.
pub unit_laws : LatticeLaws {L = Unit {0}} (λ x. Unit {0}) (λ x y. Unit {0}) (λ x y. x)
    (λ x. Unit {0})
unit_laws = record {
  alike_self = λ x p. tt;
  alike_back = λ x y p q a. tt;
  alike_joined = λ x y z p q r a b c. tt;
  proper_joined = λ x y p q a. tt;
  commutes = λ x y p q a. refl;
  regroups = λ x y z p q r a b c. refl;
  repeats = λ x p. refl;
  bottom_first = λ b x p q a e. refl;
}
