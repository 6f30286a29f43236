-- A form that stops and, with one more token, goes on in another form: what is built from the two does so too.
use Rattle.std.proofs.Common.{Bool, List, [], ◌∷◌, ◌++◌, inl, inr, refl, sym, ap, ◌∙◌, subst, append_assoc}
use Rattle.grammar_model.specs.Grammars.{Grammar, two, either, made, Repeats, many}
use Rattle.grammar_model.specs.Stops.{GoesOn}
use Rattle.grammar_model.proofs.FormLaws.{IsLawful, IsEnder, Apart}
use Rattle.grammar_model.proofs.Growth.{Grows}
use Rattle.grammar_model.proofs.StopLaws.{IsNotHere, stops_made, stops_first, stops_second, stops_left, stops_right, stops_item, stops_last, stops_later}

module _ {T A B : Type 0} (make : A → B) (f wide : Grammar T A) where
  pub goes_made : (ts bad : List T) → GoesOn f wide ts bad → GoesOn (made make f) (made make wide) ts bad
  goes_made ts bad s = record {
    stops = stops_made make f ts bad s.stops;
    front = s.front;
    next = s.next;
    rest = s.rest;
    cut = s.cut;
    there = s.there;
    on = s.on;
  }

module _ {T A B : Type 0} (f wide : Grammar T A) (g broad : Grammar T B) where
  pub goes_first : (ts bad : List T) → GoesOn f wide ts bad → GoesOn (two f g) (two wide broad) ts bad
  goes_first ts bad s = record {
    stops = stops_first f g ts bad s.stops;
    front = s.front;
    next = s.next;
    rest = s.rest;
    cut = s.cut;
    there = s.there;
    on = inl s.on;
  }

module _ {T A B : Type 0} (f wide : Grammar T A) (g broad : Grammar T B) (first wide_first : T → Bool) (lf : IsLawful f first) (lw : IsLawful wide wide_first) where
  pub goes_second : (ts mid bad : List T) (a : A) → f.reads ts a mid → wide.reads ts a mid → GoesOn g broad mid bad → GoesOn (two f g) (two wide broad) ts bad
  goes_second ts mid bad a r w s =
      let it = lw.framed ts a mid w in
      record {
        stops = stops_second f g first lf ts mid bad a r s.stops;
        front = it.front ++ s.front;
        next = s.next;
        rest = s.rest;
        cut = it.cut ∙ ap (λ xs. it.front ++ xs) s.cut ∙ sym (append_assoc it.front s.front bad);
        there = s.there;
        on = inr (record {
          said = a;
          between = s.front ++ s.next ∷ [];
          first = subst (λ xs. wide.reads xs a (s.front ++ s.next ∷ [])) (sym (append_assoc it.front s.front (s.next ∷ []))) (it.again (s.front ++ s.next ∷ []));
          second = s.on;
        });
      }

module _ {T A : Type 0} (f g wide broad : Grammar T A) where
  pub goes_left : (ts bad : List T) → IsNotHere g ts → GoesOn f wide ts bad → GoesOn (either f g) (either wide broad) ts bad
  goes_left ts bad absent s = record {
    stops = stops_left f g ts bad absent s.stops;
    front = s.front;
    next = s.next;
    rest = s.rest;
    cut = s.cut;
    there = s.there;
    on = inl s.on;
  }

  pub goes_right : (ts bad : List T) → IsNotHere f ts → GoesOn g broad ts bad → GoesOn (either f g) (either wide broad) ts bad
  goes_right ts bad absent s = record {
    stops = stops_right f g ts bad absent s.stops;
    front = s.front;
    next = s.next;
    rest = s.rest;
    cut = s.cut;
    there = s.there;
    on = inr s.on;
  }

module _ {T A B : Type 0} (f wide : Grammar T A) (g broad : Grammar T B) where
  pub goes_item : (ts bad : List T) → IsNotHere g ts → GoesOn f wide ts bad → GoesOn (many f g) (many wide broad) ts bad
  goes_item ts bad absent s = record {
    stops = stops_item f g ts bad absent s.stops;
    front = s.front;
    next = s.next;
    rest = s.rest;
    cut = s.cut;
    there = s.there;
    on = record { said = []; between = s.front ++ s.next ∷ []; items = refl; next = inl s.on };
  }

  pub goes_last : (ts bad : List T) → IsNotHere f ts → GoesOn g broad ts bad → GoesOn (many f g) (many wide broad) ts bad
  goes_last ts bad absent s = record {
    stops = stops_last f g ts bad absent s.stops;
    front = s.front;
    next = s.next;
    rest = s.rest;
    cut = s.cut;
    there = s.there;
    on = record { said = []; between = s.front ++ s.next ∷ []; items = refl; next = inr s.on };
  }

module _ {T A B : Type 0} (f wide : Grammar T A) (g broad : Grammar T B) (first wide_first then_ : T → Bool) (lf : IsLawful f first) (lw : IsLawful wide wide_first) (lg : IsEnder g then_) (apart : Apart first then_) where
  pub goes_later : (ts mid bad : List T) (a : A) → f.reads ts a mid → wide.reads ts a mid → GoesOn (many f g) (many wide broad) mid bad → GoesOn (many f g) (many wide broad) ts bad
  goes_later ts mid bad a r w s =
      let it = lw.framed ts a mid w in
      record {
        stops = stops_later f g first then_ lf lg apart ts mid bad a r s.stops;
        front = it.front ++ s.front;
        next = s.next;
        rest = s.rest;
        cut = it.cut ∙ ap (λ xs. it.front ++ xs) s.cut ∙ sym (append_assoc it.front s.front bad);
        there = s.there;
        on = record {
          said = a ∷ s.on.said;
          between = s.on.between;
          items = (s.front ++ s.next ∷ [], subst (λ xs. wide.reads xs a (s.front ++ s.next ∷ [])) (sym (append_assoc it.front s.front (s.next ∷ []))) (it.again (s.front ++ s.next ∷ [])), s.on.items);
          next = s.on.next;
        };
      }

  pub goes_after : Grows f wide → (items : List A) (ts mid bad : List T) → Repeats f ts items mid → GoesOn (many f g) (many wide broad) mid bad → GoesOn (many f g) (many wide broad) ts bad
  goes_after grows [] ts mid bad p s = subst (λ xs. GoesOn (many f g) (many wide broad) xs bad) (sym p) s
  goes_after grows (x ∷ items) ts mid bad p s =
      goes_later ts p.0 bad x p.1 (grows.read ts x p.0 p.1) (goes_after grows items p.0 mid bad p.2 s)
