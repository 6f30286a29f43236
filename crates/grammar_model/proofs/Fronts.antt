-- Each prefix of a sentence, and of what begins a form, begins the form.
use Rattle.std.proofs.Common.{◌≡◌, ◌+◌, ◌<◌, ◌≤◌, Bool, true, Option, List, [], ◌∷◌, ◌++◌, ◌⊎◌, length, inl, inr, refl, sym, ap, ◌∙◌, subst, ⊎_elim, arith, length-append}
use Rattle.std.specs.Option.{is_some}
use Rattle.std.proofs.str.Laws.{order}
use Rattle.grammar_model.specs.Grammars.{Grammar, BeginsOne, token, BeginsSecond, two, either, made, Repeats, BeginsMany, many, nothing, at_end}
use Rattle.grammar_model.proofs.FormLaws.{IsLawful}

pub record IsFronted {T A : Type 0} (f : Grammar T A) : Type 0 where
  pub read : (ts : List T) (a : A) (rest p q : List T) → f.reads ts a rest → ts ≡ p ++ q → length rest ≤ length q → f.begins p
  pub begun : (ts p q : List T) → f.begins ts → ts ≡ p ++ q → f.begins p

-- a prefix that goes past another
record GoesPast {T : Type 0} (front p mid q : List T) : Type 0 where
  more : List T
  is : p ≡ front ++ more
  left : mid ≡ more ++ q

goes_past : {T : Type 0} (front p mid q : List T) → front ++ mid ≡ p ++ q → length q < length mid → GoesPast front p mid q
goes_past [] p mid q e past = record { more = p; is = refl; left = e }
goes_past (t ∷ front) [] mid q e past = absurd (omega (arith, ap length e, length-append front mid))
goes_past (t ∷ front) (u ∷ p) mid q e past =
    let heads : t ≡ u = cc in
    let tails : front ++ mid ≡ p ++ q = cc in
    let it = goes_past front p mid q tails past in
    let whole : u ∷ p ≡ t ∷ (front ++ it.more) = ap (λ x. x ∷ p) (sym heads) ∙ ap (λ xs. t ∷ xs) it.is in
    record { more = it.more; is = whole; left = it.left }

module _ {T A : Type 0} (meant : T → Option A) where
  one_front : (t : T) (rest p q : List T) → is_some (meant t) ≡ true → t ∷ rest ≡ p ++ q → length rest ≤ length q → BeginsOne meant p
  one_front t rest [] q some e short = tt
  one_front t rest (u ∷ []) q some e short = let same : t ≡ u = cc in ap (λ x. is_some (meant x)) (sym same) ∙ some
  one_front t rest (u ∷ v ∷ p) q some e short = absurd (omega (arith, ap length e, length-append p q))

  begun_front : (ts p q : List T) → BeginsOne meant ts → ts ≡ p ++ q → BeginsOne meant p
  begun_front ts [] q b e = tt
  begun_front [] (u ∷ p) q b e = absurd (let w : [] ≡ u ∷ (p ++ q) = e in cc)
  begun_front (t ∷ []) (u ∷ []) q b e = let same : t ≡ u = cc in ap (λ x. is_some (meant x)) (sym same) ∙ b
  begun_front (t ∷ []) (u ∷ v ∷ p) q b e = absurd (omega (arith, ap length e))
  begun_front (t ∷ w ∷ ts) (u ∷ p) q b e = absurd b

  pub fronted_token : IsFronted (token meant)
  fronted_token = record {
    read = λ ts a rest p q r e short. one_front r.first rest p q (ap is_some r.means) (sym r.is ∙ e) short;
    begun = begun_front;
  }

module _ {T : Type 0} where
  empty_front : (p q : List T) → [] ≡ p ++ q → p ≡ []
  empty_front [] q e = refl
  empty_front (u ∷ p) q e = absurd (let w : [] ≡ u ∷ (p ++ q) = e in cc)

module _ {T A : Type 0} where
  pub fronted_nothing : IsFronted (nothing {T = T} {A = A})
  fronted_nothing = record { read = λ ts a rest p q r e short. absurd r; begun = λ ts p q b e. empty_front p q (sym b ∙ e) }

module _ {T : Type 0} where
  pub fronted_ended : IsFronted (at_end {T = T})
  fronted_ended = record { read = λ ts a rest p q r e short. empty_front p q (sym r.0 ∙ e); begun = λ ts p q b e. empty_front p q (sym b ∙ e) }

module _ {T A B : Type 0} (make : A → B) (f : Grammar T A) (ff : IsFronted f) where
  pub fronted_made : IsFronted (made make f)
  fronted_made = record { read = λ ts a rest p q r e short. ff.read ts r.said rest p q r.reads e short; begun = ff.begun }

module _ {T A : Type 0} (f g : Grammar T A) (ff : IsFronted f) (gg : IsFronted g) where
  either_read : (ts : List T) (a : A) (rest p q : List T) → f.reads ts a rest ⊎ g.reads ts a rest → ts ≡ p ++ q → length rest ≤ length q → f.begins p ⊎ g.begins p
  either_read ts a rest p q (inl r) e short = inl (ff.read ts a rest p q r e short)
  either_read ts a rest p q (inr r) e short = inr (gg.read ts a rest p q r e short)

  either_begun : (ts p q : List T) → f.begins ts ⊎ g.begins ts → ts ≡ p ++ q → f.begins p ⊎ g.begins p
  either_begun ts p q (inl b) e = inl (ff.begun ts p q b e)
  either_begun ts p q (inr b) e = inr (gg.begun ts p q b e)

  pub fronted_either : IsFronted (either f g)
  fronted_either = record { read = either_read; begun = either_begun }

module _ {T A B : Type 0} (f : Grammar T A) (g : Grammar T B) (first : T → Bool) (lf : IsLawful f first) (ff : IsFronted f) (gg : IsFronted g) where
  -- after a sentence of f, whatever g does with the prefix that is left
  behind_first : (ts : List T) (a : A) (mid p q : List T) → f.reads ts a mid → ts ≡ p ++ q → ((more : List T) → mid ≡ more ++ q → g.begins more) → f.begins p ⊎ BeginsSecond f g p
  behind_first ts a mid p q r e next =
      ⊎_elim
      (λ (past : length q < length mid).
      let it = lf.framed ts a mid r in
      let far = goes_past it.front p mid q (sym it.cut ∙ e) past in
      inr (record { said = a; between = far.more; first = subst (λ xs. f.reads xs a far.more) (sym far.is) (it.again far.more); second = next far.more far.left }))
      (λ short. inl (ff.read ts a mid p q r e short))
      (order (length q) (length mid))

  two_begun : (ts p q : List T) → f.begins ts ⊎ BeginsSecond f g ts → ts ≡ p ++ q → f.begins p ⊎ BeginsSecond f g p
  two_begun ts p q (inl b) e = inl (ff.begun ts p q b e)
  two_begun ts p q (inr b) e = behind_first ts b.said b.between p q b.first e (λ more left. gg.begun b.between more q b.second left)

  pub fronted_two : IsFronted (two f g)
  fronted_two = record {
    read = λ ts a rest p q r e short. behind_first ts a.0 r.between p q r.first e (λ more left. gg.read r.between a.1 rest more q r.second left short);
    begun = two_begun;
  }

  behind_item : (ts : List T) (a : A) (mid p q : List T) → f.reads ts a mid → ts ≡ p ++ q → ((more : List T) → mid ≡ more ++ q → BeginsMany f g more) → BeginsMany f g p
  behind_item ts a mid p q r e next =
      ⊎_elim
      (λ (past : length q < length mid).
      let it = lf.framed ts a mid r in
      let far = goes_past it.front p mid q (sym it.cut ∙ e) past in
      let later = next far.more far.left in
      record {
        said = a ∷ later.said;
        between = later.between;
        items = (far.more, subst (λ xs. f.reads xs a far.more) (sym far.is) (it.again far.more), later.items);
        next = later.next;
      })
      (λ short. record { said = []; between = p; items = refl; next = inl (ff.read ts a mid p q r e short) })
      (order (length q) (length mid))

  many_read : (items : List A) (ts mid : List T) (b : B) (rest p q : List T) → Repeats f ts items mid → g.reads mid b rest → ts ≡ p ++ q → length rest ≤ length q → BeginsMany f g p
  many_read [] ts mid b rest p q i r e short =
      record { said = []; between = p; items = refl; next = inr (gg.read mid b rest p q r (sym i ∙ e) short) }
  many_read (x ∷ items) ts mid b rest p q i r e short =
      behind_item ts x i.0 p q i.1 e (λ more left. many_read items i.0 mid b rest more q i.2 r left short)

  next_begun : (ts p q : List T) → f.begins ts ⊎ g.begins ts → ts ≡ p ++ q → f.begins p ⊎ g.begins p
  next_begun ts p q (inl b) e = inl (ff.begun ts p q b e)
  next_begun ts p q (inr b) e = inr (gg.begun ts p q b e)

  many_begun : (said : List A) (ts mid p q : List T) → Repeats f ts said mid → f.begins mid ⊎ g.begins mid → ts ≡ p ++ q → BeginsMany f g p
  many_begun [] ts mid p q i n e = record { said = []; between = p; items = refl; next = next_begun mid p q n (sym i ∙ e) }
  many_begun (x ∷ said) ts mid p q i n e = behind_item ts x i.0 p q i.1 e (λ more left. many_begun said i.0 mid more q i.2 n left)

  pub fronted_many : IsFronted (many f g)
  fronted_many = record {
    read = λ ts a rest p q r e short. many_read a.0 ts r.between a.1 rest p q r.items r.last e short;
    begun = λ ts p q b e. many_begun b.said ts b.between p q b.items b.next e;
  }
