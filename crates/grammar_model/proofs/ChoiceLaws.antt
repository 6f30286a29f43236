-- The laws of a form for choices and repetitions, whose parts no token begins both.
use Rattle.std.proofs.Common.{◌≡◌, Bool, true, false, ◌||◌, List, [], ◌∷◌, ◌++◌, ◌⊎◌, inl, inr, refl, sym, ap, ◌∙◌, subst, append_assoc}
use Rattle.grammar_model.specs.Grammars.{Grammar, either, Repeats, AreMany, many, at_end}
use Rattle.grammar_model.proofs.FormLaws.{Framed, Starts, IsLawful, IsEnder, Apart, starts_at, starts_not_empty, ender_of}

or_left : (a b : Bool) → a ≡ true → (a || b) ≡ true
or_left a b e = ap (λ x. x || b) e

or_right : (a b : Bool) → b ≡ true → (a || b) ≡ true
or_right true b e = refl
or_right false b e = e

module _ {T : Type 0} (first then_ : T → Bool) where
  pub starts_left : (ts : List T) → Starts first ts → Starts (λ t. first t || then_ t) ts
  starts_left ts s = record { it = s.it; more = s.more; is = s.is; passes = or_left (first s.it) (then_ s.it) s.passes }

  pub starts_right : (ts : List T) → Starts then_ ts → Starts (λ t. first t || then_ t) ts
  starts_right ts s = record { it = s.it; more = s.more; is = s.is; passes = or_right (first s.it) (then_ s.it) s.passes }

  pub starts_clash : (ts : List T) → Apart first then_ → Starts first ts → Starts then_ ts → ⊥
  starts_clash ts apart p q =
      let both : p.it ∷ p.more ≡ q.it ∷ q.more = sym p.is ∙ q.is in
      let same : p.it ≡ q.it = cc in
      apart q.it (ap first (sym same) ∙ p.passes) q.passes

module _ {T A : Type 0} (f g : Grammar T A) (first then_ : T → Bool) (lf : IsLawful f first) (lg : IsLawful g then_) (apart : Apart first then_) where
  either_framed : (ts : List T) (a : A) (rest : List T) → f.reads ts a rest ⊎ g.reads ts a rest → Framed (either f g) ts a rest
  either_framed ts a rest (inl r) =
      let it = lf.framed ts a rest r in record { front = it.front; cut = it.cut; again = λ more. inl (it.again more) }
  either_framed ts a rest (inr r) =
      let it = lg.framed ts a rest r in record { front = it.front; cut = it.cut; again = λ more. inr (it.again more) }

  clash : (ts : List T) (a b : A) (rest left : List T) → f.reads ts a rest → g.reads ts b left → ⊥
  clash ts a b rest left r s = starts_clash first then_ ts apart (lf.read_starts ts a rest r) (lg.read_starts ts b left s)

  either_one : (ts : List T) (a b : A) (rest left : List T) → f.reads ts a rest ⊎ g.reads ts a rest → f.reads ts b left ⊎ g.reads ts b left → (a ≡ b) × (rest ≡ left)
  either_one ts a b rest left (inl r) (inl s) = lf.one ts a b rest left r s
  either_one ts a b rest left (inl r) (inr s) = absurd (clash ts a b rest left r s)
  either_one ts a b rest left (inr r) (inl s) = absurd (clash ts b a left rest s r)
  either_one ts a b rest left (inr r) (inr s) = lg.one ts a b rest left r s

  begun_read_left : (ts : List T) → f.begins ts → Starts then_ ts → ⊥
  begun_read_left ts b s = apart s.it (lf.begun_starts s.it s.more (subst f.begins s.is b)) s.passes

  begun_read_right : (ts : List T) → g.begins ts → Starts first ts → ⊥
  begun_read_right ts b s = apart s.it s.passes (lg.begun_starts s.it s.more (subst g.begins s.is b))

  either_whole : (ts : List T) (a : A) (rest : List T) → f.begins ts ⊎ g.begins ts → f.reads ts a rest ⊎ g.reads ts a rest → rest ≡ []
  either_whole ts a rest (inl b) (inl r) = lf.whole ts a rest b r
  either_whole ts a rest (inl b) (inr r) = absurd (begun_read_left ts b (lg.read_starts ts a rest r))
  either_whole ts a rest (inr b) (inl r) = absurd (begun_read_right ts b (lf.read_starts ts a rest r))
  either_whole ts a rest (inr b) (inr r) = lg.whole ts a rest b r

  either_starts : (ts : List T) (a : A) (rest : List T) → f.reads ts a rest ⊎ g.reads ts a rest → Starts (λ t. first t || then_ t) ts
  either_starts ts a rest (inl r) = starts_left first then_ ts (lf.read_starts ts a rest r)
  either_starts ts a rest (inr r) = starts_right first then_ ts (lg.read_starts ts a rest r)

  either_begun : (t : T) (more : List T) → f.begins (t ∷ more) ⊎ g.begins (t ∷ more) → (first t || then_ t) ≡ true
  either_begun t more (inl b) = or_left (first t) (then_ t) (lf.begun_starts t more b)
  either_begun t more (inr b) = or_right (first t) (then_ t) (lg.begun_starts t more b)

  pub lawful_either : IsLawful (either f g) (λ t. first t || then_ t)
  lawful_either = record {
    framed = either_framed;
    one = either_one;
    whole = either_whole;
    read_starts = either_starts;
    begun_starts = either_begun;
    empty = inl lf.empty;
  }

module _ {T : Type 0} where
  pub ender_ended : IsEnder (at_end {T = T}) (λ t. false)
  ender_ended = record {
    one = λ ts a b rest left r s. (refl, r.1 ∙ sym s.1);
    read_first = λ t more a rest r. absurd (let e : t ∷ more ≡ [] = r.0 in cc);
    begun_starts = λ t more b. absurd (let e : t ∷ more ≡ [] = b in cc);
    empty = refl;
  }

-- a repetition that an ender follows
module _ {T A B : Type 0} (f : Grammar T A) (g : Grammar T B) (first then_ : T → Bool) (lf : IsLawful f first) (lg : IsEnder g then_) (apart : Apart first then_) where
  pub item_or_end : (ts : List T) (a : A) (b : B) (rest left : List T) → f.reads ts a rest → g.reads ts b left → ⊥
  item_or_end ts a b rest left r s =
      let it = lf.read_starts ts a rest r in
      apart it.it it.passes (lg.read_first it.it it.more b left (subst (λ xs. g.reads xs b left) it.is s))

  record IsOneMany (ts : List T) (items others : List A) (a b : B) (rest left : List T) : Type 0 where
    items_are : items ≡ others
    last_is : a ≡ b
    rest_is : rest ≡ left

  many_same : (items others : List A) (ts mid late : List T) (a b : B) (rest left : List T) → Repeats f ts items mid → g.reads mid a rest → Repeats f ts others late → g.reads late b left → IsOneMany ts items others a b rest left
  many_same [] [] ts mid late a b rest left p r q s =
      let same = lg.one late a b rest left (subst (λ xs. g.reads xs a rest) (sym p ∙ q) r) s in
      record { items_are = refl; last_is = same.0; rest_is = same.1 }
  many_same [] (y ∷ others) ts mid late a b rest left p r q s =
      absurd (item_or_end ts y a q.0 rest q.1 (subst (λ xs. g.reads xs a rest) (sym p) r))
  many_same (x ∷ items) [] ts mid late a b rest left p r q s =
      absurd (item_or_end ts x b p.0 left p.1 (subst (λ xs. g.reads xs b left) (sym q) s))
  many_same (x ∷ items) (y ∷ others) ts mid late a b rest left p r q s =
      let same = lf.one ts x y p.0 q.0 p.1 q.1 in
      let more = many_same items others q.0 mid late a b rest left (subst (λ xs. Repeats f xs items mid) same.1 p.2) r q.2 s in
      record { items_are = λ i. same.0 i ∷ more.items_are i; last_is = more.last_is; rest_is = more.rest_is }

  pub many_one : (ts : List T) (a b : List A × B) (rest left : List T) → AreMany f g ts a rest → AreMany f g ts b left → (a ≡ b) × (rest ≡ left)
  many_one ts a b rest left r s =
      let same = many_same a.0 b.0 ts r.between s.between a.1 b.1 rest left r.items r.last s.items s.last in
      ((λ i. (same.items_are i, same.last_is i)), same.rest_is)

  repeats_first : (t : T) (more : List T) (items : List A) (mid : List T) (b : B) (rest : List T) → Repeats f (t ∷ more) items mid → g.reads mid b rest → (first t || then_ t) ≡ true
  repeats_first t more [] mid b rest p r = or_right (first t) (then_ t) (lg.read_first t more b rest (subst (λ xs. g.reads xs b rest) (sym p) r))
  repeats_first t more (x ∷ items) mid b rest p r = or_left (first t) (then_ t) (starts_at first t more (lf.read_starts (t ∷ more) x p.0 p.1))

  next_first : (t : T) (more : List T) (mid : List T) → t ∷ more ≡ mid → f.begins mid ⊎ g.begins mid → (first t || then_ t) ≡ true
  next_first t more mid e (inl b) = or_left (first t) (then_ t) (lf.begun_starts t more (subst f.begins (sym e) b))
  next_first t more mid e (inr b) = or_right (first t) (then_ t) (lg.begun_starts t more (subst g.begins (sym e) b))

  begun_first : (t : T) (more : List T) (items : List A) (mid : List T) → Repeats f (t ∷ more) items mid → f.begins mid ⊎ g.begins mid → (first t || then_ t) ≡ true
  begun_first t more [] mid p b = next_first t more mid p b
  begun_first t more (x ∷ items) mid p b = or_left (first t) (then_ t) (starts_at first t more (lf.read_starts (t ∷ more) x p.0 p.1))

  pub ender_many : IsEnder (many f g) (λ t. first t || then_ t)
  ender_many = record {
    one = many_one;
    read_first = λ t more a rest r. repeats_first t more a.0 r.between a.1 rest r.items r.last;
    begun_starts = λ t more b. begun_first t more b.said b.between b.items b.next;
    empty = record { said = []; between = []; items = refl; next = inr lg.empty };
  }

-- a repetition that a sentence of a lawful form ends
module _ {T A B : Type 0} (f : Grammar T A) (g : Grammar T B) (first then_ : T → Bool) (lf : IsLawful f first) (lg : IsLawful g then_) (apart : Apart first then_) where
  repeats_framed : (items : List A) (ts mid : List T) → Repeats f ts items mid → (front : List T) × (ts ≡ front ++ mid) × ((more : List T) → Repeats f (front ++ more) items more)
  repeats_framed [] ts mid p = ([], p, λ more. refl)
  repeats_framed (x ∷ items) ts mid p =
      let it = lf.framed ts x p.0 p.1 in
      let more = repeats_framed items p.0 mid p.2 in
      (it.front ++ more.0, it.cut ∙ ap (λ xs. it.front ++ xs) more.1 ∙ sym (append_assoc it.front more.0 mid), λ left. (more.0 ++ left, subst (λ xs. f.reads xs x (more.0 ++ left)) (sym (append_assoc it.front more.0 left)) (it.again (more.0 ++ left)), more.2 left))

  many_framed : (ts : List T) (all : List A × B) (rest : List T) → AreMany f g ts all rest → Framed (many f g) ts all rest
  many_framed ts all rest r =
      let items = repeats_framed all.0 ts r.between r.items in
      let last = lg.framed r.between all.1 rest r.last in
      record {
        front = items.0 ++ last.front;
        cut = items.1 ∙ ap (λ xs. items.0 ++ xs) last.cut ∙ sym (append_assoc items.0 last.front rest);
        again = λ more. record {
          between = last.front ++ more;
          items = subst (λ xs. Repeats f xs all.0 (last.front ++ more)) (sym (append_assoc items.0 last.front more)) (items.2 (last.front ++ more));
          last = last.again more;
        };
      }

  repeats_not_empty : (items : List A) (mid : List T) (b : B) (rest : List T) → Repeats f [] items mid → g.reads mid b rest → ⊥
  repeats_not_empty [] mid b rest p r = starts_not_empty then_ (lg.read_starts [] b rest (subst (λ xs. g.reads xs b rest) (sym p) r))
  repeats_not_empty (x ∷ items) mid b rest p r = starts_not_empty first (lf.read_starts [] x p.0 p.1)

  many_starts : (items : List A) (ts mid : List T) (b : B) (rest : List T) → Repeats f ts items mid → g.reads mid b rest → Starts (λ t. first t || then_ t) ts
  many_starts [] ts mid b rest p r = starts_right first then_ ts (lg.read_starts ts b rest (subst (λ xs. g.reads xs b rest) (sym p) r))
  many_starts (x ∷ items) ts mid b rest p r = starts_left first then_ ts (lf.read_starts ts x p.0 p.1)

  begun_end : (ts : List T) (b : B) (rest : List T) → f.begins ts ⊎ g.begins ts → g.reads ts b rest → rest ≡ []
  begun_end ts b rest (inr p) r = lg.whole ts b rest p r
  begun_end ts b rest (inl p) r =
      let s = lg.read_starts ts b rest r in
      absurd (apart s.it (lf.begun_starts s.it s.more (subst f.begins s.is p)) s.passes)

  begun_item : (ts : List T) (x : A) (rest : List T) → f.begins ts ⊎ g.begins ts → f.reads ts x rest → rest ≡ []
  begun_item ts x rest (inl p) r = lf.whole ts x rest p r
  begun_item ts x rest (inr p) r =
      let s = lf.read_starts ts x rest r in
      absurd (apart s.it s.passes (lg.begun_starts s.it s.more (subst g.begins s.is p)))

  many_whole : (said items : List A) (ts till mid : List T) (b : B) (rest : List T) → Repeats f ts said till → f.begins till ⊎ g.begins till → Repeats f ts items mid → g.reads mid b rest → rest ≡ []
  many_whole [] [] ts till mid b rest p n q r =
      begun_end mid b rest (subst (λ xs. f.begins xs ⊎ g.begins xs) (sym p ∙ q) n) r
  many_whole [] (x ∷ items) ts till mid b rest p n q r =
      let e = begun_item ts x q.0 (subst (λ xs. f.begins xs ⊎ g.begins xs) (sym p) n) q.1 in
      absurd (repeats_not_empty items mid b rest (subst (λ xs. Repeats f xs items mid) e q.2) r)
  many_whole (x ∷ said) [] ts till mid b rest p n q r =
      absurd (item_or_end f g first then_ lf (ender_of g then_ lg) apart ts x b p.0 rest p.1 (subst (λ xs. g.reads xs b rest) (sym q) r))
  many_whole (x ∷ said) (y ∷ items) ts till mid b rest p n q r =
      let same = lf.one ts x y p.0 q.0 p.1 q.1 in
      many_whole said items q.0 till mid b rest (subst (λ xs. Repeats f xs said till) same.1 p.2) n q.2 r

  pub lawful_many : IsLawful (many f g) (λ t. first t || then_ t)
  lawful_many =
      let ender = ender_many f g first then_ lf (ender_of g then_ lg) apart in
      record {
        framed = many_framed;
        one = many_one f g first then_ lf (ender_of g then_ lg) apart;
        whole = λ ts all rest b r. many_whole b.said all.0 ts b.between r.between all.1 rest b.items b.next r.items r.last;
        read_starts = λ ts all rest r. many_starts all.0 ts r.between all.1 rest r.items r.last;
        begun_starts = ender.begun_starts;
        empty = ender.empty;
      }
