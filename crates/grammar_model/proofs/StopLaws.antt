-- Where a form that is built from others stops.
use Rattle.std.proofs.Common.{◌≡◌, Bool, true, false, List, [], ◌∷◌, ◌++◌, ◌⊎◌, inl, inr, refl, sym, ap, ◌∙◌, subst, append_assoc}
use Rattle.grammar_model.specs.Grammars.{Grammar, AreTwo, BeginsSecond, two, either, made, Repeats, many}
use Rattle.grammar_model.specs.Stops.{behind, first_passes, Stops}
use Rattle.grammar_model.proofs.FormLaws.{Framed, IsLawful, IsEnder, Apart, starts_at, starts_not_empty}

true_or_false : (b : Bool) → b ≡ true → b ≡ false → ⊥
true_or_false b p q = let e : true ≡ false = sym p ∙ q in cc

module _ {T : Type 0} where
  behind_is : (bad : List T) (t : T) (rest more : List T) → bad ≡ t ∷ rest → behind bad more ≡ t ∷ more
  behind_is bad t rest more e = ap (λ b. behind b more) e

  -- a prefix, and the next token or the end after it, begins as the list does
  same_start : (front bad more : List T) → (left : List T) × (front ++ behind bad more ≡ behind (front ++ bad) left)
  same_start [] bad more = (more, refl)
  same_start (u ∷ front) bad more = (front ++ behind bad more, refl)

  pub starts_as : (ts front bad more : List T) → ts ≡ front ++ bad → (left : List T) × (front ++ behind bad more ≡ behind ts left)
  starts_as ts front bad more e =
      let it = same_start front bad more in (it.0, it.1 ∙ ap (λ xs. behind xs it.0) (sym e))

-- a form that neither reads nor begins with the first token of this list, nor reads the empty list if this is empty
pub record IsNotHere {T A : Type 0} (f : Grammar T A) (ts : List T) : Type 0 where
  pub begun : (t : T) (rest more : List T) → ts ≡ t ∷ rest → f.begins (t ∷ more) → ⊥
  pub read : (more : List T) (a : A) (rest : List T) → f.reads (behind ts more) a rest → ⊥

module _ {T A : Type 0} (f : Grammar T A) (first : T → Bool) (law : IsLawful f first) where
  not_read : (ts more : List T) (a : A) (rest : List T) → first_passes first ts ≡ false → f.reads (behind ts more) a rest → ⊥
  not_read [] more a rest e r = starts_not_empty first (law.read_starts [] a rest r)
  not_read (t ∷ ts) more a rest e r = true_or_false (first t) (starts_at first t more (law.read_starts (t ∷ more) a rest r)) e

  pub not_here : (ts : List T) → first_passes first ts ≡ false → IsNotHere f ts
  not_here ts e = record {
    begun = λ t rest more is b. true_or_false (first t) (law.begun_starts t more b) (ap (first_passes first) (sym is) ∙ e);
    read = λ more a rest r. not_read ts more a rest e r;
  }

  pub stops_here : (ts : List T) → first_passes first ts ≡ false → Stops f ts ts
  stops_here ts e =
      let it = not_here ts e in
      record { front = []; cut = refl; begun = law.empty; ends = it.begun; none = it.read }

module _ {T A : Type 0} (g : Grammar T A) (first then_ : T → Bool) (law : IsEnder g then_) (apart : Apart first then_) where
  apart_read : (ts more : List T) (a : A) (rest : List T) → first_passes first ts ≡ true → g.reads (behind ts more) a rest → ⊥
  apart_read [] more a rest e r = true_or_false false e refl
  apart_read (t ∷ ts) more a rest e r = apart t e (law.read_first t more a rest r)

  pub not_here_apart : (ts : List T) → first_passes first ts ≡ true → IsNotHere g ts
  not_here_apart ts e = record {
    begun = λ t rest more is b. apart t (ap (first_passes first) (sym is) ∙ e) (law.begun_starts t more b);
    read = λ more a rest r. apart_read ts more a rest e r;
  }

-- what isn't here isn't after a prefix of the list either
module _ {T A : Type 0} (f : Grammar T A) (ts : List T) (absent : IsNotHere f ts) where
  first_of : (front bad : List T) (t : T) (rest more : List T) → ts ≡ front ++ bad → bad ≡ t ∷ rest → (u : T) × (left tail : List T) × (ts ≡ u ∷ tail) × (front ++ t ∷ more ≡ u ∷ left)
  first_of [] bad t rest more e is = (t, more, rest, e ∙ is, refl)
  first_of (u ∷ front) bad t rest more e is = (u, front ++ t ∷ more, front ++ bad, e, refl)

  pub not_begun : (front bad : List T) (t : T) (rest more : List T) → ts ≡ front ++ bad → bad ≡ t ∷ rest → f.begins (front ++ t ∷ more) → ⊥
  not_begun front bad t rest more e is b =
      let it = first_of front bad t rest more e is in
      absent.begun it.0 it.2 it.1 it.3 (subst f.begins it.4 b)

  pub not_sentence : (front bad more : List T) (a : A) (rest : List T) → ts ≡ front ++ bad → f.reads (front ++ behind bad more) a rest → ⊥
  not_sentence front bad more a rest e r =
      let it = starts_as ts front bad more e in
      absent.read it.0 a rest (subst (λ xs. f.reads xs a rest) it.1 r)

module _ {T A B : Type 0} (make : A → B) (f : Grammar T A) where
  pub stops_made : (ts bad : List T) → Stops f ts bad → Stops (made make f) ts bad
  stops_made ts bad s = record {
    front = s.front;
    cut = s.cut;
    begun = s.begun;
    ends = s.ends;
    none = λ more b rest r. s.none more r.said rest r.reads;
  }

module _ {T A B : Type 0} (f : Grammar T A) (g : Grammar T B) where
  first_ends : (ts bad : List T) (s : Stops f ts bad) (t : T) (rest more : List T) → bad ≡ t ∷ rest → f.begins (s.front ++ t ∷ more) ⊎ BeginsSecond f g (s.front ++ t ∷ more) → ⊥
  first_ends ts bad s t rest more is (inl b) = s.ends t rest more is b
  first_ends ts bad s t rest more is (inr b) =
      s.none more b.said b.between (subst (λ xs. f.reads (s.front ++ xs) b.said b.between) (sym (behind_is bad t rest more is)) b.first)

  pub stops_first : (ts bad : List T) → Stops f ts bad → Stops (two f g) ts bad
  stops_first ts bad s = record {
    front = s.front;
    cut = s.cut;
    begun = inl s.begun;
    ends = first_ends ts bad s;
    none = λ more both rest r. s.none more both.0 r.between r.first;
  }

module _ {T A B : Type 0} (f : Grammar T A) (g : Grammar T B) (first : T → Bool) (law : IsLawful f first) where
  -- a prefix that is read can't go on being begun
  pub read_not_begun : (front more : List T) (a : A) (t : T) (rest : List T) → f.reads (front ++ more) a more → more ≡ t ∷ rest → f.begins (front ++ more) → ⊥
  read_not_begun front more a t rest r is b =
      let e : more ≡ [] = law.whole (front ++ more) a more b r in
      let w : t ∷ rest ≡ [] = sym is ∙ e in cc

  some_behind : (front : List T) (t : T) (more : List T) → (u : T) × (left : List T) × (front ++ t ∷ more ≡ u ∷ left)
  some_behind [] t more = (t, more, refl)
  some_behind (u ∷ front) t more = (u, front ++ t ∷ more, refl)

  second_ends : (ts mid bad : List T) (a : A) (it : Framed f ts a mid) (s : Stops g mid bad) (t : T) (rest more : List T) → bad ≡ t ∷ rest → f.begins (it.front ++ (s.front ++ t ∷ more)) ⊎ BeginsSecond f g (it.front ++ (s.front ++ t ∷ more)) → ⊥
  second_ends ts mid bad a it s t rest more is (inl b) =
      let left = s.front ++ t ∷ more in
      let some = some_behind s.front t more in
      read_not_begun it.front left a some.0 some.1 (it.again left) some.2 b
  second_ends ts mid bad a it s t rest more is (inr b) =
      let left = s.front ++ t ∷ more in
      let same = law.one (it.front ++ left) b.said a b.between left b.first (it.again left) in
      s.ends t rest more is (subst g.begins same.1 b.second)

  second_none : (ts mid bad : List T) (a : A) (it : Framed f ts a mid) (s : Stops g mid bad) (more : List T) (both : A × B) (rest : List T) → AreTwo f g (it.front ++ (s.front ++ behind bad more)) both rest → ⊥
  second_none ts mid bad a it s more both rest r =
      let left = s.front ++ behind bad more in
      let same = law.one (it.front ++ left) both.0 a r.between left r.first (it.again left) in
      s.none more both.1 rest (subst (λ xs. g.reads xs both.1 rest) same.1 r.second)

  pub stops_second : (ts mid bad : List T) (a : A) → f.reads ts a mid → Stops g mid bad → Stops (two f g) ts bad
  stops_second ts mid bad a r s =
      let it = law.framed ts a mid r in
      record {
        front = it.front ++ s.front;
        cut = it.cut ∙ ap (λ xs. it.front ++ xs) s.cut ∙ sym (append_assoc it.front s.front bad);
        begun = inr (record { said = a; between = s.front; first = it.again s.front; second = s.begun });
        ends = λ t rest more is b. second_ends ts mid bad a it s t rest more is (subst (λ xs. f.begins xs ⊎ BeginsSecond f g xs) (append_assoc it.front s.front (t ∷ more)) b);
        none = λ more both rest q. second_none ts mid bad a it s more both rest (subst (λ xs. AreTwo f g xs both rest) (append_assoc it.front s.front (behind bad more)) q);
      }

module _ {T A : Type 0} (f g : Grammar T A) where
  left_ends : (ts bad : List T) (s : Stops f ts bad) → IsNotHere g ts → (t : T) (rest more : List T) → bad ≡ t ∷ rest → f.begins (s.front ++ t ∷ more) ⊎ g.begins (s.front ++ t ∷ more) → ⊥
  left_ends ts bad s absent t rest more is (inl b) = s.ends t rest more is b
  left_ends ts bad s absent t rest more is (inr b) = not_begun g ts absent s.front bad t rest more s.cut is b

  left_none : (ts bad : List T) (s : Stops f ts bad) → IsNotHere g ts → (more : List T) (a : A) (rest : List T) → f.reads (s.front ++ behind bad more) a rest ⊎ g.reads (s.front ++ behind bad more) a rest → ⊥
  left_none ts bad s absent more a rest (inl r) = s.none more a rest r
  left_none ts bad s absent more a rest (inr r) = not_sentence g ts absent s.front bad more a rest s.cut r

  pub stops_left : (ts bad : List T) → IsNotHere g ts → Stops f ts bad → Stops (either f g) ts bad
  stops_left ts bad absent s = record {
    front = s.front;
    cut = s.cut;
    begun = inl s.begun;
    ends = left_ends ts bad s absent;
    none = left_none ts bad s absent;
  }

  right_ends : (ts bad : List T) (s : Stops g ts bad) → IsNotHere f ts → (t : T) (rest more : List T) → bad ≡ t ∷ rest → f.begins (s.front ++ t ∷ more) ⊎ g.begins (s.front ++ t ∷ more) → ⊥
  right_ends ts bad s absent t rest more is (inl b) = not_begun f ts absent s.front bad t rest more s.cut is b
  right_ends ts bad s absent t rest more is (inr b) = s.ends t rest more is b

  right_none : (ts bad : List T) (s : Stops g ts bad) → IsNotHere f ts → (more : List T) (a : A) (rest : List T) → f.reads (s.front ++ behind bad more) a rest ⊎ g.reads (s.front ++ behind bad more) a rest → ⊥
  right_none ts bad s absent more a rest (inl r) = not_sentence f ts absent s.front bad more a rest s.cut r
  right_none ts bad s absent more a rest (inr r) = s.none more a rest r

  pub stops_right : (ts bad : List T) → IsNotHere f ts → Stops g ts bad → Stops (either f g) ts bad
  stops_right ts bad absent s = record {
    front = s.front;
    cut = s.cut;
    begun = inr s.begun;
    ends = right_ends ts bad s absent;
    none = right_none ts bad s absent;
  }

module _ {T A B : Type 0} (f : Grammar T A) (g : Grammar T B) where
  -- an item stops, and no end is here
  item_ends : (ts bad : List T) (s : Stops f ts bad) → IsNotHere g ts → (t : T) (rest more : List T) → bad ≡ t ∷ rest → (said : List A) (between : List T) → Repeats f (s.front ++ t ∷ more) said between → f.begins between ⊎ g.begins between → ⊥
  item_ends ts bad s absent t rest more is [] between e (inl b) = s.ends t rest more is (subst f.begins (sym e) b)
  item_ends ts bad s absent t rest more is [] between e (inr b) = not_begun g ts absent s.front bad t rest more s.cut is (subst g.begins (sym e) b)
  item_ends ts bad s absent t rest more is (x ∷ said) between e n =
      s.none more x e.0 (subst (λ xs. f.reads (s.front ++ xs) x e.0) (sym (behind_is bad t rest more is)) e.1)

  item_none : (ts bad : List T) (s : Stops f ts bad) → IsNotHere g ts → (more : List T) (items : List A) (last : B) (between rest : List T) → Repeats f (s.front ++ behind bad more) items between → g.reads between last rest → ⊥
  item_none ts bad s absent more [] last between rest e r = not_sentence g ts absent s.front bad more last rest s.cut (subst (λ xs. g.reads xs last rest) (sym e) r)
  item_none ts bad s absent more (x ∷ items) last between rest e r = s.none more x e.0 e.1

  pub stops_item : (ts bad : List T) → IsNotHere g ts → Stops f ts bad → Stops (many f g) ts bad
  stops_item ts bad absent s = record {
    front = s.front;
    cut = s.cut;
    begun = record { said = []; between = s.front; items = refl; next = inl s.begun };
    ends = λ t rest more is b. item_ends ts bad s absent t rest more is b.said b.between b.items b.next;
    none = λ more all rest r. item_none ts bad s absent more all.0 all.1 r.between rest r.items r.last;
  }

  -- no item is here, and the end stops
  last_ends : (ts bad : List T) (s : Stops g ts bad) → IsNotHere f ts → (t : T) (rest more : List T) → bad ≡ t ∷ rest → (said : List A) (between : List T) → Repeats f (s.front ++ t ∷ more) said between → f.begins between ⊎ g.begins between → ⊥
  last_ends ts bad s absent t rest more is [] between e (inl b) = not_begun f ts absent s.front bad t rest more s.cut is (subst f.begins (sym e) b)
  last_ends ts bad s absent t rest more is [] between e (inr b) = s.ends t rest more is (subst g.begins (sym e) b)
  last_ends ts bad s absent t rest more is (x ∷ said) between e n =
      not_sentence f ts absent s.front bad more x e.0 s.cut (subst (λ xs. f.reads (s.front ++ xs) x e.0) (sym (behind_is bad t rest more is)) e.1)

  last_none : (ts bad : List T) (s : Stops g ts bad) → IsNotHere f ts → (more : List T) (items : List A) (last : B) (between rest : List T) → Repeats f (s.front ++ behind bad more) items between → g.reads between last rest → ⊥
  last_none ts bad s absent more [] last between rest e r = s.none more last rest (subst (λ xs. g.reads xs last rest) (sym e) r)
  last_none ts bad s absent more (x ∷ items) last between rest e r = not_sentence f ts absent s.front bad more x e.0 s.cut e.1

  pub stops_last : (ts bad : List T) → IsNotHere f ts → Stops g ts bad → Stops (many f g) ts bad
  stops_last ts bad absent s = record {
    front = s.front;
    cut = s.cut;
    begun = record { said = []; between = s.front; items = refl; next = inr s.begun };
    ends = λ t rest more is b. last_ends ts bad s absent t rest more is b.said b.between b.items b.next;
    none = λ more all rest r. last_none ts bad s absent more all.0 all.1 r.between rest r.items r.last;
  }

module _ {T A B : Type 0} (f : Grammar T A) (g : Grammar T B) (first then_ : T → Bool) (lf : IsLawful f first) (lg : IsEnder g then_) (apart : Apart first then_) where
  read_or_end_begun : (xs : List T) (a : A) (rest : List T) → f.reads xs a rest → g.begins xs → ⊥
  read_or_end_begun xs a rest r b =
      let it = lf.read_starts xs a rest r in
      apart it.it it.passes (lg.begun_starts it.it it.more (subst g.begins it.is b))

  read_or_end_read : (xs : List T) (a : A) (b : B) (rest left : List T) → f.reads xs a rest → g.reads xs b left → ⊥
  read_or_end_read xs a b rest left r s =
      let it = lf.read_starts xs a rest r in
      apart it.it it.passes (lg.read_first it.it it.more b left (subst (λ ys. g.reads ys b left) it.is s))

  later_ends : (ts mid bad : List T) (a : A) (it : Framed f ts a mid) (s : Stops (many f g) mid bad) (t : T) (rest more : List T) → bad ≡ t ∷ rest → (said : List A) (between : List T) → Repeats f (it.front ++ (s.front ++ t ∷ more)) said between → f.begins between ⊎ g.begins between → ⊥
  later_ends ts mid bad a it s t rest more is [] between e (inl b) =
      let left = s.front ++ t ∷ more in
      let some = some_behind f g first lf s.front t more in
      read_not_begun f g first lf it.front left a some.0 some.1 (it.again left) some.2 (subst f.begins (sym e) b)
  later_ends ts mid bad a it s t rest more is [] between e (inr b) =
      let left = s.front ++ t ∷ more in
      read_or_end_begun (it.front ++ left) a left (it.again left) (subst g.begins (sym e) b)
  later_ends ts mid bad a it s t rest more is (x ∷ said) between e n =
      let left = s.front ++ t ∷ more in
      let same = lf.one (it.front ++ left) x a e.0 left e.1 (it.again left) in
      s.ends t rest more is (record { said = said; between = between; items = subst (λ xs. Repeats f xs said between) same.1 e.2; next = n })

  later_none : (ts mid bad : List T) (a : A) (it : Framed f ts a mid) (s : Stops (many f g) mid bad) (more : List T) (items : List A) (last : B) (between rest : List T) → Repeats f (it.front ++ (s.front ++ behind bad more)) items between → g.reads between last rest → ⊥
  later_none ts mid bad a it s more [] last between rest e r =
      let left = s.front ++ behind bad more in
      read_or_end_read (it.front ++ left) a last left rest (it.again left) (subst (λ xs. g.reads xs last rest) (sym e) r)
  later_none ts mid bad a it s more (x ∷ items) last between rest e r =
      let left = s.front ++ behind bad more in
      let same = lf.one (it.front ++ left) x a e.0 left e.1 (it.again left) in
      s.none more (items, last) rest (record { between = between; items = subst (λ xs. Repeats f xs items between) same.1 e.2; last = r })

  -- after an item
  pub stops_later : (ts mid bad : List T) (a : A) → f.reads ts a mid → Stops (many f g) mid bad → Stops (many f g) ts bad
  stops_later ts mid bad a r s =
      let it = lf.framed ts a mid r in
      record {
        front = it.front ++ s.front;
        cut = it.cut ∙ ap (λ xs. it.front ++ xs) s.cut ∙ sym (append_assoc it.front s.front bad);
        begun = record { said = a ∷ s.begun.said; between = s.begun.between; items = (s.front, it.again s.front, s.begun.items); next = s.begun.next };
        ends = λ t rest more is b. later_ends ts mid bad a it s t rest more is b.said b.between (subst (λ xs. Repeats f xs b.said b.between) (append_assoc it.front s.front (t ∷ more)) b.items) b.next;
        none = λ more all rest q. later_none ts mid bad a it s more all.0 all.1 q.between rest (subst (λ xs. Repeats f xs all.0 q.between) (append_assoc it.front s.front (behind bad more)) q.items) q.last;
      }

  -- after several
  pub stops_after : (items : List A) (ts mid bad : List T) → Repeats f ts items mid → Stops (many f g) mid bad → Stops (many f g) ts bad
  stops_after [] ts mid bad e s = subst (λ xs. Stops (many f g) xs bad) (sym e) s
  stops_after (x ∷ items) ts mid bad e s = stops_later ts e.0 bad x e.1 (stops_after items e.0 mid bad e.2 s)
