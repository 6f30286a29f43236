-- The laws that a form keeps, and that each way to build forms keeps.
use Rattle.std.proofs.Common.{◌≡◌, Bool, true, Option, Some, List, [], ◌∷◌, ◌++◌, ◌⊎◌, inl, inr, refl, sym, ap, ◌∙◌, subst, append_assoc}
use Rattle.std.specs.Option.{is_some}
use Rattle.grammar_model.specs.Grammars.{Grammar, BeginsOne, token, AreTwo, BeginsSecond, two, IsMade, made, nothing}

-- a sentence is a prefix of the list, and is one before any other rest
pub record Framed {T A : Type 0} (f : Grammar T A) (ts : List T) (a : A) (rest : List T) : Type 0 where
  pub front : List T
  pub cut : ts ≡ front ++ rest
  pub again : (more : List T) → f.reads (front ++ more) a more

-- the list has a first token, which passes the test
pub record Starts {T : Type 0} (first : T → Bool) (ts : List T) : Type 0 where
  pub it : T
  pub more : List T
  pub is : ts ≡ it ∷ more
  pub passes : first it ≡ true

pub record IsLawful {T A : Type 0} (f : Grammar T A) (first : T → Bool) : Type 0 where
  pub framed : (ts : List T) (a : A) (rest : List T) → f.reads ts a rest → Framed f ts a rest
  pub one : (ts : List T) (a b : A) (rest left : List T) → f.reads ts a rest → f.reads ts b left → (a ≡ b) × (rest ≡ left)
  pub whole : (ts : List T) (a : A) (rest : List T) → f.begins ts → f.reads ts a rest → rest ≡ []
  pub read_starts : (ts : List T) (a : A) (rest : List T) → f.reads ts a rest → Starts first ts
  pub begun_starts : (t : T) (more : List T) → f.begins (t ∷ more) → first t ≡ true
  pub empty : f.begins []

-- what may end a repetition, also the end of the list
pub record IsEnder {T A : Type 0} (f : Grammar T A) (first : T → Bool) : Type 0 where
  pub one : (ts : List T) (a b : A) (rest left : List T) → f.reads ts a rest → f.reads ts b left → (a ≡ b) × (rest ≡ left)
  pub read_first : (t : T) (more : List T) (a : A) (rest : List T) → f.reads (t ∷ more) a rest → first t ≡ true
  pub begun_starts : (t : T) (more : List T) → f.begins (t ∷ more) → first t ≡ true
  pub empty : f.begins []

-- no token passes both tests
abbrev pub Apart : {T : Type 0} → (T → Bool) → (T → Bool) → Type 0
Apart {T} p q = (t : T) → p t ≡ true → q t ≡ true → ⊥

-- what starts with a token passes the test at it
pub starts_at : {T : Type 0} (first : T → Bool) (t : T) (more : List T) → Starts first (t ∷ more) → first t ≡ true
starts_at first t more s = let same : t ≡ s.it = let e = s.is in cc in ap first same ∙ s.passes

pub starts_not_empty : {T : Type 0} (first : T → Bool) → Starts first [] → ⊥
starts_not_empty first s = let e = s.is in cc

pub ender_of : {T A : Type 0} (f : Grammar T A) (first : T → Bool) → IsLawful f first → IsEnder f first
ender_of f first law = record {
  one = law.one;
  read_first = λ t more a rest reads. starts_at first t more (law.read_starts (t ∷ more) a rest reads);
  begun_starts = law.begun_starts;
  empty = law.empty;
}

module _ {T A : Type 0} (meant : T → Option A) where
  one_whole : (t : T) (rest : List T) → BeginsOne meant (t ∷ rest) → rest ≡ []
  one_whole t [] b = refl
  one_whole t (u ∷ rest) b = absurd b

  one_starts : (t : T) (more : List T) → BeginsOne meant (t ∷ more) → is_some (meant t) ≡ true
  one_starts t [] b = b
  one_starts t (u ∷ more) b = absurd b

  some_same : (o : Option A) (a b : A) → o ≡ Some a → o ≡ Some b → a ≡ b
  some_same o a b p q = let e : Some a ≡ Some b = sym p ∙ q in cc

  pub lawful_token : IsLawful (token meant) (λ t. is_some (meant t))
  lawful_token = record {
    framed = λ ts a rest r. record { front = r.first ∷ []; cut = r.is; again = λ more. record { first = r.first; is = refl; means = r.means } };
    one = λ ts a b rest left r s.
        let both : r.first ∷ rest ≡ s.first ∷ left = sym r.is ∙ s.is in
        let firsts : r.first ≡ s.first = cc in
        (some_same (meant r.first) a b r.means (ap meant firsts ∙ s.means), cc);
    whole = λ ts a rest b r. one_whole r.first rest (subst (BeginsOne meant) r.is b);
    read_starts = λ ts a rest r. record { it = r.first; more = rest; is = r.is; passes = ap is_some r.means };
    begun_starts = one_starts;
    empty = tt;
  }

module _ {T A : Type 0} where
  pub lawful_nothing : (first : T → Bool) → IsLawful (nothing {T = T} {A = A}) first
  lawful_nothing first = record {
    framed = λ ts a rest r. absurd r;
    one = λ ts a b rest left r s. absurd r;
    whole = λ ts a rest b r. absurd r;
    read_starts = λ ts a rest r. absurd r;
    begun_starts = λ t more b. absurd (let e : t ∷ more ≡ [] = b in cc);
    empty = refl;
  }

module _ {T A B : Type 0} (make : A → B) (f : Grammar T A) (first : T → Bool) (law : IsLawful f first) where
  made_framed : (ts : List T) (b : B) (rest : List T) → IsMade make f ts b rest → Framed (made make f) ts b rest
  made_framed ts b rest r =
      let it = law.framed ts r.said rest r.reads in
      record { front = it.front; cut = it.cut; again = λ more. record { said = r.said; reads = it.again more; is = r.is } }

  pub lawful_made : IsLawful (made make f) first
  lawful_made = record {
    framed = made_framed;
    one = λ ts a b rest left r s.
        let same = law.one ts r.said s.said rest left r.reads s.reads in
        (r.is ∙ ap make same.0 ∙ sym s.is, same.1);
    whole = λ ts a rest b r. law.whole ts r.said rest b r.reads;
    read_starts = λ ts a rest r. law.read_starts ts r.said rest r.reads;
    begun_starts = law.begun_starts;
    empty = law.empty;
  }

module _ {T A B : Type 0} (f : Grammar T A) (g : Grammar T B) (first then_ : T → Bool) (lf : IsLawful f first) (lg : IsLawful g then_) where
  two_framed : (ts : List T) (both : A × B) (rest : List T) → AreTwo f g ts both rest → Framed (two f g) ts both rest
  two_framed ts both rest r =
      let a = lf.framed ts both.0 r.between r.first in
      let b = lg.framed r.between both.1 rest r.second in
      record {
        front = a.front ++ b.front;
        cut = a.cut ∙ ap (λ xs. a.front ++ xs) b.cut ∙ sym (append_assoc a.front b.front rest);
        again = λ more. record {
          between = b.front ++ more;
          first = subst (λ xs. f.reads xs both.0 (b.front ++ more)) (sym (append_assoc a.front b.front more)) (a.again (b.front ++ more));
          second = b.again more;
        };
      }

  two_one : (ts : List T) (a b : A × B) (rest left : List T) → AreTwo f g ts a rest → AreTwo f g ts b left → (a ≡ b) × (rest ≡ left)
  two_one ts a b rest left r s =
      let same = lf.one ts a.0 b.0 r.between s.between r.first s.first in
      let more = lg.one s.between a.1 b.1 rest left (subst (λ xs. g.reads xs a.1 rest) same.1 r.second) s.second in
      ((λ i. (same.0 i, more.0 i)), more.1)

  two_whole : (ts : List T) (a : A × B) (rest : List T) → f.begins ts ⊎ BeginsSecond f g ts → AreTwo f g ts a rest → rest ≡ []
  two_whole ts a rest (inl b) r =
      let e = lf.whole ts a.0 r.between b r.first in
      absurd (starts_not_empty then_ (subst (Starts then_) e (lg.read_starts r.between a.1 rest r.second)))
  two_whole ts a rest (inr b) r =
      let same = lf.one ts a.0 b.said r.between b.between r.first b.first in
      lg.whole b.between a.1 rest b.second (subst (λ xs. g.reads xs a.1 rest) same.1 r.second)

  two_begun : (t : T) (more : List T) → f.begins (t ∷ more) ⊎ BeginsSecond f g (t ∷ more) → first t ≡ true
  two_begun t more (inl b) = lf.begun_starts t more b
  two_begun t more (inr b) = starts_at first t more (lf.read_starts (t ∷ more) b.said b.between b.first)

  pub lawful_two : IsLawful (two f g) first
  lawful_two = record {
    framed = two_framed;
    one = two_one;
    whole = two_whole;
    read_starts = λ ts a rest r. lf.read_starts ts a.0 r.between r.first;
    begun_starts = two_begun;
    empty = inl lf.empty;
  }
