-- Grammars: forms over a list of tokens, and the ways to build them.
use Rattle.std.specs.Prelude.{◌≡◌, true, Option, Some, List, [], ◌∷◌, ◌⊎◌}
use Rattle.std.specs.Option.{is_some}

-- A form: which tokens it takes from the beginning of a list, with what they say and which tokens
-- are left, and which lists begin it, so that nothing in them has gone wrong yet.
pub record Grammar (T A : Type 0) : Type 1 where
  pub reads : List T → A → List T → Type 0
  pub begins : List T → Type 0

-- The list has a first token, which says this.
pub record IsOne {T A : Type 0} (meant : T → Option A) (ts : List T) (a : A)
    (rest : List T) : Type 0 where
  pub first : T
  pub is : ts ≡ first ∷ rest
  pub means : meant first ≡ Some a

-- No token yet, or one that says something.
abbrev pub BeginsOne : {T A : Type 0} → (T → Option A) → List T → Type 0
BeginsOne meant [] = Unit {0}
BeginsOne meant (t ∷ []) = is_some (meant t) ≡ true
BeginsOne meant (t ∷ u ∷ more) = ⊥

-- One token that says something.
abbrev pub token : {T A : Type 0} → (T → Option A) → Grammar T A
token meant = record { reads = IsOne meant; begins = BeginsOne meant }

-- A sentence of the first form, and then one of the second.
pub record AreTwo {T A B : Type 0} (f : Grammar T A) (g : Grammar T B) (ts : List T) (both : A × B)
    (rest : List T) : Type 0 where
  pub between : List T
  pub first : f.reads ts both.0 between
  pub second : g.reads between both.1 rest

-- A sentence of the first form, and then what begins the second.
pub record BeginsSecond {T A B : Type 0} (f : Grammar T A) (g : Grammar T B)
    (ts : List T) : Type 0 where
  pub said : A
  pub between : List T
  pub first : f.reads ts said between
  pub second : g.begins between

-- One form and then another.
abbrev pub two : {T A B : Type 0} → Grammar T A → Grammar T B → Grammar T (A × B)
two f g = record { reads = AreTwo f g; begins = λ ts. f.begins ts ⊎ BeginsSecond f g ts }

-- One of two forms.
abbrev pub either : {T A : Type 0} → Grammar T A → Grammar T A → Grammar T A
either f g =
    record {
      reads = λ ts a rest. f.reads ts a rest ⊎ g.reads ts a rest;
      begins = λ ts. f.begins ts
          ⊎ g.begins ts;
    }

-- What a sentence says makes this.
pub record IsMade {T A B : Type 0} (make : A → B) (f : Grammar T A) (ts : List T) (b : B)
    (rest : List T) : Type 0 where
  pub said : A
  pub reads : f.reads ts said rest
  pub is : b ≡ make said

-- A form whose sentences say something else.
abbrev pub made : {T A B : Type 0} → (A → B) → Grammar T A → Grammar T B
made make f = record { reads = IsMade make f; begins = f.begins }

-- Sentences of a form, one after another.
abbrev pub Repeats : {T A : Type 0} → Grammar T A → List T → List A → List T → Type 0
Repeats f ts [] rest = ts ≡ rest
Repeats {T} f ts (a ∷ items) rest =
    (between : List T) × f.reads ts a between × Repeats f between items rest

-- Sentences of the first form, and then one of the second.
pub record AreMany {T A B : Type 0} (f : Grammar T A) (g : Grammar T B) (ts : List T)
    (all : List A × B) (rest : List T) : Type 0 where
  pub between : List T
  pub items : Repeats f ts all.0 between
  pub last : g.reads between all.1 rest

-- Sentences of the first form, and then what begins either.
pub record BeginsMany {T A B : Type 0} (f : Grammar T A) (g : Grammar T B)
    (ts : List T) : Type 0 where
  pub said : List A
  pub between : List T
  pub items : Repeats f ts said between
  pub next : f.begins between ⊎ g.begins between

-- Any number of sentences of one form, and then one of another.
abbrev pub many : {T A B : Type 0} → Grammar T A → Grammar T B → Grammar T (List A × B)
many f g = record { reads = AreMany f g; begins = BeginsMany f g }

-- A form without sentences.
abbrev pub nothing : {T A : Type 0} → Grammar T A
nothing = record { reads = λ ts a rest. ⊥; begins = λ ts. ts ≡ [] }

-- The end of the list.
abbrev pub at_end : {T : Type 0} → Grammar T (Unit {0})
at_end = record { reads = λ ts a rest. (ts ≡ []) × (rest ≡ []); begins = λ ts. ts ≡ [] }
