-- A form that reads and begins all that another does: what is built from it does so too.
use Rattle.std.proofs.Common.{List, [], ◌∷◌, ◌⊎◌, inl, inr}
use Rattle.grammar_model.specs.Grammars.{Grammar, BeginsSecond, two, either, made, Repeats, many}

pub record Grows {T A : Type 0} (f wide : Grammar T A) : Type 0 where
  pub read : (ts : List T) (a : A) (rest : List T) → f.reads ts a rest → wide.reads ts a rest
  pub begun : (ts : List T) → f.begins ts → wide.begins ts

module _ {T A : Type 0} (f : Grammar T A) where
  pub grows_same : Grows f f
  grows_same = record { read = λ ts a rest r. r; begun = λ ts b. b }

module _ {T A B : Type 0} (make : A → B) (f wide : Grammar T A) (grows : Grows f wide) where
  pub grows_made : Grows (made make f) (made make wide)
  grows_made = record {
    read = λ ts a rest r. record { said = r.said; reads = grows.read ts r.said rest r.reads; is = r.is };
    begun = grows.begun;
  }

module _ {T A B : Type 0} (f wide : Grammar T A) (g broad : Grammar T B) (gf : Grows f wide) (gg : Grows g broad) where
  two_begun : (ts : List T) → f.begins ts ⊎ BeginsSecond f g ts → wide.begins ts ⊎ BeginsSecond wide broad ts
  two_begun ts (inl b) = inl (gf.begun ts b)
  two_begun ts (inr b) =
      inr (record { said = b.said; between = b.between; first = gf.read ts b.said b.between b.first; second = gg.begun b.between b.second })

  pub grows_two : Grows (two f g) (two wide broad)
  grows_two = record {
    read = λ ts a rest r. record { between = r.between; first = gf.read ts a.0 r.between r.first; second = gg.read r.between a.1 rest r.second };
    begun = two_begun;
  }

  repeats_grow : (items : List A) (ts rest : List T) → Repeats f ts items rest → Repeats wide ts items rest
  repeats_grow [] ts rest e = e
  repeats_grow (x ∷ items) ts rest e = (e.0, gf.read ts x e.0 e.1, repeats_grow items e.0 rest e.2)

  next_grows : (ts : List T) → f.begins ts ⊎ g.begins ts → wide.begins ts ⊎ broad.begins ts
  next_grows ts (inl b) = inl (gf.begun ts b)
  next_grows ts (inr b) = inr (gg.begun ts b)

  pub grows_many : Grows (many f g) (many wide broad)
  grows_many = record {
    read = λ ts a rest r. record { between = r.between; items = repeats_grow a.0 ts r.between r.items; last = gg.read r.between a.1 rest r.last };
    begun = λ ts b. record { said = b.said; between = b.between; items = repeats_grow b.said ts b.between b.items; next = next_grows b.between b.next };
  }

module _ {T A : Type 0} (f g wide broad : Grammar T A) (gf : Grows f wide) (gg : Grows g broad) where
  either_read : (ts : List T) (a : A) (rest : List T) → f.reads ts a rest ⊎ g.reads ts a rest → wide.reads ts a rest ⊎ broad.reads ts a rest
  either_read ts a rest (inl r) = inl (gf.read ts a rest r)
  either_read ts a rest (inr r) = inr (gg.read ts a rest r)

  either_begun : (ts : List T) → f.begins ts ⊎ g.begins ts → wide.begins ts ⊎ broad.begins ts
  either_begun ts (inl b) = inl (gf.begun ts b)
  either_begun ts (inr b) = inr (gg.begun ts b)

  pub grows_either : Grows (either f g) (either wide broad)
  grows_either = record { read = either_read; begun = either_begun }
