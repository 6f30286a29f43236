-- What a join puts in place of a bag's values.
use Rattle.std.specs.Prelude.{ℕ, ◌<◌, List, [], ◌∷◌, slice_set}
use Rattle.std.specs.List.{AllByRecursion}
use Rattle.bag_value.specs.declared.vals.Val.{Val}

-- The values with news in place of some: each has the field whose value it is.
abbrev pub with_news : List Val → List (ℕ × Val) → List Val
with_news vs [] = vs
with_news vs (new ∷ news) = with_news (slice_set vs new.0 new.1) news

-- Each of the news is for one of the first `count` fields.
abbrev pub AreForFields : ℕ → List (ℕ × Val) → Type 0
AreForFields count news = AllByRecursion (λ new. new.0 < count) news
