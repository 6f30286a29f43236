-- The fields of a bag one after another, and their values.
use Rattle.std.proofs.Common.{◌≡◌, ℕ, zero, suc, ◌+◌, List, [], ◌∷◌, ◌++◌, map, take, Some, refl, sym, ap, ◌∙◌, subst, add-one}
use Rattle.std.specs.List.{slice_get}
use Rattle.context_model.specs.Orders.{Path}
use Rattle.bag_model.specs.Readings.{node_path, Reads, ReadsEach}
use Rattle.bag_model.specs.Shapes.{Nodes, Field, fields, no_node, node}
use Rattle.bag_model.specs.Typed.{IsTyped, AreTyped}
use Rattle.bag_model.specs.Values.{Value, Values, no_value, value, values_list, bottom, bottoms}

-- ---- lists

take_get : {A : Type 0} (xs : List A) (i : ℕ) (x : A) → slice_get xs i ≡ Some x → take (suc i) xs ≡ take i xs ++ x ∷ []
take_get [] i x e = absurd (cc e)
take_get (y ∷ xs) zero x e = let same : y ≡ x = cc in ap (λ z. z ∷ []) same
take_get (y ∷ xs) (suc i) x e = ap (λ l. y ∷ l) (take_get xs i x e)

-- The fields up to one place more are one more.
pub take_next : {A : Type 0} (xs : List A) (i : ℕ) (x : A) → slice_get xs i ≡ Some x → take (i + 1) xs ≡ take i xs ++ x ∷ []
take_next xs i x e = ap (λ n. take n xs) (add-one i) ∙ take_get xs i x e

pub map_push : {A B : Type 0} (f : A → B) (xs : List A) (x : A) → map f (xs ++ x ∷ []) ≡ map f xs ++ f x ∷ []
map_push f [] x = refl
map_push f (y ∷ xs) x = ap (λ l. f y ∷ l) (map_push f xs x)

-- The values of a list.
abbrev pub values_from : List Value → Values
values_from [] = no_value
values_from (v ∷ vs) = value v (values_from vs)

pub values_back : (vs : Values) → values_from (values_list vs) ≡ vs
values_back no_value = refl
values_back (value v vs) = ap (value v) (values_back vs)

pub typed_there : (nodes : Nodes) (P : Path → Type 0) (q : Path) (i : ℕ) (f : Field) → AreTyped nodes P q → slice_get (fields nodes) i ≡ Some f → IsTyped f.shape P (node_path q f.number)
typed_there no_node P q i f are e = absurd (cc e)
typed_there (node name number shape nodes) P q zero f are e =
    let same : record { name = name; number = number; shape = shape } ≡ f = cc e in
    subst (λ (g : Field). IsTyped g.shape P (node_path q g.number)) same are.0
typed_there (node name number shape nodes) P q (suc i) f are e = typed_there nodes P q i f are.1 e

-- ---- bottoms

abbrev pub bottom_at : Field → Value
bottom_at field = bottom field.shape

bottoms-list : (nodes : Nodes) → values_from (map bottom_at (fields nodes)) ≡ bottoms nodes
bottoms-list no_node = refl
bottoms-list (node name number shape nodes) = ap (value (bottom shape)) (bottoms-list nodes)

-- Values that are the bottoms of all fields are the bottoms of the bag.
pub bottoms_whole : (nodes : Nodes) (vs : Values) → values_list vs ≡ map bottom_at (fields nodes) → vs ≡ bottoms nodes
bottoms_whole nodes vs e = sym (values_back vs) ∙ ap values_from e ∙ bottoms-list nodes

-- ---- what is read of each field

-- Of each field its value is read.
abbrev pub EachReads : (Path → Type 0) → Path → List Field → List Value → Type 0
EachReads P q [] [] = Unit {0}
EachReads P q [] (v ∷ vs) = ⊥
EachReads P q (field ∷ list) [] = ⊥
EachReads P q (field ∷ list) (v ∷ vs) = Reads field.shape P (node_path q field.number) v × EachReads P q list vs

pub each_reads-push : (P : Path → Type 0) (q : Path) (fs : List Field) (vs : List Value) (f : Field) (v : Value) → EachReads P q fs vs → Reads f.shape P (node_path q f.number) v → EachReads P q (fs ++ f ∷ []) (vs ++ v ∷ [])
each_reads-push P q [] [] f v each reads = (reads, tt)
each_reads-push P q [] (w ∷ vs) f v each reads = absurd each
each_reads-push P q (g ∷ fs) [] f v each reads = absurd each
each_reads-push P q (g ∷ fs) (w ∷ vs) f v each reads = (each.0, each_reads-push P q fs vs f v each.1 reads)

-- One more field, and its value.
pub each_reads_more : (P : Path → Type 0) (q : Path) (fs : List Field) (i : ℕ) (before after : List Value) (f : Field) (v : Value) → slice_get fs i ≡ Some f → after ≡ before ++ v ∷ []
    → EachReads P q (take i fs) before → Reads f.shape P (node_path q f.number) v → EachReads P q (take (i + 1) fs) after
each_reads_more P q fs i before after f v here added each reads =
    subst (λ gs. EachReads P q gs after) (sym (take_next fs i f here))
    (subst (EachReads P q (take i fs ++ f ∷ [])) (sym added) (each_reads-push P q (take i fs) before f v each reads))

-- What is read of all fields is read of the bag.
pub each_reads_whole : (P : Path → Type 0) (q : Path) (nodes : Nodes) (vs : Values) → EachReads P q (fields nodes) (values_list vs) → ReadsEach nodes P q vs
each_reads_whole P q no_node no_value each = tt
each_reads_whole P q no_node (value v vs) each = absurd each
each_reads_whole P q (node name number shape nodes) no_value each = absurd each
each_reads_whole P q (node name number shape nodes) (value v vs) each = (each.0, each_reads_whole P q nodes vs each.1)
