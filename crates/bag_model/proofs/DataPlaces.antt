-- The places where data are read: each has one rule, the table names it, and a datum there has one that stands for it and
-- gives way to none.
use Rattle.std.proofs.Common.{◌≡◌, ◌⊎◌, inl, inr, ◌↔◌, ℕ, ◌+◌, ◌<◌, ◌≤◌, List, [], ◌∷◌, ◌++◌, length, map, Less, Equal, Greater, Ordering, refl, sym, ap, ◌∙◌, subst, append_assoc, append-nil, length-append, arith}
use Rattle.std.proofs.lemmas.Cmp.{tied_itself}
use Rattle.context_model.specs.Kinds.{atom_of}
use Rattle.context_model.specs.Kinds.Kind.{Indexed, Keyed}
use Rattle.context_model.specs.Orders.{Path, atom_cmp, IsIn}
use Rattle.context_model.proofs.OrderLaws.{atoms_total}
use Rattle.bag_model.specs.Shapes.{Shape, Nodes, Field, fields, Taint, Scalar, Set, Counter, Map, Bag, no_node, node}
use Rattle.bag_model.specs.Tables.{IsShape, AreFields, levels, levels_under}
use Rattle.bag_model.specs.Slots.{SlotAt, slots_in, slots_of, within}
use Rattle.bag_model.specs.Readings.{datum_path, key_path, node_path}
use Rattle.bag_model.specs.Encodings.{IsUsed, AreUsed}
use Rattle.bag_model.specs.NormalForm.{Keeping, EachDatum, LeastDatum, GreatestDatum, HoldsData, SomeHoldsData, GivesWay, kept_by}
use Rattle.bag_model.proofs.PathsApart.{key_one-below}
use Rattle.bag_model.proofs.Finite.{bytes_at, bytes_at-there, bytes_at-back, in_append}
use Rattle.bag_model.proofs.Existence.{Among}
use Rattle.bag_model.proofs.LayoutLaws.{fields_apart}
use Rattle.bag_model.proofs.SlotsBelow.{in_map, slot_path, slot_path-within, slot_path-own}
use Rattle.bag_model.proofs.Covering.{CoversData, Covers, AreCovered, way_onwards}

-- ---- a place has one rule

mutual
  -- Data are read at the path of the field or below it.
  pub HoldsData-below : (shape : Shape) (q : Path) (keep : Keeping) (p : Path) → HoldsData shape q keep p → (r : Path) × (p ≡ q ++ r)
  HoldsData-below Taint q keep p h = ([], h.1 ∙ sym (append-nil q))
  HoldsData-below (Scalar pick kind) q keep p h = ([], h.1 ∙ sym (append-nil q))
  HoldsData-below (Set kind) q keep p h = ([], h.1 ∙ sym (append-nil q))
  HoldsData-below Counter q keep p h = (atom_of (Keyed (length q) h.1.0) ∷ [], h.1.1)
  HoldsData-below (Map kind shape) q keep p h =
      let s = HoldsData-below shape (key_path q h.0) keep p h.2 in (atom_of (Keyed (length q) h.0) ∷ s.0, s.1 ∙ append_assoc q (atom_of (Keyed (length q) h.0) ∷ []) s.0)
  HoldsData-below (Bag nodes) q keep p h = SomeHoldsData-below nodes q keep p h

  pub SomeHoldsData-below : (nodes : Nodes) (q : Path) (keep : Keeping) (p : Path) → SomeHoldsData nodes q keep p → (r : Path) × (p ≡ q ++ r)
  SomeHoldsData-below no_node q keep p h = absurd h
  SomeHoldsData-below (node name number shape nodes) q keep p (inl h) =
      let s = HoldsData-below shape (node_path q number) keep p h in (atom_of (Indexed (length q) number) ∷ s.0, s.1 ∙ append_assoc q (atom_of (Indexed (length q) number) ∷ []) s.0)
  SomeHoldsData-below (node name number shape nodes) q keep p (inr h) = SomeHoldsData-below nodes q keep p h

-- they are those of one of the fields
under_field : (nodes : Nodes) (q : Path) (keep : Keeping) (p : Path) → SomeHoldsData nodes q keep p → (f : Field) × IsIn f (fields nodes) × (r : Path) × (p ≡ node_path q f.number ++ r)
under_field no_node q keep p h = absurd h
under_field (node name number shape nodes) q keep p (inl h) = let s = HoldsData-below shape (node_path q number) keep p h in (record { name = name; number = number; shape = shape }, inl refl, s.0, s.1)
under_field (node name number shape nodes) q keep p (inr h) = let s = under_field nodes q keep p h in (s.0, inr s.1, s.2, s.3)

mutual
  -- Each place has one rule.
  pub HoldsData-one : (shape : Shape) (q p : Path) (k l : Keeping) → IsShape shape → HoldsData shape q k p → HoldsData shape q l p → k ≡ l
  HoldsData-one Taint q p k l w f g = f.0 ∙ sym g.0
  HoldsData-one (Scalar pick kind) q p k l w f g = f.0 ∙ sym g.0
  HoldsData-one (Set kind) q p k l w f g = f.0 ∙ sym g.0
  HoldsData-one Counter q p k l w f g = f.0 ∙ sym g.0
  HoldsData-one (Map kind shape) q p k l w f g =
      let a = HoldsData-below shape (key_path q f.0) k p f.2 in
      let b = HoldsData-below shape (key_path q g.0) l p g.2 in
      let same : f.0 ≡ g.0 = key_one-below q f.0 g.0 a.0 b.0 (sym a.1 ∙ b.1) in
      HoldsData-one shape (key_path q f.0) p k l w.1 f.2 (subst (λ x. HoldsData shape (key_path q x) l p) (sym same) g.2)
  HoldsData-one (Bag nodes) q p k l w f g = SomeHoldsData-one nodes q p k l w f g

  pub SomeHoldsData-one : (nodes : Nodes) (q p : Path) (k l : Keeping) → AreFields nodes → SomeHoldsData nodes q k p → SomeHoldsData nodes q l p → k ≡ l
  SomeHoldsData-one no_node q p k l w f g = absurd f
  SomeHoldsData-one (node name number shape nodes) q p k l w (inl f) (inl g) = HoldsData-one shape (node_path q number) p k l w.2 f g
  SomeHoldsData-one (node name number shape nodes) q p k l w (inl f) (inr g) =
      let a = HoldsData-below shape (node_path q number) k p f in let b = under_field nodes q l p g in absurd (fields_apart name number shape nodes w q b.0 b.1 a.0 b.2 (sym a.1 ∙ b.3))
  SomeHoldsData-one (node name number shape nodes) q p k l w (inr f) (inl g) =
      let a = HoldsData-below shape (node_path q number) l p g in let b = under_field nodes q k p f in absurd (fields_apart name number shape nodes w q b.0 b.1 a.0 b.2 (sym a.1 ∙ b.3))
  SomeHoldsData-one (node name number shape nodes) q p k l w (inr f) (inr g) = SomeHoldsData-one nodes q p k l w.4 f g

-- ---- the table names it

mutual
  pub HoldsData-used : (shape : Shape) (q : Path) (keep : Keeping) (p : Path) (x : List ℕ) → HoldsData shape q keep p → IsUsed shape q (datum_path p x)
  HoldsData-used Taint q keep p x h = (x, ap (λ v. datum_path v x) h.1)
  HoldsData-used (Scalar pick kind) q keep p x h = (x, ap (λ v. datum_path v x) h.1)
  HoldsData-used (Set kind) q keep p x h = (x, ap (λ v. datum_path v x) h.1)
  HoldsData-used Counter q keep p x h = (h.1.0, inr (x, ap (λ v. datum_path v x) h.1.1))
  HoldsData-used (Map kind shape) q keep p x h = (h.0, inr (HoldsData-used shape (key_path q h.0) keep p x h.2))
  HoldsData-used (Bag nodes) q keep p x h = SomeHoldsData-used nodes q keep p x h

  pub SomeHoldsData-used : (nodes : Nodes) (q : Path) (keep : Keeping) (p : Path) (x : List ℕ) → SomeHoldsData nodes q keep p → AreUsed nodes q (datum_path p x)
  SomeHoldsData-used no_node q keep p x h = absurd h
  SomeHoldsData-used (node name number shape nodes) q keep p x (inl h) = inr (inl (HoldsData-used shape (node_path q number) keep p x h))
  SomeHoldsData-used (node name number shape nodes) q keep p x (inr h) = inr (inr (SomeHoldsData-used nodes q keep p x h))

-- ---- the places of a slot are places of its table

-- the one slot of a field that is no bag
own_place : (shape : Shape) (q : Path) (slot : SlotAt) (keep : Keeping) (p : Path) → IsIn slot (record { names = []; numbers = []; shape = shape } ∷ []) → HoldsData slot.shape (slot_path q slot) keep p → HoldsData shape q keep p
own_place shape q slot keep p (inl e) h =
    subst (λ v. HoldsData shape v keep p) (slot_path-own q shape) (subst (λ (s : SlotAt). HoldsData s.shape (slot_path q s) keep p) e h)
own_place shape q slot keep p (inr none) h = elim none [ ]

mutual
  pub slot_place : (shape : Shape) (q : Path) (slot : SlotAt) (keep : Keeping) (p : Path) → IsIn slot (slots_in shape) → HoldsData slot.shape (slot_path q slot) keep p → HoldsData shape q keep p
  slot_place Taint q slot keep p i h = own_place Taint q slot keep p i h
  slot_place (Scalar pick kind) q slot keep p i h = own_place (Scalar pick kind) q slot keep p i h
  slot_place (Set kind) q slot keep p i h = own_place (Set kind) q slot keep p i h
  slot_place Counter q slot keep p i h = own_place Counter q slot keep p i h
  slot_place (Map kind shape) q slot keep p i h = own_place (Map kind shape) q slot keep p i h
  slot_place (Bag nodes) q slot keep p i h = slots_place nodes q slot keep p i h

  pub slots_place : (nodes : Nodes) (q : Path) (slot : SlotAt) (keep : Keeping) (p : Path) → IsIn slot (slots_of nodes) → HoldsData slot.shape (slot_path q slot) keep p → SomeHoldsData nodes q keep p
  slots_place no_node q slot keep p i h = absurd i
  slots_place (node name number shape nodes) q slot keep p i h =
      by (in_append slot (map (within name number) (slots_in shape)) (slots_of nodes) i) (λ inner j g. slot_place shape (node_path q number) inner keep p j g) (λ j. slots_place nodes q slot keep p j h)
    where
      by : IsIn slot (map (within name number) (slots_in shape)) ⊎ IsIn slot (slots_of nodes)
          → ((inner : SlotAt) → IsIn inner (slots_in shape) → HoldsData inner.shape (slot_path (node_path q number) inner) keep p → HoldsData shape (node_path q number) keep p)
          → (IsIn slot (slots_of nodes) → SomeHoldsData nodes q keep p) → SomeHoldsData (node name number shape nodes) q keep p
      by (inl j) own rest =
          let s = in_map (within name number) (slots_in shape) slot j in
          inl (own s.0 s.1 (subst (λ v. HoldsData s.0.shape v keep p) (slot_path-within q name number s.0) (subst (λ (x : SlotAt). HoldsData x.shape (slot_path q x) keep p) s.2 h)))
      by (inr j) own rest = inr (rest j)

-- ---- the best of the data at a place

way_or_not : (keep : Keeping) (x y : List ℕ) → GivesWay keep x y ⊎ (GivesWay keep x y → ⊥)
way_or_not EachDatum x y = inr (λ none. none)
way_or_not LeastDatum x y = less_or_not (atom_cmp y x)
  where
    less_or_not : (r : Ordering) → (r ≡ Less) ⊎ (r ≡ Less → ⊥)
    less_or_not Less = inl refl
    less_or_not Equal = inr (λ e. cc e)
    less_or_not Greater = inr (λ e. cc e)
way_or_not GreatestDatum x y = less_or_not (atom_cmp x y)
  where
    less_or_not : (r : Ordering) → (r ≡ Less) ⊎ (r ≡ Less → ⊥)
    less_or_not Less = inl refl
    less_or_not Equal = inr (λ e. cc e)
    less_or_not Greater = inr (λ e. cc e)

no_way_itself : (keep : Keeping) (x : List ℕ) → GivesWay keep x x → ⊥
no_way_itself EachDatum x g = g
no_way_itself LeastDatum x g = let tie = tied_itself atoms_total x in let clash : Less ≡ Equal = sym g ∙ tie in cc
no_way_itself GreatestDatum x g = let tie = tied_itself atoms_total x in let clash : Less ≡ Equal = sym g ∙ tie in cc

-- y stands for x, and gives way to none of these
record IsBest (keep : Keeping) (all : List (List ℕ)) (x y : List ℕ) : Type 0 where
  own : (y ≡ x) ⊎ IsIn y all
  stands : (y ≡ x) ⊎ GivesWay keep x y
  best : (z : List ℕ) → IsIn z all → GivesWay keep y z → ⊥

best_in : (keep : Keeping) (all : List (List ℕ)) (x : List ℕ) → (y : List ℕ) × IsBest keep all x y
best_in keep [] x = (x, record { own = inl refl; stands = inl refl; best = λ z none g. none })
best_in keep (b ∷ all) x = by (best_in keep all x)
  where
    by : (y : List ℕ) × IsBest keep all x y → (y : List ℕ) × IsBest keep (b ∷ all) x y
    by s = pick (way_or_not keep s.0 b)
      where
        pick : GivesWay keep s.0 b ⊎ (GivesWay keep s.0 b → ⊥) → (y : List ℕ) × IsBest keep (b ∷ all) x y
        pick (inl g) = (
          b,
          record {
            own = inr (inl refl);
            stands = inr (elim (s.1).stands [ inl e ↦ subst (λ v. GivesWay keep v b) e g | inr f ↦ way_onwards keep x s.0 b f g ]);
            best = λ z i h. elim i [ inl e ↦ no_way_itself keep b (subst (GivesWay keep b) e h) | inr j ↦ (s.1).best z j (way_onwards keep s.0 b z g h) ];
          },
        )
        pick (inr n) = (
          s.0,
          record {
            own = elim (s.1).own [ inl e ↦ inl e | inr j ↦ inr (inr j) ];
            stands = (s.1).stands;
            best = λ z i h. elim i [ inl e ↦ n (subst (GivesWay keep s.0) e h) | inr j ↦ (s.1).best z j h ];
          },
        )

-- Of some data at q, one stands for each and gives way to none.
pub best_there : (keep : Keeping) (ps : List Path) (q : Path) (x : List ℕ) → Among ps (datum_path q x)
    → (y : List ℕ) × Among ps (datum_path q y) × ((y ≡ x) ⊎ GivesWay keep x y) × ((z : List ℕ) → Among ps (datum_path q z) → GivesWay keep y z → ⊥)
best_there keep ps q x i = by (best_in keep (bytes_at 0 q ps) x)
  where
    by : (y : List ℕ) × IsBest keep (bytes_at 0 q ps) x y
        → (y : List ℕ) × Among ps (datum_path q y) × ((y ≡ x) ⊎ GivesWay keep x y) × ((z : List ℕ) → Among ps (datum_path q z) → GivesWay keep y z → ⊥)
    by s = (
      s.0,
      elim (s.1).own [ inl e ↦ subst (λ v. Among ps (datum_path q v)) (sym e) i | inr j ↦ bytes_at-there 0 q ps s.0 j ],
      (s.1).stands,
      λ z j g. (s.1).best z (bytes_at-back 0 q ps z j) g,
    )

-- ---- covering, place by place

-- Two sets have the same keyed headers.
abbrev pub SameKeys : (Path → Type 0) → (Path → Type 0) → Type 0
SameKeys P Q = (p : Path) (level : ℕ) (key : List ℕ) → level < 16 → P (p ++ atom_of (Keyed level key) ∷ []) ↔ Q (p ++ atom_of (Keyed level key) ∷ [])

long_path : (q : Path) (a : _) → length (q ++ a ∷ []) ≡ 1 + length q
long_path q a = let e = length-append q (a ∷ []) in omega arith

mutual
  -- Sets with the same keys cover each other where their data at each place do.
  pub Covers-places : (shape : Shape) (P Q : Path → Type 0) (q : Path) → length q + levels_under shape ≤ 16 → SameKeys P Q
      → ((keep : Keeping) (p : Path) → HoldsData shape q keep p → CoversData keep P Q p) → Covers shape P Q q
  Covers-places Taint P Q q l s f = f EachDatum q (refl, refl)
  Covers-places (Scalar pick kind) P Q q l s f = f (kept_by pick) q (refl, refl)
  Covers-places (Set kind) P Q q l s f = f EachDatum q (refl, refl)
  Covers-places Counter P Q q l s f = λ w. (s q (length q) w (omega (arith, l)), f GreatestDatum (key_path q w) (refl, (w, refl)))
  Covers-places (Map kind shape) P Q q l s f = λ key. (
    s q (length q) key (omega (arith, l)),
    λ spelled. Covers-places shape P Q (key_path q key) (let e = long_path q (atom_of (Keyed (length q) key)) in omega (arith, l, e)) s (λ keep p h. f keep p (key, spelled, h)),
  )
  Covers-places (Bag nodes) P Q q l s f = AreCovered-places nodes P Q q l s f

  pub AreCovered-places : (nodes : Nodes) (P Q : Path → Type 0) (q : Path) → length q + levels nodes ≤ 16 → SameKeys P Q
      → ((keep : Keeping) (p : Path) → SomeHoldsData nodes q keep p → CoversData keep P Q p) → AreCovered nodes P Q q
  AreCovered-places no_node P Q q l s f = tt
  AreCovered-places (node name number shape nodes) P Q q l s f = (
    Covers-places shape P Q (node_path q number) (let e = long_path q (atom_of (Indexed (length q) number)) in omega (arith, l, e)) s (λ keep p h. f keep p (inl h)),
    AreCovered-places nodes P Q q (omega (arith, l)) s (λ keep p h. f keep p (inr h)),
  )
