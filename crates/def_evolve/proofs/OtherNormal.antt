-- What the normal form of one table leaves of what another says, where the other may take its place.
use Rattle.std.proofs.Common.{◌≡◌, ◌⊎◌, inl, inr, ◌↔◌, ℕ, zero, suc, ◌-◌, ◌*◌, ◌^◌, ◌<◌, List, [], ◌∷◌, ◌++◌, length, Some, refl, sym, ap, ◌∙◌, subst, arith}
use Rattle.std.specs.List.{slice_get}
use Rattle.context_model.specs.Atoms.{Atom}
use Rattle.context_model.specs.Kinds.{atom_of}
use Rattle.context_model.specs.Kinds.Kind.{Keyed}
use Rattle.context_model.specs.Orders.{Path, IsIn}
use Rattle.context_model.specs.Paths.{paths, path_at, atom_at}
use Rattle.context_model.specs.WellFormed.{IsWellFormed}
use Rattle.context_model.specs.Ended.{field_path}
use Rattle.context_model.specs.WithoutData.{AreDataPlaces, KeepsContext}
use Rattle.context_model.proofs.EndedLaws.{data_may_go}
use Rattle.context_model.proofs.GreedyElements.{All-from}
use Rattle.context_model.proofs.MergedLaws.{same_end}
use Rattle.context_model.proofs.PlacesOf.{last_is}
use Rattle.bag_model.specs.Shapes.{Shape, Nodes, Field, Taint, Scalar, Set, Counter, Map, Bag, no_node, node, fields}
use Rattle.bag_model.specs.Values.{Values}
use Rattle.bag_model.specs.Slots.{slots_of}
use Rattle.bag_model.specs.Tables.{IsShape, AreFields, IsTable}
use Rattle.bag_model.specs.Views.{View}
use Rattle.bag_model.specs.Readings.{datum_path, key_path, node_path, PathsOf, SaysValues}
use Rattle.bag_model.specs.Typed.{AreTyped}
use Rattle.bag_model.specs.NormalForm.{Keeping, kept_by, HoldsData, SomeHoldsData, GivesWay, IsSuperseded, IsNormalOf}
use Rattle.bag_model.proofs.PathsApart.{key_one-below, node_one-below}
use Rattle.bag_model.proofs.SlotsBelow.{get_in, slot_headers}
use Rattle.bag_model.proofs.DataPlaces.{HoldsData-below, slots_place, best_there, AreCovered-places}
use Rattle.bag_model.proofs.Covering.{CoversData, AreCovered, ReadsEach-covers}
use Rattle.bag_model.proofs.Existence.{ReadsEach-all}
use Rattle.bag_model.proofs.Uniqueness.{ReadsEach-unique}
use Rattle.bag_model.proofs.TypedLaws.{AreTyped-fewer}
use Rattle.bag_model.proofs.NormalFormLaws.{normal_left, normal_fewer}
use Rattle.trace_model.specs.Graphs.{IsTypedContext}
use Rattle.bag_model.proofs.NormalFormLaws.{normal_form_keeps}
use Rattle.def_evolve.specs.Breaks.{Fits, IsFitting}
use Rattle.def_evolve.specs.Versions.{SaysAlike}
use Rattle.def_evolve.proofs.Fitting.{FieldsFit, fits_inside}

-- ---- one rule for a place of both

-- A field of a bag that holds data at this place.
record IsHolder (others : Nodes) (q : Path) (keep : Keeping) (p : Path) : Type 0 where
  field : Field
  there : IsIn field (fields others)
  small : field.number < 2 ^ 16
  inside : IsShape field.shape
  holds : HoldsData field.shape (node_path q field.number) keep p

holder : (others : Nodes) (q : Path) (keep : Keeping) (p : Path) → AreFields others → SomeHoldsData others q keep p → IsHolder others q keep p
holder no_node q keep p ok h = absurd h
holder (node name number shape nodes) q keep p ok (inl h) = record { field = record { name = name; number = number; shape = shape }; there = inl refl; small = ok.1; inside = ok.2; holds = h }
holder (node name number shape nodes) q keep p ok (inr h) =
    let s = holder nodes q keep p ok.4 h in
    record { field = s.field; there = inr s.there; small = s.small; inside = s.inside; holds = s.holds }

-- Fields that hold data at one place have one number.
one_holder : (old new : Shape) (q p : Path) (m n : ℕ) (k l : Keeping) → m < 2 ^ 16 → n < 2 ^ 16 → HoldsData old (node_path q m) k p → HoldsData new (node_path q n) l p → n ≡ m
one_holder old new q p m n k l f g h i =
    let a = HoldsData-below old (node_path q m) k p h in
    let b = HoldsData-below new (node_path q n) l p i in
    node_one-below q n m b.0 a.0 (omega (arith, g)) (omega (arith, f)) (sym b.1 ∙ a.1)

mutual
  -- Where data are read for both, normal form keeps the same of them.
  keep_alike : (old new : Shape) (q p : Path) (k l : Keeping) → IsShape old → IsShape new → Fits old new → HoldsData old q k p → HoldsData new q l p → k ≡ l
  keep_alike Taint Taint q p k l a b f h g = h.0 ∙ sym g.0
  keep_alike (Scalar pick kind) (Scalar own wider) q p k l a b f h g = h.0 ∙ ap kept_by (sym (fits_inside (Scalar pick kind) (Scalar own wider) f).0) ∙ sym g.0
  keep_alike (Set kind) (Set wider) q p k l a b f h g = h.0 ∙ sym g.0
  keep_alike Counter Counter q p k l a b f h g = h.0 ∙ sym g.0
  keep_alike (Map kind shape) (Map wider more) q p k l a b f h g =
      let x = HoldsData-below shape (key_path q h.0) k p h.2 in
      let y = HoldsData-below more (key_path q g.0) l p g.2 in
      let same : h.0 ≡ g.0 = key_one-below q h.0 g.0 x.0 y.0 (sym x.1 ∙ y.1) in
      keep_alike shape more (key_path q h.0) p k l a.1 b.1 (fits_inside (Map kind shape) (Map wider more) f).1 h.2 (subst (λ key. HoldsData more (key_path q key) l p) (sym same) g.2)
  keep_alike (Bag nodes) (Bag others) q p k l a b f h g = keep_each nodes others q p k l a (fits_inside (Bag nodes) (Bag others) f) h (holder others q l p b g)
  keep_alike old new q p k l a b f h g = absurd (fits_inside old new f)

  keep_each : (nodes others : Nodes) (q p : Path) (k l : Keeping) → AreFields nodes → FieldsFit nodes others → SomeHoldsData nodes q k p → IsHolder others q l p → k ≡ l
  keep_each no_node others q p k l a f h g = absurd h
  keep_each (node name number shape nodes) others q p k l a f (inl h) g =
      let own : Field = record { name = name; number = number; shape = shape } in
      let one : (g.field).number ≡ number = one_holder shape (g.field).shape q p number (g.field).number k l a.1 g.small h g.holds in
      keep_alike shape (g.field).shape (node_path q number) p k l a.2 g.inside (f own g.field (inl refl) g.there one) h (subst (λ n. HoldsData (g.field).shape (node_path q n) l p) one g.holds)
  keep_each (node name number shape nodes) others q p k l a f (inr h) g = keep_each nodes others q p k l a.4 (λ x y i j e. f x y (inr i) j e) h g

-- ---- the list without its data that are superseded

atom_there : (list : List Atom) (k : ℕ) → k < length list → slice_get list k ≡ Some (atom_at list k)
atom_there [] k l = absurd (omega (arith, l))
atom_there (a ∷ list) zero l = refl
atom_there (a ∷ list) (suc k) l = atom_there list k (omega (arith, l))

module _ (nodes other : Nodes) (t : IsTable nodes) (s : IsTable other) (fits : IsFitting nodes other) (view : View) (list normal : List Atom) (w : IsWellFormed list) (n : IsNormalOf nodes view list normal) where
  left : (p : Path) (b : ℕ) (bytes : List ℕ) → PathsOf normal (p ++ (b ∷ bytes) ∷ [])
      ↔ (PathsOf list (p ++ (b ∷ bytes) ∷ []) × (IsSuperseded nodes view (PathsOf list) (p ++ (b ∷ bytes) ∷ []) → ⊥))
  left = normal_left nodes t view list normal w n

  -- a datum of the other table that gives way to none stays
  stays : (keep : Keeping) (q : Path) (y : List ℕ) → SomeHoldsData other [] keep q → PathsOf list (datum_path q y)
      → ((z : List ℕ) → PathsOf list (datum_path q z) → GivesWay keep y z → ⊥) → PathsOf normal (datum_path q y)
  stays keep q y h i best = (left q 0 y).1 (i, λ g. by g (same_end q g.place (0 ∷ y) (0 ∷ g.mine) g.is))
    where
      tails : (x z : List ℕ) → 0 ∷ x ≡ 0 ∷ z → x ≡ z
      tails x z e = cc

      by : (g : IsSuperseded nodes view (PathsOf list) (datum_path q y)) → (q ≡ g.place) × (0 ∷ y ≡ 0 ∷ g.mine) → ⊥
      by g e =
          let place : SomeHoldsData nodes [] g.keep g.place = slots_place nodes [] g.at g.keep g.place (get_in (slots_of nodes) g.slot g.at g.there) g.holds in
          let rule : g.keep ≡ keep = keep_each nodes other [] q g.keep keep t.well_formed (fits_inside (Bag nodes) (Bag other) fits) (subst (SomeHoldsData nodes [] g.keep) (sym e.0) place) (holder other [] keep q s.well_formed h) in
          best g.other (subst (λ v. PathsOf list (datum_path v g.other)) (sym e.0) g.stands)
          (subst (λ k. GivesWay k y g.other) rule (subst (λ x. GivesWay g.keep x g.other) (sym (tails y g.mine e.1)) g.way))

  place_covered : (keep : Keeping) (q : Path) → SomeHoldsData other [] keep q → CoversData keep (PathsOf normal) (PathsOf list) q
  place_covered keep q h = ((λ x i. ((left q 0 x).0 i).0), λ x i. by (best_there keep (paths list) q x i))
    where
      by : {x : List ℕ} → (y : List ℕ) × PathsOf list (datum_path q y) × ((y ≡ x) ⊎ GivesWay keep x y) × ((z : List ℕ) → PathsOf list (datum_path q z) → GivesWay keep y z → ⊥)
          → (y : List ℕ) × PathsOf normal (datum_path q y) × ((y ≡ x) ⊎ GivesWay keep x y)
      by y = (y.0, stays keep q y.0 h y.1 y.3, y.2)

  -- a keyed header is never superseded
  key_stays : (p : Path) (level : ℕ) (key : List ℕ) → level < 16 → IsSuperseded nodes view (PathsOf list) (p ++ atom_of (Keyed level key) ∷ []) → ⊥
  key_stays p level key l g =
      let e : (249 - 8 * level) ∷ key ≡ 0 ∷ g.mine = (same_end p g.place (atom_of (Keyed level key)) (0 ∷ g.mine) g.is).1 in
      let zero_byte : 249 - 8 * level ≡ 0 = heads (249 - 8 * level) 0 key g.mine e in
      omega arith
    where
      heads : (a b : ℕ) (x y : List ℕ) → a ∷ x ≡ b ∷ y → a ≡ b
      heads a b x y f = cc

  covers : AreCovered other (PathsOf normal) (PathsOf list) []
  covers =
      AreCovered-places other (PathsOf normal) (PathsOf list) [] (omega (arith, s.shallow))
      (λ p level key l. ((λ i. ((left p (249 - 8 * level) key).0 i).0), λ i. (left p (249 - 8 * level) key).1 (i, key_stays p level key l)))
      (λ keep q h. place_covered keep q h)

  says : AreTyped other (PathsOf list) [] → (vs : Values) → SaysValues other normal vs ↔ SaysValues other list vs
  says typed vs = (λ r. there vs r, λ r. back r (ReadsEach-all other (paths normal) []))
    where
      there : (us : Values) → SaysValues other normal us → SaysValues other list us
      there us r = ReadsEach-covers other (PathsOf normal) (PathsOf list) [] us typed covers r

      back : SaysValues other list vs → (us : Values) × SaysValues other normal us → SaysValues other normal vs
      back r us = subst (SaysValues other normal) (ReadsEach-unique other (PathsOf list) [] us.0 vs (there us.0 us.1) r) us.1

  -- ---- what stays ended

  gone_data : AreDataPlaces n.gone list
  gone_data = All-from (λ place. (payload : List ℕ) × (slice_get list place ≡ Some (0 ∷ payload))) n.gone (λ place i. by place ((n.exact place).0 i))
    where
      by : (place : ℕ) → (place < length list) × IsSuperseded nodes view (PathsOf list) (path_at list place) → (payload : List ℕ) × (slice_get list place ≡ Some (0 ∷ payload))
      by place g =
          let atom : atom_at list place ≡ 0 ∷ (g.1).mine = last_is list place (g.1).place (0 ∷ (g.1).mine) g.0 (g.1).is in
          ((g.1).mine, atom_there list place g.0 ∙ ap (λ a. Some a) atom)

  keeps : KeepsContext list normal
  keeps = subst (KeepsContext list) (sym n.left) (data_may_go list n.gone w gone_data)

  -- Under the other table the normal form is typed, says the same, and has the same ended slots.
  pub other_typed : IsTypedContext other list → IsTypedContext other normal
  other_typed context = record {
    well_formed = keeps.well_formed;
    typed = AreTyped-fewer other (PathsOf normal) (PathsOf list) [] (normal_fewer nodes t view list normal w n []) context.typed;
  }

  pub other_alike : IsTypedContext other list → SaysAlike other list normal
  other_alike context = record {
    says = says context.typed;
    ended = λ slot i. let e = keeps.ended (field_path slot.numbers) (slot_headers other slot s.shallow i) in (e.1, e.0);
  }

-- Under its own table too.
pub own_alike : (nodes : Nodes) (view : View) (list normal : List Atom) → IsTable nodes → IsTypedContext nodes list → IsNormalOf nodes view list normal
    → IsTypedContext nodes normal × SaysAlike nodes list normal
own_alike nodes view list normal t context n =
    let lists = normal_form_keeps.lists nodes view list normal t context.well_formed n in
    let values = normal_form_keeps.values nodes view list normal t context.well_formed context.typed n in
    (record { well_formed = lists.well_formed; typed = values.typed }, record { says = values.says; ended = lists.ended })
