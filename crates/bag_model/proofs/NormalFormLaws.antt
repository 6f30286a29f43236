-- What normal form keeps.
use Rattle.std.proofs.Common.{◌≡◌, ◌≢◌, ◌⊎◌, inl, ◌↔◌, ℕ, zero, suc, ◌+◌, ◌-◌, ◌*◌, ◌<◌, List, [], ◌∷◌, ◌++◌, length, nat_cmp, Some, refl, sym, ap, ◌∙◌, subst, append_assoc, arith}
use Rattle.std.specs.List.{slice_get}
use Rattle.std.proofs.lemmas.Cmp.{nat_cmp_total}
use Rattle.context_model.specs.Atoms.{Atom}
use Rattle.context_model.specs.Kinds.{atom_of}
use Rattle.context_model.specs.Kinds.Kind.{Keyed}
use Rattle.context_model.specs.Orders.{Path, IsIn}
use Rattle.context_model.specs.Paths.{paths, path_at, atom_at}
use Rattle.context_model.specs.WellFormed.{IsWellFormed}
use Rattle.context_model.specs.Ended.{HasMarker, field_path}
use Rattle.context_model.specs.Merged.{last_atom}
use Rattle.context_model.specs.WithoutData.{without_from, without, AreDataPlaces, KeepsContext}
use Rattle.context_model.proofs.EndedLaws.{data_may_go}
use Rattle.context_model.proofs.GreedyElements.{All-from, Rises-unique}
use Rattle.context_model.proofs.MergedLaws.{same_end}
use Rattle.context_model.proofs.PlacesOf.{IsAtPlace, place_of_path, path_there, last_is}
use Rattle.context_model.proofs.LeftPaths.{IsLeft, left_paths, without-marker}
use Rattle.bag_model.specs.Shapes.{Nodes}
use Rattle.bag_model.specs.Values.{Values}
use Rattle.bag_model.specs.Slots.{slots_of}
use Rattle.bag_model.specs.Tables.{IsTable}
use Rattle.bag_model.specs.Views.{View}
use Rattle.bag_model.specs.Readings.{datum_path, PathsOf, SaysValues}
use Rattle.bag_model.specs.Typed.{AreTyped}
use Rattle.bag_model.specs.Encodings.{AreUsed, IsForeign}
use Rattle.bag_model.specs.NormalForm.{Keeping, SomeHoldsData, GivesWay, IsSuperseded, IsNormalOf}
use Rattle.bag_model.specs.NormalFormLaws.{NormalKeepsList, NormalFormKeeps}
use Rattle.bag_model.proofs.PathSets.{FewerBelow}
use Rattle.bag_model.proofs.TypedLaws.{AreTyped-fewer}
use Rattle.bag_model.proofs.Uniqueness.{ReadsEach-unique}
use Rattle.bag_model.proofs.Existence.{ReadsEach-all}
use Rattle.bag_model.proofs.Covering.{CoversData, AreCovered, ReadsEach-covers}
use Rattle.bag_model.proofs.SlotsBelow.{get_in, slot_headers}
use Rattle.bag_model.proofs.DataPlaces.{SomeHoldsData-one, SomeHoldsData-used, slots_place, best_there, AreCovered-places}

atom_there : (list : List Atom) (k : ℕ) → k < length list → slice_get list k ≡ Some (atom_at list k)
atom_there [] k l = absurd (omega (arith, l))
atom_there (a ∷ list) zero l = refl
atom_there (a ∷ list) (suc k) l = atom_there list k (omega (arith, l))

-- nothing is gone from a list
without_none : (i : ℕ) (list : List Atom) → without_from i [] list ≡ list
without_none i [] = refl
without_none i (a ∷ list) = ap (λ l. a ∷ l) (without_none (i + 1) list)

no_member : (xs : List ℕ) → ((x : ℕ) → IsIn x xs → ⊥) → xs ≡ []
no_member [] none = refl
no_member (x ∷ xs) none = absurd (none x (inl refl))

-- the last atom of a path that has one, and the path by it
last_end : (p : Path) → last_atom p ≢ [] → (q : Path) × (b : ℕ) × (bytes : List ℕ) × (p ≡ q ++ (b ∷ bytes) ∷ [])
last_end [] n = absurd (n refl)
last_end ([] ∷ []) n = absurd (n refl)
last_end ((b ∷ bytes) ∷ []) n = ([], b, bytes, refl)
last_end (x ∷ y ∷ p) n = by (last_end (y ∷ p) n)
  where
    by : (q : Path) × (b : ℕ) × (bytes : List ℕ) × (y ∷ p ≡ q ++ (b ∷ bytes) ∷ []) → (q : Path) × (b : ℕ) × (bytes : List ℕ) × (x ∷ y ∷ p ≡ q ++ (b ∷ bytes) ∷ [])
    by s = (x ∷ s.0, s.1, s.2, ap (λ l. x ∷ l) s.3)

module _ (nodes : Nodes) (view : View) where
  -- What is superseded among some paths is superseded among more.
  superseded_more : (P Q : Path → Type 0) (p : Path) → ((place : Path) (x : List ℕ) → P (datum_path place x) → Q (datum_path place x)) → IsSuperseded nodes view P p → IsSuperseded nodes view Q p
  superseded_more P Q p f s = record {
    slot = s.slot;
    at = s.at;
    knows = s.knows;
    there = s.there;
    place = s.place;
    keep = s.keep;
    holds = s.holds;
    mine = s.mine;
    other = s.other;
    is = s.is;
    stands = f s.place s.other s.stands;
    way = s.way;
  }

  -- It is at a place of the table.
  superseded_place : (P : Path → Type 0) (p : Path) (s : IsSuperseded nodes view P p) → SomeHoldsData nodes [] s.keep s.place
  superseded_place P p s = slots_place nodes [] s.at s.keep s.place (get_in (slots_of nodes) s.slot s.at s.there) s.holds

module _ (nodes : Nodes) (t : IsTable nodes) (view : View) (list normal : List Atom) (w : IsWellFormed list) (n : IsNormalOf nodes view list normal) where
  gone_data : AreDataPlaces n.gone list
  gone_data = All-from (λ place. (payload : List ℕ) × (slice_get list place ≡ Some (0 ∷ payload))) n.gone (λ place i. by place ((n.exact place).0 i))
    where
      by : (place : ℕ) → (place < length list) × IsSuperseded nodes view (PathsOf list) (path_at list place) → (payload : List ℕ) × (slice_get list place ≡ Some (0 ∷ payload))
      by place g =
          let atom : atom_at list place ≡ 0 ∷ (g.1).mine = last_is list place (g.1).place (0 ∷ (g.1).mine) g.0 (g.1).is in
          ((g.1).mine, atom_there list place g.0 ∙ ap (λ a. Some a) atom)

  keeps : KeepsContext list normal
  keeps = subst (KeepsContext list) (sym n.left) (data_may_go list n.gone w gone_data)

  -- A path that isn't a marker's is one of the normal form exactly where it is one of the list and isn't superseded.
  pub normal_left : (p : Path) (b : ℕ) (bytes : List ℕ) → PathsOf normal (p ++ (b ∷ bytes) ∷ [])
      ↔ (PathsOf list (p ++ (b ∷ bytes) ∷ []) × (IsSuperseded nodes view (PathsOf list) (p ++ (b ∷ bytes) ∷ []) → ⊥))
  normal_left p b bytes = (λ i. there ((left_paths list n.gone p b bytes w gone_data).0 (subst (λ l. PathsOf l (p ++ (b ∷ bytes) ∷ [])) n.left i)), λ h. back h.0 h.1)
    where
      path : Path
      path = p ++ (b ∷ bytes) ∷ []

      there : IsLeft list n.gone path → PathsOf list path × (IsSuperseded nodes view (PathsOf list) path → ⊥)
      there s = (
        subst (PathsOf list) s.path (path_there list s.place s.within),
        λ g. s.stays ((n.exact s.place).1 (s.within, subst (IsSuperseded nodes view (PathsOf list)) (sym s.path) g)),
      )

      back : PathsOf list path → (IsSuperseded nodes view (PathsOf list) path → ⊥) → PathsOf normal path
      back i none = by (place_of_path list path i)
        where
          by : IsAtPlace list path → PathsOf normal path
          by a =
              subst (λ l. PathsOf l path) (sym n.left) ((left_paths list n.gone p b bytes w gone_data).1 (record {
                place = a.place;
                within = a.within;
                path = a.path;
                stays = λ j. none (subst (IsSuperseded nodes view (PathsOf list)) a.path ((n.exact a.place).0 j).1);
              }))

  pub normal_fewer : (q : Path) → FewerBelow q (PathsOf normal) (PathsOf list)
  normal_fewer q p b bytes i = subst (PathsOf list) (append_assoc q p ((b ∷ bytes) ∷ [])) ((normal_left (q ++ p) b bytes).0 (subst (PathsOf normal) (sym (append_assoc q p ((b ∷ bytes) ∷ []))) i)).0

  -- ---- the normal form covers the list

  -- a datum that gives way to none stays
  stays_there : (keep : Keeping) (q : Path) (y : List ℕ) → SomeHoldsData nodes [] keep q → PathsOf list (datum_path q y)
      → ((z : List ℕ) → PathsOf list (datum_path q z) → GivesWay keep y z → ⊥) → PathsOf normal (datum_path q y)
  stays_there keep q y h i best = (normal_left q 0 y).1 (i, λ s. by s (same_end q s.place (0 ∷ y) (0 ∷ s.mine) s.is))
    where
      tails : (x z : List ℕ) → 0 ∷ x ≡ 0 ∷ z → x ≡ z
      tails x z e = cc

      by : (s : IsSuperseded nodes view (PathsOf list) (datum_path q y)) → (q ≡ s.place) × (0 ∷ y ≡ 0 ∷ s.mine) → ⊥
      by s e =
          let rule : s.keep ≡ keep = SomeHoldsData-one nodes [] q s.keep keep t.well_formed (subst (SomeHoldsData nodes [] s.keep) (sym e.0) (superseded_place nodes view (PathsOf list) (datum_path q y) s)) h in
          best s.other (subst (λ v. PathsOf list (datum_path v s.other)) (sym e.0) s.stands)
          (subst (λ k. GivesWay k y s.other) rule (subst (λ x. GivesWay s.keep x s.other) (sym (tails y s.mine e.1)) s.way))

  place_covered : (keep : Keeping) (q : Path) → SomeHoldsData nodes [] keep q → CoversData keep (PathsOf normal) (PathsOf list) q
  place_covered keep q h = ((λ x i. ((normal_left q 0 x).0 i).0), λ x i. by (best_there keep (paths list) q x i))
    where
      by : {x : List ℕ} → (y : List ℕ) × PathsOf list (datum_path q y) × ((y ≡ x) ⊎ GivesWay keep x y) × ((z : List ℕ) → PathsOf list (datum_path q z) → GivesWay keep y z → ⊥)
          → (y : List ℕ) × PathsOf normal (datum_path q y) × ((y ≡ x) ⊎ GivesWay keep x y)
      by y = (y.0, stays_there keep q y.0 h y.1 y.3, y.2)

  -- a keyed header is never superseded
  key_stays : (p : Path) (level : ℕ) (key : List ℕ) → level < 16 → IsSuperseded nodes view (PathsOf list) (p ++ atom_of (Keyed level key) ∷ []) → ⊥
  key_stays p level key l s =
      let e : (249 - 8 * level) ∷ key ≡ 0 ∷ s.mine = (same_end p s.place (atom_of (Keyed level key)) (0 ∷ s.mine) s.is).1 in
      let zero_byte : 249 - 8 * level ≡ 0 = heads (249 - 8 * level) 0 key s.mine e in
      omega arith
    where
      heads : (a b : ℕ) (x y : List ℕ) → a ∷ x ≡ b ∷ y → a ≡ b
      heads a b x y f = cc

  pub normal_covers : AreCovered nodes (PathsOf normal) (PathsOf list) []
  normal_covers =
      AreCovered-places nodes (PathsOf normal) (PathsOf list) [] (omega (arith, t.shallow))
      (λ p level key l. ((λ i. ((normal_left p (249 - 8 * level) key).0 i).0), λ i. (normal_left p (249 - 8 * level) key).1 (i, key_stays p level key l)))
      (λ keep q h. place_covered keep q h)

  -- ---- the laws

  pub normal_typed : AreTyped nodes (PathsOf list) [] → AreTyped nodes (PathsOf normal) []
  normal_typed typed = AreTyped-fewer nodes (PathsOf normal) (PathsOf list) [] (normal_fewer []) typed

  normal_says : AreTyped nodes (PathsOf list) [] → (vs : Values) → SaysValues nodes normal vs ↔ SaysValues nodes list vs
  normal_says typed vs = (λ r. there vs r, λ r. back r (ReadsEach-all nodes (paths normal) []))
    where
      there : (us : Values) → SaysValues nodes normal us → SaysValues nodes list us
      there us r = ReadsEach-covers nodes (PathsOf normal) (PathsOf list) [] us typed normal_covers r

      back : SaysValues nodes list vs → (us : Values) × SaysValues nodes normal us → SaysValues nodes normal vs
      back r us = subst (SaysValues nodes normal) (ReadsEach-unique nodes (PathsOf list) [] us.0 vs (there us.0 us.1) r) us.1

  normal_foreign : (p : Path) → IsForeign nodes normal p ↔ IsForeign nodes list p
  normal_foreign p = (λ f. there f (last_end p f.1), λ f. back f (last_end p f.1))
    where
      there : IsForeign nodes normal p → (q : Path) × (b : ℕ) × (bytes : List ℕ) × (p ≡ q ++ (b ∷ bytes) ∷ []) → IsForeign nodes list p
      there f e = (subst (PathsOf list) (sym e.3) ((normal_left e.0 e.1 e.2).0 (subst (PathsOf normal) e.3 f.0)).0, f.1, f.2)

      back : IsForeign nodes list p → (q : Path) × (b : ℕ) × (bytes : List ℕ) × (p ≡ q ++ (b ∷ bytes) ∷ []) → IsForeign nodes normal p
      back f e = (
        subst (PathsOf normal) (sym e.3) ((normal_left e.0 e.1 e.2).1 (
          subst (PathsOf list) e.3 f.0,
          λ s. f.2 (subst (AreUsed nodes []) (sym (e.3 ∙ s.is)) (SomeHoldsData-used nodes [] s.keep s.place s.mine (superseded_place nodes view (PathsOf list) (e.0 ++ (e.1 ∷ e.2) ∷ []) s))),
        )),
        f.1,
        f.2,
      )

  -- what is superseded in the normal form would have been so in the list
  normal_once : (again : List Atom) → IsNormalOf nodes view normal again → again ≡ normal
  normal_once again m = m.left ∙ ap (λ gone. without gone normal) (no_member m.gone (λ place i. none place ((m.exact place).0 i))) ∙ without_none 0 normal
    where
      none : (place : ℕ) → (place < length normal) × IsSuperseded nodes view (PathsOf normal) (path_at normal place) → ⊥
      none place g =
          let s = g.1 in
          let there : PathsOf normal (datum_path s.place s.mine) = subst (PathsOf normal) s.is (path_there normal place g.0) in
          ((normal_left s.place 0 s.mine).0 there).1
          (subst (IsSuperseded nodes view (PathsOf list)) s.is (superseded_more nodes view (PathsOf normal) (PathsOf list) (path_at normal place) (λ q x i. ((normal_left q 0 x).0 i).0) s))

  normal_one : (other : List Atom) → IsNormalOf nodes view list other → other ≡ normal
  normal_one other m =
      m.left ∙ ap (λ gone. without gone list) (Rises-unique nat_cmp nat_cmp_total m.gone n.gone m.rises n.rises (λ k. ((λ i. (n.exact k).1 ((m.exact k).0 i)), λ i. (m.exact k).1 ((n.exact k).0 i)))) ∙ sym n.left

  normal_list : NormalKeepsList nodes view list normal
  normal_list = record {
    well_formed = keeps.well_formed;
    ended = λ slot i. let e = keeps.ended (field_path slot.numbers) (slot_headers nodes slot t.shallow i) in (e.1, e.0);
    foreign = normal_foreign;
    marker = subst (λ l. HasMarker l ↔ HasMarker list) (sym n.left) (without-marker list n.gone gone_data);
    once = normal_once;
    one = normal_one;
  }

pub normal_form_keeps : NormalFormKeeps
normal_form_keeps = record {
  lists = λ nodes view list normal t w n. normal_list nodes t view list normal w n;
  values = λ nodes view list normal t w typed n. record { typed = normal_typed nodes t view list normal w n typed; says = normal_says nodes t view list normal w n typed };
}
