-- A name path tells the slots of a table apart, and those inside a bag from all others.
use Rattle.std.proofs.Common.{◌≡◌, ◌⊎◌, inl, inr, ℕ, ◌+◌, ◌<◌, ◌≤◌, List, [], ◌∷◌, ◌++◌, append_assoc, Option, Some, None, refl, sym, ◌∙◌, ap, subst, arith}
use Rattle.std.specs.Prelude.{◌≢◌, ◌↔◌}
use Rattle.std.specs.List.{slice_get, list_any}
use Rattle.std.specs.Option.{option_map}
use Rattle.std.proofs.lemmas.Option.{slice_get_within}
use Rattle.bag_model.specs.Shapes.{Shape, Nodes, Field, fields, Taint, Scalar, Set, Counter, Map, Bag, no_node, node}
use Rattle.bag_model.specs.Slots.{SlotAt, slots_of, slots_in, slot_count, dotted, name_path, IsWithin, IsReached, FindsField, range_of, IsUnder, IsInRange}
use Rattle.bag_model.specs.Tables.{IsShape, AreFields, IsTable}
use Rattle.bag_model.specs.Words.{HasNoDot}
use Rattle.bag_model.specs.NamePaths.{NamePathsDiffer, RangesAreExact}
use Rattle.bag_model.proofs.PathLaws.{reached_from, all_there, name_no_dot, dot_there, one_split, is_dot, or_right, within_bound}
use Rattle.bag_model.proofs.SlotPaths.{IsNoBag, slot_leads}
use Rattle.bag_model.proofs.SlotNumbers.{IsInFirst, IsLater, first_or_later}

-- ---- names that begin others

-- The first names are these.
abbrev pub BeginWith : List (List ℕ) → List (List ℕ) → Type 0
BeginWith [] names = Unit {0}
BeginWith (m ∷ ms) [] = ⊥
BeginWith (m ∷ ms) (n ∷ ns) = (m ≡ n) × BeginWith ms ns

begin_self : (names : List (List ℕ)) → BeginWith names names
begin_self [] = tt
begin_self (n ∷ ns) = (refl, begin_self ns)

-- None of the names has a dot.
abbrev pub HaveNoDot : List (List ℕ) → Type 0
HaveNoDot [] = Unit {0}
HaveNoDot (n ∷ ns) = HasNoDot n × HaveNoDot ns

-- A path of names that others begin with is theirs, or begins with it and a dot.
under_from : (m : List ℕ) (ms : List (List ℕ)) (n : List ℕ) (ns : List (List ℕ)) → BeginWith (m ∷ ms) (n ∷ ns) → IsUnder (dotted (m ∷ ms)) (dotted (n ∷ ns))
under_from m [] n [] b = inl (sym b.0)
under_from m [] n (k ∷ ns) b = inr (dotted (k ∷ ns), ap (λ l. l ++ 46 ∷ dotted (k ∷ ns)) (sym b.0))
under_from m (j ∷ ms) n [] b = absurd b.1
under_from m (j ∷ ms) n (k ∷ ns) b = by (under_from j ms k ns b.1)
  where
    by : IsUnder (dotted (j ∷ ms)) (dotted (k ∷ ns)) → IsUnder (m ++ 46 ∷ dotted (j ∷ ms)) (n ++ 46 ∷ dotted (k ∷ ns))
    by (inl e) = inl (λ i. sym b.0 i ++ 46 ∷ e i)
    by (inr (rest, e)) = inr (rest, (λ i. sym b.0 i ++ 46 ∷ e i) ∙ sym (append_assoc m (46 ∷ dotted (j ∷ ms)) (46 ∷ rest)))

-- A path that is names' path, or is followed by a dot there, is that of the first of the names.
pub record IsFront (path n : List ℕ) (ns : List (List ℕ)) : Type 0 where
  pub first : List ℕ
  pub more : List (List ℕ)
  pub is : dotted (first ∷ more) ≡ path
  pub begins : BeginWith (first ∷ more) (n ∷ ns)

-- The path ends with the first name, or goes on after a dot.
split_path : (n d path rest : List ℕ) → HasNoDot n → n ++ 46 ∷ d ≡ path ++ 46 ∷ rest → (path ≡ n) ⊎ ((more : List ℕ) × (path ≡ n ++ 46 ∷ more) × (d ≡ more ++ 46 ∷ rest))
split_path [] d [] rest h e = inl refl
split_path [] d (y ∷ path) rest h e =
    let first : y ≡ 46 = cc e in
    let behind : d ≡ path ++ 46 ∷ rest = cc e in
    inr (path, ap (λ b. b ∷ path) first, behind)
split_path (x ∷ n) d [] rest h e = absurd (dot_there (x ∷ n) [] n h (let first : x ≡ 46 = cc e in ap (λ b. b ∷ n) first))
split_path (x ∷ n) d (y ∷ path) rest h e = by (split_path n d path rest (or_right (is_dot x) (list_any is_dot n) h) (cc e))
  where
    first : x ≡ y
    first = cc e

    by : (path ≡ n) ⊎ ((more : List ℕ) × (path ≡ n ++ 46 ∷ more) × (d ≡ more ++ 46 ∷ rest)) → (y ∷ path ≡ x ∷ n) ⊎ ((more : List ℕ) × (y ∷ path ≡ x ∷ (n ++ 46 ∷ more)) × (d ≡ more ++ 46 ∷ rest))
    by (inl same) = inl (λ i. sym first i ∷ same i)
    by (inr (more, same, behind)) = inr (more, (λ i. sym first i ∷ same i), behind)

front_of : (path n : List ℕ) (ns : List (List ℕ)) → HaveNoDot (n ∷ ns) → IsUnder path (dotted (n ∷ ns)) → IsFront path n ns
front_of path n ns h (inl e) = record { first = n; more = ns; is = e; begins = begin_self (n ∷ ns) }
front_of path n [] h (inr (rest, e)) = absurd (dot_there n path rest h.0 e)
front_of path n (k ∷ ns) h (inr (rest, e)) = by (split_path n (dotted (k ∷ ns)) path rest h.0 e) (λ more behind. front_of more k ns h.1 (inr (rest, behind)))
  where
    by : (path ≡ n) ⊎ ((more : List ℕ) × (path ≡ n ++ 46 ∷ more) × (dotted (k ∷ ns) ≡ more ++ 46 ∷ rest)) → ((more : List ℕ) → dotted (k ∷ ns) ≡ more ++ 46 ∷ rest → IsFront more k ns) → IsFront path n (k ∷ ns)
    by (inl same) inner = record { first = n; more = []; is = sym same; begins = (refl, tt) }
    by (inr (more, same, behind)) inner =
        let f = inner more behind in
        record { first = n; more = f.first ∷ f.more; is = ap (λ l. n ++ 46 ∷ l) f.is ∙ sym same; begins = (refl, f.begins) }

-- Names without dots that have one path are the same.
one_front : (m : List ℕ) (ms : List (List ℕ)) (n : List ℕ) (ns : List (List ℕ)) → HaveNoDot (m ∷ ms) → HaveNoDot (n ∷ ns) → dotted (m ∷ ms) ≡ dotted (n ∷ ns) → BeginWith (m ∷ ms) (n ∷ ns)
one_front m [] n [] h k e = (e, tt)
one_front m [] n (j ∷ ns) h k e = absurd (dot_there m n (dotted (j ∷ ns)) h.0 e)
one_front m (i ∷ ms) n [] h k e = absurd (dot_there n m (dotted (i ∷ ms)) k.0 (sym e))
one_front m (i ∷ ms) n (j ∷ ns) h k e =
    let both = one_split m n (dotted (i ∷ ms)) (dotted (j ∷ ns)) h.0 k.0 e in
    (both.0, one_front i ms j ns h.1 k.1 both.1)

begin_trans : (ks ms ns : List (List ℕ)) → BeginWith ks ms → BeginWith ms ns → BeginWith ks ns
begin_trans [] ms ns b c = tt
begin_trans (k ∷ ks) [] ns b c = absurd b
begin_trans (k ∷ ks) (m ∷ ms) [] b c = absurd c
begin_trans (k ∷ ks) (m ∷ ms) (n ∷ ns) b c = (b.0 ∙ c.0, begin_trans ks ms ns b.1 c.1)

begin_clear : (ms ns : List (List ℕ)) → BeginWith ms ns → HaveNoDot ns → HaveNoDot ms
begin_clear [] ns b h = tt
begin_clear (m ∷ ms) [] b h = absurd b
begin_clear (m ∷ ms) (n ∷ ns) b h = (subst HasNoDot (sym b.0) h.0, begin_clear ms ns b.1 h.1)

-- ---- names that are reached

-- The fields of a bag that are after the first have other names.
later_name : (name : List ℕ) (number : ℕ) (own : Shape) (nodes : Nodes) (other : List ℕ) (names : List (List ℕ)) (before : ℕ) (shape : Shape) → AreFields (node name number own nodes) → IsReached nodes other names before shape → name ≢ other
later_name name number own nodes other names before shape h reached same =
    let r = reached_from nodes other names before shape reached in
    (all_there (λ (f : Field). (number < f.number) × (name ≢ f.name)) (fields nodes) r.place r.field h.3 r.at).1 (same ∙ sym r.named)

-- The names on the way to a field have no dots.
mutual
  clear_from : (nodes : Nodes) (name : List ℕ) (names : List (List ℕ)) (before : ℕ) (shape : Shape) → AreFields nodes → IsReached nodes name names before shape → HaveNoDot (name ∷ names)
  clear_from no_node name names before shape h reached = absurd reached
  clear_from (node field number own nodes) name names before shape h (inl (is, inside)) =
      (subst HasNoDot (sym is) (name_no_dot field h.0), clear_in own names before shape h.2 inside)
  clear_from (node field number own nodes) name names before shape h (inr (behind, is, reached)) = clear_from nodes name names behind shape h.4 reached

  clear_in : (own : Shape) (names : List (List ℕ)) (before : ℕ) (shape : Shape) → IsShape own → IsWithin own names before shape → HaveNoDot names
  clear_in own [] before shape h inside = tt
  clear_in (Bag nodes) (name ∷ names) before shape h inside = clear_from nodes name names before shape h inside
  clear_in Taint (name ∷ names) before shape h inside = absurd inside
  clear_in (Scalar pick kind) (name ∷ names) before shape h inside = absurd inside
  clear_in (Set kind) (name ∷ names) before shape h inside = absurd inside
  clear_in Counter (name ∷ names) before shape h inside = absurd inside
  clear_in (Map key value) (name ∷ names) before shape h inside = absurd inside

-- A field on the way to another one is reached.
mutual
  front_from : (nodes : Nodes) (name : List ℕ) (names : List (List ℕ)) (before : ℕ) (shape : Shape) (m : List ℕ) (ms : List (List ℕ)) → IsReached nodes name names before shape → BeginWith (m ∷ ms) (name ∷ names) → (b : ℕ) × ((s : Shape) × IsReached nodes m ms b s)
  front_from no_node name names before shape m ms reached b = absurd reached
  front_from (node field number own nodes) name names before shape m ms (inl (is, inside)) b =
      let r = front_in own names before shape ms inside b.1 in
      (r.0, (r.1.0, inl (b.0 ∙ is, r.1.1)))
  front_from (node field number own nodes) name names before shape m ms (inr (behind, is, reached)) b =
      let r = front_from nodes name names behind shape m ms reached b in
      (slot_count own + r.0, (r.1.0, inr (r.0, refl, r.1.1)))

  front_in : (own : Shape) (names : List (List ℕ)) (before : ℕ) (shape : Shape) (ms : List (List ℕ)) → IsWithin own names before shape → BeginWith ms names → (b : ℕ) × ((s : Shape) × IsWithin own ms b s)
  front_in own names before shape [] inside b = (0, (own, (refl, refl)))
  front_in own [] before shape (m ∷ ms) inside b = absurd b
  front_in (Bag nodes) (name ∷ names) before shape (m ∷ ms) inside b = front_from nodes name names before shape m ms inside b
  front_in Taint (name ∷ names) before shape (m ∷ ms) inside b = absurd inside
  front_in (Scalar pick kind) (name ∷ names) before shape (m ∷ ms) inside b = absurd inside
  front_in (Set kind) (name ∷ names) before shape (m ∷ ms) inside b = absurd inside
  front_in Counter (name ∷ names) before shape (m ∷ ms) inside b = absurd inside
  front_in (Map key value) (name ∷ names) before shape (m ∷ ms) inside b = absurd inside

-- ---- the slots of a field that is reached

-- A number is one of `count` numbers from `before` on exactly where the names of its slot begin
-- with these.
abbrev pub Tells : ℕ → ℕ → List (List ℕ) → ℕ → SlotAt → Type 0
Tells before count names place slot = ((before ≤ place) × (place < before + count)) ↔ BeginWith names slot.names

tells_all : (own : Shape) (before : ℕ) (shape : Shape) (place : ℕ) (slot : SlotAt) → before ≡ 0 → shape ≡ own → slice_get (slots_in own) place ≡ Some slot → Tells before (slot_count shape) [] place slot
tells_all own before shape place slot zero_before same at =
    let less = slice_get_within (slots_in own) place slot at in
    (λ _. tt, λ _. (omega (arith, zero_before), omega (arith, less, ap slot_count same)))

module _ (field : List ℕ) (number : ℕ) (own : Shape) (nodes : Nodes) (h : AreFields (node field number own nodes)) (name : List ℕ) (names : List (List ℕ)) (shape : Shape) (place : ℕ) (slot : SlotAt) where
  -- The names of a slot of the first field begin with its name.
  own_names : (f : IsInFirst field number own place slot) → slot.names ≡ field ∷ f.inner.names
  own_names f = ap (λ (s : SlotAt). s.names) (sym f.is)

  -- Those of a slot of a later field begin with another one.
  other_names : IsLater own nodes place slot → name ≡ field → BeginWith (name ∷ names) slot.names → ⊥
  other_names l same b =
      let r = slot_leads nodes l.behind slot l.at in
      let c : BeginWith (name ∷ names) (r.name ∷ r.names) = subst (BeginWith (name ∷ names)) r.is b in
      later_name field number own nodes r.name r.names l.behind slot.shape h r.reached (sym same ∙ c.0)

  -- The field is the first.
  tells_first : (before : ℕ) → name ≡ field → before + slot_count shape ≤ slot_count own → IsInFirst field number own place slot ⊎ IsLater own nodes place slot
      → ((inner : SlotAt) → slice_get (slots_in own) place ≡ Some inner → Tells before (slot_count shape) names place inner)
      → Tells before (slot_count shape) (name ∷ names) place slot
  tells_first before same bound (inl f) inside =
      let t = inside f.inner f.at in (
        λ range. subst (BeginWith (name ∷ names)) (sym (own_names f)) (same, t.0 range),
        λ b. t.1 (let c : BeginWith (name ∷ names) (field ∷ f.inner.names) = subst (BeginWith (name ∷ names)) (own_names f) b in c.1),
      )
  tells_first before same bound (inr l) inside = (λ range. absurd (omega (arith, range.0, range.1, bound, l.counted)), λ b. absurd (other_names l same b))

  -- The field is a later one.
  tells_later : (before behind : ℕ) → before ≡ slot_count own + behind → IsReached nodes name names behind shape → IsInFirst field number own place slot ⊎ IsLater own nodes place slot
      → ((l : ℕ) → slice_get (slots_of nodes) l ≡ Some slot → Tells behind (slot_count shape) (name ∷ names) l slot)
      → Tells before (slot_count shape) (name ∷ names) place slot
  tells_later before behind is reached (inl f) later =
      let less = slice_get_within (slots_in own) place f.inner f.at in (
        λ range. absurd (omega (arith, range.0, less, is)),
        λ b. absurd (let c : BeginWith (name ∷ names) (field ∷ f.inner.names) = subst (BeginWith (name ∷ names)) (own_names f) b in later_name field number own nodes name names behind shape h reached (sym c.0)),
      )
  tells_later before behind is reached (inr l) later =
      let t = later l.behind l.at in
      (λ range. t.0 (omega (arith, range.0, is, l.counted), omega (arith, range.1, is, l.counted)), λ b. let r = t.1 b in (omega (arith, r.0, is, l.counted), omega (arith, r.1, is, l.counted)))

mutual
  tells_from : (nodes : Nodes) (name : List ℕ) (names : List (List ℕ)) (before : ℕ) (shape : Shape) → AreFields nodes → IsReached nodes name names before shape
      → (place : ℕ) (slot : SlotAt) → slice_get (slots_of nodes) place ≡ Some slot → Tells before (slot_count shape) (name ∷ names) place slot
  tells_from no_node name names before shape h reached place slot at = absurd reached
  tells_from (node field number own nodes) name names before shape h (inl (is, inside)) place slot at =
      tells_first field number own nodes h name names shape place slot before is (within_bound own names before shape inside) (first_or_later field number own nodes place slot at)
      (λ inner found. tells_in own names before shape h.2 inside place inner found)
  tells_from (node field number own nodes) name names before shape h (inr (behind, is, reached)) place slot at =
      tells_later field number own nodes h name names shape place slot before behind is reached (first_or_later field number own nodes place slot at)
      (λ l found. tells_from nodes name names behind shape h.4 reached l slot found)

  tells_in : (own : Shape) (names : List (List ℕ)) (before : ℕ) (shape : Shape) → IsShape own → IsWithin own names before shape
      → (place : ℕ) (slot : SlotAt) → slice_get (slots_in own) place ≡ Some slot → Tells before (slot_count shape) names place slot
  tells_in own [] before shape h inside place slot at = tells_all own before shape place slot inside.0 inside.1 at
  tells_in (Bag nodes) (name ∷ names) before shape h inside place slot at = tells_from nodes name names before shape h inside place slot at
  tells_in Taint (name ∷ names) before shape h inside place slot at = absurd inside
  tells_in (Scalar pick kind) (name ∷ names) before shape h inside place slot at = absurd inside
  tells_in (Set kind) (name ∷ names) before shape h inside place slot at = absurd inside
  tells_in Counter (name ∷ names) before shape h inside place slot at = absurd inside
  tells_in (Map key value) (name ∷ names) before shape h inside place slot at = absurd inside

-- ---- the laws

one_slot : (shape : Shape) → IsNoBag shape → slot_count shape ≡ 1
one_slot Taint h = refl
one_slot (Scalar pick kind) h = refl
one_slot (Set kind) h = refl
one_slot Counter h = refl
one_slot (Map key value) h = refl
one_slot (Bag nodes) h = absurd (h nodes refl)

-- Two slots of a table with one name path are one slot.
pub name_paths_differ : NamePathsDiffer
name_paths_differ nodes i j a b table at also same =
    let p = slot_leads nodes i a at in
    let q = slot_leads nodes j b also in
    let front = one_front p.name p.names q.name q.names (clear_from nodes p.name p.names i a.shape table.well_formed p.reached) (clear_from nodes q.name q.names j b.shape table.well_formed q.reached)
    (ap dotted (sym p.is) ∙ same ∙ ap dotted q.is) in
    let r = (tells_from nodes p.name p.names i a.shape table.well_formed p.reached j b also).1 (subst (BeginWith (p.name ∷ p.names)) (sym q.is) front) in
    omega (arith, r.0, r.1, one_slot a.shape p.no_bag)

-- A range that is found has the slots that the path tells.
found_range : (nodes : Nodes) (path : List ℕ) (found : Option (ℕ × Shape)) (place : ℕ) (slot : SlotAt) → IsTable nodes → FindsField nodes path found → slice_get (slots_of nodes) place ≡ Some slot → IsInRange (option_map range_of found) place ↔ IsUnder path (name_path slot)
found_range nodes path None place slot table none at =
    let p = slot_leads nodes place slot at in (
      λ never. absurd never,
      λ under.
          let f = front_of path p.name p.names (clear_from nodes p.name p.names place slot.shape table.well_formed p.reached) (subst (λ (names : List (List ℕ)). IsUnder path (dotted names)) p.is under) in
          let r = front_from nodes p.name p.names place slot.shape f.first f.more p.reached f.begins in
          absurd (none f.first f.more r.0 r.1.0 r.1.1 f.is),
    )
found_range nodes path (Some found) place slot table (name, names, is, reached) at =
    let p = slot_leads nodes place slot at in
    let t = tells_from nodes name names found.0 found.1 table.well_formed reached place slot at in
    let clear = clear_from nodes p.name p.names place slot.shape table.well_formed p.reached in
    let own = clear_from nodes name names found.0 found.1 table.well_formed reached in (
      λ range. subst (λ (l : List ℕ). IsUnder l (name_path slot)) is
          (subst (λ (l : List (List ℕ)). IsUnder (dotted (name ∷ names)) (dotted l)) (sym p.is)
          (under_from name names p.name p.names (subst (BeginWith (name ∷ names)) p.is (t.0 range)))),
      λ under.
          let f = front_of path p.name p.names clear (subst (λ (l : List (List ℕ)). IsUnder path (dotted l)) p.is under) in
          let whole = one_front name names f.first f.more own (begin_clear (f.first ∷ f.more) (p.name ∷ p.names) f.begins clear) (is ∙ sym f.is) in
          t.1 (subst (BeginWith (name ∷ names)) (sym p.is) (begin_trans (name ∷ names) (f.first ∷ f.more) (p.name ∷ p.names) whole f.begins)),
    )

-- The range of a name path has exactly the slots whose name path is it, or begins with it and a dot.
pub ranges_are_exact : RangesAreExact
ranges_are_exact nodes path range place slot table (found, finds, is) at =
    subst (λ (o : Option (ℕ × ℕ)). IsInRange o place ↔ IsUnder path (name_path slot)) (sym is) (found_range nodes path found place slot table finds at)
