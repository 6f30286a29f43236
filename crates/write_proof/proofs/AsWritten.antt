-- The lines of a certificate are read as they are written.
use Rattle.std.proofs.Common.{◌≡◌, inl, inr, ℕ, zero, suc, ◌+◌, ◌<◌, ◌≤◌, List, [], ◌∷◌, ◌++◌, length, map, Option, Some, None, refl, sym, ap, ◌∙◌, subst, append_assoc, arith}
use Rattle.std.specs.List.{AllByRecursion, flat_map, slice_get}
use Rattle.std.specs.Prelude.{codes}
use Rattle.std.specs.Fmt.{decimal}
use Rattle.std.specs.Ordering.{nat_cmp}
use Rattle.std.specs.declared.cmp.Ordering.TheVariants.{Less}
use Rattle.std.proofs.lemmas.Bool.Decides.{nat_tests}
use Rattle.context_model.specs.KeyedMerge.{keys_of, EachPair, IsAt}
use Rattle.context_model.specs.Orders.{IsIn, Rises}
use Rattle.bag_model.specs.Shapes.{Nodes}
use Rattle.bag_model.specs.Slots.{SlotAt, name_path}
use Rattle.bag_model.specs.SlotValues.{HasSlot}
use Rattle.graph_lines.specs.Forms.{IsNumber, IsPath}
use Rattle.text_lines.proofs.Separated.{free_append}
use Rattle.text_lines.specs.FedLines.{fed_lines}
use Rattle.text_lines.specs.Lines.{numbered}
use Rattle.text_lines.specs.Readings.{AllSay, NoneOf}
use Rattle.text_lines.proofs.FedLines.{fed_line}
use Rattle.trace_model.specs.Graphs.{Graph}
use Rattle.write_proof.specs.Entries.{Entry, Why, ValueText, Reach, Uses, IsSoundEntry, entry_text, entry_line, entries_of}
use Rattle.write_proof.specs.LineRules.{last_of, MayFollow, IsNoMore, HasParent, IsWriteStep, BreaksAlone, rules_alone, certificate_lines}
use Rattle.write_proof.specs.WholeRules.{reached, used}
use Rattle.write_proof.proofs.Feeds.{IsFed, decimal_fed, path_fed}

-- ---- lines

pub entry_fed : (entry : Entry) → IsSoundEntry entry → ((text : List ℕ) → entry ≡ ValueText text → IsFed text) → IsFed (entry_text entry)
entry_fed (Why n path) sound plain =
    free_append 10 (codes "why") (32 ∷ (decimal n ++ 32 ∷ path)) refl (free_append 10 (decimal n) (32 ∷ path) (decimal_fed n) (path_fed path sound.1))
entry_fed (ValueText text) sound plain = free_append 10 (codes "value ") text refl (plain text refl)
entry_fed (Reach w child) sound plain =
    free_append 10 (codes "reach") (32 ∷ (decimal w ++ 32 ∷ decimal child)) refl (free_append 10 (decimal w) (32 ∷ decimal child) (decimal_fed w) (decimal_fed child))
entry_fed (Uses w) sound plain = free_append 10 (codes "uses") (32 ∷ decimal w) refl (decimal_fed w)

module _ (table : Nodes) (graph : Graph) where
  -- An entry has a line, may follow these, and breaks no rule by itself.
  pub record Stands (earlier : List Entry) (entry : Entry) : Type 0 where
    pub sound : IsSoundEntry entry
    pub fed : IsFed (entry_text entry)
    pub follows : MayFollow (last_of earlier) entry
    pub none : NoneOf (BreaksAlone table graph earlier entry) rules_alone

  -- Each of some entries is after those before it.
  abbrev pub AllStand : List Entry → List Entry → Type 0
  AllStand earlier [] = Unit {0}
  AllStand earlier (entry ∷ entries) = Stands earlier entry × AllStand (earlier ++ entry ∷ []) entries

  lines_cut : (earlier entries : List Entry) → AllStand earlier entries → fed_lines (flat_map entry_line entries) ≡ map entry_line entries
  lines_cut earlier [] all = refl
  lines_cut earlier (entry ∷ entries) all =
      ap fed_lines (append_assoc (entry_text entry) (10 ∷ []) (flat_map entry_line entries))
      ∙ fed_line (entry_text entry) (flat_map entry_line entries) (all.0).fed
      ∙ ap (λ (l : List (List ℕ)). entry_line entry ∷ l) (lines_cut (earlier ++ entry ∷ []) entries all.1)

  lines_say : (earlier : List Entry) (k : ℕ) (entries : List Entry) → AllStand earlier entries → AllSay (certificate_lines table graph) earlier (numbered k (map entry_line entries)) entries
  lines_say earlier k [] all = tt
  lines_say earlier k (entry ∷ entries) all =
      ((((all.0).sound, refl), (all.0).follows, (all.0).none), lines_say (earlier ++ entry ∷ []) (k + 1) entries all.1)

  -- The text of the lines says the entries.
  pub text_says : (text : List ℕ) (entries : List Entry) → text ≡ flat_map entry_line entries → AllStand [] entries → AllSay (certificate_lines table graph) [] (numbered 1 (fed_lines text)) entries
  text_says text entries is all =
      subst (λ (ls : List (List ℕ)). AllSay (certificate_lines table graph) [] (numbered 1 ls) entries) (sym (ap fed_lines is ∙ lines_cut [] entries all)) (lines_say [] 1 entries all)

-- ---- the last entry

last_push : (first : Entry) (front : List Entry) (entry : Entry) → last_of (first ∷ (front ++ entry ∷ [])) ≡ Some entry
last_push first [] entry = refl
last_push first (next ∷ front) entry = last_push next front entry

-- The last is the value's text, or a step that reaches.
abbrev IsBeforeUses : Option Entry → Type 0
IsBeforeUses (Some (ValueText text)) = Unit {0}
IsBeforeUses (Some (Reach v child)) = Unit {0}
IsBeforeUses last = ⊥

-- It is the value's text, or a lesser step that reaches.
abbrev IsBeforeReach : ℕ → Option Entry → Type 0
IsBeforeReach w (Some (ValueText text)) = Unit {0}
IsBeforeReach w (Some (Reach v child)) = v < w
IsBeforeReach w last = ⊥

-- It is no used step, or a lesser one.
abbrev IsBeforeUse : ℕ → Option Entry → Type 0
IsBeforeUse w (Some (ValueText text)) = Unit {0}
IsBeforeUse w (Some (Reach v child)) = Unit {0}
IsBeforeUse w (Some (Uses v)) = v < w
IsBeforeUse w last = ⊥

reach_follows : (w child : ℕ) (last : Option Entry) → IsBeforeReach w last → MayFollow last (Reach w child)
reach_follows w child None b = b
reach_follows w child (Some (Why n path)) b = b
reach_follows w child (Some (ValueText text)) b = tt
reach_follows w child (Some (Reach v other)) b = tt
reach_follows w child (Some (Uses v)) b = b

reach_more : (w child : ℕ) (last : Option Entry) → IsBeforeReach w last → IsNoMore last (Reach w child) → ⊥
reach_more w child None b m = m
reach_more w child (Some (Why n path)) b m = m
reach_more w child (Some (ValueText text)) b m = m
reach_more w child (Some (Reach v other)) b m = omega (arith, b, m)
reach_more w child (Some (Uses v)) b m = m

use_follows : (w : ℕ) (last : Option Entry) → IsBeforeUse w last → MayFollow last (Uses w)
use_follows w None b = b
use_follows w (Some (Why n path)) b = b
use_follows w (Some (ValueText text)) b = tt
use_follows w (Some (Reach v other)) b = tt
use_follows w (Some (Uses v)) b = tt

use_more : (w : ℕ) (last : Option Entry) → IsBeforeUse w last → IsNoMore last (Uses w) → ⊥
use_more w None b m = m
use_more w (Some (Why n path)) b m = m
use_more w (Some (ValueText text)) b m = m
use_more w (Some (Reach v other)) b m = m
use_more w (Some (Uses v)) b m = omega (arith, b, m)

use_first : (w : ℕ) (last : Option Entry) → IsBeforeUses last → IsBeforeUse w last
use_first w None b = b
use_first w (Some (Why n path)) b = b
use_first w (Some (ValueText text)) b = tt
use_first w (Some (Reach v other)) b = tt
use_first w (Some (Uses v)) b = absurd b

less : (m n : ℕ) → nat_cmp m n ≡ Less → m < n
less m n h = grind (arith, nat_tests, h)

-- ---- the entries of a certificate

-- What the pairs of a certificate keep, and its used steps.
abbrev pub IsPair : Graph → ℕ → ℕ → ℕ → Type 0
IsPair graph n w child = (w < n) × HasParent graph child w × IsNumber w × IsNumber child

abbrev pub IsUse : Graph → ℕ → ℕ → Type 0
IsUse graph n w = (w ≤ n) × IsWriteStep graph w × IsNumber w

module _ (table : Nodes) (graph : Graph) (n : ℕ) (path : List ℕ) where
  uses_stand : (front : List Entry) (steps : List ℕ) → AllByRecursion (IsUse graph n) steps → Rises nat_cmp steps → AllByRecursion (λ w. IsBeforeUse w (last_of (Why n path ∷ front))) steps
      → AllStand table graph (Why n path ∷ front) (map Uses steps)
  uses_stand front [] uses rises before = tt
  uses_stand front (w ∷ steps) uses rises before = (
    record {
      sound = (uses.0).2;
      fed = entry_fed (Uses w) (uses.0).2 (λ text e. absurd (cc e));
      follows = use_follows w (last_of (Why n path ∷ front)) before.0;
      none = (
        λ b. b,
        (
          λ b. b,
          (
            λ b. elim b [ inl m ↦ use_more w (last_of (Why n path ∷ front)) before.0 m | inr late ↦ (let early = (uses.0).0 in omega (arith, early, late)) ],
            (λ b. b, (λ b. b (uses.0).1, tt)),
          ),
        ),
      );
    },
    uses_stand (front ++ Uses w ∷ []) steps uses.1 (tail_rises w steps rises) (later w steps rises),
  )
    where
      tail_rises : (v : ℕ) (vs : List ℕ) → Rises nat_cmp (v ∷ vs) → Rises nat_cmp vs
      tail_rises v [] r = tt
      tail_rises v (u ∷ vs) r = r.1

      above : (v : ℕ) (vs : List ℕ) → Rises nat_cmp (v ∷ vs) → AllByRecursion (λ u. v < u) vs
      above v [] r = tt
      above v (u ∷ vs) r = (less v u r.0, onwards v u vs (less v u r.0) (above u vs r.1))
        where
          onwards : (a b : ℕ) (us : List ℕ) → a < b → AllByRecursion (λ u. b < u) us → AllByRecursion (λ u. a < u) us
          onwards a b [] l h = tt
          onwards a b (c ∷ us) l h = (let m = h.0 in omega (arith, l, m), onwards a b us l h.1)

      later : (v : ℕ) (vs : List ℕ) → Rises nat_cmp (v ∷ vs) → AllByRecursion (λ u. IsBeforeUse u (last_of (Why n path ∷ (front ++ Uses v ∷ [])))) vs
      later v vs r = subst (λ (l : Option Entry). AllByRecursion (λ u. IsBeforeUse u l) vs) (sym (last_push (Why n path) front (Uses v))) (above v vs r)

  all_first : (last : Option Entry) (steps : List ℕ) → IsBeforeUses last → AllByRecursion (λ w. IsBeforeUse w last) steps
  all_first last [] b = tt
  all_first last (w ∷ steps) b = (use_first w last b, all_first last steps b)

  -- The last is before the first pair, if there is one.
  abbrev IsBeforeFirst : Option Entry → List (ℕ × ℕ) → Type 0
  IsBeforeFirst last [] = Unit {0}
  IsBeforeFirst last (pair ∷ pairs) = IsBeforeReach pair.0 last

  next_first : (front : List Entry) (w child : ℕ) (pairs : List (ℕ × ℕ)) → Rises nat_cmp (w ∷ keys_of pairs) → IsBeforeFirst (last_of (Why n path ∷ (front ++ Reach w child ∷ []))) pairs
  next_first front w child [] rises = tt
  next_first front w child (pair ∷ pairs) rises = subst (IsBeforeReach pair.0) (sym (last_push (Why n path) front (Reach w child))) (less w pair.0 rises.0)

  rest_rises : (w : ℕ) (ws : List ℕ) → Rises nat_cmp (w ∷ ws) → Rises nat_cmp ws
  rest_rises w [] r = tt
  rest_rises w (v ∷ ws) r = r.1

  pairs_stand : (front : List Entry) (pairs : List (ℕ × ℕ)) (steps : List ℕ) → EachPair (IsPair graph n) pairs → Rises nat_cmp (keys_of pairs)
      → IsBeforeUses (last_of (Why n path ∷ front)) → IsBeforeFirst (last_of (Why n path ∷ front)) pairs
      → AllByRecursion (IsUse graph n) steps → Rises nat_cmp steps
      → AllStand table graph (Why n path ∷ front) (map (λ pair. Reach pair.0 pair.1) pairs ++ map Uses steps)
  pairs_stand front [] steps each rises before first uses more = uses_stand front steps uses more (all_first (last_of (Why n path ∷ front)) steps before)
  pairs_stand front (pair ∷ pairs) steps each rises before first uses more = (
    record {
      sound = ((each.0).2, (each.0).3);
      fed = entry_fed (Reach pair.0 pair.1) ((each.0).2, (each.0).3) (λ text e. absurd (cc e));
      follows = reach_follows pair.0 pair.1 (last_of (Why n path ∷ front)) first;
      none = (
        λ b. b,
        (
          λ b. b,
          (
            λ b. elim b [ inl m ↦ reach_more pair.0 pair.1 (last_of (Why n path ∷ front)) first m | inr late ↦ (let early = (each.0).0 in omega (arith, early, late)) ],
            (λ b. b (each.0).1, (λ b. b, tt)),
          ),
        ),
      );
    },
    pairs_stand (front ++ Reach pair.0 pair.1 ∷ []) pairs steps each.1 (rest_rises pair.0 (keys_of pairs) rises) (subst IsBeforeUses (sym (last_push (Why n path) front (Reach pair.0 pair.1))) tt) (next_first front pair.0 pair.1 pairs rises) uses more,
  )

  -- The entries of a certificate are good, each after those before it.
  pub entries_stand : (text : List ℕ) (pairs : List (ℕ × ℕ)) (steps : List ℕ) (slot : ℕ) (at : SlotAt) → HasSlot table slot at → name_path at ≡ path → n < length graph.steps → IsNumber n → IsPath path → IsFed text
      → EachPair (IsPair graph n) pairs → Rises nat_cmp (keys_of pairs) → AllByRecursion (IsUse graph n) steps → Rises nat_cmp steps
      → AllStand table graph [] (entries_of n path text pairs steps)
  entries_stand text pairs steps slot at there named within number is_path fed each rises uses more = (
    record {
      sound = (number, is_path);
      fed = entry_fed (Why n path) (number, is_path) (λ other e. absurd (cc e));
      follows = tt;
      none = (λ late. omega (arith, within, late), (λ none. none slot at there named, (λ b. b, (λ b. b, (λ b. b, tt)))));
    },
    (
      record {
        sound = tt;
        fed = free_append 10 (codes "value ") text refl fed;
        follows = tt;
        none = (λ b. b, (λ b. b, (λ b. b, (λ b. b, (λ b. b, tt)))));
      },
      pairs_stand (ValueText text ∷ []) pairs steps each rises tt (first pairs) uses more,
    ),
  )
    where
      first : (ps : List (ℕ × ℕ)) → IsBeforeFirst (Some (ValueText text)) ps
      first [] = tt
      first (pair ∷ ps) = tt

-- ---- what the entries of a certificate list

no_reach : (steps : List ℕ) → reached (map Uses steps) ≡ []
no_reach [] = refl
no_reach (w ∷ steps) = no_reach steps

pub reached_is : (pairs : List (ℕ × ℕ)) (steps : List ℕ) → reached (map (λ pair. Reach pair.0 pair.1) pairs ++ map Uses steps) ≡ keys_of pairs
reached_is [] steps = no_reach steps
reached_is (pair ∷ pairs) steps = ap (λ (l : List ℕ). pair.0 ∷ l) (reached_is pairs steps)

all_used : (steps : List ℕ) → used (map Uses steps) ≡ steps
all_used [] = refl
all_used (w ∷ steps) = ap (λ (l : List ℕ). w ∷ l) (all_used steps)

pub used_is : (pairs : List (ℕ × ℕ)) (steps : List ℕ) → used (map (λ pair. Reach pair.0 pair.1) pairs ++ map Uses steps) ≡ steps
used_is [] steps = all_used steps
used_is (pair ∷ pairs) steps = used_is pairs steps

-- An entry of these is a pair or a use.
abbrev pub IsListedEntry : List (ℕ × ℕ) → List ℕ → Entry → Type 0
IsListedEntry pairs steps (Why n path) = ⊥
IsListedEntry pairs steps (ValueText text) = ⊥
IsListedEntry pairs steps (Reach w child) = IsAt w child pairs
IsListedEntry pairs steps (Uses w) = IsIn w steps

more_steps : (v : ℕ) (steps : List ℕ) (entry : Entry) → IsListedEntry [] steps entry → IsListedEntry [] (v ∷ steps) entry
more_steps v steps (Why n path) h = h
more_steps v steps (ValueText text) h = h
more_steps v steps (Reach w child) h = h
more_steps v steps (Uses w) h = inr h

more_pairs : (pair : ℕ × ℕ) (pairs : List (ℕ × ℕ)) (steps : List ℕ) (entry : Entry) → IsListedEntry pairs steps entry → IsListedEntry (pair ∷ pairs) steps entry
more_pairs pair pairs steps (Why n path) h = h
more_pairs pair pairs steps (ValueText text) h = h
more_pairs pair pairs steps (Reach w child) h = inr h
more_pairs pair pairs steps (Uses w) h = h

pub listed_at : (pairs : List (ℕ × ℕ)) (steps : List ℕ) (place : ℕ) (entry : Entry) → slice_get (map (λ pair. Reach pair.0 pair.1) pairs ++ map Uses steps) place ≡ Some entry → IsListedEntry pairs steps entry
listed_at [] [] place entry e = absurd (cc e)
listed_at [] (w ∷ steps) zero entry e = let same : Uses w ≡ entry = cc e in subst (IsListedEntry [] (w ∷ steps)) same (inl refl)
listed_at [] (w ∷ steps) (suc place) entry e = more_steps w steps entry (listed_at [] steps place entry e)
listed_at (pair ∷ pairs) steps zero entry e = let same : Reach pair.0 pair.1 ≡ entry = cc e in subst (IsListedEntry (pair ∷ pairs) steps) same (inl (refl, refl))
listed_at (pair ∷ pairs) steps (suc place) entry e = more_pairs pair pairs steps entry (listed_at pairs steps place entry e)
