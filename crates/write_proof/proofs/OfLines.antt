-- The text of good lines, and their entries by kind.
use Rattle.std.proofs.Common.{◌≡◌, ◌⊎◌, inl, inr, ℕ, zero, suc, ◌+◌, ◌<◌, ◌≤◌, List, [], ◌∷◌, ◌++◌, map, Option, Some, None, refl, sym, ap, ◌∙◌, subst, arith}
use Rattle.std.specs.List.{flat_map, slice_get}
use Rattle.std.specs.Ordering.{nat_cmp}
use Rattle.std.specs.declared.cmp.Ordering.TheVariants.{Less}
use Rattle.std.proofs.lemmas.Bool.{cases_lt}
use Rattle.std.proofs.lemmas.Bool.Decides.{nat_tests}
use Rattle.context_model.specs.KeyedMerge.{keys_of, IsAt}
use Rattle.context_model.specs.Orders.{Rises}
use Rattle.bag_model.specs.Shapes.{Nodes}
use Rattle.text_lines.specs.FedLines.{fed_lines}
use Rattle.text_lines.specs.Lines.{Line, numbered}
use Rattle.text_lines.specs.Readings.{AllSay, NoneOf}
use Rattle.text_lines.proofs.FedLines.{whole, fed_whole}
use Rattle.trace_model.specs.Graphs.{Graph}
use Rattle.write_proof.specs.Entries.{Entry, Why, ValueText, Reach, Uses, entry_line, lines_in}
use Rattle.write_proof.specs.LineRules.{last_of, MayFollow, IsNoMore, BreaksAlone, rules_alone, certificate_lines}

-- ---- the text

module _ (table : Nodes) (graph : Graph) where
  lines_whole : (earlier : List Entry) (k : ℕ) (lines : List (List ℕ)) (said : List Entry) → AllSay (certificate_lines table graph) earlier (numbered k lines) said
      → whole lines ≡ flat_map entry_line said
  lines_whole earlier k [] [] all = refl
  lines_whole earlier k [] (a ∷ said) all = absurd all
  lines_whole earlier k (line ∷ lines) [] all = absurd all
  lines_whole earlier k (line ∷ lines) (a ∷ said) all =
      let own : line ≡ entry_line a = ((all.0).0).1 in
      let more = lines_whole (earlier ++ a ∷ []) (k + 1) lines said all.1 in
      λ i. own i ++ more i

  -- A certificate whose lines say these entries is the text of the entries.
  pub said_whole : (certificate : List ℕ) (said : List Entry) → AllSay (certificate_lines table graph) [] (lines_in certificate) said → certificate ≡ flat_map entry_line said
  said_whole certificate said all = sym (fed_whole certificate) ∙ lines_whole [] 1 (fed_lines certificate) said all

-- ---- the kinds of the entries

-- Each entry may follow the one before it, and isn't below one of its kind there. The first of them comes after this one.
abbrev pub Follow : Option Entry → List Entry → Type 0
Follow last [] = Unit {0}
Follow last (a ∷ said) = MayFollow last a × (IsNoMore last a → ⊥) × Follow (Some a) said

last_push : (earlier : List Entry) (a : Entry) → last_of (earlier ++ a ∷ []) ≡ Some a
last_push [] a = refl
last_push (b ∷ []) a = refl
last_push (b ∷ c ∷ earlier) a = last_push (c ∷ earlier) a

no_step : (last : Option Entry) (n : ℕ) (path : List ℕ) → IsNoMore last (Why n path) → ⊥
no_step None n path m = m
no_step (Some (Why k way)) n path m = m
no_step (Some (ValueText text)) n path m = m
no_step (Some (Reach v other)) n path m = m
no_step (Some (Uses v)) n path m = m

no_text : (last : Option Entry) (text : List ℕ) → IsNoMore last (ValueText text) → ⊥
no_text None text m = m
no_text (Some (Why k way)) text m = m
no_text (Some (ValueText own)) text m = m
no_text (Some (Reach v other)) text m = m
no_text (Some (Uses v)) text m = m

module _ (table : Nodes) (graph : Graph) where
  no_more : (earlier : List Entry) (a : Entry) → NoneOf (BreaksAlone table graph earlier a) rules_alone → IsNoMore (last_of earlier) a → ⊥
  no_more earlier (Why n path) none m = no_step (last_of earlier) n path m
  no_more earlier (ValueText text) none m = no_text (last_of earlier) text m
  no_more earlier (Reach w child) none m = none.1.1.0 (inl m)
  no_more earlier (Uses w) none m = none.1.1.0 (inl m)

  -- What good lines say follows one on another.
  pub said_follow : (earlier : List Entry) (lines : List Line) (said : List Entry) → AllSay (certificate_lines table graph) earlier lines said → Follow (last_of earlier) said
  said_follow earlier [] [] all = tt
  said_follow earlier [] (a ∷ said) all = absurd all
  said_follow earlier (line ∷ lines) [] all = absurd all
  said_follow earlier (line ∷ lines) (a ∷ said) all = (
    (all.0).1,
    no_more earlier a (all.0).2,
    subst (λ last. Follow last said) (last_push earlier a) (said_follow (earlier ++ a ∷ []) lines said all.1),
  )

less : (v w : ℕ) → (w ≤ v → ⊥) → nat_cmp v w ≡ Less
less v w above = by (cases_lt v w)
  where
    by : (v < w) ⊎ (w ≤ v) → nat_cmp v w ≡ Less
    by (inl l) = grind (arith, nat_tests, l)
    by (inr m) = absurd (above m)

-- Entries of steps that reach, and then of used steps. The first steps are before those that reach.
pub record ByKind (first : List ℕ) (said : List Entry) : Type 0 where
  pub pairs : List (ℕ × ℕ)
  pub used : List ℕ
  pub is : said ≡ map (λ pair. Reach pair.0 pair.1) pairs ++ map Uses used
  pub rises : Rises nat_cmp (first ++ keys_of pairs)
  pub used_rise : Rises nat_cmp used

after_use : (w : ℕ) (said : List Entry) → Follow (Some (Uses w)) said → (steps : List ℕ) × (said ≡ map Uses steps) × Rises nat_cmp (w ∷ steps)
after_use w [] f = ([], refl, tt)
after_use w (Why n path ∷ said) f = absurd f.0
after_use w (ValueText text ∷ said) f = absurd f.0
after_use w (Reach v child ∷ said) f = absurd f.0
after_use w (Uses v ∷ said) f =
    let r = after_use v said f.2 in
    (v ∷ r.0, ap (λ (l : List Entry). Uses v ∷ l) r.1, (less w v f.1, r.2))

uses_alone : (v : ℕ) (said : List Entry) → Follow (Some (Uses v)) said → ByKind [] (Uses v ∷ said)
uses_alone v said f =
    let r = after_use v said f in
    record { pairs = []; used = v ∷ r.0; is = ap (λ (l : List Entry). Uses v ∷ l) r.1; rises = tt; used_rise = r.2 }

after_reach : (w child : ℕ) (said : List Entry) → Follow (Some (Reach w child)) said → ByKind (w ∷ []) said
after_reach w child [] f = record { pairs = []; used = []; is = refl; rises = tt; used_rise = tt }
after_reach w child (Why n path ∷ said) f = absurd f.0
after_reach w child (ValueText text ∷ said) f = absurd f.0
after_reach w child (Reach v other ∷ said) f =
    let r = after_reach v other said f.2 in
    record { pairs = (v, other) ∷ r.pairs; used = r.used; is = ap (λ (l : List Entry). Reach v other ∷ l) r.is; rises = (less w v f.1, r.rises); used_rise = r.used_rise }
after_reach w child (Uses v ∷ said) f =
    let r = after_use v said f.2 in
    record { pairs = []; used = v ∷ r.0; is = ap (λ (l : List Entry). Uses v ∷ l) r.1; rises = tt; used_rise = r.2 }

-- After the text of a value come steps that reach and then steps that are used, both rising.
pub after_text : (text : List ℕ) (said : List Entry) → Follow (Some (ValueText text)) said → ByKind [] said
after_text text [] f = record { pairs = []; used = []; is = refl; rises = tt; used_rise = tt }
after_text text (Why n path ∷ said) f = absurd f.0
after_text text (ValueText own ∷ said) f = absurd f.0
after_text text (Reach v other ∷ said) f =
    let r = after_reach v other said f.2 in
    record { pairs = (v, other) ∷ r.pairs; used = r.used; is = ap (λ (l : List Entry). Reach v other ∷ l) r.is; rises = r.rises; used_rise = r.used_rise }
after_text text (Uses v ∷ said) f = uses_alone v said f.2

-- Each pair is the entry at some place.
pub pair_at : (pairs : List (ℕ × ℕ)) (steps : List ℕ) (w child : ℕ) → IsAt w child pairs
    → (place : ℕ) × (slice_get (map (λ pair. Reach pair.0 pair.1) pairs ++ map Uses steps) place ≡ Some (Reach w child))
pair_at [] steps w child i = absurd i
pair_at (pair ∷ pairs) steps w child (inl e) =
    let own : pair.0 ≡ w = sym e.0 in
    let other : pair.1 ≡ child = sym e.1 in
    (zero, λ i. Some (Reach (own i) (other i)))
pair_at (pair ∷ pairs) steps w child (inr j) = let r = pair_at pairs steps w child j in (suc r.0, r.1)
