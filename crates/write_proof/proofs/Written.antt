-- A certificate that is written part by part.
use Rattle.std.proofs.Common.{◌≡◌, inl, inr, ℕ, ◌<◌, List, [], ◌∷◌, ◌++◌, length, map, sym, ap, ◌∙◌, subst, append_assoc, arith}
use Rattle.std.specs.List.{flat_map}
use Rattle.std.specs.Ordering.{nat_cmp}
use Rattle.std.proofs.lemmas.List.Concat.{flat_map-append}
use Rattle.context_model.specs.Atoms.{Atom}
use Rattle.context_model.specs.KeyedMerge.{keys_of}
use Rattle.context_model.specs.Orders.{IsIn, Rises}
use Rattle.bag_model.specs.Shapes.{Nodes}
use Rattle.bag_model.specs.Slots.{SlotAt, slots_of, name_path}
use Rattle.bag_model.specs.SlotValues.{HasSlot, SaysSlot}
use Rattle.bag_model.specs.Values.{Value}
use Rattle.text_model.specs.ValueTexts.{value_text}
use Rattle.trace_model.specs.Graphs.{Graph, IsGraph, IsRecorded}
use Rattle.trace_model.specs.Runs.{Lists, list_at}
use Rattle.write_proof.specs.Certificates.{AreReachPairs, IsCertificate, AddsWhy, AddsValue}
use Rattle.write_proof.specs.Entries.{Entry, Why, ValueText, Reach, Uses, entry_line}
use Rattle.write_proof.specs.Used.{AreNewsAt}
use Rattle.write_proof.proofs.BelowCalls.{place_some}
use Rattle.write_proof.proofs.Complete.{reaches_no_later}
use Rattle.write_proof.proofs.Newly.{news_used}
use Rattle.write_proof.proofs.Reached.{in_push, rises_push}

-- ---- the steps on the way, the last among them

module _ (graph : Graph) (sound : IsGraph graph) (n : ℕ) (pairs : List (ℕ × ℕ)) (reach : AreReachPairs graph n pairs) where
  key_less : (w : ℕ) → IsIn w (keys_of pairs) → w < n
  key_less w i =
      let r = (reach.all w).0 i in
      let last = reaches_no_later graph sound w n r.1 in
      let other = r.0 in
      omega (arith, last, other)

  pub way_rises : Rises nat_cmp (keys_of pairs ++ n ∷ [])
  way_rises = rises_push (keys_of pairs) n reach.rises key_less

  pub way_within : n < length graph.steps → (w : ℕ) → IsIn w (keys_of pairs ++ n ∷ []) → w < length graph.steps
  way_within within w i = elim (in_push w n (keys_of pairs) i) [ inl j ↦ (let l = key_less w j in omega (arith, l, within)) | inr e ↦ omega (arith, e, within) ]

-- ---- the text

four_parts : (a b : List ℕ) (first more : List Entry) → ((a ++ b) ++ flat_map entry_line first) ++ flat_map entry_line more ≡ a ++ (b ++ flat_map entry_line (first ++ more))
four_parts a b first more =
    append_assoc (a ++ b) (flat_map entry_line first) (flat_map entry_line more)
    ∙ append_assoc a b (flat_map entry_line first ++ flat_map entry_line more)
    ∙ ap (λ (l : List ℕ). a ++ (b ++ l)) (sym (flat_map-append entry_line first more))

pub written : (table : Nodes) (graph : Graph) (lists : Lists) (n slot : ℕ) (list : List Atom) (pairs : List (ℕ × ℕ)) (steps empty one two three text : List ℕ) → IsRecorded table graph → slot < length (slots_of table)
    → AreReachPairs graph n pairs → AreNewsAt table graph slot (keys_of pairs ++ n ∷ []) steps → list ≡ list_at lists n → empty ≡ [] → AddsWhy table n slot empty one → AddsValue table list slot one two
    → three ≡ two ++ flat_map entry_line (map (λ pair. Reach pair.0 pair.1) pairs) → text ≡ three ++ flat_map entry_line (map Uses steps) → IsCertificate table graph lists n slot text
written table graph lists n slot list pairs steps empty one two three text recorded within reach news same none first second third last = by (place_some (slots_of table) slot within)
  where
    by : (at : SlotAt) × HasSlot table slot at → IsCertificate table graph lists n slot text
    by s = told s.0 s.1 (second s.0 s.1)
      where
        told : (at : SlotAt) → HasSlot table slot at → (v : Value) × SaysSlot list at v × (two ≡ one ++ entry_line (ValueText (value_text at.shape v))) → IsCertificate table graph lists n slot text
        told at there v = record {
          at = at;
          there = there;
          value = v.0;
          says = subst (λ (l : List Atom). SaysSlot l at v.0) same v.1;
          pairs = pairs;
          reach = reach;
          steps = steps;
          uses = news_used table graph recorded slot at there n pairs steps reach (news at there);
          is = last ∙ ap (λ (l : List ℕ). l ++ flat_map entry_line (map Uses steps)) (third ∙ ap (λ (l : List ℕ). l ++ flat_map entry_line (map (λ pair. Reach pair.0 pair.1) pairs)) (v.2 ∙ ap (λ (l : List ℕ). l ++ entry_line (ValueText (value_text at.shape v.0))) begun))
              ∙ four_parts (entry_line (Why n (name_path at))) (entry_line (ValueText (value_text at.shape v.0))) (map (λ pair. Reach pair.0 pair.1) pairs) (map Uses steps);
        }
          where
            begun : one ≡ entry_line (Why n (name_path at))
            begun = first at there ∙ ap (λ (l : List ℕ). l ++ entry_line (Why n (name_path at))) none
