-- What is read of the contexts of a request.
use Rattle.std.proofs.Common.{◌≡◌, inl, ℕ, List, [], ◌∷◌, ◌++◌, refl, subst}
use Rattle.context_model.specs.declared.Form.{Form}
use Rattle.context_model.specs.Atoms.{Atom}
use Rattle.context_model.specs.Ended.{HasMarker, IsEnded, field_path}
use Rattle.context_model.specs.Orders.{Path}
use Rattle.context_model.specs.Trimmed.{trimmed}
use Rattle.bag_model.specs.Encodings.{IsEncoding}
use Rattle.bag_model.specs.Joins.{join, IsValueBelow}
use Rattle.bag_model.specs.Readings.{PathsOf, Reads, ReadsEach, SaysValues}
use Rattle.bag_model.specs.Shapes.{Nodes}
use Rattle.bag_model.specs.Slots.{SlotAt, slots_of}
use Rattle.bag_model.specs.SlotValues.{HasSlot, HasSlotValue, SaysSlot, only, slot_values}
use Rattle.bag_model.specs.Tables.{IsTable}
use Rattle.bag_model.specs.Typed.{AreTyped}
use Rattle.bag_model.specs.Values.{Value, Values}
use Rattle.bag_model.specs.Views.{View}
use Rattle.bag_model.proofs.Covering.{Reads-covers, ReadsEach-covers}
use Rattle.bag_model.proofs.EachSlot.{ReadsSlot, each_slot-at, ReadsEach-slots}
use Rattle.bag_model.proofs.MergeReadingLaws.{PathsOf-headers}
use Rattle.bag_model.proofs.PathSets.{Both}
use Rattle.bag_model.proofs.SlotsBelow.{get_in}
use Rattle.bag_model.proofs.Unions.{Reads-union}
use Rattle.bag_model.proofs.Uniqueness.{Reads-unique, ReadsEach-unique}
use Rattle.trace_model.specs.Runs.{Lists}
use Rattle.trace_model.specs.Truth.{join_all}
use Rattle.trace_model.proofs.SlotParts.{slots_covered, slot_typed}
use Rattle.keep_calls.specs.Laws.{NothingElseLeaves, CutsAreTold}
use Rattle.keep_calls.proofs.ReadAlike.{Reads-says}
use Rattle.step_calls.specs.Excerpts.{IsExcerpt}
use Rattle.step_calls.specs.Laws.{lost, ExcerptsAreViews, ExcerptsWriteAlike}
use Rattle.step_calls.specs.Lines.{Write, AreEncodings}
use Rattle.step_calls.specs.Updates.{IsUpdateOf}
use Rattle.request_model.specs.Contributions.{Contribution, Wrote, Received, IsWriteTo, AreWritesTo, ContributionsSay}
use Rattle.request_model.specs.Contexts.{ContextsHold, none, both, missing, received, joined, updated, kept}
use Rattle.request_model.specs.Requests.{RequestsAreFaithful}
use Rattle.request_model.proofs.Brought.{Brought, brought_headers, brought_typed, brought_reads, adds_each}
use Rattle.request_model.proofs.SaidAlike.{both_alike}
use Rattle.request_model.proofs.Told.{Told, AreTold, one_told, told_one, told_append, told_merge, told_normal, told_trimmed, told_kept, told_written, told_received, told_missing}

module _ (views : ExcerptsAreViews) (alike : ExcerptsWriteAlike) (cuts : CutsAreTold) (only_these : NothingElseLeaves) (nodes : Nodes) (table : IsTable nodes) where
  -- the encoding of a write under an excerpt tells of what it adds
  write_told : (excerpt : Nodes) (write : Write) (slot : ℕ) (v : Value) (list : List Atom) → IsTable excerpt → IsWriteTo nodes excerpt write slot v
      → IsEncoding excerpt (only excerpt write.0 write.1) list → Told nodes list (Wrote slot v ∷ [])
  write_told excerpt write slot v list fits w e = told_written nodes slot v list (w.at, w.there, w.shape)
      ((alike nodes excerpt slot write.0 w.at w.also v list table fits w.there w.known w.like w.shape).1 (subst (λ u. IsEncoding excerpt (only excerpt write.0 u) list) w.same e))

  writes_told : (excerpt : Nodes) (writes : List Write) (contributions : List Contribution) (lists : Lists) → IsTable excerpt → AreWritesTo nodes excerpt writes contributions
      → AreEncodings excerpt writes lists → AreTold nodes lists contributions
  writes_told excerpt [] [] [] fits w e = refl
  writes_told excerpt [] [] (list ∷ lists) fits w e = absurd e
  writes_told excerpt [] (one ∷ contributions) lists fits w e = absurd w
  writes_told excerpt (write ∷ writes) [] lists fits w e = absurd w
  writes_told excerpt (write ∷ writes) (Wrote slot v ∷ contributions) [] fits w e = absurd e
  writes_told excerpt (write ∷ writes) (Wrote slot v ∷ contributions) (list ∷ lists) fits w e =
      (Wrote slot v ∷ [], contributions, refl, write_told excerpt write slot v list fits w.0 e.0, writes_told excerpt writes contributions lists fits w.1 e.1)
  writes_told excerpt (write ∷ writes) (Received own ∷ contributions) lists fits w e = absurd w

  update_told : (form : Form) (budget : ℕ) (view : View) (excerpt : Nodes) (lists : Lists) (contributions written : List Contribution) (writes : List Write) (list : List Atom)
      → AreTold nodes lists contributions → IsExcerpt nodes view excerpt → IsTable excerpt → AreWritesTo nodes excerpt writes written → IsUpdateOf excerpt lists writes list
      → Told nodes (trimmed form list budget) (contributions ++ written)
  update_told form budget view excerpt lists contributions written writes list t of fits w u =
      let all = told_append nodes lists u.written contributions written t (writes_told excerpt writes written u.written fits w u.encodings) in
      let merged = told_merge nodes (lists ++ u.written) (contributions ++ written) (u.normal).merged all (u.normal).merge in
      told_trimmed nodes form list budget (contributions ++ written)
      (told_normal nodes view (u.normal).merged list (contributions ++ written) table ((views nodes view excerpt (u.normal).merged list of).1 (u.normal).normal) merged)

  -- Contexts of a request tell of the additions on the ways to them.
  holds_told : (lists : Lists) (contributions : List Contribution) → ContextsHold nodes lists contributions → AreTold nodes lists contributions
  holds_told lists contributions none = refl
  holds_told lists contributions (both list rest own others h g) = (own, others, refl, told_one nodes list own (holds_told (list ∷ []) own h), holds_told rest others g)
  holds_told lists contributions (missing own s) = one_told nodes lost own (told_missing nodes own s)
  holds_told lists contributions (received list s) = one_told nodes list (Received list ∷ []) (told_received nodes list s)
  holds_told lists contributions (joined form budget parts own list h m) =
      one_told nodes (trimmed form list budget) own (told_trimmed nodes form list budget own (told_merge nodes parts own list (holds_told parts own h) m))
  holds_told lists contributions (updated form budget view excerpt parts own written writes list h of fits w u) =
      one_told nodes (trimmed form list budget) (own ++ written) (update_told form budget view excerpt parts own written writes list (holds_told parts own h) of fits w u)
  holds_told lists contributions (kept form budget table own list left h k) =
      one_told nodes (trimmed form left budget) own (told_trimmed nodes form left budget own
      (told_kept cuts only_these nodes table list left own k (told_one nodes list own (holds_told (list ∷ []) own h))))

  made_told : (list : List Atom) (contributions : List Contribution) → ContextsHold nodes (list ∷ []) contributions → Told nodes list contributions
  made_told list contributions h = told_one nodes list contributions (holds_told (list ∷ []) contributions h)

  -- ---- what is read

  module _ (list : List Atom) (contributions : List Contribution) (said : List Values) (h : ContextsHold nodes (list ∷ []) contributions) (says : ContributionsSay nodes contributions said) where
    abbrev arriving : Path → Type 0
    arriving = Brought nodes contributions

    told : Told nodes list contributions
    told = made_told list contributions h

    typed : AreTyped nodes arriving []
    typed = brought_typed nodes table contributions (told).sound

    reads : ReadsEach nodes arriving [] (join_all nodes said)
    reads = brought_reads nodes table contributions said (told).sound says

    slot_all : (slot : ℕ) (at : SlotAt) → HasSlot nodes slot at → (v : Value) × HasSlotValue nodes (join_all nodes said) slot v × Reads at.shape arriving (field_path at.numbers) v
    slot_all slot at there = each_slot-at (ReadsSlot arriving []) 0 (slots_of nodes) (slot_values nodes (join_all nodes said)) slot at (ReadsEach-slots nodes arriving [] (join_all nodes said) 0 (reads)) there

    exact_there : (slot : ℕ) (at : SlotAt) (v : Value) → HasSlot nodes slot at → IsEnded list (field_path at.numbers) → SaysSlot list at v → HasSlotValue nodes (join_all nodes said) slot v
    exact_there slot at v there ended r =
        let t = slot_all slot at there in
        let i = get_in (slots_of nodes) slot at there in
        let own = Reads-covers at.shape (PathsOf list) arriving (field_path at.numbers) v (slot_typed nodes arriving [] at i typed) ((told).covers at i ended) r in
        subst (HasSlotValue nodes (join_all nodes said) slot) (Reads-unique at.shape arriving (field_path at.numbers) t.0 v t.2 own) t.1

    below_there : (slot : ℕ) (at : SlotAt) (v : Value) → HasSlot nodes slot at → SaysSlot list at v → (all : Value) × HasSlotValue nodes (join_all nodes said) slot all × IsValueBelow v all
    below_there slot at v there r = by (slot_all slot at there)
      where
        by : (all : Value) × HasSlotValue nodes (join_all nodes said) slot all × Reads at.shape arriving (field_path at.numbers) all
            → (all : Value) × HasSlotValue nodes (join_all nodes said) slot all × IsValueBelow v all
        by t = (
          t.0,
          t.1,
          Reads-unique at.shape arriving (field_path at.numbers) (join v t.0) t.0
              (Reads-says at.shape (Both (PathsOf list) arriving) arriving (field_path at.numbers) (join v t.0) (both_alike (field_path at.numbers) (PathsOf list) arriving (told).arrived)
              (Reads-union at.shape (PathsOf list) arriving (field_path at.numbers) v t.0 (PathsOf-headers list) (brought_headers nodes contributions) r t.2))
              t.2,
        )

    whole_there : ¬ (HasMarker list) → (vs : Values) → SaysValues nodes list vs → vs ≡ join_all nodes said
    whole_there unmarked vs r =
        let own = ReadsEach-covers nodes (PathsOf list) arriving [] vs typed (slots_covered nodes (PathsOf list) arriving [] (λ at i. (told).covers at i (inl unmarked))) r in
        ReadsEach-unique nodes arriving [] vs (join_all nodes said) own reads

pub requests_are_faithful : ExcerptsAreViews → ExcerptsWriteAlike → CutsAreTold → NothingElseLeaves → RequestsAreFaithful
requests_are_faithful views alike cuts only_these = record {
  well_formed = λ nodes list said m. (made_told views alike cuts only_these nodes m.table list m.contributions m.holds).well_formed;
  exact = λ nodes list said slot at v m there ended r. exact_there views alike cuts only_these nodes m.table list m.contributions said m.holds m.says slot at v there ended r;
  below = λ nodes list said slot at v m there r. below_there views alike cuts only_these nodes m.table list m.contributions said m.holds m.says slot at v there r;
  whole = λ nodes list said vs m unmarked r. whole_there views alike cuts only_these nodes m.table list m.contributions said m.holds m.says unmarked vs r;
  says = λ nodes list contributions table h. adds_each nodes contributions (made_told views alike cuts only_these nodes table list contributions h).sound;
}
