-- Runs of a merge: one atom more, one run more, and what is written with it.
use Rattle.std.proofs.Common.{◌≡◌, ◌⊎◌, inl, inr, ℕ, ◌+◌, ◌-◌, ◌<◌, ◌≤◌, Bool, true, false, List, [], ◌∷◌, ◌++◌, length, length-append, length-drop, append_assoc, take, drop, if◌then◌else◌, refl, sym, ◌∙◌, ap, subst, arith}
use Rattle.std.proofs.lemmas.List.{append-nil, take_rest}
use Rattle.std.specs.Ordering.{ordering_reverse}
use Rattle.std.specs.declared.cmp.Ordering.TheVariants.{Less, Equal, Greater}
use borrow.Rule.Slice.PartMut.{put_mid}
use Rattle.context_model.specs.declared.Form.{Form}
use Rattle.context_model.specs.Atoms.{Atom}
use Rattle.context_model.specs.Framing.{frames, AreWithin}
use Rattle.context_model.specs.GreedyMerge.{greedy_merge}
use Rattle.context_model.specs.Orders.{atom_cmp}
use Rattle.context_model.proofs.Frames.{frames_cancel}
use Rattle.context_model.proofs.FramingLaws.{frames-append}
use Rattle.context_model.proofs.GreedyLaws.{greedy-comm}
use Rattle.context_model.proofs.OrderLaws.{atoms_total, atoms_anti}
use Rattle.context_model.proofs.Rising.{greedy-right_empty, greedy-less, greedy-equal, greedy-greater}
use Rattle.byte_frames.specs.declared.frames.Frames.{Frames}
use Rattle.byte_frames.specs.Frames.{AreFramesOf}
use Rattle.byte_forward.specs.Room.{HoldsBytes}
use Rattle.byte_forward.specs.Runs.{IsRunOf, IsSecondNext, IsRunPassed, IsPassedTo, IsRunBehind, IsMergedTo}
use Rattle.byte_forward.proofs.Rooms.{put_behind, holds_len}

-- ---- runs

-- No run yet.
pub run_none : (a b : List Atom) → IsRunOf [] a b a b
run_none a b = record { split = refl; merged = refl }

-- One run more.
pub run_more : (run more a b a1 b1 a2 b2 : List Atom) → IsRunOf run a b a1 b1 → IsRunOf more a1 b1 a2 b2 → IsRunOf (run ++ more) a b a2 b2
run_more run more a b a1 b1 a2 b2 f g = record {
  split = f.split ∙ ap (λ l. run ++ l) g.split ∙ sym (append_assoc run more a2);
  merged = f.merged ∙ ap (λ l. run ++ l) g.merged ∙ sym (append_assoc run more (greedy_merge atom_cmp a2 b2));
}

-- Runs of one atom.
run_less : (x y : Atom) (a b : List Atom) → atom_cmp x y ≡ Less → IsRunOf (x ∷ []) (x ∷ a) (y ∷ b) a (y ∷ b)
run_less x y a b less = record { split = refl; merged = greedy-less atom_cmp x y a b less }

run_equal : (x y : Atom) (a b : List Atom) → atom_cmp x y ≡ Equal → IsRunOf (x ∷ []) (x ∷ a) (y ∷ b) a b
run_equal x y a b equal = record { split = refl; merged = greedy-equal atom_cmp x y a b equal }

-- The first atom of a list comes next where it comes before that of the other.
run_known : (x : Atom) (a b : List Atom) → IsSecondNext b (x ∷ a) → IsRunOf (x ∷ []) (x ∷ a) b a b
run_known x a [] next = record { split = refl; merged = ap (λ l. x ∷ l) (sym (greedy-right_empty atom_cmp a)) }
run_known x a (y ∷ b) next = run_less x y a b (atoms_total.antisymm x y ∙ ap ordering_reverse next)

-- All of a list, where the other is at its end.
run_all : (a : List Atom) → IsRunOf a a [] [] []
run_all a = record { split = sym (append-nil a); merged = greedy-right_empty atom_cmp a ∙ sym (append-nil a) }

-- ---- up to an atom

module _ (a : List Atom) (other : Atom) (b : List Atom) (behind ahead : Frames) (p : IsRunPassed a other b behind) where
  pub passed_none : p.left ≡ [] → IsPassedTo a other b behind false
  passed_none none = record { run = p.run; left = p.left; frames = p.frames; goes = p.goes; next = λ _. subst (λ left. IsSecondNext left (other ∷ b)) (sym none) tt }

  module _ (x : Atom) (rest : List Atom) (is : p.left ≡ x ∷ rest) (are : AreFramesOf ahead rest) where
    pub passed_less : atom_cmp x other ≡ Less → IsRunPassed a other b ahead
    passed_less less = record {
      run = p.run ++ x ∷ [];
      left = rest;
      frames = are;
      goes = run_more p.run (x ∷ []) a (other ∷ b) p.left (other ∷ b) rest (other ∷ b) p.goes
          (subst (λ left. IsRunOf (x ∷ []) left (other ∷ b) rest (other ∷ b)) (sym is) (run_less x other rest b less));
    }

    pub passed_equal : atom_cmp x other ≡ Equal → IsPassedTo a other b ahead true
    passed_equal equal = record {
      run = p.run ++ x ∷ [];
      left = rest;
      frames = are;
      goes = run_more p.run (x ∷ []) a (other ∷ b) p.left (other ∷ b) rest b p.goes
          (subst (λ left. IsRunOf (x ∷ []) left (other ∷ b) rest b) (sym is) (run_equal x other rest b equal));
      next = λ e. absurd (cc e);
    }

    pub passed_greater : atom_cmp x other ≡ Greater → IsPassedTo a other b behind false
    passed_greater greater = record {
      run = p.run;
      left = p.left;
      frames = p.frames;
      goes = p.goes;
      next = λ _. subst (λ left. IsSecondNext left (other ∷ b)) (sym is) greater;
    }

-- ---- a run

-- Some of the run is past, and no atom of either list but these.
pub record IsOnRun (a b : List Atom) (first second : Frames) : Type 0 where
  pub run : List Atom
  pub a_left : List Atom
  pub b_left : List Atom
  pub first_frames : AreFramesOf first a_left
  pub second_frames : AreFramesOf second b_left
  pub goes : IsRunOf run a b a_left b_left

module _ (a b : List Atom) (first second : Frames) (on : IsOnRun a b first second) where
  -- The second list is at its end, and all that is left of the first belongs to the run.
  pub on_to_end : (end : Frames) → end.rest.now ≡ [] → on.b_left ≡ [] → IsRunBehind a b end second
  on_to_end end empty none = record {
    run = on.run ++ on.a_left;
    a_left = [];
    b_left = [];
    first_frames = (tt, empty);
    second_frames = subst (AreFramesOf second) none on.second_frames;
    goes = run_more on.run on.a_left a b on.a_left [] [] [] (subst (λ left. IsRunOf on.run a b on.a_left left) none on.goes) (run_all on.a_left);
    next = tt;
  }

  module _ (y : Atom) (rest : List Atom) (ahead passed : Frames) (is : on.b_left ≡ y ∷ rest) (are : AreFramesOf ahead rest) where
    -- The atom of the second is past with one of the first.
    pub on_equal : IsPassedTo on.a_left y rest passed true → IsOnRun a b passed ahead
    on_equal p = record {
      run = on.run ++ p.run;
      a_left = p.left;
      b_left = rest;
      first_frames = p.frames;
      second_frames = are;
      goes = run_more on.run p.run a b on.a_left (y ∷ rest) p.left rest (subst (λ left. IsRunOf on.run a b on.a_left left) is on.goes) p.goes;
    }

    -- It comes next.
    pub on_less : IsPassedTo on.a_left y rest passed false → IsRunBehind a b passed second
    on_less p = record {
      run = on.run ++ p.run;
      a_left = p.left;
      b_left = y ∷ rest;
      first_frames = p.frames;
      second_frames = subst (AreFramesOf second) is on.second_frames;
      goes = run_more on.run p.run a b on.a_left (y ∷ rest) p.left (y ∷ rest) (subst (λ left. IsRunOf on.run a b on.a_left left) is on.goes) p.goes;
      next = p.next refl;
    }

-- The first list has no atom: there is no run.
pub behind_none : (a b : List Atom) (first second : Frames) → AreFramesOf first a → AreFramesOf second b → a ≡ [] → IsRunBehind a b first second
behind_none a b first second f g none = record {
  run = [];
  a_left = a;
  b_left = b;
  first_frames = f;
  second_frames = g;
  goes = run_none a b;
  next = subst (λ list. IsSecondNext list b) (sym none) (next b);
}
  where
    next : (b : List Atom) → IsSecondNext [] b
    next [] = tt
    next (y ∷ b) = tt

-- The first atom is known to come next: the run begins with it.
pub behind_known : (a b : List Atom) (x : Atom) (rest : List Atom) (first second : Frames) → a ≡ x ∷ rest → IsSecondNext b a → IsRunBehind rest b first second → IsRunBehind a b first second
behind_known a b x rest first second is next r = record {
  run = x ∷ r.run;
  a_left = r.a_left;
  b_left = r.b_left;
  first_frames = r.first_frames;
  second_frames = r.second_frames;
  goes = run_more (x ∷ []) r.run a b rest b r.a_left r.b_left
      (subst (λ list. IsRunOf (x ∷ []) list b rest b) (sym is) (run_known x rest b (subst (IsSecondNext b) is next))) r.goes;
  next = r.next;
}

-- ---- what is written

-- The bytes of a run are before those that are left.
pub run_bytes : (form : Form) (before behind : Frames) (list run left : List Atom) → before.form ≡ form → behind.form ≡ form → AreFramesOf before list → AreFramesOf behind left
    → list ≡ run ++ left → before.rest.now ≡ frames form run ++ behind.rest.now
run_bytes form before behind list run left same same' f g split =
    f.1 ∙ (λ i. frames (same i) (split i)) ∙ frames-append form run left
    ∙ ap (λ bytes. frames form run ++ bytes) (sym (g.1 ∙ ap (λ width. frames width left) same'))

-- A merge doesn't know which list came first.
pub fits_swapped : (at m n long : ℕ) → at + (m + n) ≤ long → at + (n + m) ≤ long
fits_swapped at m n long fits = omega arith

abbrev pub merged_swapped : (form : Form) (a b : List Atom) (first second : Frames) (at : ℕ) (old new : List ℕ) → IsMergedTo form a b first second at old new → IsMergedTo form a b second first at old new
merged_swapped form a b first second at old new m = record {
  past = m.past;
  a_left = m.b_left;
  b_left = m.a_left;
  first_frames = m.second_frames;
  second_frames = m.first_frames;
  merged = m.merged ∙ ap (λ l. m.past ++ l) (greedy-comm atom_cmp atoms_total m.a_left m.b_left (λ x y _ _ tie. atoms_anti x y tie));
  holds = m.holds;
  fits = fits_swapped at (length first.rest.now) (length second.rest.now) (length old) m.fits;
}

module _ (form : Form) (a b : List Atom) (first second behind other : Frames) (at : ℕ) (old room : List ℕ) (m : IsMergedTo form a b first second at old room)
    (r : IsRunBehind m.a_left m.b_left behind other) (same : first.form ≡ form) (same' : behind.form ≡ form) where
  pub run_split : first.rest.now ≡ frames form r.run ++ behind.rest.now
  run_split = run_bytes form first behind m.a_left r.run r.a_left same same' m.first_frames r.first_frames r.goes.split

  -- There is place for the run.
  pub run_fits : length (frames form r.run) ≤ length (take (length room - at) (drop at room))
  run_fits =
      let l = ap length run_split in
      let k = length-append (frames form r.run) behind.rest.now in
      let whole = holds_len (frames form m.past) old room at m.holds in
      let fits = m.fits in
      let place = ap length (take_rest room at) in
      let left = length-drop at room in
      omega arith

  -- The run is written after what was written before.
  module _ (count : ℕ) (new : List ℕ) (less : length other.rest.now ≤ length second.rest.now)
      (put : (run : List ℕ) → first.rest.now ≡ run ++ behind.rest.now → HoldsBytes run count (take (length room - at) (drop at room)) new) where
    pub run_holds : HoldsBytes (frames form (m.past ++ r.run)) (at + count) old (put_mid at (length room - at) room new)
    run_holds = subst (λ bytes. HoldsBytes bytes (at + count) old (put_mid at (length room - at) room new)) (sym (frames-append form m.past r.run))
        (put_behind (frames form m.past) (frames form r.run) old room new at count m.holds (put (frames form r.run) run_split))

    pub run_place : at + count + (length behind.rest.now + length other.rest.now) ≤ length old
    run_place =
        let written = put (frames form r.run) run_split in
        let l = ap length run_split in
        let k = length-append (frames form r.run) behind.rest.now in
        let fits = m.fits in
        omega (arith, written.0)

    abbrev pub run_written : IsMergedTo form a b behind other (at + count) old (put_mid at (length room - at) room new)
    run_written = record {
      past = m.past ++ r.run;
      a_left = r.a_left;
      b_left = r.b_left;
      first_frames = r.first_frames;
      second_frames = r.second_frames;
      merged = m.merged ∙ ap (λ l. m.past ++ l) r.goes.merged ∙ sym (append_assoc m.past r.run (greedy_merge atom_cmp r.a_left r.b_left));
      holds = run_holds;
      fits = run_place;
    }

-- Nothing is left of the second list: what is left of the first ends the merge.
module _ (form : Form) (a b : List Atom) (first second : Frames) (at : ℕ) (old room : List ℕ) (m : IsMergedTo form a b first second at old room) (same : first.form ≡ form)
    (none : second.rest.now ≡ []) where
  pub last_fits : length first.rest.now ≤ length (take (length room - at) (drop at room))
  last_fits =
      let whole = holds_len (frames form m.past) old room at m.holds in
      let fits = m.fits in
      let place = ap length (take_rest room at) in
      let left = length-drop at room in
      omega arith

  all_past : greedy_merge atom_cmp a b ≡ m.past ++ m.a_left
  all_past =
      let ended : m.b_left ≡ [] = frames_cancel second.form m.b_left [] m.second_frames.0 tt (sym m.second_frames.1 ∙ none) in
      m.merged ∙ ap (λ l. m.past ++ l) (ap (greedy_merge atom_cmp m.a_left) ended ∙ greedy-right_empty atom_cmp m.a_left)

  pub last_written : (count : ℕ) (new : List ℕ) → HoldsBytes first.rest.now count (take (length room - at) (drop at room)) new
      → HoldsBytes (frames form (greedy_merge atom_cmp a b)) (at + count) old (put_mid at (length room - at) room new)
  last_written count new put =
      let left : first.rest.now ≡ frames form m.a_left = m.first_frames.1 ∙ ap (λ width. frames width m.a_left) same in
      let all = put_behind (frames form m.past) first.rest.now old room new at count m.holds put in
      let whole : frames form m.past ++ first.rest.now ≡ frames form (greedy_merge atom_cmp a b) =
      ap (λ bytes. frames form m.past ++ bytes) left ∙ sym (frames-append form m.past m.a_left) ∙ ap (frames form) (sym all_past) in
      subst (λ bytes. HoldsBytes bytes (at + count) old (put_mid at (length room - at) room new)) whole all
