-- Atoms that are in one buffer, where each follows its length.
use Rattle.std.proofs.Common.{◌≡◌, ℕ, zero, suc, ◌+◌, ◌-◌, ◌<◌, ◌≤◌, List, [], ◌∷◌, ◌++◌, length, map, take, drop, set, get_or, slice_range, inl, inr, refl, sym, ◌∙◌, ap, subst, append_assoc, length-append, arith}
use Rattle.std.proofs.lemmas.List.{map-append, take-append-drop, take-append-le, take_at, drop_at, take-take, take-map, length-take-le, take_more, set_at, get_or-take, get_or-map}
use Rattle.std.proofs.lemmas.List.{length-map, length-set, length-take, length-drop}
use Rattle.std.proofs.lemmas.Slice.{between_is}
use Rattle.context_model.specs.Atoms.{Atom, AreAtoms}
use Rattle.context_model.specs.declared.Form.TheVariants.{One}
use Rattle.context_model.specs.Framing.{base_128, length_code, frame, frames}
use Rattle.context_model.proofs.FramingLaws.{frames-append, frames-more, frames_len-append, frames_len-front, length_code-some}
use Rattle.atom_list.specs.Starts.{first_atom, atom_framed_at, atoms_at, IsStart, AreStarts, BeginsFrame, starts_from, BeginsWithFrames, IsFlat, IsPieceOf}
use Rattle.atom_list.proofs.Frames.{first_atom-framed, short_atom}

-- ---- the bytes of prefixes

-- One atom more.
frames_len-more : (list : List Atom) (n : ℕ) → n < length list → length (frames One (take (n + 1) list)) ≡ length (frames One (take n list)) + length (frame One (get_or list n []))
frames_len-more list n within = ap length (frames-more One list n within) ∙ length-append (frames One (take n list)) (frame One (get_or list n []))

-- It is at least one byte more.
frames_len-grows : (list : List Atom) (n : ℕ) → n < length list → length (frames One (take n list)) + 1 ≤ length (frames One (take (n + 1) list))
frames_len-grows list n within =
    let atom = get_or list n [] in
    omega (arith, frames_len-more list n within, length-append (length_code One (length atom)) atom, length_code-some One (length atom))

-- A shorter prefix has no more bytes than a longer one.
frames_len-take-le : (m n : ℕ) (list : List Atom) → m ≤ n → length (frames One (take m list)) ≤ length (frames One (take n list))
frames_len-take-le m n list below =
    subst (λ front. length (frames One front) ≤ length (frames One (take n list))) (take-take m n list below) (frames_len-front One m (take n list))

-- ---- starts

pub AreAtoms-starts : (bytes starts : List ℕ) → AreStarts bytes starts → AreAtoms (atoms_at bytes starts)
AreAtoms-starts bytes [] fit = tt
AreAtoms-starts bytes (start ∷ starts) fit = (short_atom bytes start fit.0, AreAtoms-starts bytes starts fit.1)

pub AreStarts-take : (bytes : List ℕ) (n : ℕ) (starts : List ℕ) → AreStarts bytes starts → AreStarts bytes (take n starts)
AreStarts-take bytes zero starts fit = tt
AreStarts-take bytes (suc n) [] fit = tt
AreStarts-take bytes (suc n) (start ∷ starts) fit = (fit.0, AreStarts-take bytes n starts fit.1)

pub AreStarts-set : (bytes : List ℕ) (i start : ℕ) (starts : List ℕ) → IsStart bytes start → AreStarts bytes starts → AreStarts bytes (set starts i start)
AreStarts-set bytes i start [] one fit = tt
AreStarts-set bytes zero start (x ∷ starts) one fit = (one, fit.1)
AreStarts-set bytes (suc i) start (x ∷ starts) one fit = (fit.0, AreStarts-set bytes i start starts one fit.1)

pub starts_at : (bytes starts : List ℕ) (k d : ℕ) → AreStarts bytes starts → k < length starts → IsStart bytes (get_or starts k d)
starts_at bytes [] k d fit below = absurd (omega arith)
starts_at bytes (start ∷ starts) zero d fit below = fit.0
starts_at bytes (start ∷ starts) (suc k) d fit below = starts_at bytes starts k d fit.1 (omega arith)

-- ---- the starts of frames one after the other

-- Where the frames after the first begin.
frames_len-first : (at : ℕ) (x : Atom) (list : List Atom) → at + length (frame One x) + length (frames One list) ≡ at + length (frames One (x ∷ list))
frames_len-first at x list =
    let size : length (frames One (x ∷ list)) ≡ length (frame One x) + length (frames One list) = length-append (frame One x) (frames One list) in
    omega arith

pub starts_from-append : (at : ℕ) (xs ys : List Atom) → starts_from at (xs ++ ys) ≡ starts_from at xs ++ starts_from (at + length (frames One xs)) ys
starts_from-append at [] ys = let e : at ≡ at + 0 = omega arith in ap (λ n. starts_from n ys) e
starts_from-append at (x ∷ xs) ys =
    let next = at + length (frame One x) in
    ap (λ v. at ∷ v) (starts_from-append next xs ys ∙ ap (λ n. starts_from next xs ++ starts_from n ys) (frames_len-first at x xs))

pub starts_from-take : (n at : ℕ) (list : List Atom) → take n (starts_from at list) ≡ starts_from at (take n list)
starts_from-take zero at list = refl
starts_from-take (suc n) at [] = refl
starts_from-take (suc n) at (x ∷ list) = ap (λ v. at ∷ v) (starts_from-take n (at + length (frame One x)) list)

pub length-starts_from : (at : ℕ) (list : List Atom) → length (starts_from at list) ≡ length list
length-starts_from at [] = refl
length-starts_from at (x ∷ list) = ap (λ n. suc n) (length-starts_from (at + length (frame One x)) list)

-- The part of a list that is between two others.
pub middle : {X : Type 0} (before part after : List X) (start end : ℕ) → start ≡ length before → end ≡ length before + length part → slice_range (before ++ (part ++ after)) start end ≡ part
middle before part after start end e f =
    let n : length part ≡ end - start = omega arith in
    ap (take (end - start)) (drop_at before (part ++ after) start (sym e)) ∙ take_at part after (end - start) n

-- What follows the bytes before a frame, and the same bytes with the frame among those before.
behind : (before after : List ℕ) (at : ℕ) (x : Atom) (list : List Atom) → at ≡ length before → drop at (before ++ (frames One (x ∷ list) ++ after)) ≡ frame One x ++ (frames One list ++ after)
behind before after at x list e = drop_at before (frames One (x ∷ list) ++ after) at (sym e) ∙ append_assoc (frame One x) (frames One list) after

further : (before after : List ℕ) (x : Atom) (list : List Atom) → before ++ (frames One (x ∷ list) ++ after) ≡ (before ++ frame One x) ++ (frames One list ++ after)
further before after x list = ap (λ v. before ++ v) (append_assoc (frame One x) (frames One list) after) ∙ sym (append_assoc before (frame One x) (frames One list ++ after))

pub AreStarts-from : (before after : List ℕ) (at : ℕ) (list : List Atom) → at ≡ length before → AreAtoms list → AreStarts (before ++ (frames One list ++ after)) (starts_from at list)
AreStarts-from before after at [] e short = tt
AreStarts-from before after at (x ∷ list) e short =
    let next : at + length (frame One x) ≡ length (before ++ frame One x) = omega (arith, length-append before (frame One x)) in (
      inr (x, frames One list ++ after, short.0, behind before after at x list e),
      subst (λ v. AreStarts v (starts_from (at + length (frame One x)) list)) (sym (further before after x list)) (AreStarts-from (before ++ frame One x) after (at + length (frame One x)) list next short.1),
    )

-- The starts of frames are those of the atoms.
pub atoms_at-from : (before after : List ℕ) (at : ℕ) (list : List Atom) → at ≡ length before → AreAtoms list → atoms_at (before ++ (frames One list ++ after)) (starts_from at list) ≡ list
atoms_at-from before after at [] e short = refl
atoms_at-from before after at (x ∷ list) e short =
    let next : at + length (frame One x) ≡ length (before ++ frame One x) = omega (arith, length-append before (frame One x)) in
    let head : atom_framed_at (before ++ (frames One (x ∷ list) ++ after)) at ≡ x = ap first_atom (behind before after at x list e) ∙ first_atom-framed x (frames One list ++ after) short.0 in
    let tail : atoms_at (before ++ (frames One (x ∷ list) ++ after)) (starts_from (at + length (frame One x)) list) ≡ list =
    ap (λ v. atoms_at v (starts_from (at + length (frame One x)) list)) (further before after x list) ∙ atoms_at-from (before ++ frame One x) after (at + length (frame One x)) list next short.1 in
    λ i. head i ∷ tail i

-- ---- a list whose first atoms are frames one after the other

-- A buffer that begins with frames begins with fewer of them.
pub begins_with_fewer : (n : ℕ) (bytes starts : List ℕ) (front : List Atom) → BeginsWithFrames bytes starts front → BeginsWithFrames bytes (take n starts) (take n front)
begins_with_fewer n bytes starts front begins =
    let all : frames One front ≡ frames One (take n front) ++ frames One (drop n front) = ap (frames One) (sym (take-append-drop n front)) ∙ frames-append One (take n front) (drop n front) in
    let size = frames_len-append One (take n front) (drop n front) in
    let same = ap (λ v. length (frames One v)) (take-append-drop n front) in
    let less : length (frames One (take n front)) ≤ length (frames One front) = omega arith in
    record {
      there = ap (take n) begins.there ∙ starts_from-take n 0 front;
      framed = sym (take-take (length (frames One (take n front))) (length (frames One front)) bytes less) ∙ ap (take (length (frames One (take n front)))) (begins.framed ∙ all)
          ∙ take_at (frames One (take n front)) (frames One (drop n front)) (length (frames One (take n front))) refl;
    }

-- A list keeps what it has of its prefix while other starts change.
pub flat_front : (bytes starts starts' : List ℕ) (laid n : ℕ) → IsFlat bytes starts laid → n ≤ laid → n ≤ length starts' → take n starts' ≡ take n starts → AreStarts bytes starts'
    → length (frames One (atoms_at bytes starts')) ≤ length (frames One (atoms_at bytes starts)) → IsFlat bytes starts' n
flat_front bytes starts starts' laid n flat fewer within same fit lighter =
    let list = atoms_at bytes starts in
    let front : BeginsWithFrames bytes (take n (take laid starts)) (take n (take laid list)) = begins_with_fewer n bytes (take laid starts) (take laid list) flat.front in
    let these : take n (take laid starts) ≡ take n starts' = take-take n laid starts fewer ∙ sym same in
    let those : take n (take laid list) ≡ take n (atoms_at bytes starts') =
    take-take n laid list fewer ∙ take-map (atom_framed_at bytes) n starts ∙ ap (map (atom_framed_at bytes)) (sym same) ∙ sym (take-map (atom_framed_at bytes) n starts') in
    record {
      fit = fit;
      few = flat.few;
      within = within;
      front = subst (λ v. BeginsWithFrames bytes (take n starts') v) those (subst (λ v. BeginsWithFrames bytes v (take n (take laid list))) these front);
      light = omega (arith, flat.light);
    }

-- ---- a cut

pub marked : (starts : List ℕ) (keep : ℕ) (start : ℕ) → keep < length starts → set (take (keep + 1) starts) keep start ≡ take keep starts ++ start ∷ []
marked starts keep start within =
    ap (λ v. set v keep start) (take_more starts keep start within) ∙ set_at (take keep starts) (get_or starts keep start) [] start keep (length-take-le keep starts (omega arith))

pub atoms_at-marked : (bytes starts : List ℕ) (keep : ℕ) (start : ℕ) → keep < length starts → atom_framed_at bytes start ≡ []
    → atoms_at bytes (set (take (keep + 1) starts) keep start) ≡ take keep (atoms_at bytes starts) ++ [] ∷ []
atoms_at-marked bytes starts keep start within none =
    ap (atoms_at bytes) (marked starts keep start within) ∙ map-append (atom_framed_at bytes) (take keep starts) (start ∷ [])
    ∙ ap (λ v. map (atom_framed_at bytes) (take keep starts) ++ v ∷ []) none ∙ ap (λ v. v ++ [] ∷ []) (sym (take-map (atom_framed_at bytes) keep starts))

-- A marker has one byte.
marker_len : length (frames One ([] ∷ [])) ≡ 1
unfolding base_128
marker_len = refl

-- The frames of a prefix and a marker take no more bytes than those of a longer list.
light_marked : (bytes starts : List ℕ) (keep : ℕ) (start : ℕ) → keep < length starts → atom_framed_at bytes start ≡ []
    → length (frames One (atoms_at bytes (set (take (keep + 1) starts) keep start))) ≤ length (frames One (atoms_at bytes starts))
light_marked bytes starts keep start within none =
    let list = atoms_at bytes starts in
    let cut : length (frames One (atoms_at bytes (set (take (keep + 1) starts) keep start))) ≡ length (frames One (take keep list)) + length (frames One ([] ∷ [])) =
    ap (λ v. length (frames One v)) (atoms_at-marked bytes starts keep start within none) ∙ frames_len-append One (take keep list) ([] ∷ []) in
    omega (arith, marker_len, frames_len-grows list keep (omega (arith, length-map starts (atom_framed_at bytes))), frames_len-front One (keep + 1) list)

pub flat_marked : (bytes starts : List ℕ) (laid keep n : ℕ) (start : ℕ) → IsFlat bytes starts laid → keep < length starts → n ≤ laid → n ≤ keep → IsStart bytes start → atom_framed_at bytes start ≡ []
    → IsFlat bytes (set (take (keep + 1) starts) keep start) n
flat_marked bytes starts laid keep n start flat within fewer upto one none =
    let cut = set (take (keep + 1) starts) keep start in
    let long : length (take keep starts) ≡ keep = length-take-le keep starts (omega arith) in
    let same : take n cut ≡ take n starts =
    ap (take n) (marked starts keep start within) ∙ take-append-le n (take keep starts) (start ∷ []) (omega arith) ∙ take-take n keep starts upto in
    flat_front bytes starts cut laid n flat fewer (omega (arith, length-set (take (keep + 1) starts) keep start, length-take (keep + 1) starts)) same
    (AreStarts-set bytes keep start (take (keep + 1) starts) one (AreStarts-take bytes (keep + 1) starts flat.fit)) (light_marked bytes starts keep start within none)

-- ---- a piece of the prefix

pub take_split : {X : Type 0} (from to : ℕ) (xs : List X) → from ≤ to → take to xs ≡ take from xs ++ slice_range xs from to
take_split from to xs order =
    sym (take-append-drop from (take to xs)) ∙ ap (λ v. v ++ drop from (take to xs)) (take-take from to xs order) ∙ ap (λ v. take from xs ++ v) (sym (between_is xs from to))

-- The atoms of the prefix, in three parts.
parts : (list : List Atom) (from to laid : ℕ) → from ≤ to → to ≤ laid → take laid list ≡ take from list ++ (slice_range list from to ++ slice_range list to laid)
parts list from to laid order within =
    take_split to laid list within ∙ ap (λ v. v ++ slice_range list to laid) (take_split from to list order) ∙ append_assoc (take from list) (slice_range list from to) (slice_range list to laid)

pub AreAtoms-parts : (xs ys : List Atom) → AreAtoms (xs ++ ys) → AreAtoms xs × AreAtoms ys
AreAtoms-parts [] ys short = (tt, short)
AreAtoms-parts (x ∷ xs) ys short = let parts = AreAtoms-parts xs ys short.1 in ((short.0, parts.0), parts.1)

-- Where the frame of an atom begins.
starts_from-at : (at n : ℕ) (list : List Atom) (d : ℕ) → n < length list → get_or (starts_from at list) n d ≡ at + length (frames One (take n list))
starts_from-at at n [] d below = absurd (omega arith)
starts_from-at at zero (x ∷ list) d below = omega arith
starts_from-at at (suc n) (x ∷ list) d below = starts_from-at (at + length (frame One x)) n list d (omega arith) ∙ frames_len-first at x (take n list)

module _ (bytes starts : List ℕ) (laid : ℕ) (flat : IsFlat bytes starts laid) where
  -- The atoms of the prefix are as many as its starts.
  laid_long : length (take laid (atoms_at bytes starts)) ≡ laid
  laid_long = length-take-le laid (atoms_at bytes starts) (omega (arith, flat.within, length-map starts (atom_framed_at bytes)))

  -- Where the frame of an atom of the prefix begins.
  pub start_is : (n d : ℕ) → n < laid → get_or starts n d ≡ length (frames One (take n (atoms_at bytes starts)))
  start_is n d below =
      let list = atoms_at bytes starts in
      let none_before : 0 + length (frames One (take n (take laid list))) ≡ length (frames One (take n (take laid list))) = omega arith in
      sym (get_or-take laid starts n d below) ∙ ap (λ v. get_or v n d) flat.front.there ∙ starts_from-at 0 n (take laid list) d (omega (arith, laid_long))
      ∙ none_before ∙ ap (λ v. length (frames One v)) (take-take n laid list (omega arith))

  -- What the frames of the first atoms take is within the buffer.
  pub ends_within : (from to : ℕ) → from ≤ to → to ≤ laid → (length (frames One (take from (atoms_at bytes starts))) ≤ length (frames One (take to (atoms_at bytes starts)))) × (length (frames One (take to (atoms_at bytes starts))) ≤ length bytes)
  ends_within from to order within =
      let list = atoms_at bytes starts in
      let all : length (frames One (take to list)) ≤ length (frames One (take laid list)) = frames_len-take-le to laid list within in
      let long = ap length flat.front.framed in
      (frames_len-take-le from to list order, omega (arith, length-take (length (frames One (take laid list))) bytes))

  -- Where the frame of an atom of the prefix ends.
  pub end_is : (n d : ℕ) → n < laid → get_or starts n d + length (frame One (atom_framed_at bytes (get_or starts n d))) ≡ length (frames One (take (n + 1) (atoms_at bytes starts)))
  end_is n d below =
      let list = atoms_at bytes starts in
      let within : n < length starts = omega (arith, flat.within) in
      let one : atom_framed_at bytes (get_or starts n d) ≡ get_or list n [] = sym (get_or-map (atom_framed_at bytes) starts n d [] within) in
      ap (λ m. m + length (frame One (atom_framed_at bytes (get_or starts n d)))) (start_is n d below) ∙ ap (λ v. length (frames One (take n list)) + length (frame One v)) one
      ∙ sym (frames_len-more list n (omega (arith, length-map starts (atom_framed_at bytes))))

  -- At the start of an atom of the prefix is its frame.
  pub front_frame : (n d : ℕ) → n < laid → BeginsFrame (drop (get_or starts n d) bytes)
  front_frame n d below = elim (starts_at bytes starts n d flat.fit (omega (arith, flat.within))) [
    | inl behind ↦
        let list = atoms_at bytes starts in
        let grows = frames_len-grows list n (omega (arith, flat.within, length-map starts (atom_framed_at bytes))) in
        absurd (omega (arith, start_is n d below, (ends_within n (n + 1) (omega arith) (omega arith)).1))
    | inr begins ↦ begins
  ]

  pub piece_of : (from to start end : ℕ) → from ≤ to → to ≤ laid → start ≡ length (frames One (take from (atoms_at bytes starts))) → end ≡ length (frames One (take to (atoms_at bytes starts)))
      → IsPieceOf (slice_range bytes start end) start (slice_range starts from to) (slice_range (atoms_at bytes starts) from to)
  piece_of from to start end order within s e =
      let list = atoms_at bytes starts in
      let front = take from list in
      let mid = slice_range list from to in
      let back = slice_range list to laid in
      let split : take laid list ≡ front ++ (mid ++ back) = parts list from to laid order within in
      let rest = drop (length (frames One (take laid list))) bytes in
      let framed : bytes ≡ frames One front ++ (frames One mid ++ (frames One back ++ rest)) =
      sym (take-append-drop (length (frames One (take laid list))) bytes) ∙ ap (λ v. v ++ rest) (flat.front.framed ∙ ap (frames One) split ∙ frames-append One front (mid ++ back) ∙ ap (λ v. frames One front ++ v) (frames-append One mid back))
      ∙ append_assoc (frames One front) (frames One mid ++ frames One back) rest ∙ ap (λ v. frames One front ++ v) (append_assoc (frames One mid) (frames One back) rest) in
      let upto : length (frames One (take to list)) ≡ length (frames One front) + length (frames One mid) = ap (λ v. length (frames One v)) (take_split from to list order) ∙ frames_len-append One front mid in
      let front_long : length front ≡ from = length-take-le from list (omega (arith, flat.within, length-map starts (atom_framed_at bytes))) in
      let mid_long : length mid ≡ to - from = length-take-le (to - from) (drop from list) (omega (arith, flat.within, length-map starts (atom_framed_at bytes), length-drop from list)) in
      let there : take laid starts ≡ starts_from 0 front ++ (starts_from (0 + length (frames One front)) mid ++ starts_from (0 + length (frames One front) + length (frames One mid)) back) =
      flat.front.there ∙ ap (starts_from 0) split ∙ starts_from-append 0 front (mid ++ back) ∙ ap (λ v. starts_from 0 front ++ v) (starts_from-append (0 + length (frames One front)) mid back) in
      let same : slice_range starts from to ≡ slice_range (take laid starts) from to =
      between_is starts from to ∙ ap (drop from) (sym (take-take to laid starts within)) ∙ sym (between_is (take laid starts) from to) in
      let zero_start : 0 + length (frames One front) ≡ start = omega arith in
      record {
        short = (AreAtoms-parts mid (drop (to - from) (drop from list)) (subst AreAtoms (sym (take-append-drop (to - from) (drop from list))) (AreAtoms-parts front (drop from list) (subst AreAtoms (sym (take-append-drop from list)) (AreAtoms-starts bytes starts flat.fit))).1)).0;
        framed = ap (λ v. slice_range v start end) framed ∙ middle (frames One front) (frames One mid) (frames One back ++ rest) start end s (e ∙ upto);
        there = same ∙ ap (λ v. slice_range v from to) there
            ∙ middle (starts_from 0 front) (starts_from (0 + length (frames One front)) mid) (starts_from (0 + length (frames One front) + length (frames One mid)) back) from to (omega (arith, length-starts_from 0 front))
            (omega (arith, length-starts_from 0 front, length-starts_from (0 + length (frames One front)) mid)) ∙ ap (λ n. starts_from n mid) zero_start;
      }
