-- What follows from where a reader stopped.
use Rattle.std.proofs.Common.{◌≡◌, ℕ, ◌+◌, ◌-◌, ◌<◌, ◌≤◌, inl, inr, List, [], ◌∷◌, ◌++◌, length, take, drop, slice_range, Option, Some, None, Result, Ok, Err, IsErr, IfErr, refl, sym, ◌∙◌, ap, subst, append_assoc, length-append, append-nil, arith}
use Rattle.std.proofs.lemmas.List.{length-take, length-drop}
use Rattle.std.proofs.lemmas.List.Edits.{split_between, length-between}
use Rattle.context_model.specs.declared.Form.{Form}
use Rattle.context_model.specs.Atoms.{Atom, AreAtoms}
use Rattle.context_model.specs.Framing.{length_code, frame, frames, most, form_of, head_len, AreWithin, IsBytesOf, bytes_of}
use Rattle.context_model.specs.ByteCodes.{ByteCode as PlainCode}
use Rattle.context_model.specs.WellFormed.{IsWellFormed}
use Rattle.context_model.specs.WireFault.{IsFirstUnframed, IsFirstWireFault}
use Rattle.context_model.specs.ShapeFault.{IsFirstShapeFault}
use Rattle.context_model.specs.ContextFault.{IsContextOf, IsFirstUnformed, IsFirstContextFault}
use Rattle.context_model.proofs.Frames.{first_unframed, frame_some}
use Rattle.context_model.proofs.FramingLaws.{frames-append, length_code-some}
use Rattle.context_model.proofs.Heads.{read_there}
use Rattle.context_model.proofs.FirstFaults.{reads_one_way}
use Rattle.context_model.proofs.ShapeLaws.{split_at}
use Rattle.context_model.proofs.ContextFronts.{first_unformed, has_one_context}
use Rattle.wire_bytes.specs.declared.reading.WireCode.{WireCode}
use Rattle.wire_bytes.specs.declared.reading.WireFault.{WireFault}
use Rattle.wire_bytes.specs.declared.reading.WireFault.TheVariants.{At, Memory}
use Rattle.wire_bytes.specs.declared.contexts.ContextFault.{ContextFault}
use Rattle.wire_bytes.specs.declared.contexts.ContextFault.TheVariants as contexts
use Rattle.wire_bytes.specs.Reading.{code_of, byte_code_of, IsWireRefusalOf, IsContextRefusalOf, ReadsAny, ReadsAnyContext, StopsAt, ReadsUpTo}

-- ---- what was read

-- Where nothing is left, the input is the bytes of the list.
pub wire_list : (input : List ℕ) (list : List Atom) → ReadsUpTo input list None → IsBytesOf list input
wire_list input list reads = read_there input list reads.right reads.within reads.stops

-- Where something is left, it is the first fault.
pub wire_fault : (input : List ℕ) (list : List Atom) (fault : ℕ × WireCode) → ReadsUpTo input list (Some fault) → IsFirstWireFault input (head_len (form_of input) + fault.0) (code_of fault.1)
wire_fault input list fault reads =
    let form = form_of input in
    let behind = drop (head_len form) input in
    let stops = reads.stops in
    let rest = stops.1.0 in
    let split = stops.1.1 in
    let long = ap length split ∙ length-append (frames form list) rest in
    let at : length behind - length rest ≡ fault.0 = omega (arith, stops.0) in
    let first = first_unframed form behind rest list (code_of fault.1) reads.within split stops.1.2 stops.1.3 in
    inr (fault.0, reads.right, refl, subst (λ n. IsFirstUnframed form behind n (code_of fault.1)) at first)

-- It is within the input.
pub stop_within : (input : List ℕ) (list : List Atom) (fault : ℕ × WireCode) → ReadsUpTo input list (Some fault) → head_len (form_of input) + fault.0 ≤ length input
stop_within input list fault reads =
    let form = form_of input in
    let stops = reads.stops in
    let long = ap length stops.1.1 ∙ length-append (frames form list) stops.1.0 in
    omega (arith, stops.0, reads.long, length-drop (head_len form) input)

-- ---- shapes

module _ (form : Form) where
  -- The bytes go on after the list, if only by nothing.
  stop_split : (bytes : List ℕ) (list : List Atom) (stop : Option (ℕ × WireCode)) → StopsAt form bytes list stop → (more : List ℕ) × (bytes ≡ frames form list ++ more)
  stop_split bytes list None stops = ([], stops ∙ sym (append-nil (frames form list)))
  stop_split bytes list (Some fault) stops = (stops.1.0, stops.1.1)

  within_parts : (xs ys : List Atom) → AreWithin form (xs ++ ys) → AreWithin form xs × AreWithin form ys
  within_parts [] ys short = (tt, short)
  within_parts (x ∷ xs) ys short = let parts = within_parts xs ys short.1 in ((short.0, parts.0), parts.1)

  pub AreWithin-more : (list : List Atom) (atom : Atom) → AreWithin form list → length atom ≤ most form → AreWithin form (list ++ atom ∷ [])
  AreWithin-more [] atom short fits = (fits, tt)
  AreWithin-more (x ∷ list) atom short fits = (short.0, AreWithin-more list atom short.1 fits)

  -- Where the list that was read ceases to be a context, the bytes do.
  shape_behind : (bytes : List ℕ) (list : List Atom) (stop : Option (ℕ × WireCode)) (place : ℕ) (code : PlainCode) → AreWithin form list → StopsAt form bytes list stop → IsFirstShapeFault list place code
      → IsFirstUnformed form bytes (length (frames form (take place list))) code
  shape_behind bytes list stop place code short stops fault =
      let behind = split_at list place fault.atom fault.there in
      let front = take place list in
      let parts = within_parts front (fault.atom ∷ behind.0) (subst (AreWithin form) behind.1 short) in
      let more = stop_split bytes list stop stops in
      let after = frames form behind.0 ++ more.0 in
      let split : bytes ≡ frames form front ++ (frame form fault.atom ++ after) =
      more.1 ∙ ap (λ l. frames form l ++ more.0) behind.1 ∙ ap (λ xs. xs ++ more.0) (frames-append form front (fault.atom ∷ behind.0))
      ∙ append_assoc (frames form front) (frames form (fault.atom ∷ behind.0)) more.0 ∙ ap (λ xs. frames form front ++ xs) (append_assoc (frame form fault.atom) (frames form behind.0) more.0) in
      first_unformed form bytes (frame form fault.atom ++ after) front code parts.0 fault.before split (frame_some form fault.atom after) (inr (fault.atom, after, parts.1.0, refl, fault.wrong))

  -- ---- a frame at the beginning

  -- Some bytes of a length are there.
  pub frame_shortens : (rest rest' : List ℕ) (skip len : ℕ) → take skip rest ≡ length_code form len → skip + len ≤ length rest → rest' ≡ drop (skip + len) rest → length rest' < length rest
  frame_shortens rest rest' skip len code within left =
      let some = length_code-some form len in
      let long = ap length code in
      omega (arith, length-take skip rest, length-drop (skip + len) rest, ap length left)

  -- The bytes are the frames of the list with the atom, and what is left after it.
  pub frame_read : (bytes : List ℕ) (list list' : List Atom) (rest rest' : List ℕ) (skip len : ℕ) → bytes ≡ frames form list ++ rest → take skip rest ≡ length_code form len → skip + len ≤ length rest
      → list' ≡ list ++ slice_range rest skip (skip + len) ∷ [] → rest' ≡ drop (skip + len) rest → bytes ≡ frames form list' ++ rest'
  frame_read bytes list list' rest rest' skip len split code within more left =
      let atom = slice_range rest skip (skip + len) in
      let long : len ≡ length atom = sym (length-between rest skip (skip + len) within ∙ (omega arith)) in
      let front : rest ≡ frame form atom ++ drop (skip + len) rest =
      split_between rest skip (skip + len) (omega arith)
      ∙ ap (λ v. v ++ (atom ++ drop (skip + len) rest)) (code ∙ ap (length_code form) long)
      ∙ sym (append_assoc (length_code form (length atom)) atom (drop (skip + len) rest)) in
      let whole : frames form list' ≡ frames form list ++ frame form atom =
      ap (frames form) more ∙ frames-append form list (atom ∷ []) ∙ ap (λ v. frames form list ++ v) (append-nil (frame form atom)) in
      split ∙ ap (λ v. frames form list ++ v) front ∙ sym (append_assoc (frames form list) (frame form atom) (drop (skip + len) rest)) ∙ ap (λ v. v ++ drop (skip + len) rest) (sym whole) ∙ ap (λ v. frames form list' ++ v) (sym left)

  -- No atom of the list is too long.
  pub frame_within : (list list' : List Atom) (rest : List ℕ) (skip len : ℕ) → AreWithin form list → len ≤ most form → skip + len ≤ length rest
      → list' ≡ list ++ slice_range rest skip (skip + len) ∷ [] → AreWithin form list'
  frame_within list list' rest skip len short fits within more =
      let atom = slice_range rest skip (skip + len) in
      let long : length atom ≡ len = length-between rest skip (skip + len) within ∙ (omega arith) in
      subst (AreWithin form) (sym more) (AreWithin-more list atom short (subst (λ n. n ≤ most form) (sym long) fits))

-- Where the list that was read ceases to be a context, the input does.
pub shape_fault : (input : List ℕ) (list : List Atom) (stop : Option (ℕ × WireCode)) (place : ℕ) (code : PlainCode) → ReadsUpTo input list stop → IsFirstShapeFault list place code
    → IsFirstContextFault input (head_len (form_of input) + length (frames (form_of input) (take place list))) code
shape_fault input list stop place code reads fault =
    let form = form_of input in
    inr (length (frames form (take place list)), reads.right, refl, shape_behind form (drop (head_len form) input) list stop place code reads.within reads.stops fault)

-- Where the list that was read is a context, the input ceases to be one where it ceases to be a list.
pub context_wire_fault : (input : List ℕ) (list : List Atom) (fault : ℕ × WireCode) → IsWellFormed list → ReadsUpTo input list (Some fault)
    → IsFirstContextFault input (head_len (form_of input) + fault.0) (code_of fault.1)
context_wire_fault input list fault formed reads =
    let form = form_of input in
    let behind = drop (head_len form) input in
    let stops = reads.stops in
    let first = first_unformed form behind stops.1.0 list (code_of fault.1) reads.within formed stops.1.1 stops.1.2 (inl stops.1.3) in
    inr (fault.0, reads.right, refl, subst (λ n. IsFirstUnformed form behind n (code_of fault.1)) (sym stops.0) first)

-- ---- refusals

-- Bytes that are refused for what is wrong with them aren't those of a list.
pub only_err : (input : List ℕ) (answer : Result (List Atom) WireFault) → IsErr answer → IfErr answer (IsWireRefusalOf input) → ReadsAny input answer
only_err input (Ok list) is fault = absurd (cc is)
only_err input (Err (At offset code)) is fault = λ form list short e. absurd ((reads_one_way input).either list offset (code_of code) short ((reads_one_way input).any form list short e) fault)
only_err input (Err Memory) is fault = λ form list short e. refl

-- The bytes of a context, in whatever form, are read as that context.
pub context_of : (input : List ℕ) (form : Form) (list : List Atom) → AreAtoms list → IsWellFormed list → input ≡ bytes_of form list → IsContextOf list input
context_of input form list short formed e = (short, formed, (reads_one_way input).any form list short e)

-- Bytes that are refused for what is wrong with them are those of no context.
pub only_context_err : (input : List ℕ) (answer : Result (List Atom) ContextFault) → IsErr answer → IfErr answer (IsContextRefusalOf input) → ReadsAnyContext input answer
only_context_err input (Ok list) is fault = absurd (cc is)
only_context_err input (Err (contexts.At offset code)) is fault = λ form list short formed e.
    absurd ((has_one_context input).either list offset (byte_code_of code) (context_of input form list short formed e) fault)
only_context_err input (Err contexts.Memory) is fault = λ form list short formed e. refl
