use Rattle.std.proofs.Common.{◌≡◌, ◌≤◌, ◌++◌, ℕ, List, length, take, sym, ◌∙◌, ap, subst, arith}
use Rattle.std.proofs.lemmas.List.{take-map, take-take, length-map, length-take}
use Rattle.context_model.specs.declared.Form.TheVariants.{One}
use Rattle.context_model.specs.Framing.{frames}
use Rattle.context_model.proofs.FramingLaws.{frames_len-front}
use Rattle.atom_list.specs.Starts.{atom_framed_at, atoms_at, IsFlat}
use Rattle.atom_list.proofs.Flat.{AreStarts-take, flat_front}
use Rattle.atom_list.proofs.lists.AtomList.front.Goals as goal

-- The first atoms alone.
flat_kept : (bytes starts : List ℕ) (laid keep n : ℕ) → IsFlat bytes starts laid → keep ≤ length starts → n ≤ laid → n ≤ keep → IsFlat bytes (take keep starts) n
flat_kept bytes starts laid keep n flat within fewer upto =
    let lighter : length (frames One (atoms_at bytes (take keep starts))) ≤ length (frames One (atoms_at bytes starts)) =
    subst (λ v. length (frames One v) ≤ length (frames One (atoms_at bytes starts))) (take-map (atom_framed_at bytes) keep starts) (frames_len-front One keep (atoms_at bytes starts)) in
    flat_front bytes starts (take keep starts) laid n flat fewer (omega (arith, length-take keep starts)) (take-take n keep starts upto) (AreStarts-take bytes keep starts flat.fit) lighter

-- The places that are copied.
copied : (c : goal.After-min) → c.extend_from_slice.new.self.items ≡ take c.args.keep c.self.inside.starts.items
copied c = c.in_ok-extend_from_slice.ensures.items ∙ ap (λ v. v ++ take c.args.keep c.deref.result.now) c.in_ok-starts.ensures.items ∙ ap (take c.args.keep) c.deref.ensures.value

pub invariant_of-result : goal.invariant_of-result
invariant_of-result c =
    let bytes = c.self.inside.bytes in
    let starts = c.self.inside.starts.items in
    let within : c.args.keep ≤ length starts = omega (arith, ap length c.self.view_is, length-map starts (atom_framed_at bytes), c.requires) in
    subst (λ v. IsFlat v c.extend_from_slice.new.self.items c.min.result) (sym c.in_ok-clone.ensures.cases)
    (subst (λ v. IsFlat bytes v c.min.result) (sym (copied c)) (flat_kept bytes starts c.self.inside.laid c.args.keep c.min.result c.self.invariant within (omega arith) (omega arith)))

pub returns : goal.returns
returns c =
    let bytes = c.self.inside.bytes in
    let starts = c.self.inside.starts.items in
    ap (λ v. atoms_at v c.extend_from_slice.new.self.items) c.in_ok-clone.ensures.cases ∙ ap (atoms_at bytes) (copied c) ∙ sym (take-map (atom_framed_at bytes) c.args.keep starts) ∙ ap (take c.args.keep) c.self.view_is
