use Rattle.std.proofs.Common.{◌≡◌, ℕ, ◌≤◌, ◌<◌, List, length, take, get_or, sym, ◌∙◌, ap, subst, arith}
use Rattle.std.proofs.lemmas.List.{length-map, length-take, take-take}
use Rattle.std.proofs.lemmas.Option.{get_or_from_slice_get, slice_get_within}
use Rattle.context_model.specs.declared.Form.TheVariants.{One}
use Rattle.context_model.specs.Framing.{frames}
use Rattle.context_model.specs.WithoutData.{without}
use Rattle.atom_list.specs.Starts.{atom_framed_at, atoms_at, AreStarts, IsFlat}
use Rattle.atom_list.proofs.Flat.{flat_front}
use Rattle.atom_list.proofs.TakingOut.{without-none, without-lighter, none_first}
use Rattle.atom_list.proofs.lists.AtomList.take_out.Goals as goal

pub returns-in_default : goal.returns-in_default
returns-in_default c = sym (ap (λ gone. without gone c.args.self.now) (none_first c.args.gone.now c.in_default.ensures.value) ∙ without-none 0 c.args.self.now)

-- What stays of the prefix.
flat_left : (bytes : List ℕ) (starts starts' : List ℕ) (laid first n : ℕ) → IsFlat bytes starts laid → n ≤ laid → n ≤ first → first ≤ length starts → take first starts' ≡ take first starts → AreStarts bytes starts'
    → length (frames One (atoms_at bytes starts')) ≤ length (frames One (atoms_at bytes starts)) → IsFlat bytes starts' n
flat_left bytes starts starts' laid first n flat fewer upto within same fit lighter =
    let long = ap length same in
    flat_front bytes starts starts' laid n flat fewer (omega (arith, length-take first starts', length-take first starts))
    (sym (take-take n first starts' upto) ∙ ap (take n) same ∙ take-take n first starts upto) fit lighter

pub invariant_of-self : goal.invariant_of-self
invariant_of-self c =
    let bytes = c.self.inside.bytes in
    let starts = c.self.inside.starts.items in
    let gone = c.args.gone.now in
    let first : get_or gone 0 0 ≡ c.in-Some.first.now = get_or_from_slice_get gone 0 c.in-Some.first.now 0 (sym c.in-Some.ensures.value) in
    let some : 0 < length gone = slice_get_within gone 0 c.in-Some.first.now (sym c.in-Some.ensures.value) in
    let within : get_or gone 0 0 < length c.args.self.now = c.requires.within 0 some in
    flat_left bytes starts c.keep_others.new.starts.items c.self.inside.laid (get_or gone 0 0) c.min-self-inside.result c.self.invariant (omega arith) (omega arith)
    (omega (arith, ap length c.self.view_is, length-map starts (atom_framed_at bytes))) c.keep_others.ensures.front (c.keep_others.ensures.fit bytes c.self.invariant.fit)
    (subst (λ v. length (frames One v) ≤ length (frames One (atoms_at bytes starts))) (sym (c.keep_others.ensures.atoms bytes)) (without-lighter 0 gone (atoms_at bytes starts)))
