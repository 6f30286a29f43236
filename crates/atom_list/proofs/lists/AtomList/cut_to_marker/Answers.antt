use Rattle.std.proofs.Common.{◌≡◌, ◌+◌, ◌<◌, ◌++◌, ℕ, [], ◌∷◌, length, take, set, inl, sym, ◌∙◌, ap, subst, arith}
use Rattle.std.proofs.lemmas.List.{length-map}
use Rattle.atom_list.specs.Starts.{atom_framed_at, atoms_at, IsStart, IsFlat}
use Rattle.atom_list.proofs.Frames.{atom_at-behind}
use Rattle.atom_list.proofs.Flat.{flat_marked, atoms_at-marked}
use Rattle.atom_list.proofs.lists.AtomList.cut_to_marker.Goals as goal

-- Where no buffer reaches.
marker : ℕ
marker = 0xffffffff

pub invariant_of-self : goal.invariant_of-self
unfolding marker
invariant_of-self c =
    let bytes = c.self.inside.bytes in
    let starts = c.self.inside.starts.items in
    let keep = c.args.keep in
    let within : keep < length starts = omega (arith, ap length c.self.view_is, length-map starts (atom_framed_at bytes), c.requires) in
    let one : IsStart bytes marker = inl (omega (arith, c.self.invariant.few)) in
    let cut : c.shrink_to_fit.new.self.items ≡ set (take (keep + 1) starts) keep marker = c.shrink_to_fit.ensures.items ∙ ap (λ v. set v keep marker) c.truncate.ensures.items in
    subst (λ v. IsFlat bytes v c.min-self-inside.result) (sym cut)
    (flat_marked bytes starts c.self.inside.laid keep c.min-self-inside.result marker c.self.invariant within (omega arith) (omega arith) one (atom_at-behind bytes marker (omega (arith, c.self.invariant.few))))

pub returns : goal.returns
unfolding marker
returns c =
    let bytes = c.self.inside.bytes in
    let starts = c.self.inside.starts.items in
    let keep = c.args.keep in
    let within : keep < length starts = omega (arith, ap length c.self.view_is, length-map starts (atom_framed_at bytes), c.requires) in
    ap (atoms_at bytes) (c.shrink_to_fit.ensures.items ∙ ap (λ v. set v keep marker) c.truncate.ensures.items) ∙ atoms_at-marked bytes starts keep marker within (atom_at-behind bytes marker (omega (arith, c.self.invariant.few))) ∙ ap (λ v. take keep v ++ [] ∷ []) c.self.view_is
