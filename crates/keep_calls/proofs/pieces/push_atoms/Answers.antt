use Rattle.std.proofs.Common.{◌≡◌, ◌<◌, true, false, [], ◌∷◌, ◌++◌, List, length, sym, ap, ◌∙◌, append_assoc, arith}
use Rattle.std.specs.Prelude.{slice_range}
use Rattle.std.proofs.lemmas.Option.{get_or_from_slice_get}
use Rattle.context_model.specs.Atoms.{Atom}
use Rattle.context_model.specs.Paths.{atom_at}
use Rattle.atom_list.specs.Builder.{Built}
use Rattle.keep_calls.proofs.Turns.{range_more}
use Rattle.keep_calls.proofs.pieces.push_atoms.Goals as goal
use Rattle.keep_calls.proofs.pieces.push_atoms.Goals.{in-Some+in_ok-push_to, in_default}

pub loop-at-preserved : goal.loop-at-preserved
loop-at-preserved c =
    let list = c.args.list.now in
    let before = c.args.built.now.atoms in
    let part = slice_range list c.args.from c.loop-at.at in
    let within : c.loop-at.at < length list = omega (arith, c.loop-at-test.true, c.requires.within) in
    elim c.match-get.branch [
      | in-Some+in_ok-push_to w ↦ (let atom = w.in-Some.atom.now in
          let same : atom_at list c.loop-at.at ≡ atom = get_or_from_slice_get list c.loop-at.at atom [] (sym w.in-Some.ensures.value) in
          ap (λ (b : Built). b.atoms) w.built-is
          ∙ w.in_ok-push_to.ensures
          ∙ ap (λ (l : List Atom). l ++ atom ∷ []) c.loop-at.invariant
          ∙ append_assoc before part (atom ∷ [])
          ∙ ap (λ (l : List Atom). before ++ l) (ap (λ (a : Atom). part ++ a ∷ []) (sym same) ∙ sym (range_more list c.args.from c.loop-at.at c.loop-at.auto.at within)))
      | in_default w ↦ (let clash : false ≡ true = w.in_default.ensures.found.1 within in cc)
    ]
