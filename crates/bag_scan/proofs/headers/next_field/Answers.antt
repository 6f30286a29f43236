use Rattle.std.proofs.Common.{◌≡◌, false, sym, ap, ◌∙◌, subst, arith}
use Rattle.context_model.specs.Atoms.{Atom}
use Rattle.context_model.specs.Paths.{is_header, level, atom_at}
use Rattle.field_table.specs.Plain.{nodes_of}
use Rattle.bag_scan.specs.Headers.{IsFieldHeader}
use Rattle.bag_scan.proofs.FieldHeaders.{heads_level, passes_more}
use Rattle.bag_scan.proofs.headers.next_field.Goals as goal
use Rattle.bag_scan.proofs.headers.next_field.Goals.{in-Some+else-own-level+in_default-headed_field, in_default}

pub loop-at-preserved : goal.loop-at-preserved
loop-at-preserved c =
    let list = c.args.list.now in
    let nodes = nodes_of c.args.fields.now in
    let at = c.loop-at.at in
    let here : c.atom-atom.result.now ≡ atom_at list at = c.atom-atom.ensures in
    elim c.match-header_level.branch [
      | in-Some+else-own-level+in_default-headed_field w ↦
          passes_more nodes list c.args.level c.args.from at (omega (arith, c.loop-at-test.true, c.len-at-end.ensures.len))
          (λ header. let own = ap level (sym here) ∙ sym w.in-Some.ensures.1 in omega (arith, own, w.if-own-level.false))
          (λ i f heads. w.in_default-headed_field.ensures.field i f (subst (λ (a : Atom). IsFieldHeader nodes c.args.level a i f) (sym here) heads)) c.loop-at.invariant
      | in_default w ↦
          let none : is_header (atom_at list at) ≡ false = ap is_header (sym here) ∙ w.in_default.ensures in
          passes_more nodes list c.args.level c.args.from at (omega (arith, c.loop-at-test.true, c.len-at-end.ensures.len)) (λ header. absurd (let clash = sym none ∙ header in cc))
          (λ i f heads. let e = (heads_level nodes c.args.level (atom_at list at) i f c.requires.room heads).0 in let clash = sym none ∙ e in cc) c.loop-at.invariant
    ]
