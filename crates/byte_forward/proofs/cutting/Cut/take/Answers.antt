use Rattle.std.proofs.Common.{◌≡◌, ◌⊎◌, inl, inr, ◌-◌, ◌≤◌, [], ◌∷◌, ◌++◌, refl, sym, ◌∙◌, ap, subst, arith}
use Rattle.std.proofs.lemmas.Bool.{false≢true}
use Rattle.context_model.specs.Atoms.{AreAtoms}
use Rattle.byte_forward.specs.Cutting.{IsUnderWay}
use Rattle.byte_forward.proofs.Cuts.{is_cost, size_more, fits_kept, passes_kept, goes_on, stops_here, ends}
use Rattle.byte_forward.proofs.cutting.Cut.take.Goals as goal
use Rattle.byte_forward.proofs.cutting.Cut.take.Goals.{then-piece-gt-LENGTH_MAX, else-piece-gt-LENGTH_MAX, then-is_over, else-is_over}

pub returns-in_err-piece-clause-next : goal.returns-in_err-piece-clause-next
returns-in_err-piece-clause-next c = λ past list f. rw c.from_residual.ensures (ends past list c.args.self.now f (c.in_err-piece.ensures f.rest f.come), refl, refl)

pub overflow_sub-self : goal.overflow_sub-self
overflow_sub-self c =
    let f = c.requires.2 in
    let step = c.in_ok-piece.ensures f.rest f.come in
    elim f.room [ inl none ↦ absurd (cc (none, step.1)) | inr some ↦ some ]

pub returns-then-self-cost-clause-next : goal.returns-then-self-cost-clause-next
returns-then-self-cost-clause-next c = λ past list f. (
    let cut = c.args.self.now in
    let piece = c.in_ok-piece.piece in
    let atom = piece.frame.atom.now in
    let step = c.in_ok-piece.ensures f.rest f.come in
    let rest = step.0 in
    let short : AreAtoms (past ++ atom ∷ rest) = subst (λ l. AreAtoms (past ++ l)) step.1 f.atoms in
    let is = is_cost cut.form piece.form past rest atom cut.written c.if-piece-gt-LENGTH_MAX.written piece.frame.bytes.now c.if-piece-gt-LENGTH_MAX.cost short f.written step.2.1
    (elim c.if-piece-gt-LENGTH_MAX.branch [
      | then-piece-gt-LENGTH_MAX w ↦ inl (w.if-piece-gt-LENGTH_MAX.true, w.written-is, omega (arith, w.head_len.ensures, w.head_len-then-piece-gt-LENGTH_MAX.ensures, w.cost-is))
      | else-piece-gt-LENGTH_MAX w ↦ inr (w.if-piece-gt-LENGTH_MAX.false, w.written-is, w.cost-is)
    ])
    in
    let kept : ((rest ≡ []) × (c.if-is_over.kept ≡ 0)) ⊎ ((rest ≡ [] → ⊥) × (c.if-is_over.kept ≡ 1)) = elim c.if-is_over.branch [
      | then-is_over w ↦ inl ((c.is_over.ensures rest step.3).0 w.if-is_over.true, w.kept-is)
      | else-is_over w ↦ inr (λ none. false≢true (sym w.if-is_over.false ∙ (c.is_over.ensures rest step.3).1 none), w.kept-is)
    ]
    in
    let over = passes_kept cut.form past atom rest cut.left cut.budget c.if-piece-gt-LENGTH_MAX.cost c.if-is_over.kept kept f.size is.1 c.if-self-cost.true in
    let left : 1 ≤ cut.left = elim f.room [ inl none ↦ absurd (cc (none, step.1)) | inr some ↦ some ] in
    let stops = stops_here past list cut c.end.new.self (cut.left - 1) f atom rest step.1 c.end.ensures (omega (arith, left)) over.0 over.1 in
    let marker = c.marker.ensures.atom in (
      [],
      stops.0 ∙ ap (λ a. a ∷ []) (sym marker),
      c.marker.ensures.piece,
      subst (λ a. IsUnderWay (past ++ a ∷ []) (record cut { merging = c.end.new.self; left = cut.left - 1 }) []) (sym marker) stops.1,
      omega (arith, left),
    )
    )

pub returns-clause-next : goal.returns-clause-next
returns-clause-next c = λ past list f. (
    let cut = c.args.self.now in
    let piece = c.in_ok-piece.piece in
    let atom = piece.frame.atom.now in
    let step = c.in_ok-piece.ensures f.rest f.come in
    let rest = step.0 in
    let short : AreAtoms (past ++ atom ∷ rest) = subst (λ l. AreAtoms (past ++ l)) step.1 f.atoms in
    let is = is_cost cut.form piece.form past rest atom cut.written c.if-piece-gt-LENGTH_MAX.written piece.frame.bytes.now c.if-piece-gt-LENGTH_MAX.cost short f.written step.2.1
    (elim c.if-piece-gt-LENGTH_MAX.branch [
      | then-piece-gt-LENGTH_MAX w ↦ inl (w.if-piece-gt-LENGTH_MAX.true, w.written-is, omega (arith, w.head_len.ensures, w.head_len-then-piece-gt-LENGTH_MAX.ensures, w.cost-is))
      | else-piece-gt-LENGTH_MAX w ↦ inr (w.if-piece-gt-LENGTH_MAX.false, w.written-is, w.cost-is)
    ])
    in
    let kept : ((rest ≡ []) × (c.if-is_over.kept ≡ 0)) ⊎ ((rest ≡ [] → ⊥) × (c.if-is_over.kept ≡ 1)) = elim c.if-is_over.branch [
      | then-is_over w ↦ inl ((c.is_over.ensures rest step.3).0 w.if-is_over.true, w.kept-is)
      | else-is_over w ↦ inr (λ none. false≢true (sym w.if-is_over.false ∙ (c.is_over.ensures rest step.3).1 none), w.kept-is)
    ]
    in
    let fits = fits_kept _ _ cut.left cut.budget c.if-piece-gt-LENGTH_MAX.cost c.if-is_over.kept rest kept f.size is.1 c.if-self-cost.false in
    let on = goes_on past list cut c.take.new.self c.if-piece-gt-LENGTH_MAX.written (cut.left - c.if-piece-gt-LENGTH_MAX.cost) f atom rest step.1 step.3 is.0 fits.0 fits.1 in
    let more = size_more cut.form past atom [] in
    (on.0, on.1, step.2, on.2, omega (arith, is.1, more, c.if-self-cost.false))
    )
