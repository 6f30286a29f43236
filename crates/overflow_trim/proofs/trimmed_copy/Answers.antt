use Rattle.std.proofs.Common.{◌≡◌, ℕ, ◌+◌, ◌≤◌, List, ◌++◌, [], ◌∷◌, length, IfOk, take, sym, ◌∙◌, ap, subst, arith}
use Rattle.std.proofs.lemmas.List.{take-take}
use Rattle.context_model.specs.Atoms.{Atom}
use Rattle.context_model.specs.Trimmed.{cut_at, kept_of}
use Rattle.context_model.specs.WellFormed.{IsWellFormed}
use Rattle.context_model.proofs.Following.{IsWellFormed-cut}
use Rattle.context_model.proofs.TrimmedLaws.{kept_of-all, trimmed-fits, trimmed-cut}
use Rattle.overflow_trim.proofs.Overs.{over}
use Rattle.overflow_trim.proofs.trimmed_copy.Goals as goal

-- A prefix with a marker in place of its last atom.
cut_is : (list front cut : List Atom) (keep : ℕ) → front ≡ take (keep + 1) list → cut ≡ take keep front ++ [] ∷ [] → cut ≡ cut_at keep list
cut_is list front cut keep e f = f ∙ ap (cut_at keep) e ∙ ap (λ v. v ++ [] ∷ []) (take-take keep (keep + 1) list (omega arith))

pub returns-in_ok-cut-clause-trimmed : goal.returns-in_ok-cut-clause-trimmed
returns-in_ok-cut-clause-trimmed c =
    let list = c.args.context.now in
    let is = c.kept-keep.ensures ∙ ap (λ l. kept_of c.args.form l c.args.budget) c.list.ensures.list in
    let long = ap length c.list-2.ensures.list in
    let more = over c.args.form list c.args.budget c.kept-keep.result is (omega arith) in
    cut_is c.args.context.now c.in_ok-cut.cut c.cut_to_marker.new.self c.kept-keep.result c.in_ok-cut.ensures c.cut_to_marker.ensures ∙ ap (λ n. cut_at n list) is ∙ sym (trimmed-cut c.args.form list c.args.budget more)

pub returns-in_ok-cut-clause-well_formed : goal.returns-in_ok-cut-clause-well_formed
returns-in_ok-cut-clause-well_formed c = subst IsWellFormed (sym (cut_is c.args.context.now c.in_ok-cut.cut c.cut_to_marker.new.self c.kept-keep.result c.in_ok-cut.ensures c.cut_to_marker.ensures)) (IsWellFormed-cut c.kept-keep.result c.args.context.now c.list.ensures.well_formed)

pub returns-else-keep-len-clause-trimmed : goal.returns-else-keep-len-clause-trimmed
returns-else-keep-len-clause-trimmed c =
    let list = c.args.context.now in
    let is = c.kept-keep.ensures ∙ ap (λ l. kept_of c.args.form l c.args.budget) c.list.ensures.list in
    let long = ap length c.list-2.ensures.list in
    let all : length list ≤ kept_of c.args.form list c.args.budget = omega arith in
    subst (λ cut. IfOk c.copy.result (λ made. made ≡ cut)) (sym (trimmed-fits c.args.form list c.args.budget (kept_of-all c.args.form list c.args.budget c.requires all))) c.copy.ensures
