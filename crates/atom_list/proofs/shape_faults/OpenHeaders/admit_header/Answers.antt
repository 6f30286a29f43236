use Rattle.std.proofs.Common.{◌≡◌, ◌+◌, ◌<◌, ◌++◌, [], ◌∷◌, length, take, Less, None, refl, sym, ◌∙◌, ap, subst, arith}
use Rattle.context_model.specs.Orders.{atom_cmp}
use Rattle.atom_list.specs.OpenPlaces.{IsOpenPath, atom_at, path_before}
use Rattle.atom_list.proofs.Opening.{header_within, header_wrong, header_follows, header_taken}
use Rattle.atom_list.proofs.Walking.{path_next}
use Rattle.atom_list.proofs.shape_faults.OpenHeaders.admit_header.Goals as goal
use Rattle.atom_list.proofs.shape_faults.OpenHeaders.admit_header.Goals.{else-level-count-via-then-level-count+else-not-rises, else-level-count-via-else-level-count}

pub rises-requires : goal.rises-requires
rises-requires c =
    subst (λ place. place < length c.args.list.now) (sym c.get.ensures) (header_within c.args.list.now _ _ _ c.args.level c.requires.«open» (omega arith))

pub returns-then-not-rises-clause-err : goal.returns-then-not-rises-clause-err
returns-then-not-rises-clause-err c =
    let list = c.args.list.now in
    header_wrong list _ _ _ (atom_at list c.args.at) c.args.level c.requires.«open» c.requires.header (omega arith)
    (λ less. cc (c.if-not-rises.ensures.1 (ap (λ a. atom_cmp (atom_at list c.get.result) a) c.requires.atom ∙ subst (λ place. atom_cmp (atom_at list place) (atom_at list c.args.at) ≡ Less) (sym c.get.ensures) less)))

pub returns-clause-ok : goal.returns-clause-ok
returns-clause-ok c =
    let list = c.args.list.now in
    let follows = header_follows list (path_before list c.args.at) _ _ (atom_at list c.args.at) c.args.level c.requires.«open» c.requires.header (omega arith) in
    elim c.else-level-count.branch [
      | else-level-count-via-then-level-count+else-not-rises w ↦
          follows (λ below. subst (λ place. atom_cmp (atom_at list place) (atom_at list c.args.at) ≡ Less) w.get.ensures (ap (λ a. atom_cmp (atom_at list w.get.result) a) (sym c.requires.atom) ∙ w.if-not-rises.ensures.0 refl))
      | else-level-count-via-else-level-count w ↦ follows (λ below. absurd (omega arith))
    ]

pub returns-clause-open : goal.returns-clause-open
returns-clause-open c =
    let list = c.args.list.now in
    let headers = c.push.ensures ∙ ap (λ v. v ++ c.args.at ∷ []) c.truncate.ensures in
    subst (λ v. IsOpenPath list (path_before list (c.args.at + 1)) v None) (sym headers)
    (subst (λ q. IsOpenPath list q (take c.args.level c.args.self.now.headers ++ c.args.at ∷ []) None) (sym (path_next list c.args.at c.requires.at))
    (header_taken list (path_before list c.args.at) _ _ c.args.at c.args.level c.requires.«open» c.requires.at c.requires.header (omega arith)))
