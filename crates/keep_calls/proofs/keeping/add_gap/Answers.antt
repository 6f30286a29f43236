use Rattle.std.proofs.Common.{◌≡◌, true, false, [], ◌∷◌, ◌++◌, List, sym, ap, ◌∙◌, subst}
use Rattle.context_model.specs.Atoms.{Atom}
use Rattle.context_model.specs.WellFormed.{IsWellFormed}
use Rattle.keep_calls.specs.Walk.{HoldUpTo}
use Rattle.keep_calls.proofs.GapParts.{gap_told, gap_untold}
use Rattle.keep_calls.proofs.Steps.{mark_well_formed}
use Rattle.keep_calls.proofs.keeping.add_gap.Goals as goal

pub of-requires : goal.of-requires
of-requires c = subst IsWellFormed (sym c.in_ok-mark.ensures) (mark_well_formed c.args.table.now c.args.slot c.requires.gap.table c.requires.slot)

pub returns-in_ok-push : goal.returns-in_ok-push
returns-in_ok-push c =
    let held = gap_told c.args.table.now c.args.others c.args.list.now c.args.slot c.args.from c.args.to c.requires.gap c.args.pieces.now.items c.requires.held (c.is_told.ensures.0 c.if-is_told.true) in
    subst (λ (pieces : List (List Atom)). HoldUpTo c.args.table.now c.args.others c.args.list.now c.args.to pieces)
    (sym (c.in_ok-push.ensures.items ∙ ap (λ (v : List Atom). c.args.pieces.now.items ++ v ∷ []) (c.of.ensures ∙ c.in_ok-mark.ensures))) held

pub returns-else-is_told : goal.returns-else-is_told
returns-else-is_told c =
    gap_untold c.args.table.now c.args.others c.args.list.now c.args.slot c.args.from c.args.to c.requires.gap c.args.pieces.now.items c.requires.held
    (λ s. let yes : c.is_told.result ≡ true = c.is_told.ensures.1 s in let no : c.is_told.result ≡ false = c.if-is_told.false in cc)
