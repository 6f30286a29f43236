use Rattle.std.proofs.Common.{Some, refl, sym, subst}
use Rattle.atom_list.specs.OpenPlaces.{IsOpenPath, RisesTo, atom_at, path_before}
use Rattle.atom_list.proofs.Opening.{datum_wrong, datum_follows, datum_taken, datum_within}
use Rattle.atom_list.proofs.Walking.{path_next}
use Rattle.atom_list.proofs.shape_faults.OpenHeaders.admit_datum.Goals as goal

pub rises_behind-requires : goal.rises_behind-requires
rises_behind-requires c = datum_within c.args.list.now _ _ _ c.requires.«open»

pub returns-then-not-rises_behind-clause-err : goal.returns-then-not-rises_behind-clause-err
returns-then-not-rises_behind-clause-err c =
    datum_wrong c.args.list.now _ _ _ (atom_at c.args.list.now c.args.at) c.requires.«open» c.requires.datum
    (λ less. cc (c.if-not-rises_behind.ensures.1 (subst (RisesTo c.args.list.now c.args.self.now.datum) (sym c.requires.atom) less)))

pub returns-clause-ok : goal.returns-clause-ok
returns-clause-ok c =
    datum_follows c.args.list.now _ _ _ (atom_at c.args.list.now c.args.at) c.requires.«open» c.requires.datum
    (subst (RisesTo c.args.list.now c.args.self.now.datum) c.requires.atom (c.if-not-rises_behind.ensures.0 refl))

pub returns-clause-open : goal.returns-clause-open
returns-clause-open c =
    let list = c.args.list.now in
    subst (λ q. IsOpenPath list q c.args.self.now.headers (Some c.args.at)) (sym (path_next list c.args.at c.requires.at))
    (datum_taken list (path_before list c.args.at) _ _ c.args.at c.requires.«open» c.requires.at c.requires.datum)
