use Rattle.std.proofs.Common.{◌≡◌, ℕ, ◌+◌, ◌<◌, List, [], length, take, set, get_or, refl, sym, ◌∙◌, ap, subst, arith}
use Rattle.std.proofs.lemmas.List.{length-map, take-set-le}
use Rattle.context_model.specs.Atoms.{Atom}
use Rattle.atom_list.specs.Starts.{atom_framed_at, atoms_at, AreStarts, IsStart}
use Rattle.atom_list.proofs.Flat.{AreStarts-take, AreStarts-set, starts_at}
use Rattle.atom_list.proofs.TakingOut.{Done, done_first, done_taken, done_kept, stays_behind, stays_before, atoms_at-set, as_many, left_out}
use Rattle.atom_list.proofs.starts.keep_others.Goals as goal
use Rattle.atom_list.proofs.starts.keep_others.Goals.{then-taken-gone+then-gone-taken, else-taken-gone, else-taken-gone-via-then-taken-gone+else-gone-taken, else-taken-gone-via-else-taken-gone}

pub loop-at-init : goal.loop-at-init
loop-at-init c =
    let starts = c.args.starts.now in
    let within : get_or c.args.gone.now 0 0 < length starts.items = omega (arith, c.requires.within 0 c.requires.some, starts.ok.0) in
    record {
      done = λ bytes. done_first c.args.gone.now (atoms_at bytes starts.items) c.requires.rises c.requires.some (omega (arith, length-map starts.items (atom_framed_at bytes)));
      fit = λ bytes fit. fit;
      first = omega arith;
      front = refl;
    }

pub index_mut-requires : goal.index_mut-requires
index_mut-requires c =
    let many = as_many c.args.gone.now c.args.starts.now.items c.loop-at.starts.items c.loop-at.at c.loop-at.kept c.loop-at.taken c.loop-at.invariant.done in
    omega (arith, c.loop-at.starts.ok.0, c.args.starts.now.ok.0)

pub overflow_add-kept : goal.overflow_add-kept
overflow_add-kept c =
    let many = as_many c.args.gone.now c.args.starts.now.items c.loop-at.starts.items c.loop-at.at c.loop-at.kept c.loop-at.taken c.loop-at.invariant.done in
    omega (arith, c.loop-at.starts.ok.0, c.args.starts.now.ok.0)

-- The same at other values that are equal.
moved : (gone : List ℕ) (start now now' : List Atom) (at kept kept' taken taken' : ℕ) → now' ≡ now → kept' ≡ kept → taken' ≡ taken → Done gone start now at kept taken → Done gone start now' at kept' taken'
moved gone start now now' at kept kept' taken taken' e f g done =
    subst (λ v. Done gone start v at kept' taken') (sym e) (subst (λ v. Done gone start now at v taken') (sym f) (subst (Done gone start now at kept) (sym g) done))

pub loop-at-preserved : goal.loop-at-preserved
loop-at-preserved c =
    let gone = c.args.gone.now in
    let start = c.args.starts.now.items in
    let now = c.loop-at.starts.items in
    let at = c.loop-at.at in
    let kept = c.loop-at.kept in
    let taken = c.loop-at.taken in
    let done = c.loop-at.invariant.done in
    let many = as_many gone start now at kept taken done in
    let within : at < length start = omega (arith, c.args.starts.now.ok.0) in
    let all : (bytes : List ℕ) → at < length (atoms_at bytes start) = λ bytes. omega (arith, length-map start (atom_framed_at bytes)) in
    elim c.if-taken-gone.branch [
      | then-taken-gone+then-gone-taken w ↦ record {
        done = λ bytes. moved gone (atoms_at bytes start) (atoms_at bytes now) _ (at + 1) kept _ (taken + 1) _ (ap (λ v. atoms_at bytes v.items) w.starts-is) w.kept-is w.taken-is
            (done_taken gone (atoms_at bytes start) (atoms_at bytes now) at kept taken (done bytes) c.requires.rises (all bytes) w.if-taken-gone.true w.if-gone-taken.true);
        fit = λ bytes fit. subst (λ v. AreStarts bytes v.items) (sym w.starts-is) (c.loop-at.invariant.fit bytes fit);
        first = omega (arith, c.loop-at.invariant.first, w.kept-is);
        front = ap (λ v. take (get_or gone 0 0) v.items) w.starts-is ∙ c.loop-at.invariant.front;
      }
      | else-taken-gone w ↦
          let one = w.index.result.now in
          let items : c.if-taken-gone.starts.items ≡ set now kept one = ap (λ v. v.items) w.starts-is in
          record {
            done = λ bytes. moved gone (atoms_at bytes start) (set (atoms_at bytes now) kept (get_or (atoms_at bytes now) at [])) _ (at + 1) (kept + 1) _ taken _
                (ap (atoms_at bytes) items ∙ atoms_at-set bytes now kept at one (omega arith) w.index.ensures) w.kept-is w.taken-is
                (done_kept gone (atoms_at bytes start) (atoms_at bytes now) at kept taken (done bytes) (all bytes) (elim w.else-taken-gone.branch [
                  | else-taken-gone-via-then-taken-gone+else-gone-taken w' ↦ stays_before gone (atoms_at bytes start) (atoms_at bytes now) at kept taken (done bytes) c.requires.rises w'.if-taken-gone.true w'.if-gone-taken.false
                  | else-taken-gone-via-else-taken-gone w' ↦ stays_behind gone (atoms_at bytes start) (atoms_at bytes now) at kept taken (done bytes) w'.if-taken-gone.false
                ]));
            fit = λ bytes fit.
                let fits = c.loop-at.invariant.fit bytes fit in
                subst (AreStarts bytes) (sym items) (AreStarts-set bytes kept one now (subst (IsStart bytes) (sym w.index.ensures) (starts_at bytes now at one fits (omega arith))) fits);
            first = omega (arith, c.loop-at.invariant.first, w.kept-is);
            front = ap (take (get_or gone 0 0)) items ∙ take-set-le (get_or gone 0 0) now kept one c.loop-at.invariant.first ∙ c.loop-at.invariant.front;
          }
    ]

pub returns-clause-atoms : goal.returns-clause-atoms
returns-clause-atoms c = λ bytes.
    ap (atoms_at bytes) c.truncate.ensures.items
    ∙ left_out c.args.gone.now c.args.starts.now.items c.loop-at.starts.items c.loop-at.at c.loop-at.kept c.loop-at.taken bytes (c.loop-at.invariant.done bytes) (omega (arith, c.args.starts.now.ok.0))

pub returns-clause-fit : goal.returns-clause-fit
returns-clause-fit c = λ bytes fit.
    subst (AreStarts bytes) (sym c.truncate.ensures.items) (AreStarts-take bytes c.loop-at.kept c.loop-at.starts.items (c.loop-at.invariant.fit bytes fit))
