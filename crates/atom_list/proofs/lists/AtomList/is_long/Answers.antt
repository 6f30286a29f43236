use Rattle.std.proofs.Common.{◌≡◌, ◌≤◌, ◌<◌, List, ℕ, length, take, sym, ◌∙◌, ap, subst, arith}
use Rattle.std.proofs.lemmas.List.{take_all}
use Rattle.context_model.specs.declared.TheConstants.{LENGTH_MAX}
use Rattle.context_model.specs.Atoms.{Atom}
use Rattle.context_model.specs.Framing.{has_long}
use Rattle.atom_list.specs.Starts.{atoms_at}
use Rattle.atom_list.proofs.Frames.{none_long, none_more, some_long}
use Rattle.atom_list.proofs.lists.AtomList.is_long.Goals as goal

pub returns-then-bytes-le-LENGTH_MAX : goal.returns-then-bytes-le-LENGTH_MAX
returns-then-bytes-le-LENGTH_MAX c =
    sym (none_long c.self.inside.bytes c.self.inside.starts.items (subst (λ bytes. length bytes ≤ LENGTH_MAX) c.as_slice-bytes.ensures c.if-bytes-le-LENGTH_MAX.true)) ∙ ap has_long c.self.view_is

-- The list is that of the bytes and the starts that are gone over.
seen : (bytes bytes' starts starts' : List ℕ) (list : List Atom) → bytes' ≡ bytes → starts' ≡ starts → atoms_at bytes starts ≡ list → has_long (atoms_at bytes' starts') ≡ has_long list
seen bytes bytes' starts starts' list e f view = ap (λ v. has_long (atoms_at v starts')) e ∙ ap (λ v. has_long (atoms_at bytes v)) f ∙ ap has_long view

pub returns-then-atom_at-gt-LENGTH_MAX : goal.returns-then-atom_at-gt-LENGTH_MAX
returns-then-atom_at-gt-LENGTH_MAX c =
    let long = subst (λ atom. LENGTH_MAX < length atom) c.atom_at.ensures.atom c.if-atom_at-gt-LENGTH_MAX.true in
    sym (some_long c.as_slice-bytes.result.now c.deref-start-items.result.now c.loop-start.start-index c.loop-start-test.true long) ∙ seen _ _ _ _ _ c.as_slice-bytes.ensures c.deref-start-items.ensures.value c.self.view_is

pub loop-start-preserved : goal.loop-start-preserved
loop-start-preserved c =
    none_more c.as_slice-bytes.result.now c.deref-start-items.result.now c.loop-start.start-index c.loop-start-test.true c.loop-start.invariant
    (subst (λ atom. length atom ≤ LENGTH_MAX) c.atom_at.ensures.atom c.if-atom_at-gt-LENGTH_MAX.false)

pub returns : goal.returns
returns c =
    let all : take c.loop-start.start-index c.deref-start-items.result.now ≡ c.deref-start-items.result.now = take_all _ _ (omega arith) in
    sym c.loop-start.invariant ∙ ap (λ starts. has_long (atoms_at c.as_slice-bytes.result.now starts)) all ∙ seen _ _ _ _ _ c.as_slice-bytes.ensures c.deref-start-items.ensures.value c.self.view_is
