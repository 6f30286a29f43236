use Rattle.std.proofs.Common.{◌≡◌, ◌-◌, List, ℕ, length, take, sym, ap, subst, ◌∙◌, arith}
use Rattle.topological_order.specs.Walk.{trail_of, finished, Follows}
use Rattle.topological_order.proofs.Steps.{is_here, left_follows}
use Rattle.topological_order.proofs.walk.Walk.leave.Goals as goal

pub index_mut-requires : goal.index_mut-requires
index_mut-requires c =
    let h = is_here (trail_of c.args.self.now) c.args.node c.requires.walk c.requires.top in
    omega (arith, h.marked, c.args.self.now.marks.ok.0)

pub returns : goal.returns
returns c =
    let s = trail_of c.args.self.now in
    let node = c.args.node in
    let rest : c.pop.new.self.items ≡ take (length s.path - 1) s.path = c.pop.ensures.rest
    ∙ ap (λ n. take (n - 1) s.path) c.args.self.now.path.ok.0 in
    let P : List ℕ → Type 0 = λ path. Follows s (record (finished s node) { path = path }) in
    let Q : List ℕ → Type 0 = λ order. Follows s (record (finished s node) { path = c.pop.new.self.items; order = order }) in
    subst Q (sym c.in_ok-push.ensures.items) (subst P (sym rest) (left_follows s node c.requires))
