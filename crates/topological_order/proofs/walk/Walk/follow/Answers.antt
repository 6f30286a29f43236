use Rattle.std.proofs.Common.{◌≡◌, ◌+◌, ◌<◌, ℕ, length, get_or, set, sym, ap, subst, ◌∙◌, arith}
use Rattle.std.proofs.lemmas.Option.{slice_get_within}
use Rattle.topological_order.specs.Graphs.{row_of}
use Rattle.topological_order.specs.Walk.{Trail, trail_of, counted, Follows}
use Rattle.topological_order.proofs.Lists.{read}
use Rattle.topological_order.proofs.Edges.{row_small, to_within}
use Rattle.topological_order.proofs.Steps.{is_here, met_follows, met_followed}
use Rattle.topological_order.proofs.walk.Walk.follow.Goals as goal

pub meet-requires : goal.meet-requires
meet-requires c =
    let s = trail_of c.args.self.now in
    let h = is_here s c.args.node c.requires.walk c.requires.top in
    let within = to_within s.graph c.args.node (get_or s.followed c.args.node 0) c.args.to c.requires.walk.whole h.within c.requires.edge in
    omega (arith, within, c.requires.walk.all_marked)

pub index_mut-requires : goal.index_mut-requires
index_mut-requires c =
    let s = trail_of c.args.self.now in
    let t = trail_of c.meet.new.self in
    let h = is_here s c.args.node c.requires.walk c.requires.top in
    let same : t.followed ≡ s.followed = ap (λ u. u.followed) c.in_ok-meet.ensures ∙ met_followed s c.args.to in
    omega (arith, h.within, c.requires.walk.all_counted, ap (λ xs. length xs) same, c.meet.new.self.followed.ok.0)

pub overflow_add-index_mut : goal.overflow_add-index_mut
overflow_add-index_mut c =
    let s = trail_of c.args.self.now in
    let t = trail_of c.meet.new.self in
    let node = c.args.node in
    let h = is_here s node c.requires.walk c.requires.top in
    let same : t.followed ≡ s.followed = ap (λ u. u.followed) c.in_ok-meet.ensures ∙ met_followed s c.args.to in
    let inside : node < length t.followed = omega (arith, h.within, c.requires.walk.all_counted, ap (λ xs. length xs) same) in
    let count = read t.followed node c.index_mut.result.now inside c.index_mut.ensures.value in
    let less = slice_get_within (row_of s.graph node) (get_or s.followed node 0) c.args.to c.requires.edge in
    omega (arith, count, less, ap (λ xs. get_or xs node 0) same, row_small c.args.self.now.graph.now node)

pub returns : goal.returns
returns c =
    let s = trail_of c.args.self.now in
    let t = trail_of c.meet.new.self in
    let node = c.args.node in
    let h = is_here s node c.requires.walk c.requires.top in
    let same : t.followed ≡ s.followed = ap (λ u. u.followed) c.in_ok-meet.ensures ∙ met_followed s c.args.to in
    let inside : node < length t.followed = omega (arith, h.within, c.requires.walk.all_counted, ap (λ xs. length xs) same) in
    let count = read t.followed node c.index_mut.result.now inside c.index_mut.ensures.value in
    let P : ℕ → Type 0 = λ k. Follows s (record t { followed = set t.followed node (k + 1) }) in
    let Q : Trail → Type 0 = λ u. Follows s (counted u node) in
    subst P count (subst Q (sym c.in_ok-meet.ensures) (met_follows s node c.args.to c.requires))
