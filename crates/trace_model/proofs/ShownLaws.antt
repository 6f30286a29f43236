-- What is shown is honest; and steps that are reached by the same writes are reached alike.
use Rattle.std.proofs.Common.{◌≡◌, ◌⊎◌, inl, inr, ℕ, List, refl, sym, subst}
use Rattle.context_model.specs.Atoms.{Atom}
use Rattle.bag_model.specs.Shapes.{Nodes}
use Rattle.bag_model.specs.Values.{Value, Values}
use Rattle.bag_model.specs.SlotValues.{only}
use Rattle.bag_model.specs.Readings.{SaysValues}
use Rattle.trace_model.specs.Graphs.{Act, Start, Recv, Set, Branch, Forward, Trim, Join, Graph}
use Rattle.trace_model.specs.Truth.{IsReachedBy, Adds, IsAdded, Writes, Receives, SameWritesReachAlike}
use Rattle.trace_model.specs.Faithful.{IsFaithful}
use Rattle.trace_model.specs.ShownValues.{ShownIsHonest}
use Rattle.trace_model.proofs.ReachLaws.{reached_so}
use Rattle.trace_model.proofs.FaithfulLaws.{runs_are_faithful}

pub shown_is_honest : ShownIsHonest
shown_is_honest nodes graph lists n slot exact v s shown =
    let f : IsFaithful nodes graph lists n = runs_are_faithful nodes graph lists n s in
    record {
      truth = λ t. f.exact slot shown.at v shown.there shown.says ((shown.ended).0 t);
      below = f.below slot shown.at v shown.there shown.says;
      uncut = λ whole. (shown.ended).1 (inl (λ marker. whole ((f.marked).0 marker)));
      unmarked = λ none. (shown.ended).1 (inl none);
    }

-- ---- the same writes

module _ (nodes : Nodes) where
  -- an act that adds values writes or receives them
  added_by : (vs : Values) (act : Act) → Adds nodes vs act
      → ((slot : ℕ) × (v : Value) × Writes slot v act × (vs ≡ only nodes slot v)) ⊎ ((list : List Atom) × Receives list act × SaysValues nodes list vs)
  added_by vs Start d = absurd d
  added_by vs (Recv received) d = inr (received, refl, d)
  added_by vs (Set parent slot v) d = inl (slot, v, (refl, refl), d)
  added_by vs (Branch parent) d = absurd d
  added_by vs (Forward parent) d = absurd d
  added_by vs (Trim parent budget) d = absurd d
  added_by vs (Join parents) d = absurd d

  write_adds : (slot : ℕ) (v : Value) (act : Act) → Writes slot v act → Adds nodes (only nodes slot v) act
  write_adds slot v Start w = w
  write_adds slot v (Recv received) w = absurd w
  write_adds slot v (Set parent own u) w = λ i. only nodes (sym w.0 i) (sym w.1 i)
  write_adds slot v (Branch parent) w = w
  write_adds slot v (Forward parent) w = w
  write_adds slot v (Trim parent budget) w = w
  write_adds slot v (Join parents) w = w

  received_adds : (vs : Values) (list : List Atom) → SaysValues nodes list vs → (act : Act) → Receives list act → Adds nodes vs act
  received_adds vs list says Start r = r
  received_adds vs list says (Recv received) r = subst (λ l. SaysValues nodes l vs) (sym r) says
  received_adds vs list says (Set parent slot v) r = absurd r
  received_adds vs list says (Branch parent) r = r
  received_adds vs list says (Forward parent) r = r
  received_adds vs list says (Trim parent budget) r = r
  received_adds vs list says (Join parents) r = r

  added_there : (graph other : Graph) (n m : ℕ) → ((slot : ℕ) (v : Value) → IsReachedBy graph n (λ step. Writes slot v step.act) → IsReachedBy other m (λ step. Writes slot v step.act))
      → ((list : List Atom) → IsReachedBy graph n (λ step. Receives list step.act) → IsReachedBy other m (λ step. Receives list step.act)) → (vs : Values) → IsAdded nodes graph n vs → IsAdded nodes other m vs
  added_there graph other n m writes received vs r = by (added_by vs (r.step).act r.does)
    where
      said : (Does : Act → Type 0) → Does (r.step).act → IsReachedBy graph n (λ step. Does step.act)
      said Does d = record { from = r.from; step = r.step; there = r.there; reaches = r.reaches; does = d }

      by : ((slot : ℕ) × (v : Value) × Writes slot v (r.step).act × (vs ≡ only nodes slot v)) ⊎ ((list : List Atom) × Receives list (r.step).act × SaysValues nodes list vs) → IsAdded nodes other m vs
      by (inl w) = subst (IsAdded nodes other m) (sym w.3) (reached_so other m (λ step. Writes w.0 w.1 step.act) (λ step. Adds nodes (only nodes w.0 w.1) step.act) (λ step. write_adds w.0 w.1 step.act) (writes w.0 w.1 (said (Writes w.0 w.1) w.2)))
      by (inr l) = reached_so other m (λ step. Receives l.0 step.act) (λ step. Adds nodes vs step.act) (λ step. received_adds vs l.0 l.2 step.act) (received l.0 (said (Receives l.0) l.1))

pub same_writes_reach_alike : SameWritesReachAlike
same_writes_reach_alike nodes graph n other m s vs = (
  added_there nodes graph other n m (λ slot v. (s.writes slot v).0) (λ list. (s.received list).0) vs,
  added_there nodes other graph m n (λ slot v. (s.writes slot v).1) (λ list. (s.received list).1) vs,
)
