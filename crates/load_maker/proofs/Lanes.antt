-- The graph of the load grows by a lane.
use Rattle.std.proofs.Common.{◌≡◌, inl, inr, ℕ, suc, ◌+◌, ◌-◌, ◌*◌, ◌%◌, ◌<◌, [], ◌∷◌, map, codes, Some, refl, ap, subst, arith}
use Rattle.std.proofs.lemmas.Bool.{cases_lt}
use Rattle.std.specs.Fmt.{decimal}
use Rattle.std.specs.Prelude.{List}
use Rattle.trace_model.specs.Graphs as graphs
use Rattle.trace_model.specs.Graphs.{Graph}
use Rattle.recorded_graph.specs.Graphs.{with_step}
use Rattle.graph_lines.specs.Statements.{NamedAct}
use Rattle.graph_lines.specs.Forms.{IsPath}
use Rattle.graph_text.specs.Additions.{AddStep}
use Rattle.graph_text.specs.Names.{place_of_name, service_named}
use Rattle.load_maker.specs.Loads.{hit, lane_of}
use Rattle.load_maker.proofs.CleanLines.{clean_word, clean_number}
use Rattle.load_maker.proofs.LoadSlots.{least_slot, hits_slot, seen_slot, least_is, hits_is, seen_is}
use Rattle.load_maker.proofs.LoadWrites.{some_digit, some_hit, clean_hit, says_least, says_hit, says_seen}
use Rattle.load_maker.proofs.Stages.{IsStage, Stands, stands_still, stands_new, next_stage}
use Rattle.load_maker.proofs.GoodLines.{Grows, MayFollow, branch_follows, forward_follows, set_follows}

-- The graph after `lanes` lanes of a round: the round's first step is at the first service, and
-- each lane's last step at the second.
pub record IsBehind (graph : Graph) (round lanes : ℕ) : Type 0 where
  pub stage : IsStage graph (42 * round + 5 * lanes + 1)
  pub first : Stands graph (42 * round) 0
  pub ends : (lane : ℕ) → lane < lanes → Stands graph (42 * round + 5 * lane + 5) 1

-- Both services are found by their names.
pub a_named : (graph : Graph) (n : ℕ) → IsStage graph n → service_named graph (codes "a") ≡ Some 0
a_named graph n stage = ap (λ (services : List graphs.Service). place_of_name (map (λ service. service.name) services) (codes "a")) stage.services

pub b_named : (graph : Graph) (n : ℕ) → IsStage graph n → service_named graph (codes "b") ≡ Some 1
b_named graph n stage = ap (λ (services : List graphs.Service). place_of_name (map (λ service. service.name) services) (codes "b")) stage.services

-- A step that may follow is the last of the graph with it.
pub new_stands : (graph : Graph) (n : ℕ) (act : NamedAct) (service : ℕ) (next : MayFollow graph n act service) → IsStage graph n
    → Stands (with_step graph next.step) n service
new_stands graph n act service next stage =
    subst (λ (s : ℕ). Stands (with_step graph next.step) n s) next.stands (stands_new graph next.step n stage)

pub stage_behind : (graph : Graph) (step : graphs.Step) (n m : ℕ) → IsStage graph n → m ≡ n + 1 → IsStage (with_step graph step) m
stage_behind graph step n m stage same = subst (λ (k : ℕ). IsStage (with_step graph step) k) (let back : n + 1 ≡ m = omega (arith, same) in back) (next_stage graph step n stage)

least_path : IsPath (codes "least")
least_path = (codes "least" ∷ [], omega arith, (refl, tt), refl)

hits_path : IsPath (codes "hits")
hits_path = (codes "hits" ∷ [], omega arith, (refl, tt), refl)

seen_path : IsPath (codes "seen")
seen_path = (codes "seen" ∷ [], omega arith, (refl, tt), refl)

-- What holds of each lane below a number, and of this, holds of each below the next.
one_more : (P : ℕ → Type 0) (n : ℕ) → ((m : ℕ) → m < n → P m) → P n → (m : ℕ) → m < suc n → P m
one_more P n below here m less = elim (cases_lt m n) [
  | inl l ↦ below m l
  | inr more ↦ subst P (let same : n ≡ m = omega (arith, less, more) in same) here
]

pub lane_grows : (graph : Graph) (round lane : ℕ) → round < 1000 → lane < 8 → IsBehind graph round lane
    → (after : Graph) × Grows graph (lane_of round lane) after × IsBehind after round (suc lane)
lane_grows graph round lane small few behind =
    let c = 42 * round in
    let k = c + 5 * lane in
    let least = 1000000 - 8 * round - lane in
    let seen = (8 * round + lane) % 256 in
    let f1 = branch_follows graph (k + 1) c 0 behind.stage (omega (arith, small, few)) behind.first in
    let g1 = with_step graph f1.step in
    let s1 = stage_behind graph f1.step (k + 1) (k + 2) behind.stage (omega arith) in
    let p1 = new_stands graph (k + 1) _ 0 f1 behind.stage in
    let f2 = set_follows g1 (k + 2) (k + 1) (codes "least") (decimal least) 0 least_slot s1 (omega (arith, small, few)) p1
    least_path (clean_word (codes "least") refl) (some_digit least (omega arith)) (clean_number least (omega arith)) least_is (says_least least (omega arith)) in
    let g2 = with_step g1 f2.step in
    let s2 = stage_behind g1 f2.step (k + 2) (k + 3) s1 (omega arith) in
    let p2 = new_stands g1 (k + 2) _ 0 f2 s1 in
    let f3 = set_follows g2 (k + 3) (k + 2) (codes "hits") (hit round lane) 1 hits_slot s2 (omega (arith, small, few)) p2
    hits_path (clean_word (codes "hits") refl) (some_hit round lane) (clean_hit round lane few small) hits_is (says_hit round lane few small) in
    let g3 = with_step g2 f3.step in
    let s3 = stage_behind g2 f3.step (k + 3) (k + 4) s2 (omega arith) in
    let p3 = new_stands g2 (k + 3) _ 0 f3 s2 in
    let f4 = set_follows g3 (k + 4) (k + 3) (codes "seen") (decimal seen) 2 seen_slot s3 (omega (arith, small, few)) p3
    seen_path (clean_word (codes "seen") refl) (some_digit seen (omega arith)) (clean_number seen (omega arith)) seen_is (says_seen seen (omega arith)) in
    let g4 = with_step g3 f4.step in
    let s4 = stage_behind g3 f4.step (k + 4) (k + 5) s3 (omega arith) in
    let p4 = new_stands g3 (k + 4) _ 0 f4 s3 in
    let f5 = forward_follows g4 (k + 5) (k + 4) 0 1 (codes "b") s4 (omega (arith, small, few)) p4 refl (clean_word (codes "b") refl) (b_named g4 (k + 5) s4) in
    let g5 = with_step g4 f5.step in
    let s5 = stage_behind g4 f5.step (k + 5) (42 * round + 5 * suc lane + 1) s4 (omega arith) in
    let p5 = new_stands g4 (k + 5) _ 1 f5 s4 in
    let still : (n service : ℕ) → Stands graph n service → Stands g5 n service = λ n service stands.
    stands_still g4 f5.step n service (stands_still g3 f4.step n service (stands_still g2 f3.step n service (stands_still g1 f2.step n service (stands_still graph f1.step n service stands)))) in (
      g5,
      (AddStep f1.step, f1.may, (AddStep f2.step, f2.may, (AddStep f3.step, f3.may, (AddStep f4.step, f4.may, (AddStep f5.step, f5.may, refl))))),
      record {
        stage = s5;
        first = still c 0 behind.first;
        ends = one_more (λ (m : ℕ). Stands g5 (42 * round + 5 * m + 5) 1) lane (λ m less. still (42 * round + 5 * m + 5) 1 (behind.ends m less)) p5;
      },
    )
