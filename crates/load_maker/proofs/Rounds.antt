-- The graph of the load grows by rounds, from its opening to the step that is shown.
use Rattle.std.proofs.Common.{◌≡◌, inl, inr, ℕ, zero, suc, ◌+◌, ◌*◌, ◌<◌, ◌≤◌, List, [], ◌∷◌, ◌++◌, length, codes, refl, sym, ap, subst, arith}
use Rattle.std.specs.Fmt.{decimal}
use Rattle.context_model.specs.declared.Form.TheVariants.{One}
use Rattle.trace_model.specs.Graphs as graphs
use Rattle.trace_model.specs.Graphs.{Graph}
use Rattle.bag_model.specs.Views as views
use Rattle.recorded_graph.specs.Graphs.{empty_graph, with_step, with_show}
use Rattle.graph_lines.specs.Statements.{Statement, Service, All, Nothing, Start, Step, Show}
use Rattle.graph_text.specs.Additions.{AddService, AddStep, AddShow, with_addition}
use Rattle.graph_text.specs.Rules.{NamesNoStep}
use Rattle.load_maker.specs.Loads.{in_order, lane_of, lane_ends, end_of, round_of, opening, load_lines}
use Rattle.load_maker.proofs.TextParts.{in_order-none, in_order-more}
use Rattle.load_maker.proofs.CleanLines.{clean_word, clean_number, clean_joined}
use Rattle.load_maker.proofs.Stages.{IsStage, Stands}
use Rattle.load_maker.proofs.GoodLines.{MayAdd, Grows, grows_append, join_follows, goes_there, forward_follows, AllStand}
use Rattle.load_maker.proofs.Lanes.{IsBehind, a_named, new_stands, stage_behind, lane_grows}

-- ---- a round

lanes_grow : (graph : Graph) (round lanes : ℕ) → round < 1000 → lanes ≤ 8 → IsBehind graph round 0
    → (after : Graph) × Grows graph (in_order (lane_of round) lanes) after × IsBehind after round lanes
lanes_grow graph round zero small few behind =
    (graph, subst (λ (lines : List Statement). Grows graph lines graph) (sym (in_order-none (lane_of round))) refl, behind)
lanes_grow graph round (suc lanes) small few behind =
    let before = lanes_grow graph round lanes small (omega (arith, few)) behind in
    let one = lane_grows before.0 round lanes small (omega (arith, few)) before.2 in (
      one.0,
      subst (λ (lines : List Statement). Grows graph lines one.0) (sym (in_order-more (lane_of round) lanes))
          (grows_append graph before.0 one.0 (in_order (lane_of round) lanes) (lane_of round lanes) before.1 one.1),
      one.2,
    )

-- The last step of a lane, by its distance from the round's first.
lane_end : (graph : Graph) (round lane far : ℕ) → IsBehind graph round 8 → lane < 8 → far ≡ 5 * lane + 5 → Stands graph (42 * round + far) 1
lane_end graph round lane far behind few is =
    subst (λ (n : ℕ). Stands graph n 1) (let same : 42 * round + 5 * lane + 5 ≡ 42 * round + far = omega (arith, is) in same) (behind.ends lane few)

-- No lane has ended yet.
no_end : (graph : Graph) (round lane : ℕ) → lane < 0 → Stands graph (42 * round + 5 * lane + 5) 1
no_end graph round lane never = absurd (omega (arith, never))

all_ends : (graph : Graph) (round : ℕ) → IsBehind graph round 8 → AllStand graph 1 (lane_ends (42 * round))
all_ends graph round behind =
    let end : (lane far : ℕ) → lane < 8 → far ≡ 5 * lane + 5 → Stands graph (42 * round + far) 1 = λ lane far few is. lane_end graph round lane far behind few is in
    (end 0 5 (omega arith) refl, (end 1 10 (omega arith) refl, (end 2 15 (omega arith) refl, (end 3 20 (omega arith) refl, (end 4 25 (omega arith) refl, (end 5 30 (omega arith) refl, (end 6 35 (omega arith) refl, (end 7 40 (omega arith) refl, tt))))))))

end_grows : (graph : Graph) (round : ℕ) → round < 1000 → IsBehind graph round 8 → (after : Graph) × Grows graph (end_of round) after × IsBehind after (suc round) 0
end_grows graph round small behind =
    let c = 42 * round in
    let s0 : IsStage graph (c + 41) = subst (λ (n : ℕ). IsStage graph n) (let same : 42 * round + 5 * 8 + 1 ≡ c + 41 = omega arith in same) behind.stage in
    let f1 = join_follows graph (c + 41) 1 (c + 5) ((c + 10) ∷ (c + 15) ∷ (c + 20) ∷ (c + 25) ∷ (c + 30) ∷ (c + 35) ∷ (c + 40) ∷ []) s0 (omega (arith, small)) (all_ends graph round behind) (omega arith) in
    let g1 = with_step graph f1.step in
    let s1 = stage_behind graph f1.step (c + 41) (c + 42) s0 (omega arith) in
    let p1 = new_stands graph (c + 41) _ 1 f1 s0 in
    let f2 = forward_follows g1 (c + 42) (c + 41) 1 0 (codes "a") s1 (omega (arith, small)) p1 refl (clean_word (codes "a") refl) (a_named g1 (c + 42) s1) in
    let g2 = with_step g1 f2.step in
    let s2 = stage_behind g1 f2.step (c + 42) (42 * suc round + 5 * 0 + 1) s1 (omega arith) in
    let p2 = new_stands g1 (c + 42) _ 0 f2 s1 in (
      g2,
      (AddStep f1.step, f1.may, (AddStep f2.step, f2.may, refl {a = g2})),
      record {
        stage = s2;
        first = subst (λ (n : ℕ). Stands g2 n 0) (let same : c + 42 ≡ 42 * suc round = omega arith in same) p2;
        ends = no_end g2 (suc round);
      },
    )

round_grows : (graph : Graph) (round : ℕ) → round < 1000 → IsBehind graph round 0 → (after : Graph) × Grows graph (round_of round) after × IsBehind after (suc round) 0
round_grows graph round small behind =
    let lanes = lanes_grow graph round 8 small (omega arith) behind in
    let end = end_grows lanes.0 round small lanes.2 in
    (end.0, grows_append graph lanes.0 end.0 (in_order (lane_of round) 8) (end_of round) lanes.1 end.1, end.2)

rounds_grow : (graph : Graph) (rounds : ℕ) → rounds ≤ 1000 → IsBehind graph 0 0 → (after : Graph) × Grows graph (in_order round_of rounds) after × IsBehind after rounds 0
rounds_grow graph zero few behind =
    (graph, subst (λ (lines : List Statement). Grows graph lines graph) (sym (in_order-none round_of)) refl, behind)
rounds_grow graph (suc rounds) few behind =
    let before = rounds_grow graph rounds (omega (arith, few)) behind in
    let one = round_grows before.0 rounds (omega (arith, few)) before.2 in (
      one.0,
      subst (λ (lines : List Statement). Grows graph lines one.0) (sym (in_order-more round_of rounds))
          (grows_append graph before.0 one.0 (in_order round_of rounds) (round_of rounds) before.1 one.1),
      one.2,
    )

-- ---- the opening and the step that is shown

abbrev service_a : graphs.Service
service_a = record { name = codes "a"; form = One; view = views.All }

abbrev service_b : graphs.Service
service_b = record { name = codes "b"; form = One; view = views.Nothing }

abbrev start : graphs.Step
start = record { service = 0; act = graphs.Start }

abbrev opened : Graph
opened = with_addition (with_addition (with_addition empty_graph (AddService service_a)) (AddService service_b)) (AddStep start)

-- A new service may be added.
declares_a : MayAdd empty_graph (Service One (codes "a") All) (AddService service_a)
declares_a = record {
  sound = (refl, tt);
  clean = clean_joined (codes "service" ∷ codes "a" ∷ codes "all" ∷ []) (clean_word (codes "service") refl, (clean_word (codes "a") refl, (clean_word (codes "all") refl, tt)));
  good = (
    (λ h. h, (λ late. late.1, (λ h. h, (λ again. cc (again.1), (λ h. h, (λ h. h, (λ h. h, (λ h. h, (λ h. h, (λ h. h, (λ h. h, (λ h. h, (λ h. h, tt))))))))))))),
    (views.All, refl, refl),
  );
}

declares_b : MayAdd (with_addition empty_graph (AddService service_a)) (Service One (codes "b") Nothing) (AddService service_b)
declares_b = record {
  sound = (refl, tt);
  clean = clean_joined (codes "service" ∷ codes "b" ∷ codes "none" ∷ []) (clean_word (codes "service") refl, (clean_word (codes "b") refl, (clean_word (codes "none") refl, tt)));
  good = (
    (λ h. h, (λ late. late.1, (λ h. h, (λ again. cc (again.1), (λ h. h, (λ h. h, (λ h. h, (λ h. h, (λ h. h, (λ h. h, (λ h. h, (λ h. h, (λ h. h, tt))))))))))))),
    (views.Nothing, refl, refl),
  );
}

-- The graph of both services.
abbrev declared : Graph
declared = with_addition (with_addition empty_graph (AddService service_a)) (AddService service_b)

starts : MayAdd declared (Step 0 (Start (codes "a"))) (AddStep start)
starts =
    record {
      sound = (omega arith, refl);
      clean = clean_joined (codes "start" ∷ decimal 0 ∷ codes "a" ∷ []) (clean_word (codes "start") refl, (clean_number 0 (omega arith), (clean_word (codes "a") refl, tt)));
      good = (
        (λ wrong. wrong refl, (λ late. late.1, (λ nowhere. goes_there declared (codes "a") 0 refl nowhere.0 nowhere.1 nowhere.2, (λ h. h, (λ h. h, (λ h. h, (λ h. h, (λ h. h, (λ h. h, (λ many. omega (arith, many), (λ h. h, (λ h. h, (λ h. h, tt))))))))))))),
        (0, graphs.Start, refl, refl, refl),
      );
    }

opening_grows : Grows empty_graph opening opened
opening_grows = (AddService service_a, declares_a, (AddService service_b, declares_b, (AddStep start, starts, refl)))

opened_behind : IsBehind opened 0 0
opened_behind = record { stage = record { services = refl; steps = refl; shows = refl }; first = refl; ends = no_end opened 0 }

show_grows : (graph : Graph) (n count : ℕ) → IsStage graph count → n < count → count < 100000 → Grows graph (Show n ∷ []) (with_show graph n)
show_grows graph n count stage less few =
    let late : NamesNoStep graph (Show n) → ⊥ = λ names. elim names.1 [ inl e ↦ (let steps = stage.steps in let behind = names.2 in omega (arith, less, e, steps, behind)) | inr never ↦ absurd never ] in (
      AddShow n,
      record {
        sound = omega (arith, less, few);
        clean = clean_joined (codes "show" ∷ decimal n ∷ []) (clean_word (codes "show") refl, (clean_number n (omega (arith, less, few)), tt));
        good = ((λ h. h, (late, (λ h. h, (λ h. h, (λ h. h, (λ h. h, (λ h. h, (λ h. h, (λ h. h, (λ h. h, (λ h. h, (λ h. h, (λ h. h, tt))))))))))))), refl);
      },
      refl,
    )

-- The graph of the load: one step more than 42 for each round, of which the last is shown.
pub load_grows : (rounds : ℕ) → rounds ≤ 1000
    → (graph : Graph) × Grows empty_graph (load_lines rounds) graph × (length graph.steps ≡ 42 * rounds + 1) × (graph.shows ≡ 42 * rounds ∷ [])
load_grows rounds few =
    let all = rounds_grow opened rounds few opened_behind in
    let graph = with_show all.0 (42 * rounds) in
    let stage = all.2.stage in (
      graph,
      grows_append empty_graph all.0 graph (opening ++ in_order round_of rounds) (Show (42 * rounds) ∷ [])
          (grows_append empty_graph opened all.0 opening (in_order round_of rounds) opening_grows all.1)
          (show_grows all.0 (42 * rounds) (42 * rounds + 5 * 0 + 1) stage (omega arith) (omega (arith, few))),
      (let count = stage.steps in omega (arith, count)),
      ap (λ (shows : List ℕ). shows ++ 42 * rounds ∷ []) stage.shows,
    )
