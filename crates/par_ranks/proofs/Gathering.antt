-- The lists of a row, from those of its chunks.
use Rattle.std.proofs.Common.{◌≡◌, ◌⊎◌, inl, inr, ℕ, zero, suc, ◌+◌, ◌-◌, ◌*◌, ◌/◌, ◌%◌, ◌<◌, ◌≤◌, min, Result, IfOk, List, [], ◌∷◌, ◌++◌, length, get_or, take, drop, refl, sym, ap, ◌∙◌, subst, length-append, arith}
use Rattle.std.proofs.lemmas.Bool.{cases_lt}
use Rattle.std.proofs.lemmas.List.{take_all, take_more, get_or_append_left, get_or-append-add}
use Rattle.std.proofs.lemmas.Grind.{div_ceil_times}
use Rattle.std.proofs.Math.Seq.{take-add}
use Rattle.std.specs.Fork.{slice_chunk}
use Rattle.context_model.specs.Atoms.{Atom}
use Rattle.bag_model.specs.Shapes.{Nodes}
use Rattle.trace_model.specs.Graphs.{Graph}
use Rattle.trace_model.specs.Runs.{Lists, list_at}
use Rattle.par_ranks.specs.Rows.{IsGiven, AreMade}

-- What was made for some steps and what was made for others.
pub made_together : (nodes : Nodes) (graph : Graph) (lists : Lists) (some others : List ℕ) (a b : Lists) → AreMade nodes graph lists some a → AreMade nodes graph lists others b
    → AreMade nodes graph lists (some ++ others) (a ++ b)
made_together nodes graph lists some others a b first second = record {
  as_many = let s = length-append some others in let l = length-append a b in let f = first.as_many in let o = second.as_many in omega (arith, s, l, f, o);
  each = λ k l. at k l (cases_lt k (length some));
}
  where
    at : (k : ℕ) → k < length (some ++ others) → (k < length some) ⊎ (length some ≤ k) → IsGiven nodes graph lists (get_or (some ++ others) k 0) (list_at (a ++ b) k)
    at k l (inl less) =
        let f = first.as_many in
        let step : get_or (some ++ others) k 0 ≡ get_or some k 0 = get_or_append_left some others 0 k less in
        let list : list_at (a ++ b) k ≡ list_at a k = get_or_append_left a b [] k (omega (arith, f, less)) in
        subst (λ (s : ℕ). IsGiven nodes graph lists s (list_at (a ++ b) k)) (sym step) (subst (IsGiven nodes graph lists (get_or some k 0)) (sym list) (first.each k less))
    at k l (inr more) =
        let f = first.as_many in
        let rest = k - length some in
        let split : length some + rest ≡ k = omega (arith, more) in
        let split_lists : length a + rest ≡ k = omega (arith, f, more) in
        let s = length-append some others in
        let step : get_or (some ++ others) k 0 ≡ get_or others rest 0 = ap (λ (i : ℕ). get_or (some ++ others) i 0) (sym split) ∙ get_or-append-add some others rest 0 in
        let list : list_at (a ++ b) k ≡ list_at b rest = ap (list_at (a ++ b)) (sym split_lists) ∙ get_or-append-add a b rest [] in
        subst (λ (p : ℕ). IsGiven nodes graph lists p (list_at (a ++ b) k)) (sym step)
        (subst (IsGiven nodes graph lists (get_or others rest 0)) (sym list) (second.each rest (omega (arith, s, l, more))))

-- One chunk more.
pub chunk_more : (nodes : Nodes) (graph : Graph) (lists : Lists) (row : List ℕ) (size n : ℕ) (a b : Lists) → AreMade nodes graph lists (take (n * size) row) a
    → AreMade nodes graph lists (slice_chunk row size n) b → AreMade nodes graph lists (take ((n + 1) * size) row) (a ++ b)
chunk_more nodes graph lists row size n a b first second =
    let more : n * size + size ≡ (n + 1) * size = omega arith in
    let joined : take (n * size) row ++ take size (drop (n * size) row) ≡ take ((n + 1) * size) row =
    sym (take-add (n * size) size row) ∙ ap (λ (k : ℕ). take k row) more in
    subst (λ (steps : List ℕ). AreMade nodes graph lists steps (a ++ b)) joined (made_together nodes graph lists (take (n * size) row) (slice_chunk row size n) a b first second)

-- The chunks are the row.
pub all_chunks : (nodes : Nodes) (graph : Graph) (lists : Lists) (row : List ℕ) (size n : ℕ) (made : Lists) → 0 < size → n ≡ length row / size + min 1 (length row % size)
    → AreMade nodes graph lists (take (n * size) row) made → AreMade nodes graph lists row made
all_chunks nodes graph lists row size n made some count are =
    let upto : length row ≤ n * size = subst (λ (k : ℕ). length row ≤ k * size) (sym count) (div_ceil_times (length row) size some).0 in
    subst (λ (steps : List ℕ). AreMade nodes graph lists steps made) (take_all (n * size) row upto) are

-- One list more.
pub made_more : (nodes : Nodes) (graph : Graph) (lists : Lists) (steps : List ℕ) (k : ℕ) (list : List Atom) (made new : Lists) → k < length steps → IsGiven nodes graph lists (get_or steps k 0) list
    → new ≡ made ++ list ∷ [] → AreMade nodes graph lists (take k steps) made → AreMade nodes graph lists (take (k + 1) steps) new
made_more nodes graph lists steps k list made new here gives added are =
    subst (λ (ls : Lists). AreMade nodes graph lists (take (k + 1) steps) ls) (sym added)
    (subst (λ (some : List ℕ). AreMade nodes graph lists some (made ++ list ∷ [])) (sym (take_more steps k 0 here))
    (made_together nodes graph lists (take k steps) (get_or steps k 0 ∷ []) made (list ∷ []) are (record { as_many = refl; each = λ j l. one j l })))
  where
    one : (j : ℕ) → j < 1 → IsGiven nodes graph lists (get_or (get_or steps k 0 ∷ []) j 0) (list_at (list ∷ []) j)
    one zero l = gives
    one (suc j) l = absurd (omega (arith, l))

-- The result of a chunk is what its place among all results says of it.
pub read_part : {T E : Type 0} (parts : List (Result T E)) (n : ℕ) (part : Result T E) (P : T → Type 0) → part ≡ get_or parts n part → IfOk (get_or parts n part) P → IfOk part P
read_part {T} {E} parts n part P is fact = subst (λ (r : Result T E). IfOk r P) (sym is) fact

-- The lists of a chunk more, after those that were gathered.
pub gathered : (nodes : Nodes) (graph : Graph) (lists : Lists) (row : List ℕ) (size n next : ℕ) (made part new : Lists) → next ≡ n + 1 → AreMade nodes graph lists (take (n * size) row) made
    → AreMade nodes graph lists (slice_chunk row size n) part → new ≡ made ++ part → AreMade nodes graph lists (take (next * size) row) new
gathered nodes graph lists row size n next made part new is first second added =
    subst (λ (k : ℕ). AreMade nodes graph lists (take (k * size) row) new) (sym is)
    (subst (λ (ls : Lists). AreMade nodes graph lists (take ((n + 1) * size) row) ls) (sym added) (chunk_more nodes graph lists row size n made part first second))
