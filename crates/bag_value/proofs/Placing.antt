-- The loop that joins a bag's values in place: the news so far in place of the values, and then the joins of what is left of
-- both lists.
use Rattle.std.specs.Prelude.{◌≡◌, ℕ, ◌+◌, ◌<◌, ◌≤◌, List, [], ◌∷◌, ◌++◌, map, length}
use Rattle.std.proofs.Common.{refl, sym, ap, ◌∙◌, subst, arith, get_or, drop, take, set}
use Rattle.std.proofs.lemmas.List.{take_more, take_more_set, take_all, drop-drop, drop-set-lt, length-set, drop_more}
use Rattle.context_model.proofs.MergeSteps.{drop-place}
use Rattle.bag_model.specs.Joins.{join, join_values, Alike, AreAlike, Proper, AreProper, IsBottom}
use Rattle.bag_model.proofs.JoinLaws.{Alike-back, join-commutes, join-bottom}
use Rattle.bag_value.specs.declared.vals.Val.{Val}
use Rattle.bag_value.specs.InPlace.{with_news, AreForFields}
use Rattle.bag_value.specs.Vals.{plain, plain_values}
use Rattle.bag_value.proofs.Joining.{rest_joined, within_second, values_alike, values_step, values_end}

pub with_news-push : (vs : List Val) (news : List (ℕ × Val)) (at : ℕ) (v : Val) → with_news vs (news ++ (at, v) ∷ []) ≡ set (with_news vs news) at v
with_news-push vs [] at v = refl
with_news-push vs (new ∷ news) at v = with_news-push (set vs new.0 new.1) news at v

pub length-with_news : (vs : List Val) (news : List (ℕ × Val)) → length (with_news vs news) ≡ length vs
length-with_news vs [] = refl
length-with_news vs (new ∷ news) = length-with_news (set vs new.0 new.1) news ∙ length-set vs new.0 new.1

AreForFields-push : (count : ℕ) (news : List (ℕ × Val)) (at : ℕ) (v : Val) → AreForFields count news → at < count → AreForFields count (news ++ (at, v) ∷ [])
AreForFields-push count [] at v all within = (within, tt)
AreForFields-push count (new ∷ news) at v all within = (all.0, AreForFields-push count news at v all.1 within)

-- The joins up to a place are in the news.
pub record IsJoinedTo (vs ws : List Val) (news : List (ℕ × Val)) (i : ℕ) : Type 0 where
  pub first_proper : AreProper (plain_values (drop i vs))
  pub second_proper : AreProper (plain_values (drop i ws))
  pub alike : AreAlike (plain_values (drop i vs)) (plain_values (drop i ws))
  pub fields : AreForFields (length vs) news
  pub behind : drop i (with_news vs news) ≡ drop i vs
  pub so_far : map plain (take i (with_news vs news)) ++ rest_joined (drop i vs) (drop i ws) ≡ rest_joined vs ws

pub joined_begins : (vs ws : List Val) → AreProper (plain_values vs) → AreProper (plain_values ws) → AreAlike (plain_values vs) (plain_values ws) → IsJoinedTo vs ws [] 0
joined_begins vs ws p q a = record { first_proper = p; second_proper = q; alike = a; fields = tt; behind = refl; so_far = refl }

module _ (vs ws : List Val) (news : List (ℕ × Val)) (i : ℕ) (v w : Val) (in_first : i < length vs) (is_first : v ≡ get_or vs i v) (is_second : w ≡ get_or ws i w)
    (joined : IsJoinedTo vs ws news i) where
  in_second : i < length ws
  in_second = within_second vs ws i in_first joined.alike

  alike_here : Alike (plain v) (plain w) × AreAlike (plain_values (drop (i + 1) vs)) (plain_values (drop (i + 1) ws))
  alike_here = values_alike vs ws i v w in_first in_second is_first is_second joined.alike

  proper_first : Proper (plain v) × AreProper (plain_values (drop (i + 1) vs))
  proper_first = subst (λ (l : List Val). AreProper (plain_values l)) (drop-place vs i v in_first is_first) joined.first_proper

  proper_second : Proper (plain w) × AreProper (plain_values (drop (i + 1) ws))
  proper_second = subst (λ (l : List Val). AreProper (plain_values l)) (drop-place ws i w in_second is_second) joined.second_proper

  inside : i < length (with_news vs news)
  inside = omega (arith, length-with_news vs news)

  after : drop (i + 1) (with_news vs news) ≡ drop (i + 1) vs
  after = sym (drop-drop 1 i (with_news vs news)) ∙ ap (drop 1) joined.behind ∙ drop-drop 1 i vs

  stands : get_or (with_news vs news) i v ≡ v
  stands =
      let there = drop_more (with_news vs news) i v inside in
      let here = drop-place vs i v in_first is_first in
      let same = joined.behind in
      cc (there, here, same)

  -- The values of the place can be joined.
  pub joined_alike : Alike (plain v) (plain w)
  joined_alike = alike_here.0

  -- A value that says nothing leaves the one that is there.
  stays : IsBottom (plain w) → plain v ≡ join (plain v) (plain w)
  stays none =
      sym (join-bottom (plain w) (plain v) proper_second.0 proper_first.0 (Alike-back (plain v) (plain w) proper_first.0 proper_second.0 alike_here.0) none)
      ∙ sym (join-commutes (plain v) (plain w) proper_first.0 proper_second.0 alike_here.0)

  pub joined_stays : IsBottom (plain w) → IsJoinedTo vs ws news (i + 1)
  joined_stays none = record {
    first_proper = proper_first.1;
    second_proper = proper_second.1;
    alike = alike_here.1;
    fields = joined.fields;
    behind = after;
    so_far =
        ap (λ l. map plain l ++ rest_joined (drop (i + 1) vs) (drop (i + 1) ws)) (take_more (with_news vs news) i v inside ∙ ap (λ u. take i (with_news vs news) ++ u ∷ []) stands)
        ∙ values_step vs ws i v w in_first in_second is_first is_second (take i (with_news vs news)) v (stays none) joined.so_far;
  }

  -- The join is put at the end of the news.
  pub joined_more : (d : Val) → plain d ≡ join (plain v) (plain w) → IsJoinedTo vs ws (news ++ (i, d) ∷ []) (i + 1)
  joined_more d made = record {
    first_proper = proper_first.1;
    second_proper = proper_second.1;
    alike = alike_here.1;
    fields = AreForFields-push (length vs) news i d joined.fields in_first;
    behind = ap (drop (i + 1)) (with_news-push vs news i d) ∙ drop-set-lt (i + 1) (with_news vs news) i d (omega arith) ∙ after;
    so_far =
        ap (λ l. map plain l ++ rest_joined (drop (i + 1) vs) (drop (i + 1) ws)) (ap (take (i + 1)) (with_news-push vs news i d) ∙ take_more_set (with_news vs news) i d inside)
        ∙ values_step vs ws i v w in_first in_second is_first is_second (take i (with_news vs news)) d made joined.so_far;
  }

-- Where nothing is left, the news make the joins of all.
pub joined_ends : (vs ws : List Val) (news : List (ℕ × Val)) (i : ℕ) → length vs ≤ i → IsJoinedTo vs ws news i → plain_values (with_news vs news) ≡ join_values (plain_values vs) (plain_values ws)
joined_ends vs ws news i over joined =
    ap plain_values (sym (take_all i (with_news vs news) (omega (arith, length-with_news vs news, over))))
    ∙ values_end vs ws (take i (with_news vs news)) i over joined.so_far
