-- What a map from names to contents holds, once a name is put into it.
use Rattle.std.proofs.Common.{◌≡◌, ℕ, Bool, true, false, if◌then◌else◌, List, Some, Option, String, refl, ap, ◌∙◌, take, length, min, subst, string_bytes}
use Rattle.std.specs.BTreeMap.{BTreeMap, UpdatesBy, get_by_text}
use Rattle.std.specs.Cmp.Lexicographic.{slice_cmp}
use Rattle.std.specs.Global.{Global, Vec}
use Rattle.std.specs.Option.{option_map}
use Rattle.std.specs.Ordering.{nat_cmp}
use Rattle.std.specs.Str.{bytes_eq}
use Rattle.std.specs.String.{string_cmp}
use Rattle.std.proofs.lemmas.List.{take_min}
use Rattle.std.proofs.lemmas.Map.Text.{btree_map_updates_text}
use Rattle.outside.specs.Libraries.{held_in}
use Rattle.outside.specs.Transfers.{with_file, fetched}
use Rattle.outside.specs.declared.TheConstants.{FETCH_MAX}

-- A choice between two contents, seen as bytes.
chosen : (here : Bool) (content : Vec ℕ) (bytes : List ℕ) (before : Option (Vec ℕ)) → content.items ≡ bytes
    → option_map (λ v. v.items) (if here then Some content else before) ≡ (if here then Some bytes else option_map (λ v. v.items) before)
chosen true content bytes before is = ap Some is
chosen false content bytes before is = refl

-- A map with one more key holds one more file.
pub held_more : (name bytes : List ℕ) (old new : BTreeMap (String Global) (Vec ℕ)) (content : Vec ℕ) → content.items ≡ bytes
    → UpdatesBy string_cmp (λ k. slice_cmp nat_cmp name (string_bytes k)) old new (Some content) → held_in new ≡ with_file name bytes (held_in old)
held_more name bytes old new content is updates =
    λ i. Some (λ other. (ap (option_map (λ v. v.items)) (btree_map_updates_text name old new (Some content) updates other) ∙ chosen (bytes_eq name other) content bytes (get_by_text old other) is) i)

-- What is fetched of a file that the map has.
pub fetched_found : (name : List ℕ) (contents : BTreeMap (String Global) (Vec ℕ)) (content : Vec ℕ) (count : ℕ) (bytes : List ℕ) → Some content ≡ get_by_text contents name
    → count ≡ min FETCH_MAX (length content.items) → bytes ≡ take count content.items → Some bytes ≡ option_map fetched (option_map (λ v. v.items) (get_by_text contents name))
unfolding fetched
fetched_found name contents content count bytes found len is =
    subst (λ (o : Option (Vec ℕ)). Some bytes ≡ option_map fetched (option_map (λ v. v.items) o)) found
    (ap Some (is ∙ ap (λ n. take n content.items) len ∙ take_min FETCH_MAX content.items))
