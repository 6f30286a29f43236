use Rattle.std.proofs.Common.{◌++◌, ap, ◌∙◌}
use Rattle.std.specs.Option.{option_to_list}
use Rattle.write_proof.proofs.TogetherCalls.{join_alike, joins_last}
use Rattle.write_proof.proofs.used.join_last.Goals as goal

pub join-requires : goal.join-requires
join-requires c =
    join_alike c.args.parts.now.items c.pop.new.self.items c.pop-2.new.self.items c.unwrap-joined.result c.unwrap-last.result (c.pop.ensures.items ∙ ap (λ o. c.pop.new.self.items ++ option_to_list o) c.unwrap-last.ensures)
    (c.pop-2.ensures.items ∙ ap (λ o. c.pop-2.new.self.items ++ option_to_list o) c.unwrap-joined.ensures) c.requires

pub returns : goal.returns
returns c =
    joins_last c.args.parts.now.items c.pop.new.self.items c.pop-2.new.self.items c.push.new.self.items c.unwrap-joined.result c.unwrap-last.result c.join.new.self
    (c.pop.ensures.items ∙ ap (λ o. c.pop.new.self.items ++ option_to_list o) c.unwrap-last.ensures) (c.pop-2.ensures.items ∙ ap (λ o. c.pop-2.new.self.items ++ option_to_list o) c.unwrap-joined.ensures)
    c.in_ok-join.ensures.ok c.in_ok-push.ensures.items
