use Rattle.request_model.proofs.RequestLaws.{requests_are_faithful}
use Rattle.request_model.proofs.laws.requests_are_faithful.Goals as goal

pub returns : goal.returns
returns c = requests_are_faithful c.excerpts_are_views.ensures c.excerpts_write_alike.ensures c.cuts_are_told.ensures c.nothing_else_leaves.ensures
