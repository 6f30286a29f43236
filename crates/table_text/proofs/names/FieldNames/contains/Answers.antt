use Rattle.std.proofs.Common.{◌≡◌, ◌||◌, take, sym, ap, ◌∙◌}
use Rattle.std.specs.List.{list_any}
use Rattle.std.specs.Str.{bytes_eq}
use Rattle.table_text.proofs.NameLists.{is_found, any_either}
use Rattle.table_text.proofs.names.FieldNames.contains.Goals as goal

pub returns-then-is_among : goal.returns-then-is_among
returns-then-is_among c =
    let name = c.args.name.now in
    let keys = c.self.inside.others.keys in
    let among : c.is_among.result ≡ list_any (λ other. bytes_eq name other.now) (take c.self.inside.count c.self.inside.first) = cc c.is_among.ensures in
    let same = any_either name (take c.self.inside.count c.self.inside.first) keys ∙ ap (λ b. b || is_found name keys) (sym among ∙ c.if-is_among.true) in
    cc (same, c.self.view_is)

pub returns-else-is_among : goal.returns-else-is_among
returns-else-is_among c =
    let name = c.args.name.now in
    let keys = c.self.inside.others.keys in
    let among : c.is_among.result ≡ list_any (λ other. bytes_eq name other.now) (take c.self.inside.count c.self.inside.first) = cc c.is_among.ensures in
    let same = any_either name (take c.self.inside.count c.self.inside.first) keys ∙ ap (λ b. b || is_found name keys) (sym among ∙ c.if-is_among.false) in
    cc (c.contains.ensures, same, c.self.view_is)
