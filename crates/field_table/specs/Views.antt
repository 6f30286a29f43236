-- The views of the code as plain ones.
use Rattle.bag_model.specs.Views as model
use Rattle.field_table.specs.declared.views.View.{View}
use Rattle.field_table.specs.declared.views.View.TheVariants.{All, Nothing, Only}

-- The plain view.
abbrev pub plain_view_of : View → model.View
plain_view_of All = model.View.All
plain_view_of Nothing = model.View.Nothing
plain_view_of (Only slots) = model.View.Only slots
