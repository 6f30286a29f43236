-- What a bag holds.
use Rattle.bag_model.specs.Values.{Value, Values, Bag, no_value}

-- The values of a bag's fields; of any other value none.
abbrev pub bag_values : Value → Values
bag_values (Bag vs) = vs
bag_values other = no_value
