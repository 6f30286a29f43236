pub mod BagValues
pub mod Trees
