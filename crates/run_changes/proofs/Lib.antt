-- The first places of a list, taken one after another.
pub mod PutOneByOne
