-- A list that has been filled place by place, and tables filled as at the opening.
pub mod Filled
pub mod OpenedTables
