-- In reading order: a watch and its run, how the time stands, and the same of the whole history.
pub mod Watches
pub mod Standing
pub mod History
