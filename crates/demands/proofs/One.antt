-- DEMAND 1: its statements, each proved by citing. The words that they are said with stand in specs/One.antt. Assumes nothing.
pub mod Doors
pub mod Inner
pub mod Alike
pub mod Numbers
pub mod Only
pub mod Looks
pub mod AnyTables
