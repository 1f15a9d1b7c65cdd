-- The demands, one file each: each statement in full under the sentence that it meets, and proved by citing. The words that they are said with stand in
-- specs/ and in demands_laws/specs; specs/Program.antt says what a program of the yard's calls is. A premise is a contract, by its name in specs/One/Doors.
pub mod One
pub mod Program
pub mod Two
pub mod Three
pub mod Stars
