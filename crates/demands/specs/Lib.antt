-- What the demands are said with, one file each: contracts, kinds of calls, worked cases. The statements, each in full under the sentence that it meets
-- and proved by citing, stand in proofs/, in files of the same paths. The words that they have in common stand in One.antt and in demands_laws/specs; Program.antt says what a program of the yard's calls is. A premise is a contract, by its name in One/Doors.
pub mod One
pub mod Program
pub mod Two
pub mod Three
pub mod Stars
