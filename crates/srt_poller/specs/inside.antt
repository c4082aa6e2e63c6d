-- What proofs and internal functions need: no public contract, law or document rests on it.
pub mod Served
pub mod Visits
