-- What internal functions need: no public contract, law or document rests on it.
pub mod Others
