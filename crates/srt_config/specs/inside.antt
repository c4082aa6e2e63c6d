-- What proofs and internal functions need: no public contract, law or document rests on it.
pub mod AccessParts
pub mod EncryptionParts
pub mod RouteParts
pub mod Sections
