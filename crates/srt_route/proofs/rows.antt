-- Computed examples, from the bytes of datagrams to the bytes of replies; the checker evaluates each.
pub mod Rows
pub mod ShiftRows
pub mod Closings
pub mod SentAgain
