pub mod FirstBits
