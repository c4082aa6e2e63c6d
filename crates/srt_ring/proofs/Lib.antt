pub mod BufferPlaces
