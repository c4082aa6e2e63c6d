-- The two publisher buffers of a route.
use Rattle.std.specs.Prelude.{ℕ, Bool, true, false}
use Rattle.srt_route.specs.declared.publisher_buffers.PublisherBuffers.{PublisherBuffers}
use Rattle.srt_route.specs.declared.publisher_buffers.PublisherBuffers.TheVariants.{First, Second}

-- the index of publisher buffers in the route's table
abbrev pub place_of : PublisherBuffers → ℕ
place_of First = 0
place_of Second = 1

-- the other buffers: the second for the first, and the first for the second
abbrev pub other_buffers : PublisherBuffers → PublisherBuffers
other_buffers First = Second
other_buffers Second = First

-- whether both are the same buffers
abbrev pub is_same : (these those : PublisherBuffers) → Bool
is_same First First = true
is_same First Second = false
is_same Second First = false
is_same Second Second = true
