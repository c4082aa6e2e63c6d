-- The labels of families that are counted by a cause, and the count of each.
use Rattle.std.specs.Prelude.{ℕ, ◌+◌, ◌-◌, ◌^◌, min, List, [], ◌∷◌, codes, Option, None, Some}
use Rattle.srt_route.specs.declared.ledger.EndCause.{EndCause}
use Rattle.srt_route.specs.declared.ledger.EndCause.TheVariants as ends
use Rattle.srt_status.specs.declared.gateway.CauseCounts.{CauseCounts}
use Rattle.srt_status.specs.declared.route_status.EndCounts.{EndCounts}
use Rattle.srt_status.specs.declared.labels.Cause.{Cause}
use Rattle.srt_status.specs.declared.labels.Cause.TheVariants as causes
use Rattle.srt_status.specs.declared.labels.Ending.{Ending}
use Rattle.srt_status.specs.declared.labels.Ending.TheVariants as endings

-- a cause for which the lobby refuses with 1002
abbrev pub cause_label : Cause → List ℕ
cause_label causes.NoName = codes "no_name"
cause_label causes.UnknownName = codes "unknown_name"
cause_label causes.PublishFrom = codes "publish_from"
cause_label causes.RequestFrom = codes "request_from"
cause_label causes.PublishKey = codes "publish_key"
cause_label causes.RequestKey = codes "request_key"

-- how many were refused for it
abbrev pub cause_count : Cause → CauseCounts → ℕ
cause_count causes.NoName counts = counts.no_name
cause_count causes.UnknownName counts = counts.unknown_name
cause_count causes.PublishFrom counts = counts.publish_from
cause_count causes.RequestFrom counts = counts.request_from
cause_count causes.PublishKey counts = counts.publish_key
cause_count causes.RequestKey counts = counts.request_key

-- all causes, in the order in which they are shown
abbrev pub all_causes : List Cause
all_causes = causes.NoName ∷ causes.UnknownName ∷ causes.PublishFrom ∷ causes.RequestFrom ∷ causes.PublishKey ∷ causes.RequestKey ∷ []

-- the reason of an end
abbrev pub end_label : Ending → List ℕ
end_label endings.Shutdown = codes "shutdown"
end_label endings.DrainedTooLong = codes "drained_too_long"
end_label endings.Silence = codes "silence"
end_label endings.WindowLost = codes "window_lost"
end_label endings.StreamEnd = codes "stream_end"
end_label endings.RouteClosed = codes "route_closed"
end_label endings.Unknown = codes "unknown"

-- how many sessions ended for it
abbrev pub end_count : Ending → EndCounts → ℕ
end_count endings.Shutdown counts = counts.shutdown
end_count endings.DrainedTooLong counts = counts.drained_too_long
end_count endings.Silence counts = counts.silence
end_count endings.WindowLost counts = counts.window_lost
end_count endings.StreamEnd counts = counts.stream_end
end_count endings.RouteClosed counts = counts.route_closed
end_count endings.Unknown counts = counts.unknown

-- all of them, in the order in which they are shown
abbrev pub all_endings : List Ending
all_endings =
    endings.Shutdown ∷ endings.DrainedTooLong ∷ endings.Silence ∷ endings.WindowLost ∷ endings.StreamEnd ∷ endings.RouteClosed
    ∷ endings.Unknown ∷ []

-- one more, up to 2^64 - 1
abbrev pub one_more : ℕ → ℕ
one_more n = min (n + 1) (2 ^ 64 - 1)

-- the counts after an end for this reason, or for one that isn't known
abbrev pub with_end : EndCounts → Option EndCause → EndCounts
with_end counts None = record counts { unknown = one_more counts.unknown }
with_end counts (Some ends.Shutdown) = record counts { shutdown = one_more counts.shutdown }
with_end counts (Some ends.Drained) = record counts { shutdown = one_more counts.shutdown }
with_end counts (Some ends.DrainedTooLong) = record counts { drained_too_long = one_more counts.drained_too_long }
with_end counts (Some ends.Silence) = record counts { silence = one_more counts.silence }
with_end counts (Some ends.WindowLost) = record counts { window_lost = one_more counts.window_lost }
with_end counts (Some ends.FileEnded) = record counts { stream_end = one_more counts.stream_end }
with_end counts (Some ends.Closed) = record counts { route_closed = one_more counts.route_closed }
