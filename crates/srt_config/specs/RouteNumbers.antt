-- The numbers of a route, as plain values.
use Rattle.srt_config.specs.declared.config.routes.RouteNumbers.{RouteNumbers}
use Rattle.srt_config.specs.Routes.{Numbers}

abbrev pub numbers_of : RouteNumbers → Numbers
numbers_of n = record { latency_ms = n.latency_ms; buffer = n.buffer; sessions = n.sessions; inbox = n.inbox; outbox = n.outbox }
