-- How a socket's source waits.
use Rattle.std.specs.Prelude.{ℕ, ◌+◌, ◌-◌, ◌*◌, Option, None, Some, Bool, true, false, nat_lt, ◌&&◌, if◌then◌else◌}
use Rattle.srt_poller.specs.declared.density.Density.{Density}
use Rattle.srt_poller.specs.declared.pace.Pace.{Pace}
use Rattle.srt_poller.specs.declared.pace.Pause.{Pause}
use Rattle.srt_poller.specs.declared.pace.Pause.TheVariants.{Poll, Nap}

-- one more, up to a bound
abbrev pub one_more : (bound n : ℕ) → ℕ
one_more bound n = if nat_lt n bound then n + 1 else n

-- no datagram has arrived
abbrev pub none_counted : Density
none_counted = record { began = 0; count = 0; last = 0 }

-- after a datagram at a time: it counts for the millisecond that is counted, or begins the next one
abbrev pub counted : (moment : ℕ) → Density → Density
counted moment d = if nat_lt (moment - d.began) 1000
    then record { began = d.began; count = one_more 100 d.count; last = d.last }
    else record { began = moment; count = 1; last = if nat_lt (moment - d.began) 2000 then d.count else 0 }

-- before the first wait
abbrev pub at_first : Pace
at_first = record { more = false; warm = 0; read = 0; density = none_counted }

-- after a datagram at a time: there may be more
abbrev pub after_datagram : (moment : ℕ) → Pace → Pace
after_datagram moment p = record { more = true; warm = 100; read = one_more 64 p.read; density = counted moment p.density }

-- after a read that found none, or failed
abbrev pub after_end : Pace → Pace
after_end p = record { more = false; warm = p.warm; read = p.read; density = p.density }

-- after a send that is to be tried again
abbrev pub after_put_off : Pace → Pace
after_put_off p = record { more = p.more; warm = 100; read = p.read; density = p.density }

-- after a wait: one short wait less is left, unless there may be more to read
abbrev pub after_wait : Pace → Pace
after_wait p = record { more = p.more; warm = if p.more then p.warm else p.warm - 1; read = 0; density = p.density }

-- whether a nap takes the place of a short wait: 20 to 99 datagrams come in a millisecond, and the last round had some to
-- read, but few to read and few to send
abbrev pub is_nap : (sent : ℕ) → Pace → Bool
is_nap sent p = (nat_lt 19 p.density.last && nat_lt p.density.last 100) && (nat_lt 0 p.read && (nat_lt p.read 64 && nat_lt sent 64))

-- the next wait
abbrev pub pause : (sent : ℕ) → Pace → Pause
pause sent p = if p.more then Poll 0 else (if nat_lt 0 p.warm then (if is_nap sent p then Nap else Poll 1) else Poll 10)

-- the limit of this wait in nanoseconds, if it isn't a nap
abbrev pub limit : Pause → Option ℕ
limit (Poll millis) = Some (millis * 1_000_000)
limit Nap = None
