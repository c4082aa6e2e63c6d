-- The clocks of a run.
use Rattle.srt_host.specs.declared.clock.Since.{Since}
use Rattle.srtgw.specs.declared.clocks.ClockPoller.{ClockPoller}
use Rattle.srtgw.specs.declared.clocks.ClockTicker.{ClockTicker}

-- the routes' clock, as the poller has it, and as the ticking thread has it
abbrev pub polled_by : {R : Type 0} → ClockPoller R → Since R
polled_by clock = clock.since

abbrev pub ticked_by : {R : Type 0} → ClockTicker R → Since R
ticked_by clock = clock.since
