-- How a device counts its failures.
use Rattle.std.specs.Prelude.{ℕ}
use Rattle.srt_poller.specs.declared.devices.Polled.{Polled}
use Rattle.srt_poller.specs.declared.devices.Polled.TheVariants as polled
use Rattle.srt_poller.specs.declared.devices.Read.{Read}
use Rattle.srt_poller.specs.declared.devices.Read.TheVariants as read
use Rattle.srt_poller.specs.declared.devices.Sent.{Sent}
use Rattle.srt_poller.specs.declared.devices.Sent.TheVariants as sent
use Rattle.srt_poller.specs.Reports.{one_more}

-- the number of failures after this wait, and after this read or send
abbrev pub failures_after_wait : Polled → ℕ → ℕ
failures_after_wait polled.Ready n = n
failures_after_wait polled.Failed n = one_more n

abbrev pub failures_after_read : Read → ℕ → ℕ
failures_after_read (read.Datagram peer len moment) n = n
failures_after_read read.Empty n = n
failures_after_read read.Failed n = one_more n

abbrev pub failures_after_send : Sent → ℕ → ℕ
failures_after_send sent.Taken n = n
failures_after_send sent.Later n = n
failures_after_send sent.Failed n = one_more n
