-- What a machine in memory says.
use Rattle.std.specs.Prelude.{ℕ, Bool, Option}
use Rattle.srt_status.specs.declared.gateway.ProcessUse.{ProcessUse}

-- its clocks in microseconds, whether a signal to stop has arrived, its memory in bytes, the datagrams that were dropped, what the process uses
-- besides, and the bytes that the kernel holds for datagrams
pub record MachineState : Type 0 where
  pub moment : ℕ
  pub time : ℕ
  pub stops : Bool
  pub memory : Option ℕ
  pub drops : Option ℕ
  pub process : ProcessUse
  pub receive_buffer : Option ℕ
