use Rattle.srt_streamid.proofs.Exact.{ask_is_read, fault_is_read}
use Rattle.srt_streamid.proofs.laws.meanings.Goals as goal

pub returns : goal.returns
returns c = record { asks = ask_is_read; faults = fault_is_read }
