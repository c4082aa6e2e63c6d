use Rattle.srt_hub.proofs.Unaccepted.{full_is, full_tick_is, blocked_is, idle_is, refused_is, lobby_alone}
use Rattle.srt_hub.proofs.laws.refusals.Goals as goal

pub returns : goal.returns
returns c = record { full = full_is; full_tick = full_tick_is; blocked = blocked_is; idle = idle_is; memory = refused_is; lobby = lobby_alone }
