-- How a run ends.
use Rattle.std.specs.Prelude.{◌≡◌, Bool, true, Result, Ok, Err}
use Rattle.srt_offline.specs.declared.faults.OfflineFault.{OfflineFault}
use Rattle.srt_offline.specs.declared.faults.OfflineFault.TheVariants.{Memory}
use Rattle.srt_offline.specs.Ends.{is_printed as is_offline_printed}
use Rattle.srt_poller.specs.declared.sockets.BindFault.TheVariants.{Socket}
use Rattle.srt_host.specs.declared.watching.WatcherFault.{WatcherFault}
use Rattle.srt_host.specs.declared.watching.WatcherFault.TheVariants as watchers
use Rattle.srtgw.specs.declared.faults.Fault.{Fault}
use Rattle.srtgw.specs.declared.faults.Fault.TheVariants.{Offline, Bind, Run}

-- a fault is printed as a line, unless it is that of an output that can't be written
abbrev pub is_printed : Fault → Bool
is_printed (Offline fault) = is_offline_printed fault
is_printed (Bind fault) = true
is_printed (Run fault) = true

-- the fault of a run without a watcher: its status page's socket counts as the gateway's own
abbrev pub fault_of : WatcherFault → Fault
fault_of (watchers.Page number) = Bind (Socket number)
fault_of watchers.OutOfMemory = Offline Memory

-- how a command ends that opens no socket
abbrev pub offline_end : Result (Unit {0}) OfflineFault → Result (Unit {0}) Fault
offline_end (Ok done) = Ok done
offline_end (Err fault) = Err (Offline fault)

-- a fault of the routes' threads or their memory, and no other
abbrev pub IsOfRouting : Fault → Type 0
IsOfRouting (Offline fault) = ⊥
IsOfRouting (Bind fault) = ⊥
IsOfRouting (Run fault) = Unit {0}

-- a fault of the socket, of memory or of the routes: none of a file, and none of the output
abbrev pub IsOfServing : Fault → Type 0
IsOfServing (Offline fault) = fault ≡ Memory
IsOfServing (Bind fault) = Unit {0}
IsOfServing (Run fault) = Unit {0}
