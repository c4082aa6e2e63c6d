-- The machine and the configuration's file.
use Rattle.std.specs.Prelude.{ℕ, List, Option}
use Rattle.srt_config.specs.declared.config.address.BindAddress.{BindAddress}
use Rattle.srt_host.specs.declared.clock.Since.{Since}
use Rattle.srt_host.specs.declared.host.Host.{Host}
use Rattle.srt_host.specs.declared.host.HostFile.{HostFile}

-- at which address the gateway's socket is
abbrev pub bind_of : {R : Type 0} → Host R → BindAddress
bind_of host = host.bind

-- the routes' clock
abbrev pub since_of : {R : Type 0} → Host R → Since R
since_of host = host.since

-- the bytes that the kernel holds for datagrams at that socket, and the start of the process since 1970, in microseconds; none if unknown
abbrev pub buffer_of : {R : Type 0} → Host R → Option ℕ
buffer_of host = host.receive_buffer

abbrev pub began_of : {R : Type 0} → Host R → Option ℕ
began_of host = host.began

-- the path of the file
abbrev pub path_of : {R : Type 0} → HostFile R → List ℕ
path_of file = file.path.now
