-- The gateway's socket, its clocks and its secret.
use Rattle.std.specs.Prelude.{◌≡◌, ℕ, Option}
use Rattle.std.specs.declared.net.socket_addr.SocketAddr.{SocketAddr}
use Rattle.srt_config.specs.declared.config.address.BindAddress.{BindAddress}
use Rattle.srt_cookie.specs.Cookie.{secret_bytes, secret_of_run}
use Rattle.srt_cookie.specs.declared.secret.Secret.{Secret}
use Rattle.srt_host.specs.Addresses.{IsAddressOf}
use Rattle.srt_host.specs.Times.{time_of}
use Rattle.srt_poller.specs.Sockets.{bound_at}
use Rattle.srt_poller.specs.SystemCalls.{notes_of, opening_notes}
use Rattle.srt_poller.specs.declared.sockets.MioSource.{MioSource}
use Rattle.srt_poller.specs.declared.sockets.MioWire.{MioWire}

-- The socket was opened at the address that the configuration names, by the calls that its source has noted, and its wire is of it
pub record IsAtBind {C : Type 0} (bind : BindAddress) (source : MioSource C) (wire : MioWire) : Type 0 where
  pub address : SocketAddr
  pub named : IsAddressOf bind address
  pub wired : bound_at wire ≡ address
  pub opened : notes_of source.calls ≡ opening_notes address

-- a secret is that of a run that starts at a time that the system's clock gave; 0 if it gave none
abbrev pub IsOfRun : (was_time : Option ℕ → Type 0) → (configured secret : Secret) → Type 0
IsOfRun was_time configured secret =
    (time : Option ℕ) × was_time time × (secret_bytes secret ≡ secret_of_run (secret_bytes configured) (time_of time))
