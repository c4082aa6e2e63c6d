-- The watcher with which a run begins.
use Rattle.std.specs.Prelude.{◌≡◌, ℕ, Bool, true, false, List, [], ◌∷◌, ◌++◌, map, Option, None, Some}
use Rattle.std.specs.Fmt.Cut.{IsTextOrCut}
use Rattle.std.specs.Fmt.InlineText.{inline_text}
use Rattle.std.specs.declared.fmt.InlineText.{InlineText}
use Rattle.std.specs.declared.net.socket_addr.SocketAddr.{SocketAddr}
use Rattle.srt_types.specs.Terms.{Terms}
use Rattle.srt_command_line.specs.declared.tasks.Manner.{Manner}
use Rattle.srt_config.specs.declared.config.address.BindAddress.{BindAddress}
use Rattle.srt_explain.specs.declared.warnings.Warning.{Warning}
use Rattle.srt_explain.specs.Texts.{line_for}
use Rattle.srt_explain.specs.Warnings.{names_missing_key}
use Rattle.srt_watch.specs.declared.first_lines.Start.{Start}
use Rattle.srt_watch.specs.declared.log.LogForm.{LogForm}
use Rattle.srt_watch.specs.declared.watched_routes.WatchedRoutes.{WatchedRoutes}
use Rattle.srt_watch.specs.Expecting.{AreExpecting}
use Rattle.srt_watch.specs.FirstLines.{HasWarned}
use Rattle.srt_watch.specs.FirstRoutes.{HasOpened}
use Rattle.srt_host.specs.declared.host.Host.{Host}
use Rattle.srt_host.specs.declared.socket.ServedSocket.{ServedSocket}
use Rattle.srt_host.specs.Addresses.{served_port}
use Rattle.srt_host.specs.Clock.{start_of, last_of}
use Rattle.srt_host.specs.Hosts.{since_of, bind_of, buffer_of}

-- The machine is that of this socket, of a configuration with that address: its clock is 0 at the socket's start, its address has the port
-- that the system chose, and it has the socket's buffer
pub record HasMachine {R : Type 0} (bind : BindAddress) (socket : ServedSocket) (host : Host R) : Type 0 where
  pub start : (start_of (since_of host) ≡ socket.start) × (last_of (since_of host) ≡ 0)
  pub address : ((bind_of host).ip ≡ bind.ip) × ((bind_of host).port ≡ served_port bind.port socket.address)
  pub buffer : buffer_of host ≡ socket.receive_buffer

-- the log has the form that the command line asks for
abbrev pub HasForm : Manner → LogForm → Type 0
HasForm manner form = (form.is_timed ≡ manner.is_timed) × (form.is_json ≡ manner.is_json)

-- its first line has that address and the workers of the configuration; the run lasts as long as the command line says
abbrev pub Begins : BindAddress → (bound : Option SocketAddr) → (workers : ℕ) → Manner → Option Start → Type 0
Begins bind bound workers manner None = ⊥
Begins bind bound workers manner (Some start) =
    (start.ip ≡ bind.ip) × (start.port ≡ served_port bind.port bound) × (start.workers ≡ workers) × (start.lasts ≡ manner.lasts)

-- the routes are those of the configuration, and those are expected on air that it expects so
abbrev pub AreFirstRoutes : List Terms → (expected : List Bool) → WatchedRoutes → Type 0
AreFirstRoutes terms expected routes = (opened : WatchedRoutes) × HasOpened terms opened × AreExpecting opened routes expected

-- the warnings that a run tells: all but those of missing keys
abbrev pub told_if : (is_missing : Bool) → Warning → List Warning
told_if true warning = []
told_if false warning = warning ∷ []

abbrev pub told_warnings : List Warning → List Warning
told_warnings [] = []
told_warnings (warning ∷ warnings) = told_if (names_missing_key warning) warning ++ told_warnings warnings

-- these texts, of which a long one may be cut
abbrev pub AreTexts : List (List ℕ) → List (InlineText 512) → Type 0
AreTexts [] [] = Unit {0}
AreTexts [] (text ∷ texts) = ⊥
AreTexts (line ∷ lines) [] = ⊥
AreTexts (line ∷ lines) (text ∷ texts) = IsTextOrCut 512 line (inline_text text) × AreTexts lines texts

-- the warnings of a configuration, for the log, in order
abbrev pub AreWarnings : List Terms → List Warning → List (InlineText 512) → Type 0
AreWarnings terms warnings = AreTexts (map (line_for terms) (told_warnings warnings))

-- one more of these is told, if it is
abbrev pub TellsOne : (is_missing : Bool) → (line : List ℕ) → (old new : List (InlineText 512)) → Type 0
TellsOne true line old new = new ≡ old
TellsOne false line old new = HasWarned (Some line) old new
