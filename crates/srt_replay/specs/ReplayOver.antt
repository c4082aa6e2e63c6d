-- A replay over a gateway without events so far, and over the gateway of a configuration.
use Rattle.std.specs.Prelude.{ℕ, List, [], Option, Result, map}
use Rattle.srt_cookie.specs.Cookie.{secret_bytes}
use Rattle.srt_types.specs.Terms.{Terms, terms_of}
use Rattle.srt_lobby.specs.Lobby.{class_of}
use Rattle.srt_route.specs.Route.{reply}
use Rattle.srt_hub.specs.World.{Meaning}
use Rattle.srt_hub.specs.Calls.{Past, SortingFor}
use Rattle.srt_config.specs.declared.config.Config.{Config}
use Rattle.srt_replay.specs.declared.reader.CountedReader.{CountedReader}
use Rattle.srt_replay.specs.declared.writer.CountedWriter.{CountedWriter}
use Rattle.srt_replay.specs.declared.replaying.ReplayFault.{ReplayFault}
use Rattle.srt_replay.specs.Counted.{source}
use Rattle.srt_replay.specs.Tries.{sink}
use Rattle.srt_replay.specs.Replay.{Replays}

-- the replay over a gateway that was opened with any secret and entries, and had no event since
abbrev pub ReplaysOver : {X B W : Type 0} → (Stands : X → Past) → X → SortingFor → Meaning → (remaining : B → Option (List ℕ))
    → CountedReader B → (contents : W → Option (List ℕ)) → (old new : CountedWriter W) → Result (Unit {0}) ReplayFault
    → Type 0
ReplaysOver Stands hub class reply remaining reader contents old new result =
    (secret : List ℕ) (entries : List Terms) → Stands hub secret entries [] →
    Replays (class secret) reply entries (remaining (source reader)) (contents (sink old)) (contents (sink new)) result

-- the replay over the gateway of this configuration, with the real lobby and the real routes
abbrev pub ReplaysOf : {B W : Type 0} → Config → (remaining : B → Option (List ℕ)) → CountedReader B → (contents : W → Option (List ℕ))
    → (old new : CountedWriter W) → Result (Unit {0}) ReplayFault
    → Type 0
ReplaysOf config remaining reader contents old new result =
    let entries = map terms_of config.entries.items in
    Replays (class_of (secret_bytes config.secret)) reply entries (remaining (source reader)) (contents (sink old)) (contents (sink new)) result
