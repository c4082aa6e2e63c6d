-- Faults and losses at the socket and of the log, and the lines about them.
use Rattle.std.specs.Prelude.{ℕ, ◌-◌, ◌==◌, List, [], ◌∷◌, ◌++◌, Option, if◌then◌else◌}
use Rattle.std.specs.Option.{unwrap_or}
use Rattle.srt_log.specs.declared.events.LogEvent.TheVariants.{SocketFaults, KernelDrops}
use Rattle.srt_watch.specs.declared.log.When.{When}
use Rattle.srt_watch.specs.declared.losses.Losses.{Losses}
use Rattle.srt_watch.specs.Log.{LogCall, Always, said}

abbrev pub no_losses : Losses
no_losses = record { faults = 0; logged_faults = 0; logged_drops = 0; missed = 0 }

abbrev pub with_faults : Losses → (faults : ℕ) → Losses
with_faults losses faults = record losses { faults = faults }

-- the refusals that weren't reported, and by how many they have grown
abbrev pub with_missed : Losses → (missed : ℕ) → Losses
with_missed losses missed = record losses { missed = missed }

abbrev pub more_missed : Losses → (missed : ℕ) → ℕ
more_missed losses missed = missed - losses.missed

-- the datagrams that were dropped; those that were logged if that isn't known
abbrev pub drops_or : (logged : ℕ) → Option ℕ → ℕ
drops_or logged drops = unwrap_or drops logged

-- the lines of the faults and of the drops since the last such lines, if there are any
abbrev pub faults_logged : When → (count : ℕ) → List LogCall
faults_logged when count = if count == 0 then [] else Always when (said (SocketFaults count)) ∷ []

abbrev pub drops_logged : When → (count : ℕ) → List LogCall
drops_logged when count = if count == 0 then [] else Always when (said (KernelDrops count)) ∷ []

abbrev pub fault_calls : Losses → When → List LogCall
fault_calls losses when = faults_logged when (losses.faults - losses.logged_faults)

abbrev pub drop_calls : Losses → When → Option ℕ → List LogCall
drop_calls losses when drops = drops_logged when (drops_or losses.logged_drops drops - losses.logged_drops)

abbrev pub loss_calls : Losses → When → Option ℕ → List LogCall
loss_calls losses when drops = fault_calls losses when ++ drop_calls losses when drops

-- what is logged then
abbrev pub after_faults : Losses → Losses
after_faults losses = if losses.faults - losses.logged_faults == 0 then losses else record losses { logged_faults = losses.faults }

abbrev pub after_drops : Losses → Option ℕ → Losses
after_drops losses drops =
    if drops_or losses.logged_drops drops - losses.logged_drops == 0 then losses
    else record losses { logged_drops = drops_or losses.logged_drops drops }

abbrev pub after_losses : Losses → Option ℕ → Losses
after_losses losses drops = after_drops (after_faults losses) drops
