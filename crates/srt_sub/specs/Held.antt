-- A session that may send only its first payloads for the first time, as many as it has confirmed keys for (our choice).
use Rattle.std.specs.Prelude.{◌≡◌, ℕ, ◌-◌, ◌^◌, ◌<◌, ◌≤◌, Bool, true, false, List, ◌∷◌, ◌++◌, All, min, max, length}
use Rattle.srt_types.specs.Capped.{capped}
use Rattle.srt_types.specs.Runs.{numbers_from}
use Rattle.srt_sendbuf.specs.Sending.{Sending, front, next}
use Rattle.srt_sub.specs.Heard.{Ack}
use Rattle.srt_sub.specs.Subscribing.{expired, took}
use Rattle.srt_sub.specs.Subscribing.{Terms, Report, Opened, Subscribing, drops, flow_window, keep_alives, media, most, again_of, prepared, reports, resends}

-- the number of payloads at the queue's end that wait, where this many may be sent for the first time; a subscriber counts
-- up to 2^64 - 1
abbrev pub waiting : (bound : ℕ) → Sending → ℕ
waiting bound s = capped (length s.queue) - bound

-- the flow window that ends before them
abbrev pub window_before : (bound window : ℕ) → Sending → ℕ
window_before bound window s = min (length s.queue - front s - waiting bound s) window

-- the session that may send this many payloads for the first time: its flow window ends before the others
abbrev pub held : Terms → (bound : ℕ) → Subscribing → Subscribing
held terms bound s = record s { notes = Opened (window_before bound (flow_window terms.window s.notes) s.sending) ∷ s.notes }

-- the session that has this flow window again, and may send all payloads
abbrev pub released : (window : ℕ) → Subscribing → Subscribing
released window s = record s { notes = Opened window ∷ s.notes }

-- the new numbers that are sent: as many as the remaining places, the flow window and the queue without those that wait
-- allow
abbrev pub new_within : (bound places again window : ℕ) → Sending → List ℕ
new_within bound places again window s =
    numbers_from (next s)
    (min (places - length (again_of again s)) (min (window - (next s - front s)) (length s.queue - waiting bound s - next s)))

-- all packets except the KEEPALIVE, as `due_of`, with these new numbers
abbrev pub due_within : (bound places again : ℕ) → Terms → Subscribing → List Report
due_within bound places again terms s =
    drops s.notes ++ media true (again_of again s.sending) s.sending.queue
    ++ media false (new_within bound places again (flow_window terms.window s.notes) s.sending) s.sending.queue

-- all packets, as `reports_of`
abbrev pub reports_of_within : (bound places again : ℕ) → Terms → (time : ℕ) → Subscribing → List Report
reports_of_within bound places again terms time s =
    due_within bound places again terms s ++ keep_alives time (due_within bound places again terms s) s.notes

-- the packets that an event sends at its end, as `reports`, where this many payloads may be sent for the first time
abbrev pub reports_within : (bound : ℕ) → Terms → (time : ℕ) → (recent : Bool) → Subscribing → List Report
reports_within bound terms time recent s =
    reports_of_within bound most (resends terms.resend_percent most (prepared terms time recent s).notes) terms time (prepared terms time recent s)

-- what a held session sends; only numbers below the bound are sent for the first time; and a bound that no payload has
-- reached changes nothing
pub record HoldsNewOnes : Type 0 where
  pub sends : (terms : Terms) (time : ℕ) (recent : Bool) (bound : ℕ) (s : Subscribing)
      → reports terms time recent (held terms bound s) ≡ reports_within bound terms time recent s
  pub below : (bound places again window : ℕ) (s : Sending)
      → length s.queue < 2 ^ 64 → All (λ n. n < bound) (new_within bound places again window s)
  pub all : (terms : Terms) (time : ℕ) (recent : Bool) (bound : ℕ) (s : Subscribing)
      → length s.sending.queue ≤ bound → reports_within bound terms time recent s ≡ reports terms time recent s

-- what waits in a held session stays as it is: holding and releasing change nothing that is queued, acknowledged, expired or
-- lost, and so no room; what waits expires as always; and an ACK acknowledges only what was sent or has expired
pub record LeavesTheRest : Type 0 where
  pub holding : (terms : Terms) (bound : ℕ) (s : Subscribing) → ((held terms bound s).sending ≡ s.sending) × ((held terms bound s).given_up ≡ s.given_up)
  pub releasing : (window : ℕ) (s : Subscribing) → ((released window s).sending ≡ s.sending) × ((released window s).given_up ≡ s.given_up)
  pub expires : (terms : Terms) (time bound : ℕ) (s : Subscribing)
      → ((expired terms time (held terms bound s)).sending ≡ (expired terms time s).sending)
      × ((expired terms time (held terms bound s)).given_up ≡ (expired terms time s).given_up)
  pub acknowledged : (time mark number : ℕ) (more : List ℕ) (s : Subscribing)
      → (took time (Ack mark number more) s).sending.acked ≤ max s.sending.acked (next s.sending)
