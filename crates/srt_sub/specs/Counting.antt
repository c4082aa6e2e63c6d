-- The counters of a subscriber's session, as functions of everything that it was fed, sent and received.
use Rattle.std.specs.Prelude.{◌≡◌, ℕ, ◌+◌, Bool, false, List, [], ◌∷◌, length, not, if◌then◌else◌}
pub use Rattle.srt_types.specs.Capped.{capped, one_if}
use Rattle.srt_sendbuf.specs.Sending.{Queued, Mark, Sent as MarkSent, Requested, All_of}
use Rattle.srt_sub.specs.Subscribing.{Subscribing, Report, Media, Note, Sent, Grew, Sampled, Opened, Missed, Misdirected, Renewed, Presumed, is_media}
use Rattle.srt_sub.specs.declared.counts.Counts.{Counts}
use Rattle.srt_sub.specs.declared.counts.Sendings.{Sendings}

-- the total length of all queued payloads, in bytes
abbrev pub bytes_in : List Queued → ℕ
bytes_in [] = 0
bytes_in (q ∷ queue) = length q.payload + bytes_in queue

-- the number of loss lists that were processed
abbrev pub naks_in : List Mark → ℕ
naks_in [] = 0
naks_in (MarkSent number ∷ marks) = naks_in marks
naks_in (Requested low high ranges ∷ marks) = naks_in marks + 1
naks_in (All_of low high ∷ marks) = naks_in marks

-- whether a data packet was sent before
abbrev pub is_again : Report → Bool
is_again (Media number again origin payload) = again
is_again _ = false

-- the number of data packets that were sent for the first time
abbrev pub fresh_in : List Note → ℕ
fresh_in [] = 0
fresh_in (Sent time report ∷ notes) = if is_media report then fresh_in notes + one_if (not (is_again report)) else fresh_in notes
fresh_in (Grew time ∷ notes) = fresh_in notes
fresh_in (Sampled r ∷ notes) = fresh_in notes
fresh_in (Opened w ∷ notes) = fresh_in notes
fresh_in (Missed run ∷ notes) = fresh_in notes
fresh_in (Misdirected ∷ notes) = fresh_in notes
fresh_in (Renewed time ∷ notes) = fresh_in notes
fresh_in (Presumed ∷ notes) = fresh_in notes

-- the number of data packets that were sent again
abbrev pub resent_in : List Note → ℕ
resent_in [] = 0
resent_in (Sent time report ∷ notes) = if is_media report then resent_in notes + one_if (is_again report) else resent_in notes
resent_in (Grew time ∷ notes) = resent_in notes
resent_in (Sampled r ∷ notes) = resent_in notes
resent_in (Opened w ∷ notes) = resent_in notes
resent_in (Missed run ∷ notes) = resent_in notes
resent_in (Misdirected ∷ notes) = resent_in notes
resent_in (Renewed time ∷ notes) = resent_in notes
resent_in (Presumed ∷ notes) = resent_in notes

-- the number of times that the credit for resends was raised to one packet
abbrev pub renewals_in : List Note → ℕ
renewals_in [] = 0
renewals_in (Sent time report ∷ notes) = renewals_in notes
renewals_in (Grew time ∷ notes) = renewals_in notes
renewals_in (Sampled r ∷ notes) = renewals_in notes
renewals_in (Opened w ∷ notes) = renewals_in notes
renewals_in (Missed run ∷ notes) = renewals_in notes
renewals_in (Misdirected ∷ notes) = renewals_in notes
renewals_in (Renewed time ∷ notes) = renewals_in notes + 1
renewals_in (Presumed ∷ notes) = renewals_in notes

-- the number of data packets received from the caller
abbrev pub misdirected_in : List Note → ℕ
misdirected_in [] = 0
misdirected_in (Misdirected ∷ notes) = misdirected_in notes + 1
misdirected_in (Sent time report ∷ notes) = misdirected_in notes
misdirected_in (Grew time ∷ notes) = misdirected_in notes
misdirected_in (Sampled r ∷ notes) = misdirected_in notes
misdirected_in (Opened w ∷ notes) = misdirected_in notes
misdirected_in (Missed run ∷ notes) = misdirected_in notes
misdirected_in (Renewed time ∷ notes) = misdirected_in notes
misdirected_in (Presumed ∷ notes) = misdirected_in notes

-- the counters have these values, each capped
pub record AreCounts (c : Counts) (fed fed_bytes requested given_up misdirected : ℕ) : Type 0 where
  pub queued_is : c.queued ≡ capped fed
  pub bytes_is : c.bytes ≡ capped fed_bytes
  pub naks_is : c.naks ≡ capped requested
  pub given_up_is : c.given_up ≡ capped given_up
  pub misdirected_is : c.misdirected ≡ capped misdirected

pub record AreSendings (c : Sendings) (first repeated : ℕ) : Type 0 where
  pub fresh_is : c.fresh ≡ capped first
  pub resent_is : c.resent ≡ capped repeated

-- the counters are those of the payloads queued, of the loss lists, of the packets given up, and of the data packets
-- received
abbrev pub Counted : Counts → Subscribing → Type 0
Counted c m = AreCounts c (length m.sending.queue) (bytes_in m.sending.queue) (naks_in m.sending.marks) m.given_up (misdirected_in m.notes)

-- the counters after a payload of this length is queued
abbrev pub with_payload : (length : ℕ) → Counts → Counts
with_payload length c = record c { queued = capped (c.queued + 1); bytes = capped (c.bytes + length) }

-- the counters after a loss list is processed
abbrev pub with_list : Counts → Counts
with_list c = record c { naks = capped (c.naks + 1) }

-- the counters after a data packet is received from the caller
abbrev pub with_misdirected : Counts → Counts
with_misdirected c = record c { misdirected = capped (c.misdirected + 1) }

-- the counters after this many packets expire
abbrev pub with_expired : (count : ℕ) → Counts → Counts
with_expired count c = record c { given_up = capped (c.given_up + count) }

-- the counters after a data packet is sent, for the first time or again
abbrev pub with_sent : (again : Bool) → Sendings → Sendings
with_sent again c = record { fresh = capped (c.fresh + one_if (not again)); resent = capped (c.resent + one_if again) }
