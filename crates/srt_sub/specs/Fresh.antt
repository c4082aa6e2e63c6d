-- Dropping too-late packets a second time in one event changes nothing.
use Rattle.std.specs.Prelude.{◌≡◌, ℕ, List}
use Rattle.srt_sub.specs.Heard.{Heard}
use Rattle.srt_sub.specs.Subscribing.{Terms, Subscribing, expired, took, fed, fed_all}

-- no packet in the buffer is too late at this time
abbrev pub IsFresh : Terms → (time : ℕ) → Subscribing → Type 0
IsFresh terms time s = expired terms time s ≡ s

-- after too-late packets are dropped, none in the buffer is too late, also after a packet or payloads at the same time
pub record ExpiresOnce : Type 0 where
  pub once : (terms : Terms) (time : ℕ) (s : Subscribing) → IsFresh terms time (expired terms time s)
  pub heard : (terms : Terms) (time : ℕ) (h : Heard) (s : Subscribing) → IsFresh terms time s → IsFresh terms time (took time h s)
  pub fed : (terms : Terms) (time : ℕ) (payload : List ℕ) (s : Subscribing) → IsFresh terms time s → IsFresh terms time (fed terms time payload s)
  pub fed_all : (terms : Terms) (time : ℕ) (payloads : List (List ℕ)) (s : Subscribing)
      → IsFresh terms time s → IsFresh terms time (fed_all terms time payloads s)
