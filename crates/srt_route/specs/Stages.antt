-- What a route has while it is open, and what is left of it after it was closed.
use Rattle.std.specs.Prelude.{◌≡◌, ℕ, ◌+◌, ◌*◌, ◌%◌, ◌<◌, ◌≤◌, Bool, true, false, List, length, slice_index_or, ⊤}
use Rattle.srt_types.specs.Terms.{Terms}
use Rattle.srt_route.specs.declared.stage.Stage.{Stage}
use Rattle.srt_route.specs.declared.stage.Stage.TheVariants.{Open, Closed}
use Rattle.srt_route.specs.declared.reply_queue.ReplyQueue.{ReplyQueue}
use Rattle.srt_route.specs.Waits.{IsTrimmed, places_of}
use Rattle.srt_route.specs.Sessions.{Session, generation_of}
use Rattle.srt_route.specs.RouteKeys.{RouteKeys}
use Rattle.srt_route.specs.StoredKeys.{AreKeys}
use Rattle.srt_route.specs.Tables.{IsTable}

abbrev pub is_closed : Stage → Bool
is_closed (Open table keys scratch) = false
is_closed (Closed generations) = true

-- each slot's number of sessions, modulo 2^16, and 0 beyond the slots
pub record AreGenerations (slots : ℕ) (generations : List ℕ) (sessions : List Session) : Type 0 where
  pub counts : (slot : ℕ) → slot < slots → slice_index_or generations slot 0 ≡ generation_of sessions slot % 65536
  pub none : (slot : ℕ) → slots ≤ slot → slice_index_or generations slot 0 ≡ 0

-- an open route's table represents these sessions at this clock; of a closed one's the generations are left
abbrev pub Represents : (e : Terms) (index clock : ℕ) → Stage → List Session → Type 0
Represents e index clock (Open table keys scratch) sessions = IsTable e index clock table sessions
Represents e index clock (Closed generations) sessions = AreGenerations e.sessions generations sessions

-- an open route has these keys; a closed one has none
abbrev pub HasKeys : Terms → Stage → RouteKeys → Type 0
HasKeys e (Open table keys scratch) m = AreKeys e keys m
HasKeys e (Closed generations) m = ⊤

-- an open route's queue has room for all replies to an item; a closed one's has memory for the waiting replies alone
abbrev pub HasRoom : Stage → (sessions : ℕ) → ReplyQueue → Type 0
HasRoom (Open table keys scratch) sessions w = 4 + 66 * sessions ≤ places_of w
HasRoom (Closed generations) sessions w = IsTrimmed w

-- the number of sessions' buffers that there are: two publishers' and one subscriber's for each slot, or none
abbrev pub buffers_in : Stage → ℕ
buffers_in (Open table keys scratch) = length table.publishers.items + length table.seats.items
buffers_in (Closed generations) = 0
