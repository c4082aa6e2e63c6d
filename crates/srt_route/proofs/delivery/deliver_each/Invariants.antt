use Rattle.std.proofs.Common.{◌≡◌, ℕ, ◌-◌, List, map, unwrap_or}
use Rattle.srt_types.specs.declared.shared.Mode.TheVariants.{Buffer}
use Rattle.srt_types.specs.Terms.{Terms}
use Rattle.srt_pub.specs.Publishing.{Publishing}
use Rattle.srt_pub.specs.Calls.{gives, leaves}
use Rattle.srt_route.specs.declared.publisher_buffers.PublisherBuffers.{PublisherBuffers}
use Rattle.srt_route.specs.Past.{payload_of}
use Rattle.srt_route.specs.Sessions.{Session, terms_of, time_in}
use Rattle.srt_route.specs.Route.{least_room}
use Rattle.srt_route.specs.declared.table.Table.{Table}
use Rattle.srt_route.specs.Tables.{UseTheSame}
use Rattle.srt_route.specs.inside.Delivery.{IsPublisherOf}
use Rattle.srt_route.proofs.steps.Turns.{IsPassing}
use Rattle.srt_route.proofs.delivery.deliver_each.Given as goal

-- the payloads delivered so far with those of the remaining calls are all payloads; each seat uses the same buffers
pub record Passes (which : PublisherBuffers) (clock turn first room : ℕ) (old table : Table) : Type 0 where
  pub passing : (e : Terms) (index : ℕ) (sessions : List Session) (at : ℕ) (s : Session) (q : Publishing)
      → IsPublisherOf e index clock old sessions at s q which
      → (e.mode ≡ Buffer → first ≡ unwrap_or (least_room e sessions) 0)
      → IsPassing e index clock table sessions at s room (64 - turn)
      (map payload_of (gives (terms_of e s).publisher (time_in s clock) first 64 q))
      (leaves (terms_of e s).publisher (time_in s clock) first 64 q)
  pub stays : UseTheSame old table

abbrev pub invariant-loop-turn : goal.invariant-loop-turn
invariant-loop-turn l = Passes l.which l.clock l.turn l.fn.room l.room l.fn.table l.table
