-- An entry of the inbox: a message with the end that offered it.
use Rattle.std.specs.Prelude.{Bool}
use Rattle.srt_types.specs.declared.shared.Item.{Item}
use Rattle.srt_mailbox.specs.declared.inbox_rule.EntryKind.{EntryKind}
use Rattle.srt_mailbox.specs.declared.inbox_rule.EntryKind.TheVariants.{Datagram, Tick, Close}

-- the message, and whether the poller offered it (if not, the clock did)
pub record OfferedItem : Type 0 where
  pub polled : Bool
  pub item : Item

abbrev pub offered_item : (polled : Bool) → Item → OfferedItem
offered_item p i = record { polled = p; item = i }

-- the value for this kind
abbrev pub by_kind : {A : Type 0} → EntryKind → (datagram tick close : A) → A
by_kind Datagram d t c = d
by_kind Tick d t c = t
by_kind Close d t c = c
