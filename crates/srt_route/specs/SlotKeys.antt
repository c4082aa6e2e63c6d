-- The keys of a slot that the code's values represent, and what is left of them in its memory.
use Rattle.std.specs.Prelude.{Option, Some, None, ⊤, if◌then◌else◌}
use Rattle.srt_types.specs.declared.shared.Role.{Role}
use Rattle.srt_types.specs.declared.shared.Role.TheVariants as roles
use Rattle.srt_hs.specs.KeyMessage.{KeyMessage}
use Rattle.srt_hs.specs.declared.key_message.KeyMessageRef.{KeyMessageRef}
use Rattle.srt_session_keys.specs.Publisher.{PublisherIsErased, publisher_of}
use Rattle.srt_session_keys.specs.Subscriber.{SubscriberIsErased, subscriber_of}
use Rattle.srt_route.specs.declared.key_text.BroughtRef.{BroughtRef}
use Rattle.srt_route.specs.declared.slot_keys.KeyPlace.{KeyPlace}
use Rattle.srt_route.specs.declared.slot_keys.SlotKeys.{SlotKeys as TheSlotKeys}
use Rattle.srt_route.specs.declared.slot_keys.SlotKeys.TheVariants as stored
use Rattle.srt_route.specs.RouteKeys.{Brought, SlotKeys, Clear, OfPublisher, OfSubscriber}

-- the keys that a conclusion brings, without their borrow
abbrev pub message_of : KeyMessageRef → KeyMessage
message_of m = record { keys = m.keys; key_length = m.key_length; salt = m.salt; wrapped = m.wrapped.now }

abbrev pub brought_of : BroughtRef → Brought
brought_of b = record { contents = b.contents.now; message = message_of b.message }

abbrev pub slot_keys_of : TheSlotKeys → SlotKeys
slot_keys_of stored.Clear = Clear
slot_keys_of (stored.Publisher request keys) = OfPublisher request.bytes.items (publisher_of keys)
slot_keys_of (stored.Subscriber request keys) = OfSubscriber request.bytes.items (subscriber_of keys)

-- the keys of an open session that a slot stores; those of a session that ended aren't there any more
abbrev pub place_keys_of : KeyPlace → SlotKeys
place_keys_of p = if p.is_held then slot_keys_of p.keys else Clear

-- all that is stored of keys is zeros
abbrev pub IsErased : TheSlotKeys → Type 0
IsErased stored.Clear = ⊤
IsErased (stored.Publisher request keys) = PublisherIsErased keys
IsErased (stored.Subscriber request keys) = SubscriberIsErased keys

-- of which role's session there is memory
abbrev pub role_stored : TheSlotKeys → Option Role
role_stored stored.Clear = None
role_stored (stored.Publisher request keys) = Some roles.Publish
role_stored (stored.Subscriber request keys) = Some roles.Request
