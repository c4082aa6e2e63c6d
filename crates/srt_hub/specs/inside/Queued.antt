-- The contents of the queues as items and datagrams.
use Rattle.std.specs.Global.{Box}
use Rattle.srt_hub.specs.declared.items.Timely.{Timely}
use Rattle.srt_types.specs.Items.{Datagram, Item, input_of}
use Rattle.srt_route.specs.declared.replies.Reply.{Reply}
use Rattle.srt_route.specs.Written.{written}

abbrev pub item_in : Timely → Item
item_in t = input_of t.item

abbrev pub reply_in : Box Reply → Datagram
reply_in b = written b.value
