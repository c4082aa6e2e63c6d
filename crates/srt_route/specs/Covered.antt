-- Where subscribers are encrypted, no payload is sent in clear (section 3.1; which payloads are encrypted is our choice).
use Rattle.std.specs.Prelude.{◌≡◌, ℕ, true, List, All, ⊤}
use Rattle.srt_types.specs.declared.shared.Role.TheVariants.{Request}
use Rattle.srt_types.specs.Terms.{Terms}
use Rattle.srt_types.specs.Items.{Item}
use Rattle.srt_sub.specs.Subscribing as subscriber
use Rattle.srt_route.specs.EncryptedOutput as keyed
use Rattle.srt_route.specs.EncryptedOutput.{KeyedOutput}
use Rattle.srt_route.specs.Past.{Report, ToPublisher, ToSubscriber}
use Rattle.srt_route.specs.RouteKeys.{secures}
use Rattle.srt_route.specs.Route.{Output, Answers, AnswersWithKeys, Says, Ends, Responds, SaysWithKeys, replies_to, route_before}

-- a packet to a subscriber that brings no payload
abbrev pub BringsNone : subscriber.Report → Type 0
BringsNone (subscriber.Acked mark) = ⊤
BringsNone (subscriber.Dropped run) = ⊤
BringsNone (subscriber.Media number again origin payload) = ⊥
BringsNone subscriber.KeepAlive = ⊤

abbrev pub ReportsNone : Report → Type 0
ReportsNone (ToPublisher report) = ⊤
ReportsNone (ToSubscriber report) = BringsNone report

-- what a session with keys of its own sends, without a payload in clear
abbrev pub IsCoveredOutput : KeyedOutput → Type 0
IsCoveredOutput (keyed.Says caller initial time report) = BringsNone report
IsCoveredOutput (keyed.SaysUnder key caller initial time report) = ⊤
IsCoveredOutput (keyed.Announces caller time contents) = ⊤

-- an output without a payload in clear
abbrev pub IsCovered : Output → Type 0
IsCovered (Answers caller answer) = ⊤
IsCovered (AnswersWithKeys caller request answer) = ⊤
IsCovered (Says caller initial time report) = ReportsNone report
IsCovered (Ends caller time) = ⊤
IsCovered (Responds caller time contents) = ⊤
IsCovered (SaysWithKeys output) = IsCoveredOutput output

-- the replies to each item, whatever came before it
abbrev pub PayloadsAreCovered : Type 0
PayloadsAreCovered =
    (e : Terms) (index : ℕ) (items : List Item) (item : Item)
    → secures e Request ≡ true → All (λ reply. IsCovered reply.packet) (replies_to e index item (route_before e index item items))
