-- What sessions read from packets with other numbers.
use Rattle.std.proofs.Common.{◌≡◌, ℕ, List, [], ◌∷◌, Some, length, map, nat_le, cond, Result, Ok, Err, refl, ap, ◌∙◌}
use Rattle.srt_types.specs.Words.{word_at}
use Rattle.srt_types.specs.Window.{counted_from}
use Rattle.srt_types.specs.Runs.{Range}
use Rattle.srt_packet.specs.Grammar.{Data, Handshake, KeepAlive, Ack, Nak, CongestionWarning, Shutdown, AckAck, DropRequest, PeerError, UserDefined}
use Rattle.srt_loss.specs.declared.reading.LossFault.{LossFault}
use Rattle.srt_loss.specs.Reading.{losses_in}
use Rattle.srt_types.specs.Runs.{range_from, ranges_from}
use Rattle.srt_pub.specs.Heard as to_publisher
use Rattle.srt_sub.specs.Heard as to_subscriber
use Rattle.srt_route.specs.Shifted.{shifted, shifted_first}
use Rattle.srt_route.specs.ShiftLaws.{shifted_range, shifted_losses, PublishersHearTheSame, SubscribersHearTheSame}
use Rattle.srt_route.proofs.renumbering.PlacedWords.{word_of_four}
use Rattle.srt_route.proofs.renumbering.ShiftedWords.{counts_stay, losses_shift}

pub publishers_hear : PublishersHearTheSame
publishers_hear by initial (Data number encryption payload) = ap (λ n. to_publisher.Data n encryption payload) (counts_stay by initial number)
publishers_hear by initial (Handshake info) = refl
publishers_hear by initial KeepAlive = refl
publishers_hear by initial (Ack number info) = refl
publishers_hear by initial (Nak info) = refl
publishers_hear by initial CongestionWarning = refl
publishers_hear by initial Shutdown = refl
publishers_hear by initial (AckAck number) = refl
publishers_hear by initial (DropRequest message first last) =
    ap (λ n. to_publisher.DropRequest (record { first = n; last = counted_from (shifted by initial) (shifted by last) })) (counts_stay by initial first)
    ∙ ap (λ n. to_publisher.DropRequest (record { first = counted_from initial first; last = n })) (counts_stay by initial last)
publishers_hear by initial PeerError = refl
publishers_hear by initial UserDefined = refl

abbrev SameRange : Range → Range → Type 0
SameRange r s = r ≡ s

range_same : (by initial : ℕ) (r : Range) → SameRange (range_from (shifted by initial) (shifted_range by r)) (range_from initial r)
range_same by initial r = let a = counts_stay by initial r.first in let b = counts_stay by initial r.last in cc

ranges_same : (by initial : ℕ) (rs : List Range) → ranges_from (shifted by initial) (map (shifted_range by) rs) ≡ ranges_from initial rs
ranges_same by initial [] = refl
ranges_same by initial (r ∷ rs) =
    ap (λ s. s ∷ ranges_from (shifted by initial) (map (shifted_range by) rs)) (range_same by initial r)
    ∙ ap (λ ss. range_from initial r ∷ ss) (ranges_same by initial rs)

requested_same : (by initial : ℕ) (read : Result (List Range) LossFault)
    → to_subscriber.requested_from (shifted by initial) (shifted_losses by read) ≡ to_subscriber.requested_from initial read
requested_same by initial (Ok ranges) = ap (λ rs. Some rs) (ranges_same by initial ranges)
requested_same by initial (Err fault) = refl

ack_same : (by initial mark : ℕ) (info : List ℕ)
    → to_subscriber.heard_from (shifted by initial) (Ack mark (shifted_first by info)) ≡ to_subscriber.heard_from initial (Ack mark info)
ack_same by initial mark [] = refl
ack_same by initial mark (a ∷ []) = refl
ack_same by initial mark (a ∷ b ∷ []) = refl
ack_same by initial mark (a ∷ b ∷ c ∷ []) = refl
ack_same by initial mark (a ∷ b ∷ c ∷ d ∷ rest) =
    let w = word_at (a ∷ b ∷ c ∷ d ∷ []) 0 in
    let more = to_subscriber.more_of (a ∷ b ∷ c ∷ d ∷ rest) in
    let whole = nat_le 4 (length (a ∷ b ∷ c ∷ d ∷ rest)) in
    ap (λ n. cond whole (to_subscriber.Ack mark (counted_from (shifted by initial) n) more) to_subscriber.Other) (word_of_four (shifted by w) rest)
    ∙ ap (λ n. cond whole (to_subscriber.Ack mark n more) to_subscriber.Other) (counts_stay by initial w)

pub subscribers_hear : SubscribersHearTheSame
subscribers_hear by initial (Data number encryption payload) = refl
subscribers_hear by initial (Handshake info) = refl
subscribers_hear by initial KeepAlive = refl
subscribers_hear by initial (Ack number info) = ack_same by initial number info
subscribers_hear by initial (Nak info) =
    ap (λ read. to_subscriber.Nak (to_subscriber.requested_from (shifted by initial) read)) (losses_shift by info)
    ∙ ap (λ requested. to_subscriber.Nak requested) (requested_same by initial (losses_in info))
subscribers_hear by initial CongestionWarning = refl
subscribers_hear by initial Shutdown = refl
subscribers_hear by initial (AckAck number) = refl
subscribers_hear by initial (DropRequest message first last) = refl
subscribers_hear by initial PeerError = refl
subscribers_hear by initial UserDefined = refl
