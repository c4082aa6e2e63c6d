-- No publisher besides the active one.
use Rattle.std.proofs.Common.{◌≡◌, ℕ, ◌≤◌, true, false, Some, List, get_or, sym, ap, ◌∙◌, arith}
use Rattle.std.specs.List.{list_any}
use Rattle.std.proofs.lemmas.Bool.{false_from_ne_true}
use Rattle.srt_types.specs.Terms.{Terms}
use Rattle.srt_pub.specs.Publishing.{Publishing}
use Rattle.srt_route.specs.declared.seat.Seat.{Seat}
use Rattle.srt_route.specs.declared.table.Table.{Table}
use Rattle.srt_route.specs.declared.publisher_buffers.PublisherBuffers.{PublisherBuffers}
use Rattle.srt_route.specs.PublisherBuffers.{other_buffers}
use Rattle.srt_route.specs.Sessions.{Session, is_open_in, open_publishers}
use Rattle.srt_route.specs.Tables.{publishes_from, used_buffers}
use Rattle.srt_route.specs.inside.Delivery.{IsPublisherOf}
use Rattle.srt_route.proofs.model.Found.{found_passes, open_parts}
use Rattle.srt_route.proofs.model.TakeOver.{only_one}
use Rattle.srt_route.proofs.stored.Kept.{below_seats}
use Rattle.srt_route.proofs.stored.Publishers.{found_from}
use Rattle.srt_route.proofs.stored.Stored.{publishers_among, some_item}
use Rattle.srt_route.proofs.stored.TwoBuffers.{never_other}

-- if at most one is open, none uses the other buffers
pub none_besides : (e : Terms) (index clock : ℕ) (table : Table) (ss : List Session) (at : ℕ) (s : Session) (q : Publishing)
    (active : PublisherBuffers)
    → IsPublisherOf e index clock table ss at s q active → table.open_publishers ≤ 1
    → list_any (publishes_from (other_buffers active)) table.seats.items ≡ false
none_besides e index clock table ss at s q active its few =
    false_from_ne_true (list_any (publishes_from (other_buffers active)) table.seats.items) (λ some. absurd (both some))
  where
    less : open_publishers ss ≤ 1
    less = omega (arith, few, table.counted, publishers_among e index clock table ss its.body)

    both : list_any (publishes_from (other_buffers active)) table.seats.items ≡ true → ⊥
    both some =
        let other = found_from e index clock table ss (other_buffers active) its.body some in
        let same : Some other.session ≡ Some s = sym (only_one ss other.at other.session less other.here.found other.here.publishes)
        ∙ only_one ss at s less its.here.found its.here.publishes in
        let one : other.session ≡ s = cc in
        let place : at ≡ other.at =
        sym (open_parts at s (found_passes (is_open_in at) ss s its.here.found)).1
        ∙ (ap (λ (x : Session). x.slot) (sym one)
        ∙ (open_parts other.at other.session (found_passes (is_open_in other.at) ss other.session other.here.found)).1) in
        let d : Seat = some_item table.seats.items at (below_seats e index clock table ss at s its.body its.here.found) in
        never_other active (its.uses d ∙ (ap (λ (n : ℕ). used_buffers (get_or table.seats.items n d)) place ∙ sym (other.uses d)))
