-- The counts of openings and refusals.
use Rattle.std.proofs.Common.{◌≡◌, ℕ, ◌≢◌, nat_eq, Bool, true, false, cond, Option, None, List, get_or, refl, sym, ap, subst, ◌∙◌}
use Rattle.std.proofs.lemmas.Bool.{ne_eqb}
use Rattle.srt_types.specs.declared.shared.Peer.{Peer}
use Rattle.srt_types.specs.Terms.{Terms}
use Rattle.srt_types.specs.Items.{Item}
use Rattle.srt_packet.specs.Grammar.{Packet}
use Rattle.srt_route.specs.declared.ledger.Ledger.{Ledger}
use Rattle.srt_route.specs.declared.ledger.Refusals.{Refusals}
use Rattle.srt_route.specs.declared.table.Table.{Table}
use Rattle.srt_route.specs.Sessions.{advanced}
use Rattle.srt_route.specs.Route.{Route, clock_after, concludes, heard_as, judged}
use Rattle.srt_route.specs.Ledgers.{CountsStay}
use Rattle.srt_route.proofs.steps.Notified.{none_notified}
use Rattle.srt_route.specs.declared.ledger.EndedSession.{EndedSession}
use Rattle.srt_route.specs.Ends.{Ends, after_packet, arrived_end, arrived_ending, destined_ending, kept_of}
use Rattle.srt_route.specs.Tallies.{Tally, Tallies, conclusion_tally, item_tally, packet_tally, tally_after, tally_of, verdict_tally}

-- counts that stay
pub tally_stays : (old new : Ledger) → CountsStay old new → tally_of new ≡ tally_of old
tally_stays old new h =
    ap (λ (n : ℕ). record { opened = n; refusals = new.refusals }) h.0
    ∙ ap (λ (r : Refusals). record { opened = old.opened; refusals = r }) h.1

-- a packet with a destination, and one without
pub has_destination : (packet : Packet) → packet.dest ≢ 0 → false ≡ nat_eq packet.dest 0
has_destination packet h = sym (ne_eqb packet.dest 0 h)

pub destined : (clock : ℕ) (peer : Peer) (packet : Packet) (table : Table) (old new : Ledger) → packet.dest ≢ 0
    → Ends clock (λ e index. arrived_ending e index clock peer packet) table old new
    → Ends clock (λ e index. destined_ending e index clock peer packet) table old new
destined clock peer packet table old new h ends =
    subst
    (λ (b : Bool).
    Ends clock (λ e index ss. record { cause = λ s. cond b None (arrived_end e index clock peer packet ss s); last = after_packet e clock packet }) table old
    new)
    (has_destination packet h) ends

-- a packet without a destination ends no session
pub undestined : (clock : ℕ) (peer : Peer) (packet : Packet) (table : Table) (old new : Ledger) → packet.dest ≡ 0
    → (new.ended ≡ old.ended) × (new.totals ≡ old.totals)
    → Ends clock (λ e index. destined_ending e index clock peer packet) table old new
undestined clock peer packet table old new h stays e index ss is =
    none_notified e index (destined_ending e index clock peer packet ss) clock ss (kept_of old) (kept_of new)
    (λ at s found. rw (h) refl) (λ at. ap (λ (xs : List (Option EndedSession)). get_or xs at None) stays.0) stays.1

pub destined_tally : (clock : ℕ) (peer : Peer) (packet : Packet) (table : Table) (old new : Ledger)
    → packet.dest ≢ 0 → CountsStay old new → Tallies clock (λ e ss. packet_tally e peer packet ss) table old new
destined_tally clock peer packet table old new h stays e index ss is =
    tally_stays old new stays
    ∙ ap (λ (b : Bool). cond b (conclusion_tally e peer ss (concludes packet.body) (tally_of old)) (tally_of old)) (has_destination packet h)

pub undestined_tally : (clock : ℕ) (peer : Peer) (packet : Packet) (table : Table) (old new : Ledger) → packet.dest ≡ 0
    → Tallies clock (λ e ss. conclusion_tally e peer ss (concludes packet.body)) table old new
    → Tallies clock (λ e ss. packet_tally e peer packet ss) table old new
undestined_tally clock peer packet table old new h counts e index ss is = counts e index ss is ∙ rw (h) refl

-- an event
pub closed_tally : (e : Terms) (index : ℕ) (item : Item) (m : Route) (t : Tally) → m.is_closed ≡ true → t ≡ tally_after e index item m t
closed_tally e index item m t closed = rw (closed) refl

-- the counts after step 3 of an event, at a clock
abbrev pub tally_at : Terms → (index clock : ℕ) → Item → Route → Tally → Tally
tally_at e index clock item m t =
    let ss = advanced e clock m.sessions in
    let v = (judged e index clock item ss m.keys).verdict in verdict_tally v (item_tally e (heard_as v item) ss t)

pub step_tally : (e : Terms) (index clock : ℕ) (item : Item) (m : Route) (old mid new : Ledger)
    → m.is_closed ≡ false → clock ≡ clock_after item m → CountsStay old mid
    → tally_of new ≡ tally_at e index clock item m (tally_of mid)
    → tally_of new ≡ tally_after e index item m (tally_of old)
step_tally e index clock item m old mid new open_is clock_is idle taken =
    taken
    ∙ (ap (λ (t : Tally). tally_at e index clock item m t) (tally_stays old mid idle)
    ∙ (ap (λ (n : ℕ). tally_at e index n item m (tally_of old)) clock_is
    ∙ ap (λ (b : Bool). cond b (tally_of old) (tally_at e index (clock_after item m) item m (tally_of old))) (sym open_is)))
