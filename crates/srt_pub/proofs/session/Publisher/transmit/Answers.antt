use Rattle.srt_pub.proofs.session.Publisher.transmit.Goals as goal
use Rattle.srt_pub.proofs.session.Publisher.transmit.Goals.{After-see}
use Rattle.std.proofs.Common.{◌≡◌, ℕ, ◌+◌, List, ◌++◌, map, refl, ap, sym, subst, ◌∙◌, arith}
use Rattle.srt_types.specs.Given.{given}
use Rattle.srt_recvbuf.specs.Receiving.{end_of}
use Rattle.srt_pub.specs.Publishing.{Terms, Publishing, Note, Report, acks, naks, keep_alives, noted, reports, reported}
use Rattle.srt_pub.specs.Says.{says}
use Rattle.srt_pub.specs.Calls.{keep_alive_after, texts}
use Rattle.srt_pub.specs.Sent.{packets_of}
use Rattle.srt_pub.specs.declared.reports.Reports.{Reports}
use Rattle.srt_pub.specs.Stands.{StandsFor}
use Rattle.srt_pub.proofs.Sendings.{naks_same, noted_append, alive_same, reports_are, all_texts}

-- the session after the event, and the packets that it sends
event : (c : After-see) (terms : Terms) (initial opening stamp caller time : ℕ) (m : Publishing) → c.args.now ≡ opening + time
    → StandsFor terms initial opening stamp caller c.args.self.now m
    → StandsFor terms initial opening stamp caller c.see.new.self (reported terms time m) ×
    (texts (packets_of (record { ack = c.ack-is_ack.result; nak = c.nak-is_nak.result; keep_alive = c.keep_alive-is_keep_alive.result })
    c.ack-is_ack.new.packet c.nak-is_nak.new.packet c.keep_alive-is_keep_alive.new.packet)
    ≡ map (says caller initial time) (reports terms time m))
event c terms initial opening stamp caller time m n h =
    let t = c.saturating_sub-time.result in
    let same : t ≡ time = omega (arith, n, h.agreed.opening_is, c.saturating_sub-time.ensures) in
    let xs = acks terms t m in
    let m1 : Publishing = record m { notes = noted t xs m.notes } in
    let h1 = c.ack-is_ack.ensures.stands terms initial opening stamp caller m h in
    let ys = naks terms t m1 in
    let m2 : Publishing = record m1 { notes = noted t ys m1.notes } in
    let h2 = c.nak-is_nak.ensures.stands terms initial opening stamp caller m1 h1 in
    let zs = keep_alive_after c.ack-is_ack.result c.nak-is_nak.result t m2.notes in
    let m3 : Publishing = record m2 { notes = noted t zs m2.notes } in
    let h3 = c.keep_alive-is_keep_alive.ensures.stands terms initial opening stamp caller m2 h2 in
    let h4 = c.see.ensures.stands terms initial opening stamp caller m3 h3 in
    let a = c.ack-is_ack.ensures.bytes terms initial opening stamp caller m h in
    let b = c.nak-is_nak.ensures.bytes terms initial opening stamp caller m1 h1 in
    let k = c.keep_alive-is_keep_alive.ensures.bytes terms initial opening stamp caller m2 h2 in
    let z : zs ≡ keep_alives t (xs ++ ys) m.notes =
    alive_same caller initial t c.ack-is_ack.result c.nak-is_nak.result c.ack-is_ack.new.packet c.nak-is_nak.new.packet xs ys m.notes a b in
    let all : (xs ++ ys) ++ zs ≡ reports terms t m = reports_are terms t m xs ys zs refl (naks_same terms t m) z in
    let ns : m3.notes ≡ noted t (reports terms t m) m.notes =
    sym (noted_append t (xs ++ ys) zs m.notes ∙ ap (noted t zs) (noted_append t xs ys m.notes))
    ∙ ap (λ (w : List Report). noted t w m.notes) all in
    let P : List Note → Type 0 = λ w. StandsFor terms initial opening stamp caller c.see.new.self
    (record { receiving = m.receiving; notes = w; seen = end_of m.receiving.arrivals }) in
    let sent : Reports = record { ack = c.ack-is_ack.result; nak = c.nak-is_nak.result; keep_alive = c.keep_alive-is_keep_alive.result } in
    let said = all_texts (says caller initial t) (given c.ack-is_ack.result c.ack-is_ack.new.packet)
    (given c.nak-is_nak.result c.nak-is_nak.new.packet) (given c.keep_alive-is_keep_alive.result c.keep_alive-is_keep_alive.new.packet) xs ys zs
    a b k
    ∙ ap (map (says caller initial t)) all in (
      subst (λ (x : ℕ). StandsFor terms initial opening stamp caller c.see.new.self (reported terms x m)) same (subst P ns h4),
      subst
          (λ (x : ℕ). texts (packets_of sent c.ack-is_ack.new.packet c.nak-is_nak.new.packet c.keep_alive-is_keep_alive.new.packet)
          ≡ map (says caller initial x) (reports terms x m))
          same said,
    )

pub returns-clause-stands : goal.returns-clause-stands
returns-clause-stands c terms initial opening stamp caller time m n h =
    (event (goal.at.returns-clause-stands c).After-see terms initial opening stamp caller time m n h).0

pub returns-clause-bytes : goal.returns-clause-bytes
returns-clause-bytes c terms initial opening stamp caller time m n h =
    (event (goal.at.returns-clause-bytes c).After-see terms initial opening stamp caller time m n h).1
