-- Which session a publisher's fields represent.
use Rattle.std.specs.Prelude.{◌≡◌, ℕ, ◌+◌, ◌^◌, ◌<◌, ◌≤◌, ⊤, pos, false, List, [], ◌∷◌, length}
use Rattle.srt_types.specs.declared.shared.Mode.{Mode}
use Rattle.srt_types.specs.declared.shared.Mode.TheVariants.{Live, Buffer}
use Rattle.srt_recvbuf.specs.Receiving.{Arrival, Request, Receiving, is_dropped, end_of, ack_point}
use Rattle.srt_recvbuf.specs.Stands as buffers
use Rattle.srt_pub.specs.Publishing.{Terms, Publishing}
use Rattle.srt_pub.specs.Kept.{LogStandsFor}
use Rattle.srt_pub.specs.Counting.{Counted, delivered_in}
use Rattle.srt_pub.specs.declared.due_times.Agreed.{Agreed}
use Rattle.srt_pub.specs.declared.session.Publisher.{Publisher}

-- the time of the opening
abbrev pub opening_of : Publisher → ℕ
opening_of p = p.agreed.opening

-- the number of packets of the publisher's window
abbrev pub width_of : Publisher → ℕ
width_of p = buffers.places_of p.buffer

-- the agreed parameters have these values
pub record AreTerms (terms : Terms) (opening stamp caller : ℕ) (a : Agreed) : Type 0 where
  pub mode_is : a.mode ≡ terms.mode
  pub delay_is : a.delay ≡ terms.delay
  pub opening_is : a.opening ≡ opening
  pub stamp_is : a.first.word ≡ stamp
  pub caller_is : a.caller ≡ caller

-- P holds for each element of a list
abbrev pub Each : {X : Type 0} → (X → Type 0) → List X → Type 0
Each P [] = ⊤
Each P (x ∷ xs) = P x × Each P xs

-- in buffer mode nothing is dropped, and all packets are due at once
abbrev pub IsInMode : Mode → Receiving → Type 0
IsInMode Live r = ⊤
IsInMode Buffer r = (r.requests ≡ []) × Each (λ (a : Arrival). a.due ≡ pos 0) r.arrivals

-- invariants of what a session received: drop requests arrived at an earlier front or at this one, the front isn't
-- dropped, and no payload is empty
pub record IsOrderly (mode : Mode) (width : ℕ) (r : Receiving) : Type 0 where
  pub fronts : Each (λ (q : Request). q.front ≤ r.front) r.requests
  pub settled : is_dropped width r r.front ≡ false
  pub filled : Each (λ (a : Arrival). 0 < length a.payload) r.arrivals
  pub in_mode : IsInMode mode r

-- the fields represent a session of these terms, whose caller has this socket ID. It was opened at the clock's time
-- `opening` by a conclusion with this timestamp and this initial number; the record counts from these
pub record StandsFor (terms : Terms) (initial opening stamp caller : ℕ) (p : Publisher) (m : Publishing) : Type 0 where
  pub agreed : AreTerms terms opening stamp caller p.agreed
  pub buffer : buffers.StandsFor terms.width initial opening p.buffer m.receiving
  pub log : LogStandsFor terms m.receiving.front (ack_point terms.width m.receiving) p.log m.notes m.seen
  pub orderly : IsOrderly terms.mode terms.width m.receiving
  pub seen : m.seen ≤ end_of m.receiving.arrivals
  pub narrow : terms.width ≤ 8192
  pub counts : Counted p.counts m.receiving.arrivals (delivered_in m.receiving) m.receiving.front m.notes

-- a receiver moves on: its front, its acknowledgement point and the end of its received numbers never decrease
pub record GoesOn (width : ℕ) (r s : Receiving) : Type 0 where
  pub front : r.front ≤ s.front
  pub near : s.front ≤ r.front + 2 ^ 30
  pub point : ack_point width r ≤ ack_point width s
  pub end : end_of r.arrivals ≤ end_of s.arrivals

-- the buffer already represents `r`, and the other fields still represent `m`, except that received packets of `r` are
-- counted
pub record IsAhead (terms : Terms) (initial opening stamp caller : ℕ) (p : Publisher) (m : Publishing) (r : Receiving) : Type 0 where
  pub agreed : AreTerms terms opening stamp caller p.agreed
  pub buffer : buffers.StandsFor terms.width initial opening p.buffer r
  pub log : LogStandsFor terms m.receiving.front (ack_point terms.width m.receiving) p.log m.notes m.seen
  pub orderly : IsOrderly terms.mode terms.width r
  pub seen : m.seen ≤ end_of m.receiving.arrivals
  pub narrow : terms.width ≤ 8192
  pub counts : Counted p.counts r.arrivals (delivered_in m.receiving) m.receiving.front m.notes
  pub goes_on : GoesOn terms.width m.receiving r
