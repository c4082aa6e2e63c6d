-- The answers of a table to conclusions.
use Rattle.std.proofs.Common.{◌≡◌, ℕ, Bool, Result, Option, None, Some, Ok, Err, List, [], ◌∷◌, find, get_or, set, refl, sym, ap, ◌∙◌}
use Rattle.std.specs.Option.{option_map}
use Rattle.std.proofs.lemmas.List.Quantifiers.{position-Some}
use Rattle.std.specs.Prelude.{count_by}
use Rattle.std.specs.List.{position}
use Rattle.srt_types.specs.declared.shared.Peer.{Peer}
use Rattle.srt_types.specs.declared.shared.Mode.{Mode}
use Rattle.srt_types.specs.Terms.{Terms}
use Rattle.srt_types.specs.Items.{Datagram}
use Rattle.srt_hs.specs.declared.writing.HsAnswer.{HsAnswer}
use Rattle.srt_types.specs.declared.shared.Rules.{Rules}
use Rattle.srt_route.specs.declared.refusals.RefusalCause.{RefusalCause}
use Rattle.srt_route.specs.declared.conclusion_reading.Conclusion.{Conclusion}
use Rattle.srt_route.specs.declared.seat.Session.{Session as TheSession}
use Rattle.srt_route.specs.declared.seat.Seat.{Seat}
use Rattle.srt_route.specs.declared.table.Table.{Table}
use Rattle.srt_route.specs.Sessions.{Session, open_publishers, answer_of, free_slot, free_slots, sessions_from}
use Rattle.srt_route.specs.Admission.{agreement_of, admitted, admitted_by}
use Rattle.srt_route.specs.declared.admission.Admission.{Admission}
use Rattle.srt_route.specs.Route.{Answers, sent, is_of, code_of, decided, decision, is_crowded, is_reserved, refused, refusal, considered, opens}
use Rattle.srt_route.specs.Route.{concluded, heard_if}
use Rattle.srt_route.specs.Tables.{IsSession, IsTable, IsTaken, holds, has_address, is_vacant, buffers_of, again_of, heard_at, with_stored}
use Rattle.srt_route.specs.Seats.{has_publisher}
use Rattle.srt_route.proofs.model.Found.{of_parts}
use Rattle.srt_route.proofs.stored.Kept.{Alike, seat_at, seat_put}
use Rattle.srt_route.proofs.stored.Stored.{address_among, caller_at, publishers_among, vacant_among, hears, hears_marks, heard_becomes, not_of_caller}

-- the answer to a conclusion, by the values that decide it
pub answer_is : (e : Terms) (peer : Peer) (c : Conclusion) (ss : List Session) (o : Option RefusalCause) (crowded : Bool) (f : Option ℕ) (kept : Bool)
    → refused e.mode (open_publishers ss) c ≡ o → is_crowded e.rules.sessions_per_address (sessions_from peer.ip ss) ≡ crowded
    → free_slot e ss ≡ f → is_reserved e.rules.reserved (free_slots e ss) (open_publishers ss) c.role ≡ kept
    → admitted_by e c (decided o crowded f kept) ≡ admitted e peer ss c
answer_is e peer c ss o crowded f kept o_is crowded_is f_is kept_is = rw (← o_is, ← crowded_is, ← f_is, ← kept_is) refl

-- the cause in the conclusion itself is that of the definition
pub refused_is : (e : Terms) (index clock : ℕ) (table : Table) (ss : List Session) (mode : Mode) (publishers : ℕ) (c : Conclusion)
    (cause : Option RefusalCause)
    → IsTable e index clock table ss → mode ≡ e.mode → publishers ≡ count_by has_publisher table.seats.items
    → cause ≡ refused mode publishers c
    → refused e.mode (open_publishers ss) c ≡ cause
refused_is e index clock table ss mode publishers c cause are mode_is among is =
    ap (λ (n : ℕ). refused e.mode n c) (sym (publishers_among e index clock table ss are) ∙ sym among)
    ∙ (ap (λ (m : Mode). refused m publishers c) (sym mode_is) ∙ sym is)

-- so are the limit of the caller's address, and the slots reserved for publishers
pub crowded_is : (e : Terms) (index clock : ℕ) (table : Table) (ss : List Session) (peer : Peer) (rules : Rules) (crowded : Bool)
    → IsTable e index clock table ss → rules ≡ table.rules
    → crowded ≡ is_crowded rules.sessions_per_address (count_by (has_address peer.ip) table.seats.items)
    → is_crowded e.rules.sessions_per_address (sessions_from peer.ip ss) ≡ crowded
crowded_is e index clock table ss peer rules crowded are rules_are is =
    ap (λ (n : ℕ). is_crowded e.rules.sessions_per_address n) (sym (address_among e index clock table ss peer.ip are))
    ∙ ap (λ (r : Rules). is_crowded r.sessions_per_address (count_by (has_address peer.ip) table.seats.items)) (sym (rules_are ∙ are.rules_are))
    ∙ sym is

pub kept_is : (e : Terms) (index clock : ℕ) (table : Table) (ss : List Session) (c : Conclusion) (rules : Rules) (free publishers : ℕ) (kept : Bool)
    → IsTable e index clock table ss → rules ≡ table.rules → free ≡ count_by is_vacant table.seats.items
    → publishers ≡ count_by has_publisher table.seats.items → kept ≡ is_reserved rules.reserved free publishers c.role
    → is_reserved e.rules.reserved (free_slots e ss) (open_publishers ss) c.role ≡ kept
kept_is e index clock table ss c rules free publishers kept are rules_are free_are among is =
    ap (λ (n : ℕ). is_reserved e.rules.reserved n (open_publishers ss) c.role) (sym (vacant_among e index clock table ss are) ∙ sym free_are)
    ∙ ap (λ (n : ℕ). is_reserved e.rules.reserved free n c.role) (sym (publishers_among e index clock table ss are) ∙ sym among)
    ∙ ap (λ (r : Rules). is_reserved r.reserved free publishers c.role) (sym (rules_are ∙ are.rules_are))
    ∙ sym is

-- a conclusion that isn't admitted is refused for the cause of the definition
pub not_admitted : (e : Terms) (index clock : ℕ) (peer : Peer) (stamp : ℕ) (c : Conclusion) (ss : List Session) (table : Table)
    (reply : Datagram) (cause : RefusalCause) (answer : HsAnswer)
    → IsTable e index clock table ss → admitted e peer ss c ≡ Err cause → answer ≡ refusal c (code_of cause)
    → reply ≡ sent (record { peer = peer; packet = Answers c.caller answer })
    → IsTaken e index clock table (reply ∷ []) (considered e index clock peer stamp c ss (decision e peer c ss))
not_admitted e index clock peer stamp c ss table reply cause answer h is answer_is reply_is = rw (reply_is, answer_is) (by (decision e peer c ss) is)
  where
    by : (d : Result ℕ RefusalCause) → admitted_by e c d ≡ Err cause
        → IsTaken e index clock table (sent (record { peer = peer; packet = Answers c.caller (refusal c (code_of cause)) }) ∷ [])
        (considered e index clock peer stamp c ss d)
    by (Err other) k = let same : other ≡ cause = cc in rw (same) (record { table_is = h; replies_are = refl })
    by (Ok at) k = absurd (let bad : Ok (record { at = at; agreement = agreement_of e c }) ≡ Err cause = k in cc)

-- if it is admitted, the slot is the one that was decided
pub is_admitted : (e : Terms) (peer : Peer) (c : Conclusion) (ss : List Session) (a : Admission) → admitted e peer ss c ≡ Ok a
    → (decision e peer c ss ≡ Ok a.at) × (a.agreement ≡ agreement_of e c)
is_admitted e peer c ss a is = by (decision e peer c ss) is
  where
    by : (d : Result ℕ RefusalCause) → admitted_by e c d ≡ Ok a → (d ≡ Ok a.at) × (a.agreement ≡ agreement_of e c)
    by (Err other) k = absurd (let bad : Err other ≡ Ok a = k in cc)
    by (Ok at) k =
        let same : record { at = at; agreement = agreement_of e c } ≡ a = cc in
        (ap (λ (b : Admission). Ok b.at) same, sym (ap (λ (b : Admission). b.agreement) same))

pub opened_taken : (e : Terms) (index clock : ℕ) (peer : Peer) (stamp : ℕ) (c : Conclusion) (ss : List Session) (new : Table)
    (reply : Datagram) (d : Result ℕ RefusalCause) (at : ℕ)
    → d ≡ Ok at → IsTaken e index clock new (reply ∷ []) (opens e index clock peer stamp c ss at)
    → IsTaken e index clock new (reply ∷ []) (considered e index clock peer stamp c ss d)
opened_taken e index clock peer stamp c ss new reply d at is taken = rw (is) taken

-- a repeated conclusion: the session's time of last reception is updated, and its first answer is sent again
pub again_taken : (e : Terms) (index clock : ℕ) (peer : Peer) (stamp : ℕ) (c : Conclusion) (ss : List Session) (old new : Table)
    (replies : List Datagram) (at : ℕ) (x y : Seat)
    → IsTable e index clock old ss → position (holds peer c.caller) old.seats.items ≡ Some at → x ≡ get_or old.seats.items at x
    → y ≡ with_stored (option_map (heard_at clock) x.session) x → Alike old new → new.publishers ≡ old.publishers
    → new.seats.items ≡ set old.seats.items at y → replies ≡ again_of peer x.session
    → IsTaken e index clock new replies (concluded e index clock peer stamp c ss (find (is_of peer c.caller) ss))
again_taken e index clock peer stamp c ss old new replies at x y is first there y_is alike same put said =
    let found = caller_at e index clock old ss peer c.caller at x is first there in
    let inside = (position-Some (holds peer c.caller) old.seats.items at x first).0 in
    rw (found.6) (record {
      table_is = seat_put (λ u. heard_if (is_of peer c.caller u) clock u) (hears peer c.caller clock)
          (hears_marks peer c.caller clock) e index clock old new ss at x y is
          alike same inside there put
          (λ p. heard_becomes e index clock (buffers_of old.publishers.items x p) ss peer c.caller at x y found.0 found.1
          (seat_at e index clock old ss at x p is inside there) y_is found.2 found.3 found.4 found.5)
          (λ k u other below here.
          not_of_caller peer c.caller clock at k e.sessions ss found.1 u is.alone other here found.3 found.6 (is_of peer c.caller u) refl);
      replies_are = said ∙ (ap (again_of peer) found.2 ∙ the_answer found.0 found.1 found.4 (of_parts peer c.caller found.1 found.5).2);
    })
  where
    the_answer : (t : TheSession) (s : Session) → IsSession e index t s → s.conclusion.caller ≡ c.caller
        → again_of peer (Some t) ≡ sent (record { peer = peer; packet = Answers c.caller (answer_of e index s) }) ∷ []
    the_answer t s session_is its = rw (session_is.answer_is, session_is.caller_is, its) refl

pub first_taken : (e : Terms) (index clock : ℕ) (peer : Peer) (stamp : ℕ) (c : Conclusion) (ss : List Session) (table : Table)
    (replies : List Datagram) (o : Option Session)
    → o ≡ None → IsTaken e index clock table replies (considered e index clock peer stamp c ss (decision e peer c ss))
    → IsTaken e index clock table replies (concluded e index clock peer stamp c ss o)
first_taken e index clock peer stamp c ss table replies o is h = rw (is) h
