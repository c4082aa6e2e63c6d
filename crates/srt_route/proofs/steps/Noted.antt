-- What sessions record of a publisher's end, and which have the whole file.
use Rattle.std.proofs.Common.{◌≡◌, ℕ, Bool, true, false, ◌&&◌, not, cond, Option, None, Some, List, [], ◌∷◌, map, find, refl, sym, ap, subst, ◌∙◌}
use Rattle.std.specs.Option.{option_map}
use Rattle.std.proofs.lemmas.Bool.{and_parts}
use Rattle.srt_types.specs.Terms.{Terms}
use Rattle.srt_pub.specs.declared.session.Publisher.{Publisher}
use Rattle.srt_sub.specs.declared.session.Subscriber.{Subscriber}
use Rattle.srt_route.specs.declared.seat.Session.{Session as TheSession}
use Rattle.srt_route.specs.declared.seat.Seat.{Seat}
use Rattle.srt_route.specs.declared.table.Table.{Table}
use Rattle.srt_sendbuf.specs.Sending.{is_all_acknowledged}
use Rattle.srt_sub.specs.Stands.{ForWhatever}
use Rattle.srt_route.specs.Past.{Past, Publishes, Subscribes, has_all}
use Rattle.srt_route.specs.Sessions.{Session, is_open_in, is_subscriber, publishes, terms_of, with_end}
use Rattle.srt_route.specs.inside.Files.{HasWhole, whole_in}
use Rattle.srt_route.specs.Buffers.{IsPast, IsSeated}
use Rattle.srt_route.specs.Parts.{saw_end}
use Rattle.srt_route.specs.Tables.{IsSession, IsStored, IsSeat, IsTable, seat_with_end, stored_end}
use Rattle.srt_route.proofs.model.Changes.{is_there}
use Rattle.srt_route.proofs.model.Found.{changed as becomes}
use Rattle.srt_route.proofs.stored.Kept.{Becomes, KeepsBuffers}
use Rattle.srt_route.proofs.stored.Parts.{end_buffers, end_lasts, end_records, end_role, end_until, saw_is}

-- a seat that has recorded it
abbrev pub IsNoted : (by_shutdown : Bool) → (x y : Seat) → Type 0
IsNoted by_shutdown x y = y ≡ seat_with_end by_shutdown x

end_stored : (e : Terms) (index : ℕ) (b : Bool) (t : TheSession) (s : Session)
    → IsSession e index t s → IsSession e index (stored_end b t) (with_end (Some b) s)
end_stored e index b t s is =
    record {
      peer_is = is.peer_is;
      caller_is = is.caller_is;
      id_is = is.id_is;
      role_is = end_role b t.part ∙ is.role_is;
      opened_is = is.opened_is;
      heard_is = is.heard_is;
      drains_is = end_until b t.part ∙ is.drains_is;
      file_is = end_records b t.part;
      given_up_is = end_lasts b t.part ∙ is.given_up_is;
      answer_is = is.answer_is;
    }

slot_stored : (e : Terms) (index : ℕ) (b : Bool) (o : Option TheSession) (g : Option Session) → ((s : Session) → g ≡ Some s → s.is_open ≡ true)
    → IsStored e index o g
    → IsStored e index (option_map (stored_end b) o) (becomes (with_end (Some b)) g)
slot_stored e index b None None opens is = tt
slot_stored e index b None (Some s) opens is = absurd is
slot_stored e index b (Some t) None opens is = absurd is
slot_stored e index b (Some t) (Some s) opens is =
    subst (λ (o : Bool). IsStored e index (Some (stored_end b t)) (cond o (Some (with_end (Some b) s)) None)) (sym (opens s refl)) (end_stored e index b t s is)

end_seated : (e : Terms) (clock : ℕ) (p : Publisher) (x : Subscriber) (b : Bool) (s : Session)
    → IsSeated e clock p x s → IsSeated e clock p x (with_end (Some b) s)
end_seated e clock p x b s is = record { past_is = by s.past is.past_is; opened = is.opened }
  where
    by : (past : Past) → IsPast e clock p x s past → IsPast e clock p x (with_end (Some b) s) past
    by (Publishes m) h = h
    by (Subscribes m) h = h

pub noted_becomes : (e : Terms) (index clock at : ℕ) (b : Bool) (p : Publisher) (x y : Seat) (ss : List Session)
    → IsSeat e index clock at p x ss → IsNoted b x y → Becomes (with_end (Some b)) e index clock at p x y ss
noted_becomes e index clock at b p x y ss is h =
    subst (λ (z : Seat). Becomes (with_end (Some b)) e index clock at p x z ss) (sym h)
    (record {
      count_is = refl;
      session_is = slot_stored e index b x.session (find (is_open_in at) ss) (λ s found. (is_there at ss s found).0) is.session_is;
      buffers_stay = keeps x.session;
      wide = is.wide;
      seated = λ s found opens. end_seated e clock p x.subscriber b s (is.seated s found);
    })
  where
    keeps : (o : Option TheSession) → KeepsBuffers o (option_map (stored_end b) o)
    keeps None = tt
    keeps (Some t) = end_buffers b t.part

-- nothing is recorded if none ended
all_stay : (ss : List Session) → map (with_end None) ss ≡ ss
all_stay [] = refl
all_stay (s ∷ ss) = ap (λ (ts : List Session). s ∷ ts) (all_stay ss)

pub none_kept : (e : Terms) (index clock : ℕ) (table : Table) (ss : List Session)
    → IsTable e index clock table ss → IsTable e index clock table (map (with_end None) ss)
none_kept e index clock table ss body = subst (λ (ts : List Session). IsTable e index clock table ts) (sym (all_stay ss)) body

-- whether a seat's session has the whole file
pub not_over : (x : Seat) → HasWhole false x false
not_over x e index clock at p ss is = by (find (is_open_in at) ss)
  where
    by : (f : Option Session) → false ≡ whole_in false f
    by None = refl
    by (Some s) = refl

pub vacant_whole : (over : Bool) (x : Seat) → x.session ≡ None → HasWhole over x false
vacant_whole over x none e index clock at p ss is =
    by (find (is_open_in at) ss) (subst (λ (o : Option TheSession). IsStored e index o (find (is_open_in at) ss)) none is.session_is)
  where
    by : (f : Option Session) → IsStored e index None f → false ≡ whole_in over f
    by None stored = refl
    by (Some s) stored = absurd stored

pub unmarked_whole : (over : Bool) (x : Seat) (t : TheSession) → x.session ≡ Some t → saw_end t.part ≡ false → HasWhole over x false
unmarked_whole over x t here unmarked e index clock at p ss is =
    by (find (is_open_in at) ss) (subst (λ (o : Option TheSession). IsStored e index o (find (is_open_in at) ss)) here is.session_is)
  where
    none : (a o reads f g : Bool) → (reads && f) ≡ false → false ≡ (a && (o && reads) && f && g)
    none true true true f g h = rw h refl
    none true true false f g h = refl
    none true false reads f g h = refl
    none false o reads f g h = refl

    by : (f : Option Session) → IsStored e index (Some t) f → false ≡ whole_in over f
    by None stored = absurd stored
    by (Some s) stored =
        none over s.is_open (not (publishes s.conclusion.role)) s.file_ended (has_all s.past)
        (sym (saw_is t.part s.conclusion.role s.file_ended stored.role_is stored.file_is) ∙ unmarked)

pub acknowledged_whole : (x : Seat) (t : TheSession) (all : Bool) → x.session ≡ Some t → saw_end t.part ≡ true
    → ForWhatever x.subscriber (λ terms initial opening caller last m. all ≡ is_all_acknowledged m.sending) → HasWhole true x all
acknowledged_whole x t all here marked answer e index clock at p ss is =
    by (find (is_open_in at) ss) refl (subst (λ (o : Option TheSession). IsStored e index o (find (is_open_in at) ss)) here is.session_is)
  where
    not_so : (b : Bool) → not b ≡ true → b ≡ false
    not_so true h = absurd (let bad : false ≡ true = h in cc)
    not_so false h = refl

    past_is : (s : Session) → publishes s.conclusion.role ≡ false → (past : Past) → IsPast e clock p x.subscriber s past → all ≡ has_all past
    past_is s reader (Publishes m) h = absurd (let bad : true ≡ false = sym h.0 ∙ reader in cc)
    past_is s reader (Subscribes m) h = answer (terms_of e s).subscriber s.conclusion.initial s.opening s.conclusion.caller clock m h.1

    by : (f : Option Session) → find (is_open_in at) ss ≡ f → IsStored e index (Some t) f → all ≡ whole_in true f
    by None found stored = absurd stored
    by (Some s) found stored =
        let saw = and_parts (not (publishes s.conclusion.role)) s.file_ended
        (sym (saw_is t.part s.conclusion.role s.file_ended stored.role_is stored.file_is) ∙ marked) in
        let reader : publishes s.conclusion.role ≡ false = not_so (publishes s.conclusion.role) saw.0 in
        let opens : s.is_open ≡ true = (is_there at ss s found).0 in
        let subscribes : is_subscriber s ≡ true =
        ap (λ (b : Bool). b && not (publishes s.conclusion.role)) opens ∙ ap not reader in
        past_is s reader s.past (is.seated s found).past_is
        ∙ sym
        (ap (λ (b : Bool). b && s.file_ended && has_all s.past) subscribes
        ∙ ap (λ (b : Bool). b && has_all s.past) saw.1)
