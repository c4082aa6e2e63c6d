-- The buffers of sessions that change.
use Rattle.std.proofs.Common.{◌≡◌, ℕ, ◌-◌, ◌≤◌, Bool, true, false, not, ◌&&◌, Option, None, Some, List, refl, sym, ap, ◌∙◌, arith}
use Rattle.srt_types.specs.declared.shared.Mode.{Mode}
use Rattle.srt_types.specs.declared.shared.Mode.TheVariants.{Live, Buffer}
use Rattle.srt_types.specs.Terms.{Terms}
use Rattle.srt_sendbuf.specs.Sending.{Queued, Sending, acknowledged_by}
use Rattle.srt_pub.specs.declared.session.Publisher.{Publisher}
use Rattle.srt_sub.specs.Heard.{Heard, Ack, Nak, Data, Other}
use Rattle.srt_sub.specs.Stands as subscriber
use Rattle.srt_sub.specs.Subscribing as subscribing
use Rattle.srt_sub.specs.declared.session.Subscriber.{Subscriber}
use Rattle.srt_sub.proofs.Freshness.{none_given_up}
use Rattle.srt_route.specs.Past.{Past, Publishes, Subscribes, expired_past}
use Rattle.srt_route.specs.Sessions.{Session, publishes, terms_of, time_in, aged, aged_at, is_over}
use Rattle.srt_route.specs.Buffers.{IsPast, IsSeated, ExpiresTo}

-- giving up what is too old a second time has no effect
expired_twice : (mode : Mode) (terms : subscribing.Terms) (time : ℕ) (s : Sending)
    → subscribing.expired_in mode terms time (subscribing.expired_in mode terms time s) ≡ subscribing.expired_in mode terms time s
expired_twice Live terms time s = refl
expired_twice Buffer terms time s = refl

pub gives_up_once : (terms : subscribing.Terms) (time : ℕ) (m : subscribing.Subscribing)
    → subscribing.expired terms time (subscribing.expired terms time m) ≡ subscribing.expired terms time m
gives_up_once terms time m =
    none_given_up (subscribing.expired terms time m) (subscribing.expired_in terms.mode terms time (subscribing.expired terms time m).sending)
    (expired_twice terms.mode terms time m.sending)

-- nothing more is given up if the queue and the front stay
still_kept : (mode : Mode) (terms : subscribing.Terms) (time : ℕ) (s r : Sending) → r.queue ≡ s.queue → r.expired ≡ s.expired
    → subscribing.expired_in mode terms time s ≡ s
    → subscribing.expired_in mode terms time r ≡ r
still_kept Live terms time s r queue expired h = ap (λ (n : ℕ). record r { expired = n }) (ap gone queue ∙ (ap (λ (x : Sending). x.expired) h ∙ sym expired))
  where
    gone : List Queued → ℕ
    gone q = (subscribing.expired_in Live terms time (record s { queue = q })).expired
still_kept Buffer terms time s r queue expired h = refl

keeps_up : (terms : subscribing.Terms) (time : ℕ) (m n : subscribing.Subscribing) → n.sending.queue ≡ m.sending.queue
    → n.sending.expired ≡ m.sending.expired → subscribing.expired terms time m ≡ m
    → subscribing.expired terms time n ≡ n
keeps_up terms time m n queue expired h =
    none_given_up n (subscribing.expired_in terms.mode terms time n.sending)
    (still_kept terms.mode terms time m.sending n.sending queue expired (ap (λ (x : subscribing.Subscribing). x.sending) h))

pub took_queue : (time : ℕ) (heard : Heard) (m : subscribing.Subscribing) → (subscribing.took time heard m).sending.queue ≡ m.sending.queue
took_queue time (Ack mark number more) m = by (acknowledged_by number m.sending)
  where
    by : (o : Option ℕ) → (subscribing.with_ack time more o m).sending.queue ≡ m.sending.queue
    by None = refl
    by (Some n) = refl
took_queue time (Nak None) m = refl
took_queue time (Nak (Some ranges)) m = refl
took_queue time Data m = refl
took_queue time Other m = refl

took_expired : (time : ℕ) (heard : Heard) (m : subscribing.Subscribing) → (subscribing.took time heard m).sending.expired ≡ m.sending.expired
took_expired time (Ack mark number more) m = by (acknowledged_by number m.sending)
  where
    by : (o : Option ℕ) → (subscribing.with_ack time more o m).sending.expired ≡ m.sending.expired
    by None = refl
    by (Some n) = refl
took_expired time (Nak None) m = refl
took_expired time (Nak (Some ranges)) m = refl
took_expired time Data m = refl
took_expired time Other m = refl

pub took_kept : (terms : subscribing.Terms) (time : ℕ) (heard : Heard) (m : subscribing.Subscribing)
    → subscribing.expired terms time m ≡ m → subscribing.expired terms time (subscribing.took time heard m) ≡ subscribing.took time heard m
took_kept terms time heard m h = keeps_up terms time m (subscribing.took time heard m) (took_queue time heard m) (took_expired time heard m) h

opened_in : (mode : Mode) (terms : subscribing.Terms) (time : ℕ)
    → subscribing.expired_in mode terms time subscribing.opened.sending ≡ subscribing.opened.sending
opened_in Live terms time = refl
opened_in Buffer terms time = refl

pub opened_kept : (terms : subscribing.Terms) (time : ℕ) → subscribing.expired terms time subscribing.opened ≡ subscribing.opened
opened_kept terms time =
    none_given_up subscribing.opened (subscribing.expired_in terms.mode terms time subscribing.opened.sending) (opened_in terms.mode terms time)

-- a session's past as time advances
aged_past : (e : Terms) (before clock : ℕ) (p : Publisher) (x y : Subscriber) (s : Session) → before ≤ clock
    → (publishes s.conclusion.role ≡ false → ExpiresTo clock x y) → (past : Past) → IsPast e before p x s past
    → IsPast e clock p y s (expired_past (terms_of e s) (time_in s clock) past)
aged_past e before clock p x y s later expires (Publishes m) is = is
aged_past e before clock p x y s later expires (Subscribes m) is = (
  is.0,
  expires is.0 (terms_of e s).subscriber s.conclusion.initial s.opening s.conclusion.caller before m is.1 later,
  gives_up_once (terms_of e s).subscriber (time_in s clock) m,
)

pub aged_seat : (e : Terms) (before clock : ℕ) (p : Publisher) (x y : Subscriber) (s : Session) → before ≤ clock
    → (publishes s.conclusion.role ≡ false → ExpiresTo clock x y) → (aged e clock s).is_open ≡ true → IsSeated e before p x s
    → IsSeated e clock p y (aged e clock s)
aged_seat e before clock p x y s later expires stays is = by (s.is_open && not (is_over s clock)) stays
  where
    past : Past
    past = expired_past (terms_of e s) (time_in s clock) s.past

    in_record : (q : Past) → IsPast e clock p y s q → IsPast e clock p y (record s { past = past }) q
    in_record (Publishes m) h = h
    in_record (Subscribes m) h = h

    by : (b : Bool) → (aged_at e b (time_in s clock) s).is_open ≡ true → IsSeated e clock p y (aged_at e b (time_in s clock) s)
    by true h = record { past_is = in_record past (aged_past e before clock p x y s later expires s.past is.past_is); opened = omega (arith, is.opened, later) }
    by false h = absurd (let bad : false ≡ true = h in cc)

-- a subscriber's buffers don't depend on the publisher's
pub other_publisher : (e : Terms) (clock : ℕ) (p q : Publisher) (x : Subscriber) (u : Session)
    → publishes u.conclusion.role ≡ false → IsSeated e clock p x u → IsSeated e clock q x u
other_publisher e clock p q x u role is = record { past_is = by u.past is.past_is; opened = is.opened }
  where
    by : (past : Past) → IsPast e clock p x u past → IsPast e clock q x u past
    by (Publishes m) h = absurd (let bad : true ≡ false = sym h.0 ∙ role in cc)
    by (Subscribes m) h = h

-- a subscriber whose time has advanced is as wide as before
pub expired_wide : (e : Terms) (before clock : ℕ) (p : Publisher) (x y : Subscriber) (s : Session)
    → before ≤ clock → ExpiresTo clock x y → publishes s.conclusion.role ≡ false → IsSeated e before p x s → subscriber.IsWide e.buffer y
expired_wide e before clock p x y s later expires role is = by s.past is.past_is
  where
    by : (past : Past) → IsPast e before p x s past → subscriber.IsWide e.buffer y
    by (Publishes m) h = absurd (let bad : true ≡ false = sym h.0 ∙ role in cc)
    by (Subscribes m) h = (
      s.conclusion.initial,
      (subscribing.expired (terms_of e s).subscriber (clock - s.opening) m).sending,
      (expires (terms_of e s).subscriber s.conclusion.initial s.opening s.conclusion.caller before m h.1 later).buffer_is,
    )
