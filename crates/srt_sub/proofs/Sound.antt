-- The invariants of a session remain true.
use Rattle.std.proofs.Common.{◌≡◌, ℕ, ◌-◌, ◌^◌, ◌<◌, ◌≤◌, Bool, true, false, Option, None, Some, List, [], ◌∷◌, length, refl, sym, ap, subst, ◌∙◌, arith}
use Rattle.std.specs.Prelude.{◌≤ℤ◌, nat_lt}
use Rattle.std.proofs.lemmas.Bool.{lt-ltb}
use Rattle.std.proofs.lemmas.Bool.Decides.{nat_tests}
use Rattle.std.proofs.lemmas.Int.{ints}
use Rattle.std.proofs.lemmas.List.Elements.{All-nil, All-push}
use Rattle.srt_types.specs.declared.shared.Mode.{Mode}
use Rattle.srt_types.specs.declared.shared.Mode.TheVariants.{Live, Buffer}
use Rattle.srt_types.specs.Window.{counted_from, in_window}
use Rattle.srt_timing.specs.Deadline.{too_late_at}
use Rattle.srt_sendbuf.specs.Sending.{Queued, Sending, nothing_yet, queued}
use Rattle.srt_sendbuf.proofs.OneByOne.{times_go_on, expiry_goes_on}
use Rattle.srt_sub.specs.Subscribing.{Terms, Note, Misdirected, Subscribing, opened, expired, expired_in, fits, reports}
use Rattle.srt_sub.specs.Counting.{Counted}
use Rattle.srt_sub.specs.declared.counts.Counts.{Counts}
use Rattle.srt_sub.specs.Stands.{AreCredited, IsHistory, IsSound, StandsIn, run_gone}
use Rattle.srt_sub.specs.declared.session.Phase.{Phase}
use Rattle.srt_sub.specs.declared.session.Phase.TheVariants.{Lost}
use Rattle.srt_sub.proofs.Credits.{credited_first, credited_later}
use Rattle.srt_sendbuf.specs.Stands as places
use Rattle.srt_sendbuf.specs.declared.buffer.SendBuf.{SendBuf}
use Rattle.srt_sub.specs.declared.history.History.{History}
use Rattle.srt_sub.specs.declared.session.Subscriber.{Subscriber}
use Rattle.srt_sub.specs.Emission.{EmissionBegins, IsLeft, StandsLater}
use Rattle.srt_sub.specs.Endings.{is_short}
use Rattle.srt_sendbuf.specs.Outgoing.{Gone}
use Rattle.srt_types.specs.Runs.{Run}
use Rattle.std.specs.Prelude.{is_some, option_map, if◌then◌else◌, ◌&&◌}
use Rattle.srt_sendbuf.specs.Sending.{room}

-- a word with its top bit set is no sequence number
pub no_number : (initial word base width : ℕ) → 2 ^ 31 ≤ word → in_window (counted_from initial word) base width ≡ None
unfolding in_window
no_number initial word base width le = let e : nat_lt word (2 ^ 31) ≡ false = grind (arith, nat_tests, le) in rw e refl

later_threshold : (time later delay : ℕ) → time ≤ later → too_late_at time delay ≤ℤ too_late_at later delay
later_threshold time later delay le = omega (arith, ints, le)

pub sound_later : (terms : Terms) (time later : ℕ) (s : Sending) → time ≤ later → IsSound terms time s → IsSound terms later s
sound_later terms time later s le h =
    record {
      timely = times_go_on.later time later s le h.timely;
      later = expiry_goes_on.later (too_late_at time terms.delay) (too_late_at later terms.delay) s (later_threshold time later terms.delay le) h.later;
      some = h.some;
    }

sound_at_first : (terms : Terms) (time : ℕ) → IsSound terms time nothing_yet
sound_at_first terms time =
    record {
      timely = times_go_on.none time;
      later = expiry_goes_on.none (too_late_at time terms.delay);
      some = All-nil (λ (q : Queued). 0 < length q.payload);
    }

-- a session whose fields are those of an opening
pub stands_at_first : (terms : Terms) (initial opening caller time : ℕ) (s : Subscriber)
    → places.StandsFor terms.width initial s.buffer nothing_yet → IsHistory initial terms s.history [] → s.mode ≡ terms.mode
    → s.delay ≡ terms.delay → s.mtu ≡ terms.mtu → s.resending ≡ terms.resending → s.opening ≡ opening → s.caller ≡ caller → s.given ≡ 0 → s.phase ≡ Lost
    → Counted s.counts opened
    → StandsIn terms initial opening caller time 0 s opened
stands_at_first terms initial opening caller time s buffer history mode delay mtu resending moment socket given phase counts =
    record {
      buffer_is = buffer;
      history_is = history;
      mode_is = mode;
      delay_is = delay;
      mtu_is = mtu;
      resending_is = resending;
      opening_is = moment;
      caller_is = socket;
      given_is = given;
      phase_is = λ e. phase;
      credited = credited_first terms.resend_percent time;
      sound = sound_at_first terms time;
      counts_are = counts;
    }

-- a change that affects neither the queue nor the number of expired payloads
pub sound_marked : (terms : Terms) (time : ℕ) (s t : Sending) → t.queue ≡ s.queue → t.expired ≡ s.expired → IsSound terms time s → IsSound terms time t
sound_marked terms time s t q e h =
    record {
      timely = rw q h.timely;
      later = rw (q, e) h.later;
      some = rw q h.some;
    }

pub sound_expired : (mode : Mode) (terms : Terms) (time : ℕ) (s : Sending) → IsSound terms time s → IsSound terms time (expired_in mode terms time s)
sound_expired Live terms time s h =
    record {
      timely = h.timely;
      later = expiry_goes_on.expire (too_late_at time terms.delay) s;
      some = h.some;
    }
sound_expired Buffer terms time s h = h

pub sound_queued : (terms : Terms) (time : ℕ) (payload : List ℕ) (s : Sending)
    → 0 < length payload → IsSound terms time s → IsSound terms time (queued time payload s)
sound_queued terms time payload s some h =
    record {
      timely = times_go_on.queue time payload s h.timely;
      later = expiry_goes_on.queue (too_late_at time terms.delay) time payload s h.later;
      some = All-push (λ q. 0 < length q.payload) s.queue (record { origin = time; payload = payload }) h.some some;
    }

pub none_is : (o : Option ℕ) → is_some o ≡ false → o ≡ None
none_is None e = refl
none_is (Some n) e = absurd cc

pub some_is : (o : Option ℕ) → is_some o ≡ true → (n : ℕ) × (o ≡ Some n)
some_is None e = absurd cc
some_is (Some n) e = (n, refl)

-- whether a loss list requests expired numbers, and the drop request for it
pub is_gone : (b : Bool) (g x : Gone) → Some g ≡ (if b then Some x else None) → (b ≡ true) × (g ≡ x)
is_gone true g x e = (refl, cc)
is_gone false g x e = absurd cc

pub isnt_gone : (b : Bool) (x : Gone) → None ≡ (if b then Some x else None) → b ≡ false
isnt_gone true x e = absurd cc
isnt_gone false x e = refl

pub outgoing_run : (initial : ℕ) (g : Gone) (o : Option Run) → Some g ≡ option_map (run_gone initial) o → (r : Run) × (o ≡ Some r) × (g ≡ run_gone initial r)
outgoing_run initial g None e = absurd cc
outgoing_run initial g (Some r) e = (r, refl, cc)

-- the parts of a session that may change
pub rephased : (terms : Terms) (initial opening caller time given : ℕ) (s : Subscriber) (m : Subscribing)
    → StandsIn terms initial opening caller time given s m → (later count g : ℕ) (b : SendBuf) (x : History) (n : Subscribing) → g ≡ count
    → places.StandsFor terms.width initial b n.sending → IsHistory initial terms x n.notes → IsSound terms later n.sending → (k : Counts)
    → Counted k n → (f : Phase) → (count ≡ 0 → f ≡ Lost) → AreCredited terms.resend_percent later n.notes
    → StandsIn terms initial opening caller later count (record s { buffer = b; history = x; given = g; counts = k; phase = f }) n
rephased terms initial opening caller time given s m h later count g b x n given_is buffer history sound k counts f phase credited =
    record {
      buffer_is = buffer;
      history_is = history;
      mode_is = h.mode_is;
      delay_is = h.delay_is;
      mtu_is = h.mtu_is;
      resending_is = h.resending_is;
      opening_is = h.opening_is;
      caller_is = h.caller_is;
      given_is = given_is;
      phase_is = phase;
      credited = credited;
      sound = sound;
      counts_are = counts;
    }

-- the same in the same phase
pub changed : (terms : Terms) (initial opening caller time given : ℕ) (s : Subscriber) (m : Subscribing)
    → StandsIn terms initial opening caller time given s m → (later count g : ℕ) (b : SendBuf) (x : History) (n : Subscribing) → g ≡ count
    → places.StandsFor terms.width initial b n.sending → IsHistory initial terms x n.notes → IsSound terms later n.sending → (k : Counts)
    → Counted k n → (count ≡ 0 → s.phase ≡ Lost) → AreCredited terms.resend_percent later n.notes
    → StandsIn terms initial opening caller later count (record s { buffer = b; history = x; given = g; counts = k }) n
changed terms initial opening caller time given s m h later count g b x n given_is buffer history sound k counts phase credited =
    rephased terms initial opening caller time given s m h later count g b x n given_is buffer history sound k counts s.phase phase credited

-- a received data packet doesn't change the history
pub history_misdirected : (initial : ℕ) (agreed : Terms) (x : History) (notes : List Note)
    → IsHistory initial agreed x notes → IsHistory initial agreed x (Misdirected ∷ notes)
history_misdirected initial agreed x notes h =
    record {
      window_is = h.window_is;
      round_trip_is = h.round_trip_is;
      sent_is = h.sent_is;
      media_is = h.media_is;
      growth_is = h.growth_is;
      missed_is = h.missed_is;
      sendings_are = h.sendings_are;
      credit_is = record { percent_is = h.credit_is.percent_is; hundredths_are = h.credit_is.hundredths_are };
      tries_are = h.tries_are;
      once = h.once;
    }

pub stands_later : StandsLater
stands_later terms initial opening caller last later s m h le =
    changed terms initial opening caller (last - opening) 0 s m h (later - opening) 0 s.given s.buffer s.history m h.given_is h.buffer_is
    h.history_is (sound_later terms (last - opening) (later - opening) m.sending (omega (arith, le)) h.sound) s.counts h.counts_are h.phase_is
    (credited_later terms.resend_percent (last - opening) (later - opening) m.notes (omega (arith, le)) h.credited)

-- the session at its own time, which is the clock's time less the opening
pub record IsAtTime (terms : Terms) (initial opening caller now time : ℕ) (s : Subscriber) (m : Subscribing) : Type 0 where
  pub time_is : time ≡ now - opening
  pub stands : StandsIn terms initial opening caller time 0 s m

pub at_time : (terms : Terms) (initial opening caller now time : ℕ) (s : Subscriber) (m : Subscribing) → time ≡ now - s.opening
    → StandsIn terms initial opening caller (now - opening) 0 s m
    → IsAtTime terms initial opening caller now time s m
at_time terms initial opening caller now time s m is h =
    let same : time ≡ now - opening = is ∙ ap (λ o. now - o) h.opening_is in
    record { time_is = same; stands = subst (λ (t : ℕ). StandsIn terms initial opening caller t 0 s m) (sym same) h }

pub begins : EmissionBegins
begins terms initial opening caller last now recent s m h le =
    record {
      given = 0;
      middle = m;
      stands = stands_later terms initial opening caller last now s m h le;
      left_is = subst (λ (f : Phase). IsLeft terms (now - opening) recent 0 f (expired terms (now - opening) m) m
          (reports terms (now - opening) recent (expired terms (now - opening) m)))
          (sym (h.phase_is refl)) (record { few = omega arith; left_is = refl; end_is = refl });
    }

false_last : (a : Bool) → (a && false) ≡ false
false_last true = refl
false_last false = refl

-- the payloads that fit
pub doesnt_fit : (mode : Mode) (terms : Terms) (payload : List ℕ) (s : Sending) → is_short mode terms.mtu payload ≡ false → fits mode terms payload s ≡ false
doesnt_fit Live terms payload s e = rw e (false_last _)
doesnt_fit Buffer terms payload s e = absurd cc

pub does_fit : (mode : Mode) (terms : Terms) (payload : List ℕ) (s : Sending)
    → is_short mode terms.mtu payload ≡ true → 0 < room terms.width s → fits mode terms payload s ≡ true
does_fit Live terms payload s e some = let b : nat_lt 0 (room terms.width s) ≡ true = lt-ltb _ _ some in rw (b, e) refl
does_fit Buffer terms payload s e some = refl

pub has_no_room : (terms : Terms) (payload : List ℕ) (s : Sending) → room terms.width s ≡ 0 → fits Live terms payload s ≡ false
has_no_room terms payload s e = let b : nat_lt 0 (room terms.width s) ≡ false = grind (arith, nat_tests, e) in rw b refl
