-- A poller's history is the same if what its routes do from some round on had been known in advance: routes that open then stand after the
-- others, hidden, and schedules differ in those rounds alone.
use Rattle.std.proofs.Common.{◌≡◌, ℕ, zero, suc, ◌+◌, ◌<◌, ◌≤◌, ◌==◌, Bool, true, false, cond, ◌&&◌, ◌||◌, List, [], ◌∷◌, ◌++◌, length}
use Rattle.std.proofs.Common.{refl, sym, ap, subst, ◌∙◌, arith}
use Rattle.std.proofs.lemmas.Bool.{and_right}
use Rattle.srt_types.specs.declared.shared.Schedule.{Schedule}
use Rattle.std.proofs.lemmas.List.{map-append}
use Rattle.srt_lobby.specs.Names.{RouteName, as_shown, AreDistinct}
use Rattle.srt_lobby.specs.Changing.{marked_at, hidden_at, AreHidden}
use Rattle.srt_lobby.proofs.HiddenNames.{hidden_change_nothing}
use Rattle.srt_poller.specs.Schedules.{CloseOffer, offered_routes, opened, opened_if, is_due, due_from, due, hidden_by, closed, begun}
use Rattle.srt_poller.specs.History.{Sorting, Event, Begins, Waits, WaitFails, ReadsNothing, ReadFails, Answers, Accepts, Overflows, Refuses, Drops}
use Rattle.srt_poller.specs.History.{Begun, IsOver, IsReading, MaySend}
use Rattle.srt_poller.specs.History.{Sends, Resends, State, names_by, state_by, state_after, Fits, Follow}
use Rattle.srt_poller.specs.Starts.{RoundStart, round_start, starts_by, starts_in}
use Rattle.srt_poller.proofs.Starting.{distinct_more, start_more, starts_more}
use Rattle.srt_poller.specs.Beforehand.{OpenLater, AgreeBefore, AreIgnored, with_more, EarlierRoundsAreSame, LobbyIgnoresLater}

-- all of these are below this number
abbrev pub AllBelow : (limit : ℕ) → List ℕ → Type 0
AllBelow limit [] = Unit {0}
AllBelow limit (n ∷ ns) = (n < limit) × AllBelow limit ns

all_below : (a b : ℕ) (ns : List ℕ) → a ≡ b → AllBelow a ns → AllBelow b ns
all_below a b ns same h = subst (λ k. AllBelow k ns) same h

due_below : (i : ℕ) (c : Bool) (k : ℕ) (schedules : List Schedule) (names : List RouteName) → AllBelow (i + length names) (due_from i c k schedules names)
due_below i c k [] names = tt
due_below i c k (s ∷ schedules) [] = tt
due_below i c k (s ∷ schedules) (name ∷ names) =
    by (is_due c k s.close_round && name.is_shown)
    (all_below (suc i + length names) (i + suc (length names)) (due_from (suc i) c k schedules names) (omega arith) (due_below (suc i) c k schedules names))
  where
    by : (b : Bool) → AllBelow (i + suc (length names)) (due_from (suc i) c k schedules names) →
        AllBelow (i + suc (length names)) (cond b (i ∷ due_from (suc i) c k schedules names) (due_from (suc i) c k schedules names))
    by true h = (omega arith, h)
    by false h = h

many_opened : (k : ℕ) (schedules : List Schedule) (names : List RouteName) → length schedules ≡ length names →
    length (opened k schedules names) ≡ length names
many_opened k [] names many = refl
many_opened k (s ∷ schedules) [] many = refl
many_opened k (s ∷ schedules) (name ∷ names) many =
    ap suc (many_opened k schedules names (let fewer : length schedules ≡ length names = omega (arith, many) in fewer))

many_opened_if : (c : Bool) (k : ℕ) (schedules : List Schedule) (names : List RouteName) → length schedules ≡ length names →
    length (opened_if c k schedules names) ≡ length names
many_opened_if true k schedules names many = refl
many_opened_if false k schedules names many = many_opened k schedules names many

many_marked : (b : Bool) (r : ℕ) (names : List RouteName) → length (marked_at b r names) ≡ length names
many_marked b r [] = refl
many_marked b zero (name ∷ names) = refl
many_marked b (suc r) (name ∷ names) = ap suc (many_marked b r names)

many_hidden : (o : CloseOffer) (names : List RouteName) → length (hidden_by names o) ≡ length names
many_hidden o names = by o.is_accepted
  where
    by : (b : Bool) → length (cond b (hidden_at o.route names) names) ≡ length names
    by true = many_marked false o.route names
    by false = refl

many_closed : (offers : List CloseOffer) (names : List RouteName) → length (closed offers names) ≡ length names
many_closed [] names = refl
many_closed (o ∷ offers) names = many_closed offers (hidden_by names o) ∙ many_hidden o names

-- further routes that are hidden change nothing
marked_more : (b : Bool) (r : ℕ) (names more : List RouteName) → r < length names → marked_at b r (names ++ more) ≡ marked_at b r names ++ more
marked_more b r [] more there = absurd (omega (arith, there))
marked_more b zero (name ∷ names) more there = refl
marked_more b (suc r) (name ∷ names) more there =
    ap (λ (ns : List RouteName). name ∷ ns) (marked_more b r names more (let below : r < length names = omega (arith, there) in below))

hidden_more : (o : CloseOffer) (names more : List RouteName) → o.route < length names → hidden_by (names ++ more) o ≡ hidden_by names o ++ more
hidden_more o names more there = by o.is_accepted
  where
    by : (b : Bool) → cond b (hidden_at o.route (names ++ more)) (names ++ more) ≡ cond b (hidden_at o.route names) names ++ more
    by true = marked_more false o.route names more there
    by false = refl

closed_more : (offers : List CloseOffer) (names more : List RouteName) → AllBelow (length names) (offered_routes offers) →
    closed offers (names ++ more) ≡ closed offers names ++ more
closed_more [] names more below = refl
closed_more (o ∷ offers) names more below =
    ap (closed offers) (hidden_more o names more below.0)
    ∙ closed_more offers (hidden_by names o) more (all_below _ _ (offered_routes offers) (sym (many_hidden o names)) below.1)

module _ (limit : ℕ) (more : List RouteName) where
  opened_later : (k : ℕ) → k < limit → (later : List Schedule) (names : List RouteName) → OpenLater limit later names → opened k later names ≡ names
  opened_later k early [] names h = refl
  opened_later k early (t ∷ later) [] h = absurd h
  opened_later k early (t ∷ later) (x ∷ names) h =
      ap (λ (b : Bool). cond b (as_shown x) x ∷ opened k later names) (h.0 k early)
      ∙ ap (λ (ns : List RouteName). x ∷ ns) (opened_later k early later names h.2)

  none_due : (i : ℕ) (c : Bool) (k : ℕ) (later : List Schedule) (names : List RouteName) → OpenLater limit later names → due_from i c k later names ≡ []
  none_due i c k [] names h = refl
  none_due i c k (t ∷ later) [] h = absurd h
  none_due i c k (t ∷ later) (x ∷ names) h =
      ap (λ (b : Bool). cond b (i ∷ due_from (suc i) c k later names) (due_from (suc i) c k later names))
      (and_right (is_due c k t.close_round) x.is_shown h.1)
      ∙ none_due (suc i) c k later names h.2

  opened_more : (k : ℕ) → k < limit → (schedules later : List Schedule) (names : List RouteName) → length schedules ≡ length names →
      AgreeBefore limit schedules later more → opened k later (names ++ more) ≡ opened k schedules names ++ more
  opened_more k early [] later [] many agree = opened_later k early later more agree
  opened_more k early [] later (name ∷ names) many agree = cc
  opened_more k early (s ∷ schedules) later [] many agree = cc
  opened_more k early (s ∷ schedules) [] (name ∷ names) many agree = absurd agree
  opened_more k early (s ∷ schedules) (t ∷ later) (name ∷ names) many agree =
      ap (λ (b : Bool). cond b (as_shown name) name ∷ opened k later (names ++ more)) (agree.0 k early).0
      ∙ ap (λ (ns : List RouteName). cond (s.open_round == k) (as_shown name) name ∷ ns)
      (opened_more k early schedules later names (let fewer : length schedules ≡ length names = omega (arith, many) in fewer) agree.1)

  opened_if_more : (c : Bool) (k : ℕ) → k < limit → (schedules later : List Schedule) (names : List RouteName) → length schedules ≡ length names →
      AgreeBefore limit schedules later more → opened_if c k later (names ++ more) ≡ opened_if c k schedules names ++ more
  opened_if_more true k early schedules later names many agree = refl
  opened_if_more false k early schedules later names many agree = opened_more k early schedules later names many agree

  due_more : (i : ℕ) (c : Bool) (k : ℕ) → k < limit → (schedules later : List Schedule) (names : List RouteName) → length schedules ≡ length names →
      AgreeBefore limit schedules later more → due_from i c k later (names ++ more) ≡ due_from i c k schedules names
  due_more i c k early [] later [] many agree = none_due i c k later more agree
  due_more i c k early [] later (name ∷ names) many agree = cc
  due_more i c k early (s ∷ schedules) later [] many agree = cc
  due_more i c k early (s ∷ schedules) [] (name ∷ names) many agree = absurd agree
  due_more i c k early (s ∷ schedules) (t ∷ later) (name ∷ names) many agree =
      ap (λ (b : Bool). cond ((c || b) && name.is_shown) (i ∷ due_from (suc i) c k later (names ++ more)) (due_from (suc i) c k later (names ++ more)))
      (agree.0 k early).1
      ∙ ap (λ (ns : List ℕ). cond (is_due c k s.close_round && name.is_shown) (i ∷ ns) ns)
      (due_more (suc i) c k early schedules later names (let fewer : length schedules ≡ length names = omega (arith, many) in fewer) agree.1)

-- further routes are hidden
later_are_hidden : (limit : ℕ) (later : List Schedule) (more : List RouteName) → OpenLater limit later more → AreHidden more
later_are_hidden limit [] [] h = tt
later_are_hidden limit [] (x ∷ more) h = absurd h
later_are_hidden limit (t ∷ later) [] h = absurd h
later_are_hidden limit (t ∷ later) (x ∷ more) h = (h.1, later_are_hidden limit later more h.2)

more_are_hidden : (limit : ℕ) (schedules later : List Schedule) (more : List RouteName) → AgreeBefore limit schedules later more → AreHidden more
more_are_hidden limit [] later more agree = later_are_hidden limit later more agree
more_are_hidden limit (s ∷ schedules) [] more agree = absurd agree
more_are_hidden limit (s ∷ schedules) (t ∷ later) more agree = more_are_hidden limit schedules later more agree.1

-- if the event begins a round, it is one before the limit
abbrev pub IsBefore : (limit : ℕ) → State → Event → Type 0
IsBefore limit s (Begins c moment offers) = s.round < limit
IsBefore limit s Waits = Unit {0}
IsBefore limit s WaitFails = Unit {0}
IsBefore limit s ReadsNothing = Unit {0}
IsBefore limit s ReadFails = Unit {0}
IsBefore limit s (Answers arrival bytes sent) = Unit {0}
IsBefore limit s (Accepts arrival route) = Unit {0}
IsBefore limit s (Overflows arrival route) = Unit {0}
IsBefore limit s (Refuses arrival route) = Unit {0}
IsBefore limit s (Drops arrival cause) = Unit {0}
IsBefore limit s (Sends route reply sent) = Unit {0}
IsBefore limit s (Resends route reply sent) = Unit {0}

abbrev pub AreBefore : (limit : ℕ) → List Schedule → State → List Event → Type 0
AreBefore limit schedules s [] = Unit {0}
AreBefore limit schedules s (event ∷ events) = IsBefore limit s event × AreBefore limit schedules (state_by schedules s event) events

module _ (class : Sorting) (limit : ℕ) (schedules later : List Schedule) (more : List RouteName) (agree : AgreeBefore limit schedules later more)
    (ignores : AreIgnored class more) where
  names_more : (s : State) (c : Bool) (moment : ℕ) (offers : List CloseOffer) → length schedules ≡ length s.names → s.round < limit →
      Fits class schedules s (Begins c moment offers) →
      begun c s.round later offers (s.names ++ more) ≡ begun c s.round schedules offers s.names ++ more
  names_more s c moment offers many early fits =
      let shown = opened_if c s.round schedules s.names in
      let range : AllBelow (length shown) (offered_routes offers) =
      subst (λ rs. AllBelow (length shown) rs) (sym fits.2)
      (all_below (0 + length shown) (length shown) (due c s.round schedules shown) (omega arith) (due_below 0 c s.round schedules shown)) in
      ap (closed offers) (opened_if_more limit more c s.round early schedules later s.names many agree)
      ∙ closed_more offers shown more range

  fits_more : (s : State) (event : Event) → length schedules ≡ length s.names → IsBefore limit s event → Fits class schedules s event →
      Fits class later (with_more more s) event
  fits_more s (Begins c moment offers) many early fits =
      let shown = opened_if c s.round schedules s.names in (
        fits.0,
        fits.1,
        fits.2 ∙ sym (due_more limit more 0 c s.round early schedules later shown (many ∙ sym (many_opened_if c s.round schedules s.names many)) agree)
            ∙ ap (due c s.round later) (sym (opened_if_more limit more c s.round early schedules later s.names many agree)),
        subst AreDistinct (sym (opened_if_more limit more c s.round early schedules later s.names many agree))
            (distinct_more shown more (more_are_hidden limit schedules later more agree) fits.3),
      )
  fits_more s Waits many early fits = fits
  fits_more s WaitFails many early fits = fits
  fits_more s ReadsNothing many early fits = fits
  fits_more s ReadFails many early fits = fits
  fits_more s (Answers arrival bytes sent) many early fits = (fits.0, ignores s.names arrival.datagram arrival.moment ∙ fits.1)
  fits_more s (Accepts arrival route) many early fits = (fits.0, ignores s.names arrival.datagram arrival.moment ∙ fits.1)
  fits_more s (Overflows arrival route) many early fits = (fits.0, ignores s.names arrival.datagram arrival.moment ∙ fits.1)
  fits_more s (Refuses arrival route) many early fits = (fits.0, ignores s.names arrival.datagram arrival.moment ∙ fits.1)
  fits_more s (Drops arrival cause) many early fits = (fits.0, ignores s.names arrival.datagram arrival.moment ∙ fits.1)
  fits_more s (Sends route reply sent) many early fits = fits
  fits_more s (Resends route reply sent) many early fits = fits

  state_more : (s : State) (event : Event) → length schedules ≡ length s.names → IsBefore limit s event → Fits class schedules s event →
      state_by later (with_more more s) event ≡ with_more more (state_by schedules s event)
  state_more s (Begins c moment offers) many early fits =
      ap (λ (names : List RouteName). record (state_by schedules s (Begins c moment offers)) { names = names }) (names_more s c moment offers many early fits)
  state_more s Waits many early fits = refl
  state_more s WaitFails many early fits = refl
  state_more s ReadsNothing many early fits = refl
  state_more s ReadFails many early fits = refl
  state_more s (Answers arrival bytes sent) many early fits = refl
  state_more s (Accepts arrival route) many early fits = refl
  state_more s (Overflows arrival route) many early fits = refl
  state_more s (Refuses arrival route) many early fits = refl
  state_more s (Drops arrival cause) many early fits = refl
  state_more s (Sends route reply sent) many early fits = refl
  state_more s (Resends route reply sent) many early fits = refl

  still_many : (s : State) (event : Event) → length schedules ≡ length s.names → length schedules ≡ length (names_by schedules s event)
  still_many s (Begins c moment offers) many =
      many ∙ sym (many_closed offers (opened_if c s.round schedules s.names) ∙ many_opened_if c s.round schedules s.names many)
  still_many s Waits many = many
  still_many s WaitFails many = many
  still_many s ReadsNothing many = many
  still_many s ReadFails many = many
  still_many s (Answers arrival bytes sent) many = many
  still_many s (Accepts arrival route) many = many
  still_many s (Overflows arrival route) many = many
  still_many s (Refuses arrival route) many = many
  still_many s (Drops arrival cause) many = many
  still_many s (Sends route reply sent) many = many
  still_many s (Resends route reply sent) many = many

  -- the events that followed by the schedules known then follow by those that are known later, and lead to the same state with the further routes
  beforehand : (events : List Event) (s : State) → length schedules ≡ length s.names → AreBefore limit schedules s events →
      Follow class schedules s events →
      Follow class later (with_more more s) events × (state_after later (with_more more s) events ≡ with_more more (state_after schedules s events))
  beforehand [] s many early follow = (tt, refl)
  beforehand (event ∷ events) s many early follow =
      let one = state_more s event many early.0 follow.0 in
      let rest = beforehand events (state_by schedules s event) (still_many s event many) early.1 follow.1 in (
        (fits_more s event many early.0 follow.0, subst (λ (t : State). Follow class later t events) (sym one) rest.0),
        ap (λ (t : State). state_after later t events) one ∙ rest.1,
      )

  -- and the rounds start so, with the further routes
  start_beforehand : (s : State) (event : Event) → length schedules ≡ length s.names → IsBefore limit s event →
      starts_by later (with_more more s) event ≡ starts_more more (starts_by schedules s event)
  start_beforehand s (Begins c moment offers) many early =
      ap (λ (names : List RouteName). round_start s.round c names ∷ []) (opened_if_more limit more c s.round early schedules later s.names many agree)
  start_beforehand s Waits many early = refl
  start_beforehand s WaitFails many early = refl
  start_beforehand s ReadsNothing many early = refl
  start_beforehand s ReadFails many early = refl
  start_beforehand s (Answers arrival bytes sent) many early = refl
  start_beforehand s (Accepts arrival route) many early = refl
  start_beforehand s (Overflows arrival route) many early = refl
  start_beforehand s (Refuses arrival route) many early = refl
  start_beforehand s (Drops arrival cause) many early = refl
  start_beforehand s (Sends route reply sent) many early = refl
  start_beforehand s (Resends route reply sent) many early = refl

  starts_beforehand : (events : List Event) (s : State) → length schedules ≡ length s.names → AreBefore limit schedules s events →
      Follow class schedules s events → starts_in later (with_more more s) events ≡ starts_more more (starts_in schedules s events)
  starts_beforehand [] s many early follow = refl
  starts_beforehand (event ∷ events) s many early follow =
      let rest = starts_beforehand events (state_by schedules s event) (still_many s event many) early.1 follow.1 in
      ap (λ (l : List RoundStart). l ++ starts_in later (state_by later (with_more more s) event) events) (start_beforehand s event many early.0)
      ∙ ap (λ (t : State). starts_more more (starts_by schedules s event) ++ starts_in later t events) (state_more s event many early.0 follow.0)
      ∙ ap (λ (l : List RoundStart). starts_more more (starts_by schedules s event) ++ l) rest
      ∙ sym (map-append (start_more more) (starts_by schedules s event) (starts_in schedules (state_by schedules s event) events))

-- rounds go on
round_grows : (schedules : List Schedule) (s : State) (event : Event) → s.round ≤ (state_by schedules s event).round
round_grows schedules s (Begins c moment offers) = omega arith
round_grows schedules s Waits = omega arith
round_grows schedules s WaitFails = omega arith
round_grows schedules s ReadsNothing = omega arith
round_grows schedules s ReadFails = omega arith
round_grows schedules s (Answers arrival bytes sent) = omega arith
round_grows schedules s (Accepts arrival route) = omega arith
round_grows schedules s (Overflows arrival route) = omega arith
round_grows schedules s (Refuses arrival route) = omega arith
round_grows schedules s (Drops arrival cause) = omega arith
round_grows schedules s (Sends route reply sent) = omega arith
round_grows schedules s (Resends route reply sent) = omega arith

rounds_grow : (schedules : List Schedule) (events : List Event) (s : State) → s.round ≤ (state_after schedules s events).round
rounds_grow schedules [] s = omega arith
rounds_grow schedules (event ∷ events) s =
    omega (arith, round_grows schedules s event, rounds_grow schedules events (state_by schedules s event))

module _ (class : Sorting) (schedules : List Schedule) where
  -- a round that began waits before it is over
  begun_grows : (events : List Event) (s : State) (owes : Bool) → s.phase ≡ Begun owes → Follow class schedules s events →
      IsOver (state_after schedules s events).phase → s.round < (state_after schedules s events).round
  begun_grows [] s owes begun follow over = absurd (subst IsOver begun over)
  begun_grows (Begins c moment offers ∷ events) s owes begun follow over = absurd (subst IsOver begun follow.0.0)
  begun_grows (Waits ∷ events) s owes begun follow over = omega (arith, rounds_grow schedules events (state_by schedules s Waits))
  begun_grows (WaitFails ∷ events) s owes begun follow over = omega (arith, rounds_grow schedules events (state_by schedules s WaitFails))
  begun_grows (ReadsNothing ∷ events) s owes begun follow over = absurd (subst IsReading begun follow.0)
  begun_grows (ReadFails ∷ events) s owes begun follow over = absurd (subst IsReading begun follow.0)
  begun_grows (Answers arrival bytes sent ∷ events) s owes begun follow over = absurd (subst IsReading begun follow.0.0)
  begun_grows (Accepts arrival route ∷ events) s owes begun follow over = absurd (subst IsReading begun follow.0.0)
  begun_grows (Overflows arrival route ∷ events) s owes begun follow over = absurd (subst IsReading begun follow.0.0)
  begun_grows (Refuses arrival route ∷ events) s owes begun follow over = absurd (subst IsReading begun follow.0.0)
  begun_grows (Drops arrival cause ∷ events) s owes begun follow over = absurd (subst IsReading begun follow.0.0)
  begun_grows (Sends route reply sent ∷ events) s owes begun follow over = absurd (subst (λ p. MaySend p route) begun follow.0.0)
  begun_grows (Resends route reply sent ∷ events) s owes begun follow over =
      begun_grows events (state_by schedules s (Resends route reply sent)) false refl follow.1 over

  -- in a history that is over, each round that began is before the next one
  all_before : (limit : ℕ) (events : List Event) (s : State) → Follow class schedules s events →
      IsOver (state_after schedules s events).phase → (state_after schedules s events).round ≤ limit → AreBefore limit schedules s events
  all_before limit [] s follow over last = tt
  all_before limit (event ∷ events) s follow over last =
      (one event follow over last, all_before limit events (state_by schedules s event) follow.1 over last)
    where
      one : (event : Event) → Follow class schedules s (event ∷ events) → IsOver (state_after schedules s (event ∷ events)).phase →
          (state_after schedules s (event ∷ events)).round ≤ limit → IsBefore limit s event
      one (Begins c moment offers) follow over last =
          omega (arith, last, begun_grows events (state_by schedules s (Begins c moment offers)) _ refl follow.1 over)
      one Waits follow over last = tt
      one WaitFails follow over last = tt
      one ReadsNothing follow over last = tt
      one ReadFails follow over last = tt
      one (Answers arrival bytes sent) follow over last = tt
      one (Accepts arrival route) follow over last = tt
      one (Overflows arrival route) follow over last = tt
      one (Refuses arrival route) follow over last = tt
      one (Drops arrival cause) follow over last = tt
      one (Sends route reply sent) follow over last = tt
      one (Resends route reply sent) follow over last = tt

pub earlier_rounds_are_same : EarlierRoundsAreSame
earlier_rounds_are_same class limit schedules later more agree ignores events s many follow over last =
    beforehand class limit schedules later more agree ignores events s many (all_before class schedules limit events s follow over last) follow

pub earlier_starts_are_same : (class : Sorting) (limit : ℕ) (schedules later : List Schedule) (more : List RouteName) → AgreeBefore limit schedules later more
    → AreIgnored class more → (events : List Event) (s : State) → length schedules ≡ length s.names → Follow class schedules s events
    → IsOver (state_after schedules s events).phase → (state_after schedules s events).round ≤ limit
    → starts_in later (with_more more s) events ≡ starts_more more (starts_in schedules s events)
earlier_starts_are_same class limit schedules later more agree ignores events s many follow over last =
    starts_beforehand class limit schedules later more agree ignores events s many (all_before class schedules limit events s follow over last) follow

pub lobby_ignores_later : LobbyIgnoresLater
lobby_ignores_later secret limit schedules later more agree names d moment =
    hidden_change_nothing _ names more (more_are_hidden limit schedules later more agree) d moment
