-- The routes in a configuration's tables (our choice).
use Rattle.std.specs.Prelude.{ℕ, suc, ◌+◌, nat_lt, Bool, true, not, ◌&&◌, codes, List, [], ◌∷◌, ◌++◌, Option, None, Some, is_some, Result}
use Rattle.std.specs.Prelude.{Ok, Err, if◌then◌else◌}
use Rattle.std.specs.Str.{bytes_eq}
use Rattle.toml.specs.Data.{Data, Items, no_items, item, Members, as_array, as_table}
use Rattle.srt_types.specs.Access.{AccessTerms, anyone}
use Rattle.srt_types.specs.Terms.{Terms}
use Rattle.srt_types.specs.declared.shared.Mode.{Mode as TheMode}
use Rattle.srt_types.specs.declared.shared.Rules.{Rules}
use Rattle.srt_types.specs.declared.shared.Schedule.{Schedule}
use Rattle.srt_types.specs.declared.shared.Mode.TheVariants as mode
use Rattle.srt_types.specs.Entries.{is_between, is_name, draft_rules}
use Rattle.srt_lobby.specs.Opening.{is_taken}
use Rattle.srt_config.specs.declared.config.keys.Key.{Key}
use Rattle.srt_config.specs.declared.config.keys.Key.TheVariants.{Route, Name, Mode, LatencyMs, Buffer, Sessions, Inbox, Outbox}
use Rattle.srt_config.specs.declared.config.keys.Key.TheVariants.{OpenRound, CloseRound, Callers, PublishFrom, RequestFrom, PublishKey}
use Rattle.srt_config.specs.declared.config.keys.Key.TheVariants.{RequestKey, Reserved, SessionsPerAddress, TakeoverMs, ResendPercent}
use Rattle.srt_config.specs.declared.config.keys.Key.TheVariants.{PublishPassphrase, RequestPassphrase, Pbkeylen, Expect}
use Rattle.srt_config.specs.KeyTable.{limits_of}
use Rattle.srt_config.specs.Access.{access_at}
use Rattle.srt_config.specs.Rules.{callers_at, draft_if_none, rules_at}
use Rattle.srt_config.specs.Encryption.{with_encryption, encryption_at}
use Rattle.srt_config.specs.FirstFault.{Fault, WrongKind, OutOfRange, BadName, RepeatedName, ◌>>=◌}
use Rattle.srt_config.specs.Keys.{known, value_at, text_at, key_number_at, optional_number_at, optional_key_number_at, given_or_0, of_kind}
use Rattle.srt_config.specs.Keys.{optional_flag_at, given_or_false}

-- a name of the right form that no earlier route has
unfoldable pub name_in : (before : List Terms) → List ℕ → Result (List ℕ) Fault
name_in before text = if not (is_name text) then Err BadName else if is_taken text before then Err RepeatedName else Ok text

unfoldable pub mode_in : List ℕ → Result TheMode Fault
mode_in text = if bytes_eq text (codes "live") then Ok mode.Live else if bytes_eq text (codes "buffer") then Ok mode.Buffer else Err (OutOfRange Mode)

unfoldable pub name_at : (before : List Terms) → Members → Result (List ℕ) Fault
name_at before table = text_at Name table >>= λ text. name_in before text

unfoldable pub mode_at : Members → Result TheMode Fault
mode_at table = text_at Mode table >>= λ text. mode_in text

-- the numbers of a route
pub record Numbers : Type 0 where
  pub latency_ms : ℕ
  pub buffer : ℕ
  pub sessions : ℕ
  pub inbox : ℕ
  pub outbox : ℕ

unfoldable pub numbers_at : Members → Result Numbers Fault
numbers_at table =
    key_number_at LatencyMs table >>= λ latency_ms.
    key_number_at Buffer table >>= λ buffer.
    key_number_at Sessions table >>= λ sessions.
    key_number_at Inbox table >>= λ inbox.
    key_number_at Outbox table >>= λ outbox.
    Ok (record { latency_ms = latency_ms; buffer = buffer; sessions = sessions; inbox = inbox; outbox = outbox })

-- the keys of a route
abbrev pub route_keys : List Key
route_keys =
    Name ∷ Mode ∷ LatencyMs ∷ Buffer ∷ Sessions ∷ Inbox ∷ Outbox ∷ OpenRound ∷ CloseRound ∷ Callers ∷ PublishFrom ∷ RequestFrom ∷
    PublishKey ∷ RequestKey ∷ Reserved ∷ SessionsPerAddress ∷ TakeoverMs ∷ ResendPercent ∷ PublishPassphrase ∷ RequestPassphrase ∷ Pbkeylen ∷
    Expect ∷ []

-- a route that anyone may call, and that has the draft's rules
abbrev pub terms_with : List ℕ → TheMode → Numbers → Terms
terms_with name mode n =
    record {
      name = name;
      mode = mode;
      latency_ms = n.latency_ms;
      buffer = n.buffer;
      sessions = n.sessions;
      inbox = n.inbox;
      outbox = n.outbox;
      access = anyone;
      rules = draft_rules;
    }

-- the same with these lists and keys
abbrev pub with_access : AccessTerms → Terms → Terms
with_access access e = record e { access = access }

-- the same with these rules
abbrev pub with_rules : Rules → Terms → Terms
with_rules rules e = record e { rules = rules }

abbrev pub schedule_of : (opens : ℕ) → (closes : Option ℕ) → Schedule
schedule_of opens closes = record { open_round = opens; close_round = closes }

-- the rounds in which a route opens and closes: it opens in round 0 if it has no `open_round`, and closes in a later round
unfoldable pub schedule_at : Members → Result Schedule Fault
schedule_at table =
    optional_key_number_at OpenRound table >>= λ opens.
    optional_number_at CloseRound (given_or_0 opens + 1) (limits_of CloseRound).most table >>= λ closes.
    Ok (schedule_of (given_or_0 opens) closes)

abbrev pub is_later : (opens : ℕ) → (closes : Option ℕ) → Bool
is_later opens None = true
is_later opens (Some n) = nat_lt opens n

-- a route that closes opens before
abbrev pub closes_later : Schedule → Bool
closes_later s = is_later s.open_round s.close_round

-- a route's entry, its schedule, and whether it is expected to be on air
pub record Planned : Type 0 where
  pub terms : Terms
  pub schedule : Schedule
  pub expected : Bool

abbrev pub planned : Terms → Schedule → (expected : Bool) → Planned
planned terms schedule expected = record { terms = terms; schedule = schedule; expected = expected }

-- the route in a table, after these routes
unfoldable pub route_at : (before : List Terms) → Members → Result Planned Fault
route_at before table =
    known route_keys table >>= λ _.
    name_at before table >>= λ name.
    mode_at table >>= λ mode.
    numbers_at table >>= λ numbers.
    schedule_at table >>= λ schedule.
    callers_at table >>= λ callers.
    access_at table >>= λ access.
    rules_at numbers.sessions (draft_if_none callers) table >>= λ rules.
    encryption_at table >>= λ encryption.
    optional_flag_at Expect table >>= λ expect.
    Ok
    (planned (with_rules rules (with_access (with_encryption encryption access) (terms_with name mode numbers))) schedule
    (given_or_false expect))

-- the entries of routes, as many schedules, and whether each is expected to be on air
pub record Routes : Type 0 where
  pub terms : List Terms
  pub schedules : List Schedule
  pub expected : List Bool

abbrev pub no_routes : Routes
no_routes = record { terms = []; schedules = []; expected = [] }

abbrev pub with_route : Routes → Planned → Routes
with_route before route =
    record {
      terms = before.terms ++ route.terms ∷ [];
      schedules = before.schedules ++ route.schedule ∷ [];
      expected = before.expected ++ route.expected ∷ [];
    }

-- these routes, and the one in this value
abbrev pub routes_and : (before : Routes) → Data → Result Routes Fault
routes_and before value = of_kind Route (as_table value) >>= λ table. route_at before.terms table >>= λ route. Ok (with_route before route)

-- every item is a table
abbrev pub are_tables : Items → Bool
are_tables no_items = true
are_tables (item value rest) = is_some (as_table value) && are_tables rest

abbrev pub count : Items → ℕ
count no_items = 0
count (item value rest) = suc (count rest)

-- the routes in these tables, after those before
abbrev pub routes_from : (before : Routes) → Items → Result Routes Fault
routes_from before no_items = Ok before
routes_from before (item value rest) =
    of_kind Route (as_table value) >>= λ table. route_at before.terms table >>= λ route. routes_from (with_route before route) rest

-- 1 to 511 tables, each of them a route
unfoldable pub routes_in : Items → Result Routes Fault
routes_in items =
    if not (are_tables items) then Err (WrongKind Route)
    else if not (is_between (limits_of Route).least (limits_of Route).most (count items)) then Err (OutOfRange Route)
    else routes_from no_routes items

-- the routes of the whole table
unfoldable pub routes_at : Members → Result Routes Fault
routes_at table = value_at Route table >>= λ value. of_kind Route (as_array value) >>= λ items. routes_in items
