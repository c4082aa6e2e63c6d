-- The first of all faults is the one that reading returns.
use Rattle.std.proofs.Common.{◌≡◌, ℕ, suc, ◌+◌, Bool, true, false, not, ◌||◌, cond, is_some, List, [], ◌∷◌, ◌++◌, map, Option, None, Some}
use Rattle.std.proofs.Common.{option_and_then, Result, Ok, Err, refl, sym, ap, subst, ◌∙◌, append_assoc, if◌then◌else◌}
use Rattle.std.specs.List.{list_any}
use Rattle.std.specs.Str.{bytes_eq}
use Rattle.std.specs.Ordering.{nat_cmp, is_lt}
use Rattle.std.specs.Cmp.Lexicographic.{slice_cmp}
use Rattle.std.proofs.lemmas.Bool.{and_parts, false≢true}
use Rattle.toml.specs.Data.{Data, Members, no_members, member, Items, no_items, item, get_member, as_array, as_table}
use Rattle.srt_types.specs.Entries.{is_between, is_name}
use Rattle.srt_types.specs.Terms.{Terms}
use Rattle.srt_lobby.specs.Opening.{is_taken}
use Rattle.srt_config.specs.declared.config.keys.Key.{Key}
use Rattle.srt_config.specs.declared.config.placed.Place.{Place}
use Rattle.srt_config.specs.declared.config.placed.Place.TheVariants as place
use Rattle.srt_config.specs.declared.config.keys.Key.TheVariants.{Bind, Workers, Status, Defaults, Route, Name, Mode, LatencyMs, Buffer, Sessions}
use Rattle.srt_config.specs.declared.config.keys.Key.TheVariants.{Inbox, Outbox, OpenRound, CloseRound, Callers, PublishFrom, RequestFrom, PublishKey}
use Rattle.srt_config.specs.declared.config.keys.Key.TheVariants.{RequestKey, Reserved, SessionsPerAddress, TakeoverMs, ResendPercent}
use Rattle.srt_config.specs.declared.config.keys.Key.TheVariants.{PublishPassphrase, RequestPassphrase, Pbkeylen, Expect}
use Rattle.srt_config.specs.KeyTable.{key_name}
use Rattle.srt_config.specs.FirstFault.{Fault, UnknownKey, Missing, WrongKind, OutOfRange, BadName, RepeatedName, ◌>>=◌}
use Rattle.srt_config.specs.Keys.{is_key, lesser, least_unknown, none_unknown, known, present, of_kind, value_at, text_at, number_at, optional}
use Rattle.srt_config.specs.Keys.{optional_number_at, given_or_0, optional_flag_at, given_or_false}
use Rattle.srt_config.specs.Access.{list_at, key_at, access_at}
use Rattle.srt_config.specs.Rules.{callers_at, draft_if_none, most_reserved, rules_at}
use Rattle.srt_config.specs.Encryption.{passphrase_at, key_length_at, has_passphrase, encryption_in, encryption_at, default_encryption_at}
use Rattle.srt_config.specs.Encryption.{with_encryption}
use Rattle.srt_config.specs.Routes.{name_in, name_at, mode_at, Numbers, numbers_at, schedule_of, schedule_at, route_keys, terms_with, with_access, with_rules}
use Rattle.srt_config.specs.Routes.{Planned, planned, route_at, Routes, no_routes, with_route, are_tables, count, routes_from, routes_in, routes_at}
use Rattle.srt_config.specs.Defaults.{default_keys, optional_mode_at, numbers_right, limits_right, defaults_right, defaults_at, right_if_given}
use Rattle.srt_config.specs.Defaults.{table_at, items_at}
use Rattle.srt_config.specs.Address.{Address}
use Rattle.srt_config.specs.Config.{top_keys, secret_at, address_at, optional_address_at, Settings, settings_at}
use Rattle.srt_config.specs.FaultPlace.{or_later, faulty_from, place_in, place_at, ◌>>?◌, routes_place, fault_place}
use Rattle.srt_config.specs.AllFaults.{Placed, placed, fault_if, told, each, put_in_order, unknown_in, Part, AboveRoutes, OfDefaults, OfRoute, place_of}
use Rattle.srt_config.specs.AllFaults.{routes_right, routes_checked, top_fault, name_among, new_name_at, after_opening, close_round_at}
use Rattle.srt_config.specs.AllFaults.{most_kept, reserved_at, route_fault, own_fault, part_fault, unknown_fault, each_unknown, unknown_faults, part_faults}
use Rattle.srt_config.specs.AllFaults.{defaults_faults, names_with, names_after, written_at, table_faults, routes_faults, items_if, setting_keys, all_faults}
use Rattle.srt_config.specs.AllFaultLaws.{first, fault_of, FirstIsRead}
use Rattle.srt_config.proofs.KeyFaults.{failed, the_fault}
use Rattle.srt_config.proofs.Sound.{passed}

-- the first fault of a list is that of a reading; if the reading has none, it is the first of what follows
LeadsTo : {A : Type 0} → Place → Result A Fault → (list later : List Placed) → Type 0
LeadsTo {A} at r list later =
    ((fault : Fault) → r ≡ Err fault → first list ≡ Some (placed at fault)) × ((x : A) → r ≡ Ok x → first list ≡ first later)

one : {A : Type 0} (at : Place) (r : Result A Fault) (later : List Placed) → LeadsTo at r (told at (fault_if r) ++ later) later
unfolding LeadsTo
one at r later = (λ fault e. rw e refl, λ x e. rw e refl)

clash : {A : Type 0} {x : A} {fault : Fault} → Err fault ≡ Ok x → ⊥
clash e = cc

clash' : {A : Type 0} {x : A} {fault : Fault} → Ok x ≡ Err fault → ⊥
clash' e = cc

on : {A B : Type 0} (at : Place) (r : Result A Fault) (next : A → Result B Fault) (list mid later : List Placed) →
    LeadsTo at r list mid → ((x : A) → r ≡ Ok x → LeadsTo at (next x) mid later) → LeadsTo at (r >>= next) list later
unfolding LeadsTo
on {A} {B} at (Ok x) next list mid later t u = (λ fault e. t.1 x refl ∙ (u x refl).0 fault e, λ y e. t.1 x refl ∙ (u x refl).1 y e)
on {A} {B} at (Err g) next list mid later t u =
    (λ fault e. t.0 g refl ∙ ap (λ f. Some (placed at f)) (the_fault {A = B} g fault e), λ y e. absurd (clash e))

-- the same where the later step has another place
on_above : {A B : Type 0} (r : Result A Fault) (next : A → Result B Fault) (to : A → Place) (list mid later : List Placed) →
    LeadsTo place.Above r list mid → ((x : A) → r ≡ Ok x → LeadsTo (to x) (next x) mid later) → LeadsTo (r >>? to) (r >>= next) list later
unfolding LeadsTo
on_above {A} {B} (Ok x) next to list mid later t u = (λ fault e. t.1 x refl ∙ (u x refl).0 fault e, λ y e. t.1 x refl ∙ (u x refl).1 y e)
on_above {A} {B} (Err g) next to list mid later t u =
    (λ fault e. t.0 g refl ∙ ap (λ f. Some (placed place.Above f)) (the_fault {A = B} g fault e), λ y e. absurd (clash e))

on_defaults : {A B : Type 0} (r : Result A Fault) (next : A → Result B Fault) (to : A → Place) (list mid later : List Placed) →
    LeadsTo place.Defaults r list mid → ((x : A) → r ≡ Ok x → LeadsTo (to x) (next x) mid later) →
    LeadsTo (place_at place.Defaults r to) (r >>= next) list later
unfolding LeadsTo
on_defaults {A} {B} (Ok x) next to list mid later t u = (λ fault e. t.1 x refl ∙ (u x refl).0 fault e, λ y e. t.1 x refl ∙ (u x refl).1 y e)
on_defaults {A} {B} (Err g) next to list mid later t u =
    (λ fault e. t.0 g refl ∙ ap (λ f. Some (placed place.Defaults f)) (the_fault {A = B} g fault e), λ y e. absurd (clash e))

-- the function of the last value has no fault
last : {A B : Type 0} (at : Place) (r : Result A Fault) (f : A → B) (list later : List Placed) → LeadsTo at r list later →
    LeadsTo at (r >>= λ x. Ok (f x)) list later
unfolding LeadsTo
last {A} {B} at (Ok x) f list later t = (λ fault e. absurd (clash' e), λ y e. t.1 x refl)
last {A} {B} at (Err g) f list later t =
    (λ fault e. t.0 g refl ∙ ap (λ f. Some (placed at f)) (the_fault {A = B} g fault e), λ y e. absurd (clash e))

-- a list that ends here is that of the reading
led : {A : Type 0} (at : Place) (r : Result A Fault) (list : List Placed) → LeadsTo at r list [] → first list ≡ fault_of r at
unfolding LeadsTo
led at (Ok x) list t = t.1 x refl
led at (Err fault) list t = t.0 fault refl

pub none_left : (list : List Placed) → first list ≡ None → list ≡ []
none_left [] e = refl
none_left (x ∷ list) e = absurd cc

first_then : (list later : List Placed) (it : Placed) → first list ≡ Some it → first (list ++ later) ≡ Some it
first_then [] later it e = absurd cc
first_then (x ∷ list) later it e = e

-- what follows a list that ends here
extend : {A : Type 0} (at : Place) (r : Result A Fault) (list later : List Placed) → LeadsTo at r list [] → LeadsTo at r (list ++ later) later
unfolding LeadsTo
extend at r list later t =
    (λ fault e. first_then list later _ (t.0 fault e), λ x e. ap (λ l. first (l ++ later)) (none_left list (t.1 x e)))

-- unknown keys
abbrev head : List (List ℕ) → Option (List ℕ)
head [] = None
head (text ∷ texts) = Some text

least_is_head : (keys : List Key) (table : Members) → least_unknown keys table ≡ head (unknown_in keys table)
least_is_head keys no_members = refl
least_is_head keys (member text value rest) =
    ap (λ (r : Option (List ℕ)). if is_key keys text then r else Some (lesser text r)) (least_is_head keys rest) ∙
    chosen (is_key keys text) (unknown_in keys rest)
  where
    put : (t : Bool) (other : List ℕ) (texts : List (List ℕ)) →
        Some (if t then other else text) ≡ head (if t then other ∷ put_in_order text texts else text ∷ other ∷ texts)
    put true other texts = refl
    put false other texts = refl

    placed_in : (texts : List (List ℕ)) → Some (lesser text (head texts)) ≡ head (put_in_order text texts)
    placed_in [] = refl
    placed_in (other ∷ texts) = put (is_lt (slice_cmp nat_cmp other text)) other texts

    chosen : (t : Bool) (texts : List (List ℕ)) →
        (if t then head texts else Some (lesser text (head texts))) ≡ head (if t then texts else put_in_order text texts)
    chosen true texts = refl
    chosen false texts = placed_in texts

-- the first unknown key of a part whose unknown keys are all faults
unknown_leads : (part : Part) (later : List Placed) → ((text : List ℕ) → unknown_fault part text ≡ Some (UnknownKey text)) →
    (keys : List Key) (table : Members) →
    LeadsTo (place_of part) (known keys table) (each_unknown part (unknown_in keys table) ++ later) later
unfolding known LeadsTo
unknown_leads part later are keys table =
    subst (λ (o : Option (List ℕ)). LeadsTo (place_of part) (none_unknown o) (each_unknown part (unknown_in keys table) ++ later) later)
    (sym (least_is_head keys table)) (of (unknown_in keys table))
  where
    of : (texts : List (List ℕ)) → LeadsTo (place_of part) (none_unknown (head texts)) (each_unknown part texts ++ later) later
    of [] = (λ fault e. absurd (clash' e), λ x e. refl)
    of (text ∷ texts) = (
      λ fault e.
          ap (λ (o : Option Fault). first ((told (place_of part) o ++ each_unknown part texts) ++ later)) (are text) ∙
          ap (λ f. Some (placed (place_of part) f)) (the_fault {A = Unit {0}} (UnknownKey text) fault e),
      λ x e. absurd (clash e),
    )

-- the numbers, the schedule, the lists and keys, and the rules of a route
numbers_lead : (at : Place) (table : Members) (later : List Placed) →
    LeadsTo at (numbers_at table)
    (told at (fault_if (number_at LatencyMs 20 8000 table)) ++
    (told at (fault_if (number_at Buffer 32 8192 table)) ++
    (told at (fault_if (number_at Sessions 1 17 table)) ++
    (told at (fault_if (number_at Inbox 16 4096 table)) ++
    (told at (fault_if (number_at Outbox 16 4096 table)) ++ later))))) later
unfolding numbers_at
numbers_lead at table later =
    on at (number_at LatencyMs 20 8000 table) _ _ _ _ (one at _ _) (λ latency_ms e.
    on at (number_at Buffer 32 8192 table) _ _ _ _ (one at _ _) (λ buffer e.
    on at (number_at Sessions 1 17 table) _ _ _ _ (one at _ _) (λ sessions e.
    on at (number_at Inbox 16 4096 table) _ _ _ _ (one at _ _) (λ inbox e.
    last at (number_at Outbox 16 4096 table) _ _ _ (one at _ _)))))

schedule_leads : (at : Place) (table : Members) (later : List Placed) →
    LeadsTo at (schedule_at table)
    (told at (fault_if (optional_number_at OpenRound 0 1_000_000_000 table)) ++ (told at (fault_if (close_round_at table)) ++ later)) later
unfolding schedule_at close_round_at
schedule_leads at table later =
    on at (optional_number_at OpenRound 0 1_000_000_000 table) _ _ _ _ (one at _ _) (λ opens e.
    subst
    (λ (n : ℕ). LeadsTo at
    (optional_number_at CloseRound (given_or_0 opens + 1) 1_000_000_000 table >>= λ closes. Ok (schedule_of (given_or_0 opens) closes))
    (told at (fault_if (optional_number_at CloseRound n 1_000_000_000 table)) ++ later) later)
    (sym (ap after_opening e))
    (last at (optional_number_at CloseRound (given_or_0 opens + 1) 1_000_000_000 table) _ _ _ (one at _ _)))

access_leads : (at : Place) (table : Members) (later : List Placed) →
    LeadsTo at (access_at table)
    (told at (fault_if (list_at PublishFrom table)) ++
    (told at (fault_if (list_at RequestFrom table)) ++
    (told at (fault_if (key_at PublishKey table)) ++ (told at (fault_if (key_at RequestKey table)) ++ later)))) later
unfolding access_at
access_leads at table later =
    on at (list_at PublishFrom table) _ _ _ _ (one at _ _) (λ publish_from e.
    on at (list_at RequestFrom table) _ _ _ _ (one at _ _) (λ request_from e.
    on at (key_at PublishKey table) _ _ _ _ (one at _ _) (λ publish_key e.
    last at (key_at RequestKey table) _ _ _ (one at _ _))))

sessions_were : (table : Members) (n : Numbers) → numbers_at table ≡ Ok n → number_at Sessions 1 17 table ≡ Ok n.sessions
unfolding numbers_at
sessions_were table n h =
    let a = passed (number_at LatencyMs 20 8000 table) _ n h in
    let b = passed (number_at Buffer 32 8192 table) _ n a.2 in
    let c = passed (number_at Sessions 1 17 table) _ n b.2 in
    let d = passed (number_at Inbox 16 4096 table) _ n c.2 in
    let e = passed (number_at Outbox 16 4096 table) _ n d.2 in
    let all : Numbers = record { latency_ms = a.0; buffer = b.0; sessions = c.0; inbox = d.0; outbox = e.0 } in
    let same : all ≡ n = cc in
    c.1 ∙ ap (λ (m : Numbers). Ok m.sessions) same

rules_lead : (at : Place) (table : Members) (n : Numbers) (callers : _) → numbers_at table ≡ Ok n → (later : List Placed) →
    LeadsTo at (rules_at n.sessions callers table)
    (told at (fault_if (reserved_at table)) ++
    (told at (fault_if (optional_number_at SessionsPerAddress 1 17 table)) ++
    (told at (fault_if (optional_number_at TakeoverMs 100 5000 table)) ++
    (told at (fault_if (optional_number_at ResendPercent 5 1000 table)) ++ later)))) later
unfolding rules_at reserved_at
rules_lead at table n callers is later =
    subst
    (λ (r : Result ℕ Fault). LeadsTo at (rules_at n.sessions callers table)
    (told at (fault_if (optional_number_at Reserved 0 (most_kept r) table)) ++
    (told at (fault_if (optional_number_at SessionsPerAddress 1 17 table)) ++
    (told at (fault_if (optional_number_at TakeoverMs 100 5000 table)) ++
    (told at (fault_if (optional_number_at ResendPercent 5 1000 table)) ++ later)))) later)
    (sym (sessions_were table n is))
    (on at (optional_number_at Reserved 0 (most_reserved n.sessions) table) _ _ _ _ (one at _ _) (λ reserved e.
    on at (optional_number_at SessionsPerAddress 1 17 table) _ _ _ _ (one at _ _) (λ per_address e.
    on at (optional_number_at TakeoverMs 100 5000 table) _ _ _ _ (one at _ _) (λ takeover_ms e.
    last at (optional_number_at ResendPercent 5 1000 table) _ _ _ (one at _ _)))))

encryption_leads : (at : Place) (allowed : Bool) (table : Members) (later : List Placed) →
    LeadsTo at (encryption_in allowed table)
    (told at (fault_if (passphrase_at PublishPassphrase table)) ++
    (told at (fault_if (passphrase_at RequestPassphrase table)) ++ (told at (fault_if (key_length_at allowed table)) ++ later))) later
unfolding encryption_in
encryption_leads at allowed table later =
    on at (passphrase_at PublishPassphrase table) _ _ _ _ (one at _ _) (λ publish e.
    on at (passphrase_at RequestPassphrase table) _ _ _ _ (one at _ _) (λ request e.
    last at (key_length_at allowed table) _ _ _ (one at _ _)))

-- the names of routes before
any_name : (before : List Terms) (text : List ℕ) →
    list_any (λ (name : List ℕ). bytes_eq name text) (map (λ (t : Terms). t.name) before) ≡ is_taken text before
any_name [] text = refl
any_name (t ∷ before) text = ap (λ b. bytes_eq t.name text || b) (any_name before text)

same_name : (before : List Terms) (table : Members) → new_name_at (map (λ (t : Terms). t.name) before) table ≡ name_at before table
unfolding new_name_at name_at name_in
same_name before table = of (text_at Name table)
  where
    of : (r : Result (List ℕ) Fault) →
        (r >>= λ text. name_among (map (λ (t : Terms). t.name) before) text) ≡ (r >>= λ text. name_in before text)
    of (Ok text) =
        ap (λ (taken : Bool). if not (is_name text) then Err BadName else if taken then Err RepeatedName else Ok text) (any_name before text)
    of (Err fault) = refl

-- without faults of the defaults, each fault of a route is its own
all_own : (own : Members) (found : Option Fault) → own_fault own [] found ≡ found
all_own own None = refl
all_own own (Some fault) = refl

each_same : (at : Place) (f g : Key → Option Fault) (keys : List Key) → ((key : Key) → f key ≡ g key) → each at f keys ≡ each at g keys
each_same at f g [] same = refl
each_same at f g (key ∷ keys) same =
    ap (λ (o : Option Fault). told at o ++ each at f keys) (same key) ∙ ap (λ l. told at (g key) ++ l) (each_same at f g keys same)

-- the keys of a part that are checked after its unknown ones, and then a list
abbrev each_then : Place → (Key → Option Fault) → List Key → (later : List Placed) → List Placed
each_then at f [] later = later
each_then at f (key ∷ keys) later = told at (f key) ++ each_then at f keys later

each_app : (at : Place) (f : Key → Option Fault) (keys : List Key) (later : List Placed) → each at f keys ++ later ≡ each_then at f keys later
each_app at f [] later = refl
each_app at f (key ∷ keys) later =
    append_assoc (told at (f key)) (each at f keys) later ∙ ap (λ l. told at (f key) ++ l) (each_app at f keys later)

abbrev behind : (number : ℕ) (before : List Terms) (table : Members) → List Placed
behind number before table =
    each (place.Route number) (route_fault (map (λ (t : Terms). t.name) before) table)
    (Mode ∷ LatencyMs ∷ Buffer ∷ Sessions ∷ Inbox ∷ Outbox ∷ OpenRound ∷ CloseRound ∷ Callers ∷ PublishFrom ∷ RequestFrom ∷
    PublishKey ∷ RequestKey ∷ Reserved ∷ SessionsPerAddress ∷ TakeoverMs ∷ ResendPercent ∷ PublishPassphrase ∷ RequestPassphrase ∷ Pbkeylen ∷
    Expect ∷ [])

-- the faults of a route, whose names before are those of these routes
route_leads : (number : ℕ) (before : List Terms) (table own : Members) →
    LeadsTo (place.Route number) (route_at before table)
    (part_faults (OfRoute number table own (map (λ (t : Terms). t.name) before) []) route_keys) []
unfolding route_at unknown_faults
route_leads number before table own =
    let at = place.Route number in
    let names = map (λ (t : Terms). t.name) before in
    let unknown = each_unknown (OfRoute number table own names []) (unknown_in route_keys table) in
    subst (λ (l : List Placed). LeadsTo at (route_at before table) (unknown ++ l) [])
    (sym (each_same at (part_fault (OfRoute number table own names [])) (route_fault names table) route_keys
    (λ key. all_own own (route_fault names table key))))
    (subst (λ (r : Result (List ℕ) Fault). LeadsTo at (route_at before table) (unknown ++ (told at (fault_if r) ++ behind number before table)) [])
    (sym (same_name before table))
    (on at (known route_keys table) _ _ _ _ (unknown_leads (OfRoute number table own names []) _ (λ text. refl) route_keys table) (λ u e.
    on at (name_at before table) _ _ _ _ (one at _ _) (λ name e.
    on at (mode_at table) _ _ _ _ (one at _ _) (λ mode e.
    on at (numbers_at table) _ _ _ _ (numbers_lead at table _) (λ numbers is.
    on at (schedule_at table) _ _ _ _ (schedule_leads at table _) (λ schedule e.
    on at (callers_at table) _ _ _ _ (one at _ _) (λ callers e.
    on at (access_at table) _ _ _ _ (access_leads at table _) (λ access e.
    on at (rules_at numbers.sessions (draft_if_none callers) table) _ _ _ _ (rules_lead at table numbers (draft_if_none callers) is _) (λ rules e.
    on at (encryption_at table) _ _ _ _ (encryption_leads at (has_passphrase table) table _) (λ encryption e.
    last at (optional_flag_at Expect table) _ _ _ (one at _ _))))))))))))

-- the faults of the defaults
optional_numbers_lead : (at : Place) (table : Members) (later : List Placed) →
    LeadsTo at (numbers_right table)
    (told at (fault_if (optional_number_at LatencyMs 20 8000 table)) ++
    (told at (fault_if (optional_number_at Buffer 32 8192 table)) ++
    (told at (fault_if (optional_number_at Sessions 1 17 table)) ++
    (told at (fault_if (optional_number_at Inbox 16 4096 table)) ++
    (told at (fault_if (optional_number_at Outbox 16 4096 table)) ++
    (told at (fault_if (optional_number_at OpenRound 0 1_000_000_000 table)) ++
    (told at (fault_if (optional_number_at CloseRound 1 1_000_000_000 table)) ++ later))))))) later
unfolding numbers_right
optional_numbers_lead at table later =
    on at (optional_number_at LatencyMs 20 8000 table) _ _ _ _ (one at _ _) (λ latency_ms e.
    on at (optional_number_at Buffer 32 8192 table) _ _ _ _ (one at _ _) (λ buffer e.
    on at (optional_number_at Sessions 1 17 table) _ _ _ _ (one at _ _) (λ sessions e.
    on at (optional_number_at Inbox 16 4096 table) _ _ _ _ (one at _ _) (λ inbox e.
    on at (optional_number_at Outbox 16 4096 table) _ _ _ _ (one at _ _) (λ outbox e.
    on at (optional_number_at OpenRound 0 1_000_000_000 table) _ _ _ _ (one at _ _) (λ opens e.
    last at (optional_number_at CloseRound 1 1_000_000_000 table) _ _ _ (one at _ _)))))))

limits_lead : (at : Place) (table : Members) (later : List Placed) →
    LeadsTo at (limits_right table)
    (told at (fault_if (optional_number_at Reserved 0 2 table)) ++
    (told at (fault_if (optional_number_at SessionsPerAddress 1 17 table)) ++
    (told at (fault_if (optional_number_at TakeoverMs 100 5000 table)) ++
    (told at (fault_if (optional_number_at ResendPercent 5 1000 table)) ++ later)))) later
unfolding limits_right
limits_lead at table later =
    on at (optional_number_at Reserved 0 2 table) _ _ _ _ (one at _ _) (λ reserved e.
    on at (optional_number_at SessionsPerAddress 1 17 table) _ _ _ _ (one at _ _) (λ per_address e.
    on at (optional_number_at TakeoverMs 100 5000 table) _ _ _ _ (one at _ _) (λ takeover_ms e.
    last at (optional_number_at ResendPercent 5 1000 table) _ _ _ (one at _ _))))

defaults_lead : (table : Members) → LeadsTo place.Defaults (defaults_right table) (part_faults (OfDefaults table) default_keys) []
unfolding defaults_right unknown_faults
defaults_lead table =
    let at = place.Defaults in
    on at (known default_keys table) _ _ _ _ (unknown_leads (OfDefaults table) _ (λ text. refl) default_keys table) (λ u e.
    on at (optional_mode_at table) _ _ _ _ (one at _ _) (λ mode e.
    on at (numbers_right table) _ _ _ _ (optional_numbers_lead at table _) (λ numbers e.
    on at (callers_at table) _ _ _ _ (one at _ _) (λ callers e.
    on at (access_at table) _ _ _ _ (access_leads at table _) (λ access e.
    on at (limits_right table) _ _ _ _ (limits_lead at table _) (λ u e.
    on at (default_encryption_at table) _ _ _ _ (encryption_leads at true table _) (λ encryption e.
    last at (optional_flag_at Expect table) _ _ _ (one at _ _))))))))

-- the faults of the defaults that there are, and what follows
checked_lead : (defaults : Option Members) (later : List Placed) →
    LeadsTo place.Defaults (right_if_given defaults) (defaults_faults defaults ++ later) later
unfolding LeadsTo
checked_lead None later = (λ fault e. absurd (clash' e), λ x e. refl)
checked_lead (Some defaults) later =
    extend place.Defaults (defaults_right defaults) (part_faults (OfDefaults defaults) default_keys) later (defaults_lead defaults)

no_wrong : (defaults : Option Members) (u : Unit {0}) → right_if_given defaults ≡ Ok u → defaults_faults defaults ≡ []
unfolding LeadsTo
no_wrong None u e = refl
no_wrong (Some defaults) u e = none_left (part_faults (OfDefaults defaults) default_keys) ((defaults_lead defaults).1 u e)

-- the defaults that were read are those of the table
same_defaults : (table : Members) (defaults : Option Members) → defaults_at table ≡ Ok defaults → table_at Defaults table ≡ defaults
unfolding defaults_at
same_defaults table defaults h = of (get_member (key_name Defaults) table) h
  where
    kind : (k : Option Members) → (of_kind Defaults k >>= λ t. Ok (Some t)) ≡ Ok defaults → k ≡ defaults
    kind (Some other) e = cc
    kind None e = absurd cc

    of : (o : Option Data) → optional (λ value. of_kind Defaults (as_table value)) o ≡ Ok defaults → option_and_then as_table o ≡ defaults
    of (Some value) e = kind (as_table value) e
    of None e = cc

abbrev the_route : Planned → Result Planned Fault
the_route x = Ok x

ok_is : (x y : Planned) → the_route x ≡ the_route y → x ≡ y
ok_is x y e = cc

-- the name of a route that was read
name_was : (before : List Terms) (table : Members) (route : Planned) → route_at before table ≡ Ok route → text_at Name table ≡ Ok route.terms.name
unfolding route_at name_at name_in
name_was before table route h =
    let k = passed (known route_keys table) _ route h in
    let name = passed (name_at before table) _ route k.2 in
    let mode = passed (mode_at table) _ route name.2 in
    let numbers = passed (numbers_at table) _ route mode.2 in
    let schedule = passed (schedule_at table) _ route numbers.2 in
    let callers = passed (callers_at table) _ route schedule.2 in
    let access = passed (access_at table) _ route callers.2 in
    let rules = passed (rules_at numbers.0.sessions (draft_if_none callers.0) table) _ route access.2 in
    let encryption = passed (encryption_at table) _ route rules.2 in
    let expect = passed (optional_flag_at Expect table) _ route encryption.2 in
    let made : Planned =
    planned (with_rules rules.0 (with_access (with_encryption encryption.0 access.0) (terms_with name.0 mode.0 numbers.0))) schedule.0
    (given_or_false expect.0) in
    let same : made ≡ route = ok_is made route expect.2 in
    let text = passed (text_at Name table) _ name.0 name.1 in
    let is : text.0 ≡ name.0 = kept (is_name text.0) (is_taken text.0 before) text.0 name.0 text.2 in
    text.1 ∙ ap (λ (t : List ℕ). Ok t) is ∙ ap (λ (p : Planned). Ok p.terms.name) same
  where
    kept : (good taken : Bool) (text name : List ℕ) →
        cond (not good) (Err BadName) (cond taken (Err RepeatedName) (Ok text)) ≡ Ok name → text ≡ name
    kept true true text name e = absurd cc
    kept true false text name e = cc
    kept false taken text name e = absurd cc

names_more : (before : List Terms) (t : Terms) →
    map (λ (e : Terms). e.name) before ++ t.name ∷ [] ≡ map (λ (e : Terms). e.name) (before ++ t ∷ [])
names_more [] t = refl
names_more (e ∷ before) t = ap (λ names. e.name ∷ names) (names_more before t)

-- the routes behind one have the faults of their reading
abbrev Follow : (written rest : Items) (number : ℕ) (before : Routes) → Type 0
Follow written rest number before =
    (route : Planned) →
    LeadsTo (place.Route (faulty_from (suc number) (with_route before route) rest)) (routes_from (with_route before route) rest)
    (routes_faults written [] (suc number) (map (λ (t : Terms). t.name) (before.terms ++ route.terms ∷ [])) rest) []

-- the faults of all routes
routes_lead : (written : Items) (items : Items) (number : ℕ) (before : Routes) → are_tables items ≡ true →
    LeadsTo (place.Route (faulty_from number before items)) (routes_from before items)
    (routes_faults written [] number (map (λ (t : Terms). t.name) before.terms) items) []
unfolding LeadsTo
routes_lead written no_items number before are = (λ fault e. absurd (clash' e), λ x e. refl)
routes_lead written (item value rest) number before are =
    let parts = and_parts (is_some (as_table value)) (are_tables rest) are in
    of_table (as_table value) parts.0 (λ route. routes_lead written rest (suc number) (with_route before route) parts.1)
  where
    of_route : (table : Members) (r : Result Planned Fault) → route_at before.terms table ≡ r → Follow written rest number before →
        LeadsTo
        (place.Route (or_later number (r >>= λ route. Ok (with_route before route)) (λ routes. faulty_from (suc number) routes rest)))
        (r >>= λ route. routes_from (with_route before route) rest)
        (part_faults (OfRoute number table (written_at written number) (map (λ (t : Terms). t.name) before.terms) []) route_keys ++
        routes_faults written [] (suc number) (names_with (map (λ (t : Terms). t.name) before.terms) (text_at Name table)) rest) []
    of_route table (Err g) is more =
        let lead = extend (place.Route number) (route_at before.terms table)
        (part_faults (OfRoute number table (written_at written number) (map (λ (t : Terms). t.name) before.terms) []) route_keys)
        (routes_faults written [] (suc number) (names_with (map (λ (t : Terms). t.name) before.terms) (text_at Name table)) rest)
        (route_leads number before.terms table (written_at written number)) in
        (λ fault e. lead.0 g is ∙ ap (λ f. Some (placed (place.Route number) f)) (the_fault {A = Routes} g fault e), λ x e. absurd (clash e))
    of_route table (Ok route) is more =
        let lead = extend (place.Route number) (route_at before.terms table)
        (part_faults (OfRoute number table (written_at written number) (map (λ (t : Terms). t.name) before.terms) []) route_keys)
        (routes_faults written [] (suc number) (names_with (map (λ (t : Terms). t.name) before.terms) (text_at Name table)) rest)
        (route_leads number before.terms table (written_at written number)) in
        let after = more route in
        let same : names_with (map (λ (t : Terms). t.name) before.terms) (text_at Name table)
        ≡ map (λ (t : Terms). t.name) (before.terms ++ route.terms ∷ []) =
        ap (names_with (map (λ (t : Terms). t.name) before.terms)) (name_was before.terms table route is) ∙ names_more before.terms route.terms in
        let put = ap (λ (ns : List (List ℕ)). first (routes_faults written [] (suc number) ns rest)) same in
        (λ fault e. lead.1 route is ∙ put ∙ after.0 fault e, λ x e. lead.1 route is ∙ put ∙ after.1 x e)

    of_table : (o : Option Members) → is_some o ≡ true → Follow written rest number before →
        LeadsTo
        (place.Route
        (or_later number (of_kind Route o >>= λ table. route_at before.terms table >>= λ route. Ok (with_route before route))
        (λ routes. faulty_from (suc number) routes rest)))
        (of_kind Route o >>= λ table. route_at before.terms table >>= λ route. routes_from (with_route before route) rest)
        (table_faults written [] number (map (λ (t : Terms). t.name) before.terms) o ++
        routes_faults written [] (suc number) (names_after (map (λ (t : Terms). t.name) before.terms) o) rest) []
    of_table None some more = absurd (false≢true some)
    of_table (Some table) some more = of_route table (route_at before.terms table) refl more

-- the routes as a whole, and each of them
whole_leads : (written : Items) (table : Members) →
    LeadsTo (routes_place table) (routes_at table)
    ((told place.Above (fault_if (routes_checked table)) ++ []) ++ routes_faults written [] 1 [] (items_if (items_at Route table))) []
unfolding routes_place routes_at routes_in routes_checked value_at LeadsTo
whole_leads written table = of (get_member (key_name Route) table)
  where
    fails : {A : Type 0} (g fault : Fault) → failed {A = A} g ≡ failed {A = A} fault → Some (placed place.Above g) ≡ Some (placed place.Above fault)
    fails {A} g fault e = ap (λ f. Some (placed place.Above f)) (the_fault {A = A} g fault e)

    ranged : (items : Items) (t u : Bool) → are_tables items ≡ t →
        LeadsTo
        (if not t then place.Above else if not u then place.Above else place.Route (faulty_from 1 no_routes items))
        (if not t then failed {A = Routes} (WrongKind Route) else if not u then failed {A = Routes} (OutOfRange Route) else routes_from no_routes items)
        ((told place.Above
        (fault_if (if not t then failed {A = Unit {0}} (WrongKind Route) else if not u then failed {A = Unit {0}} (OutOfRange Route) else Ok tt)) ++ []) ++
        routes_faults written [] 1 [] items) []
    ranged items true true is = routes_lead written items 1 no_routes is
    ranged items true false is = (λ fault e. fails {A = Routes} (OutOfRange Route) fault e, λ x e. absurd (clash e))
    ranged items false u is = (λ fault e. fails {A = Routes} (WrongKind Route) fault e, λ x e. absurd (clash e))

    of_items : (o : Option Items) →
        LeadsTo (of_kind Route o >>? λ items. place_in items) (of_kind Route o >>= λ items. routes_in items)
        ((told place.Above (fault_if (of_kind Route o >>= λ items. routes_right items)) ++ []) ++ routes_faults written [] 1 [] (items_if o)) []
    of_items None = (λ fault e. fails {A = Routes} (WrongKind Route) fault e, λ x e. absurd (clash e))
    of_items (Some items) = ranged items (are_tables items) (is_between 1 511 (count items)) refl

    of : (o : Option Data) →
        LeadsTo (present Route o >>? λ value. of_kind Route (as_array value) >>? λ items. place_in items)
        (present Route o >>= λ value. of_kind Route (as_array value) >>= λ items. routes_in items)
        ((told place.Above (fault_if (present Route o >>= λ value. of_kind Route (as_array value) >>= λ items. routes_right items)) ++ []) ++
        routes_faults written [] 1 [] (items_if (option_and_then as_array o))) []
    of None = (λ fault e. fails {A = Routes} (Missing Route) fault e, λ x e. absurd (clash e))
    of (Some value) = of_items (as_array value)

-- the defaults and the routes
later_faults : (written table : Members) (defaults : Option Members) → List Placed
later_faults written table defaults =
    defaults_faults defaults ++
    ((told place.Above (fault_if (routes_checked table)) ++ []) ++
    routes_faults (items_if (items_at Route written)) (defaults_faults defaults) 1 [] (items_if (items_at Route table)))

later_lead : (written table : Members) (defaults : Option Members) (put : Routes → Settings) →
    LeadsTo (place_at place.Defaults (right_if_given defaults) λ _. routes_place table)
    (right_if_given defaults >>= λ _. routes_at table >>= λ routes. Ok (put routes)) (later_faults written table defaults) []
unfolding later_faults
later_lead written table defaults put =
    on_defaults (right_if_given defaults) _ _ _ _ _ (checked_lead defaults _) (λ u e.
    subst
    (λ (wrong : List Placed). LeadsTo (routes_place table) (routes_at table >>= λ routes. Ok (put routes))
    ((told place.Above (fault_if (routes_checked table)) ++ []) ++
    routes_faults (items_if (items_at Route written)) wrong 1 [] (items_if (items_at Route table))) [])
    (sym (no_wrong defaults u e))
    (last (routes_place table) (routes_at table) put _ _ (whole_leads (items_if (items_at Route written)) table)))

abbrev settings_with : (secret : List ℕ) (bind : Address) (workers : ℕ) (status : Option Address) → Routes → Settings
settings_with secret bind workers status routes =
    record {
      secret = secret;
      bind = bind;
      workers = workers;
      status = status;
      routes = routes.terms;
      schedules = routes.schedules;
      expected = routes.expected;
    }

settings_lead : (written table : Members) → LeadsTo (fault_place table) (settings_at table) (all_faults written table) []
unfolding all_faults settings_at fault_place unknown_faults later_faults
settings_lead written table =
    let at = place.Above in
    let unknown = each_unknown (AboveRoutes table) (unknown_in top_keys table) in
    let later = later_faults written table (table_at Defaults table) in
    let flat : (unknown ++ each at (top_fault table) setting_keys) ++ later ≡ unknown ++ each_then at (top_fault table) setting_keys later =
    append_assoc unknown (each at (top_fault table) setting_keys) later ∙ ap (λ l. unknown ++ l) (each_app at (top_fault table) setting_keys later) in
    subst (λ (l : List Placed). LeadsTo (fault_place table) (settings_at table) l []) (sym flat)
    (on_above (known top_keys table) _ _ _ _ _ (unknown_leads (AboveRoutes table) _ (λ text. refl) top_keys table) (λ u e.
    on_above (secret_at table) _ _ _ _ _ (one at _ _) (λ secret e.
    on_above (address_at Bind table) _ _ _ _ _ (one at _ _) (λ bind e.
    on_above (number_at Workers 1 16 table) _ _ _ _ _ (one at _ _) (λ workers e.
    on_above (optional_address_at Status table) _ _ _ _ _ (one at _ _) (λ status e.
    on_above (defaults_at table) _ _ _ _ _ (one at _ _) (λ defaults is.
    subst
    (λ (d : Option Members). LeadsTo (place_at place.Defaults (right_if_given defaults) λ _. routes_place table)
    (right_if_given defaults >>= λ _. routes_at table >>= λ routes. Ok (settings_with secret bind workers status routes))
    (later_faults written table d) [])
    (sym (same_defaults table defaults is))
    (later_lead written table defaults (settings_with secret bind workers status)))))))))

pub first_is_read : FirstIsRead
first_is_read written table = led (fault_place table) (settings_at table) (all_faults written table) (settings_lead written table)
