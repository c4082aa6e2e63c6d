-- The fault that is returned is that of the first key that has one.
use Rattle.std.proofs.Common.{◌&&◌, ◌==◌, is_some, ◌≡◌, ℕ, ◌+◌, ℤ, pos, negsuc, ◌⊎◌, inl, inr, Bool, true, false, not, codes, List, [], ◌∷◌, ◌++◌, length}
use Rattle.std.proofs.Common.{Option, Some, None, option_and_then, Result, Ok, Err, refl, sym, ap, subst, ◌∙◌, if◌then◌else◌, arith}
use Rattle.std.specs.Str.{bytes_eq}
use Rattle.std.proofs.lemmas.Bool.Decides.{nat_tests}
use Rattle.toml.specs.Data.{Data, Members, Items, no_items, item, get_member, as_str, as_integer, as_bool, as_array, as_table}
use Rattle.hex.specs.Hex.{decode_sized}
use Rattle.hex.specs.declared.error.FromHexError.{FromHexError}
use Rattle.srt_types.specs.Entries.{is_between, is_name}
use Rattle.srt_types.specs.Terms.{Terms}
use Rattle.srt_types.specs.declared.shared.Network.{Network}
use Rattle.srt_types.specs.declared.shared.KeyLength.{KeyLength}
use Rattle.srt_types.specs.declared.shared.KeyLength.TheVariants.{Aes128, Aes192, Aes256}
use Rattle.srt_types.specs.Access.{bytes_in}
use Rattle.srt_types.specs.declared.shared.Mode.{Mode as TheMode}
use Rattle.srt_types.specs.declared.shared.Mode.TheVariants as mode
use Rattle.srt_types.specs.declared.shared.Callers.{Callers as TheCallers}
use Rattle.srt_types.specs.declared.shared.Callers.TheVariants as callers
use Rattle.srt_lobby.specs.Opening.{is_taken}
use Rattle.srt_config.specs.declared.config.keys.Key.{Key}
use Rattle.srt_config.specs.declared.config.keys.Key.TheVariants.{Secret, Bind, Workers, Status, Defaults, Route, Name, Mode, LatencyMs, Buffer}
use Rattle.srt_config.specs.declared.config.keys.Key.TheVariants.{Sessions, Inbox, Outbox, OpenRound, CloseRound, Callers}
use Rattle.srt_config.specs.declared.config.keys.Key.TheVariants.{PublishFrom, RequestFrom, PublishKey, RequestKey, Reserved}
use Rattle.srt_config.specs.declared.config.keys.Key.TheVariants.{SessionsPerAddress, TakeoverMs, ResendPercent, PublishPassphrase, RequestPassphrase, Pbkeylen}
use Rattle.srt_config.specs.declared.config.keys.Key.TheVariants.{Expect}
use Rattle.srt_config.specs.Access.{network_in, are_texts, member_count, networked, networks_from, list_in, list_value, list_at}
use Rattle.srt_config.specs.Access.{is_key_text, key_in, key_value, key_at, callers_of, access_at}
use Rattle.srt_config.specs.Rules.{callers_in, callers_value, callers_at, draft_if_none, most_reserved, rules_with, rules_at}
use Rattle.srt_config.specs.Encryption.{passphrase_in, passphrase_value, passphrase_at, lengthened, key_length_in, key_length_value}
use Rattle.srt_config.specs.Encryption.{key_length_at, has_passphrase, encryption_with, encryption_in, encryption_at, default_encryption_at}
use Rattle.srt_config.specs.Encryption.{with_encryption}
use Rattle.srt_config.specs.KeyTable.{key_name}
use Rattle.srt_config.specs.FirstFault.{Fault, UnknownKey, Missing, WrongKind, OutOfRange, BadName, RepeatedName, BadSecret, BadAddress, ◌>>=◌}
use Rattle.srt_config.specs.Address.{Address, address_in}
use Rattle.srt_config.specs.Keys.{least_unknown, none_unknown, known, present, of_kind, value_at, optional, text_value, text_at, within}
use Rattle.srt_config.specs.Keys.{number_value, number_at, optional_number_at, given_or_0, flag_value, optional_flag_at, given_or_false}
use Rattle.srt_config.specs.Routes.{route_keys, name_in, mode_in, name_at, mode_at, Numbers, numbers_at, schedule_of, schedule_at}
use Rattle.srt_config.specs.Routes.{terms_with, with_access, with_rules, Planned, planned, route_at, Routes, no_routes, with_route, are_tables, count}
use Rattle.srt_config.specs.Routes.{routes_from, routes_in, routes_at}
use Rattle.srt_config.specs.Defaults.{default_keys, mode_value, optional_mode_at, numbers_right, limits_right, defaults_right, defaults_at}
use Rattle.srt_config.specs.Defaults.{right_if_given}
use Rattle.srt_config.specs.Config.{decoded, secret_in, secret_at, addressed, address_value, address_at, optional_address_at, top_keys, Settings}
use Rattle.srt_config.specs.Config.{settings_at}
use Rattle.srt_config.specs.KeyFaults.{Faulty, HasNone, ◌⊳◌, Unknown, AtKey, AtOptional, NoSecret, NoAddress, Outside, NoName, NoMode}
use Rattle.srt_config.specs.KeyFaults.{InNumbers, number_or_0, opening_in, InSchedule, is_network, are_networks, NoNetworks, NoKeyText}
use Rattle.srt_config.specs.KeyFaults.{InAccess, NoCallers, sessions_in, InRules, InRoute, InRoutes, NoRoutes, NoRoutesOrIn, InTable}
use Rattle.srt_config.specs.KeyFaults.{InOptionalNumbers, InLimits, InDefaults, NoPassphrase, NoKeyLength, InEncryption, AnyTruth}
use Rattle.srt_config.specs.KeyFaults.{IsFirstFault}
use Rattle.srt_config.proofs.Sound.{passed}

-- a reading fails with exactly these faults
abbrev pub Tells : {A : Type 0} → Result A Fault → Faulty → Type 0
Tells r faulty = (fault : Fault) → (r ≡ Err fault → faulty fault) × (faulty fault → r ≡ Err fault)

never : {A : Type 0} (x : A) (fault : Fault) → Ok x ≡ Err fault → ⊥
never x fault e = cc

abbrev pub failed : {A : Type 0} → Fault → Result A Fault
failed fault = Err fault

pub the_fault : {A : Type 0} (g fault : Fault) → failed {A = A} g ≡ failed {A = A} fault → g ≡ fault
the_fault g fault e = cc

on : {A B : Type 0} (r : Result A Fault) (next : A → Result B Fault) (first later : Faulty)
    → Tells r first → ((x : A) → r ≡ Ok x → Tells (next x) later) → Tells (r >>= next) (first ⊳ later)
on {A} {B} (Ok x) next first later t u fault =
    (λ e. inr (λ g k. never x g ((t g).1 k), (u x refl fault).0 e), back)
  where
    back : (first ⊳ later) fault → next x ≡ Err fault
    back (inl k) = absurd (never x fault ((t fault).1 k))
    back (inr k) = (u x refl fault).1 k.1
on {A} {B} (Err g) next first later t u fault =
    (λ e. inl ((t fault).0 (ap (failed {A = A}) (the_fault {A = B} g fault e))), back)
  where
    back : (first ⊳ later) fault → failed {A = B} g ≡ failed {A = B} fault
    back (inl k) = ap (failed {A = B}) (the_fault {A = A} g fault ((t fault).1 k))
    back (inr k) = absurd (k.0 g ((t g).0 refl))

-- the function of the last value has no fault
last : {A B : Type 0} (r : Result A Fault) (f : A → B) (faulty : Faulty) → Tells r faulty → Tells (r >>= λ x. Ok (f x)) faulty
last {A} {B} (Ok x) f faulty t fault = (λ e. absurd (never (f x) fault e), λ k. absurd (never x fault ((t fault).1 k)))
last {A} {B} (Err g) f faulty t fault = (
  λ e.
      (t fault).0 (ap (failed {A = A}) (the_fault {A = B} g fault e)),
  λ k. ap (failed {A = B}) (the_fault {A = A} g fault ((t fault).1 k)),
)

assoc : {A B C : Type 0} (r : Result A Fault) (f : A → Result B Fault) (g : B → Result C Fault) → ((r >>= f) >>= g) ≡ (r >>= λ x. f x >>= g)
assoc (Ok x) f g = refl
assoc (Err fault) f g = refl

same : {A : Type 0} (r s : Result A Fault) (faulty : Faulty) → r ≡ s → Tells s faulty → Tells r faulty
same r s faulty e t = subst (λ v. Tells v faulty) (sym e) t

-- one key
abbrev read : {A B : Type 0} → Key → (Data → Option A) → (A → Result B Fault) → Option Data → Result B Fault
read key kind next o = present key o >>= λ value. of_kind key (kind value) >>= next

abbrev read_kind : {A B : Type 0} → Key → (A → Result B Fault) → Option A → Result B Fault
read_kind key next k = of_kind key k >>= next

at_key : {A B : Type 0} (key : Key) (kind : Data → Option A) (next : A → Result B Fault) (Own : A → Faulty) (table : Members)
    → ((x : A) → Tells (next x) (Own x)) → Tells (read key kind next (get_member (key_name key) table)) (AtKey key kind Own table)
at_key {A} {B} key kind next Own table t fault = (there (get_member (key_name key) table) refl, back)
  where
    with_kind : (value : Data) (k : Option A) → kind value ≡ k → read_kind key next k ≡ failed {A = B} fault
        → ((kind value ≡ None) × (fault ≡ WrongKind key)) ⊎ ((x : A) × (kind value ≡ Some x) × Own x fault)
    with_kind value None none e = inl (none, sym (the_fault {A = B} (WrongKind key) fault e))
    with_kind value (Some x) some e = inr (x, some, (t x fault).0 e)

    there : (o : Option Data) → get_member (key_name key) table ≡ o → read key kind next o ≡ failed {A = B} fault → AtKey key kind Own table fault
    there None none e = inl (none, sym (the_fault {A = B} (Missing key) fault e))
    there (Some value) is e = inr (value, is, with_kind value (kind value) refl e)

    of_value : (value : Data) → ((kind value ≡ None) × (fault ≡ WrongKind key)) ⊎ ((x : A) × (kind value ≡ Some x) × Own x fault)
        → read_kind key next (kind value) ≡ failed {A = B} fault
    of_value value (inl m) = ap (read_kind key next) m.0 ∙ ap (failed {A = B}) (sym m.1)
    of_value value (inr m) = ap (read_kind key next) m.1 ∙ (t m.0 fault).1 m.2

    back : AtKey key kind Own table fault → read key kind next (get_member (key_name key) table) ≡ failed {A = B} fault
    back (inl k) = ap (read key kind next) k.0 ∙ ap (failed {A = B}) (sym k.1)
    back (inr k) = ap (read key kind next) k.1 ∙ of_value k.0 k.2

-- the texts, numbers and lists at keys
wrong : {A : Type 0} (g : Fault) (Own : Faulty) → Own g → ((fault : Fault) → Own fault → fault ≡ g) → Tells (failed {A = A} g) Own
wrong {A} g Own has only fault = (λ e. subst Own (the_fault {A = A} g fault e) has, λ k. ap (failed {A = A}) (sym (only fault k)))

right : {A : Type 0} (x : A) (Own : Faulty) → HasNone Own → Tells (Ok x) Own
right x Own none fault = (λ e. absurd (never x fault e), λ k. absurd (none fault k))

ok_err : (bytes : List ℕ) (h : FromHexError) → Ok bytes ≡ Err h → ⊥
ok_err bytes h e = cc

some_none : (a : Address) → Some a ≡ None → ⊥
some_none a e = cc

own_pos : (n k : ℕ) → pos n ≡ pos k → n ≡ k
own_pos n k e = cc

neg_pos : (n k : ℕ) → negsuc n ≡ pos k → ⊥
neg_pos n k e = cc

clash : false ≡ true → ⊥
clash e = cc

secret_own : (text : List ℕ) (r : Result (List ℕ) FromHexError) → decode_sized text 32 ≡ r → Tells (decoded r) (NoSecret text)
secret_own text (Ok bytes) is = right bytes (NoSecret text) (λ fault k. k.1 bytes is)
secret_own text (Err h) is = wrong BadSecret (NoSecret text) (refl, λ bytes e. ok_err bytes h (sym e ∙ is)) (λ fault k. k.0)

address_own : (key : Key) (text : List ℕ) (o : Option Address) → address_in text ≡ o → Tells (addressed key o) (NoAddress key text)
address_own key text (Some a) is = right a (NoAddress key text) (λ fault k. some_none a (sym is ∙ k.1))
address_own key text None is = wrong (BadAddress key) (NoAddress key text) (refl, is) (λ fault k. k.0)

within_own : (key : Key) (low high n : ℕ) (t : Bool)
    → is_between low high n ≡ t → Tells (if t then Ok n else failed {A = ℕ} (OutOfRange key)) (Outside key low high (pos n))
within_own key low high n true is = right n (Outside key low high (pos n)) (λ fault k. k.1 n refl is)
within_own key low high n false is =
    wrong (OutOfRange key) (Outside key low high (pos n))
    (refl, λ k e is_it. clash (sym is ∙ ap (is_between low high) (own_pos n k e) ∙ is_it)) (λ fault k. k.0)

number_own : (key : Key) (low high : ℕ) (n : ℤ) → Tells (within key low high n) (Outside key low high n)
number_own key low high (pos n) = within_own key low high n (is_between low high n) refl
number_own key low high (negsuc n) = wrong (OutOfRange key) (Outside key low high (negsuc n)) (refl, λ k e is_it. neg_pos n k e) (λ fault k. k.0)

name_own : (before : List Terms) (text : List ℕ) (t u : Bool) → is_name text ≡ t → is_taken text before ≡ u →
    Tells (if not t then failed {A = List ℕ} BadName else if u then failed {A = List ℕ} RepeatedName else Ok text) (NoName before text)
name_own before text false u is h = wrong BadName (NoName before text) (inl (refl, is)) only
  where
    only : (fault : Fault) → NoName before text fault → fault ≡ BadName
    only fault (inl k) = k.0
    only fault (inr k) = absurd (clash (sym is ∙ k.1))
name_own before text true true is h = wrong RepeatedName (NoName before text) (inr (refl, is, h)) only
  where
    only : (fault : Fault) → NoName before text fault → fault ≡ RepeatedName
    only fault (inl k) = absurd (clash (sym k.1 ∙ is))
    only fault (inr k) = k.0
name_own before text true false is h = right text (NoName before text) none
  where
    none : HasNone (NoName before text)
    none fault (inl k) = clash (sym k.1 ∙ is)
    none fault (inr k) = clash (sym h ∙ k.2)

mode_own : (text : List ℕ) (t u : Bool) → bytes_eq text (codes "live") ≡ t → bytes_eq text (codes "buffer") ≡ u →
    Tells (if t then Ok mode.Live else if u then Ok mode.Buffer else failed {A = TheMode} (OutOfRange Mode)) (NoMode text)
mode_own text true u is h = right mode.Live (NoMode text) (λ fault k. clash (sym k.1 ∙ is))
mode_own text false true is h = right mode.Buffer (NoMode text) (λ fault k. clash (sym k.2 ∙ h))
mode_own text false false is h = wrong (OutOfRange Mode) (NoMode text) (refl, is, h) (λ fault k. k.0)

routes_own : (items : Items) (t u : Bool) → are_tables items ≡ t → is_between 1 511 (count items) ≡ u →
    Tells (if not t then failed {A = Unit {0}} (WrongKind Route) else if not u then failed {A = Unit {0}} (OutOfRange Route) else Ok tt) (NoRoutes items)
routes_own items false u is h = wrong (WrongKind Route) (NoRoutes items) (inl (refl, is)) only
  where
    only : (fault : Fault) → NoRoutes items fault → fault ≡ WrongKind Route
    only fault (inl k) = k.0
    only fault (inr k) = absurd (clash (sym is ∙ k.1))
routes_own items true false is h = wrong (OutOfRange Route) (NoRoutes items) (inr (refl, is, h)) only
  where
    only : (fault : Fault) → NoRoutes items fault → fault ≡ OutOfRange Route
    only fault (inl k) = absurd (clash (sym k.1 ∙ is))
    only fault (inr k) = k.0
routes_own items true true is h = right tt (NoRoutes items) none
  where
    none : HasNone (NoRoutes items)
    none fault (inl k) = clash (sym k.1 ∙ is)
    none fault (inr k) = clash (sym k.2 ∙ h)

some_text : (text other : List ℕ) → Some text ≡ Some other → text ≡ other
some_text text other e = cc

none_some_text : (text : List ℕ) → None ≡ Some text → ⊥
none_some_text text e = cc

unknown_own : (keys : List Key) (table : Members) (o : Option (List ℕ)) → least_unknown keys table ≡ o → Tells (none_unknown o) (Unknown keys table)
unknown_own keys table None is = right tt (Unknown keys table) (λ fault k. none_some_text k.0 (sym is ∙ k.1))
unknown_own keys table (Some text) is =
    wrong (UnknownKey text) (Unknown keys table) (text, is, refl)
    (λ fault k. k.2 ∙ ap (λ (t : List ℕ). UnknownKey t) (sym (some_text text k.0 (sym is ∙ k.1))))

known_tells : (keys : List Key) (table : Members) → Tells (known keys table) (Unknown keys table)
unfolding known
known_tells keys table = unknown_own keys table (least_unknown keys table) refl

secret_tells : (table : Members) → Tells (secret_at table) (AtKey Secret as_str NoSecret table)
unfolding secret_at secret_in text_at text_value value_at
secret_tells table =
    same (secret_at table) (read Secret as_str (λ text. decoded (decode_sized text 32)) (get_member (key_name Secret) table))
    (AtKey Secret as_str NoSecret table)
    (assoc (present Secret (get_member (key_name Secret) table)) (λ value. of_kind Secret (as_str value)) (λ text. decoded (decode_sized text 32)))
    (at_key Secret as_str (λ text. decoded (decode_sized text 32)) NoSecret table (λ text. secret_own text (decode_sized text 32) refl))

address_tells : (key : Key) (table : Members) → Tells (address_at key table) (AtKey key as_str (NoAddress key) table)
unfolding address_at address_value text_value value_at
address_tells key table =
    at_key key as_str (λ text. addressed key (address_in text)) (NoAddress key) table (λ text. address_own key text (address_in text) refl)

number_tells : (key : Key) (low high : ℕ) (table : Members) → Tells (number_at key low high table) (AtKey key as_integer (Outside key low high) table)
unfolding number_at number_value value_at
number_tells key low high table = at_key key as_integer (within key low high) (Outside key low high) table (number_own key low high)

name_tells : (before : List Terms) (table : Members) → Tells (name_at before table) (AtKey Name as_str (NoName before) table)
unfolding name_at name_in text_at text_value value_at
name_tells before table =
    same (name_at before table) (read Name as_str (name_in before) (get_member (key_name Name) table)) (AtKey Name as_str (NoName before) table)
    (assoc (present Name (get_member (key_name Name) table)) (λ value. of_kind Name (as_str value)) (name_in before))
    (at_key Name as_str (name_in before) (NoName before) table (λ text. name_own before text (is_name text) (is_taken text before) refl refl))

mode_tells : (table : Members) → Tells (mode_at table) (AtKey Mode as_str NoMode table)
unfolding mode_at mode_in text_at text_value value_at
mode_tells table =
    same (mode_at table) (read Mode as_str mode_in (get_member (key_name Mode) table)) (AtKey Mode as_str NoMode table)
    (assoc (present Mode (get_member (key_name Mode) table)) (λ value. of_kind Mode (as_str value)) mode_in)
    (at_key Mode as_str mode_in NoMode table (λ text. mode_own text (bytes_eq text (codes "live")) (bytes_eq text (codes "buffer")) refl refl))

numbers_tells : (table : Members) → Tells (numbers_at table) (InNumbers table)
unfolding numbers_at
numbers_tells table =
    on (number_at LatencyMs 20 8000 table) _ _ _ (number_tells LatencyMs 20 8000 table) (λ latency_ms e.
    on (number_at Buffer 32 8192 table) _ _ _ (number_tells Buffer 32 8192 table) (λ buffer e.
    on (number_at Sessions 1 17 table) _ _ _ (number_tells Sessions 1 17 table) (λ sessions e.
    on (number_at Inbox 16 4096 table) _ _ _ (number_tells Inbox 16 4096 table) (λ inbox e.
    last (number_at Outbox 16 4096 table)
    (λ outbox. record { latency_ms = latency_ms; buffer = buffer; sessions = sessions; inbox = inbox; outbox = outbox }) _
    (number_tells Outbox 16 4096 table)))))

-- one key that may be missing
abbrev read_optional : {A B : Type 0} → Key → (A → Result B Fault) → Option A → Result (Option B) Fault
read_optional key next k = (of_kind key k >>= next) >>= λ y. Ok (Some y)

at_optional : {A B : Type 0} (key : Key) (kind : Data → Option A) (next : A → Result B Fault) (Own : A → Faulty) (table : Members)
    → ((x : A) → Tells (next x) (Own x)) →
    Tells (optional (λ value. of_kind key (kind value) >>= next) (get_member (key_name key) table)) (AtOptional key kind Own table)
at_optional {A} {B} key kind next Own table t fault = (there (get_member (key_name key) table) refl, back)
  where
    some_of : B → Option B
    some_of y = Some y

    own : (x : A) → Tells (next x >>= λ y. Ok (Some y)) (Own x)
    own x = last (next x) some_of (Own x) (t x)

    with_kind : (value : Data) (k : Option A) → kind value ≡ k → read_optional key next k ≡ failed {A = Option B} fault
        → ((kind value ≡ None) × (fault ≡ WrongKind key)) ⊎ ((x : A) × (kind value ≡ Some x) × Own x fault)
    with_kind value None none e = inl (none, sym (the_fault {A = Option B} (WrongKind key) fault e))
    with_kind value (Some x) some e = inr (x, some, (own x fault).0 e)

    there : (o : Option Data) → get_member (key_name key) table ≡ o
        → optional (λ value. of_kind key (kind value) >>= next) o ≡ failed {A = Option B} fault
        → AtOptional key kind Own table fault
    there None none e = absurd (never None fault e)
    there (Some value) is e = (value, is, with_kind value (kind value) refl e)

    of_value : (value : Data) → ((kind value ≡ None) × (fault ≡ WrongKind key)) ⊎ ((x : A) × (kind value ≡ Some x) × Own x fault)
        → read_optional key next (kind value) ≡ failed {A = Option B} fault
    of_value value (inl m) = ap (read_optional key next) m.0 ∙ ap (failed {A = Option B}) (sym m.1)
    of_value value (inr m) = ap (read_optional key next) m.1 ∙ (own m.0 fault).1 m.2

    back : AtOptional key kind Own table fault
        → optional (λ value. of_kind key (kind value) >>= next) (get_member (key_name key) table) ≡ failed {A = Option B} fault
    back k = ap (optional (λ value. of_kind key (kind value) >>= next)) k.1 ∙ of_value k.0 k.2

optional_number_tells : (key : Key) (low high : ℕ) (table : Members)
    → Tells (optional_number_at key low high table) (AtOptional key as_integer (Outside key low high) table)
unfolding optional_number_at number_value
optional_number_tells key low high table = at_optional key as_integer (within key low high) (Outside key low high) table (number_own key low high)

optional_address_tells : (key : Key) (table : Members) → Tells (optional_address_at key table) (AtOptional key as_str (NoAddress key) table)
unfolding optional_address_at address_value text_value
optional_address_tells key table =
    at_optional key as_str (λ text. addressed key (address_in text)) (NoAddress key) table
    (λ text. address_own key text (address_in text) refl)

abbrev said_round : Option ℕ → Result (Option ℕ) Fault
said_round opens = Ok opens

own_round : (a b : Option ℕ) → said_round a ≡ said_round b → b ≡ a
own_round a b e = cc

-- the round that was read is the one in the table
round_is : (key : Key) (low high : ℕ) (o : Option Data) (opens : Option ℕ)
    → optional (number_value key low high) o ≡ Ok opens → given_or_0 opens ≡ number_or_0 (option_and_then as_integer o)
unfolding number_value
round_is key low high None opens e = ap given_or_0 (own_round None opens e)
round_is key low high (Some value) opens e = kinds (as_integer value) e
  where
    chosen : (t : Bool) (n : ℕ) → ((if t then Ok n else failed {A = ℕ} (OutOfRange key)) >>= λ k. Ok (Some k)) ≡ Ok opens → given_or_0 opens ≡ n
    chosen true n e = ap given_or_0 (own_round (Some n) opens e)
    chosen false n e = absurd cc

    kinds : (k : Option ℤ) → read_optional key (within key low high) k ≡ Ok opens → given_or_0 opens ≡ number_or_0 k
    kinds None e = absurd cc
    kinds (Some (pos n)) e = chosen (is_between low high n) n e
    kinds (Some (negsuc n)) e = absurd cc

opening_is : (table : Members) (opens : Option ℕ) → optional_number_at OpenRound 0 1_000_000_000 table ≡ Ok opens → given_or_0 opens ≡ opening_in table
unfolding optional_number_at
opening_is table opens e = round_is OpenRound 0 1_000_000_000 (get_member (key_name OpenRound) table) opens e

schedule_tells : (table : Members) → Tells (schedule_at table) (InSchedule table)
unfolding schedule_at
schedule_tells table =
    on (optional_number_at OpenRound 0 1_000_000_000 table) _ _ _ (optional_number_tells OpenRound 0 1_000_000_000 table) (λ opens e.
    last (optional_number_at CloseRound (given_or_0 opens + 1) 1_000_000_000 table) (schedule_of (given_or_0 opens)) _
    (subst
    (λ (n : ℕ). Tells (optional_number_at CloseRound (given_or_0 opens + 1) 1_000_000_000 table)
    (AtOptional CloseRound as_integer (Outside CloseRound (n + 1) 1_000_000_000) table))
    (opening_is table opens e)
    (optional_number_tells CloseRound (given_or_0 opens + 1) 1_000_000_000 table)))

-- the lists and keys
networks_tells : (key : Key) (items : Items) (before : List Network) → are_texts items ≡ true
    → Tells (networks_from key before items) (λ fault. (fault ≡ BadAddress key) × (are_networks items ≡ false))
unfolding text_value
networks_tells key no_items before h = right before _ (λ fault k. clash (sym k.1))
networks_tells key (item value rest) before h = one (as_str value) refl h (λ network more. networks_tells key rest (before ++ network ∷ []) more)
  where
    two : (text : List ℕ) → are_texts rest ≡ true → (o : Option Network)
        → ((network : Network) → are_texts rest ≡ true
        → Tells (networks_from key (before ++ network ∷ []) rest) (λ fault. (fault ≡ BadAddress key) × (are_networks rest ≡ false)))
        → Tells (networked key o >>= λ network. networks_from key (before ++ network ∷ []) rest)
        (λ fault. (fault ≡ BadAddress key) × ((is_some o && are_networks rest) ≡ false))
    two text more (Some network) again = again network more
    two text more None again = wrong (BadAddress key) _ (refl, refl) (λ fault k. k.0)

    one : (o : Option (List ℕ)) → as_str value ≡ o → (is_some o && are_texts rest) ≡ true
        → ((network : Network) → are_texts rest ≡ true
        → Tells (networks_from key (before ++ network ∷ []) rest) (λ fault. (fault ≡ BadAddress key) × (are_networks rest ≡ false)))
        → Tells (of_kind key o >>= λ text. networked key (network_in text) >>= λ network. networks_from key (before ++ network ∷ []) rest)
        (λ fault. (fault ≡ BadAddress key) × ((is_network o && are_networks rest) ≡ false))
    one (Some text) is h again = two text h (network_in text) again
    one None is h again = absurd (clash h)

list_own : (key : Key) (items : Items) (t u : Bool) → is_between 1 16 (member_count items) ≡ t → are_texts items ≡ u
    → Tells (if not t then failed {A = List Network} (OutOfRange key) else if not u then failed {A = List Network} (WrongKind key)
    else networks_from key [] items)
    (NoNetworks key items)
list_own key items false u is h = wrong (OutOfRange key) (NoNetworks key items) (inl (refl, is)) only
  where
    only : (fault : Fault) → NoNetworks key items fault → fault ≡ OutOfRange key
    only fault (inl k) = k.0
    only fault (inr (inl k)) = absurd (clash (sym is ∙ k.1))
    only fault (inr (inr k)) = absurd (clash (sym is ∙ k.1))
list_own key items true false is h = wrong (WrongKind key) (NoNetworks key items) (inr (inl (refl, is, h))) only
  where
    only : (fault : Fault) → NoNetworks key items fault → fault ≡ WrongKind key
    only fault (inl k) = absurd (clash (sym k.1 ∙ is))
    only fault (inr (inl k)) = k.0
    only fault (inr (inr k)) = absurd (clash (sym h ∙ k.2))
list_own key items true true is h = λ fault. (λ e. inr (inr (there fault e)), back fault)
  where
    there : (fault : Fault) → networks_from key [] items ≡ failed {A = List Network} fault
        → (fault ≡ BadAddress key) × (is_between 1 16 (member_count items) ≡ true) × (are_texts items ≡ true) × (are_networks items ≡ false)
    there fault e = let k = (networks_tells key items [] h fault).0 e in (k.0, is, h, k.1)

    back : (fault : Fault) → NoNetworks key items fault → networks_from key [] items ≡ failed {A = List Network} fault
    back fault (inl k) = absurd (clash (sym k.1 ∙ is))
    back fault (inr (inl k)) = absurd (clash (sym k.2 ∙ h))
    back fault (inr (inr k)) = (networks_tells key items [] h fault).1 (k.0, k.3)

list_tells : (key : Key) (table : Members) → Tells (list_at key table) (AtOptional key as_array (NoNetworks key) table)
unfolding list_at list_value list_in
list_tells key table =
    at_optional key as_array (list_in key) (NoNetworks key) table
    (λ items. list_own key items (is_between 1 16 (member_count items)) (are_texts items) refl refl)

key_own : (key : Key) (text : List ℕ) (t : Bool)
    → is_key_text text ≡ t → Tells (if t then Ok text else failed {A = List ℕ} (OutOfRange key)) (NoKeyText key text)
key_own key text true is = right text (NoKeyText key text) (λ fault k. clash (sym k.1 ∙ is))
key_own key text false is = wrong (OutOfRange key) (NoKeyText key text) (refl, is) (λ fault k. k.0)

key_tells : (key : Key) (table : Members) → Tells (key_at key table) (AtOptional key as_str (NoKeyText key) table)
unfolding key_at key_value key_in text_value
key_tells key table = at_optional key as_str (key_in key) (NoKeyText key) table (λ text. key_own key text (is_key_text text) refl)

access_tells : (table : Members) → Tells (access_at table) (InAccess table)
unfolding access_at
access_tells table =
    on (list_at PublishFrom table) _ _ _ (list_tells PublishFrom table) (λ publish_from e.
    on (list_at RequestFrom table) _ _ _ (list_tells RequestFrom table) (λ request_from e.
    on (key_at PublishKey table) _ _ _ (key_tells PublishKey table) (λ publish_key e.
    last (key_at RequestKey table) (callers_of publish_from request_from publish_key) _ (key_tells RequestKey table))))

-- the rules
callers_own : (text : List ℕ) (t u : Bool) → bytes_eq text (codes "draft") ≡ t → bytes_eq text (codes "libsrt") ≡ u →
    Tells (if t then Ok callers.Draft else if u then Ok callers.Libsrt else failed {A = TheCallers} (OutOfRange Callers)) (NoCallers text)
callers_own text true u is h = right callers.Draft (NoCallers text) (λ fault k. clash (sym k.1 ∙ is))
callers_own text false true is h = right callers.Libsrt (NoCallers text) (λ fault k. clash (sym k.2 ∙ h))
callers_own text false false is h = wrong (OutOfRange Callers) (NoCallers text) (refl, is, h) (λ fault k. k.0)

callers_tells : (table : Members) → Tells (callers_at table) (AtOptional Callers as_str NoCallers table)
unfolding callers_at callers_value callers_in text_value
callers_tells table =
    at_optional Callers as_str callers_in NoCallers table
    (λ text. callers_own text (bytes_eq text (codes "draft")) (bytes_eq text (codes "libsrt")) refl refl)

-- the number that was read is the one in the table
number_is : (key : Key) (low high : ℕ) (o : Option Data) (n : ℕ)
    → present key o >>= (λ value. number_value key low high value) ≡ Ok n → n ≡ number_or_0 (option_and_then as_integer o)
unfolding number_value
number_is key low high None n e = absurd cc
number_is key low high (Some value) n e = kinds (as_integer value) e
  where
    chosen : (t : Bool) (m : ℕ) → (if t then Ok m else failed {A = ℕ} (OutOfRange key)) ≡ Ok n → n ≡ m
    chosen true m e = cc
    chosen false m e = absurd cc

    kinds : (k : Option ℤ) → read_kind key (within key low high) k ≡ Ok n → n ≡ number_or_0 k
    kinds None e = absurd cc
    kinds (Some (pos m)) e = chosen (is_between low high m) m e
    kinds (Some (negsuc m)) e = absurd cc

sessions_is : (table : Members) (n : ℕ) → number_at Sessions 1 17 table ≡ Ok n → n ≡ sessions_in table
unfolding number_at value_at
sessions_is table n e = number_is Sessions 1 17 (get_member (key_name Sessions) table) n e

sessions_are : (table : Members) (n : Numbers) → numbers_at table ≡ Ok n → n.sessions ≡ sessions_in table
unfolding numbers_at
sessions_are table n h =
    let a = passed (number_at LatencyMs 20 8000 table) _ n h in
    let b = passed (number_at Buffer 32 8192 table) _ n a.2 in
    let c = passed (number_at Sessions 1 17 table) _ n b.2 in
    let d = passed (number_at Inbox 16 4096 table) _ n c.2 in
    let e = passed (number_at Outbox 16 4096 table) _ n d.2 in
    let all : Numbers = record { latency_ms = a.0; buffer = b.0; sessions = c.0; inbox = d.0; outbox = e.0 } in
    let same : all ≡ n = cc in
    subst (λ (m : Numbers). m.sessions ≡ sessions_in table) same (sessions_is table c.0 c.1)

rules_tells : (sessions : ℕ) (callers : TheCallers) (table : Members) → sessions ≡ sessions_in table → Tells (rules_at sessions callers table) (InRules table)
unfolding rules_at
rules_tells sessions callers table is =
    on (optional_number_at Reserved 0 (most_reserved sessions) table) _ _ _
    (subst
    (λ (n : ℕ). Tells (optional_number_at Reserved 0 (most_reserved sessions) table)
    (AtOptional Reserved as_integer (Outside Reserved 0 (most_reserved n)) table))
    is
    (optional_number_tells Reserved 0 (most_reserved sessions) table)) (λ reserved e.
    on (optional_number_at SessionsPerAddress 1 17 table) _ _ _ (optional_number_tells SessionsPerAddress 1 17 table) (λ per_address e.
    on (optional_number_at TakeoverMs 100 5000 table) _ _ _ (optional_number_tells TakeoverMs 100 5000 table) (λ takeover_ms e.
    last (optional_number_at ResendPercent 5 1000 table) (rules_with callers reserved per_address takeover_ms) _
    (optional_number_tells ResendPercent 5 1000 table))))

-- the encryption
passphrase_own : (key : Key) (text : List ℕ) (t : Bool) → is_between 10 79 (length text) ≡ t
    → Tells (if t then Ok text else failed {A = List ℕ} (OutOfRange key)) (NoPassphrase key text)
passphrase_own key text true is = right text (NoPassphrase key text) (λ fault k. clash (sym k.1 ∙ is))
passphrase_own key text false is = wrong (OutOfRange key) (NoPassphrase key text) (refl, is) (λ fault k. k.0)

passphrase_tells : (key : Key) (table : Members) → Tells (passphrase_at key table) (AtOptional key as_str (NoPassphrase key) table)
unfolding passphrase_at passphrase_value passphrase_in text_value
passphrase_tells key table =
    at_optional key as_str (passphrase_in key) (NoPassphrase key) table (λ text. passphrase_own key text (is_between 10 79 (length text)) refl)

equal : (n m : ℕ) → (n == m) ≡ true → n ≡ m
equal n m e = grind (arith, nat_tests, e)

-- a number of bytes that is none of these is that of no length
no_length : (n : ℕ) → (n == 16) ≡ false → (n == 24) ≡ false → (n == 32) ≡ false → (size : KeyLength) → pos n ≡ pos (bytes_in size) → ⊥
no_length n a b c Aes128 e = clash (sym a ∙ ap (λ (m : ℕ). m == 16) (own_pos n 16 e))
no_length n a b c Aes192 e = clash (sym b ∙ ap (λ (m : ℕ). m == 24) (own_pos n 24 e))
no_length n a b c Aes256 e = clash (sym c ∙ ap (λ (m : ℕ). m == 32) (own_pos n 32 e))

length_own : (n : ℕ) (t u v : Bool) → (n == 16) ≡ t → (n == 24) ≡ u → (n == 32) ≡ v →
    Tells (lengthened (if t then Some Aes128 else if u then Some Aes192 else if v then Some Aes256 else None)) (NoKeyLength true (pos n))
length_own n true u v a b c = right Aes128 _ (λ fault k. k.1 Aes128 (ap (λ (m : ℕ). pos m) (equal n 16 a)) refl)
length_own n false true v a b c = right Aes192 _ (λ fault k. k.1 Aes192 (ap (λ (m : ℕ). pos m) (equal n 24 b)) refl)
length_own n false false true a b c = right Aes256 _ (λ fault k. k.1 Aes256 (ap (λ (m : ℕ). pos m) (equal n 32 c)) refl)
length_own n false false false a b c = wrong (OutOfRange Pbkeylen) _ (refl, λ size e is_it. no_length n a b c size e) (λ fault k. k.0)

key_length_own : (allowed : Bool) (n : ℤ) → Tells (key_length_in allowed n) (NoKeyLength allowed n)
key_length_own true (pos n) = length_own n (n == 16) (n == 24) (n == 32) refl refl refl
key_length_own true (negsuc n) = wrong (OutOfRange Pbkeylen) _ (refl, λ size e is_it. neg_pos n (bytes_in size) e) (λ fault k. k.0)
key_length_own false n = wrong (OutOfRange Pbkeylen) _ (refl, λ size e is_it. clash is_it) (λ fault k. k.0)

key_length_tells : (allowed : Bool) (table : Members) → Tells (key_length_at allowed table) (AtOptional Pbkeylen as_integer (NoKeyLength allowed) table)
unfolding key_length_at key_length_value
key_length_tells allowed table = at_optional Pbkeylen as_integer (key_length_in allowed) (NoKeyLength allowed) table (key_length_own allowed)

encryption_tells : (allowed : Bool) (table : Members) → Tells (encryption_in allowed table) (InEncryption allowed table)
unfolding encryption_in
encryption_tells allowed table =
    on (passphrase_at PublishPassphrase table) _ _ _ (passphrase_tells PublishPassphrase table) (λ publish e.
    on (passphrase_at RequestPassphrase table) _ _ _ (passphrase_tells RequestPassphrase table) (λ request e.
    last (key_length_at allowed table) (encryption_with publish request) _ (key_length_tells allowed table)))

-- a truth value, which has no fault of its own
truth_is : (key : Key) (o : Option Data) → optional (λ value. of_kind key (as_bool value)) o
    ≡ optional (λ value. of_kind key (as_bool value) >>= λ given. Ok given) o
truth_is key None = refl
truth_is key (Some value) = of (as_bool value)
  where
    of : (k : Option Bool) → (of_kind key k >>= λ given. Ok (Some given)) ≡ ((of_kind key k >>= λ given. Ok given) >>= λ given. Ok (Some given))
    of None = refl
    of (Some given) = refl

flag_tells : (key : Key) (table : Members) → Tells (optional_flag_at key table) (AtOptional key as_bool AnyTruth table)
unfolding optional_flag_at flag_value
flag_tells key table =
    same (optional_flag_at key table) (optional (λ value. of_kind key (as_bool value) >>= λ given. Ok given) (get_member (key_name key) table))
    (AtOptional key as_bool AnyTruth table) (truth_is key (get_member (key_name key) table))
    (at_optional key as_bool (λ given. Ok given) AnyTruth table (λ given. right given (AnyTruth given) (λ fault k. k)))

pub route_tells : (before : List Terms) (table : Members) → Tells (route_at before table) (InRoute before table)
unfolding route_at
route_tells before table =
    on (known route_keys table) _ _ _ (known_tells route_keys table) (λ u e.
    on (name_at before table) _ _ _ (name_tells before table) (λ name e.
    on (mode_at table) _ _ _ (mode_tells table) (λ mode e.
    on (numbers_at table) _ _ _ (numbers_tells table) (λ numbers is.
    on (schedule_at table) _ _ _ (schedule_tells table) (λ schedule e.
    on (callers_at table) _ _ _ (callers_tells table) (λ callers e.
    on (access_at table) _ _ _ (access_tells table) (λ access e.
    on (rules_at numbers.sessions (draft_if_none callers) table) _ _ _
    (rules_tells numbers.sessions (draft_if_none callers) table (sessions_are table numbers is)) (λ rules e.
    on (encryption_at table) _ _ _ (encryption_tells (has_passphrase table) table) (λ encryption e.
    last (optional_flag_at Expect table)
    (λ expect. planned (with_rules rules (with_access (with_encryption encryption access) (terms_with name mode numbers))) schedule
    (given_or_false expect)) _ (flag_tells Expect table))))))))))

some_table : (table other : Members) → Some table ≡ Some other → table ≡ other
some_table table other e = cc

abbrev said : Planned → Result Planned Fault
said route = Ok route

ok_route : (route other : Planned) → said route ≡ said other → route ≡ other
ok_route route other e = cc

routes_tells : (items : Items) (before : Routes) → are_tables items ≡ true → Tells (routes_from before items) (InRoutes before.terms items)
routes_tells no_items before h = right before (InRoutes before.terms no_items) (λ fault k. k)
routes_tells (item value rest) before h = one (as_table value) refl h (λ route more. routes_tells rest (with_route before route) more)
  where
    two : (table : Members) → as_table value ≡ Some table → (r : Result Planned Fault) → route_at before.terms table ≡ r
        → ((route : Planned) → Tells (routes_from (with_route before route) rest) (InRoutes (before.terms ++ route.terms ∷ []) rest))
        →
        Tells (r >>= λ route. routes_from (with_route before route) rest) (InRoutes before.terms (item value rest))
    two table is (Ok route) says more fault = (λ e. (table, is, inr (route, says, (more route fault).0 e)), back)
      where
        back : InRoutes before.terms (item value rest) fault → routes_from (with_route before route) rest ≡ failed {A = Routes} fault
        back k = of_one (some_table k.0 table (sym k.1 ∙ is)) k.2
          where
            of_one : {other : Members} → other ≡ table
                → (InRoute before.terms other fault ⊎
                ((them : Planned) × (route_at before.terms other ≡ Ok them) × InRoutes (before.terms ++ them.terms ∷ []) rest fault))
                → routes_from (with_route before route) rest ≡ failed {A = Routes} fault
            of_one {other} same_table (inl m) = absurd (never route fault
                (sym says ∙ ap (route_at before.terms) (sym same_table) ∙ (route_tells before.terms other fault).1 m))
            of_one {other} same_table (inr m) = (more route fault).1
                (subst (λ (them : Planned). InRoutes (before.terms ++ them.terms ∷ []) rest fault)
                (ok_route m.0 route (sym m.1 ∙ ap (route_at before.terms) same_table ∙ says)) m.2)
    two table is (Err g) says more fault = (
      λ e.
          (table, is, inl ((route_tells before.terms table fault).0 (says ∙ ap (failed {A = Planned}) (the_fault {A = Routes} g fault e)))),
      back,
    )
      where
        back : InRoutes before.terms (item value rest) fault → failed {A = Routes} g ≡ failed {A = Routes} fault
        back k = of_one (some_table k.0 table (sym k.1 ∙ is)) k.2
          where
            of_one : {other : Members} → other ≡ table
                → (InRoute before.terms other fault ⊎
                ((them : Planned) × (route_at before.terms other ≡ Ok them) × InRoutes (before.terms ++ them.terms ∷ []) rest fault))
                → failed {A = Routes} g ≡ failed {A = Routes} fault
            of_one {other} same_table (inl m) = ap (failed {A = Routes})
                (the_fault {A = Planned} g fault
                (sym says ∙ ap (route_at before.terms) (sym same_table) ∙ (route_tells before.terms other fault).1 m))
            of_one {other} same_table (inr m) = absurd (never m.0 g (sym m.1 ∙ ap (route_at before.terms) same_table ∙ says))

    one : (o : Option Members) → as_table value ≡ o → (is_some o && are_tables rest) ≡ true
        → ((route : Planned)
        → are_tables rest ≡ true → Tells (routes_from (with_route before route) rest) (InRoutes (before.terms ++ route.terms ∷ []) rest))
        →
        Tells (of_kind Route o >>= λ table. route_at before.terms table >>= λ route. routes_from (with_route before route) rest)
        (InRoutes before.terms (item value rest))
    one None is h more = absurd (clash h)
    one (Some table) is h more = two table is (route_at before.terms table) refl (λ route. more route h)

abbrev guarded : (t u : Bool) → Result (Unit {0}) Fault
guarded t u = if not t then failed {A = Unit {0}} (WrongKind Route) else if not u then failed {A = Unit {0}} (OutOfRange Route) else Ok tt

guarded_is : (t u : Bool) (r : Result Routes Fault)
    → (if not t then failed {A = Routes} (WrongKind Route) else if not u then failed {A = Routes} (OutOfRange Route) else r)
    ≡ (guarded t u >>= λ x. r)
guarded_is false u r = refl
guarded_is true false r = refl
guarded_is true true r = refl

guarded_ok : (t u : Bool) (x : Unit {0}) → guarded t u ≡ Ok x → t ≡ true
guarded_ok true u x e = refl
guarded_ok false u x e = absurd cc

items_tells : (items : Items) → Tells (routes_in items) (NoRoutesOrIn items)
unfolding routes_in
items_tells items =
    same (routes_in items) (guarded (are_tables items) (is_between 1 511 (count items)) >>= λ x. routes_from no_routes items) (NoRoutesOrIn items)
    (guarded_is (are_tables items) (is_between 1 511 (count items)) (routes_from no_routes items))
    (on (guarded (are_tables items) (is_between 1 511 (count items))) (λ x. routes_from no_routes items) (NoRoutes items)
    (InRoutes [] items) (routes_own items (are_tables items) (is_between 1 511 (count items)) refl refl)
    (λ x e. routes_tells items no_routes (guarded_ok (are_tables items) (is_between 1 511 (count items)) x e)))

routes_at_tells : (table : Members) → Tells (routes_at table) (AtKey Route as_array NoRoutesOrIn table)
unfolding routes_at value_at
routes_at_tells table = at_key Route as_array routes_in NoRoutesOrIn table items_tells

-- the defaults
optional_mode_tells : (table : Members) → Tells (optional_mode_at table) (AtOptional Mode as_str NoMode table)
unfolding optional_mode_at mode_value mode_in text_value
optional_mode_tells table =
    at_optional Mode as_str mode_in NoMode table (λ text. mode_own text (bytes_eq text (codes "live")) (bytes_eq text (codes "buffer")) refl refl)

optional_numbers_tell : (table : Members) → Tells (numbers_right table) (InOptionalNumbers table)
unfolding numbers_right
optional_numbers_tell table =
    on (optional_number_at LatencyMs 20 8000 table) _ _ _ (optional_number_tells LatencyMs 20 8000 table) (λ latency_ms e.
    on (optional_number_at Buffer 32 8192 table) _ _ _ (optional_number_tells Buffer 32 8192 table) (λ buffer e.
    on (optional_number_at Sessions 1 17 table) _ _ _ (optional_number_tells Sessions 1 17 table) (λ sessions e.
    on (optional_number_at Inbox 16 4096 table) _ _ _ (optional_number_tells Inbox 16 4096 table) (λ inbox e.
    on (optional_number_at Outbox 16 4096 table) _ _ _ (optional_number_tells Outbox 16 4096 table) (λ outbox e.
    on (optional_number_at OpenRound 0 1_000_000_000 table) _ _ _ (optional_number_tells OpenRound 0 1_000_000_000 table) (λ opens e.
    last (optional_number_at CloseRound 1 1_000_000_000 table) (λ closes. tt) _ (optional_number_tells CloseRound 1 1_000_000_000 table)))))))

limits_tell : (table : Members) → Tells (limits_right table) (InLimits table)
unfolding limits_right
limits_tell table =
    on (optional_number_at Reserved 0 2 table) _ _ _ (optional_number_tells Reserved 0 2 table) (λ reserved e.
    on (optional_number_at SessionsPerAddress 1 17 table) _ _ _ (optional_number_tells SessionsPerAddress 1 17 table) (λ per_address e.
    on (optional_number_at TakeoverMs 100 5000 table) _ _ _ (optional_number_tells TakeoverMs 100 5000 table) (λ takeover_ms e.
    last (optional_number_at ResendPercent 5 1000 table) (λ percent. tt) _ (optional_number_tells ResendPercent 5 1000 table))))

pub defaults_tell : (table : Members) → Tells (defaults_right table) (InDefaults table)
unfolding defaults_right
defaults_tell table =
    on (known default_keys table) _ _ _ (known_tells default_keys table) (λ u e.
    on (optional_mode_at table) _ _ _ (optional_mode_tells table) (λ mode e.
    on (numbers_right table) _ _ _ (optional_numbers_tell table) (λ numbers e.
    on (callers_at table) _ _ _ (callers_tells table) (λ callers e.
    on (access_at table) _ _ _ (access_tells table) (λ access e.
    on (limits_right table) _ _ _ (limits_tell table) (λ u e.
    on (default_encryption_at table) _ _ _ (encryption_tells true table) (λ encryption e.
    last (optional_flag_at Expect table) (λ expect. tt) _ (flag_tells Expect table))))))))

-- the table of defaults is read, and then checked
check_is : (o : Option Data) → (optional (λ value. of_kind Defaults (as_table value)) o >>= right_if_given)
    ≡ (optional (λ value. of_kind Defaults (as_table value) >>= defaults_right) o >>= λ x. Ok tt)
check_is None = refl
check_is (Some value) = of (as_table value)
  where
    by : (r : Result (Unit {0}) Fault) → r ≡ ((r >>= λ y. Ok (Some y)) >>= λ x. Ok tt)
    by (Ok tt) = refl
    by (Err fault) = refl

    of : (k : Option Members) → ((of_kind Defaults k >>= λ t. Ok (Some t)) >>= right_if_given)
        ≡ (((of_kind Defaults k >>= defaults_right) >>= λ y. Ok (Some y)) >>= λ x. Ok tt)
    of None = refl
    of (Some table) = by (defaults_right table)

check_tells : (table : Members) → Tells (defaults_at table >>= right_if_given) (AtOptional Defaults as_table InDefaults table)
unfolding defaults_at
check_tells table =
    same (defaults_at table >>= right_if_given)
    (optional (λ value. of_kind Defaults (as_table value) >>= defaults_right) (get_member (key_name Defaults) table) >>= λ x. Ok tt)
    (AtOptional Defaults as_table InDefaults table) (check_is (get_member (key_name Defaults) table))
    (last (optional (λ value. of_kind Defaults (as_table value) >>= defaults_right) (get_member (key_name Defaults) table)) (λ x. tt) _
    (at_optional Defaults as_table defaults_right InDefaults table defaults_tell))

abbrev settings_with : (secret : List ℕ) (bind : Address) (workers : ℕ) (status : Option Address) → Routes → Settings
settings_with secret bind workers status routes =
    record {
      secret = secret;
      bind = bind;
      workers = workers;
      status = status;
      routes = routes.terms;
      schedules = routes.schedules;
      expected = routes.expected;
    }

table_tells : (table : Members) → Tells (settings_at table) (InTable table)
unfolding settings_at
table_tells table =
    on (known top_keys table) _ _ _ (known_tells top_keys table) (λ u e.
    on (secret_at table) _ _ _ (secret_tells table) (λ secret e.
    on (address_at Bind table) _ _ _ (address_tells Bind table) (λ bind e.
    on (number_at Workers 1 16 table) _ _ _ (number_tells Workers 1 16 table) (λ workers e.
    on (optional_address_at Status table) _ _ _ (optional_address_tells Status table) (λ status e.
    behind secret bind workers status)))))
  where
    behind : (secret : List ℕ) (bind : Address) (workers : ℕ) (status : Option Address) →
        Tells (defaults_at table >>= λ defaults. right_if_given defaults >>= λ _. routes_at table >>= λ routes.
        Ok (settings_with secret bind workers status routes))
        ((AtOptional Defaults as_table InDefaults table) ⊳ (AtKey Route as_array NoRoutesOrIn table))
    behind secret bind workers status =
        same _ ((defaults_at table >>= right_if_given) >>= λ _. routes_at table >>= λ routes. Ok (settings_with secret bind workers status routes)) _
        (sym (assoc (defaults_at table) right_if_given (λ _. routes_at table >>= λ routes. Ok (settings_with secret bind workers status routes))))
        (on (defaults_at table >>= right_if_given) _ _ _ (check_tells table) (λ u e.
        last (routes_at table) (settings_with secret bind workers status) _ (routes_at_tells table)))

pub first_fault : IsFirstFault
first_fault table fault = table_tells table fault
