-- Routes that were read can be opened: their names are of the right form and distinct, and their numbers within limits.
use Rattle.std.proofs.Common.{◌≡◌, ℕ, suc, ◌+◌, ℤ, pos, negsuc, Bool, true, false, not, cond, ◌&&◌, List, [], ◌∷◌, ◌++◌, length, map}
use Rattle.std.proofs.Common.{nat_le, nat_lt, Option, None, Some, Result, Ok, Err, IfOk, refl, sym, ap, subst, ◌∙◌, inl, inr, arith}
use Rattle.std.specs.List.{list_all}
use Rattle.std.specs.Str.{bytes_eq}
use Rattle.std.proofs.lemmas.Bool.{and_parts, or_parts, false_from_ne_true, false≢true}
use Rattle.std.proofs.lemmas.List.{length-map}
use Rattle.std.proofs.lemmas.Slice.Eq.{bytes_eq-Decides}
use Rattle.std.proofs.lemmas.Bool.Decides.{nat_tests}
use Rattle.toml.specs.Data.{Data, Items, no_items, item, Members, get_member, as_integer, as_array, as_table}
use Rattle.srt_types.specs.declared.shared.Mode.{Mode as TheMode}
use Rattle.srt_types.specs.declared.shared.Callers.{Callers as TheCallers}
use Rattle.srt_types.specs.declared.shared.Rules.{Rules}
use Rattle.srt_types.specs.declared.shared.Schedule.{Schedule}
use Rattle.srt_types.specs.Terms.{Terms, terms_of}
use Rattle.srt_types.specs.Entries.{is_between, is_between_if, is_name, are_rules, in_limits}
use Rattle.srt_lobby.specs.Opening.{is_taken, is_fresh, are_names, fault_of}
use Rattle.srt_config.specs.declared.config.keys.Key.{Key}
use Rattle.srt_config.specs.declared.config.keys.Key.TheVariants.{Route, Name, LatencyMs, Buffer, Sessions, Inbox, Outbox, OpenRound, CloseRound}
use Rattle.srt_config.specs.declared.config.keys.Key.TheVariants.{Reserved, SessionsPerAddress, TakeoverMs, ResendPercent, Expect}
use Rattle.srt_config.specs.declared.config.placed.Place.{Place}
use Rattle.srt_config.specs.declared.config.placed.PlacedFault.{PlacedFault}
use Rattle.srt_config.specs.declared.config.routes.ReadRoutes.{ReadRoutes}
use Rattle.srt_config.specs.Access.{access_at}
use Rattle.srt_config.specs.Rules.{callers_at, draft_if_none, most_reserved, rules_with, rules_at}
use Rattle.srt_config.specs.Encryption.{encryption_at, with_encryption}
use Rattle.srt_config.specs.KeyTable.{key_name}
use Rattle.srt_config.specs.FirstFault.{Fault, WrongKind, OutOfRange, BadName, RepeatedName, ◌>>=◌}
use Rattle.srt_config.specs.FaultPlace.{GivesAt}
use Rattle.srt_config.specs.Keys.{known, value_at, text_at, within, number_value, number_at, optional, optional_number_at, of_kind, given_or_0}
use Rattle.srt_config.specs.Keys.{optional_flag_at, given_or_false}
use Rattle.srt_config.specs.Routes.{name_in, name_at, mode_at, Numbers, numbers_at, route_keys, terms_with, with_access, with_rules, schedule_of}
use Rattle.srt_config.specs.Routes.{schedule_at, is_later, closes_later, Planned, planned, route_at, Routes, no_routes, with_route}
use Rattle.srt_config.specs.Routes.{are_tables, count, routes_from, routes_in, routes_at}
use Rattle.srt_config.specs.inside.RouteParts.{routes_seen}

-- steps that return a value in the end return one first
pub passed : {A B : Type 0} (said : Result A Fault) (next : A → Result B Fault) (b : B) → said >>= next ≡ Ok b → (a : A) × (said ≡ Ok a) × (next a ≡ Ok b)
passed (Ok a) next b h = (a, refl, h)
passed (Err f) next b h = absurd cc

chosen : {A : Type 0} (t : Bool) (x y : A) (f : Fault) → cond t (Ok x) (Err f) ≡ Ok y → (t ≡ true) × (x ≡ y)
chosen true x y f h = (refl, cc)
chosen false x y f h = absurd cc

within_fits : (key : Key) (low high : ℕ) (z : ℤ) (n : ℕ) → within key low high z ≡ Ok n → is_between low high n ≡ true
within_fits key low high (pos m) n h =
    let c = chosen (is_between low high m) m n (OutOfRange key) h in
    subst (λ (k : ℕ). is_between low high k ≡ true) c.1 c.0
within_fits key low high (negsuc m) n h = absurd cc

number_fits : (key : Key) (low high : ℕ) (table : Members) (n : ℕ) → number_at key low high table ≡ Ok n → is_between low high n ≡ true
unfolding number_at number_value
number_fits key low high table n h =
    let v = passed (value_at key table) _ n h in
    let z = passed (of_kind key (as_integer v.0)) _ n v.2 in
    within_fits key low high z.0 n z.2

-- the numbers of a route are within their limits, and with rules of these limits all are
record AreWithin (name : List ℕ) (mode : TheMode) (n : Numbers) : Type 0 where
  sessions : is_between 1 17 n.sessions ≡ true
  with_any : (rules : Rules) → are_rules n.sessions rules ≡ true → in_limits (with_rules rules (terms_with name mode n)) ≡ true

numbers_fit : (name : List ℕ) (mode : TheMode) (table : Members) (n : Numbers) → numbers_at table ≡ Ok n → AreWithin name mode n
unfolding numbers_at
numbers_fit name mode table n h =
    let a = passed (number_at LatencyMs 20 8000 table) _ n h in
    let b = passed (number_at Buffer 32 8192 table) _ n a.2 in
    let c = passed (number_at Sessions 1 17 table) _ n b.2 in
    let d = passed (number_at Inbox 16 4096 table) _ n c.2 in
    let e = passed (number_at Outbox 16 4096 table) _ n d.2 in
    let all : Numbers = record { latency_ms = a.0; buffer = b.0; sessions = c.0; inbox = d.0; outbox = e.0 } in
    let same : all ≡ n = cc in
    subst (λ (m : Numbers). AreWithin name mode m) same
    (record {
      sessions = number_fits Sessions 1 17 table c.0 c.1;
      with_any = λ rules are. rw (
        number_fits LatencyMs 20 8000 table a.0 a.1,
        number_fits Buffer 32 8192 table b.0 b.1,
        number_fits Sessions 1 17 table c.0 c.1,
        number_fits Inbox 16 4096 table d.0 d.1,
        number_fits Outbox 16 4096 table e.0 e.1,
        are,
      )
          refl;
    })

named : (good taken : Bool) (text name : List ℕ)
    → cond (not good) (Err BadName) (cond taken (Err RepeatedName) (Ok text)) ≡ Ok name → (good ≡ true) × (taken ≡ false) × (text ≡ name)
named true true text name h = absurd cc
named true false text name h = (refl, refl, cc)
named false taken text name h = absurd cc

name_fits : (before : List Terms) (table : Members) (name : List ℕ) → name_at before table ≡ Ok name → (is_name name ≡ true) × (is_taken name before ≡ false)
unfolding name_at name_in
name_fits before table name h =
    let t = passed (text_at Name table) _ name h in
    let n = named (is_name t.0) (is_taken t.0 before) t.0 name t.2 in
    subst (λ (text : List ℕ). (is_name text ≡ true) × (is_taken text before ≡ false)) n.2 (n.0, n.1)

-- a route after these
record Fits (before : List Terms) (e : Terms) : Type 0 where
  named : is_name e.name ≡ true
  free : is_taken e.name before ≡ false
  limited : in_limits e ≡ true

-- a closing that was read is later than the opening
optional_fits : (key : Key) (low high : ℕ) (o : Option Data) (n : ℕ) → optional (number_value key low high) o ≡ Ok (Some n) → is_between low high n ≡ true
unfolding number_value
optional_fits key low high None n h = absurd cc
optional_fits key low high (Some value) n h =
    let k = passed (number_value key low high value) _ (Some n) h in
    let same : k.0 ≡ n = cc in
    let z = passed (of_kind key (as_integer value)) _ k.0 k.1 in
    within_fits key low high z.0 n (z.2 ∙ ap (λ (m : ℕ). Ok m) same)

-- numbers of rules that were read are within their limits
if_given : (key : Key) (low high : ℕ) (table : Members) (n : Option ℕ) → optional_number_at key low high table ≡ Ok n → is_between_if low high n ≡ true
unfolding optional_number_at
if_given key low high table None h = refl
if_given key low high table (Some n) h = optional_fits key low high (get_member (key_name key) table) n h

few_reserved : (sessions n : ℕ) → is_between 1 17 sessions ≡ true → is_between 0 (most_reserved sessions) n ≡ true →
    (nat_le n 2 ≡ true) × (nat_lt n sessions ≡ true)
few_reserved sessions n some h = (grind (arith, nat_tests), grind (arith, nat_tests))

none_reserved : (sessions : ℕ) → is_between 1 17 sessions ≡ true → (nat_le 0 2 ≡ true) × (nat_lt 0 sessions ≡ true)
none_reserved sessions some = (refl, grind (arith, nat_tests, some))

reserved_fit : (sessions : ℕ) (table : Members) (n : Option ℕ) → is_between 1 17 sessions ≡ true
    → optional_number_at Reserved 0 (most_reserved sessions) table ≡ Ok n
    → (nat_le (given_or_0 n) 2 ≡ true) × (nat_lt (given_or_0 n) sessions ≡ true)
unfolding optional_number_at
reserved_fit sessions table None some h = none_reserved sessions some
reserved_fit sessions table (Some n) some h =
    few_reserved sessions n some (optional_fits Reserved 0 (most_reserved sessions) (get_member (key_name Reserved) table) n h)

rules_fit : (sessions : ℕ) (callers : TheCallers) (table : Members) (r : Rules)
    → is_between 1 17 sessions ≡ true → rules_at sessions callers table ≡ Ok r → are_rules sessions r ≡ true
unfolding rules_at
rules_fit sessions callers table r some h =
    let a = passed (optional_number_at Reserved 0 (most_reserved sessions) table) _ r h in
    let b = passed (optional_number_at SessionsPerAddress 1 17 table) _ r a.2 in
    let c = passed (optional_number_at TakeoverMs 100 5000 table) _ r b.2 in
    let d = passed (optional_number_at ResendPercent 5 1000 table) _ r c.2 in
    let same : rules_with callers a.0 b.0 c.0 d.0 ≡ r = cc in
    let reserved = reserved_fit sessions table a.0 some a.1 in
    subst (λ (q : Rules). are_rules sessions q ≡ true) same
    (rw (
      reserved.0,
      reserved.1,
      if_given SessionsPerAddress 1 17 table b.0 b.1,
      if_given TakeoverMs 100 5000 table c.0 c.1,
      if_given ResendPercent 5 1000 table d.0 d.1,
    )
    refl)

is_after : (opens high n : ℕ) → is_between (opens + 1) high n ≡ true → nat_lt opens n ≡ true
is_after opens high n h = grind (arith, nat_tests)

later_fits : (opens : ℕ) (table : Members) (closes : Option ℕ)
    → optional_number_at CloseRound (opens + 1) 1_000_000_000 table ≡ Ok closes → is_later opens closes ≡ true
unfolding optional_number_at
later_fits opens table None h = refl
later_fits opens table (Some n) h =
    is_after opens 1_000_000_000 n (optional_fits CloseRound (opens + 1) 1_000_000_000 (get_member (key_name CloseRound) table) n h)

schedule_fits : (table : Members) (s : Schedule) → schedule_at table ≡ Ok s → closes_later s ≡ true
unfolding schedule_at
schedule_fits table s h =
    let o = passed (optional_number_at OpenRound 0 1_000_000_000 table) _ s h in
    let c = passed (optional_number_at CloseRound (given_or_0 o.0 + 1) 1_000_000_000 table) _ s o.2 in
    let same : schedule_of (given_or_0 o.0) c.0 ≡ s = cc in
    subst (λ (t : Schedule). closes_later t ≡ true) same (later_fits (given_or_0 o.0) table c.0 c.1)

abbrev ok_planned : Planned → Result Planned Fault
ok_planned route = Ok route

own_planned : (route other : Planned) → ok_planned route ≡ ok_planned other → route ≡ other
own_planned route other e = cc

route_fits : (before : List Terms) (table : Members) (e : Planned) → route_at before table ≡ Ok e → Fits before e.terms × (closes_later e.schedule ≡ true)
unfolding route_at
route_fits before table e h =
    let k = passed (known route_keys table) _ e h in
    let n = passed (name_at before table) _ e k.2 in
    let m = passed (mode_at table) _ e n.2 in
    let s = passed (numbers_at table) _ e m.2 in
    let t = passed (schedule_at table) _ e s.2 in
    let fits = name_fits before table n.0 n.1 in
    let c = passed (callers_at table) _ e t.2 in
    let a = passed (access_at table) _ e c.2 in
    let r = passed (rules_at s.0.sessions (draft_if_none c.0) table) _ e a.2 in
    let numbers = numbers_fit n.0 m.0 table s.0 s.1 in
    let limited = numbers.with_any r.0 (rules_fit s.0.sessions (draft_if_none c.0) table r.0 numbers.sessions r.1) in
    let y = passed (encryption_at table) _ e r.2 in
    let x = passed (optional_flag_at Expect table) _ e y.2 in
    let same : planned (with_rules r.0 (with_access (with_encryption y.0 a.0) (terms_with n.0 m.0 s.0))) t.0 (given_or_false x.0) ≡ e =
    own_planned _ e x.2 in
    subst (λ (p : Planned). Fits before p.terms × (closes_later p.schedule ≡ true)) same
    (record { named = fits.0; free = fits.1; limited = limited }, schedule_fits table t.0 t.1)

turned : (a b : List ℕ) → bytes_eq a b ≡ false → bytes_eq b a ≡ false
turned a b h = false_from_ne_true _ (λ same. false≢true (sym h ∙ (bytes_eq-Decides a b).1 (sym ((bytes_eq-Decides b a).0 same))))

taken_last : (name : List ℕ) (es : List Terms) (e : Terms) → is_taken name es ≡ false → bytes_eq e.name name ≡ false → is_taken name (es ++ e ∷ []) ≡ false
taken_last name [] e h k = rw k refl
taken_last name (x ∷ es) e h k =
    let p = or_parts (bytes_eq x.name name) (is_taken name es) h in
    rw (p.0, taken_last name es e p.1 k) refl

fresh_first : (good taken : Bool) → good ≡ true → taken ≡ false → (good && not taken) ≡ true
fresh_first good taken h k = rw (h, k) refl

is_free : (good taken : Bool) → (good && not taken) ≡ true → (good ≡ true) × (taken ≡ false)
is_free true true h = absurd cc
is_free true false h = (refl, refl)
is_free false taken h = absurd cc

names_last : (es : List Terms) (e : Terms) → are_names es ≡ true → is_name e.name ≡ true → is_taken e.name es ≡ false → are_names (es ++ e ∷ []) ≡ true
names_last [] e h n t = rw n refl
names_last (x ∷ es) e h n t =
    let p = and_parts (is_fresh x es) (are_names es) h in
    let q = or_parts (bytes_eq x.name e.name) (is_taken e.name es) t in
    let f = is_free (is_name x.name) (is_taken x.name es) p.0 in
    let one : is_fresh x (es ++ e ∷ []) ≡ true =
    fresh_first (is_name x.name) (is_taken x.name (es ++ e ∷ [])) f.0 (taken_last x.name es e f.1 (turned x.name e.name q.0)) in
    rw (one, names_last es e p.1 n q.1) refl

limits_last : (es : List Terms) (e : Terms) → list_all in_limits es ≡ true → in_limits e ≡ true → list_all in_limits (es ++ e ∷ []) ≡ true
limits_last [] e h k = rw k refl
limits_last (x ∷ es) e h k =
    let p = and_parts (in_limits x) (list_all in_limits es) h in
    rw (p.0, limits_last es e p.1 k) refl

later_last : (ss : List Schedule) (s : Schedule) → list_all closes_later ss ≡ true → closes_later s ≡ true → list_all closes_later (ss ++ s ∷ []) ≡ true
later_last [] s h k = rw k refl
later_last (x ∷ ss) s h k =
    let p = and_parts (closes_later x) (list_all closes_later ss) h in
    rw (p.0, later_last ss s p.1 k) refl

length_last : {A : Type 0} (es : List A) (e : A) → length (es ++ e ∷ []) ≡ suc (length es)
length_last [] e = refl
length_last (x ∷ es) e = ap suc (length_last es e)

record AreSound (all : Routes) (n : ℕ) : Type 0 where
  names : are_names all.terms ≡ true
  limits : list_all in_limits all.terms ≡ true
  later : list_all closes_later all.schedules ≡ true
  many : length all.terms ≡ n
  scheduled : length all.schedules ≡ n
  marked : length all.expected ≡ n

from_sound : (before : Routes) (items : Items) (all : Routes) (n : ℕ) → routes_from before items ≡ Ok all → AreSound before n → AreSound all (n + count items)
from_sound before no_items all n h s =
    let same : before ≡ all = cc in
    subst (λ (es : Routes). AreSound es (n + 0)) same
    (record {
      names = s.names;
      limits = s.limits;
      later = s.later;
      many = omega (arith, s.many);
      scheduled = omega (arith, s.scheduled);
      marked = omega (arith, s.marked);
    })
from_sound before (item value rest) all n h s =
    let t = passed (of_kind Route (as_table value)) _ all h in
    let e = passed (route_at before.terms t.0) _ all t.2 in
    let f = route_fits before.terms t.0 e.0 e.1 in
    let more : AreSound (with_route before e.0) (suc n) = record {
      names = names_last before.terms e.0.terms s.names f.0.named f.0.free;
      limits = limits_last before.terms e.0.terms s.limits f.0.limited;
      later = later_last before.schedules e.0.schedule s.later f.1;
      many = length_last before.terms e.0.terms ∙ ap suc s.many;
      scheduled = length_last before.schedules e.0.schedule ∙ ap suc s.scheduled;
      marked = length_last before.expected e.0.expected ∙ ap suc s.marked;
    } in
    let last = from_sound (with_route before e.0) rest all (suc n) e.2 more in
    record {
      names = last.names;
      limits = last.limits;
      later = last.later;
      many = omega (arith, last.many);
      scheduled = omega (arith, last.scheduled);
      marked = omega (arith, last.marked);
    }

counted : {A : Type 0} (tables counts : Bool) (f g : Fault) (read : Result A Fault) (x : A)
    → cond (not tables) (Err f) (cond (not counts) (Err g) read) ≡ Ok x → (counts ≡ true) × (read ≡ Ok x)
counted true true f g read x h = (refl, h)
counted true false f g read x h = absurd cc
counted false counts f g read x h = absurd cc

no_fault : (es : List Terms) → are_names es ≡ true → list_all in_limits es ≡ true → is_between 1 511 (length es) ≡ true → fault_of es ≡ None
no_fault es n l b = rw (n, l, b) refl

-- what holds of all routes that were read
abbrev pub ReadSoundly : Routes → Type 0
ReadSoundly all =
    (fault_of all.terms ≡ None) × (length all.schedules ≡ length all.terms) × (list_all closes_later all.schedules ≡ true) ×
    (length all.expected ≡ length all.terms)

in_sound : (items : Items) (all : Routes) → routes_in items ≡ Ok all → ReadSoundly all
unfolding routes_in
in_sound items all h =
    let c = counted (are_tables items) (is_between 1 511 (count items)) (WrongKind Route) (OutOfRange Route) (routes_from no_routes items) all h in
    let s = from_sound no_routes items all 0 c.1 (record { names = refl; limits = refl; later = refl; many = refl; scheduled = refl; marked = refl }) in
    let many : length all.terms ≡ count items = omega (arith, s.many) in
    (no_fault all.terms s.names s.limits (ap (is_between 1 511) many ∙ c.0), s.scheduled ∙ sym s.many, s.later, s.marked ∙ sym s.many)

at_sound : (table : Members) (all : Routes) → routes_at table ≡ Ok all → ReadSoundly all
unfolding routes_at
at_sound table all h =
    let v = passed (value_at Route table) _ all h in
    let i = passed (of_kind Route (as_array v.0)) _ all v.2 in
    in_sound i.0 all i.2

pub sound_of : (table : Members) (place : Place) (r : Result ReadRoutes PlacedFault)
    → GivesAt routes_seen r (routes_at table) place → IfOk r (λ routes. ReadSoundly (routes_seen routes))
sound_of table place (Ok routes) (inl m) = absurd cc
sound_of table place (Ok routes) (inr h) = at_sound table (routes_seen routes) (sym h.0)
sound_of table place (Err f) g = tt

-- one of these after the other
pub fault_sound : (r : Result ReadRoutes PlacedFault)
    → IfOk r (λ routes. ReadSoundly (routes_seen routes)) → IfOk r (λ routes. fault_of (map terms_of routes.entries.items) ≡ None)
fault_sound (Ok routes) h = h.0
fault_sound (Err f) h = tt

pub scheduled_sound : (r : Result ReadRoutes PlacedFault)
    → IfOk r (λ routes. ReadSoundly (routes_seen routes)) → IfOk r (λ routes. length routes.schedules.items ≡ length routes.entries.items)
scheduled_sound (Ok routes) h = h.1 ∙ length-map routes.entries.items terms_of
scheduled_sound (Err f) h = tt

pub later_sound : (r : Result ReadRoutes PlacedFault)
    → IfOk r (λ routes. ReadSoundly (routes_seen routes)) → IfOk r (λ routes. list_all closes_later routes.schedules.items ≡ true)
later_sound (Ok routes) h = h.2
later_sound (Err f) h = tt

pub marked_sound : (r : Result ReadRoutes PlacedFault)
    → IfOk r (λ routes. ReadSoundly (routes_seen routes)) → IfOk r (λ routes. length routes.expected.items ≡ length routes.entries.items)
marked_sound (Ok routes) h = h.3 ∙ length-map routes.entries.items terms_of
marked_sound (Err f) h = tt
