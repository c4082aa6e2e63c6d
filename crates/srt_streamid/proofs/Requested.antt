-- A returned request is the request of the Stream ID, and a returned fault is one that it has.
use Rattle.std.proofs.Common.{◌≡◌, ℕ, ◌<◌, ◌==◌, Bool, true, false, if◌then◌else◌, List, [], ◌∷◌, ◌++◌, Option, None, Some, unwrap_or}
use Rattle.std.proofs.Common.{Result, Ok, Err, MatchResult, length, take, drop, codes, nat_eq, ◌⊎◌, inl, inr, refl, sym, ap, subst, ◌∙◌}
use Rattle.std.proofs.Common.{arith, Decides}
use Rattle.std.proofs.lemmas.Bool.{false≢true}
use Rattle.std.specs.List.{starts_with, AllByRecursion}
use Rattle.std.specs.Str.{IsUtf8, is_utf8}
use Rattle.std.proofs.lemmas.Str.{IsUtf8-from_is_utf8, is_utf8-from_IsUtf8}
use Rattle.std.proofs.lemmas.Bool.Decides.{nat_tests}
use Rattle.std.proofs.lemmas.List.{nil_from_length}
use Rattle.std.proofs.lemmas.Slice.Eq.{bytes_eq-Decides}
use Rattle.srt_types.specs.declared.shared.Role.{Role}
use Rattle.srt_types.specs.declared.shared.Role.TheVariants.{Request}
use Rattle.srt_streamid.specs.declared.keys.Found.{Found}
use Rattle.srt_streamid.specs.declared.keys.Span.{Span}
use Rattle.srt_streamid.specs.declared.reading.Ask.{Ask}
use Rattle.srt_streamid.specs.declared.reading.AskFault.{AskFault}
use Rattle.srt_streamid.specs.declared.reading.AskFault.TheVariants.{NotUtf8, NoRoute, BadMode, RepeatedKey}
use Rattle.srt_streamid.specs.Parts.{Piece, names_in, modes_in, parts_of}
use Rattle.srt_streamid.specs.Reading.{◌>>=◌, named, requested, nothing, list_in, ask_in}
use Rattle.srt_streamid.specs.Spelling.{IsList, SayRole, ListAsks, Asks, NoneIsAtFault, HasFirstFault, NameNothing, ListNamesNothing, HasFault}
use Rattle.srt_streamid.proofs.Places.{StandsIn, parts_stand, values_stand}
use Rattle.srt_streamid.proofs.Reported.{NameStands, RoleStands, PartsReported, parts_reported}

-- the fault of a list
abbrev pub HasListFault : List ℕ → AskFault → Type 0
HasListFault bytes NotUtf8 = ⊥
HasListFault bytes NoRoute = ListNamesNothing bytes
HasListFault bytes fault = HasFirstFault [] (parts_of bytes) fault

abbrev pub ListReported : List ℕ → Result Ask AskFault → Type 0
ListReported bytes read = MatchResult read (λ ask. ListAsks bytes ask × (0 < ask.len)) (HasListFault bytes)

role_said : (modes : List Piece) (role : Option Role) → RoleStands modes role → SayRole modes (unwrap_or role Request)
role_said [] None r = refl
role_said (mode ∷ []) (Some role) r = r
role_said [] (Some role) r = absurd r
role_said (mode ∷ []) None r = absurd r
role_said (mode ∷ again ∷ modes) role r = absurd r

no_bytes : (n : ℕ) → (n == 0) ≡ true → n ≡ 0
no_bytes n e = grind (arith, nat_tests)

some_bytes : (n : ℕ) → (n == 0) ≡ false → 0 < n
some_bytes n e = grind (arith, nat_tests)

-- a list with one name
one_reported_if : (none : Bool) (bytes : List ℕ) (start : ℕ) (text : List ℕ) (role : Option Role) → (length text == 0) ≡ none
    → NoneIsAtFault [] (parts_of bytes) → names_in (parts_of bytes) ≡ record { start = start; text = text } ∷ []
    → text ≡ take (length text) (drop start bytes)
    → RoleStands (modes_in (parts_of bytes)) role
    → ListReported bytes (if none then Err NoRoute else Ok (record { start = start; len = length text; role = unwrap_or role Request }))
one_reported_if true bytes start text role e clean names stands r =
    record { faultless = clean; nameless = subst NameNothing (sym names) (nil_from_length text (no_bytes (length text) e)) }
one_reported_if false bytes start text role e clean names stands r = (
  record {
    name = names ∙ ap (λ text. record { start = start; text = text } ∷ []) stands;
    len = sym (ap length stands);
    role = role_said _ role r;
  },
  some_bytes (length text) e,
)

one_reported : (bytes : List ℕ) (start : ℕ) (text : List ℕ) (role : Option Role) → NoneIsAtFault [] (parts_of bytes)
    → names_in (parts_of bytes) ≡ record { start = start; text = text } ∷ [] → text ≡ take (length text) (drop start bytes)
    → RoleStands (modes_in (parts_of bytes)) role
    → ListReported bytes (named start (length text) (unwrap_or role Request))
one_reported bytes start text role clean names stands r = one_reported_if (length text == 0) bytes start text role refl clean names stands r

name_reported : (bytes : List ℕ) (names : List Piece) (name : Option Span) (role : Option Role) → NoneIsAtFault [] (parts_of bytes)
    → names_in (parts_of bytes) ≡ names → NameStands names name → RoleStands (modes_in (parts_of bytes)) role
    → AllByRecursion (StandsIn bytes) names
    → ListReported bytes (requested (record { name = name; role = role }))
name_reported bytes [] None role clean names n r stand = record { faultless = clean; nameless = subst NameNothing (sym names) tt }
name_reported bytes (one ∷ []) (Some span) role clean names n r stand =
    subst (λ (s : Span). ListReported bytes (named s.start s.len (unwrap_or role Request))) (sym n)
    (one_reported bytes one.start one.text role clean names stand.0 r)
name_reported bytes [] (Some span) role clean names n r stand = absurd n
name_reported bytes (one ∷ []) None role clean names n r stand = absurd n
name_reported bytes (one ∷ again ∷ more) name role clean names n r stand = absurd n

not_utf8_is_none : (before parts : List Piece) → ¬ (HasFirstFault before parts NotUtf8)
not_utf8_is_none before [] h = h
not_utf8_is_none before (part ∷ parts) h = elim h [ inl none ↦ none | inr later ↦ not_utf8_is_none (before ++ part ∷ []) parts later.1 ]

no_route_is_none : (before parts : List Piece) → ¬ (HasFirstFault before parts NoRoute)
no_route_is_none before [] h = h
no_route_is_none before (part ∷ parts) h = elim h [ inl none ↦ none | inr later ↦ no_route_is_none (before ++ part ∷ []) parts later.1 ]

first_list_fault : (bytes : List ℕ) (fault : AskFault) → HasFirstFault [] (parts_of bytes) fault → HasListFault bytes fault
first_list_fault bytes NotUtf8 h = not_utf8_is_none [] (parts_of bytes) h
first_list_fault bytes NoRoute h = absurd (no_route_is_none [] (parts_of bytes) h)
first_list_fault bytes BadMode h = h
first_list_fault bytes RepeatedKey h = h

requested_reported : (bytes : List ℕ) (read : Result Found AskFault) → PartsReported [] (parts_of bytes) read → ListReported bytes (read >>= requested)
requested_reported bytes (Ok found) h =
    name_reported bytes _ found.name found.role h.0 refl h.1.name h.1.role
    (values_stand (codes "r") bytes (parts_of bytes) (parts_stand bytes 4))
requested_reported bytes (Err fault) h = first_list_fault bytes fault h

pub list_reported : (bytes : List ℕ) → ListReported bytes (list_in bytes)
unfolding list_in
list_reported bytes = requested_reported bytes _ (parts_reported [] (parts_of bytes) nothing (record { name = tt; role = tt }))

-- the test whether the bytes begin as a list does
list_tested : (bytes : List ℕ) → Decides (starts_with nat_eq bytes (codes "#!::")) (codes "#!::" ≡ take 4 bytes)
list_tested bytes = bytes_eq-Decides (codes "#!::") (take 4 bytes)

pub list_or_not : (bytes : List ℕ) → IsList bytes ⊎ ¬ (IsList bytes)
list_or_not bytes = list_cases bytes (starts_with nat_eq bytes (codes "#!::")) refl
  where
    list_cases : (bytes : List ℕ) (list : Bool) → starts_with nat_eq bytes (codes "#!::") ≡ list → IsList bytes ⊎ ¬ (IsList bytes)
    list_cases bytes true e = inl (sym ((list_tested bytes).0 e))
    list_cases bytes false e = inr (λ h. false≢true (sym e ∙ (list_tested bytes).1 (sym h)))

-- a result is the request or the fault of the Stream ID
abbrev pub Reported : List ℕ → Result Ask AskFault → Type 0
Reported bytes read = MatchResult read (Asks bytes) (HasFault bytes)

list_fault : (bytes : List ℕ) (fault : AskFault) → IsUtf8 bytes → IsList bytes → HasListFault bytes fault → HasFault bytes fault
list_fault bytes NotUtf8 u l h = absurd h
list_fault bytes NoRoute u l h = record { utf8 = u; list = λ is. h; plain = λ plain. absurd (plain l) }
list_fault bytes BadMode u l h = (u, l, h)
list_fault bytes RepeatedKey u l h = (u, l, h)

reported_list : (bytes : List ℕ) (read : Result Ask AskFault) → IsUtf8 bytes → IsList bytes → ListReported bytes read → Reported bytes read
reported_list bytes (Ok ask) u l h = record { utf8 = u; some = h.1; list = λ is. h.0; plain = λ plain. absurd (plain l) }
reported_list bytes (Err fault) u l h = list_fault bytes fault u l h

reported_plain : (none : Bool) (bytes : List ℕ) → (length bytes == 0) ≡ none → IsUtf8 bytes → ¬ (IsList bytes)
    → Reported bytes (if none then Err NoRoute else Ok (record { start = 0; len = length bytes; role = Request }))
reported_plain true bytes e u l = record { utf8 = u; list = λ is. absurd (l is); plain = λ plain. nil_from_length bytes (no_bytes (length bytes) e) }
reported_plain false bytes e u l =
    record {
      utf8 = u;
      some = some_bytes (length bytes) e;
      list = λ is. absurd (l is);
      plain = λ plain. record { start = refl; len = refl; role = refl };
    }

reported_text : (list : Bool) (bytes : List ℕ) → starts_with nat_eq bytes (codes "#!::") ≡ list → IsUtf8 bytes
    → Reported bytes (if list then list_in bytes else named 0 (length bytes) Request)
reported_text true bytes e u = reported_list bytes (list_in bytes) u (sym ((list_tested bytes).0 e)) (list_reported bytes)
reported_text false bytes e u = reported_plain (length bytes == 0) bytes refl u (λ h. false≢true (sym e ∙ (list_tested bytes).1 (sym h)))

reported_if : (text : Bool) (bytes : List ℕ) → is_utf8 bytes ≡ text
    → Reported bytes
    (if text then (if starts_with nat_eq bytes (codes "#!::") then list_in bytes else named 0 (length bytes) Request) else Err NotUtf8)
reported_if true bytes e = reported_text (starts_with nat_eq bytes (codes "#!::")) bytes refl (IsUtf8-from_is_utf8 bytes e)
reported_if false bytes e = λ u. false≢true (sym e ∙ is_utf8-from_IsUtf8 bytes u)

pub reported : (bytes : List ℕ) → Reported bytes (ask_in bytes)
unfolding ask_in
reported bytes = reported_if (is_utf8 bytes) bytes refl
