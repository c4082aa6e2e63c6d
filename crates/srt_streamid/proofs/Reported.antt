-- The state is right for the parts so far, and each fault is the first of the parts.
use Rattle.std.proofs.Common.{◌≡◌, ◌≢◌, ℕ, Bool, true, false, if◌then◌else◌, List, [], ◌∷◌, ◌++◌, Option, None, Some, is_some, Result, Ok}
use Rattle.std.proofs.Common.{Err, MatchResult, length, take, codes, inl, inr, refl, sym, ap, ◌∙◌, append_assoc, append-nil, Decides, subst}
use Rattle.std.specs.Bool.{⊤}
use Rattle.std.specs.List.{cons_option}
use Rattle.std.specs.Str.{bytes_eq}
use Rattle.std.proofs.lemmas.Slice.Eq.{bytes_eq-Decides}
use Rattle.std.proofs.lemmas.List.Elements.{filter_map-append}
use Rattle.srt_types.specs.declared.shared.Role.{Role}
use Rattle.srt_types.specs.declared.shared.Role.TheVariants.{Publish, Request}
use Rattle.srt_streamid.specs.declared.keys.Found.{Found}
use Rattle.srt_streamid.specs.declared.keys.Span.{Span}
use Rattle.srt_streamid.specs.declared.reading.AskFault.{AskFault}
use Rattle.srt_streamid.specs.declared.reading.AskFault.TheVariants.{NotUtf8, NoRoute, BadMode, RepeatedKey}
use Rattle.srt_streamid.specs.Parts.{Piece, value_behind, equals_in, name_in, mode_in, names_in, modes_in}
use Rattle.srt_streamid.specs.Reading.{◌>>=◌, role_in, with_name, with_values, with_part, with_parts}
use Rattle.srt_streamid.specs.Spelling.{mode_of, IsBadMode, IsSaidAgain, HasValueFault, HasPartFault, NoneIsAtFault, HasFirstFault}

-- the span of a name
abbrev pub span_of : Piece → Span
span_of name = record { start = name.start; len = length name.text }

abbrev pub NameStands : List Piece → Option Span → Type 0
NameStands [] None = ⊤
NameStands [] (Some span) = ⊥
NameStands (name ∷ []) None = ⊥
NameStands (name ∷ []) (Some span) = span ≡ span_of name
NameStands (name ∷ again ∷ names) span = ⊥

abbrev pub RoleStands : List Piece → Option Role → Type 0
RoleStands [] None = ⊤
RoleStands [] (Some role) = ⊥
RoleStands (mode ∷ []) None = ⊥
RoleStands (mode ∷ []) (Some role) = mode.text ≡ mode_of role
RoleStands (mode ∷ again ∷ modes) role = ⊥

-- the state has the only name, and the role of the only mode
pub record Stands (names modes : List Piece) (found : Found) : Type 0 where
  pub name : NameStands names found.name
  pub role : RoleStands modes found.role

-- a text that is no mode is the mode of no role
neither : (text : List ℕ) → text ≢ codes "publish" → text ≢ codes "request" → (role : Role) → text ≢ mode_of role
neither text p q Publish = p
neither text p q Request = q

RoleReported : List ℕ → Result Role AskFault → Type 0
RoleReported text read = MatchResult read (λ role. text ≡ mode_of role) (λ fault. (fault ≡ BadMode) × ((role : Role) → text ≢ mode_of role))

role_cases : (text : List ℕ) (p q : Bool) → Decides p (text ≡ codes "publish") → Decides q (text ≡ codes "request")
    → RoleReported text (if p then Ok Publish else (if q then Ok Request else Err BadMode))
unfolding RoleReported
role_cases text true q d e = d.0 refl
role_cases text false true d e = e.0 refl
role_cases text false false d e = (refl, neither text (λ h. cc (d.1 h)) (λ h. cc (e.1 h)))

role_reported : (text : List ℕ) → RoleReported text (role_in text)
role_reported text = role_cases text _ _ (bytes_eq-Decides text (codes "publish")) (bytes_eq-Decides text (codes "request"))

-- there is no fault if the mode isn't bad and no value is repeated
faultless : (names modes : List Piece) (name mode : Option Piece) → ¬ (IsBadMode mode) → ¬ (IsSaidAgain names name)
    → ¬ (IsSaidAgain modes mode) → (fault : AskFault)
    → ¬ (HasValueFault names modes name mode fault)
faultless names modes name mode good once first NotUtf8 = λ h. h
faultless names modes name mode good once first NoRoute = λ h. h
faultless names modes name mode good once first BadMode = good
faultless names modes name mode good once first RepeatedKey = λ h. elim h.1 [ inl again ↦ once again | inr again ↦ first again ]

-- the consequence of the result of reading one part
abbrev PartReported : (names modes : List Piece) (name mode : Option Piece) → Result Found AskFault → Type 0
PartReported names modes name mode read =
    MatchResult read
    (λ more. ((fault : AskFault) → ¬ (HasValueFault names modes name mode fault)) ×
    Stands (names ++ cons_option name []) (modes ++ cons_option mode []) more)
    (HasValueFault names modes name mode)

-- a part has a name, or a mode, or neither
abbrev pub Alone : Option Piece → Option Piece → Type 0
Alone None mode = ⊤
Alone (Some name) None = ⊤
Alone (Some name) (Some mode) = ⊥

name_reported : (names modes : List Piece) (span : Option Span) (role : Option Role) (name : Piece) → NameStands names span
    → RoleStands modes role
    → PartReported names modes (Some name) None (with_name (record { name = span; role = role }) name)
name_reported [] modes None role name n r = (faultless [] modes (Some name) None (λ h. h) (λ h. h) (λ h. h), record { name = refl; role = rw append-nil r })
name_reported (one ∷ []) modes (Some span) role name n r = ((λ h. h), inl tt)
name_reported [] modes (Some span) role name n r = absurd n
name_reported (one ∷ []) modes None role name n r = absurd n
name_reported (one ∷ again ∷ names) modes span role name n r = absurd n

mode_reported : (names modes : List Piece) (span : Option Span) (role : Option Role) (mode : Piece) (read : Result Role AskFault)
    → NameStands names span → RoleStands modes role → RoleReported mode.text read
    → PartReported names modes None (Some mode) (read >>= λ said. if is_some role then Err RepeatedKey else Ok (record { name = span; role = Some said }))
unfolding RoleReported
mode_reported names [] span None mode (Ok said) n r t =
    (faultless names [] None (Some mode) (λ bad. bad said t) (λ h. h) (λ h. h), record { name = rw append-nil n; role = t })
mode_reported names (one ∷ []) span (Some role) mode (Ok said) n r t = ((λ bad. bad said t), inr tt)
mode_reported names [] span (Some role) mode (Ok said) n r t = absurd r
mode_reported names (one ∷ []) span None mode (Ok said) n r t = absurd r
mode_reported names (one ∷ again ∷ modes) span role mode (Ok said) n r t = absurd r
mode_reported names modes span role mode (Err fault) n r t = subst (HasValueFault names modes None (Some mode)) (sym t.0) t.1

values_reported : (names modes : List Piece) (found : Found) (name mode : Option Piece)
    → Alone name mode → Stands names modes found → PartReported names modes name mode (with_values found name mode)
values_reported names modes found None None alone s =
    (faultless names modes None None (λ h. h) (λ h. h) (λ h. h), record { name = rw append-nil s.name; role = rw append-nil s.role })
values_reported names modes found (Some name) None alone s = name_reported names modes found.name found.role name s.name s.role
values_reported names modes found None (Some mode) alone s =
    mode_reported names modes found.name found.role mode (role_in mode.text) s.name s.role (role_reported mode.text)
values_reported names modes found (Some name) (Some mode) alone s = absurd alone

-- no key is both r and m
keys_differ : (key : List ℕ) → bytes_eq key (codes "r") ≡ true → bytes_eq key (codes "m") ≡ true → ⊥
keys_differ key p q =
    let r : key ≡ codes "r" = (bytes_eq-Decides key (codes "r")).0 p in
    let m : key ≡ codes "m" = (bytes_eq-Decides key (codes "m")).0 q in
    let both : codes "r" ≡ codes "m" = sym r ∙ m in
    let tests : bytes_eq (codes "r") (codes "r") ≡ bytes_eq (codes "m") (codes "r") = ap (λ k. bytes_eq k (codes "r")) both in cc

alone_tests : (p q : Bool) (name mode : Piece) → (p ≡ true → q ≡ true → ⊥) → Alone (if p then Some name else None) (if q then Some mode else None)
alone_tests true true name mode h = h refl refl
alone_tests true false name mode h = tt
alone_tests false q name mode h = tt

alone_behind : (part : Piece) (equals : Option ℕ) → Alone (value_behind (codes "r") part equals) (value_behind (codes "m") part equals)
alone_behind part None = tt
alone_behind part (Some at) = alone_tests _ _ _ _ (keys_differ (take at part.text))

-- reading one part of a list
part_reported : (before : List Piece) (part : Piece) (found : Found) → Stands (names_in before) (modes_in before) found
    → MatchResult (with_part found part)
    (λ more. ((fault : AskFault) → ¬ (HasPartFault before part fault)) ×
    Stands (names_in (before ++ part ∷ [])) (modes_in (before ++ part ∷ [])) more)
    (HasPartFault before part)
unfolding with_part
part_reported before part found s =
    let reported = values_reported (names_in before) (modes_in before) found (name_in part) (mode_in part) (alone_behind part (equals_in part)) s in
    rw (filter_map-append name_in before (part ∷ []), filter_map-append mode_in before (part ∷ [])) reported

matched : {T : Type 0} (read : Result T AskFault) (P Q : T → Type 0) (R S : AskFault → Type 0)
    → MatchResult read P R → ((x : T) → P x → Q x) → ((e : AskFault) → R e → S e) → MatchResult read Q S
matched (Ok x) P Q R S h p r = p x h
matched (Err e) P Q R S h p r = r e h

-- the consequence of the result of reading parts, after the parts before them
abbrev pub PartsReported : (before parts : List Piece) → Result Found AskFault → Type 0
PartsReported before parts read =
    MatchResult read (λ more. NoneIsAtFault before parts × Stands (names_in (before ++ parts)) (modes_in (before ++ parts)) more)
    (HasFirstFault before parts)

one_more : (before : List Piece) (part : Piece) (parts : List Piece) (read : Result Found AskFault)
    → MatchResult read
    (λ more. ((fault : AskFault) → ¬ (HasPartFault before part fault)) ×
    Stands (names_in (before ++ part ∷ [])) (modes_in (before ++ part ∷ [])) more)
    (HasPartFault before part)
    → ((more : Found) → Stands (names_in (before ++ part ∷ [])) (modes_in (before ++ part ∷ [])) more
    → PartsReported (before ++ part ∷ []) parts (with_parts more parts))
    → PartsReported before (part ∷ parts) (read >>= λ more. with_parts more parts)
one_more before part parts (Err fault) h rest = inl h
one_more before part parts (Ok more) h rest =
    matched (with_parts more parts) _ _ _ _ (rest more h.1)
    (λ last s. ((h.0, s.0), subst (λ (all : List Piece). Stands (names_in all) (modes_in all) last) (append_assoc before (part ∷ []) parts) s.1))
    (λ fault first. inr (h.0, first))

pub parts_reported : (before parts : List Piece) (found : Found)
    → Stands (names_in before) (modes_in before) found → PartsReported before parts (with_parts found parts)
parts_reported before [] found s = (tt, rw append-nil s)
parts_reported before (part ∷ parts) found s =
    one_more before part parts (with_part found part) (part_reported before part found s)
    (λ more h. parts_reported (before ++ part ∷ []) parts more h)
