-- A Stream ID makes at most one request, or has one fault.
use Rattle.std.proofs.Common.{◌≡◌, ◌≢◌, ℕ, ◌+◌, ◌<◌, ◌≤◌, List, [], ◌∷◌, ◌++◌, Option, None, Some, Result, Ok, Err, length, take, drop, map}
use Rattle.std.proofs.Common.{inl, inr, refl, sym, ap, subst, ◌∙◌, arith, append_assoc, length-take, length-drop}
use Rattle.std.proofs.Math.Seq.{take-length}
use Rattle.std.specs.List.{cons_option}
use Rattle.std.proofs.lemmas.List.Elements.{filter_map-append}
use Rattle.srt_types.specs.declared.shared.Role.{Role}
use Rattle.srt_types.specs.declared.shared.Role.TheVariants.{Publish, Request}
use Rattle.srt_streamid.specs.declared.reading.Ask.{Ask}
use Rattle.srt_streamid.specs.declared.reading.AskFault.{AskFault}
use Rattle.srt_streamid.specs.declared.reading.AskFault.TheVariants.{NotUtf8, NoRoute, BadMode, RepeatedKey}
use Rattle.srt_streamid.specs.Parts.{Piece, name_in, mode_in, names_in, modes_in, parts_of}
use Rattle.srt_streamid.specs.Reading.{role_in, ask_in, name_of}
use Rattle.srt_streamid.specs.Spelling.{mode_of, SayRole, ListAsks, NameAsks, Asks, IsBadMode, IsSaidAgain, HasValueFault, NoneIsAtFault}
use Rattle.srt_streamid.specs.Spelling.{HasFirstFault, NameNothing, ListNamesNothing, HasFault}
use Rattle.srt_streamid.specs.Laws.{AskIsRead, FaultIsRead, NameIsInside, NameIsSaid}
use Rattle.srt_streamid.proofs.Requested.{list_or_not, Reported, reported}

one_role : (a b : Role) → mode_of a ≡ mode_of b → a ≡ b
one_role Publish Publish e = refl
one_role Request Request e = refl
one_role Publish Request e = let read : role_in (mode_of Publish) ≡ role_in (mode_of Request) = ap role_in e in cc
one_role Request Publish e = let read : role_in (mode_of Request) ≡ role_in (mode_of Publish) = ap role_in e in cc

said_once : (modes : List Piece) (a b : Role) → SayRole modes a → SayRole modes b → a ≡ b
said_once [] a b x y = x ∙ sym y
said_once (mode ∷ []) a b x y = one_role a b (sym x ∙ y)
said_once (mode ∷ again ∷ modes) a b x y = absurd x

same_ask : (a b : Ask) → a.start ≡ b.start → a.len ≡ b.len → a.role ≡ b.role → a ≡ b
same_ask a b s l r =
    ap (λ n. record { start = n; len = a.len; role = a.role }) s ∙ ap (λ n. record { start = b.start; len = n; role = a.role }) l
    ∙ ap (λ o. record { start = b.start; len = b.len; role = o }) r

first_start : List Piece → ℕ
first_start [] = 0
first_start (piece ∷ pieces) = piece.start

first_text : List Piece → List ℕ
first_text [] = []
first_text (piece ∷ pieces) = piece.text

one_list : (bytes : List ℕ) (a b : Ask) → ListAsks bytes a → ListAsks bytes b → a ≡ b
unfolding first_start first_text
one_list bytes a b x y =
    let same = sym x.name ∙ y.name in
    same_ask a b (ap first_start same) (sym x.len ∙ ap (λ pieces. length (first_text pieces)) same ∙ y.len) (said_once _ a.role b.role x.role y.role)

one_name : (bytes : List ℕ) (a b : Ask) → NameAsks bytes a → NameAsks bytes b → a ≡ b
one_name bytes a b x y = same_ask a b (x.start ∙ sym y.start) (x.len ∙ sym y.len) (x.role ∙ sym y.role)

-- there is at most one request
one_ask : (bytes : List ℕ) (a b : Ask) → Asks bytes a → Asks bytes b → a ≡ b
one_ask bytes a b x y =
    elim (list_or_not bytes)
    [ inl list ↦ one_list bytes a b (x.list list) (y.list list) | inr plain ↦ one_name bytes a b (x.plain plain) (y.plain plain) ]

-- a list with a role has no bad mode and no second mode
good_mode : (modes more : List Piece) (mode : Option Piece) (role : Role) → IsBadMode mode → ¬ (SayRole (modes ++ cons_option mode more) role)
good_mode modes more None role bad s = bad
good_mode [] [] (Some mode) role bad s = bad role s
good_mode [] (one ∷ more) (Some mode) role bad s = s
good_mode (one ∷ []) more (Some mode) role bad s = s
good_mode (one ∷ again ∷ modes) more (Some mode) role bad s = s

once_mode : (modes more : List Piece) (mode : Option Piece) (role : Role) → IsSaidAgain modes mode → ¬ (SayRole (modes ++ cons_option mode more) role)
once_mode modes more None role again s = again
once_mode [] more (Some mode) role again s = again
once_mode (one ∷ []) more (Some mode) role again s = s
once_mode (one ∷ two ∷ modes) more (Some mode) role again s = s

once_name : (names more : List Piece) (name : Option Piece) (one : Piece) → IsSaidAgain names name → ¬ (names ++ cons_option name more ≡ one ∷ [])
once_name names more None one again e = again
once_name [] more (Some name) one again e = again
once_name (first ∷ []) more (Some name) one again e = cc
once_name (first ∷ second ∷ names) more (Some name) one again e = cc

value_faultless : (names modes more_names more_modes : List Piece) (name mode : Option Piece) (fault : AskFault) (one : Piece) (role : Role)
    → names ++ cons_option name more_names ≡ one ∷ [] → SayRole (modes ++ cons_option mode more_modes) role
    → ¬ (HasValueFault names modes name mode fault)
value_faultless names modes more_names more_modes name mode NotUtf8 one role n s h = h
value_faultless names modes more_names more_modes name mode NoRoute one role n s h = h
value_faultless names modes more_names more_modes name mode BadMode one role n s h = good_mode modes more_modes mode role h s
value_faultless names modes more_names more_modes name mode RepeatedKey one role n s h =
    elim h.1 [ inl again ↦ once_name names more_names name one again n | inr again ↦ once_mode modes more_modes mode role again s ]

-- a list that requests a route has no part with a fault
asks_faultless : (before parts : List Piece) (fault : AskFault) (one : Piece) (role : Role)
    → names_in (before ++ parts) ≡ one ∷ [] → SayRole (modes_in (before ++ parts)) role → ¬ (HasFirstFault before parts fault)
asks_faultless before [] fault one role n s h = h
asks_faultless before (part ∷ parts) fault one role n s h = elim h [
  | inl here ↦ value_faultless (names_in before) (modes_in before) (names_in parts) (modes_in parts) (name_in part) (mode_in part) fault one role
      (sym (filter_map-append name_in before (part ∷ parts)) ∙ n)
      (subst (λ (modes : List Piece). SayRole modes role) (filter_map-append mode_in before (part ∷ parts)) s) here
  | inr later ↦ asks_faultless (before ++ part ∷ []) parts fault one role
      (ap names_in (append_assoc before (part ∷ []) parts) ∙ n)
      (subst (λ (all : List Piece). SayRole (modes_in all) role) (sym (append_assoc before (part ∷ []) parts)) s) later.1
]

-- a list without a route's name requests nothing
some_name : (names : List Piece) (start : ℕ) (text : List ℕ) → names ≡ record { start = start; text = text } ∷ [] → NameNothing names → text ≡ []
some_name [] start text e h = cc
some_name (name ∷ []) start text e h = let same : name.text ≡ text = cc in sym same ∙ h
some_name (name ∷ again ∷ names) start text e h = absurd h

list_names : (bytes : List ℕ) (ask : Ask) → 0 < ask.len → ListAsks bytes ask → ¬ (ListNamesNothing bytes)
list_names bytes ask some a h =
    let none : name_of bytes ask ≡ [] = some_name _ ask.start (name_of bytes ask) a.name h.nameless in
    let size : length (name_of bytes ask) ≡ 0 = ap length none in omega (arith, a.len)

name_names : (bytes : List ℕ) (ask : Ask) → 0 < ask.len → NameAsks bytes ask → bytes ≢ []
name_names bytes ask some a none = let size : length bytes ≡ 0 = ap length none in omega (arith, a.len)

-- a Stream ID that requests something has no fault
no_fault : (bytes : List ℕ) (ask : Ask) (fault : AskFault) → Asks bytes ask → ¬ (HasFault bytes fault)
no_fault bytes ask NotUtf8 a h = h a.utf8
no_fault bytes ask NoRoute a h =
    elim (list_or_not bytes) [
      | inl list ↦ list_names bytes ask a.some (a.list list) (h.list list)
      | inr plain ↦ name_names bytes ask a.some (a.plain plain) (h.plain plain)
    ]
no_fault bytes ask BadMode a h = let l = a.list h.1 in asks_faultless [] (parts_of bytes) BadMode _ ask.role l.name l.role h.2
no_fault bytes ask RepeatedKey a h = let l = a.list h.1 in asks_faultless [] (parts_of bytes) RepeatedKey _ ask.role l.name l.role h.2

-- parts without a fault have no first fault
clean_is_clean : (before parts : List Piece) (fault : AskFault) → NoneIsAtFault before parts → ¬ (HasFirstFault before parts fault)
clean_is_clean before [] fault n h = h
clean_is_clean before (part ∷ parts) fault n h = elim h [ inl here ↦ n.0 fault here | inr later ↦ clean_is_clean (before ++ part ∷ []) parts fault n.1 later.1 ]

first_is_one : (before parts : List Piece) → HasFirstFault before parts BadMode → ¬ (HasFirstFault before parts RepeatedKey)
first_is_one before [] x y = x
first_is_one before (part ∷ parts) x y = elim x [
  | inl bad ↦ elim y [ inl again ↦ again.0 bad | inr later ↦ later.0 BadMode bad ]
  | inr later ↦ elim y [ inl again ↦ later.0 RepeatedKey again | inr more ↦ first_is_one (before ++ part ∷ []) parts later.1 more.1 ]
]

one_fault : (bytes : List ℕ) (a b : AskFault) → HasFault bytes a → HasFault bytes b → a ≡ b
one_fault bytes NotUtf8 NotUtf8 x y = refl
one_fault bytes NoRoute NoRoute x y = refl
one_fault bytes BadMode BadMode x y = refl
one_fault bytes RepeatedKey RepeatedKey x y = refl
one_fault bytes NotUtf8 NoRoute x y = absurd (x y.utf8)
one_fault bytes NotUtf8 BadMode x y = absurd (x y.0)
one_fault bytes NotUtf8 RepeatedKey x y = absurd (x y.0)
one_fault bytes NoRoute NotUtf8 x y = absurd (y x.utf8)
one_fault bytes BadMode NotUtf8 x y = absurd (y x.0)
one_fault bytes RepeatedKey NotUtf8 x y = absurd (y x.0)
one_fault bytes NoRoute BadMode x y = absurd (clean_is_clean [] (parts_of bytes) BadMode (x.list y.1).faultless y.2)
one_fault bytes NoRoute RepeatedKey x y = absurd (clean_is_clean [] (parts_of bytes) RepeatedKey (x.list y.1).faultless y.2)
one_fault bytes BadMode NoRoute x y = absurd (clean_is_clean [] (parts_of bytes) BadMode (y.list x.1).faultless x.2)
one_fault bytes RepeatedKey NoRoute x y = absurd (clean_is_clean [] (parts_of bytes) RepeatedKey (y.list x.1).faultless x.2)
one_fault bytes BadMode RepeatedKey x y = absurd (first_is_one [] (parts_of bytes) x.2 y.2)
one_fault bytes RepeatedKey BadMode x y = absurd (first_is_one [] (parts_of bytes) y.2 x.2)

ask_reported : (bytes : List ℕ) (ask : Ask) (read : Result Ask AskFault) → Reported bytes read → Asks bytes ask → read ≡ Ok ask
ask_reported bytes ask (Ok other) t a = ap Ok (one_ask bytes other ask t a)
ask_reported bytes ask (Err fault) t a = absurd (no_fault bytes ask fault a t)

fault_reported : (bytes : List ℕ) (fault : AskFault) (read : Result Ask AskFault) → Reported bytes read → HasFault bytes fault → read ≡ Err fault
fault_reported bytes fault (Ok ask) t h = absurd (no_fault bytes ask fault t h)
fault_reported bytes fault (Err other) t h = ap Err (one_fault bytes other fault t h)

pub ask_is_read : AskIsRead
ask_is_read bytes ask = (λ e. subst (Reported bytes) e (reported bytes), ask_reported bytes ask (ask_in bytes) (reported bytes))

pub fault_is_read : FaultIsRead
fault_is_read bytes fault = (λ e. subst (Reported bytes) e (reported bytes), fault_reported bytes fault (ask_in bytes) (reported bytes))

list_inside : (bytes : List ℕ) (ask : Ask) → 0 < ask.len → ListAsks bytes ask → ask.start + ask.len ≤ length bytes
list_inside bytes ask some a = omega (arith, a.len, length-take ask.len (drop ask.start bytes), length-drop ask.start bytes)

name_inside : (bytes : List ℕ) (ask : Ask) → NameAsks bytes ask → ask.start + ask.len ≤ length bytes
name_inside bytes ask a = omega (arith, a.start, a.len)

asks_inside : (bytes : List ℕ) (ask : Ask) → Asks bytes ask → ask.start + ask.len ≤ length bytes
asks_inside bytes ask a = elim (list_or_not bytes) [ inl list ↦ list_inside bytes ask a.some (a.list list) | inr plain ↦ name_inside bytes ask (a.plain plain) ]

pub name_is_inside : NameIsInside
name_is_inside bytes ask e = let a = (ask_is_read bytes ask).0 e in (a.some, asks_inside bytes ask a)

whole_name : (bytes : List ℕ) (ask : Ask) → NameAsks bytes ask → name_of bytes ask ≡ bytes
whole_name bytes ask a = ap (λ n. take n (drop ask.start bytes)) a.len ∙ ap (λ n. take (length bytes) (drop n bytes)) a.start ∙ take-length bytes

pub name_is_said : NameIsSaid
name_is_said bytes ask e =
    let a = (ask_is_read bytes ask).0 e in
    record { list = λ list. ap (map (λ piece. piece.text)) (a.list list).name; plain = λ plain. whole_name bytes ask (a.plain plain) }
