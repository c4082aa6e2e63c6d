-- Missing keys that are told as misspelled ones.
use Rattle.std.proofs.Common.{◌≡◌, Bool, true, false, List, [], ◌∷◌, ◌++◌, length, Some, refl, sym, ap, ◌∙◌}
use Rattle.std.proofs.lemmas.List.{map-append}
use Rattle.std.specs.List.{list_any}
use Rattle.std.specs.Prelude.{if◌then◌else◌, ◌||◌}
use Rattle.srt_config.specs.declared.config.keys.Key.{Key}
use Rattle.srt_config.specs.declared.config.placed.Place.{Place}
use Rattle.srt_config.specs.declared.config.placed.PlacedFault.{PlacedFault}
use Rattle.srt_config.specs.FirstFault.{Fault, Toml, UnknownKey, Missing, WrongKind, OutOfRange, BadName, RepeatedName, BadSecret, BadAddress}
use Rattle.srt_config.specs.FirstFault.{OutOfMemory}
use Rattle.srt_config.specs.AllFaults.{Placed, placed_seen, faults_seen}
use Rattle.srt_config.specs.AllFaultLaws.{first}
use Rattle.srt_explain.specs.Misspelled.{may_be, is_missing_told, is_told, with_fault, with_faults}

pub any_seen : (at : Place) (key : Key) (xs : List PlacedFault) →
    list_any (λ (it : PlacedFault). may_be at key (placed_seen it)) xs ≡ list_any (may_be at key) (faults_seen xs)
any_seen at key [] = refl
any_seen at key (x ∷ xs) = ap (λ b. may_be at key (placed_seen x) || b) (any_seen at key xs)

added_if : (b : Bool) (before : List PlacedFault) (it : PlacedFault) → b ≡ false →
    faults_seen (before ++ it ∷ []) ≡ (if b then faults_seen before else faults_seen before ++ placed_seen it ∷ [])
added_if true before it h = cc
added_if false before it h = map-append placed_seen before (it ∷ [])

-- one fault more is told
pub added : (before after : List PlacedFault) (it : PlacedFault) → is_told (faults_seen before) (placed_seen it) ≡ false → after ≡ before ++ it ∷ [] →
    faults_seen after ≡ with_fault (faults_seen before) (placed_seen it)
added before after it h e = ap faults_seen e ∙ added_if (is_told (faults_seen before) (placed_seen it)) before it h

pub begun : (faults items list : List PlacedFault) → items ≡ faults → list ≡ [] →
    with_faults (faults_seen list) (faults_seen items) ≡ with_faults [] (faults_seen faults)
begun faults items list e f =
    ap (λ l. with_faults (faults_seen l) (faults_seen items)) f ∙ ap (λ l. with_faults [] (faults_seen l)) e

pub one_more : (before after : List PlacedFault) (it : PlacedFault) (old rest : List PlacedFault) (all : List Placed) →
    faults_seen after ≡ with_fault (faults_seen before) (placed_seen it) → old ≡ it ∷ rest → with_faults (faults_seen before) (faults_seen old) ≡ all →
    with_faults (faults_seen after) (faults_seen rest) ≡ all
one_more before after it old rest all e o h =
    ap (λ b. with_faults b (faults_seen rest)) e ∙ ap (λ l. with_faults (faults_seen before) (faults_seen l)) (sym o) ∙ h

pub all_told : (list rest : List PlacedFault) (all : List Placed) → rest ≡ [] → with_faults (faults_seen list) (faults_seen rest) ≡ all → faults_seen list ≡ all
all_told list rest all e h = ap (λ l. with_faults (faults_seen list) (faults_seen l)) (sym e) ∙ h

pub none_left : {X : Type 0} (xs : List X) → length xs ≡ 0 → xs ≡ []
none_left [] h = refl
none_left (x ∷ xs) h = cc

-- the first fault is always told
kept_if : (b : Bool) (it : Placed) (before : List Placed) (x : Placed) (rest : List Placed) →
    first (with_faults (it ∷ before) rest) ≡ Some it → first (with_faults ((it ∷ before) ++ x ∷ []) rest) ≡ Some it →
    first (with_faults (if b then it ∷ before else (it ∷ before) ++ x ∷ []) rest) ≡ Some it
kept_if true it before x rest h k = h
kept_if false it before x rest h k = k

keeps_first : (it : Placed) (before rest : List Placed) → first (with_faults (it ∷ before) rest) ≡ Some it
keeps_first it before [] = refl
keeps_first it before (x ∷ rest) =
    kept_if (is_told (it ∷ before) x) it before x rest (keeps_first it before rest) (keeps_first it (before ++ x ∷ []) rest)

nothing_told : (at : Place) (fault : Fault) → is_missing_told [] at fault ≡ false
nothing_told at Toml = refl
nothing_told at (UnknownKey text) = refl
nothing_told at (Missing key) = refl
nothing_told at (WrongKind key) = refl
nothing_told at (OutOfRange key) = refl
nothing_told at BadName = refl
nothing_told at RepeatedName = refl
nothing_told at BadSecret = refl
nothing_told at (BadAddress key) = refl
nothing_told at OutOfMemory = refl

pub first_told : (faults : List Placed) → first (with_faults [] faults) ≡ first faults
first_told [] = refl
first_told (it ∷ rest) =
    ap (λ b. first (with_faults (if b then [] else [] ++ it ∷ []) rest)) (nothing_told it.place it.fault) ∙ keeps_first it [] rest
