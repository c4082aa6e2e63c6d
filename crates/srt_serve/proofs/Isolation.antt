-- What is sent for one route of a run.
use Rattle.std.proofs.Common.{◌≡◌, ℕ, Bool, true, false, None, List, [], ◌∷◌, ◌++◌, length, map, slice_index_or, refl, sym, ap, ◌∙◌}
use Rattle.std.proofs.Common.{append-nil, arith}
use Rattle.srt_types.specs.declared.shared.Item.{Item}
use Rattle.srt_types.specs.Items.{Item as ReportedInput, Datagram, input_of}
use Rattle.srt_types.specs.Terms.{Terms}
use Rattle.srt_route.specs.declared.replies.Reply.{Reply}
use Rattle.srt_route.specs.Route.{solo}
use Rattle.srt_route.specs.Written.{written}
use Rattle.srt_mailbox.specs.declared.accounts.Account.{Account}
use Rattle.srt_mailbox.specs.declared.inbox_rule.InboxEntry.{InboxEntry}
use Rattle.srt_mailbox.specs.Inbox.{keep, skip, polled_of, ticked_of, reported_before, applied}
use Rattle.srt_poller.specs.History.{Event, kept_after, kept_of, accepted}
use Rattle.srt_serve.specs.Ran.{RouteRan}
use Rattle.srt_serve.specs.Isolation.{sent_for, HasSentAll, places_of, SentIsFront, SentIsWhole, RoutesAreIsolated, SameItemsAreTaken, RunsAreIsolated}

pub is_empty : {X : Type 0} (xs : List X) → length xs ≡ 0 → xs ≡ []
is_empty [] h = refl
is_empty (x ∷ xs) h = absurd (omega (arith, h))

pub sent_is_front : SentIsFront
sent_is_front terms r events moments a ran = (kept_of r (kept_after None events) ++ (map written ran.queued ++ ran.waiting), ran.replied)

pub sent_is_whole : SentIsWhole
sent_is_whole terms r events moments a ran all =
    let queued : ran.queued ≡ [] = is_empty ran.queued (sym ran.queued_is ∙ all.queued) in
    let waiting : ran.waiting ≡ [] = is_empty ran.waiting (sym ran.waiting_is ∙ all.waiting) in
    let none : kept_of r (kept_after None events) ++ (map written ran.queued ++ ran.waiting) ≡ [] =
    ap (λ (ds : List Datagram). ds ++ (map written ran.queued ++ ran.waiting)) all.kept
    ∙ ap (λ (rs : List Reply). map written rs ++ ran.waiting) queued ∙ waiting in
    sym (append-nil (sent_for r events)) ∙ ap (λ (ds : List Datagram). sent_for r events ++ ds) (sym none) ∙ ran.replied

sent_alike : (terms terms' : Terms) (r : ℕ) (events events' : List Event) (moments moments' : List ℕ) (a a' : Account) → terms ≡ terms'
    → (ran : RouteRan terms r events moments a) → (ran' : RouteRan terms' r events' moments' a')
    → applied ran.taken ≡ applied ran'.taken
    → HasSentAll r events a → HasSentAll r events' a'
    → sent_for r events ≡ sent_for r events'
sent_alike terms terms' r events events' moments moments' a a' same ran ran' items all all' =
    sent_is_whole terms r events moments a ran all
    ∙ ap (solo terms r) items
    ∙ ap (λ (t : Terms). solo t r (applied ran'.taken)) same
    ∙ sym (sent_is_whole terms' r events' moments' a' ran' all')

pub routes_are_isolated : RoutesAreIsolated
routes_are_isolated terms r events events' moments moments' a a' ran ran' items all all' =
    sent_alike terms terms r events events' moments moments' a a' refl ran ran' items all all'

pub runs_are_isolated : RunsAreIsolated
runs_are_isolated t u run run' r terms a below below' same items all all' =
    sent_alike (slice_index_or t.entries r terms) (slice_index_or u.entries r terms) r t.events u.events t.moments u.moments
    (slice_index_or t.accounts r a) (slice_index_or u.accounts r a) same (run.each r terms a below) (run'.each r terms a below') items all all'

-- marked items are the same if those of each mark are, and the marks
abbrev SameReported : (xs ys : List InboxEntry) → Type 0
SameReported xs ys =
    (earlier : List ReportedInput) → map input_of (polled_of xs) ≡ map input_of (polled_of ys) → ticked_of xs ≡ ticked_of ys → places_of xs ≡ places_of ys
    → reported_before earlier xs ≡ reported_before earlier ys

one_more : (x y : Item) (xs ys : List InboxEntry) (earlier : List ReportedInput) (a b : Bool) → SameReported xs ys
    → map input_of (keep a x (polled_of xs)) ≡ map input_of (keep b y (polled_of ys))
    → skip a x (ticked_of xs) ≡ skip b y (ticked_of ys)
    → a ∷ places_of xs ≡ b ∷ places_of ys
    → reported_before (input_of x ∷ earlier) xs ≡ reported_before (input_of y ∷ earlier) ys
one_more x y xs ys earlier true true more p q m =
    let same : input_of x ≡ input_of y = cc in
    let rest : map input_of (polled_of xs) ≡ map input_of (polled_of ys) = cc in
    let places : places_of xs ≡ places_of ys = cc in
    more (input_of x ∷ earlier) rest q places ∙ ap (λ (i : ReportedInput). reported_before (i ∷ earlier) ys) same
one_more x y xs ys earlier true false more p q m = cc
one_more x y xs ys earlier false true more p q m = cc
one_more x y xs ys earlier false false more p q m =
    let same : x ≡ y = cc in
    let rest : ticked_of xs ≡ ticked_of ys = cc in
    let places : places_of xs ≡ places_of ys = cc in
    more (input_of x ∷ earlier) p rest places ∙ ap (λ (i : Item). reported_before (input_of i ∷ earlier) ys) same

same_reported : (xs ys : List InboxEntry) → SameReported xs ys
same_reported [] [] earlier polled ticked places = refl
same_reported [] (y ∷ ys) earlier polled ticked places = cc
same_reported (x ∷ xs) [] earlier polled ticked places = cc
same_reported (x ∷ xs) (y ∷ ys) earlier polled ticked places =
    one_more x.item y.item xs ys earlier x.polled y.polled (same_reported xs ys) polled ticked places

pub same_items_are_taken : SameItemsAreTaken
same_items_are_taken terms terms' r events events' moments moments' a a' ran ran' same ticks places none none' =
    let left : ran.left ≡ [] = is_empty ran.left (sym ran.left_is ∙ none) in
    let left' : ran'.left ≡ [] = is_empty ran'.left (sym ran'.left_is ∙ none') in
    let all : map input_of (polled_of ran.taken) ≡ accepted r events =
    ap (λ (ms : List InboxEntry). map input_of (polled_of ms)) (sym (append-nil ran.taken) ∙ ap (λ (ms : List InboxEntry). ran.taken ++ ms) (sym left))
    ∙ ran.polled in
    let all' : map input_of (polled_of ran'.taken) ≡ accepted r events' =
    ap (λ (ms : List InboxEntry). map input_of (polled_of ms)) (sym (append-nil ran'.taken) ∙ ap (λ (ms : List InboxEntry). ran'.taken ++ ms) (sym left'))
    ∙ ran'.polled in
    same_reported ran.taken ran'.taken [] (all ∙ same ∙ sym all') ticks places
