-- The counts as sums.
use Rattle.std.proofs.Common.{◌≡◌, ℕ, suc, ◌+◌, ◌*◌, ◌^◌, ◌<◌, ◌≤◌, Bool, true, false, Option, None, Some, List, [], ◌∷◌, length}
use Rattle.std.proofs.Common.{refl, sym, ap, subst, ◌∙◌, arith, add_assoc, add-zero, zero-add, mul-le-mul}
use Rattle.std.proofs.lemmas.Bool.Decides.{nat_tests}
use Rattle.srt_poller.specs.declared.devices.Sent.TheVariants.{Taken, Later, Failed}
use Rattle.srt_supervision.specs.declared.report.Report.{Report}
use Rattle.srt_poller.specs.History.{Event, Begins, Waits, WaitFails, ReadsNothing, ReadFails, Answers, Accepts, Overflows, Refuses, Drops}
use Rattle.srt_poller.specs.History.{Sends, Resends, Kept}
use Rattle.srt_poller.specs.Reports.{one_more, one_more_if, one_if, is_not_allowed, nothing, counted_by, counted, with_kept, plus, part, total}

-- a report of these counts
abbrev report : (read answered accepted full dropped not_allowed memory sent lost faults : ℕ) → Report
report a b c d e f g h i j =
    record { read = a; answered = b; accepted = c; full = d; dropped = e; not_allowed = f; memory = g; sent = h; lost = i; faults = j }

-- two reports with equal counts are equal
same : (a b : Report) → a.read ≡ b.read → a.answered ≡ b.answered → a.accepted ≡ b.accepted → a.full ≡ b.full
    → a.dropped ≡ b.dropped → a.not_allowed ≡ b.not_allowed → a.memory ≡ b.memory → a.sent ≡ b.sent
    → a.lost ≡ b.lost → a.faults ≡ b.faults → a ≡ b
same a b e0 e1 e2 e3 e4 e5 e6 e7 e8 e9 =
    ap (λ (x : ℕ). report x a.answered a.accepted a.full a.dropped a.not_allowed a.memory a.sent a.lost a.faults) e0
    ∙ ap (λ (x : ℕ). report b.read x a.accepted a.full a.dropped a.not_allowed a.memory a.sent a.lost a.faults) e1
    ∙ ap (λ (x : ℕ). report b.read b.answered x a.full a.dropped a.not_allowed a.memory a.sent a.lost a.faults) e2
    ∙ ap (λ (x : ℕ). report b.read b.answered b.accepted x a.dropped a.not_allowed a.memory a.sent a.lost a.faults) e3
    ∙ ap (λ (x : ℕ). report b.read b.answered b.accepted b.full x a.not_allowed a.memory a.sent a.lost a.faults) e4
    ∙ ap (λ (x : ℕ). report b.read b.answered b.accepted b.full b.dropped x a.memory a.sent a.lost a.faults) e5
    ∙ ap (λ (x : ℕ). report b.read b.answered b.accepted b.full b.dropped b.not_allowed x a.sent a.lost a.faults) e6
    ∙ ap (λ (x : ℕ). report b.read b.answered b.accepted b.full b.dropped b.not_allowed b.memory x a.lost a.faults) e7
    ∙ ap (λ (x : ℕ). report b.read b.answered b.accepted b.full b.dropped b.not_allowed b.memory b.sent x a.faults) e8
    ∙ ap (λ (x : ℕ). report b.read b.answered b.accepted b.full b.dropped b.not_allowed b.memory b.sent b.lost x) e9

-- each count is below its limit by at least this much
pub record HasRoom (n : Report) (room : ℕ) : Type 0 where
  pub read : n.read + room < 2 ^ 64
  pub answered : n.answered + room < 2 ^ 64
  pub accepted : n.accepted + room < 2 ^ 64
  pub full : n.full + room < 2 ^ 64
  pub dropped : n.dropped + room < 2 ^ 64
  pub not_allowed : n.not_allowed + room < 2 ^ 64
  pub memory : n.memory + room < 2 ^ 64
  pub sent : n.sent + room < 2 ^ 64
  pub lost : n.lost + room < 2 ^ 64
  pub faults : n.faults + room < 2 ^ 64

-- which counts an event makes greater, by one
pub record Raised : Type 0 where
  pub read : Bool
  pub answered : Bool
  pub accepted : Bool
  pub full : Bool
  pub dropped : Bool
  pub not_allowed : Bool
  pub memory : Bool
  pub sent : Bool
  pub lost : Bool
  pub faults : Bool

abbrev pub none : Raised
none = record {
  read = false;
  answered = false;
  accepted = false;
  full = false;
  dropped = false;
  not_allowed = false;
  memory = false;
  sent = false;
  lost = false;
  faults = false;
}

abbrev pub raised_by : Event → Raised
raised_by (Begins b m os) = none
raised_by Waits = none
raised_by WaitFails = record none { faults = true }
raised_by ReadsNothing = none
raised_by ReadFails = record none { faults = true }
raised_by (Answers a b Taken) = record none { read = true; answered = true; sent = true }
raised_by (Answers a b Later) = record none { read = true; answered = true; lost = true }
raised_by (Answers a b Failed) = record none { read = true; answered = true; lost = true; faults = true }
raised_by (Accepts a r) = record none { read = true; accepted = true }
raised_by (Overflows a r) = record none { read = true; full = true }
raised_by (Refuses a r) = record none { read = true; memory = true }
raised_by (Drops a c) = record none { read = true; dropped = true; not_allowed = is_not_allowed c }
raised_by (Sends r d Taken) = record none { sent = true }
raised_by (Sends r d Later) = none
raised_by (Sends r d Failed) = record none { lost = true; faults = true }
raised_by (Resends r d Taken) = record none { sent = true }
raised_by (Resends r d Later) = none
raised_by (Resends r d Failed) = record none { lost = true; faults = true }

abbrev pub with_raised : Report → Raised → Report
with_raised n b =
    report (one_more_if b.read n.read) (one_more_if b.answered n.answered) (one_more_if b.accepted n.accepted) (one_more_if b.full n.full)
    (one_more_if b.dropped n.dropped) (one_more_if b.not_allowed n.not_allowed) (one_more_if b.memory n.memory)
    (one_more_if b.sent n.sent) (one_more_if b.lost n.lost) (one_more_if b.faults n.faults)

abbrev raised_alone : Raised → Report
raised_alone b =
    report (one_if b.read) (one_if b.answered) (one_if b.accepted) (one_if b.full) (one_if b.dropped) (one_if b.not_allowed)
    (one_if b.memory) (one_if b.sent) (one_if b.lost) (one_if b.faults)

pub counted_is : (n : Report) (event : Event) → counted_by n event ≡ with_raised n (raised_by event)
counted_is n (Begins b m os) = refl
counted_is n Waits = refl
counted_is n WaitFails = refl
counted_is n ReadsNothing = refl
counted_is n ReadFails = refl
counted_is n (Answers a b Taken) = refl
counted_is n (Answers a b Later) = refl
counted_is n (Answers a b Failed) = refl
counted_is n (Accepts a r) = refl
counted_is n (Overflows a r) = refl
counted_is n (Refuses a r) = refl
counted_is n (Drops a c) = refl
counted_is n (Sends r d Taken) = refl
counted_is n (Sends r d Later) = refl
counted_is n (Sends r d Failed) = refl
counted_is n (Resends r d Taken) = refl
counted_is n (Resends r d Later) = refl
counted_is n (Resends r d Failed) = refl

part_is : (event : Event) → part event ≡ raised_alone (raised_by event)
part_is (Begins b m os) = refl
part_is Waits = refl
part_is WaitFails = refl
part_is ReadsNothing = refl
part_is ReadFails = refl
part_is (Answers a b Taken) = refl
part_is (Answers a b Later) = refl
part_is (Answers a b Failed) = refl
part_is (Accepts a r) = refl
part_is (Overflows a r) = refl
part_is (Refuses a r) = refl
part_is (Drops a c) = refl
part_is (Sends r d Taken) = refl
part_is (Sends r d Later) = refl
part_is (Sends r d Failed) = refl
part_is (Resends r d Taken) = refl
part_is (Resends r d Later) = refl
part_is (Resends r d Failed) = refl

one : (n room : ℕ) → n + suc room < 2 ^ 64 → one_more n ≡ n + 1
one n room h = grind (arith, nat_tests)

by_one : (b : Bool) (n room : ℕ) → n + suc room < 2 ^ 64 → one_more_if b n ≡ n + one_if b
by_one true n room h = one n room h
by_one false n room h = sym (add-zero n)

room_left : (b : Bool) (n room : ℕ) → n + suc room < 2 ^ 64 → one_more_if b n + room < 2 ^ 64
room_left true n room h = let e = one n room h in omega arith
room_left false n room h = omega arith

raised_part : (n : Report) (room : ℕ) (b : Raised) → HasRoom n (suc room) → with_raised n b ≡ plus n (raised_alone b)
raised_part n room b h =
    same _ _ (by_one b.read n.read room h.read) (by_one b.answered n.answered room h.answered) (by_one b.accepted n.accepted room h.accepted)
    (by_one b.full n.full room h.full) (by_one b.dropped n.dropped room h.dropped) (by_one b.not_allowed n.not_allowed room h.not_allowed)
    (by_one b.memory n.memory room h.memory) (by_one b.sent n.sent room h.sent) (by_one b.lost n.lost room h.lost)
    (by_one b.faults n.faults room h.faults)

raised_room : (n : Report) (room : ℕ) (b : Raised) → HasRoom n (suc room) → HasRoom (with_raised n b) room
raised_room n room b h =
    record {
      read = room_left b.read n.read room h.read;
      answered = room_left b.answered n.answered room h.answered;
      accepted = room_left b.accepted n.accepted room h.accepted;
      full = room_left b.full n.full room h.full;
      dropped = room_left b.dropped n.dropped room h.dropped;
      not_allowed = room_left b.not_allowed n.not_allowed room h.not_allowed;
      memory = room_left b.memory n.memory room h.memory;
      sent = room_left b.sent n.sent room h.sent;
      lost = room_left b.lost n.lost room h.lost;
      faults = room_left b.faults n.faults room h.faults;
    }

counted_part : (n : Report) (room : ℕ) (event : Event) → HasRoom n (suc room) → counted_by n event ≡ plus n (part event)
counted_part n room event h =
    counted_is n event ∙ raised_part n room (raised_by event) h ∙ ap (λ (m : Report). plus n m) (sym (part_is event))

counted_room : (n : Report) (room : ℕ) (event : Event) → HasRoom n (suc room) → HasRoom (counted_by n event) room
counted_room n room event h =
    subst (λ (m : Report). HasRoom m room) (sym (counted_is n event)) (raised_room n room (raised_by event) h)

plus_assoc : (a b c : Report) → plus (plus a b) c ≡ plus a (plus b c)
plus_assoc a b c =
    same _ _ (add_assoc a.read b.read c.read) (add_assoc a.answered b.answered c.answered) (add_assoc a.accepted b.accepted c.accepted)
    (add_assoc a.full b.full c.full) (add_assoc a.dropped b.dropped c.dropped) (add_assoc a.not_allowed b.not_allowed c.not_allowed)
    (add_assoc a.memory b.memory c.memory) (add_assoc a.sent b.sent c.sent) (add_assoc a.lost b.lost c.lost) (add_assoc a.faults b.faults c.faults)

-- a reply that is kept raises the count of those that are lost
abbrev pub kept_raises : Option Kept → Raised
kept_raises None = none
kept_raises (Some k) = record none { lost = true }

pub kept_is : (n : Report) (k : Option Kept) → with_kept n k ≡ with_raised n (kept_raises k)
kept_is n None = refl
kept_is n (Some k) = refl

kept_part : (k : Option Kept) → total [] k ≡ raised_alone (kept_raises k)
kept_part None = refl
kept_part (Some k) = refl

pub summed : (n : Report) (events : List Event) (k : Option Kept) → HasRoom n (suc (length events)) → with_kept (counted n events) k ≡ plus n (total events k)
summed n [] k h = kept_is n k ∙ raised_part n 0 (kept_raises k) h ∙ ap (λ (m : Report). plus n m) (sym (kept_part k))
summed n (event ∷ events) k h =
    summed (counted_by n event) events k (counted_room n (suc (length events)) event h)
    ∙ ap (λ (m : Report). plus m (total events k)) (counted_part n (suc (length events)) event h)
    ∙ plus_assoc n (part event) (total events k)

few_events : (count rounds routes : ℕ) → rounds ≤ 2 ^ 48 → routes ≤ 511 → count ≤ rounds * (259 + 64 * routes) → count + 2 < 2 ^ 64
few_events count rounds routes small few h =
    let each : 259 + 64 * routes ≤ 32963 = omega arith in
    let all : rounds * (259 + 64 * routes) ≤ 2 ^ 48 * 32963 = mul-le-mul small each in
    omega arith

pub all_summed : (events : List Event) (k : Option Kept) (rounds routes : ℕ)
    → rounds ≤ 2 ^ 48 → length events ≤ rounds * (259 + 64 * routes) → routes ≤ 511 → with_kept (counted nothing events) k ≡ total events k
all_summed events k rounds routes small h few =
    let room : length events + 2 < 2 ^ 64 = few_events (length events) rounds routes small few h in
    let there : 0 + suc (length events) < 2 ^ 64 = omega arith in
    summed nothing events k
    (record {
      read = there;
      answered = there;
      accepted = there;
      full = there;
      dropped = there;
      not_allowed = there;
      memory = there;
      sent = there;
      lost = there;
      faults = there;
    })
    ∙ same _ _ (zero-add _) (zero-add _) (zero-add _) (zero-add _) (zero-add _) (zero-add _) (zero-add _) (zero-add _) (zero-add _) (zero-add _)
