use Rattle.std.proofs.Common.{◌≡◌, ℕ, Bool, true, false, ◌&&◌, ap, sym, ◌∙◌, refl}
use Rattle.std.proofs.lemmas.Bool.{eq-eqb, ne_eqb}
use Rattle.srt_pub.specs.Publishing.{is_full_due}
use Rattle.srt_pub.proofs.Counting.{full_window}
use Rattle.srt_pub.proofs.log.Log.is_window_full.Goals as goal

none : (b : Bool) → false ≡ (b && false)
none true = refl
none false = refl

all : (b : Bool) → b ≡ (b && true)
all true = refl
all false = refl

pub returns-then-available-ne0 : goal.returns-then-available-ne0
returns-then-available-ne0 c terms front a seen notes is h =
    let due = is_full_due terms.width a c.args.available c.args.time notes in
    full_window terms a c.args.available c.args.time notes false
    (none due ∙ sym (ap (λ (b : Bool). due && b) (ne_eqb c.args.available 0 c.if-available-ne0.true)))

pub returns : goal.returns
returns c terms front a seen notes is h =
    let due = is_full_due terms.width a c.args.available c.args.time notes in
    let says = c.is_full_due.ensures terms.width front a notes h.acks ∙ sym (ap (λ (x : ℕ). is_full_due terms.width a x c.args.time notes) is) in
    full_window terms a c.args.available c.args.time notes c.is_full_due.result
    (says ∙ all due ∙ sym (ap (λ (b : Bool). due && b) (eq-eqb c.args.available 0 c.if-available-ne0.false)))
