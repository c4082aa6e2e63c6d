use Rattle.std.proofs.Common.{◌≡◌, true, false, List, [], ◌∷◌, length, map, refl, ap, sym, subst, ◌∙◌}
use Rattle.srt_pub.specs.Publishing.{Report, noted, is_full_due, is_light_due, rating, received_at}
use Rattle.srt_pub.specs.Says.{says}
use Rattle.srt_pub.specs.Kept.{AcksStandFor}
use Rattle.srt_pub.proofs.Fulls.{acks_by}
use Rattle.srt_pub.proofs.acknowledgements.Acks.report.Goals as goal

pub returns-then-is_full_due-clause-stands : goal.returns-then-is_full_due-clause-stands
returns-then-is_full_due-clause-stands c terms front a notes t rates is h =
    let reported = c.rates.ensures (rating terms.mode terms.callers) (received_at notes) rates in
    let f : is_full_due terms.width a c.args.state.available c.args.time notes ≡ true =
    ap (λ x. is_full_due terms.width a x c.args.time notes) is ∙ sym (c.is_full_due.ensures terms.width front a notes h) ∙ c.if-is_full_due.true in
    let P : List Report → Type 0 = λ rs. AcksStandFor terms.width front a c.full.new.self (noted c.args.time rs notes) in
    subst P (sym (acks_by terms a c.args.state.available c.args.time notes true _ f refl)) (c.full.ensures.stands terms front a notes t reported is h)

pub returns-then-is_full_due-clause-bytes : goal.returns-then-is_full_due-clause-bytes
returns-then-is_full_due-clause-bytes c terms front a initial caller notes t rates is p h =
    let reported = c.rates.ensures (rating terms.mode terms.callers) (received_at notes) rates in
    let f : is_full_due terms.width a c.args.state.available c.args.time notes ≡ true =
    ap (λ x. is_full_due terms.width a x c.args.time notes) is ∙ sym (c.is_full_due.ensures terms.width front a notes h) ∙ c.if-is_full_due.true in
    ap (λ x. x ∷ []) (c.full.ensures.bytes terms front a initial caller notes t reported p h)
    ∙ sym (ap (map (says caller initial c.args.time)) (acks_by terms a c.args.state.available c.args.time notes true _ f refl))

pub returns-then-is_light_due-clause-stands : goal.returns-then-is_light_due-clause-stands
returns-then-is_light_due-clause-stands c terms front a notes t rates is h =
    let f : is_full_due terms.width a c.args.state.available c.args.time notes ≡ false =
    ap (λ x. is_full_due terms.width a x c.args.time notes) is ∙ sym (c.is_full_due.ensures terms.width front a notes h) ∙ c.if-is_full_due.false in
    let l : is_light_due notes ≡ true = sym (c.is_light_due.ensures terms.width front a notes h) ∙ c.if-is_light_due.true in
    let P : List Report → Type 0 = λ rs. AcksStandFor terms.width front a c.light.new.self (noted c.args.time rs notes) in
    subst P (sym (acks_by terms a c.args.state.available c.args.time notes false true f l)) (c.light.ensures.stands terms.width front a notes h)

pub returns-then-is_light_due-clause-bytes : goal.returns-then-is_light_due-clause-bytes
returns-then-is_light_due-clause-bytes c terms front a initial caller notes t rates is p h =
    let f : is_full_due terms.width a c.args.state.available c.args.time notes ≡ false =
    ap (λ x. is_full_due terms.width a x c.args.time notes) is ∙ sym (c.is_full_due.ensures terms.width front a notes h) ∙ c.if-is_full_due.false in
    let l : is_light_due notes ≡ true = sym (c.is_light_due.ensures terms.width front a notes h) ∙ c.if-is_light_due.true in
    ap (λ x. x ∷ []) (c.light.ensures.bytes a initial caller p)
    ∙ sym (ap (map (says caller initial c.args.time)) (acks_by terms a c.args.state.available c.args.time notes false true f l))

pub returns-clause-stands : goal.returns-clause-stands
returns-clause-stands c terms front a notes t rates is h =
    let f : is_full_due terms.width a c.args.state.available c.args.time notes ≡ false =
    ap (λ x. is_full_due terms.width a x c.args.time notes) is ∙ sym (c.is_full_due.ensures terms.width front a notes h) ∙ c.if-is_full_due.false in
    let l : is_light_due notes ≡ false = sym (c.is_light_due.ensures terms.width front a notes h) ∙ c.if-is_light_due.false in
    let P : List Report → Type 0 = λ rs. AcksStandFor terms.width front a c.args.self.now (noted c.args.time rs notes) in
    subst P (sym (acks_by terms a c.args.state.available c.args.time notes false false f l)) h

pub returns-clause-bytes : goal.returns-clause-bytes
returns-clause-bytes c terms front a initial caller notes t rates is p h =
    let f : is_full_due terms.width a c.args.state.available c.args.time notes ≡ false =
    ap (λ x. is_full_due terms.width a x c.args.time notes) is ∙ sym (c.is_full_due.ensures terms.width front a notes h) ∙ c.if-is_full_due.false in
    let l : is_light_due notes ≡ false = sym (c.is_light_due.ensures terms.width front a notes h) ∙ c.if-is_light_due.false in
    sym (ap (map (says caller initial c.args.time)) (acks_by terms a c.args.state.available c.args.time notes false false f l))

pub returns-then-is_full_due-clause-count : goal.returns-then-is_full_due-clause-count
returns-then-is_full_due-clause-count c terms front a notes is h =
    let f : is_full_due terms.width a c.args.state.available c.args.time notes ≡ true =
    ap (λ x. is_full_due terms.width a x c.args.time notes) is ∙ sym (c.is_full_due.ensures terms.width front a notes h) ∙ c.if-is_full_due.true in
    sym (ap length (acks_by terms a c.args.state.available c.args.time notes true _ f refl))

pub returns-then-is_light_due-clause-count : goal.returns-then-is_light_due-clause-count
returns-then-is_light_due-clause-count c terms front a notes is h =
    let f : is_full_due terms.width a c.args.state.available c.args.time notes ≡ false =
    ap (λ x. is_full_due terms.width a x c.args.time notes) is ∙ sym (c.is_full_due.ensures terms.width front a notes h) ∙ c.if-is_full_due.false in
    let l : is_light_due notes ≡ true = sym (c.is_light_due.ensures terms.width front a notes h) ∙ c.if-is_light_due.true in
    sym (ap length (acks_by terms a c.args.state.available c.args.time notes false true f l))

pub returns-clause-count : goal.returns-clause-count
returns-clause-count c terms front a notes is h =
    let f : is_full_due terms.width a c.args.state.available c.args.time notes ≡ false =
    ap (λ x. is_full_due terms.width a x c.args.time notes) is ∙ sym (c.is_full_due.ensures terms.width front a notes h) ∙ c.if-is_full_due.false in
    let l : is_light_due notes ≡ false = sym (c.is_light_due.ensures terms.width front a notes h) ∙ c.if-is_light_due.false in
    sym (ap length (acks_by terms a c.args.state.available c.args.time notes false false f l))
