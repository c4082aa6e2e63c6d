use Rattle.std.proofs.Common.{◌≡◌, false, true, refl, sym, ap, ◌∙◌, arith}
use Rattle.srt_route.specs.RouteKeys.{has_secured_role}
use Rattle.srt_route.specs.ShownKeys.{key_bytes}
use Rattle.srt_route.specs.SlotKeys.{place_keys_of}
use Rattle.srt_route.proofs.route_keys.RouteKeys.key_length.Goals as goal

pub returns-then-not-has_secured_role : goal.returns-then-not-has_secured_role
returns-then-not-has_secured_role c e keys are below =
    let none : has_secured_role e ≡ false = sym (c.has_secured_role.ensures e keys are) ∙ c.if-not-has_secured_role.true in
    rw none refl

pub returns-then-slot-len : goal.returns-then-slot-len
returns-then-slot-len c e keys are below =
    let has : has_secured_role e ≡ true = sym (c.has_secured_role.ensures e keys are) ∙ c.if-not-has_secured_role.false in
    absurd (omega (arith, c.if-slot-len.true, c.len.ensures, are.places_are has, below))

pub returns : goal.returns
returns c e keys are below =
    let has : has_secured_role e ≡ true = sym (c.has_secured_role.ensures e keys are) ∙ c.if-not-has_secured_role.false in
    rw has (c.key_length.ensures ∙ ap key_bytes (ap place_keys_of c.index.ensures ∙ are.held_are has c.args.slot c.index.result.now below))
