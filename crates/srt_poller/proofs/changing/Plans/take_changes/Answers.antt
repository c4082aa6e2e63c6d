use Rattle.std.proofs.Common.{◌≡◌, ◌∙◌, ◌⊎◌, inl, inr, refl, sym, ap, subst, Option, List, ℕ, ◌+◌, ◌≤◌, Bool, true, [], ◌∷◌, length, map, arith}
use Rattle.std.proofs.lemmas.List.{length-append, length-map}
use Rattle.srt_lobby.specs.Names.{names_of}
use Rattle.srt_poller.specs.Devices.{joined}
use Rattle.srt_poller.specs.Openings.{NewRoute, ReportedRoute, reported_route, names_in, route_reports}
use Rattle.srt_poller.specs.Plans.{waiting}
use Rattle.srt_poller.specs.Changes.{plans_in, TookAddedRoutes, TookClosings}
use Rattle.srt_poller.specs.Takings.{recorded}
use Rattle.srt_poller.proofs.Additions.{took_nothing, took_changes}
use Rattle.srt_poller.proofs.Takings.{took_all_quietly, took_all_of, recorded_quietly, recorded_changes}
use Rattle.srt_poller.proofs.changing.Plans.take_changes.Goals as goal

pub returns-then-not-has_changes-clause-took : goal.returns-then-not-has_changes-clause-took
returns-then-not-has_changes-clause-took g c =
    rw (c.has_changes.ensures.added, c.has_changes.ensures.requested) (took_nothing c.args.round
    (route_reports (g.O.Openings.added c.args.openings.now) (g.O.Openings.requested c.args.openings.now))
    (plans_in c.args.self.now) (names_of c.args.names.now) c.args.ends.now.items c.requires.known c.requires.ends)

pub returns-clause-took : goal.returns-clause-took
returns-clause-took g c =
    let added = g.O.Openings.added in
    let requested = g.O.Openings.requested in
    let old = c.args.openings.now in
    let new = c.take_closings.new.openings in
    took_changes c.args.round (route_reports (added old) (requested old)) (route_reports (added new) (requested new)) (plans_in c.args.self.now)
    (plans_in c.take_newcomers.new.self) (plans_in c.take_closings.new.self) (names_of c.args.names.now) (names_of c.take_newcomers.new.names)
    c.args.ends.now.items c.take_newcomers.new.ends.items c.requires.known c.requires.ends (omega (arith, c.ranges.round.fits))
    (subst (λ (o : Option (List ReportedRoute)). TookAddedRoutes (added old) o (plans_in c.args.self.now) (plans_in c.take_newcomers.new.self)
    (names_of c.args.names.now) (names_of c.take_newcomers.new.names) c.args.ends.now.items c.take_newcomers.new.ends.items)
    (sym c.take_closings.ensures.added) (rw c.has_changes.ensures.added at c.take_newcomers.ensures.added))
    (subst (λ (o : Option (List ℕ)). TookClosings c.args.round o (requested new) (plans_in c.take_newcomers.new.self) (plans_in c.take_closings.new.self))
    (c.take_newcomers.ensures.requested ∙ c.has_changes.ensures.requested) c.take_closings.ensures.requested)

pub returns-then-not-has_changes-clause-taken : goal.returns-then-not-has_changes-clause-taken
returns-then-not-has_changes-clause-taken g c =
    let old = c.args.openings.now in
    let new = c.has_changes.new.self in
    took_all_quietly _ (length (names_of c.args.names.now)) _ _
    (recorded_quietly (g.O.Openings.answers old) (g.O.Openings.answers new) (g.O.Openings.added old) (g.O.Openings.added new)
    (g.O.Openings.requested old) (g.O.Openings.requested new)
    (c.has_changes.ensures.answered ∙ ap (λ (b : Bool). joined (g.O.Openings.answers old) (b ∷ [])) c.if-not-has_changes.true)
    c.has_changes.ensures.added c.has_changes.ensures.requested)
    (new, refl, c.has_changes.ensures.unchanged c.if-not-has_changes.true)

pub returns-clause-taken : goal.returns-clause-taken
returns-clause-taken g c =
    let old = c.args.openings.now in
    let new = c.take_closings.new.openings in
    let came = c.take_newcomers.ensures.added in
    let names = names_of c.args.names.now in
    let many : length (names_of c.take_newcomers.new.names) ≡ length names + length came.0 =
    ap length came.2.named ∙ length-append names (names_in came.0)
    ∙ ap (λ (n : ℕ). length names + n) (length-map came.0 (λ (n : NewRoute). n.name)) in
    let answered : g.O.Openings.answers new ≡ joined (g.O.Openings.answers old) (true ∷ []) =
    c.take_closings.ensures.answered ∙ c.take_newcomers.ensures.answered ∙ c.has_changes.ensures.answered
    ∙ ap (λ (b : Bool). joined (g.O.Openings.answers old) (b ∷ [])) c.if-not-has_changes.false in
    let added : g.O.Openings.added new ≡ joined (g.O.Openings.added old) (map reported_route came.0) =
    c.take_closings.ensures.added ∙ came.1
    ∙ ap (λ (o : Option (List ReportedRoute)). joined o (map reported_route came.0)) c.has_changes.ensures.added in
    let before : g.O.Openings.requested c.take_newcomers.new.openings ≡ g.O.Openings.requested old =
    c.take_newcomers.ensures.requested ∙ c.has_changes.ensures.requested in
    let records = λ (requested : List ℕ) (is : g.O.Openings.requested new ≡ joined (g.O.Openings.requested c.take_newcomers.new.openings) requested).
    recorded_changes (g.O.Openings.answers old) (g.O.Openings.answers new) (g.O.Openings.added old) (g.O.Openings.added new)
    (g.O.Openings.requested old) (g.O.Openings.requested new) came.0 requested answered added
    (is ∙ ap (λ (o : Option (List ℕ)). joined o requested) before) in
    let none : g.O.Openings.no_more new ⊎ (511 ≤ length (names_of c.take_newcomers.new.names)) =
    elim c.take_newcomers.ensures.all [ inl none ↦ inl (c.take_closings.ensures.no_more none) | inr full ↦ inr full ] in
    let closings = c.take_closings.ensures.requested in
    let routes : length (plans_in c.take_newcomers.new.self) ≡ length (names_of c.take_newcomers.new.names) =
    omega (
      arith,
      ap length came.2.planned,
      length-append (plans_in c.args.self.now) (map (λ (n : NewRoute). waiting) came.0),
      length-map came.0 (λ (n : NewRoute). waiting),
      many,
      c.requires.known,
    ) in
    took_all_of new g.O.Openings.unchanged g.O.Openings.no_more g.O.Openings.none_to_close
    (λ o. recorded (g.O.Openings.answers o) (route_reports (g.O.Openings.added o) (g.O.Openings.requested o)))
    (length names) (length (names_of c.take_newcomers.new.names))
    (recorded (g.O.Openings.answers old) (route_reports (g.O.Openings.added old) (g.O.Openings.requested old))) came.0 many none
    (elim c.take_closings.ensures.all [
      | inl h ↦ inl (subst (λ (n : ℕ). g.O.Openings.none_to_close new n) routes h, closings.0, records closings.0 closings.1)
      | inr h ↦ inr (h.0, records h.0 h.1, h.2)
    ])
