use Rattle.std.proofs.Common.{◌≡◌, true, [], ◌∷◌, Some, inl, refl, subst, sym, ap, ◌∙◌, IfOk, option_map, is_some}
use Rattle.srt_watch.specs.Answers.{WasRead}
use Rattle.srt_watch.specs.ChangeLines.{one_refused, no_room_said}
use Rattle.srt_watch.specs.Following.{Changed, IsRequested, IsWanted, IsFound, opens_of}
use Rattle.srt_watch.specs.Log.{Always, Logged}
use Rattle.srt_watch.specs.Openings.{AreOpening}
use Rattle.srt_watch.specs.Outcomes.{IsAnnounced, IsPolled, NoNews, NotTold, Waits, NoMemory, Requested}
use Rattle.srt_watch.specs.Holding.{look_of, waits_for, held_calls, IsHeldConfig}
use Rattle.srt_watch.proofs.HeldChanges.{may_be_taken, polled_so, held_or}
use Rattle.srt_watch.proofs.Logging.{logged_as}
use Rattle.srt_watch.proofs.following.Following.follow.Goals as goal

pub request-requires-clause-read : goal.request-requires-clause-read
request-requires-clause-read g c =
    subst (λ f. WasRead g.F.ConfigFile.facts f c.in-Ok.change.wanted) (sym (c.holds.ensures.in_force ∙ c.poll.ensures.in_force))
    (subst (λ w. WasRead g.F.ConfigFile.facts c.args.self.now.in_force w) (sym c.in-Ok.ensures.wanted)
    (subst (λ r. IfOk r (λ f. WasRead g.F.ConfigFile.facts c.args.self.now.in_force f.wanted)) c.in-Some-Ok.field-0-is c.in-Some-Ok.ensures.wanted))

pub returns-in-Ok-clause-followed : goal.returns-in-Ok-clause-followed
returns-in-Ok-clause-followed g c =
    let same = c.holds.ensures.in_force ∙ c.poll.ensures.in_force in
    let read =
    subst (λ r. IfOk r (λ f. WasRead g.F.ConfigFile.facts c.args.self.now.in_force f.wanted)) c.in-Some-Ok.field-0-is
    c.in-Some-Ok.ensures.wanted in
    let held =
    subst (λ r. IfOk r (λ f. f.was_held ≡ true → IsHeldConfig c.args.self.now.file.polling c.args.when.moment
    (option_map (λ v. v.items) c.args.self.now.file.content) f.wanted.config)) c.in-Some-Ok.field-0-is c.in-Some-Ok.ensures.held in
    Changed c.in-Some-Ok.found.wanted read.is_wanted
    (may_be_taken (look_of c.args.self.now.file.polling c.args.when.moment (option_map (λ v. v.items) c.args.self.now.file.content) c.args.routes.now)
    c.args.self.now.in_force c.in-Some-Ok.found.wanted c.in-Some-Ok.found.was_held held
    (sym (c.holds.ensures.result
    ∙ ap (λ f. is_some (waits_for c.in-Some-Ok.found.was_held c.args.routes.now f c.in-Some-Ok.found.wanted)) c.poll.ensures.in_force)
    ∙ c.if-holds.false))
    (subst (λ f. IsRequested f c.request.new.self.in_force c.in-Some-Ok.found.wanted (g.C.ChangeRoutes.asked c.args.run.now)
    (g.C.ChangeRoutes.asked c.request.new.run)) same
    (subst (λ w. IsRequested c.holds.new.self.in_force c.request.new.self.in_force w (g.C.ChangeRoutes.asked c.args.run.now)
    (g.C.ChangeRoutes.asked c.request.new.run)) c.in-Ok.ensures.wanted c.request.ensures.requested))

pub returns-in-Some-Err-clause-told : goal.returns-in-Some-Err-clause-told
returns-in-Some-Err-clause-told g c =
    let found = c.poll.ensures.found in
    record {
      found = found.file;
      found_is = found.file_is;
      says_is = ap g.F.ConfigFile.says c.poll.ensures.file;
      polling_is = polled_so _ c.args.when.moment _ _ _ c.poll.ensures.polling (inl refl);
      kept_is = found.kept_is;
      told = NotTold c.in-Some-Err.not_taken
          (subst (IsFound c.args.self.now.in_force found.file) (c.in-Some-Err.is ∙ ap Some c.in-Some-Err.field-0-is) found.is_found)
          c.poll.ensures.in_force refl refl c.not_taken.ensures.logged c.not_taken.ensures.counts;
    }

pub returns-in-None-clause-told : goal.returns-in-None-clause-told
returns-in-None-clause-told g c =
    let found = c.poll.ensures.found in
    record {
      found = found.file;
      found_is = found.file_is;
      says_is = ap g.F.ConfigFile.says c.poll.ensures.file;
      polling_is = polled_so _ c.args.when.moment _ _ _ c.poll.ensures.polling (inl refl);
      kept_is = found.kept_is;
      told = NoNews (subst (IsFound c.args.self.now.in_force found.file) c.in-None.is found.is_found) c.poll.ensures.in_force refl refl refl refl refl;
    }

pub returns-then-holds-clause-told : goal.returns-then-holds-clause-told
returns-then-holds-clause-told g c =
    let found = c.poll.ensures.found in
    let file = subst (IsFound c.args.self.now.in_force found.file) (c.in-Some-Ok.is ∙ ap Some c.in-Some-Ok.field-0-is) found.is_found in
    record {
      found = found.file;
      found_is = found.file_is;
      says_is = ap g.F.ConfigFile.says (c.holds.ensures.file.0 ∙ c.poll.ensures.file);
      polling_is = polled_so _ c.args.when.moment _ _ _ c.poll.ensures.polling (held_or _ _ _ _ c.holds.ensures.polling);
      kept_is = ap (option_map (λ v. v.items)) c.holds.ensures.file.1 ∙ found.kept_is;
      told = Waits c.in-Some-Ok.found.wanted c.in-Some-Ok.found.was_held file
          (sym (ap (λ f. is_some (waits_for c.in-Some-Ok.found.was_held c.args.routes.now f c.in-Some-Ok.found.wanted)) c.poll.ensures.in_force)
          ∙ sym c.holds.ensures.result ∙ c.if-holds.true)
          (c.holds.ensures.in_force ∙ c.poll.ensures.in_force) refl refl
          (logged_as _ _ _ _ _ _ (ap (λ f. held_calls c.args.when c.args.routes.now
          (waits_for c.in-Some-Ok.found.was_held c.args.routes.now f c.in-Some-Ok.found.wanted)) c.poll.ensures.in_force)
          c.holds.ensures.logged)
          c.holds.ensures.counts;
    }

pub returns-in-Err-clause-told : goal.returns-in-Err-clause-told
returns-in-Err-clause-told g c =
    let found = c.poll.ensures.found in
    let file = subst (IsFound c.args.self.now.in_force found.file) (c.in-Some-Ok.is ∙ ap Some c.in-Some-Ok.field-0-is) found.is_found in
    let log = c.holds.ensures.other c.if-holds.false in
    record {
      found = found.file;
      found_is = found.file_is;
      says_is = ap g.F.ConfigFile.says (c.holds.ensures.file.0 ∙ c.poll.ensures.file);
      polling_is = polled_so _ c.args.when.moment _ _ _ c.poll.ensures.polling (held_or _ _ _ _ c.holds.ensures.polling);
      kept_is = ap (option_map (λ v. v.items)) c.holds.ensures.file.1 ∙ found.kept_is;
      told = NoMemory c.in-Some-Ok.found.wanted c.in-Err.no_room file c.in-Err.ensures.no_room (c.holds.ensures.in_force ∙ c.poll.ensures.in_force) refl
          c.of.ensures.routes
          (subst (λ l. Logged (g.W.Write.contents l.log.out.out) (g.W.Write.contents c.no_room.new.self.log.out.out) l.log.pace c.no_room.new.self.log.pace
          (Always c.args.when (no_room_said c.in-Err.no_room) ∷ [])) log c.no_room.ensures.logged)
          (c.no_room.ensures.counts ∙ ap (λ l. one_refused l.counts) log);
    }

pub returns-in-Ok-clause-told : goal.returns-in-Ok-clause-told
returns-in-Ok-clause-told g c =
    let found = c.poll.ensures.found in
    let file = subst (IsFound c.args.self.now.in_force found.file) (c.in-Some-Ok.is ∙ ap Some c.in-Some-Ok.field-0-is) found.is_found in
    let same = c.holds.ensures.in_force ∙ c.poll.ensures.in_force in
    let log = c.holds.ensures.other c.if-holds.false in
    record {
      found = found.file;
      found_is = found.file_is;
      says_is = ap g.F.ConfigFile.says (ap (λ f. f.file) c.request.ensures.file ∙ c.holds.ensures.file.0 ∙ c.poll.ensures.file);
      polling_is = polled_so _ c.args.when.moment _ _ _ c.poll.ensures.polling
          (subst (λ p. IsPolled c.args.when.moment c.poll.new.self.file.polling p) (sym (ap (λ f. f.polling) c.request.ensures.file))
          (held_or _ _ _ _ c.holds.ensures.polling));
      kept_is = ap (λ f. option_map (λ v. v.items) f.content) c.request.ensures.file ∙ ap (option_map (λ v. v.items)) c.holds.ensures.file.1
          ∙ found.kept_is;
      told = Requested c.in-Some-Ok.found.wanted c.of.new.routes file c.of.ensures.routes
          (subst (λ l. IsAnnounced c.args.self.now.in_force c.request.new.self.in_force c.in-Some-Ok.found.wanted (g.C.ChangeRoutes.asked c.args.run.now)
          (g.C.ChangeRoutes.asked c.request.new.run) c.args.when c.of.new.routes c.request.new.routes (g.W.Write.contents l.log.out.out)
          (g.W.Write.contents c.request.new.log.log.out.out) l.log.pace c.request.new.log.log.pace l.counts c.request.new.log.counts) log
          (subst (λ f. IsAnnounced f c.request.new.self.in_force c.in-Some-Ok.found.wanted (g.C.ChangeRoutes.asked c.args.run.now)
          (g.C.ChangeRoutes.asked c.request.new.run) c.args.when c.of.new.routes c.request.new.routes (g.W.Write.contents c.holds.new.log.log.out.out)
          (g.W.Write.contents c.request.new.log.log.out.out) c.holds.new.log.log.pace c.request.new.log.log.pace c.holds.new.log.counts
          c.request.new.log.counts) same
          (subst (λ w. IsAnnounced c.holds.new.self.in_force c.request.new.self.in_force w (g.C.ChangeRoutes.asked c.args.run.now)
          (g.C.ChangeRoutes.asked c.request.new.run) c.args.when c.of.new.routes c.request.new.routes (g.W.Write.contents c.holds.new.log.log.out.out)
          (g.W.Write.contents c.request.new.log.log.out.out) c.holds.new.log.log.pace c.request.new.log.log.pace c.holds.new.log.counts
          c.request.new.log.counts) c.in-Ok.ensures.wanted c.request.ensures.announced)));
    }

pub of-requires : goal.of-requires
of-requires g c =
    subst (λ f. IsWanted f c.in-Some-Ok.found.wanted) (sym (c.holds.ensures.in_force ∙ c.poll.ensures.in_force))
    (subst (λ r. IfOk r (λ f. WasRead g.F.ConfigFile.facts c.args.self.now.in_force f.wanted)) c.in-Some-Ok.field-0-is
    c.in-Some-Ok.ensures.wanted).is_wanted

pub request-requires-clause-opening : goal.request-requires-clause-opening
request-requires-clause-opening g c =
    subst (λ w. AreOpening (opens_of w) c.in-Ok.change.room.opening.items) (sym c.in-Ok.ensures.wanted) c.in-Ok.ensures.opening
