-- Routes come and go at the beginning of a round.
use Rattle.std.proofs.Common.{◌≡◌, ◌≢◌, ◌⊎◌, ◌∙◌, inl, inr, refl, sym, ap, subst, ℕ, suc, ◌<◌, ◌≤◌, Bool, true, false, ◌||◌, Option, List, [], ◌∷◌, ◌++◌}
use Rattle.std.proofs.Common.{length, map, take, drop, append_assoc, append-nil, arith}
use Rattle.std.proofs.Math.Seq.{take-append_seam}
use Rattle.std.specs.List.{fold}
use Rattle.std.proofs.lemmas.Bool.{cases_eq}
use Rattle.std.proofs.lemmas.Grind.{fold-append}
use Rattle.std.proofs.lemmas.List.{map-append, length-append, length-map}
use Rattle.srt_types.specs.declared.shared.Schedule.{Schedule}
use Rattle.srt_lobby.specs.Names.{RouteName, AreDistinct}
use Rattle.srt_lobby.specs.Changing.{AreHidden}
use Rattle.srt_poller.specs.declared.ends.Ends.{Ends}
use Rattle.srt_poller.specs.Devices.{joined}
use Rattle.srt_poller.specs.Schedules.{opened}
use Rattle.srt_poller.specs.Beginnings.{all_shown, Rests, AreClosed}
use Rattle.srt_poller.specs.Beforehand.{AgreeBefore}
use Rattle.srt_poller.specs.Openings.{NewRoute, ReportedRoute, reported_route, names_in, ends_in, RouteReports, route_reports_more}
use Rattle.srt_poller.specs.Plans.{never, texts_of, is_requested, waiting, closed_from, update_at, ArePlans}
use Rattle.srt_poller.specs.Changes.{TookAddedRoutes, Requested, TookClosings, Took, TookChanges, Opens, BeganWith, BeganAfter, Started}
use Rattle.srt_poller.proofs.Joined.{joined_none, joined_twice}
use Rattle.srt_poller.proofs.ShownInRound.{texts_opened, texts_closed, as_many}
use Rattle.srt_poller.specs.Told.{Observer}
use Rattle.srt_poller.proofs.Beginning.{began_closing, began_quietly}
use Rattle.srt_poller.proofs.Replanning.{agree_none, agree_append, agree_then, wait_later, agree_closed, many_updated, requested_more, requested_other}
use Rattle.srt_poller.proofs.Replanning.{or_false, plans_later, plans_appended, plans_closed, settled_closing, settled_resting}

pub hidden_more : (added : List NewRoute) (n : NewRoute) → AreHidden (names_in added) → n.name.is_shown ≡ false → AreHidden (names_in (added ++ n ∷ []))
hidden_more [] n hidden this = (this, tt)
hidden_more (m ∷ added) n hidden this = (hidden.0, hidden_more added n hidden.1 this)

-- one route more
pub added_none : (reported : Option (List ReportedRoute)) (ps : List Schedule) (ns : List RouteName) (es : List Ends) →
    TookAddedRoutes reported reported ps ps ns ns es es
added_none reported ps ns es = (
  [],
  sym (joined_none reported),
  record { planned = sym (append-nil ps); named = sym (append-nil ns); ended = sym (append-nil es); hidden = tt },
)

pub added_more : (reported reported' reported'' : Option (List ReportedRoute)) (ps ps' ps'' : List Schedule) (ns ns' ns'' : List RouteName)
    (es es' es'' : List Ends)
    (n : NewRoute) → n.name.is_shown ≡ false → reported'' ≡ joined reported' (reported_route n ∷ []) → ps'' ≡ ps' ++ waiting ∷ [] →
    ns'' ≡ ns' ++ n.name ∷ [] → es'' ≡ es' ++ n.ends ∷ [] → TookAddedRoutes reported reported' ps ps' ns ns' es es' →
    TookAddedRoutes reported reported'' ps ps'' ns ns'' es es''
added_more reported reported' reported'' ps ps' ps'' ns ns' ns'' es es' es'' n hidden tells p q r took =
    let added = took.0 in
    let h = took.2 in (
      added ++ n ∷ [],
      tells ∙ ap (λ (o : Option (List ReportedRoute)). joined o (reported_route n ∷ [])) took.1
          ∙ joined_twice reported (map reported_route added) (reported_route n ∷ [])
          ∙ ap (joined reported) (sym (map-append reported_route added (n ∷ []))),
      record {
        planned = p ∙ ap (λ (l : List Schedule). l ++ waiting ∷ []) h.planned ∙ append_assoc ps (map (λ m. waiting) added) (waiting ∷ [])
            ∙ ap (λ (l : List Schedule). ps ++ l) (sym (map-append (λ (m : NewRoute). waiting) added (n ∷ [])));
        named = q ∙ ap (λ (l : List RouteName). l ++ n.name ∷ []) h.named ∙ append_assoc ns (names_in added) (n.name ∷ [])
            ∙ ap (λ (l : List RouteName). ns ++ l) (sym (map-append (λ (m : NewRoute). m.name) added (n ∷ [])));
        ended = r ∙ ap (λ (l : List Ends). l ++ n.ends ∷ []) h.ended ∙ append_assoc es (ends_in added) (n.ends ∷ [])
            ∙ ap (λ (l : List Ends). es ++ l) (sym (map-append (λ (m : NewRoute). m.ends) added (n ∷ [])));
        hidden = hidden_more added n h.hidden hidden;
      },
    )

-- one route more that is requested to close
pub requested_none : (round : ℕ) (reported : Option (List ℕ)) (ps : List Schedule) → TookClosings round reported reported ps ps
requested_none round reported ps = ([], sym (joined_none reported), record { planned = refl; known = λ r is. absurd (let bad : ⊥ = cc in bad) })

many_closed : (round : ℕ) (requested : List ℕ) (ps : List Schedule) → length (fold (update_at (closed_from round)) ps requested) ≡ length ps
many_closed round [] ps = refl
many_closed round (r ∷ requested) ps = many_closed round requested (update_at (closed_from round) ps r) ∙ many_updated (closed_from round) ps r

pub requested_one_more : (round : ℕ) (reported reported' reported'' : Option (List ℕ)) (ps ps' ps'' : List Schedule) (r : ℕ) → r < length ps' →
    reported'' ≡ joined reported' (r ∷ []) → ps'' ≡ update_at (closed_from round) ps' r → TookClosings round reported reported' ps ps' →
    TookClosings round reported reported'' ps ps''
requested_one_more round reported reported' reported'' ps ps' ps'' r within tells is took = (
  requested ++ r ∷ [],
  tells ∙ ap (λ (o : Option (List ℕ)). joined o (r ∷ [])) took.1 ∙ joined_twice reported requested (r ∷ []),
  record {
    planned = is ∙ ap (λ (l : List Schedule). update_at (closed_from round) l r) h.planned
        ∙ sym (fold-append (update_at (closed_from round)) ps requested (r ∷ []));
    known = λ i asks. known i asks (cases_eq i r);
  },
)
  where
    requested : List ℕ
    requested = took.0

    h : Requested round requested ps ps'
    h = took.2

    many : length ps' ≡ length ps
    many = ap length h.planned ∙ many_closed round requested ps

    known : (i : ℕ) → is_requested (requested ++ r ∷ []) i ≡ true → (i ≡ r) ⊎ (i ≢ r) → i < length ps
    known i asks (inl same) = omega (arith, same, within, many)
    known i asks (inr apart) =
        h.known i (sym (requested_more requested r i ∙ ap (λ (b : Bool). is_requested requested i || b) (requested_other r i apart)
        ∙ or_false (is_requested requested i)) ∙ asks)

-- what was reported is none
pub nothing_more : (reported : RouteReports) → reported ≡ route_reports_more reported [] []
nothing_more reported = λ i. record { added = sym (joined_none reported.added) i; requested = sym (joined_none reported.requested) i }

pub took_nothing : (round : ℕ) (reported : RouteReports) (ps : List Schedule) (ns : List RouteName) (es : List Ends) → length ps ≡ length ns →
    length es ≡ length ns → TookChanges round reported reported ps ps ns ns es es
took_nothing round reported ps ns es known all_ends = (
  [],
  [],
  nothing_more reported,
  record {
    agree = agree_none round ps;
    named = sym (append-nil ns);
    ended = sym (append-nil es);
    planned = λ starts schedules requested timely h.
        subst (λ (l : List ℕ). ArePlans (suc round) (λ r. Unit {0}) starts schedules (texts_of ns) l ps) (sym (append-nil requested))
        (plans_later round starts schedules (texts_of ns) requested ps h);
    known = known;
    all_ends = all_ends;
  },
)

pub took_changes : (round : ℕ) (reported reported' : RouteReports) (ps middle ps' : List Schedule) (ns ns' : List RouteName) (es es' : List Ends) →
    length ps ≡ length ns → length es ≡ length ns → round ≤ never →
    TookAddedRoutes reported.added reported'.added ps middle ns ns' es es' → TookClosings round reported.requested reported'.requested middle ps' →
    TookChanges round reported reported' ps ps' ns ns' es es'
took_changes round reported reported' ps middle ps' ns ns' es es' known all_ends small coming closing =
    let added = coming.0 in
    let h = coming.2 in
    let g = closing.2 in
    let ws = map (λ n. waiting) added in
    let texts : texts_of ns' ≡ texts_of ns ++ texts_of (names_in added) =
    ap texts_of h.named ∙ map-append (λ (n : RouteName). n.text) ns (names_in added) in
    let many : length (texts_of (names_in added)) ≡ length added =
    length-map (names_in added) (λ (n : RouteName). n.text) ∙ length-map added (λ (n : NewRoute). n.name) in (
      added,
      closing.0,
      (λ i. record { added = coming.1 i; requested = closing.1 i }),
      record {
        agree = subst (λ (l : List RouteName). AgreeBefore round ps ps' l) (append-nil (names_in added))
            (agree_then round ps middle ps' (names_in added) []
            (subst (λ (l : List Schedule). AgreeBefore round ps l (names_in added)) (sym h.planned)
            (agree_append round ps ws (names_in added) (wait_later round small added h.hidden)))
            (subst (λ (l : List Schedule). AgreeBefore round middle l []) (sym g.planned) (agree_closed round small closing.0 middle)));
        named = h.named;
        ended = h.ended;
        planned = λ starts schedules requested timely plans.
            let come = subst (λ (l : List Schedule). ArePlans (suc round) (λ r. Unit {0}) starts schedules (texts_of ns ++ texts_of (names_in added))
            requested l)
            (sym h.planned)
            (plans_appended round starts schedules (texts_of ns) (texts_of (names_in added)) requested ps added small many plans) in
            let close = plans_closed round (λ r. Unit {0}) starts schedules (texts_of ns ++ texts_of (names_in added)) small timely
            closing.0 requested middle g.known come in
            rw (texts, g.planned) close;
        known = omega (
          arith,
          known,
          ap length h.named,
          length-append ns (names_in added),
          length-map added (λ (n : NewRoute). n.name),
          ap length g.planned,
          many_closed round closing.0 middle,
          ap length h.planned,
          length-append ps ws,
          length-map added (λ (n : NewRoute). waiting),
        );
        all_ends = omega (
          arith,
          all_ends,
          ap length h.named,
          length-append ns (names_in added),
          length-map added (λ (n : NewRoute). n.name),
          ap length h.ended,
          length-append es (ends_in added),
          length-map added (λ (n : NewRoute). n.ends),
        );
      },
    )

-- the round begins
module _ (observer : Observer) (round latest : ℕ) (added : List NewRoute) (requested : List ℕ) (ps ps' : List Schedule) (ns ns' : List RouteName)
    (es es' : List Ends) (took : Took round added requested ps ps' ns ns' es es') where
  pub began_to_close : (new : List RouteName) (after : List Ends) → AreClosed true latest round ps' ns' new es' after →
      BeganWith observer true round latest added requested ps ps' ns new es after
  began_to_close new after closing = record {
    agree = took.agree;
    began = rw (sym took.named, sym took.ended) (began_closing observer true round latest ps' ns' ns' new es' after refl closing);
    texts = ap all_shown closing.1.names ∙ texts_closed closing.0 ns' ∙ ap all_shown took.named;
    planned = λ starts schedules before timely plans.
        rw (sym took.named) (settled_closing round ns' (texts_of ns') ps' starts schedules (before ++ requested) timely
        (took.planned starts schedules before timely plans));
    known = took.known ∙ sym (as_many new ns' (ap all_shown closing.1.names ∙ texts_closed closing.0 ns'));
    all_ends = closing.1.ends.as_many ∙ took.all_ends ∙ sym (as_many new ns' (ap all_shown closing.1.names ∙ texts_closed closing.0 ns'));
  }

  pub began_as_before : AreDistinct ns' → Rests round ps' ns' → BeganWith observer false round latest added requested ps ps' ns ns' es es'
  began_as_before distinct rests = record {
    agree = took.agree;
    began = rw (sym took.named, sym took.ended) (began_quietly observer round latest ps' ns' es' distinct rests);
    texts = ap all_shown took.named;
    planned = λ starts schedules before timely plans.
        rw (sym took.named) (settled_resting round (opened round ps' ns') (texts_of ns') ps' rests.2 starts schedules (before ++ requested) timely
        (took.planned starts schedules before timely plans));
    known = took.known;
    all_ends = took.all_ends;
  }

  pub began_to_open : (ps'' : List Schedule) (middle new : List RouteName) (after : List Ends) → Opens round ps' ps'' ns' middle →
      AreClosed false latest round ps'' middle new es' after → BeganWith observer false round latest added requested ps ps'' ns new es after
  began_to_open ps'' middle new after opens closing =
      let shown : all_shown new ≡ all_shown ns' =
      ap all_shown closing.1.names ∙ texts_closed closing.0 middle ∙ ap all_shown opens.named ∙ texts_opened round ps'' ns' in record {
        agree = subst (λ (l : List RouteName). AgreeBefore round ps ps'' l) (append-nil (names_in added))
            (agree_then round ps ps' ps'' (names_in added) [] took.agree opens.agree);
        began = rw (sym took.named, sym took.ended) (began_closing observer false round latest ps'' ns' middle new es' after opens.named closing);
        texts = shown ∙ ap all_shown took.named;
        planned = λ starts schedules before timely plans.
            rw (sym took.named, sym opens.named) (opens.planned starts schedules (before ++ requested) timely
            (took.planned starts schedules before timely plans));
        known = opens.as_many ∙ took.known ∙ sym (as_many new ns' shown);
        all_ends = closing.1.ends.as_many ∙ took.all_ends ∙ sym (as_many new ns' shown);
      }

-- what was lent is put back whole
pub put_whole : {A : Type 0} (was lent new : List A) (len : ℕ) → lent ≡ was → length lent ≡ len → length new ≡ length lent →
    take len (new ++ drop (length new) was) ≡ new
put_whole was lent new len same many as_many =
    ap (λ n. take n (new ++ drop (length new) was)) (sym (as_many ∙ many)) ∙ take-append_seam new (drop (length new) was)

pub opens_known : {round : ℕ} {ps ps' : List Schedule} {ns ns' : List RouteName} → length ps ≡ length ns → Opens round ps ps' ns ns' → length ns' ≡ length ns
opens_known {round} {ps} {ps'} {ns} {ns'} known h = as_many ns' ns (ap all_shown h.named ∙ texts_opened round ps' ns)

-- a round starts, after its changes: the routes stay as many
pub started_texts : (closes_all : Bool) (round due latest : ℕ) (ps ps' : List Schedule) (ns ns' : List RouteName) (es es' : List Ends) →
    Started closes_all round due latest ps ps' ns ns' es es' → all_shown ns' ≡ all_shown ns
started_texts closes_all round due latest ps ps' ns ns' es es' (inl h) = ap all_shown h.2.1.names ∙ texts_closed h.2.0 ns
started_texts closes_all round due latest ps ps' ns ns' es es' (inr h) = by h.1
  where
    by : ((round < due) × (ps' ≡ ps) × (ns' ≡ ns) × (es' ≡ es) × AreDistinct ns)
        ⊎ ((shown : List RouteName) × Opens round ps ps' ns shown × AreClosed false latest round ps' shown ns' es es') → all_shown ns' ≡ all_shown ns
    by (inl q) = ap all_shown q.2
    by (inr q) =
        ap all_shown q.2.1.names ∙ texts_closed q.2.0 q.0 ∙ ap all_shown q.1.named ∙ texts_opened round ps' ns

-- a round began, its changes included
pub began_after : (observer : Observer) (closes_all : Bool) (round due latest : ℕ) (reported reported' : RouteReports) (ps ps' ps'' : List Schedule)
    (ns ns' ns'' : List RouteName) (es es' es'' : List Ends) → TookChanges round reported reported' ps ps' ns ns' es es' →
    (round < due → Rests round ps' ns') → Started closes_all round due latest ps' ps'' ns' ns'' es' es'' →
    BeganAfter observer closes_all round latest reported reported' ps ps'' ns ns'' es es''
began_after observer closes_all round due latest reported reported' ps ps' ps'' ns ns' ns'' es es' es'' took rests started =
    (took.0, took.1, took.2, by started)
  where
    later : closes_all ≡ false → ((round < due) × (ps'' ≡ ps') × (ns'' ≡ ns') × (es'' ≡ es') × AreDistinct ns')
        ⊎ ((shown : List RouteName) × Opens round ps' ps'' ns' shown × AreClosed false latest round ps'' shown ns'' es' es'') →
        BeganWith observer closes_all round latest took.0 took.1 ps ps'' ns ns'' es es''
    later is (inl q) =
        rw (is, q.1, q.2, q.3) (began_as_before observer round latest took.0 took.1 ps ps' ns ns' es es' took.3 q.4 (rests q.0))
    later is (inr q) = rw is (began_to_open observer round latest took.0 took.1 ps ps' ns ns' es es' took.3 ps'' q.0 ns'' es'' q.1 q.2)

    by : Started closes_all round due latest ps' ps'' ns' ns'' es' es'' → BeganWith observer closes_all round latest took.0 took.1 ps ps'' ns ns'' es es''
    by (inl h) = rw (h.0, h.1) (began_to_close observer round latest took.0 took.1 ps ps' ns ns' es es' took.3 ns'' es'' h.2)
    by (inr h) = later h.0 h.1
