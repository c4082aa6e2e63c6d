-- Warnings that many routes have in common (our choice): of each risk the first three are told, and the number of the others.
use Rattle.std.specs.Prelude.{ℕ, ◌-◌, ◌==◌, nat_lt, Bool, true, false, codes, List, [], ◌∷◌, ◌++◌, Option, None, Some}
use Rattle.std.specs.List.{flat_map, count_by}
use Rattle.srt_types.specs.declared.shared.Role.TheVariants.{Publish, Request}
use Rattle.srt_explain.specs.declared.grouping.RouteRisk.{RouteRisk}
use Rattle.srt_explain.specs.declared.grouping.RouteRisk.TheVariants as risks
use Rattle.srt_explain.specs.declared.warnings.Warning.{Warning}
use Rattle.srt_explain.specs.declared.warnings.Warning.TheVariants as warnings
use Rattle.srt_explain.specs.Warnings.{given}

-- each risk has a number of its own
abbrev pub risk_number : RouteRisk → ℕ
risk_number risks.SmallOutbox = 0
risk_number risks.SmallWindow = 1
risk_number risks.OneSession = 2
risk_number risks.OpenPublishKey = 3
risk_number risks.OpenRequestKey = 4
risk_number risks.ShortPublishPassphrase = 5
risk_number risks.ShortRequestPassphrase = 6
risk_number risks.SharedPassphrase = 7
risk_number risks.ClearPlayers = 8
risk_number risks.UnusedTakeover = 9
risk_number risks.UnusedAddressLimit = 10
risk_number risks.OneUnreserved = 11
risk_number risks.NoCallers = 12
risk_number risks.NoReserved = 13
risk_number risks.NoTakeover = 14
risk_number risks.NoResendLimit = 15

-- the key that it is about
abbrev pub risk_key : RouteRisk → List ℕ
risk_key risks.SmallOutbox = codes "outbox"
risk_key risks.SmallWindow = codes "buffer"
risk_key risks.OneSession = codes "sessions"
risk_key risks.OpenPublishKey = codes "publish_key"
risk_key risks.OpenRequestKey = codes "request_key"
risk_key risks.ShortPublishPassphrase = codes "publish_passphrase"
risk_key risks.ShortRequestPassphrase = codes "request_passphrase"
risk_key risks.SharedPassphrase = codes "request_passphrase"
risk_key risks.ClearPlayers = codes "publish_passphrase"
risk_key risks.UnusedTakeover = codes "takeover_ms"
risk_key risks.UnusedAddressLimit = codes "sessions_per_address"
risk_key risks.OneUnreserved = codes "reserved"
risk_key risks.NoCallers = codes "callers"
risk_key risks.NoReserved = codes "reserved"
risk_key risks.NoTakeover = codes "takeover_ms"
risk_key risks.NoResendLimit = codes "resend_percent"

-- what a warning tells of a route
abbrev pub risk_of : Warning → Option RouteRisk
risk_of warnings.ExampleSecret = None
risk_of (warnings.ExposedStatus address) = None
risk_of warnings.PublicFile = None
risk_of (warnings.MoreRoutes risk count) = None
risk_of (warnings.SmallOutbox route outbox replies) = Some risks.SmallOutbox
risk_of (warnings.SmallWindow route buffer packets millis) = Some risks.SmallWindow
risk_of (warnings.OneSession route) = Some risks.OneSession
risk_of (warnings.OpenKey route Publish) = Some risks.OpenPublishKey
risk_of (warnings.OpenKey route Request) = Some risks.OpenRequestKey
risk_of (warnings.ShortPassphrase route Publish) = Some risks.ShortPublishPassphrase
risk_of (warnings.ShortPassphrase route Request) = Some risks.ShortRequestPassphrase
risk_of (warnings.SharedPassphrase route) = Some risks.SharedPassphrase
risk_of (warnings.ClearPlayers route) = Some risks.ClearPlayers
risk_of (warnings.UnusedTakeover route) = Some risks.UnusedTakeover
risk_of (warnings.UnusedAddressLimit route limit sessions) = Some risks.UnusedAddressLimit
risk_of (warnings.OneUnreserved route reserved sessions) = Some risks.OneUnreserved
risk_of (warnings.NoCallers route) = Some risks.NoCallers
risk_of (warnings.NoReserved route slots) = Some risks.NoReserved
risk_of (warnings.NoTakeover route) = Some risks.NoTakeover
risk_of (warnings.NoResendLimit route) = Some risks.NoResendLimit

abbrev pub same_risk : RouteRisk → Option RouteRisk → Bool
same_risk risk None = false
same_risk risk (Some other) = risk_number other == risk_number risk

abbrev pub has_risk : RouteRisk → Warning → Bool
has_risk risk warning = same_risk risk (risk_of warning)

abbrev pub count_of : List Warning → RouteRisk → ℕ
count_of list risk = count_by (has_risk risk) list

-- a warning is told in full if it is about no route, or if fewer than three of those before it tell of its risk
abbrev pub told_by : (before : List Warning) → Option RouteRisk → Bool
told_by before None = true
told_by before (Some risk) = nat_lt (count_of before risk) 3

abbrev pub is_told : (before : List Warning) → Warning → Bool
is_told before warning = told_by before (risk_of warning)

abbrev pub first_ones : (before : List Warning) → List Warning → List Warning
first_ones before [] = []
first_ones before (w ∷ rest) = given (is_told before w) w ++ first_ones (before ++ w ∷ []) rest

-- how many of this risk aren't told in full
abbrev pub more_of : List Warning → RouteRisk → List Warning
more_of list risk = given (nat_lt 3 (count_of list risk)) (warnings.MoreRoutes risk (count_of list risk - 3))

abbrev pub all_risks : List RouteRisk
all_risks =
    risks.SmallOutbox ∷ risks.SmallWindow ∷ risks.OneSession ∷ risks.OpenPublishKey ∷ risks.OpenRequestKey ∷
    risks.ShortPublishPassphrase ∷ risks.ShortRequestPassphrase ∷ risks.SharedPassphrase ∷ risks.ClearPlayers ∷
    risks.UnusedTakeover ∷ risks.UnusedAddressLimit ∷ risks.OneUnreserved ∷ risks.NoCallers ∷ risks.NoReserved ∷
    risks.NoTakeover ∷ risks.NoResendLimit ∷ []

-- of each risk the first three, and then the numbers of the others
abbrev pub grouped : List Warning → List Warning
grouped list = first_ones [] list ++ flat_map (more_of list) all_risks
