-- A route whose callers follow the draft.
use Rattle.std.specs.Prelude.{◌≡◌, ℕ, List, [], filter, pos}
use Rattle.srt_types.specs.declared.shared.Callers.TheVariants.{Draft}
use Rattle.srt_types.specs.Terms.{Terms}
use Rattle.srt_types.specs.Items.{Item}
use Rattle.srt_pub.specs.Publishing.{Note, correction_of}
use Rattle.srt_sub.specs.declared.resend_all.Resending.TheVariants.{AtEachTimeout}
use Rattle.srt_route.specs.declared.conclusion_reading.Conclusion.{Conclusion}
use Rattle.srt_route.specs.Sessions.{agreed_terms, is_draining}
use Rattle.srt_route.specs.Route.{after}

-- no session ever drains
abbrev pub NoneDrains : Type 0
NoneDrains = (e : Terms) (index : ℕ) (items : List Item) → e.rules.callers ≡ Draft → filter is_draining (after e index items).sessions ≡ []

-- no publisher's clock is corrected
abbrev pub ClocksAreTrusted : Type 0
ClocksAreTrusted = (e : Terms) (c : Conclusion) (notes : List Note) → e.rules.callers ≡ Draft → correction_of (agreed_terms e c).publisher notes ≡ pos 0

-- subscribers are sent everything in flight again after each timeout
abbrev pub ResendAtEachTimeout : Type 0
ResendAtEachTimeout = (e : Terms) (c : Conclusion) → e.rules.callers ≡ Draft → (agreed_terms e c).subscriber.resending ≡ AtEachTimeout
