-- Any sequence of polls of the configuration's file.
use Rattle.std.proofs.Common.{◌≡◌, List, [], ◌++◌, None, Some, Ok, Err, refl, sym, ap, ◌∙◌, append-nil, append_assoc}
use Rattle.std.specs.Prelude.{option_map}
use Rattle.srt_config.specs.declared.config.Config.{Config}
use Rattle.srt_supervision.specs.Changes.{AskedChange}
use Rattle.srt_watch.specs.Following.{IsFollowed, Stayed, Changed, IsRequested, Renamed, Asked, Record}
use Rattle.srt_watch.specs.Holding.{FileLook}
use Rattle.srt_watch.specs.Requests.{config_of}
use Rattle.srt_watch.specs.Reloads.{Follows, Begins, Goes, taken_of, taken_by, asked_of, asked_by, last_taken, AreFollowed}
use Rattle.srt_watch.specs.declared.in_force.InForce.{InForce}
use Rattle.srt_watch.specs.declared.in_force.Wanted.{Wanted}

requested_config : (b a : InForce) (w : Wanted) (r s : Record) (first : Config) (taken : List Config) → (q : IsRequested b a w r s) →
    config_of b ≡ last_taken first taken → config_of a ≡ last_taken first (taken_of q ++ taken)
requested_config b a w r s first taken (Renamed n none t same) e = t.config_is
requested_config b a w r s first taken (Asked (Ok n) some asked answered) e = answered.config_is
requested_config b a w r s first taken (Asked (Err fault) some asked answered) e = ap config_of answered ∙ e

followed_config : (look : FileLook) (b a : InForce) (r s : Record) (first : Config) (taken : List Config) → (f : IsFollowed look b a r s) →
    config_of b ≡ last_taken first taken → config_of a ≡ last_taken first (taken_by f ++ taken)
followed_config look b a r s first taken (Stayed same unasked) e = ap config_of same ∙ e
followed_config look b a r s first taken (Changed w is allowed q) e = requested_config b a w r s first taken q e

pub all_configs : (first : InForce) (before : Record) (last : InForce) (after : Record) (taken : List Config) (asked : List AskedChange) →
    Follows first before last after taken asked → config_of last ≡ last_taken (config_of first) taken
all_configs first before last after taken asked Begins = refl
all_configs first before last after taken asked (Goes look b a r s t q f next) =
    followed_config look b a r s (config_of first) t next (all_configs first before b r t q f)

joined_none : (r : Record) → r ≡ option_map (λ cs. cs ++ []) r
joined_none None = refl
joined_none (Some cs) = ap Some (sym (append-nil cs))

joined_twice : (r : Record) (x y : List AskedChange) → option_map (λ cs. cs ++ y) (option_map (λ cs. cs ++ x) r) ≡ option_map (λ cs. cs ++ (x ++ y)) r
joined_twice None x y = refl
joined_twice (Some cs) x y = ap Some (append_assoc cs x y)

requested_record : (b a : InForce) (w : Wanted) (r s : Record) → (q : IsRequested b a w r s) → s ≡ option_map (λ cs. cs ++ asked_of q) r
requested_record b a w r s (Renamed n none t same) = same ∙ joined_none r
requested_record b a w r s (Asked outcome some asked answered) = asked

followed_record : (look : FileLook) (b a : InForce) (r s : Record) → (f : IsFollowed look b a r s) → s ≡ option_map (λ cs. cs ++ asked_by f) r
followed_record look b a r s (Stayed same unasked) = unasked ∙ joined_none r
followed_record look b a r s (Changed w is allowed q) = requested_record b a w r s q

pub all_asked : (first : InForce) (before : Record) (last : InForce) (after : Record) (taken : List Config) (asked : List AskedChange) →
    Follows first before last after taken asked → after ≡ option_map (λ cs. cs ++ asked) before
all_asked first before last after taken asked Begins = joined_none before
all_asked first before last after taken asked (Goes look b a r s t q f next) =
    followed_record look b a r s next ∙ ap (option_map (λ cs. cs ++ asked_by next)) (all_asked first before b r t q f) ∙ joined_twice before q (asked_by next)

pub followed : AreFollowed
followed = record { in_force_is = all_configs; asked_is = all_asked }
