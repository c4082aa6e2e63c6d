-- What the part of a stored session becomes.
use Rattle.std.proofs.Common.{◌≡◌, ℕ, Bool, true, false, not, ◌&&◌, ◌||◌, Option, None, Some, is_some, refl, sym, ap, ◌∙◌}
use Rattle.std.specs.Option.{option_map}
use Rattle.srt_types.specs.declared.shared.Role.{Role}
use Rattle.srt_types.specs.declared.shared.Role.TheVariants.{Publish, Request}
use Rattle.srt_route.specs.Sessions.{publishes}
use Rattle.srt_route.specs.declared.publisher_buffers.PublisherBuffers.{PublisherBuffers}
use Rattle.srt_route.specs.declared.part.Part.{Part}
use Rattle.srt_route.specs.declared.part.Part.TheVariants.{Publisher, Draining, Subscriber}
use Rattle.srt_route.specs.Parts.{RecordsEnd, buffers_used, is_given_up, part_after, part_extended, part_given_up, part_opened, part_with_end}
use Rattle.srt_route.specs.Parts.{role_of, saw_end, until_of}

-- a session that opens
pub opened_role : (role : Role) (b : PublisherBuffers) → role_of (part_opened role b) ≡ role
opened_role Publish b = refl
opened_role Request b = refl

pub opened_until : (role : Role) (b : PublisherBuffers) → until_of (part_opened role b) ≡ None
opened_until Publish b = refl
opened_until Request b = refl

pub opened_buffers : (role : Role) (b : PublisherBuffers) → publishes role ≡ true → buffers_used (part_opened role b) ≡ b
opened_buffers Publish b h = refl
opened_buffers Request b h = absurd (let bad : false ≡ true = h in cc)

pub opened_records : (role : Role) (b : PublisherBuffers) → RecordsEnd (part_opened role b) false
opened_records Publish b = tt
opened_records Request b = refl

pub opened_lasts : (role : Role) (b : PublisherBuffers) → is_given_up (part_opened role b) ≡ false
opened_lasts Publish b = refl
opened_lasts Request b = refl

-- after a packet; no packet is for a session that drains
pub after_role : (drains : Option ℕ) (p : Part) → role_of (part_after drains p) ≡ role_of p
after_role None (Publisher b) = refl
after_role (Some until) (Publisher b) = refl
after_role drains (Draining b until) = refl
after_role drains (Subscriber f given_up) = refl

pub after_buffers : (drains : Option ℕ) (p : Part) → buffers_used (part_after drains p) ≡ buffers_used p
after_buffers None (Publisher b) = refl
after_buffers (Some until) (Publisher b) = refl
after_buffers drains (Draining b until) = refl
after_buffers drains (Subscriber f given_up) = refl

pub after_until : (drains : Option ℕ) (p : Part)
    → is_some (until_of p) ≡ false → (publishes (role_of p) ≡ false → drains ≡ None) → until_of (part_after drains p) ≡ drains
after_until None (Publisher b) stays never = refl
after_until (Some until) (Publisher b) stays never = refl
after_until drains (Draining b until) stays never = absurd (let bad : true ≡ false = stays in cc)
after_until drains (Subscriber f given_up) stays never = sym (never refl)

pub after_records : (drains : Option ℕ) (p : Part) (f : Bool) → RecordsEnd p f → RecordsEnd (part_after drains p) f
after_records None (Publisher b) f h = tt
after_records (Some until) (Publisher b) f h = tt
after_records drains (Draining b until) f h = tt
after_records drains (Subscriber g given_up) f h = h

pub after_lasts : (drains : Option ℕ) (p : Part) → is_given_up (part_after drains p) ≡ is_given_up p
after_lasts None (Publisher b) = refl
after_lasts (Some until) (Publisher b) = refl
after_lasts drains (Draining b until) = refl
after_lasts drains (Subscriber f given_up) = refl

-- after an event's deliveries
pub extended_role : (later : ℕ → ℕ) (p : Part) → role_of (part_extended later p) ≡ role_of p
extended_role later (Publisher b) = refl
extended_role later (Draining b until) = refl
extended_role later (Subscriber f given_up) = refl

pub extended_buffers : (later : ℕ → ℕ) (p : Part) → buffers_used (part_extended later p) ≡ buffers_used p
extended_buffers later (Publisher b) = refl
extended_buffers later (Draining b until) = refl
extended_buffers later (Subscriber f given_up) = refl

pub extended_until : (later : ℕ → ℕ) (p : Part) → until_of (part_extended later p) ≡ option_map later (until_of p)
extended_until later (Publisher b) = refl
extended_until later (Draining b until) = refl
extended_until later (Subscriber f given_up) = refl

pub extended_records : (later : ℕ → ℕ) (p : Part) (f : Bool) → RecordsEnd p f → RecordsEnd (part_extended later p) f
extended_records later (Publisher b) f h = tt
extended_records later (Draining b until) f h = tt
extended_records later (Subscriber g given_up) f h = h

pub extended_lasts : (later : ℕ → ℕ) (p : Part) → is_given_up (part_extended later p) ≡ is_given_up p
extended_lasts later (Publisher b) = refl
extended_lasts later (Draining b until) = refl
extended_lasts later (Subscriber f given_up) = refl

-- after a publisher's session ended
pub end_role : (by_shutdown : Bool) (p : Part) → role_of (part_with_end by_shutdown p) ≡ role_of p
end_role by_shutdown (Publisher b) = refl
end_role by_shutdown (Draining b until) = refl
end_role by_shutdown (Subscriber f given_up) = refl

pub end_buffers : (by_shutdown : Bool) (p : Part) → buffers_used (part_with_end by_shutdown p) ≡ buffers_used p
end_buffers by_shutdown (Publisher b) = refl
end_buffers by_shutdown (Draining b until) = refl
end_buffers by_shutdown (Subscriber f given_up) = refl

pub end_until : (by_shutdown : Bool) (p : Part) → until_of (part_with_end by_shutdown p) ≡ until_of p
end_until by_shutdown (Publisher b) = refl
end_until by_shutdown (Draining b until) = refl
end_until by_shutdown (Subscriber f given_up) = refl

pub end_records : (by_shutdown : Bool) (p : Part) → RecordsEnd (part_with_end by_shutdown p) by_shutdown
end_records by_shutdown (Publisher b) = tt
end_records by_shutdown (Draining b until) = tt
end_records by_shutdown (Subscriber f given_up) = refl

pub end_lasts : (by_shutdown : Bool) (p : Part) → is_given_up (part_with_end by_shutdown p) ≡ is_given_up p
end_lasts by_shutdown (Publisher b) = refl
end_lasts by_shutdown (Draining b until) = refl
end_lasts by_shutdown (Subscriber f given_up) = refl

-- if the session's key isn't confirmed in time
pub late_role : (late : Bool) (p : Part) → role_of (part_given_up late p) ≡ role_of p
late_role late (Publisher b) = refl
late_role late (Draining b until) = refl
late_role late (Subscriber f given_up) = refl

pub late_buffers : (late : Bool) (p : Part) → buffers_used (part_given_up late p) ≡ buffers_used p
late_buffers late (Publisher b) = refl
late_buffers late (Draining b until) = refl
late_buffers late (Subscriber f given_up) = refl

pub late_until : (late : Bool) (p : Part) → until_of (part_given_up late p) ≡ until_of p
late_until late (Publisher b) = refl
late_until late (Draining b until) = refl
late_until late (Subscriber f given_up) = refl

pub late_records : (late : Bool) (p : Part) (f : Bool) → RecordsEnd p f → RecordsEnd (part_given_up late p) f
late_records late (Publisher b) f h = tt
late_records late (Draining b until) f h = tt
late_records late (Subscriber g given_up) f h = h

pub late_lasts : (late : Bool) (p : Part) → is_given_up (part_given_up late p) ≡ ((not (publishes (role_of p)) && late) || is_given_up p)
late_lasts late (Publisher b) = refl
late_lasts late (Draining b until) = refl
late_lasts late (Subscriber f given_up) = refl

-- whether the end of a file was recorded: only by a subscriber's session
pub saw_reads : (p : Part) → saw_end p ≡ true → publishes (role_of p) ≡ false
saw_reads (Publisher b) h = absurd (let bad : false ≡ true = h in cc)
saw_reads (Draining b until) h = absurd (let bad : false ≡ true = h in cc)
saw_reads (Subscriber f given_up) h = refl

pub saw_is : (p : Part) (role : Role) (f : Bool) → role_of p ≡ role → RecordsEnd p f → saw_end p ≡ (not (publishes role) && f)
saw_is (Publisher b) role f same h = ap (λ (r : Role). not (publishes r) && f) same
saw_is (Draining b until) role f same h = ap (λ (r : Role). not (publishes r) && f) same
saw_is (Subscriber g given_up) role f same h = h ∙ ap (λ (r : Role). not (publishes r) && f) same
