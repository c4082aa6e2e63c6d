-- The two publisher buffers of a route: which one the other is, and that their indexes differ.
use Rattle.std.proofs.Common.{◌≡◌, ◌≢◌, true, false, refl, sym, ap, ◌∙◌, arith}
use Rattle.srt_route.specs.declared.publisher_buffers.PublisherBuffers.{PublisherBuffers}
use Rattle.srt_route.specs.declared.publisher_buffers.PublisherBuffers.TheVariants.{First, Second}
use Rattle.srt_route.specs.PublisherBuffers.{place_of, other_buffers, is_same}

pub other_from_not : (b d : PublisherBuffers) → (d ≡ b → ⊥) → d ≡ other_buffers b
other_from_not Second Second other = absurd (other refl)
other_from_not Second First other = refl
other_from_not First Second other = refl
other_from_not First First other = absurd (other refl)

pub same_from_not_other : (b d : PublisherBuffers) → (d ≡ other_buffers b → ⊥) → d ≡ b
same_from_not_other Second Second other = refl
same_from_not_other Second First other = absurd (other refl)
same_from_not_other First Second other = absurd (other refl)
same_from_not_other First First other = refl

pub other_twice : (b : PublisherBuffers) → other_buffers (other_buffers b) ≡ b
other_twice Second = refl
other_twice First = refl

pub never_other : (b : PublisherBuffers) → b ≡ other_buffers b → ⊥
never_other Second h = let bad : Second ≡ First = h in cc
never_other First h = let bad : First ≡ Second = h in cc

pub apart_places : (b d : PublisherBuffers) → (d ≡ b → ⊥) → place_of d ≢ place_of b
apart_places Second Second other same = other refl
apart_places Second First other same = absurd (omega (arith, same))
apart_places First Second other same = absurd (omega (arith, same))
apart_places First First other same = other refl

pub is_same_from : (d b : PublisherBuffers) → is_same d b ≡ true → d ≡ b
is_same_from Second Second h = refl
is_same_from First First h = refl
is_same_from Second First h = absurd (let bad : false ≡ true = h in cc)
is_same_from First Second h = absurd (let bad : false ≡ true = h in cc)

same_itself : (b : PublisherBuffers) → is_same b b ≡ true
same_itself Second = refl
same_itself First = refl

pub same_is : (d b : PublisherBuffers) → d ≡ b → is_same d b ≡ true
same_is d b h = ap (is_same d) (sym h) ∙ same_itself d
