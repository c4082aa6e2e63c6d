-- The bytes of the packets that a session sends.
use Rattle.std.proofs.Common.{◌≡◌, ◌≢◌, ℕ, ◌%◌, ◌^◌, ◌<◌, Bool, true, false, cond, List, [], ◌∷◌, ◌++◌, length, map, refl, ap, ◌∙◌, arith}
use Rattle.srt_types.specs.Window.{word_of, number_word}
use Rattle.srt_types.specs.Counts.{ack_number}
use Rattle.srt_types.specs.Runs.{Range, Run}
use Rattle.srt_types.specs.declared.numbers.Seq31.{Seq31}
use Rattle.srt_loss.specs.Text.{range_of, loss_words}
use Rattle.srt_packet.specs.declared.writing.Body.TheVariants as out
use Rattle.srt_packet.specs.declared.writing.Rates.{Rates}
use Rattle.srt_types.specs.Words.{words}
use Rattle.arrayvec.specs.ArrayVec.{ArrayVec}
use Rattle.srt_recvbuf.specs.Stands.{words_of, run_words}
use Rattle.srt_pub.specs.Publishing.{FullAck, LightAck, KeepAlive, nak_report, nak_with}
use Rattle.srt_pub.specs.Says.{says, body_bytes, range_said, losses_said}

abbrev rate_words : Rates → List ℕ
rate_words r = r.packets ∷ r.capacity ∷ r.bytes ∷ []

pub full_bytes : (caller initial time number index a rtt variance room rtt' variance' : ℕ) (rates rates' : Rates) (point : Seq31) → number ≡ ack_number index
    → word_of point ≡ number_word initial a → rtt ≡ rtt' → variance ≡ variance' → rates ≡ rates'
    → body_bytes caller time (out.FullAck number point rtt variance room rates) ≡ says caller initial time (FullAck index a rtt' variance' room rates')
unfolding body_bytes says
full_bytes caller initial time number index a rtt variance room rtt' variance' rates rates' point n p r v q =
    ap (λ k. words (0x8002_0000 ∷ k ∷ time % 2 ^ 32 ∷ caller ∷ word_of point ∷ rtt ∷ variance ∷ room ∷ rate_words rates)) n
    ∙ ap (λ k. words (0x8002_0000 ∷ ack_number index ∷ time % 2 ^ 32 ∷ caller ∷ k ∷ rtt ∷ variance ∷ room ∷ rate_words rates)) p
    ∙ ap (λ k. words (0x8002_0000 ∷ ack_number index ∷ time % 2 ^ 32 ∷ caller ∷ number_word initial a ∷ k ∷ variance ∷ room ∷ rate_words rates)) r
    ∙ ap (λ k. words (0x8002_0000 ∷ ack_number index ∷ time % 2 ^ 32 ∷ caller ∷ number_word initial a ∷ rtt' ∷ k ∷ room ∷ rate_words rates)) v
    ∙ ap (λ k. words (0x8002_0000 ∷ ack_number index ∷ time % 2 ^ 32 ∷ caller ∷ number_word initial a ∷ rtt' ∷ variance' ∷ room ∷ rate_words k)) q

pub light_bytes : (caller initial time a : ℕ) (point : Seq31)
    → word_of point ≡ number_word initial a → body_bytes caller time (out.LightAck point) ≡ says caller initial time (LightAck a)
unfolding body_bytes says
light_bytes caller initial time a point p = ap (λ k. words (0x8002_0000 ∷ 0 ∷ time % 2 ^ 32 ∷ caller ∷ k ∷ [])) p

pub keep_alive_bytes : (caller initial time : ℕ) → body_bytes caller time out.KeepAlive ≡ says caller initial time KeepAlive
unfolding body_bytes says
keep_alive_bytes caller initial time = refl

pub nak_bytes : (all : Bool) (caller initial time : ℕ) (losses : ArrayVec ℕ) (rs : List Run)
    → losses.items ≡ losses_said initial rs → body_bytes caller time (out.Nak losses) ≡ says caller initial time (nak_report all rs)
unfolding body_bytes says
nak_bytes true caller initial time losses rs e = ap (λ ns. words (0x8003_0000 ∷ 0 ∷ time % 2 ^ 32 ∷ caller ∷ ns)) e
nak_bytes false caller initial time losses rs e = ap (λ ns. words (0x8003_0000 ∷ 0 ∷ time % 2 ^ 32 ∷ caller ∷ ns)) e

abbrev range_pair : ℕ × ℕ → Range
range_pair p = record { first = p.0; last = p.1 }

of_pairs : (pairs : List (Seq31 × Seq31)) → map range_of pairs ≡ map range_pair (words_of pairs)
of_pairs [] = refl
of_pairs (p ∷ pairs) = ap (λ rs. range_of p ∷ rs) (of_pairs pairs)

of_runs : (initial : ℕ) (rs : List Run) → map range_pair (map (run_words initial) rs) ≡ map (range_said initial) rs
of_runs initial [] = refl
of_runs initial (r ∷ rs) = ap (λ qs. range_said initial r ∷ qs) (of_runs initial rs)

-- the sequence numbers of a buffer's runs
pub same_losses : (initial : ℕ) (pairs : List (Seq31 × Seq31)) (rs : List Run)
    → words_of pairs ≡ map (run_words initial) rs → loss_words (map range_of pairs) ≡ losses_said initial rs
same_losses initial pairs rs e = ap loss_words (of_pairs pairs ∙ ap (map range_pair) e ∙ of_runs initial rs)

some_words : (b : Bool) (x y z : ℕ) (more : List ℕ) → 0 < length (cond b (x ∷ []) (y ∷ z ∷ []) ++ more)
some_words true x y z more = omega arith
some_words false x y z more = omega arith

-- each run has sequence numbers
pub have_words : (initial : ℕ) (rs : List Run) → rs ≢ [] → 0 < length (losses_said initial rs)
have_words initial [] ne = absurd (ne refl)
have_words initial (r ∷ rs) ne = some_words _ _ _ _ _

pub none_none : (initial : ℕ) (pairs : List (Seq31 × Seq31)) (rs : List Run) → words_of pairs ≡ map (run_words initial) rs → pairs ≡ [] → rs ≡ []
none_none initial [] [] e p = refl
none_none initial [] (r ∷ rs) e p = cc
none_none initial (x ∷ pairs) rs e p = cc

pub some_some : (initial : ℕ) (pairs : List (Seq31 × Seq31)) (rs : List Run) → words_of pairs ≡ map (run_words initial) rs → pairs ≢ [] → rs ≢ []
some_some initial [] rs e p = absurd (p refl)
some_some initial (x ∷ pairs) [] e p = cc
some_some initial (x ∷ pairs) (r ∷ rs) e p = λ q. cc

-- one packet, if there are runs
pub nak_some : (all : Bool) (rs : List Run) → rs ≢ [] → nak_with all rs ≡ nak_report all rs ∷ []
nak_some all [] ne = absurd (ne refl)
nak_some all (r ∷ rs) ne = refl
