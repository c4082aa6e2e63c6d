-- The output with other numbers.
use Rattle.std.proofs.Common.{◌≡◌, ℕ, ◌+◌, ◌*◌, ◌/◌, ◌%◌, ◌^◌, ◌<◌, ◌≤◌, cond, List, [], ◌∷◌, ◌++◌, length, map, Ok, refl, sym, ap, ◌∙◌, arith}
use Rattle.std.proofs.lemmas.Bool.Decides.{nat_tests}
use Rattle.std.proofs.lemmas.List.{length-append, map-append}
use Rattle.std.proofs.lemmas.Nat.{from_be_bytes-to_be_bytes_4}
use Rattle.srt_types.specs.Words.{word, word_at, words}
use Rattle.srt_types.specs.Counts.{message_number, ack_number}
use Rattle.srt_types.specs.Runs.{Range, Run}
use Rattle.srt_packet.specs.Grammar as grammar
use Rattle.srt_packet.specs.Grammar.{Packet, Spells}
use Rattle.srt_packet.specs.Reading.{packet_in}
use Rattle.srt_packet.proofs.Agreement.{packet_only}
use Rattle.srt_types.proofs.WordBytes.{length_of_words}
use Rattle.srt_loss.specs.Text.{range_words}
use Rattle.srt_types.specs.Window.{number_word}
use Rattle.srt_pub.specs.Publishing as publisher
use Rattle.srt_pub.specs.Says.{range_said, losses_said, says}
use Rattle.srt_sub.specs.Subscribing as subscriber
use Rattle.srt_sub.specs.Says.{packet_text}
use Rattle.srt_route.specs.Shifted.{shifted, four_bytes, shifted_words, renumbered_as, renumbered_read, renumbered}
use Rattle.srt_route.specs.ShiftLaws.{PublishersSayOthers, SubscribersSayOthers}

pub same_four : (a b c d e f g h : ℕ) → a ≡ e → b ≡ f → c ≡ g → d ≡ h → a ∷ b ∷ c ∷ d ∷ [] ≡ e ∷ f ∷ g ∷ h ∷ []
same_four a b c d e f g h i j k l = cc

-- a word is written by its low 32 bits
four_low : (n : ℕ) → four_bytes (n % 2 ^ 32) ≡ word n
four_low n = same_four _ _ _ _ _ _ _ _ (omega arith) (omega arith) (omega arith) (omega arith)

read_low : (n : ℕ) → word_at (word n) 0 ≡ n % 2 ^ 32
read_low n = omega arith

shifted_low : (by n : ℕ) → shifted by (n % 2 ^ 32) ≡ shifted by n % 2 ^ 32
shifted_low by n = omega arith

-- the word as which a shifted word is written
pub word_shifts : (by n : ℕ) → four_bytes (shifted by (word_at (word n) 0)) ≡ word (shifted by n)
word_shifts by n = ap (λ m. four_bytes (shifted by m)) (read_low n) ∙ ap four_bytes (shifted_low by n) ∙ four_low (shifted by n)

pub renumbered_is : (by : ℕ) (bytes : List ℕ) (p : Packet) → packet_in bytes ≡ Ok p → renumbered by bytes ≡ renumbered_as by p.body bytes
unfolding renumbered
renumbered_is by bytes p e = ap (λ r. renumbered_read by r bytes) e

number_shifts : (by initial n : ℕ) → number_word (shifted by initial) n ≡ shifted by (number_word initial n)
number_shifts by initial n = omega arith

-- an acknowledgement, whatever follows its first word
ack_says : (by word1 stamp dest n : ℕ) (rest : List ℕ) → length rest ≤ 1452
    → renumbered by (packet_text 0x8002_0000 word1 stamp dest (word n ++ rest))
    ≡ packet_text 0x8002_0000 word1 stamp dest (word (shifted by n) ++ rest)
ack_says by word1 stamp dest n rest h =
    let bytes = packet_text 0x8002_0000 word1 stamp dest (word n ++ rest) in
    let p : Packet = record { stamp = word_at bytes 8; dest = word_at bytes 12; body = grammar.Ack (word_at bytes 4) (word n ++ rest) } in
    let s : Spells bytes p = record { header = omega arith; limit = omega (arith, h); stamp = refl; dest = refl; body = (refl, refl, omega arith, refl) } in
    renumbered_is by bytes p (packet_only bytes p s) ∙ ap (λ four. packet_text 0x8002_0000 word1 stamp dest (four ++ rest)) (word_shifts by n)

words_shift : (by : ℕ) (ns : List ℕ) → shifted_words by (words ns) ≡ words (map (shifted by) ns)
words_shift by [] = refl
words_shift by (n ∷ ns) = ap (λ four. four ++ shifted_words by (words ns)) (word_shifts by n) ∙ ap (λ rest. word (shifted by n) ++ rest) (words_shift by ns)

nak_says : (by word1 stamp dest : ℕ) (ns : List ℕ) → 0 < length ns → length ns ≤ 364
    → renumbered by (packet_text 0x8003_0000 word1 stamp dest (words ns))
    ≡ packet_text 0x8003_0000 word1 stamp dest (words (map (shifted by) ns))
nak_says by word1 stamp dest ns some few =
    let bytes = packet_text 0x8003_0000 word1 stamp dest (words ns) in
    let p : Packet = record { stamp = word_at bytes 8; dest = word_at bytes 12; body = grammar.Nak (words ns) } in
    let s : Spells bytes p = record {
      header = omega arith;
      limit = omega (arith, few, length_of_words ns);
      stamp = refl;
      dest = refl;
      body = (refl, omega (arith, some, length_of_words ns), refl);
    } in
    renumbered_is by bytes p (packet_only bytes p s) ∙ ap (λ rest. packet_text 0x8003_0000 word1 stamp dest rest) (words_shift by ns)

drop_says : (by word1 stamp dest m n : ℕ)
    → renumbered by (packet_text 0x8007_0000 word1 stamp dest (words (m ∷ n ∷ [])))
    ≡ packet_text 0x8007_0000 word1 stamp dest (words (shifted by m ∷ shifted by n ∷ []))
unfolding renumbered
drop_says by word1 stamp dest m n =
    ap (λ four. packet_text 0x8007_0000 word1 stamp dest (four ++ four_bytes (shifted by (word_at (word n) 0)))) (word_shifts by m)
    ∙ ap (λ four. packet_text 0x8007_0000 word1 stamp dest (word (shifted by m) ++ four)) (word_shifts by n)

data_says : (by number word1 stamp dest : ℕ) (payload : List ℕ) → number < 2 ^ 31 → 0 < length payload → length payload ≤ 1456
    → renumbered by (packet_text number word1 stamp dest payload) ≡ packet_text (shifted by number) word1 stamp dest payload
data_says by number word1 stamp dest payload small some few =
    let bytes = packet_text number word1 stamp dest payload in
    let first : word_at bytes 0 ≡ number = from_be_bytes-to_be_bytes_4 number (omega (arith, small)) in
    let p : Packet = record {
      stamp = word_at bytes 8;
      dest = word_at bytes 12;
      body = grammar.Data (word_at bytes 0) (word_at bytes 4 / 2 ^ 27 % 4) payload;
    } in
    let s : Spells bytes p = record {
      header = omega arith;
      limit = omega (arith, few);
      stamp = refl;
      dest = refl;
      body = (omega (arith, first, small), refl, refl, some, refl);
    } in
    renumbered_is by bytes p (packet_only bytes p s) ∙ ap (λ four. four ++ word word1 ++ word stamp ++ word dest ++ payload) (word_shifts by number)

keep_alive_says : (by stamp dest : ℕ) → renumbered by (packet_text 0x8001_0000 0 stamp dest []) ≡ packet_text 0x8001_0000 0 stamp dest []
unfolding renumbered
keep_alive_says by stamp dest = refl

ack_ack_says : (by word1 stamp dest : ℕ) → renumbered by (packet_text 0x8006_0000 word1 stamp dest []) ≡ packet_text 0x8006_0000 word1 stamp dest []
unfolding renumbered
ack_ack_says by word1 stamp dest = refl

-- loss lists
range_shifts : (by initial : ℕ) (r : Run) → range_words (range_said (shifted by initial) r) ≡ map (shifted by) (range_words (range_said initial r))
range_shifts by initial r = grind (arith, nat_tests)

losses_shift : (by initial : ℕ) (rs : List Run) → losses_said (shifted by initial) rs ≡ map (shifted by) (losses_said initial rs)
losses_shift by initial [] = refl
losses_shift by initial (r ∷ rs) =
    ap (λ ws. ws ++ losses_said (shifted by initial) rs) (range_shifts by initial r)
    ∙ ap (λ ws. map (shifted by) (range_words (range_said initial r)) ++ ws) (losses_shift by initial rs)
    ∙ sym (map-append (shifted by) (range_words (range_said initial r)) (losses_said initial rs))

range_some : (r : Range) → 0 < length (range_words r)
range_some r = grind (arith, nat_tests)

range_few : (r : Range) → length (range_words r) ≤ 2
range_few r = grind (arith, nat_tests)

pub losses_few : (initial : ℕ) (rs : List Run) → length (losses_said initial rs) ≤ 2 * length rs
losses_few initial [] = omega arith
losses_few initial (r ∷ rs) =
    omega (
      arith,
      range_few (range_said initial r),
      losses_few initial rs,
      length-append (range_words (range_said initial r)) (losses_said initial rs),
    )

pub losses_some : (initial : ℕ) (rs : List Run) → 0 < length rs → 0 < length (losses_said initial rs)
losses_some initial [] h = absurd (omega (arith, h))
losses_some initial (r ∷ rs) h = omega (arith, range_some (range_said initial r), length-append (range_words (range_said initial r)) (losses_said initial rs))

losses_say : (by stamp dest initial : ℕ) (rs : List Run) → 0 < length rs → length rs ≤ 182
    → renumbered by (packet_text 0x8003_0000 0 stamp dest (words (losses_said initial rs)))
    ≡ packet_text 0x8003_0000 0 stamp dest (words (losses_said (shifted by initial) rs))
losses_say by stamp dest initial rs some few =
    nak_says by 0 stamp dest (losses_said initial rs) (losses_some initial rs some) (omega (arith, few, losses_few initial rs))
    ∙ ap (λ ns. packet_text 0x8003_0000 0 stamp dest (words ns)) (sym (losses_shift by initial rs))

pub publishers_say : PublishersSayOthers
unfolding says
publishers_say by caller initial time (publisher.FullAck index point round_trip variance available rates) h =
    ack_says by (ack_number index) (time % 2 ^ 32) caller (number_word initial point)
    (words (round_trip ∷ variance ∷ available ∷ rates.packets ∷ rates.capacity ∷ rates.bytes ∷ [])) (omega arith)
    ∙ ap
    (λ n.
    packet_text 0x8002_0000 (ack_number index) (time % 2 ^ 32) caller
    (words (n ∷ round_trip ∷ variance ∷ available ∷ rates.packets ∷ rates.capacity ∷ rates.bytes ∷ [])))
    (sym (number_shifts by initial point))
publishers_say by caller initial time (publisher.LightAck point) h =
    ack_says by 0 (time % 2 ^ 32) caller (number_word initial point) [] (omega arith)
    ∙ ap (λ n. packet_text 0x8002_0000 0 (time % 2 ^ 32) caller (words (n ∷ []))) (sym (number_shifts by initial point))
publishers_say by caller initial time (publisher.NakOfAll rs) h = losses_say by (time % 2 ^ 32) caller initial rs h.0 h.1
publishers_say by caller initial time (publisher.NakOfNew rs) h = losses_say by (time % 2 ^ 32) caller initial rs h.0 h.1
publishers_say by caller initial time publisher.KeepAlive h = keep_alive_says by (time % 2 ^ 32) caller

pub subscribers_say : SubscribersSayOthers
subscribers_say by caller initial time (subscriber.Acked mark) h = ack_ack_says by mark (time % 2 ^ 32) caller
subscribers_say by caller initial time (subscriber.Dropped run) h =
    drop_says by (message_number run.low) (time % 2 ^ 32) caller (number_word initial run.low) (number_word initial run.high)
    ∙ ap
    (λ n.
    packet_text 0x8007_0000 (message_number run.low) (time % 2 ^ 32) caller (words (n ∷ shifted by (number_word initial run.high) ∷ [])))
    (sym (number_shifts by initial run.low))
    ∙ ap
    (λ n.
    packet_text 0x8007_0000 (message_number run.low) (time % 2 ^ 32) caller (words (number_word (shifted by initial) run.low ∷ n ∷ [])))
    (sym (number_shifts by initial run.high))
subscribers_say by caller initial time (subscriber.Media number again origin payload) h =
    let word1 = (cond again 0xe400_0000 0xe000_0000) + message_number number in
    data_says by (number_word initial number) word1 (origin % 2 ^ 32) caller payload (omega arith) h.0 h.1
    ∙ ap (λ n. packet_text n word1 (origin % 2 ^ 32) caller payload) (sym (number_shifts by initial number))
subscribers_say by caller initial time subscriber.KeepAlive h = keep_alive_says by (time % 2 ^ 32) caller
