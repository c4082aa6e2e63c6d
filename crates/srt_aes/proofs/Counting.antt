-- Counter blocks in planes, and the key stream that they give.
use Rattle.std.proofs.Common.{◌≡◌, ℕ, zero, suc, ◌+◌, ◌-◌, ◌*◌, ◌/◌, ◌%◌, ◌^◌, ◌<◌, ◌≤◌, Bool, true, false, cond, List, [], ◌∷◌, ◌++◌, map, length}
use Rattle.std.proofs.Common.{take, drop, bit_xor, slice_index, refl, sym, ap, ◌∙◌, subst, arith, eqb, append_assoc}
use Rattle.std.specs.Prelude.{◌==◌, replicate}
use Rattle.std.specs.Int.{bit_at, w16, w32, to_be_bytes}
use Rattle.std.specs.List.{range_with_len}
use Rattle.std.proofs.lemmas.Bool.{eqb-true}
use Rattle.std.proofs.lemmas.Nat.Bits.{bit_at-zero, bit_at_above}
use Rattle.std.proofs.lemmas.List.{length-append, append-nil, take-append-drop}
use lib.Bits.{xor_assoc, xor_self, xor_zero_r}
use lib.Lanes.{zip2}
use Rattle.srt_aes.specs.Aes.{aes, cipher, schedule_of, rounds_of}
use Rattle.srt_aes.specs.Counter.{nonce, counter_block, key_stream, counter_mode, CounterModeKeepsLengths, CounterModeIsItsOwnInverse}
use Rattle.srt_aes.specs.inside.Planes.{byte_at, bits_at, number, block_in, place, slot, sums, nibble, counter_planes, numbered, numbered_stream}
use Rattle.srt_aes.specs.inside.Planes.{AreNarrow, HoldsKey, HoldKeys, closed_words}
use Rattle.srt_aes.proofs.AllBelow.{all_to, all_to-at, same_over_range}
use Rattle.srt_aes.proofs.Bits.{byte_at-sums}
use Rattle.srt_aes.proofs.Turning.{cut-narrow, IsNarrow}
use Rattle.srt_aes.proofs.Mixing.{narrow-sums}
use Rattle.srt_aes.proofs.Blocks.{held-closed}

is_counted : (m block index : ℕ) → Bool
is_counted m block index =
    byte_at (place 0 block index) (counter_planes (4 * m)) == cond (eqb index 15) (4 * m + block) 0

all_counted : all_to (λ m. all_to (λ block. all_to (λ index. is_counted m block index) 16) 4) 32 ≡ true
unfolding is_counted byte_at counter_planes nibble
all_counted = refl

counted-at : (m block index : ℕ) → m < 32 → block < 4 → index < 16 →
    byte_at (place 0 block index) (counter_planes (4 * m)) ≡ cond (eqb index 15) (4 * m + block) 0
unfolding is_counted
counted-at m block index a b c =
    let batches = all_to-at (λ x. all_to (λ y. all_to (λ z. is_counted x y z) 16) 4) 32 all_counted m a in
    let blocks = all_to-at (λ y. all_to (λ z. is_counted m y z) 16) 4 batches block b in
    eqb-true _ _ (all_to-at (λ z. is_counted m block z) 16 blocks index c)

narrow-counter : (first : ℕ) → AreNarrow (counter_planes first)
unfolding counter_planes nibble
narrow-counter first position past =
    let a : bit_at 0xa000_0000_0000_0000 position ≡ 0 = bit_at_above 0xa000_0000_0000_0000 64 position (omega arith) past in
    let c : bit_at 0xc000_0000_0000_0000 position ≡ 0 = bit_at_above 0xc000_0000_0000_0000 64 position (omega arith) past in
    let n = λ (k : ℕ). cut-narrow (bit_at first k * 15 * 2 ^ 60) position past in
    let n2 = n 2 in
    let n3 = n 3 in
    let n4 = n 4 in
    let n5 = n 5 in
    let n6 = n 6 in
    let n7 = n 7 in
    cc

pub block-counted : (base block : List ℕ) (m b : ℕ) → HoldsKey base 0 block → m < 32 → b < 4 →
    block_in 0 b (sums base (counter_planes (4 * m))) ≡ numbered block (4 * m + b)
unfolding block_in numbered
block-counted base block m b hold few small =
    let held = hold.held b small in
    same_over_range (λ i. byte_at (place 0 b i) (sums base (counter_planes (4 * m))))
    (λ i. bit_xor (byte_at (place 0 b i) base) (cond (eqb i 15) (4 * m + b) 0)) 0 16
    (λ i low. byte_at-sums (place 0 b i) base (counter_planes (4 * m)) ∙
    ap (bit_xor (byte_at (place 0 b i) base)) (counted-at m b i few small (omega arith))) ∙
    ap (λ (v : List ℕ). map (λ i. bit_xor (slice_index v i) (cond (eqb i 15) (4 * m + b) 0)) (range_with_len 0 16)) held

-- a block of the key stream, from the planes of its counter block
pub block-closed : (keys : List (List ℕ)) (key : List ℕ) (last : ℕ) (base block : List ℕ) (m b : ℕ) →
    HoldKeys keys (schedule_of key) last → last ≡ rounds_of key → HoldsKey base 0 block → m < 32 → b < 4 →
    block_in (last % 4) b (closed_words keys last (sums base (counter_planes (4 * m)))) ≡ aes key (numbered block (4 * m + b))
unfolding aes
block-closed keys key last base block m b hold rounds holds few small =
    let words = sums base (counter_planes (4 * m)) in
    held-closed keys (schedule_of key) last hold (omega arith) words
    (narrow-sums base (counter_planes (4 * m)) holds.narrow (narrow-counter (4 * m))) b small ∙
    ap (cipher (schedule_of key) last) (block-counted base block m b holds few small) ∙
    ap (λ (n : ℕ). cipher (schedule_of key) n (numbered block (4 * m + b))) rounds

two_bytes : (n : ℕ) → n < 256 → to_be_bytes w16 n ≡ (0 ∷ n ∷ [])
two_bytes n small =
    let high : n / 256 % 256 ≡ 0 = omega arith in
    let low : n % 256 ≡ n = omega arith in
    cc

numbered-nonce : (salt : List ℕ) (number n : ℕ) → n < 256 →
    numbered (nonce salt number ++ (0 ∷ 0 ∷ [])) n ≡ counter_block salt number n
unfolding numbered
numbered-nonce salt number n small = rw (two_bytes n small) (simp xor_zero_r)

pub stream-numbered : (key salt : List ℕ) (number blocks : ℕ) → blocks ≤ 256 →
    numbered_stream key (nonce salt number ++ (0 ∷ 0 ∷ [])) blocks ≡ key_stream key salt number blocks
unfolding numbered_stream key_stream
stream-numbered key salt number zero few = refl
stream-numbered key salt number (suc blocks) few =
    ap (λ (v : List ℕ). v ++ aes key (numbered (nonce salt number ++ (0 ∷ 0 ∷ [])) blocks))
    (stream-numbered key salt number blocks (omega arith)) ∙
    ap (λ (v : List ℕ). key_stream key salt number blocks ++ aes key v) (numbered-nonce salt number blocks (omega arith))

-- a block of the key stream, from the words that the rounds leave
pub lane : (keys : List (List ℕ)) (key : List ℕ) (last : ℕ) (base block : List ℕ) (m : ℕ) (planes : List ℕ) →
    HoldKeys keys (schedule_of key) last → last ≡ rounds_of key → HoldsKey base 0 block → m < 32 →
    planes ≡ sums base (counter_planes (4 * m)) →
    (b n : ℕ) → b < 4 → 4 * m + b ≡ n → block_in (last % 4) b (closed_words keys last planes) ≡ aes key (numbered block n)
lane keys key last base block m planes hold rounds holds few made b n small same =
    ap (λ (v : List ℕ). block_in (last % 4) b (closed_words keys last v)) made ∙
    block-closed keys key last base block m b hold rounds holds few small ∙
    ap (λ (k : ℕ). aes key (numbered block k)) same

one_more : (key block : List ℕ) (n m : ℕ) → m ≡ suc n →
    numbered_stream key block m ≡ numbered_stream key block n ++ aes key (numbered block n)
unfolding numbered_stream
one_more key block n m next = ap (numbered_stream key block) next

-- eight more blocks
pub eight_more : (key block : List ℕ) (n : ℕ) →
    let a = λ (i : ℕ). aes key (numbered block i) in
    numbered_stream key block (n + 8) ≡
    numbered_stream key block n ++ a n ++ a (n + 1) ++ a (n + 2) ++ a (n + 3) ++ a (n + 4) ++ a (n + 5) ++ a (n + 6) ++ a (n + 7)
eight_more key block n =
    let a = λ (i : ℕ). aes key (numbered block i) in
    let e1 = one_more key block n (n + 1) (omega arith) in
    let e2 = one_more key block (n + 1) (n + 2) (omega arith) ∙ ap (λ (v : List ℕ). v ++ a (n + 1)) e1 in
    let e3 = one_more key block (n + 2) (n + 3) (omega arith) ∙ ap (λ (v : List ℕ). v ++ a (n + 2)) e2 in
    let e4 = one_more key block (n + 3) (n + 4) (omega arith) ∙ ap (λ (v : List ℕ). v ++ a (n + 3)) e3 in
    let e5 = one_more key block (n + 4) (n + 5) (omega arith) ∙ ap (λ (v : List ℕ). v ++ a (n + 4)) e4 in
    let e6 = one_more key block (n + 5) (n + 6) (omega arith) ∙ ap (λ (v : List ℕ). v ++ a (n + 5)) e5 in
    let e7 = one_more key block (n + 6) (n + 7) (omega arith) ∙ ap (λ (v : List ℕ). v ++ a (n + 6)) e6 in
    one_more key block (n + 7) (n + 8) (omega arith) ∙ ap (λ (v : List ℕ). v ++ a (n + 7)) e7

pub four_equal : (s a b c d e f g h : List ℕ) → a ≡ e → b ≡ f → c ≡ g → d ≡ h → s ++ a ++ b ++ c ++ d ≡ s ++ e ++ f ++ g ++ h
four_equal s a b c d e f g h p q r t = cc

pub length-zip2 : (xs ys : List ℕ) → length xs ≤ length ys → length (zip2 bit_xor xs ys) ≡ length xs
length-zip2 [] ys few = refl
length-zip2 (x ∷ xs) [] few = absurd (omega arith)
length-zip2 (x ∷ xs) (y ∷ ys) few = let rest = length-zip2 xs ys (omega arith) in omega arith

-- what is added twice is gone
zip2-twice : (xs ys : List ℕ) → length xs ≤ length ys → zip2 bit_xor (zip2 bit_xor xs ys) ys ≡ xs
zip2-twice [] ys few = refl
zip2-twice (x ∷ xs) [] few = absurd (omega arith)
zip2-twice (x ∷ xs) (y ∷ ys) few =
    let here : bit_xor (bit_xor x y) y ≡ x = xor_assoc x y y ∙ ap (bit_xor x) (xor_self y) ∙ xor_zero_r x in
    let rest = zip2-twice xs ys (omega arith) in cc

-- a key stream that is longer than the payload
longer : (xs ys zs : List ℕ) → length xs ≤ length ys → zip2 bit_xor xs (ys ++ zs) ≡ zip2 bit_xor xs ys
longer [] ys zs few = refl
longer (x ∷ xs) [] zs few = absurd (omega arith)
longer (x ∷ xs) (y ∷ ys) zs few = ap (λ (v : List ℕ). bit_xor x y ∷ v) (longer xs ys zs (omega arith))

long_block : (key block : List ℕ) → length (aes key block) ≡ 16
unfolding aes
long_block key block = refl

long_stream : (key salt : List ℕ) (number blocks : ℕ) → length (key_stream key salt number blocks) ≡ 16 * blocks
unfolding key_stream
long_stream key salt number zero = refl
long_stream key salt number (suc blocks) =
    let before = long_stream key salt number blocks in
    let last = aes key (counter_block salt number blocks) in
    let more = long_block key (counter_block salt number blocks) in
    length-append (key_stream key salt number blocks) last ∙ omega arith

stream_begins : (key salt : List ℕ) (number n m : ℕ) →
    (rest : List ℕ) × (key_stream key salt number (n + m) ≡ key_stream key salt number n ++ rest)
unfolding key_stream
stream_begins key salt number n zero =
    let same : n + 0 ≡ n = omega arith in
    ([], ap (key_stream key salt number) same ∙ sym (append-nil (key_stream key salt number n)))
stream_begins key salt number n (suc m) =
    let before = stream_begins key salt number n m in
    let next : n + suc m ≡ suc (n + m) = omega arith in
    let last = aes key (counter_block salt number (n + m)) in (
      before.0 ++ last,
      ap (key_stream key salt number) next ∙ ap (λ (v : List ℕ). v ++ last) before.1 ∙
          append_assoc (key_stream key salt number n) before.0 last,
    )

-- what a longer key stream makes of a payload
pub applied : (key salt : List ℕ) (number : ℕ) (payload stream : List ℕ) (batches : ℕ) →
    take (128 * batches) stream ≡ key_stream key salt number (8 * batches) → length payload / 128 + 1 ≡ batches →
    zip2 bit_xor payload stream ≡ zip2 bit_xor payload (key_stream key salt number (length payload / 16 + 1))
applied key salt number payload stream batches made many =
    let n : ℕ = length payload / 16 + 1 in
    let m : ℕ = 8 * batches - n in
    let both : 8 * batches ≡ n + m = omega arith in
    let begin = stream_begins key salt number n m in
    let long = long_stream key salt number n in
    let cut = take-append-drop (128 * batches) stream in
    let front = made ∙ ap (key_stream key salt number) both ∙ begin.1 in
    let tail = drop (128 * batches) stream in
    ap (zip2 bit_xor payload) (sym cut ∙ ap (λ (v : List ℕ). v ++ tail) front ∙
    append_assoc (key_stream key salt number n) begin.0 tail) ∙
    longer payload (key_stream key salt number n) (begin.0 ++ tail) (omega arith)

enough : (key salt : List ℕ) (number : ℕ) (payload : List ℕ) → length payload ≤ length (key_stream key salt number (length payload / 16 + 1))
enough key salt number payload = let long = long_stream key salt number (length payload / 16 + 1) in omega arith

pub length-counter_mode : CounterModeKeepsLengths
length-counter_mode key salt number payload =
    length-zip2 payload (key_stream key salt number (length payload / 16 + 1)) (enough key salt number payload)

pub counter_mode-twice : CounterModeIsItsOwnInverse
counter_mode-twice key salt number payload =
    let stream = λ (n : ℕ). key_stream key salt number (n / 16 + 1) in
    let once = counter_mode key salt number payload in
    ap (λ (n : ℕ). zip2 bit_xor once (stream n)) (length-counter_mode key salt number payload) ∙
    zip2-twice payload (stream (length payload)) (enough key salt number payload)
