-- Decoding of handshakes, as a function of their bytes (section 3.2.1).
use Rattle.std.specs.Prelude.{ℕ, zero, suc, ◌+◌, true, List, [], ◌∷◌, length, drop, Some, is_some, Result, Ok, Err, if◌then◌else◌, ◌==◌, ◌||◌, nat_lt}
use Rattle.srt_types.specs.Words.{word_at, words_in}
use Rattle.srt_hs.specs.Grammar.{Handshake, Blocks, half_at, kind_of, no_blocks, hsreq_in, stream_id_in, type_of, length_of, contents_of, after_block}
use Rattle.srt_hs.specs.declared.handshake.HsKind.{HsKind}
use Rattle.srt_hs.specs.declared.handshake.HsKind.TheVariants.{Conclusion}
use Rattle.srt_hs.specs.declared.handshake.HsFault.{HsFault}
use Rattle.srt_hs.specs.declared.handshake.HsFault.TheVariants.{Short, TruncatedExtension, BadLength, Repeated}

-- adds an HSREQ block with these contents to the blocks before it, or returns its fault
abbrev pub with_hsreq : Blocks → List ℕ → Result Blocks HsFault
with_hsreq before contents =
    if length contents == 12 then (if is_some before.hsreq then Err Repeated else Ok (record before { hsreq = Some (hsreq_in contents) }))
    else Err BadLength

-- adds a Stream ID block with these contents to the blocks before it, or returns its fault
abbrev pub with_stream_id : Blocks → List ℕ → Result Blocks HsFault
with_stream_id before contents =
    if nat_lt 512 (length contents) then Err BadLength
    else (if is_some before.stream_id then Err Repeated else Ok (record before { stream_id = Some (stream_id_in contents) }))

-- adds a CONGESTION block with these contents to the blocks before it, or returns its fault
abbrev pub with_congestion : Blocks → List ℕ → Result Blocks HsFault
with_congestion before contents =
    if length contents == 0 || nat_lt 16 (length contents) then Err BadLength
    else (if is_some before.congestion then Err Repeated else Ok (record before { congestion = Some (words_in contents) }))

-- adds a block of this type and contents to the blocks before it, or returns its fault
unfoldable pub with_block : Blocks → (type : ℕ) → (contents : List ℕ) → Result Blocks HsFault
with_block before type contents =
    if type == 1 then with_hsreq before contents
    else if type == 3 then Ok (record before { has_kmreq = true })
    else if type == 5 then with_stream_id before contents
    else if type == 6 then with_congestion before contents
    else if type == 7 then Ok (record before { has_filter = true })
    else if type == 8 then Ok (record before { has_group = true })
    else Ok before

-- adds the first block of these bytes to the blocks before it, or returns its fault
unfoldable pub with_first : Blocks → List ℕ → Result Blocks HsFault
with_first before bytes =
    if nat_lt (length bytes) 4 then Err TruncatedExtension
    else if nat_lt (length bytes) (4 + length_of bytes) then Err TruncatedExtension
    else with_block before (type_of bytes) (contents_of bytes)

-- applies the second step to the result of the first; a fault is returned unchanged
abbrev pub and_then : {A B : Type 0} → Result A HsFault → (A → Result B HsFault) → Result B HsFault
and_then (Ok x) f = f x
and_then (Err fault) f = Err fault

-- adds all blocks of these bytes, at most this many, to the blocks before them
abbrev pub with_all : (most : ℕ) → Blocks → List ℕ → Result Blocks HsFault
with_all most before [] = Ok before
with_all zero before (byte ∷ bytes) = Err TruncatedExtension
with_all (suc most) before (byte ∷ bytes) = and_then (with_first before (byte ∷ bytes)) (λ next. with_all most next (after_block (byte ∷ bytes)))

-- the blocks of these bytes; each has at least one byte, so the number of bytes bounds the number of blocks
unfoldable pub blocks_in : List ℕ → Result Blocks HsFault
blocks_in bytes = with_all (length bytes) no_blocks bytes

-- the extension blocks of a handshake: only those of a conclusion are read
abbrev pub extension_in : HsKind → List ℕ → Result Blocks HsFault
extension_in Conclusion bytes = blocks_in bytes
extension_in _ bytes = Ok no_blocks

-- the handshake whose first 48 bytes are these, with these blocks
abbrev pub with_fields : List ℕ → Blocks → Handshake
with_fields bytes blocks =
    record {
      version = word_at bytes 0;
      encryption = half_at bytes 4;
      extension = half_at bytes 6;
      initial = word_at bytes 8;
      mtu = word_at bytes 12;
      window = word_at bytes 16;
      kind = kind_of (word_at bytes 20);
      id = word_at bytes 24;
      cookie = word_at bytes 28;
      blocks = blocks;
    }

-- the handshake that the bytes encode, or the first fault from the left
unfoldable pub handshake_in : List ℕ → Result Handshake HsFault
handshake_in bytes =
    if nat_lt (length bytes) 48 then Err Short
    else and_then (extension_in (kind_of (word_at bytes 20)) (drop 48 bytes)) (λ blocks. Ok (with_fields bytes blocks))
