-- The handshakes of the grammar that values of the code represent.
use Rattle.std.specs.Prelude.{ℕ, List, [], ◌∷◌, Option, None, Some, option_map, Result, Ok, Err}
use Rattle.srt_types.specs.Words.{words_in}
use Rattle.srt_hs.specs.Grammar.{Handshake, Blocks, stream_id_in}
use Rattle.srt_hs.specs.declared.handshake.HsFault.{HsFault}
use Rattle.srt_hs.specs.declared.handshake.HsRef.{HsRef}
use Rattle.srt_hs.specs.declared.handshake.BlocksRef.{BlocksRef}
use Rattle.srt_hs.specs.declared.handshake.CongestionText.{CongestionText}

-- the words of a congestion text
abbrev pub text_words : CongestionText → List ℕ
text_words text = text.first ∷ text.others.items

-- the congestion text with these words; none if there are no words
abbrev pub text_of : Option (List ℕ) → Option CongestionText
text_of None = None
text_of (Some []) = None
text_of (Some (first ∷ others)) = Some (record { first = first; others = record { items = others } })

-- the blocks that a value of the code represents, without its borrows
abbrev pub blocks_of : BlocksRef → Blocks
blocks_of b =
    record {
      hsreq = b.hsreq;
      stream_id = option_map (λ s. stream_id_in s.contents.now) b.stream_id;
      congestion = option_map (λ c. words_in c.contents.now) b.congestion;
      has_kmreq = b.has_kmreq;
      has_filter = b.has_filter;
      has_group = b.has_group;
    }

-- the handshake that a value of the code represents, without its borrows
abbrev pub handshake_of : HsRef → Handshake
handshake_of h =
    record {
      version = h.version;
      encryption = h.encryption;
      extension = h.extension;
      initial = h.initial;
      mtu = h.mtu;
      window = h.window;
      kind = h.kind;
      id = h.id;
      cookie = h.cookie;
      blocks = blocks_of h.blocks;
    }

-- a result of the code as a result of the grammar, for blocks
abbrev pub seen_blocks : Result BlocksRef HsFault → Result Blocks HsFault
seen_blocks (Ok b) = Ok (blocks_of b)
seen_blocks (Err fault) = Err fault

-- a result of `read` as a result of the grammar
abbrev pub seen : Result HsRef HsFault → Result Handshake HsFault
seen (Ok h) = Ok (handshake_of h)
seen (Err fault) = Err fault

-- the result without the remaining bytes
abbrev pub first_of : {A B : Type 0} → Result (A × B) HsFault → Result A HsFault
first_of (Ok x) = Ok x.0
first_of (Err fault) = Err fault
