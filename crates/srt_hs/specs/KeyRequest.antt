-- The KMREQ blocks of a conclusion (section 3.2.1, type 3).
use Rattle.std.specs.Prelude.{ℕ, zero, suc, ◌+◌, ◌==◌, Bool, true, false, List, [], ◌∷◌, length, drop, nat_lt, if◌then◌else◌}
use Rattle.srt_types.specs.Words.{word_at}
use Rattle.srt_hs.specs.Grammar.{type_of, length_of, contents_of, after_block}

-- whether there is such a block; the contents of a single one
pub data Asked : Type 0 where
  nothing : Asked
  one : (contents : List ℕ) → Asked
  several : Asked

-- one more block with these contents
abbrev pub with_request : Asked → List ℕ → Asked
with_request nothing contents = one contents
with_request (one before) contents = several
with_request several contents = several

-- the first block of these bytes is complete
abbrev pub begins_with_block : List ℕ → Bool
begins_with_block bytes =
    if nat_lt (length bytes) 4 then false else if nat_lt (length bytes) (4 + length_of bytes) then false else true

-- adds the first block of these bytes, if it is a KMREQ, to those before it
abbrev pub with_first_request : Asked → List ℕ → Asked
with_first_request before bytes = if type_of bytes == 3 then with_request before (contents_of bytes) else before

-- adds all blocks of these bytes, at most this many; bytes after the last complete block are ignored
abbrev pub with_requests : (most : ℕ) → Asked → List ℕ → Asked
with_requests most before [] = before
with_requests zero before (byte ∷ bytes) = before
with_requests (suc most) before (byte ∷ bytes) =
    if begins_with_block (byte ∷ bytes) then
    with_requests most (with_first_request before (byte ∷ bytes)) (after_block (byte ∷ bytes))
    else before

-- the KMREQ blocks among these blocks
unfoldable pub requests_in : List ℕ → Asked
requests_in bytes = with_requests (length bytes) nothing bytes

-- the KMREQ blocks of a handshake: only a conclusion has any
abbrev pub key_request_in : List ℕ → Asked
key_request_in body =
    if nat_lt (length body) 48 then nothing
    else if word_at body 20 == 0xffff_ffff then requests_in (drop 48 body) else nothing
