-- One turn of a loop over the parts of a text.
use Rattle.std.proofs.Common.{◌≡◌, ℕ, ◌-◌, ◌==◌, Bool, true, false, cond, List, ◌∷◌, Option, None, Some, length, take, drop, refl, ap, ◌∙◌}
use Rattle.std.proofs.lemmas.Bool.{cond-true, cond-false}
use Rattle.std.specs.Str.{bytes_eq}
use Rattle.srt_procfs.specs.Parts.{parts_of, behind_key, passed, word_at}
use Rattle.srt_procfs.specs.Drops.{is_at, drops_of, first_drops}

-- the first line begins with the key
pub key_found : (key left part : List ℕ) (more : List (List ℕ)) → parts_of 10 left ≡ part ∷ more
    → bytes_eq (take (length key) part) key ≡ true
    → behind_key key (parts_of 10 left) ≡ Some (drop (length key) part)
key_found key left part more e h =
    ap (behind_key key) e ∙ cond-true (bytes_eq (take (length key) part) key) (Some (drop (length key) part)) (behind_key key more) h

-- it doesn't
pub key_passed : (key left part : List ℕ) (more : List (List ℕ)) → parts_of 10 left ≡ part ∷ more
    → bytes_eq (take (length key) part) key ≡ false
    → behind_key key (parts_of 10 left) ≡ behind_key key more
key_passed key left part more e h =
    ap (behind_key key) e ∙ cond-false (bytes_eq (take (length key) part) key) (Some (drop (length key) part)) (behind_key key more) h

stopped : (d e : Bool) (before : ℕ) (part : List ℕ) (f : ℕ → Option (List ℕ))
    → cond d (Some before) (cond e None (Some (before - 1))) ≡ None → cond d (f before) (cond e (Some part) (f (before - 1))) ≡ Some part
stopped true e before part f h = cc
stopped false true before part f h = refl
stopped false false before part f h = cc

went : (d e : Bool) (before fewer : ℕ) (part : List ℕ) (f : ℕ → Option (List ℕ))
    → cond d (Some before) (cond e None (Some (before - 1))) ≡ Some fewer
    → cond d (f before) (cond e (Some part) (f (before - 1))) ≡ f fewer
went true e before fewer part f h = let same : before ≡ fewer = cc in ap f same
went false true before fewer part f h = cc
went false false before fewer part f h = let same : before - 1 ≡ fewer = cc in ap f same

-- the first part is the word
pub word_found : (before : ℕ) (left part : List ℕ) (more : List (List ℕ))
    → parts_of 32 left ≡ part ∷ more → passed before part ≡ None → word_at before (parts_of 32 left) ≡ Some part
word_found before left part more e h = ap (word_at before) e ∙ stopped (length part == 0) (before == 0) before part (λ n. word_at n more) h

-- it isn't
pub word_passed : (before fewer : ℕ) (left part : List ℕ) (more : List (List ℕ))
    → parts_of 32 left ≡ part ∷ more → passed before part ≡ Some fewer → word_at before (parts_of 32 left) ≡ word_at fewer more
word_passed before fewer left part more e h = ap (word_at before) e ∙ went (length part == 0) (before == 0) before fewer part (λ n. word_at n more) h

-- the first line is that of the address
pub drops_found : (local left part : List ℕ) (more : List (List ℕ))
    → parts_of 10 left ≡ part ∷ more → is_at local part ≡ true → first_drops local (parts_of 10 left) ≡ drops_of part
drops_found local left part more e h = ap (first_drops local) e ∙ cond-true (is_at local part) (drops_of part) (first_drops local more) h

-- it isn't
pub drops_passed : (local left part : List ℕ) (more : List (List ℕ))
    → parts_of 10 left ≡ part ∷ more → is_at local part ≡ false → first_drops local (parts_of 10 left) ≡ first_drops local more
drops_passed local left part more e h = ap (first_drops local) e ∙ cond-false (is_at local part) (drops_of part) (first_drops local more) h
