use Rattle.std.proofs.Common.{◌≡◌, ℕ, List, Bool, true, ◌+◌, ◌-◌, ◌*◌, ◌/◌, ◌%◌, ◌<◌, ◌≤◌, ◌⊎◌, [], ◌∷◌, ◌++◌, suc, refl, sym, ap, ◌∙◌, subst, inl}
use Rattle.std.proofs.Common.{inr, arith, rules, slice_index, length, take, map}
use Rattle.srt_aes.specs.Aes.{inv_aes, inv_cipher, schedule_of, rounds_of}
use Rattle.srt_aes.specs.Keys.{key_of}
use Rattle.srt_aes.proofs.keys.RoundKeys.decrypt.Goals as goal

pub returns : goal.returns
unfolding inv_aes
returns c =
    let keys = c.args.self.now in
    let block = c.args.block.now in
    let last : ℕ = keys.size / 4 + 6 in
    let rounds : last ≡ rounds_of (key_of keys) = ap (λ (n : ℕ). n / 4 + 6) (sym keys.sized) in
    c.open.ensures ∙ ap (λ (v : List ℕ). inv_cipher v last block) (keys.scheduled c.requires) ∙
    ap (λ (n : ℕ). inv_cipher (schedule_of (key_of keys)) n block) rounds
