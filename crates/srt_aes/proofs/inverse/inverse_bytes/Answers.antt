use Rattle.std.proofs.Common.{◌≡◌, ℕ, List, Bool, true, ◌+◌, ◌-◌, ◌*◌, ◌/◌, ◌%◌, ◌<◌, ◌≤◌, ◌⊎◌, [], ◌∷◌, ◌++◌, suc, refl, sym, ap, ◌∙◌, subst, inl}
use Rattle.std.proofs.Common.{inr, arith, rules, slice_index, length, take, map}
use Rattle.srt_aes.specs.Aes.{inv_sub_byte}
use Rattle.srt_aes.proofs.inverse.inverse_bytes.Goals as goal

pub returns : goal.returns
returns c =
    rw (
      c.inverse_byte.ensures,
      c.inverse_byte-2.ensures,
      c.inverse_byte-3.ensures,
      c.inverse_byte-4.ensures,
      c.inverse_byte-5.ensures,
      c.inverse_byte-6.ensures,
      c.inverse_byte-7.ensures,
      c.inverse_byte-8.ensures,
      c.inverse_byte-9.ensures,
      c.inverse_byte-10.ensures,
      c.inverse_byte-11.ensures,
      c.inverse_byte-12.ensures,
      c.inverse_byte-13.ensures,
      c.inverse_byte-14.ensures,
      c.inverse_byte-15.ensures,
      c.inverse_byte-16.ensures,
    ) refl
