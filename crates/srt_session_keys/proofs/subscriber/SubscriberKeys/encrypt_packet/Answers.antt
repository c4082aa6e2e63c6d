use Rattle.std.proofs.Common.{rules, ◌≡◌, ◌∙◌, ◌/◌, ◌%◌, ◌^◌, ℕ, List, length, take, subst, sym, ap, refl}
use Rattle.std.proofs.lemmas.Bool.{ne_eqb}
use Rattle.srt_aes.specs.Aes.{IsKeyLength}
use Rattle.srt_aes.specs.Keys.{key_of}
use Rattle.srt_hs.specs.KeyMessage.{field_of}
use Rattle.srt_packet.specs.Encoded.{bytes_of}
use Rattle.srt_packet.specs.Encryption.{encrypted}
use Rattle.srt_session_keys.specs.Source.{source_of, own, name_of}
use Rattle.srt_session_keys.proofs.Lengths.{own-whole}
use Rattle.srt_session_keys.proofs.subscriber.SubscriberKeys.encrypt_packet.Goals as goal

pub encrypt-requires-clause-whole : goal.encrypt-requires-clause-whole
encrypt-requires-clause-whole c =
    let keys = c.args.self.now in
    let kek = keys.source.kek in
    let index : ℕ = c.args.payload / 2 ^ 24 in
    let long : kek.size ≡ length (take kek.size kek.bytes) = search rules in
    let whole = subst (λ (n : ℕ). IsKeyLength n) long kek.whole in
    let stored = keys.keys index c.requires.made c.requires.stored in
    own-whole (source_of keys.source) index _ whole (rw c.if-payload-eq0.true at stored)

pub encrypt-requires-else-payload-eq0-clause-whole : goal.encrypt-requires-else-payload-eq0-clause-whole
encrypt-requires-else-payload-eq0-clause-whole c =
    let keys = c.args.self.now in
    let kek = keys.source.kek in
    let index : ℕ = c.args.payload / 2 ^ 24 in
    let long : kek.size ≡ length (take kek.size kek.bytes) = search rules in
    let whole = subst (λ (n : ℕ). IsKeyLength n) long kek.whole in
    let stored = keys.keys index c.requires.made c.requires.stored in
    own-whole (source_of keys.source) index _ whole (rw (ne_eqb (index % 2) 0 c.if-payload-eq0.false) at stored)

pub returns-then-payload-eq0 : goal.returns-then-payload-eq0
returns-then-payload-eq0 c =
    let keys = c.args.self.now in
    let index : ℕ = c.args.payload / 2 ^ 24 in
    let salt = keys.source.kek.salt in
    let before = bytes_of c.args.packet.now in
    let stored = keys.keys index c.requires.made c.requires.stored in
    let key : key_of keys.odd ≡ own (source_of keys.source) index = rw c.if-payload-eq0.true at stored in
    let name : field_of (name_of index) ≡ 2 = rw c.if-payload-eq0.true refl in
    c.encrypt.ensures ∙ ap (λ (k : List ℕ). encrypted 2 k salt before) key ∙
    ap (λ (f : ℕ). encrypted f (own (source_of keys.source) index) salt before) (sym name)

pub returns-else-payload-eq0 : goal.returns-else-payload-eq0
returns-else-payload-eq0 c =
    let keys = c.args.self.now in
    let index : ℕ = c.args.payload / 2 ^ 24 in
    let salt = keys.source.kek.salt in
    let before = bytes_of c.args.packet.now in
    let stored = keys.keys index c.requires.made c.requires.stored in
    let other = ne_eqb (index % 2) 0 c.if-payload-eq0.false in
    let key : key_of keys.even ≡ own (source_of keys.source) index = rw other at stored in
    let name : field_of (name_of index) ≡ 1 = rw other refl in
    c.encrypt-else-payload-eq0.ensures ∙ ap (λ (k : List ℕ). encrypted 1 k salt before) key ∙
    ap (λ (f : ℕ). encrypted f (own (source_of keys.source) index) salt before) (sym name)
