use Rattle.std.proofs.Common.{◌≡◌, ◌++◌, OnOk, codes, decimal, rules}
use Rattle.srt_hs.specs.Refusals.{name_of}
use Rattle.srt_status.specs.Figures.{refusal_count}
use Rattle.srt_status.specs.Json.{refusal_json}
use Rattle.srt_status.proofs.Puts.{joined, joined_last}
use Rattle.srt_status.proofs.json.put_refusal.Goals as goal

pub returns : goal.returns
unfolding refusal_json
returns c =
    let start : c.put.new.out.items ≡ c.args.out.now.items ++ codes ",\"refusals_" = search (rules, c.in_ok-put.ensures) in
    let name : c.put-2.new.out.items ≡ c.put.new.out.items ++ name_of c.args.reason =
    rw c.name.ensures at (rw c.as_bytes.ensures.value at c.in_ok-put-2.ensures) in
    let end : c.put-3.new.out.items ≡ c.put-2.new.out.items ++ codes "\":" = search (rules, c.in_ok-put-3.ensures) in
    let out = c.args.out.now.items in
    let named = codes ",\"refusals_" ++ name_of c.args.reason in
    let key = joined out _ _ named _ (joined out _ _ (codes ",\"refusals_") _ start name) end in
    let count : OnOk c.put_number.result (c.put_number.new.out.items ≡ c.put-3.new.out.items ++ decimal (refusal_count c.args.reason c.args.counts.now)) =
    search (rules, c.put_number.ensures) in
    let whole = joined_last _ out _ _ (named ++ codes "\":") _ key count in
    whole
