-- The reasons for a refusal, with their numbers and names (section 4.3, table 7).
use Rattle.std.specs.Prelude.{ℕ, ◌==◌, List, Option, None, Some, codes, if◌then◌else◌}
use Rattle.srt_hs.specs.declared.refusal_codes.RefusalCode.{RefusalCode}
use Rattle.srt_hs.specs.declared.refusal_codes.RefusalCode.TheVariants as reasons

-- the number of a reason
abbrev pub number_of : RefusalCode → ℕ
number_of reasons.Peer = 1002
number_of reasons.Resource = 1003
number_of reasons.Rogue = 1004
number_of reasons.Version = 1008
number_of reasons.BadSecret = 1010
number_of reasons.Unsecure = 1011
number_of reasons.MessageApi = 1012
number_of reasons.Filter = 1014
number_of reasons.Group = 1015

-- the reason with a number, if the gateway refuses for it
unfoldable pub code_with : (number : ℕ) → Option RefusalCode
code_with number =
    if number == 1002 then Some reasons.Peer else (if number == 1003 then Some reasons.Resource else (if number == 1004 then Some reasons.Rogue
    else (if number == 1008 then Some reasons.Version else (if number == 1010 then Some reasons.BadSecret
    else (if number == 1011 then Some reasons.Unsecure else (if number == 1012 then Some reasons.MessageApi
    else (if number == 1014 then Some reasons.Filter else (if number == 1015 then Some reasons.Group else None))))))))

-- the name of each number of the table, also of those for which the gateway doesn't refuse; of any other that of 1000
unfoldable pub refusal_name : (number : ℕ) → List ℕ
refusal_name number =
    if number == 1001 then codes "SYSTEM" else (if number == 1002 then codes "PEER" else (if number == 1003 then codes "RESOURCE"
    else (if number == 1004 then codes "ROGUE" else (if number == 1005 then codes "BACKLOG" else (if number == 1006 then codes "IPE"
    else (if number == 1007 then codes "CLOSE" else (if number == 1008 then codes "VERSION" else (if number == 1009 then codes "RDVCOOKIE"
    else (if number == 1010 then codes "BADSECRET" else (if number == 1011 then codes "UNSECURE" else (if number == 1012 then codes "MESSAGEAPI"
    else (if number == 1013 then codes "CONGESTION" else (if number == 1014 then codes "FILTER" else (if number == 1015 then codes "GROUP"
    else codes "UNKNOWN"))))))))))))))

-- the name of a reason
abbrev pub name_of : RefusalCode → List ℕ
name_of code = refusal_name (number_of code)
