-- The polls of a configuration's file: when it is read, what of it is news, and when a content is news once more.
use Rattle.std.specs.Prelude.{ℕ, Bool, true, false, not, ◌&&◌, ◌||◌, nat_lt, nat_le, List, Option, None, Some, Ok, Err, is_err, if◌then◌else◌}
use Rattle.std.specs.Prelude.{Result}
use Rattle.std.specs.Result.{result_map_both}
use Rattle.std.specs.declared.fmt.InlineText.{InlineText}
use Rattle.srt_watch.specs.declared.config_file.FileStamp.{FileStamp}
use Rattle.srt_watch.specs.declared.watched_file.News.{News}
use Rattle.srt_watch.specs.declared.watched_file.Polling.{Polling}
use Rattle.srt_watch.specs.Course.{later}
use Rattle.srt_watch.specs.Files.{FileState, Content}
use Rattle.srt_watch.specs.WatchedFile.{is_settling, is_other, no_poll, reads, after_poll}

-- before the first poll, which is a second later
abbrev pub first_polling : Polling
first_polling = record { next = 1_000_000; last = no_poll; is_unread = false; again_at = None }

-- the content that was returned last is news once more
abbrev pub is_at : (time : Option ℕ) → (moment : ℕ) → Bool
is_at None moment = false
is_at (Some time) moment = nat_le time moment

abbrev pub is_again : Polling → (moment : ℕ) → Bool
is_again p moment = is_at p.again_at moment

-- the polling after the file's stamp is known
abbrev pub stamped : Polling → Option FileStamp → Polling
stamped p stamp = record p { last = after_poll p.last stamp }

-- the file is read if it has changed and settled, or if its content is to be news once more and nobody writes it
abbrev pub reads_at : Polling → (moment : ℕ) → Option FileStamp → Bool
reads_at p moment stamp = reads p.last stamp || (is_again p moment && not (is_settling (after_poll p.last stamp)))

-- a fault of reading is new once
abbrev pub is_new_read : Polling → (is_unread : Bool) → Bool
is_new_read p is_unread = not (p.is_unread && is_unread)

abbrev pub after_read : Polling → (is_unread : Bool) → Polling
after_read p is_unread = record p { is_unread = is_unread }

-- what a poll reads, of a file that says this
abbrev pub if_new : Polling → Content → Option Content
if_new p content = if is_new_read p (is_err content) then Some content else None

abbrev pub read_of : Polling → (moment : ℕ) → FileState → Option Content
read_of p moment s = if reads_at p moment s.stamp then if_new p s.content else None

abbrev pub polled : Polling → (moment : ℕ) → FileState → Polling
polled p moment s = if reads_at p moment s.stamp then after_read (stamped p s.stamp) (is_err s.content) else stamped p s.stamp

-- the next poll is a second later; 50 ms later while the file settles
abbrev pub rest_of : Polling → ℕ
rest_of p = if is_settling p.last then 50_000 else 1_000_000

abbrev pub rested : Polling → (moment : ℕ) → Polling
rested p moment = record p { next = later moment (rest_of p) }

-- whether a content is news, and whether it was held; another content ends that
abbrev pub newness : Polling → (moment : ℕ) → (is_other : Bool) → Option Bool
newness p moment is_other = if is_other then Some false else (if is_again p moment then Some true else None)

abbrev pub without_again : Polling → Polling
without_again p = record p { again_at = None }

abbrev pub after_news : Polling → (moment : ℕ) → (is_other : Bool) → Polling
after_news p moment is_other = if is_other then without_again p else (if is_again p moment then without_again p else p)

-- a content that is held is news once more five seconds later
abbrev pub held : Polling → (moment : ℕ) → Polling
held p moment = record p { again_at = Some (later moment 5_000_000) }

-- a new content, and whether it was held
pub record FoundNews : Type 0 where
  pub content : List ℕ
  pub was_held : Bool

abbrev pub FoundFile : Type 0
FoundFile = Result FoundNews (InlineText 896)

abbrev pub found_of : News → FoundNews
found_of news = record { content = news.content.items; was_held = news.was_held }

abbrev pub seen_of : Result News (InlineText 896) → FoundFile
seen_of found = result_map_both found_of (λ why. why) found

abbrev pub news_by : (content : List ℕ) → Option Bool → Option FoundFile
news_by content None = None
news_by content (Some was_held) = Some (Ok (record { content = content; was_held = was_held }))

-- what is new in what was read; `kept` is the content that was returned last
abbrev pub news_in : Polling → (moment : ℕ) → (kept : Option (List ℕ)) → Option Content → Option FoundFile
news_in p moment kept None = None
news_in p moment kept (Some (Ok content)) = news_by content (newness p moment (is_other kept content))
news_in p moment kept (Some (Err why)) = Some (Err why)

abbrev pub after_found : Polling → (moment : ℕ) → (kept : Option (List ℕ)) → Option Content → Polling
after_found p moment kept None = p
after_found p moment kept (Some (Ok content)) = after_news p moment (is_other kept content)
after_found p moment kept (Some (Err why)) = p

-- what is new in a file that says this, at a poll; before the time of the next one nothing is
abbrev pub news_of : Polling → (moment : ℕ) → (kept : Option (List ℕ)) → FileState → Option FoundFile
news_of p moment kept s =
    if nat_lt moment p.next then None else news_in (rested (polled p moment s) moment) moment kept (read_of p moment s)

abbrev pub after_look : Polling → (moment : ℕ) → (kept : Option (List ℕ)) → FileState → Polling
after_look p moment kept s =
    if nat_lt moment p.next then p else after_found (rested (polled p moment s) moment) moment kept (read_of p moment s)

-- the content that is kept after a poll that found this: what was read, whether it is taken or not
abbrev pub kept_after : Option FoundFile → (kept : Option (List ℕ)) → Option (List ℕ)
kept_after None kept = kept
kept_after (Some (Ok news)) kept = Some news.content
kept_after (Some (Err why)) kept = kept
