use Rattle.std.proofs.Common.{◌≡◌, Some, IfSome, Ok, Err, option_map, ap, subst, refl}
use Rattle.srt_watch.specs.Configs.{IsConfigOf}
use Rattle.srt_watch.specs.Following.{IsNotTaken}
use Rattle.srt_watch.specs.Polls.{seen_of, found_of, news_of}
use Rattle.srt_watch.proofs.following.Following.poll.Goals as goal

pub returns-in-Ok-wanted-clause-found : goal.returns-in-Ok-wanted-clause-found
returns-in-Ok-wanted-clause-found g c = record {
  file = Some (Ok (found_of c.in-Ok.field-0));
  file_is = subst (λ r. IfSome (g.F.ConfigFile.says c.args.self.now.file.file) (λ s. option_map seen_of (Some r)
      ≡ news_of c.args.self.now.file.polling c.args.moment (option_map (λ v. v.items) c.args.self.now.file.content) s)) c.in-Ok.is c.in_ok-content.ensures.news;
  kept_is = ap (option_map (λ v. v.items)) c.keep.ensures.content;
  is_found = subst (λ t. IsConfigOf t c.in-Ok-wanted.wanted.config) c.as_slice.ensures.value c.in-Ok-wanted.ensures.config;
}

pub returns-in-Err-wanted-clause-found : goal.returns-in-Err-wanted-clause-found
returns-in-Err-wanted-clause-found g c = record {
  file = Some (Ok (found_of c.in-Ok.field-0));
  file_is = subst (λ r. IfSome (g.F.ConfigFile.says c.args.self.now.file.file) (λ s. option_map seen_of (Some r)
      ≡ news_of c.args.self.now.file.polling c.args.moment (option_map (λ v. v.items) c.args.self.now.file.content) s)) c.in-Ok.is c.in_ok-content.ensures.news;
  kept_is = ap (option_map (λ v. v.items)) c.keep.ensures.content;
  is_found = subst (λ t. IsNotTaken c.args.self.now.in_force t c.in-Err-wanted.not_taken) c.as_slice.ensures.value
      c.in-Err-wanted.ensures.not_taken;
}

pub returns-in-Err-clause-found : goal.returns-in-Err-clause-found
returns-in-Err-clause-found g c = record {
  file = Some (Err c.in-Err.why);
  file_is = subst (λ r. IfSome (g.F.ConfigFile.says c.args.self.now.file.file) (λ s. option_map seen_of (Some r)
      ≡ news_of c.args.self.now.file.polling c.args.moment (option_map (λ v. v.items) c.args.self.now.file.content) s))
      c.in-Err.is c.in_ok-content.ensures.news;
  kept_is = ap (option_map (λ v. v.items)) c.poll.ensures.content;
  is_found = refl;
}
