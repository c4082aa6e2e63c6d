use Rattle.srt_config.proofs.files.read_file.Goals as goal

pub returns-in-Err-clause-reported : goal.returns-in-Err-clause-reported
returns-in-Err-clause-reported g c = c.of_error.ensures.reported c.args.limit
