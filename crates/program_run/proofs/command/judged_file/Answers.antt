use Rattle.request_words.specs.declared.file.File.TheVariants as files
use Rattle.run_stages.specs.Stages.{Is}
use Rattle.run_stages.specs.Prepare.{bytes_of, JudgedIn}
use Rattle.run_stages.specs.Judging.{as_work}
use Rattle.run_stages.proofs.Stages.{finishes_err}
use Rattle.program_run.proofs.command.judged_file.Goals as goal

pub returns-in-Err-clause-judges : goal.returns-in-Err-clause-judges
returns-in-Err-clause-judges g c =
    let loads = c.in-Err.ensures.loads in
    record {
      content = loads.content;
      is_found = loads.is_found;
      finishes = finishes_err (Is (bytes_of files.Schedule loads.content)) (JudgedIn (as_work c.args.saying) c.args.inputs.now) c.in-Err.answer loads.reached;
    }
