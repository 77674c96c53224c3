use Rattle.run_stages.proofs.compile.compiled_text.Goals as goal

pub returns : goal.returns
returns c = record {
  is = record {
    schedule = c.in_ok-schedule.schedule;
    plays = c.in_ok-schedule.ensures.plays;
    text_is = c.in_ok-text.ensures;
  };
  tight = c.in_ok-schedule.ensures.tight;
  routed = c.in_ok-schedule.ensures.routed;
}
