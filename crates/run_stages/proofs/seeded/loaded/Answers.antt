use Rattle.std.proofs.Common.{◌∙◌}
use Rattle.run_stages.proofs.LoadRoom.{room_of_load, loaded_is}
use Rattle.run_stages.proofs.seeded.loaded.Goals as goal

pub tight_schedule-requires-clause-room : goal.tight_schedule-requires-clause-room
tight_schedule-requires-clause-room c =
    room_of_load c.args.seed c.in_ok-trap.trap c.in_ok-trap.circuit c.in-Ok.placement c.in_ok-trap.ensures.trap c.in_ok-trap.ensures.circuit c.in-Ok.ensures.answer

pub returns : goal.returns
returns c =
    loaded_is c.args.seed c.in_ok-trap.trap c.in_ok-trap.circuit c.in-Ok.placement c.in_ok-schedule.schedule c.text.result c.in_ok-lines.lines.items c.from_vec.result
    c.in_ok-trap.ensures.trap c.in_ok-trap.ensures.circuit c.in-Ok.ensures.answer c.in_ok-schedule.ensures.plays c.in_ok-schedule.ensures.tight c.in_ok-schedule.ensures.routed (c.text.ensures ∙ c.in_ok-put.ensures) c.in_ok-lines.ensures c.from_vec.ensures
