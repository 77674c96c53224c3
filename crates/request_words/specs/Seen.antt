-- A request as its words.
use Rattle.std.specs.Option.{option_map}
use Rattle.request_words.specs.declared.request.Exact.{Exact}
use Rattle.request_words.specs.declared.request.Request.{Request}
use Rattle.request_words.specs.declared.request.Request.TheVariants as requests
use Rattle.request_words.specs.declared.options.Given.{Given}
use Rattle.request_words.specs.Request.{Asked, Search, Options, compile, check, verify, report, load}

abbrev pub search_of : Exact → Search
search_of exact = record { cert = exact.cert.now; max = exact.max; budget = exact.budget }

abbrev pub asked_of : Request → Asked
asked_of (requests.Compile circuit trap rule exact) =
    compile circuit.now trap.now rule (option_map search_of exact)
asked_of (requests.Check circuit trap schedule) = check circuit.now trap.now schedule.now
asked_of (requests.Verify circuit trap schedule cert) = verify circuit.now trap.now schedule.now cert.now
asked_of (requests.Report circuit trap schedule) = report circuit.now trap.now schedule.now
asked_of (requests.Load seed schedule) = load seed schedule.now

abbrev pub options_of : Given → Options
options_of given = record {
  rule = given.rule;
  cert = option_map (λ cert. cert.now) given.cert;
  max = given.max;
  budget = given.budget;
}
