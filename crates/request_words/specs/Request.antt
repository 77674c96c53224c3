-- What the words of the command line ask for.
use Rattle.std.specs.Prelude.{ℕ, ◌^◌, Bool, ◌&&◌, ◌||◌, not, nat_eq, nat_lt, nat_le, is_none, List, [], ◌∷◌, length, map, drop, Option, Some, None, unwrap_or, if◌then◌else◌, string_bytes, codes, decimal}
use Rattle.std.specs.List.{starts_with}
use Rattle.std.specs.Option.{option_map, option_and_then, option_map_or}
use Rattle.std.specs.Str.{bytes_eq}
use Rattle.std.specs.Str.Parse.{digits_value}
use Rattle.std.specs.declared.string.String.{String}
use Rattle.std.specs.declared.alloc.Global.{Global}
use Rattle.request_words.specs.declared.file.File.{File}
use Rattle.request_words.specs.declared.file.File.TheVariants.{Circuit, Trap, Schedule, Certificate}
use Rattle.placement.specs.declared.rule.PlaceRule.{PlaceRule}
use Rattle.placement.specs.declared.rule.PlaceRule.TheVariants.{Declared, FirstUse, Given}

abbrev pub texts : List (String Global) → List (List ℕ)
texts words = map string_bytes words

-- the certificate of exact mode, and the limits of the search
pub record Search : Type 0 where
  pub cert : List ℕ
  pub max : ℕ
  pub budget : ℕ

-- what is asked for, with the names of the files
pub data Asked : Type 0 where
  compile : (circuit trap : List ℕ) → PlaceRule → Option Search → Asked
  check : (circuit trap schedule : List ℕ) → Asked
  verify : (circuit trap schedule cert : List ℕ) → Asked
  report : (circuit trap schedule : List ℕ) → Asked
  load : ℕ → (schedule : List ℕ) → Asked

-- ---- words

-- not empty, and no option
abbrev pub is_file_word : List ℕ → Bool
is_file_word word = not (bytes_eq word []) && not (starts_with nat_eq word (codes "--"))

-- the number that a word is: decimal, without leading zeros, below 2 ^ 64
abbrev pub number_of : List ℕ → Option ℕ
number_of word =
    if nat_lt (digits_value 10 word) (2 ^ 64) && bytes_eq word (decimal (digits_value 10 word))
    then Some (digits_value 10 word) else None

abbrev pub rule_of : List ℕ → Option PlaceRule
rule_of word =
    if bytes_eq word (codes "declared") then Some Declared else
    (if bytes_eq word (codes "first-use") then Some FirstUse else
    (if bytes_eq word (codes "given") then Some Given else None))

-- what comes after a text at the front of a word
abbrev pub strip_prefix : List ℕ → List ℕ → Option (List ℕ)
strip_prefix front word = if starts_with nat_eq word front then Some (drop (length front) word) else None

-- ---- options, each at most once

pub record Options : Type 0 where
  pub rule : Option PlaceRule
  pub cert : Option (List ℕ)
  pub max : Option ℕ
  pub budget : Option ℕ

abbrev pub no_options : Options
no_options = record { rule = None; cert = None; max = None; budget = None }

-- each of these takes one option more, and refuses one that was given before
abbrev pub with_rule : Options → List ℕ → Option Options
with_rule options value =
    if is_none options.rule
    then option_map (λ rule. record options { rule = Some rule }) (rule_of value) else None

abbrev pub with_cert : Options → List ℕ → Option Options
with_cert options value =
    if is_none options.cert && is_file_word value then Some (record options { cert = Some value }) else None

abbrev pub with_max : Options → List ℕ → Option Options
with_max options value =
    if is_none options.max
    then option_map (λ max. record options { max = Some max }) (number_of value) else None

-- a budget is at least 1
abbrev pub with_positive_budget : Options → ℕ → Option Options
with_positive_budget options budget = if nat_le 1 budget then Some (record options { budget = Some budget }) else None

abbrev pub with_budget : Options → List ℕ → Option Options
with_budget options value =
    if is_none options.budget
    then option_and_then (λ budget. with_positive_budget options budget) (number_of value) else None

abbrev pub with_option : Options → List ℕ → Option Options
with_option options word =
    option_map_or (with_rule options) (strip_prefix (codes "--place=") word)
    (option_map_or (with_cert options) (strip_prefix (codes "--exact=") word)
    (option_map_or (with_max options) (strip_prefix (codes "--max=") word)
    (option_and_then (with_budget options) (strip_prefix (codes "--budget=") word))))

abbrev pub with_options : Options → List (List ℕ) → Option Options
with_options options [] = Some options
with_options options (word ∷ words) =
    option_and_then (λ more. with_options more words) (with_option options word)

-- ---- commands

-- each limit of a search has a default
abbrev pub search_with : Options → List ℕ → Search
search_with options cert =
    record { cert = cert; max = unwrap_or options.max 48; budget = unwrap_or options.budget 100000 }

-- without a certificate there are no limits; with one, it is no file that is read
abbrev pub compile_to : List ℕ → List ℕ → Options → Option (List ℕ) → Option Asked
compile_to circuit trap options None =
    if is_none options.max && is_none options.budget
    then Some (compile circuit trap (unwrap_or options.rule Declared) None) else None
compile_to circuit trap options (Some cert) =
    if bytes_eq cert circuit || bytes_eq cert trap then None
    else Some (compile circuit trap (unwrap_or options.rule Declared) (Some (search_with options cert)))

abbrev pub compile_of : List (List ℕ) → Option Asked
compile_of [] = None
compile_of (circuit ∷ []) = None
compile_of (circuit ∷ trap ∷ options) =
    if is_file_word circuit && is_file_word trap
    then option_and_then (λ given. compile_to circuit trap given given.cert) (with_options no_options options)
    else None

-- three file words
abbrev pub three_files : (List ℕ → List ℕ → List ℕ → Asked) → List (List ℕ) → Option Asked
three_files asked [] = None
three_files asked (circuit ∷ []) = None
three_files asked (circuit ∷ trap ∷ []) = None
three_files asked (circuit ∷ trap ∷ schedule ∷ []) =
    if is_file_word circuit && is_file_word trap && is_file_word schedule
    then Some (asked circuit trap schedule) else None
three_files asked (circuit ∷ trap ∷ schedule ∷ word ∷ words) = None

abbrev pub verify_of : List (List ℕ) → Option Asked
verify_of [] = None
verify_of (circuit ∷ []) = None
verify_of (circuit ∷ trap ∷ []) = None
verify_of (circuit ∷ trap ∷ schedule ∷ []) = None
verify_of (circuit ∷ trap ∷ schedule ∷ cert ∷ []) =
    if is_file_word circuit && is_file_word trap && is_file_word schedule && is_file_word cert
    && not (bytes_eq cert circuit) && not (bytes_eq cert trap)
    then Some (verify circuit trap schedule cert) else None
verify_of (circuit ∷ trap ∷ schedule ∷ cert ∷ word ∷ words) = None

abbrev pub load_of : List (List ℕ) → Option Asked
load_of [] = None
load_of (seed ∷ []) = None
load_of (seed ∷ schedule ∷ []) =
    if is_file_word schedule then option_map (λ number. load number schedule) (number_of seed) else None
load_of (seed ∷ schedule ∷ word ∷ words) = None

-- the words ask for this; anything else is no request
abbrev pub request_of : List (List ℕ) → Option Asked
request_of [] = None
request_of (command ∷ words) =
    if bytes_eq command (codes "compile") then compile_of words else
    (if bytes_eq command (codes "check") then three_files check words else
    (if bytes_eq command (codes "verify") then verify_of words else
    (if bytes_eq command (codes "report") then three_files report words else
    (if bytes_eq command (codes "load") then load_of words else None))))

-- ---- files

-- a circuit, a trap, and perhaps a schedule and its certificate
abbrev pub named : List ℕ → List ℕ → Option (List ℕ) → Option (List ℕ) → File → Option (List ℕ)
named circuit trap schedule cert Circuit = Some circuit
named circuit trap schedule cert Trap = Some trap
named circuit trap schedule cert Schedule = schedule
named circuit trap schedule cert Certificate = cert

-- the name of the file that is read as such a file, where one is; the certificate of exact mode and the
-- schedule of a load are written
abbrev pub file_of : Asked → File → Option (List ℕ)
file_of (compile circuit trap rule search) file = named circuit trap None None file
file_of (check circuit trap schedule) file = named circuit trap (Some schedule) None file
file_of (verify circuit trap schedule cert) file = named circuit trap (Some schedule) (Some cert) file
file_of (report circuit trap schedule) file = named circuit trap (Some schedule) None file
file_of (load seed schedule) file = None

-- the name under which the request puts a file, where it puts one: the certificate of exact mode, and the
-- schedule of a load
abbrev pub put_of : Asked → Option (List ℕ)
put_of (compile circuit trap rule search) = option_map (λ (limits : Search). limits.cert) search
put_of (check circuit trap schedule) = None
put_of (verify circuit trap schedule cert) = None
put_of (report circuit trap schedule) = None
put_of (load seed schedule) = Some schedule
