-- The words of the command line, after the program's name.
use Rattle.std.specs.Prelude.{ℕ, Bool, true, false, not, ◌&&◌, ◌==◌, List, [], ◌∷◌, Option, Some, None, option_map, option_and_then, unwrap_or, codes, bytes_eq, if◌then◌else◌}
use Rattle.cubit_base.specs.declared.entry.Limits.{Limits}
use Rattle.tbl_text.specs.Field.{integer_value, money_value, quantity_value}
use Rattle.refresh_streams.specs.Term.{number_within}
use Rattle.cubit_cli.specs.declared.asked.Query.{Query as QueryWords}
use Rattle.cubit_cli.specs.declared.asked.Run.{Run as RunWords}
use Rattle.cubit_cli.specs.declared.asked.Drill.{Drill as DrillWords}
use Rattle.cubit_cli.specs.declared.asked.Asked.{Asked as AskedWords}
use Rattle.cubit_cli.specs.declared.asked.Asked.TheVariants as words
use Rattle.cubit_cli.specs.declared.asked.Options.{Options as OptionWords}

-- one query: the base file's name, the year, the discount in hundredths, and the quantity
pub record QueryValue : Type 0 where
  pub base : List ℕ
  pub year : ℕ
  pub disc : ℕ
  pub qty : ℕ

-- a run: the limits, and the names of the base file and of the script
pub record RunValue : Type 0 where
  pub limits : Limits
  pub base : List ℕ
  pub script : List ℕ

-- a drill: what its base table and its script are made from
pub record DrillValue : Type 0 where
  pub seed : ℕ
  pub orders : ℕ

-- what the words ask for
pub data Asked : Type 0 where
  Query : QueryValue → Asked
  Run : RunValue → Asked
  Drill : DrillValue → Asked

-- a file's name is not empty; that of a base file does not begin with a hyphen either
abbrev pub is_name : List ℕ → Bool
is_name [] = false
is_name (b ∷ bytes) = true

abbrev pub is_base : List ℕ → Bool
is_base [] = false
is_base (b ∷ bytes) = not (b == 45)

abbrev pub query_of_numbers : List ℕ → Option ℕ → Option ℕ → Option ℕ → Option QueryValue
query_of_numbers base (Some year) (Some disc) (Some qty) =
    Some (record { base = base; year = year; disc = disc; qty = qty })
query_of_numbers base year disc qty = None

-- BASE YEAR DISCOUNT QUANTITY: a year from 1992 to 1998, money of at most ten hundredths, a quantity from 1 to 51
abbrev pub query_of : List (List ℕ) → Option QueryValue
query_of (base ∷ year ∷ discount ∷ quantity ∷ []) =
    if is_base base
    then query_of_numbers base (number_within 1992 1998 (integer_value year))
    (number_within 0 10 (money_value discount)) (number_within 1 51 (quantity_value quantity))
    else None
query_of words = None

-- the options of a run: the row limit, the log limit and the tries, where they are given
pub record Options : Type 0 where
  pub row_limit : Option ℕ
  pub log_limit : Option ℕ
  pub tries : Option ℕ

-- no option is given
abbrev pub no_options : Options
no_options = record { row_limit = None; log_limit = None; tries = None }

-- a number for an option, which may be given once
abbrev pub once : Option ℕ → Option ℕ → Option ℕ
once None number = number
once (Some before) number = None

-- one option more: its number is from 0 to 16,777,216, from 0 to 4,194,304, or from 1 to 1,000
abbrev pub with_option : List ℕ → Option ℕ → Options → Option Options
with_option name number o =
    if bytes_eq name (codes "--row-limit")
    then option_map (λ n. record o { row_limit = Some n }) (once o.row_limit (number_within 0 16_777_216 number))
    else (if bytes_eq name (codes "--log-limit")
    then option_map (λ n. record o { log_limit = Some n }) (once o.log_limit (number_within 0 4_194_304 number))
    else (if bytes_eq name (codes "--tries")
    then option_map (λ n. record o { tries = Some n }) (once o.tries (number_within 1 1_000 number))
    else None))

-- what is not given has its default
abbrev pub limits_of : Options → Limits
limits_of o = record {
  row_limit = unwrap_or o.row_limit 16_777_216;
  log_limit = unwrap_or o.log_limit 4_194_304;
  tries = unwrap_or o.tries 8;
}

abbrev pub default_limits : Limits
default_limits = limits_of no_options

-- OPTIONS BASE SCRIPT behind some options: each is a name and a number
abbrev pub run_of : List (List ℕ) → Options → Option RunValue
run_of (base ∷ script ∷ []) o =
    if is_base base && is_name script
    then Some (record { limits = limits_of o; base = base; script = script }) else None
run_of (name ∷ number ∷ words) o = option_and_then (run_of words) (with_option name (integer_value number) o)
run_of words o = None

abbrev pub drill_of_numbers : Option ℕ → Option ℕ → Option DrillValue
drill_of_numbers (Some seed) (Some orders) = Some (record { seed = seed; orders = orders })
drill_of_numbers seed orders = None

-- SEED ORDERS: a seed below 2^32, and 1 to 100,000 orders
abbrev pub drill_of : List (List ℕ) → Option DrillValue
drill_of (seed ∷ orders ∷ []) =
    drill_of_numbers (number_within 0 4_294_967_295 (integer_value seed))
    (number_within 1 100_000 (integer_value orders))
drill_of words = None

-- the words behind the name of a command
abbrev pub asked_by : List ℕ → List (List ℕ) → Option Asked
asked_by name words =
    if bytes_eq name (codes "q6") then option_map Query (query_of words)
    else (if bytes_eq name (codes "run") then option_map Run (run_of words no_options)
    else (if bytes_eq name (codes "drill") then option_map Drill (drill_of words)
    else None))

-- what the words ask for, or that they are no command
abbrev pub command_of : List (List ℕ) → Option Asked
command_of [] = None
command_of (name ∷ words) = asked_by name words

-- what words that were read say
abbrev pub options_value : OptionWords → Options
options_value o = record { row_limit = o.row_limit; log_limit = o.log_limit; tries = o.tries }

abbrev pub query_value : QueryWords → QueryValue
query_value q = record { base = q.base.now; year = q.year; disc = q.disc; qty = q.qty }

abbrev pub run_value : RunWords → RunValue
run_value r = record { limits = r.limits; base = r.base.now; script = r.script.now }

abbrev pub drill_value : DrillWords → DrillValue
drill_value d = record { seed = d.seed; orders = d.orders }

abbrev pub asked_value : AskedWords → Asked
asked_value (words.Query q) = Query (query_value q)
asked_value (words.Run r) = Run (run_value r)
asked_value (words.Drill d) = Drill (drill_value d)
