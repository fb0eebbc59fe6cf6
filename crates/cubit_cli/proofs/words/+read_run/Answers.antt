use Rattle.std.proofs.Common.{◌∙◌, Global, drop, length, map, take, ◌-◌, sym, ap}
use Rattle.std.specs.Option.{option_and_then, option_map}
use Rattle.std.specs.String.{string_bytes}
use Rattle.cubit_cli.specs.Words.{options_value, run_of, run_value}
use Rattle.cubit_cli.proofs.Options.{run_of-option}
use Rattle.cubit_cli.proofs.words.+read_run.Goals as goal

pub returns-in_err-options-in-len2-up : goal.returns-in_err-options-in-len2-up
returns-in_err-options-in-len2-up t c =
    let words = c.args.words.now in
    let cut = run_of-option (string_bytes {Z = Global}) words c.name-item.result c.number-item.result
    (options_value c.args.options) c.in-len2-up.len_at_least c.name-item.is c.number-item.is in
    let given = rw (c.as_str-in-len2-up.ensures.value, c.integer_of.ensures, c.as_bytes.ensures.value)
    at c.with.ensures in
    cut
    ∙ ap (option_and_then (run_of (map (string_bytes {Z = Global}) (take (length words - 2) (drop 2 words)))))
    (given ∙ ap (option_map options_value) c.in_err-options-in-len2-up.was)
    ∙ sym (ap (option_map run_value) c.from_residual.ensures)

pub returns-in_ok-options-in-len2-up : goal.returns-in_ok-options-in-len2-up
returns-in_ok-options-in-len2-up t c =
    let words = c.args.words.now in
    let cut = run_of-option (string_bytes {Z = Global}) words c.name-item.result c.number-item.result
    (options_value c.args.options) c.in-len2-up.len_at_least c.name-item.is c.number-item.is in
    let given = rw (c.as_str-in-len2-up.ensures.value, c.integer_of.ensures, c.as_bytes.ensures.value)
    at c.in_ok-options-in-len2-up.ensures in
    cut
    ∙ ap (option_and_then (run_of (map (string_bytes {Z = Global}) (take (length words - 2) (drop 2 words))))) given
    ∙ c.read_run.ensures
