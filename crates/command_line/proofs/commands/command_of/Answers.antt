use Rattle.std.proofs.Common.{◌≡◌, length, Some, rules, sym, ap, ◌∙◌}
use Rattle.std.specs.List.{slice_get}
use Rattle.command_line.specs.Commands.{command_of}
use Rattle.command_line.proofs.FewWords.{one_word, two_words, three_words, four_words, five_words}
use Rattle.command_line.proofs.Limits.{within_limits}
use Rattle.command_line.proofs.commands.command_of.Goals as goal

pub returns-in-1-clause-task : goal.returns-in-1-clause-task
returns-in-1-clause-task c =
    let words = c.args.words.now in
    let name = c.as_str-name.result.now in
    let count : length words ≡ 1 = search rules in
    let first : slice_get words 0 ≡ Some name = search rules in
    c.bare_command.ensures ∙ ap command_of (sym (one_word words name count first))

pub returns-in_ok-get-in-2-clause-task : goal.returns-in_ok-get-in-2-clause-task
returns-in_ok-get-in-2-clause-task c =
    let words = c.args.words.now in
    let name = c.as_str-name.result.now in
    let word = c.as_str.result.now in
    let count : length words ≡ 2 = search rules in
    let first : slice_get words 0 ≡ Some name = search rules in
    let second : slice_get words 1 ≡ Some word = search rules in
    c.numbered_command.ensures ∙ ap command_of (sym (two_words words name word count first second))

pub returns-in_ok-get-in-3-2-clause-task : goal.returns-in_ok-get-in-3-2-clause-task
returns-in_ok-get-in-3-2-clause-task c =
    let words = c.args.words.now in
    let name = c.as_str-name.result.now in
    let file = c.as_str-in-3.result.now in
    let bag = c.as_str-in-3-2.result.now in
    let count : length words ≡ 3 = search rules in
    let first : slice_get words 0 ≡ Some name = search rules in
    let second : slice_get words 1 ≡ Some file = search rules in
    let third : slice_get words 2 ≡ Some bag = search rules in
    c.definition_command.ensures ∙ ap command_of (sym (three_words words name file bag count first second third))

pub returns-in_ok-third-in-4-clause-task : goal.returns-in_ok-third-in-4-clause-task
returns-in_ok-third-in-4-clause-task c =
    let words = c.args.words.now in
    let name = c.as_str-name.result.now in
    let file = c.as_str-in-4.result.now in
    let second_word = c.as_str-in-4-2.result.now in
    let third_word = c.as_str-in-4-3.result.now in
    let count : length words ≡ 4 = search rules in
    let first : slice_get words 0 ≡ Some name = search rules in
    let second : slice_get words 1 ≡ Some file = search rules in
    let third : slice_get words 2 ≡ Some second_word = search rules in
    let fourth : slice_get words 3 ≡ Some third_word = search rules in
    c.two_file_command.ensures ∙ ap command_of (sym (four_words words name file second_word third_word count first second third fourth))

pub returns-in_ok-path-in-5-clause-task : goal.returns-in_ok-path-in-5-clause-task
returns-in_ok-path-in-5-clause-task c =
    let words = c.args.words.now in
    let name = c.as_str-name.result.now in
    let file = c.as_str-in-5.result.now in
    let bag = c.as_str-in-5-2.result.now in
    let step = c.as_str-in-5-3.result.now in
    let path = c.as_str-in-5-4.result.now in
    let count : length words ≡ 5 = search rules in
    let first : slice_get words 0 ≡ Some name = search rules in
    let second : slice_get words 1 ≡ Some file = search rules in
    let third : slice_get words 2 ≡ Some bag = search rules in
    let fourth : slice_get words 3 ≡ Some step = search rules in
    let fifth : slice_get words 4 ≡ Some path = search rules in
    c.place_command.ensures ∙ ap command_of (sym (five_words words name file bag step path count first second third fourth fifth))

pub returns-in-1-clause-range : goal.returns-in-1-clause-range
returns-in-1-clause-range c = within_limits c.args.words.now c.bare_command.result (returns-in-1-clause-task c)

pub returns-in_ok-get-in-2-clause-range : goal.returns-in_ok-get-in-2-clause-range
returns-in_ok-get-in-2-clause-range c = within_limits c.args.words.now c.numbered_command.result (returns-in_ok-get-in-2-clause-task c)

pub returns-in_ok-get-in-3-2-clause-range : goal.returns-in_ok-get-in-3-2-clause-range
returns-in_ok-get-in-3-2-clause-range c = within_limits c.args.words.now c.definition_command.result (returns-in_ok-get-in-3-2-clause-task c)

pub returns-in_ok-third-in-4-clause-range : goal.returns-in_ok-third-in-4-clause-range
returns-in_ok-third-in-4-clause-range c = within_limits c.args.words.now c.two_file_command.result (returns-in_ok-third-in-4-clause-task c)

pub returns-in_ok-path-in-5-clause-range : goal.returns-in_ok-path-in-5-clause-range
returns-in_ok-path-in-5-clause-range c = within_limits c.args.words.now c.place_command.result (returns-in_ok-path-in-5-clause-task c)
