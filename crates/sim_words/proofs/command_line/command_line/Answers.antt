use Rattle.std.proofs.Common.{◌≡◌, ◌∙◌, ap, codes, true, []}
use Rattle.std.proofs.lemmas.Result.{IfOk-weaker}
use Rattle.clap.specs.Words.{App, Rule, app_of, with_rule}
use Rattle.clap.specs.Simple.{app_of_fields, new_shape}
use Rattle.clap.specs.declared.builder.command.Command.{Command}
use Rattle.clap.specs.declared.builder.command.Command.TheOpen.{Command-F}
use Rattle.sim_words.specs.CommandLine.{json_rule, option_rule, place_rule}
use Rattle.sim_words.proofs.command_line.command_line.Goals as goal

abbrev start : App
start = record { top = record (new_shape (codes "hiersim")) { no_binary_name = true; disable_help_flag = true; disable_version_flag = true }; subs = [] }

one_more : (a b : App) (r : Rule) → a ≡ b → with_rule a r ≡ with_rule b r
one_more a b r e = ap (λ (x : App). with_rule x r) e

pub returns : goal.returns
returns c =
    let new_is : app_of c.disable_version_flag-command.result ≡ start = ap app_of_fields (c.disable_version_flag-command.ensures
    ∙ ap (λ (f : Command-F Command). record f { disable_version_flag = true }) (c.disable_help_flag.ensures
    ∙ ap (λ (f : Command-F Command). record f { disable_help_flag = true }) c.no_binary_name.ensures))
    ∙ ap (λ (a : App). record a { top = record a.top { no_binary_name = true; disable_help_flag = true; disable_version_flag = true } }) c.new.ensures.app in
    let one = c.in_ok-command.ensures ∙ one_more _ _ (place_rule (codes "command")) new_is in
    let two = c.in_ok-command-2.ensures ∙ one_more _ _ (place_rule (codes "file")) one in
    let base = c.in_ok-command-3.ensures ∙ one_more _ _ (option_rule (codes "base")) two in
    let pages = c.in_ok-command-4.ensures ∙ one_more _ _ (option_rule (codes "pages")) base in
    let frames = c.in_ok-command-5.ensures ∙ one_more _ _ (option_rule (codes "frames")) pages in
    let codec = c.in_ok-command-6.ensures ∙ one_more _ _ (option_rule (codes "codec")) frames in
    let l1_sets = c.in_ok-command-7.ensures ∙ one_more _ _ (option_rule (codes "l1-sets")) codec in
    let l1_ways = c.in_ok-command-8.ensures ∙ one_more _ _ (option_rule (codes "l1-ways")) l1_sets in
    let l2_sets = c.in_ok-command-9.ensures ∙ one_more _ _ (option_rule (codes "l2-sets")) l1_ways in
    let l2_ways = c.in_ok-command-10.ensures ∙ one_more _ _ (option_rule (codes "l2-ways")) l2_sets in
    let meta = c.in_ok-command-11.ensures ∙ one_more _ _ (option_rule (codes "meta")) l2_ways in
    let budget = c.in_ok-command-12.ensures ∙ one_more _ _ (option_rule (codes "budget")) meta in
    let beats = c.in_ok-command-13.ensures ∙ one_more _ _ (option_rule (codes "beats")) budget in
    IfOk-weaker c.with_json.result _ _ (λ r e. e ∙ one_more _ _ json_rule beats) c.with_json.ensures
