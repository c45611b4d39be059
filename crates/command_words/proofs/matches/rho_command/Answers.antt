use Rattle.std.proofs.Common.{◌≡◌, ◌∙◌, ap, true}
use Rattle.clap.specs.Simple.{app_of, app_of_fields, on_top}
use Rattle.command_words.specs.Clap.{bare_rho}
use Rattle.command_words.proofs.matches.rho_command.Goals as goal

pub returns : goal.returns
returns c =
    let bare : app_of c.no_binary_name.result ≡ bare_rho =
    ap app_of_fields c.no_binary_name.ensures ∙ ap (on_top (λ s. record s { no_binary_name = true })) c.new.ensures.app in
    let verb = c.with_place-command.ensures _ bare in
    let file = c.with_place-command-2.ensures _ verb in
    let state = c.with_option-command.ensures _ file in
    let prices = c.with_option-command-2.ensures _ state in
    let limit = c.with_option-command-3.ensures _ prices in
    let log = c.with_option-command-4.ensures _ limit in
    let next = c.with_option-command-5.ensures _ log in
    let workers = c.with_option-command-6.ensures _ next in
    c.with_option.ensures _ workers
