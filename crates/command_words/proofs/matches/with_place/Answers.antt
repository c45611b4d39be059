use Rattle.std.proofs.Common.{◌≡◌, ◌∙◌, ap₂, subst}
use Rattle.std.specs.Prelude.{Result}
use Rattle.std.proofs.lemmas.Result.{IfOk-weaker}
use Rattle.clap.specs.Simple.{app_of, with_rule}
use Rattle.clap.specs.declared.builder.command.Command.{Command}
use Rattle.command_words.specs.Clap.{HasApp}
use Rattle.command_words.proofs.matches.with_place.Goals as goal

pub returns : goal.returns
returns c before has =
    let was : app_of c.in_ok-command.command ≡ before = subst (λ (r : Result Command _). HasApp r before) c.in_ok-command.was has in
    IfOk-weaker c.arg.result _ _ (λ m added. added.shape c.new.ensures.optional.1 ∙ ap₂ with_rule was c.new.ensures.rule) c.arg.ensures
