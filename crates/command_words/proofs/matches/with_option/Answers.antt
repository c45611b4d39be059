use Rattle.std.proofs.Common.{◌≡◌, ◌∙◌, ap, ap₂, false, Some, subst}
use Rattle.std.specs.Borrow.{Bor}
use Rattle.std.specs.Prelude.{Result}
use Rattle.std.proofs.lemmas.Result.{IfOk-weaker}
use Rattle.clap.specs.Simple.{app_of, new_rule, with_rule}
use Rattle.clap.specs.Walk.{Rule, rule_of}
use Rattle.clap.specs.declared.builder.arg.Arg.{Arg}
use Rattle.clap.specs.declared.builder.command.Command.{Command}
use Rattle.command_words.specs.Arguments.{Text}
use Rattle.command_words.specs.Clap.{HasApp, option_rule}
use Rattle.command_words.proofs.matches.with_option.Goals as goal

-- a new argument with a long name is an option
is_option : (a b : Arg) (name : Bor Text) → b ≡ record a { long = Some name } → a.global ≡ false → rule_of a ≡ new_rule name.now
    → (b.global ≡ false) × (rule_of b ≡ option_rule name.now)
is_option a b name is local new = (
  ap (λ (x : Arg). x.global) is ∙ local,
  ap rule_of is ∙ ap (λ (r : Rule). record r { long = Some name.now }) new,
)

pub returns : goal.returns
returns c before has =
    let was : app_of c.in_ok-command.command ≡ before = subst (λ (r : Result Command _). HasApp r before) c.in_ok-command.was has in
    let option = is_option c.new.result c.long.result c.args.name c.long.ensures c.new.ensures.optional.1 c.new.ensures.rule in
    IfOk-weaker c.arg.result _ _ (λ m added. added.shape option.0 ∙ ap₂ with_rule was option.1) c.arg.ensures
