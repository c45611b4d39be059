use Rattle.std.proofs.Common.{◌≡◌, ◌∙◌, inr, refl, ap, map, string_bytes}
use Rattle.clap.specs.Faults.{is_simple_and_free}
use Rattle.clap.specs.Simple.{app_of, is_simple}
use Rattle.clap.specs.declared.error.kind.ErrorKind.TheVariants.{OutOfMemory}
use Rattle.command_words.specs.Clap.{rho}
use Rattle.command_words.proofs.Matching.{matches_give, matches_there, not_memory}
use Rattle.command_words.proofs.matches.matches_of.Goals as goal

pub returns-in-Ok-clause-found : goal.returns-in-Ok-clause-found
returns-in-Ok-clause-found c =
    let is : app_of c.in_ok-command.command ≡ rho = c.in_ok-command.ensures in
    let words = map string_bytes c.args.words.now in (
      matches_there _ words is (c.in-Ok.ensures.kinds (ap is_simple_and_free is)),
      matches_give _ words c.in-Ok.matches is (c.in-Ok.ensures.matches (ap is_simple is)).0,
    )

pub returns : goal.returns
returns c =
    let is : app_of c.in_ok-command.command ≡ rho = c.in_ok-command.ensures in
    let words = map string_bytes c.args.words.now in
    let other = λ (e : c.in-Err.error.kind ≡ OutOfMemory). c.in_default.not-OutOfMemory (c.kind.ensures ∙ e) in
    record {
      found = tt;
      refused = inr (refl, not_memory _ words c.in-Err.error.kind is other (c.in-Err.ensures.kinds (ap is_simple_and_free is)));
    }
