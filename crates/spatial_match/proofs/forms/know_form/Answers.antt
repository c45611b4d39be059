use Rattle.std.proofs.Common.{List, sym, subst}
use Rattle.calculus.specs.Tree.{Tree, tuple}
use Rattle.calculus.specs.Shape.{many}
use Rattle.rho_term.specs.Parts.{part_tree}
use Rattle.rho_term.specs.declared.term.Part.{Part}
use Rattle.spatial_match.specs.Given.{Tries}
use Rattle.spatial_match.proofs.Compared.{no_send, others}
use Rattle.spatial_match.proofs.forms.know_form.Goals as goal

pub returns-in-Tuple : goal.returns-in-Tuple
returns-in-Tuple c h =
    absurd (c.know_members.ensures (subst (λ (ts : List Tree). Tries (many tuple ts)) (sym c.deref.ensures.value) (subst (λ (p : Part). Tries (part_tree p)) c.in-Tuple.is h)))

pub returns-in-Send : goal.returns-in-Send
returns-in-Send c h = absurd (no_send c.in-Send.persistent c.in-Send.channel c.in-Send.args c.know_term.ensures (subst (λ (p : Part). Tries (part_tree p)) c.in-Send.is h))

pub returns-in_default : goal.returns-in_default
returns-in_default c h = others c.args.form.now c.in_default.not-Tuple c.in_default.not-Send c.in_default.not-Bundle h
