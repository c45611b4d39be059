use Rattle.std.proofs.Common.{refl, ap, sym, ◌∙◌}
use Rattle.rho_term.specs.Measures.{sign}
use Rattle.rho_term.proofs.Forms.{name-same}
use Rattle.rho_term.proofs.faults.name_part_faults.Goals as goal

pub returns-in-NameVar : goal.returns-in-NameVar
returns-in-NameVar c = rw c.in-NameVar.is refl

pub returns-in_default : goal.returns-in_default
returns-in_default c = c.requires ∙ ap sign (sym (name-same c.args.part.now c.in_default.not-NameVar))
