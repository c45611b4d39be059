use Rattle.std.proofs.Common.{sym, ap, ◌∙◌}
use Rattle.calculus.specs.Printed.{variable_text}
use Rattle.printed_leaves.proofs.Forms.{shown}
use Rattle.printed_leaves.proofs.Singles.{name-quoted, name_variable-text, fresh_name-text, sign_written, whole_written}
use Rattle.printed_leaves.proofs.page.Page.name_of.Goals as goal

pub returns-in-NameVar : goal.returns-in-NameVar
returns-in-NameVar c = λ h.
    let k = c.variable.ensures h in (
      k.0,
      whole_written c.args.term.now c.args.depth _ _ (λ n.
          shown _ (name_variable-text c.in-NameVar.index c.args.part.now c.args.term.now c.args.depth n c.requires c.in-NameVar.is ∙ ap variable_text (sym c.number_of.ensures)) k.1),
    )

pub returns-in-Fresh : goal.returns-in-Fresh
returns-in-Fresh c = λ h.
    let k = c.fresh.ensures h in (
      k.0,
      whole_written c.args.term.now c.args.depth _ _ (λ n.
          shown _ (fresh_name-text c.in-Fresh.name c.args.part.now c.args.term.now c.args.depth n c.requires c.in-Fresh.is) k.1),
    )

pub returns-in_default : goal.returns-in_default
returns-in_default c = λ h.
    let k = c.sign.ensures.text h in (
      k.0,
      sign_written c.sign.result c.args.term.now c.args.depth _ _ c.sign.ensures.more k.1
          (name-quoted c.args.part.now c.args.term.now c.requires (λ i z. c.in_default.not-NameVar i z) (λ d z. c.in_default.not-Fresh d z)),
    )
