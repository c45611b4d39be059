use Rattle.std.proofs.Common.{Bool, List, ap, false, sym, ℕ, ◌≡◌, ◌∙◌}
use Rattle.std.specs.Prelude.{cond}
use Rattle.grammar.specs.Descent.{Outcome, Runs}
use Rattle.grammar.specs.Grammar.{rule}
use Rattle.grammar.specs.Productions.{Prod}
use Rattle.grammar.specs.Terminals.{Terminal}
use Rattle.grammar.specs.Values.{left_of, no_rest}
use Rattle.grammar.specs.declared.dialect.Dialect.TheVariants.{Tutorial}
use Rattle.token_cursor.proofs.Steps.{ends}
use Rattle.leaf_forms.proofs.left.left_alone.Goals as goal

-- neither a pattern nor a remainder is next
none_next : {free : ℕ} {ts : List Terminal} {out : Outcome} (p e : Bool) → p ≡ false → e ≡ false → Runs Tutorial free (rule Tutorial Prod.left_none) ts out
    → Runs Tutorial free (rule Tutorial (cond p Prod.left_some (cond e Prod.left_rest Prod.left_none))) ts out
none_next p e f g h = rw (f, g) h

pub returns-clause-reads : goal.returns-clause-reads
returns-clause-reads c = λ free. none_next _ _ c.requires (sym c.sees.ensures ∙ c.if-sees.false) (ends _ _ (c.left.ensures.tree ∙ ap (λ ps. (left_of ps 0 no_rest).tree) c.no_name_pats-none.ensures.tree) (c.left.ensures.height ∙ c.no_name_pats-none.ensures.height))
