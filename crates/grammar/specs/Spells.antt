-- What tokens spell.
use Rattle.std.specs.Prelude.{◌≡◌, ℕ, ◌≤◌, Bool, true, List, [], ◌∷◌}
use Rattle.calculus.specs.Written.{Written}
use Rattle.tokens.specs.Token.{Notation, Token}
use Rattle.grammar.specs.declared.dialect.Dialect.{Dialect}
use Rattle.grammar.specs.declared.mark.Mark.{Mark}
use Rattle.grammar.specs.declared.mark.Mark.TheVariants as marks
use Rattle.grammar.specs.Grammar.{rule}
use Rattle.grammar.specs.Productions.{Prod}
use Rattle.grammar.specs.Rules.{Sort, Par, Rule, done, sign, opens, next, opens_next, holds, integer, at, under, last}
use Rattle.grammar.specs.Terminals.{Holding, Terminal, text, number, mark, terminals}
use Rattle.grammar.specs.Values.{Spelt, spelt, processes}

-- in a dialect, the front of these terminals is spelt by the rule as this value, and these are the rest
pub data Reads (d : Dialect) : Rule → List Terminal → Spelt → List Terminal → Type 0 where
  of_done : {v : Spelt} {ts : List Terminal} → Reads d (done v) ts v ts
  of_sign : {m : Mark} {r : Rule} {ts rest : List Terminal} {v : Spelt} → Reads d r ts v rest → Reads d (sign m r) (mark m ∷ ts) v rest
  of_opens : {m : Mark} {h : ℕ} {r : Rule} {ts rest : List Terminal} {v : Spelt} → Reads d r ts v rest → Reads d (opens m h r) (mark m ∷ ts) v rest
  of_next : {test : Terminal → Bool} {r : Rule} {t : Terminal} {ts rest : List Terminal} {v : Spelt} → test t ≡ true
      → Reads d r (t ∷ ts) v rest → Reads d (next test r) (t ∷ ts) v rest
  of_opens_next : {test : Terminal → Bool} {r : Rule} {t : Terminal} {ts rest : List Terminal} {v : Spelt} → test t ≡ true
      → Reads d r (t ∷ ts) v rest → Reads d (opens_next test r) (t ∷ ts) v rest
  of_text : {k : Holding} {w : List ℕ} {f : List ℕ → Rule} {ts rest : List Terminal} {v : Spelt}
      → Reads d (f w) ts v rest → Reads d (holds k f) (text k w ∷ ts) v rest
  of_integer : {most n : ℕ} {f : ℕ → Rule} {ts rest : List Terminal} {v : Spelt} → n ≤ most
      → Reads d (f n) ts v rest → Reads d (integer most f) (number n ∷ ts) v rest
  of_at : {s : Sort} {f : Spelt → Rule} {ts mid rest : List Terminal} {a v : Spelt} (p : Prod s)
      → Reads d (rule d p) ts a mid → Reads d (f a) mid v rest → Reads d (at s f) ts v rest
  of_under : {s : Sort} {f : Spelt → Rule} {ts mid rest : List Terminal} {a v : Spelt} (p : Prod s)
      → Reads d (rule d p) ts a mid → Reads d (f a) mid v rest → Reads d (under s f) ts v rest
  of_last : {s : Sort} {ts rest : List Terminal} {v : Spelt} (p : Prod s) → Reads d (rule d p) ts v rest → Reads d (last s) ts v rest

-- in a dialect, these tokens of a source or a printed text spell this process, with a text of this height: Text ::= Par End
abbrev pub Spells : Notation → Dialect → List Token → Written → ℕ → Type 0
Spells notation d tokens process height =
    Reads d (last (Par processes)) (terminals notation tokens) (spelt process height) (mark marks.End ∷ [])

-- no process is spelt, of any height
abbrev pub SpellsNothing : Notation → Dialect → List Token → Type 0
SpellsNothing notation d tokens = (process : Written) (height : ℕ) → Spells notation d tokens process height → ⊥
