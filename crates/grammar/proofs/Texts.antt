-- Texts of tokens that a rule reads to its end, and texts that begin with given terminals.
use Rattle.std.proofs.Common.{◌≡◌, ℕ, ◌≤◌, List, [], ◌∷◌, ◌++◌, sym, ap, ◌∙◌, subst, append_assoc, arith}
use Rattle.tokens.specs.Token.{Notation, Token, word, uri, integer as number_token}
use Rattle.grammar.specs.declared.dialect.Dialect.{Dialect}
use Rattle.grammar.specs.declared.mark.Mark.{Mark}
use Rattle.grammar.specs.Grammar.{rule}
use Rattle.grammar.specs.Productions.{Prod}
use Rattle.grammar.specs.Rules.{Sort, Rule, done, sign, holds, integer, at, under, last}
use Rattle.grammar.specs.Spells.{Reads, of_done, of_sign, of_text, of_integer, of_at, of_under, of_last}
use Rattle.grammar.specs.Terminals.{a_word, a_uri, Terminal, mark, terminals}
use Rattle.grammar.specs.Values.{Spelt}
use Rattle.grammar.proofs.Tokens.{token_of, token_mark, both_terminals}

-- tokens that the rule reads, whatever follows
pub record Whole (n : Notation) (d : Dialect) (r : Rule) : Type 0 where
  pub tokens : List Token
  pub value : Spelt
  pub reads : (rest : List Terminal) → Reads d r (terminals n tokens ++ rest) value rest

-- some text of the rule, of at most this height, begins with these terminals
pub record Grows (n : Notation) (d : Dialect) (r : Rule) (most : ℕ) (pre : List Terminal) : Type 0 where
  pub after : List Token
  pub value : Spelt
  pub low : value.height ≤ most
  pub reads : (rest : List Terminal) → Reads d r (pre ++ (terminals n after ++ rest)) value rest

-- two parts of tokens, one behind the other
pub parts : (n : Notation) (d : Dialect) (r : Rule) (a b : List Token) (v : Spelt) (rest : List Terminal) → Reads d r (terminals n a ++ (terminals n b ++ rest)) v rest
    → Reads d r (terminals n (a ++ b) ++ rest) v rest
parts n d r a b v rest k =
    let e : terminals n (a ++ b) ++ rest ≡ terminals n a ++ (terminals n b ++ rest) = ap (λ x. x ++ rest) (both_terminals n a b) ∙ append_assoc (terminals n a) (terminals n b) rest in
    subst (λ (x : List Terminal). Reads d r x v rest) (sym e) k

pub first_mark : (n : Notation) (d : Dialect) (r : Rule) (m : Mark) (ts : List Terminal) (v : Spelt) (rest : List Terminal) → Reads d r (mark m ∷ ts) v rest
    → Reads d r (terminals n (token_of m ∷ []) ++ ts) v rest
first_mark n d r m ts v rest k = subst (λ (x : Terminal). Reads d r (x ∷ ts) v rest) (sym (token_mark n m)) k

abbrev pub whole_done : {n : Notation} {d : Dialect} (v : Spelt) → Whole n d (done v)
whole_done v = record { tokens = []; value = v; reads = λ rest. of_done }

abbrev pub whole_sign : {n : Notation} {d : Dialect} {r : Rule} (m : Mark) → Whole n d r → Whole n d (sign m r)
whole_sign {n = n} {d = d} {r = r} m w = record {
  tokens = token_of m ∷ w.tokens;
  value = w.value;
  reads = λ rest. first_mark n d (sign m r) m (terminals n w.tokens ++ rest) w.value rest (of_sign (w.reads rest));
}

abbrev pub whole_word : {n : Notation} {d : Dialect} {f : List ℕ → Rule} → Whole n d (f []) → Whole n d (holds a_word f)
whole_word w = record { tokens = word [] ∷ w.tokens; value = w.value; reads = λ rest. of_text (w.reads rest) }

abbrev pub whole_uri : {n : Notation} {d : Dialect} {f : List ℕ → Rule} → Whole n d (f []) → Whole n d (holds a_uri f)
whole_uri w = record { tokens = uri [] ∷ w.tokens; value = w.value; reads = λ rest. of_text (w.reads rest) }

abbrev pub whole_integer : {n : Notation} {d : Dialect} {f : ℕ → Rule} (most : ℕ) → Whole n d (f 0) → Whole n d (integer most f)
whole_integer most w = record { tokens = number_token 0 ∷ w.tokens; value = w.value; reads = λ rest. of_integer (omega arith) (w.reads rest) }

abbrev pub whole_at : {n : Notation} {d : Dialect} {s : Sort} {f : Spelt → Rule} (p : Prod s) (a : Whole n d (rule d p)) → Whole n d (f a.value) → Whole n d (at s f)
whole_at {n = n} {d = d} {s = s} {f = f} p a w = record {
  tokens = a.tokens ++ w.tokens;
  value = w.value;
  reads = λ rest. parts n d (at s f) a.tokens w.tokens w.value rest (of_at p (a.reads (terminals n w.tokens ++ rest)) (w.reads rest));
}

abbrev pub whole_under : {n : Notation} {d : Dialect} {s : Sort} {f : Spelt → Rule} (p : Prod s) (a : Whole n d (rule d p)) → Whole n d (f a.value) → Whole n d (under s f)
whole_under {n = n} {d = d} {s = s} {f = f} p a w = record {
  tokens = a.tokens ++ w.tokens;
  value = w.value;
  reads = λ rest. parts n d (under s f) a.tokens w.tokens w.value rest (of_under p (a.reads (terminals n w.tokens ++ rest)) (w.reads rest));
}

abbrev pub whole_last : {n : Notation} {d : Dialect} {s : Sort} (p : Prod s) → Whole n d (rule d p) → Whole n d (last s)
whole_last p w = record { tokens = w.tokens; value = w.value; reads = λ rest. of_last p (w.reads rest) }
