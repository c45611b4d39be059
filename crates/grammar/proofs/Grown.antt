-- How a text that begins with given terminals is made longer.
use Rattle.std.proofs.Common.{◌≡◌, ℕ, ◌≤◌, List, [], ◌∷◌, ◌++◌, Bool, true, sym, ap, ◌∙◌, subst, append_assoc}
use Rattle.tokens.specs.Token.{Notation, Token}
use Rattle.grammar.specs.declared.dialect.Dialect.{Dialect}
use Rattle.grammar.specs.declared.mark.Mark.{Mark}
use Rattle.grammar.specs.Grammar.{rule}
use Rattle.grammar.specs.Productions.{Prod}
use Rattle.grammar.specs.Rules.{Sort, Rule, sign, opens, next, opens_next, holds, integer, at, under, last}
use Rattle.grammar.specs.Spells.{Reads, of_sign, of_opens, of_next, of_opens_next, of_text, of_integer, of_at, of_under, of_last}
use Rattle.grammar.specs.Terminals.{Holding, Terminal, text, number, mark, terminals}
use Rattle.grammar.specs.Values.{Spelt}
use Rattle.grammar.proofs.Texts.{Whole, Grows}
use Rattle.grammar.proofs.Tokens.{both_terminals}

-- from nothing
pub grow_whole : {n : Notation} {d : Dialect} {r : Rule} {most : ℕ} (w : Whole n d r) → w.value.height ≤ most → Grows n d r most []
grow_whole w l = record { after = w.tokens; value = w.value; low = l; reads = λ rest. w.reads rest }

-- one terminal in front
pub grow_sign : {n : Notation} {d : Dialect} {r : Rule} {most : ℕ} {pre : List Terminal} (m : Mark) → Grows n d r most pre → Grows n d (sign m r) most (mark m ∷ pre)
grow_sign m g = record { after = g.after; value = g.value; low = g.low; reads = λ rest. of_sign (g.reads rest) }

pub grow_opens : {n : Notation} {d : Dialect} {r : Rule} {most : ℕ} {pre : List Terminal} (m : Mark) (h : ℕ) → Grows n d r most pre → Grows n d (opens m h r) most (mark m ∷ pre)
grow_opens m h g = record { after = g.after; value = g.value; low = g.low; reads = λ rest. of_opens (g.reads rest) }

pub grow_text : {n : Notation} {d : Dialect} {most : ℕ} {pre : List Terminal} (k : Holding) (f : List ℕ → Rule) (w : List ℕ) → Grows n d (f w) most pre → Grows n d (holds k f) most (text k w ∷ pre)
grow_text k f w g = record { after = g.after; value = g.value; low = g.low; reads = λ rest. of_text (g.reads rest) }

pub grow_integer : {n : Notation} {d : Dialect} {most : ℕ} {pre : List Terminal} (top : ℕ) (f : ℕ → Rule) (i : ℕ) → i ≤ top → Grows n d (f i) most pre
    → Grows n d (integer top f) most (number i ∷ pre)
grow_integer top f i l g = record { after = g.after; value = g.value; low = g.low; reads = λ rest. of_integer l (g.reads rest) }

-- a test of the first terminal
pub grow_next : {n : Notation} {d : Dialect} {r : Rule} {most : ℕ} {pre : List Terminal} (test : Terminal → Bool) (t : Terminal) → test t ≡ true → Grows n d r most (t ∷ pre)
    → Grows n d (next test r) most (t ∷ pre)
grow_next test t e g = record { after = g.after; value = g.value; low = g.low; reads = λ rest. of_next e (g.reads rest) }

pub grow_opens_next : {n : Notation} {d : Dialect} {r : Rule} {most : ℕ} {pre : List Terminal} (test : Terminal → Bool) (t : Terminal) → test t ≡ true → Grows n d r most (t ∷ pre)
    → Grows n d (opens_next test r) most (t ∷ pre)
grow_opens_next test t e g = record { after = g.after; value = g.value; low = g.low; reads = λ rest. of_opens_next e (g.reads rest) }

-- a production of the sort
pub grow_last : {n : Notation} {d : Dialect} {s : Sort} {most : ℕ} {pre : List Terminal} (p : Prod s) → Grows n d (rule d p) most pre → Grows n d (last s) most pre
grow_last p g = record { after = g.after; value = g.value; low = g.low; reads = λ rest. of_last p (g.reads rest) }

-- a constituent in front
pub grow_at : {n : Notation} {d : Dialect} {most : ℕ} {pre : List Terminal} {s : Sort} (f : Spelt → Rule) (p : Prod s) (a : Spelt) (l : List Terminal)
    → ((zs : List Terminal) → Reads d (rule d p) (l ++ zs) a zs) → Grows n d (f a) most pre → Grows n d (at s f) most (l ++ pre)
grow_at {n = n} {d = d} {pre = pre} {s = s} f p a l k g = record {
  after = g.after;
  value = g.value;
  low = g.low;
  reads = λ rest. subst (λ (x : List Terminal). Reads d (at s f) x g.value rest) (sym (append_assoc l pre (terminals n g.after ++ rest)))
      (of_at p (k (pre ++ (terminals n g.after ++ rest))) (g.reads rest));
}

pub grow_under : {n : Notation} {d : Dialect} {most : ℕ} {pre : List Terminal} {s : Sort} (f : Spelt → Rule) (p : Prod s) (a : Spelt) (l : List Terminal)
    → ((zs : List Terminal) → Reads d (rule d p) (l ++ zs) a zs) → Grows n d (f a) most pre → Grows n d (under s f) most (l ++ pre)
grow_under {n = n} {d = d} {pre = pre} {s = s} f p a l k g = record {
  after = g.after;
  value = g.value;
  low = g.low;
  reads = λ rest. subst (λ (x : List Terminal). Reads d (under s f) x g.value rest) (sym (append_assoc l pre (terminals n g.after ++ rest)))
      (of_under p (k (pre ++ (terminals n g.after ++ rest))) (g.reads rest));
}

-- what a sort reads is read by a production of it
produced : {d : Dialect} {s : Sort} {ts rest : List Terminal} {v : Spelt} → Reads d (last s) ts v rest → (p : Prod s) × Reads d (rule d p) ts v rest
produced (of_last p k) = (p, k)

-- tokens of two parts behind what was read
behind : (n : Notation) (pre : List Terminal) (a b : List Token) (rest : List Terminal) → pre ++ (terminals n a ++ (terminals n b ++ rest)) ≡ pre ++ (terminals n (a ++ b) ++ rest)
behind n pre a b rest = ap (λ x. pre ++ x) (sym (append_assoc (terminals n a) (terminals n b) rest) ∙ ap (λ x. x ++ rest) (sym (both_terminals n a b)))

-- a constituent that is begun, with what finishes the rule behind it
pub close_at : {n : Notation} {d : Dialect} {low most : ℕ} {pre : List Terminal} {s : Sort} (f : Spelt → Rule) (g : Grows n d (last s) low pre) (w : Whole n d (f g.value))
    → w.value.height ≤ most → Grows n d (at s f) most pre
close_at {n = n} {d = d} {pre = pre} {s = s} f g w l = record {
  after = g.after ++ w.tokens;
  value = w.value;
  low = l;
  reads = λ rest. let p = produced (g.reads (terminals n w.tokens ++ rest)) in
      subst (λ (x : List Terminal). Reads d (at s f) x w.value rest) (behind n pre g.after w.tokens rest) (of_at p.0 p.1 (w.reads rest));
}

pub close_under : {n : Notation} {d : Dialect} {low most : ℕ} {pre : List Terminal} {s : Sort} (f : Spelt → Rule) (g : Grows n d (last s) low pre) (w : Whole n d (f g.value))
    → w.value.height ≤ most → Grows n d (under s f) most pre
close_under {n = n} {d = d} {pre = pre} {s = s} f g w l = record {
  after = g.after ++ w.tokens;
  value = w.value;
  low = l;
  reads = λ rest. let p = produced (g.reads (terminals n w.tokens ++ rest)) in
      subst (λ (x : List Terminal). Reads d (under s f) x w.value rest) (behind n pre g.after w.tokens rest) (of_under p.0 p.1 (w.reads rest));
}
