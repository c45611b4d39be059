-- The worked examples, by computation.
use Rattle.std.proofs.Common.{◌≡◌, ℕ, ◌-◌, List, [], ◌∷◌, false, subst, refl, length, arith}
use Rattle.std.specs.Prelude.{Some, drop as leave, codes}
use Rattle.calculus.specs.Meaning.{row_of}
use Rattle.tokens.specs.Token.{source, printed, Token, key, sign, end_of_text}
use Rattle.grammar.specs.declared.dialect.Dialect.TheVariants.{Tutorial}
use Rattle.grammar.specs.declared.fault.Fault.TheVariants.{Syntax, TooDeep}
use Rattle.grammar.specs.declared.mark.Mark.TheVariants as marks
use Rattle.grammar.specs.Descent.{read, fault, runs_text, runs_last, no_at, Runs}
use Rattle.grammar.specs.GrammarExamples.{num, blocks}
use Rattle.grammar.specs.Rules.{Par, last}
use Rattle.grammar.specs.Terminals.{a_fresh_name, Terminal, text, terminals, sees}
use Rattle.grammar.specs.Values.{Spelt, processes, leaf, nil, send_of, fresh_of}
use Rattle.grammar.proofs.Descending.{descend, descended, read_so, stops_so}
use Rattle.grammar.specs.PlaceExamples.{InnermostBlock, SendPasses, QuotedSendPasses, SecondSumPasses, PrefixPasses, QuotedDropPasses, NamePasses, NameStops, TwoBars, OpenSend, TwoNumbers, CaseOfMinus}
use Rattle.grammar.specs.Places.{PassesAt, EndsAt}
use Rattle.grammar.proofs.Exact.{exact, syntax, behind}
use Rattle.grammar.proofs.Faults.{higher}
use Rattle.grammar.proofs.Resumes.{last_fails}

-- where descent has no room at the token of this number
deep_at : (free at : ℕ) (tokens : List Token) → descend 6000 Tutorial free (last (Par processes)) (terminals source tokens) ≡ Some (fault TooDeep (leave at (terminals source tokens)))
    → length tokens - length (leave at (terminals source tokens)) ≡ at → PassesAt source Tutorial free tokens at
deep_at free at tokens e l = subst (λ (k : ℕ). PassesAt source Tutorial free tokens k) l
    (exact Tutorial free tokens (leave at (terminals source tokens)) (descended 6000 Tutorial free (last (Par processes)) (terminals source tokens) (fault TooDeep (leave at (terminals source tokens))) e))

-- where it meets a fault of syntax there
ends_at : (at : ℕ) (tokens : List Token) → descend 6000 Tutorial 200 (last (Par processes)) (terminals source tokens) ≡ Some (fault Syntax (leave at (terminals source tokens)))
    → length tokens - length (leave at (terminals source tokens)) ≡ at → EndsAt source Tutorial 200 tokens at
ends_at at tokens e l = subst (λ (k : ℕ). EndsAt source Tutorial 200 tokens k) l
    (syntax Tutorial 200 tokens (leave at (terminals source tokens)) (descended 6000 Tutorial 200 (last (Par processes)) (terminals source tokens) (fault Syntax (leave at (terminals source tokens))) e))

-- where it has read a process before it
read_to : (at : ℕ) (tokens : List Token) (v : Spelt) → descend 6000 Tutorial 200 (last (Par processes)) (terminals source tokens) ≡ Some (read v (leave at (terminals source tokens)))
    → sees marks.End (leave at (terminals source tokens)) ≡ false → length tokens - length (leave at (terminals source tokens)) ≡ at → EndsAt source Tutorial 200 tokens at
read_to at tokens v e s l = subst (λ (k : ℕ). EndsAt source Tutorial 200 tokens k) l
    (behind source Tutorial 200 tokens v (leave at (terminals source tokens))
    (descended 6000 Tutorial 200 (last (Par processes)) (terminals source tokens) (read v (leave at (terminals source tokens))) e) s)

pub innermost_block : InnermostBlock
innermost_block = deep_at 200 200 (blocks 201) refl refl

pub send_passes : SendPasses
send_passes = deep_at 0 1 _ refl refl

pub quoted_send_passes : QuotedSendPasses
quoted_send_passes = deep_at 0 0 _ refl refl

pub second_sum_passes : SecondSumPasses
second_sum_passes = deep_at 1 3 _ refl refl

pub prefix_passes : PrefixPasses
prefix_passes = deep_at 0 1 _ refl refl

pub quoted_drop_passes : QuotedDropPasses
quoted_drop_passes = deep_at 0 1 _ refl refl

pub two_bars : TwoBars
two_bars = ends_at 2 _ refl refl

pub open_send : OpenSend
open_send = ends_at 4 _ refl refl

pub two_numbers : TwoNumbers
two_numbers = read_to 1 _ (leaf (num 1)) refl refl refl

pub case_of_minus : CaseOfMinus
case_of_minus = ends_at 3 _ refl refl

-- a fresh name where nothing may be opened
name_fails : (zs : List Terminal) → Runs Tutorial 0 (last (Par processes)) (text a_fresh_name (1 ∷ []) ∷ zs) (fault (last_fails Tutorial (leaf (fresh_of (1 ∷ []))) zs).0 zs)
name_fails zs = runs_last (no_at (runs_last (runs_text (record { is = refl }) (last_fails Tutorial (leaf (fresh_of (1 ∷ []))) zs).2)))

pub name_passes : NamePasses
name_passes = record {
  at = record {
    within = omega arith;
    some = (
      sign (codes "!") ∷ sign (codes "(") ∷ sign (codes ")") ∷ end_of_text ∷ [],
      send_of processes false (fresh_of (1 ∷ [])) (row_of []),
      1,
      read_so Tutorial _ _ _ _ refl,
    );
    none = λ after p h t. let m = last_fails Tutorial (leaf (fresh_of (1 ∷ []))) (terminals printed after) in
        higher Tutorial 0 (text a_fresh_name (1 ∷ []) ∷ terminals printed after) (terminals printed after) m.0 m.1 (name_fails (terminals printed after)) p h t;
  };
  first = (key (codes "Nil") ∷ end_of_text ∷ [], nil, 0, omega arith, read_so Tutorial _ _ _ _ refl);
}

pub name_stops : NameStops
name_stops = stops_so Tutorial 0 _ _ _ _ refl
