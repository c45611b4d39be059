-- Descent: what a reader comes to that looks at the next terminals alone, goes through the productions from the left, and may still open a number of forms.
use Rattle.std.specs.Prelude.{⊤, ◌≡◌, ℕ, ◌-◌, ◌<◌, ◌≤◌, leb, Bool, true, false, ◌⊎◌, List, [], ◌∷◌}
use Rattle.tokens.specs.Token.{Notation, Token}
use Rattle.grammar.specs.declared.dialect.Dialect.{Dialect}
use Rattle.grammar.specs.declared.fault.Fault.{Fault}
use Rattle.grammar.specs.declared.fault.Fault.TheVariants.{Syntax, TooDeep, NoMemory}
use Rattle.grammar.specs.declared.mark.Mark.{Mark}
use Rattle.grammar.specs.Choice.{choose, sees_text}
use Rattle.grammar.specs.Grammar.{rule}
use Rattle.grammar.specs.Rules.{Sort, Par, Rule, done, sign, opens, next, opens_next, holds, integer, at, under, last}
use Rattle.grammar.specs.Terminals.{Holding, Terminal, text, number, mark, sees, terminals}
use Rattle.grammar.specs.Values.{Spelt, processes}

-- what reading comes to: a value and the rest, or a fault and where it shows
pub data Outcome : Type 0 where
  read : Spelt → List Terminal → Outcome
  fault : Fault → List Terminal → Outcome

-- an Int of at most this value is next
abbrev pub sees_integer : ℕ → List Terminal → Bool
sees_integer most (number n ∷ ts) = leb n most
sees_integer most _ = false

-- the next terminal passes the test
abbrev pub shows : (Terminal → Bool) → List Terminal → Bool
shows test [] = false
shows test (t ∷ ts) = test t

-- the next terminal is the mark, and `us` is what follows
pub record Takes (m : Mark) (ts us : List Terminal) : Type 0 where
  pub is : ts ≡ mark m ∷ us

-- it opens a form, to whose left a part of height h stands, and there is room for it
pub record TakesOpening (m : Mark) (h free : ℕ) (ts us : List Terminal) : Type 0 where
  pub is : ts ≡ mark m ∷ us
  pub room : h < free

-- the next terminal is this text
pub record TakesText (k : Holding) (w : List ℕ) (ts us : List Terminal) : Type 0 where
  pub is : ts ≡ text k w ∷ us

-- the next terminal is this Int, which is small enough
pub record TakesInteger (most n : ℕ) (ts us : List Terminal) : Type 0 where
  pub is : ts ≡ number n ∷ us
  pub fits : n ≤ most

-- what is wanted isn't next, and `us` is where that shows
pub record Stuck (seen : Bool) (ts : List Terminal) (e : Fault) (us : List Terminal) : Type 0 where
  pub no : seen ≡ false
  pub is : e ≡ Syntax
  pub same : us ≡ ts

-- what is wanted is next, and opens a form for which there is no room
pub record Full (seen : Bool) (h free : ℕ) (ts : List Terminal) (e : Fault) (us : List Terminal) : Type 0 where
  pub yes : seen ≡ true
  pub room : free ≤ h
  pub is : e ≡ TooDeep
  pub same : us ≡ ts

-- what the rule comes to on the terminals `ts`, where so many forms may still be opened
pub data Runs (d : Dialect) : ℕ → Rule → List Terminal → Outcome → Type 0 where
  runs_done : {free : ℕ} {v : Spelt} {ts : List Terminal} → Runs d free (done v) ts (read v ts)
  runs_sign : {free : ℕ} {m : Mark} {r : Rule} {ts us : List Terminal} {out : Outcome}
      → Takes m ts us → Runs d free r us out → Runs d free (sign m r) ts out
  no_sign : {free : ℕ} {m : Mark} {r : Rule} {ts us : List Terminal} {e : Fault}
      → Stuck (sees m ts) ts e us → Runs d free (sign m r) ts (fault e us)
  runs_opens : {free : ℕ} {m : Mark} {h : ℕ} {r : Rule} {ts us : List Terminal} {out : Outcome}
      → TakesOpening m h free ts us → Runs d free r us out → Runs d free (opens m h r) ts out
  no_opens : {free : ℕ} {m : Mark} {h : ℕ} {r : Rule} {ts us : List Terminal} {e : Fault}
      → Stuck (sees m ts) ts e us ⊎ Full (sees m ts) h free ts e us → Runs d free (opens m h r) ts (fault e us)
  runs_next : {free : ℕ} {test : Terminal → Bool} {r : Rule} {ts : List Terminal} {out : Outcome}
      → shows test ts ≡ true → Runs d free r ts out → Runs d free (next test r) ts out
  no_next : {free : ℕ} {test : Terminal → Bool} {r : Rule} {ts us : List Terminal} {e : Fault}
      → Stuck (shows test ts) ts e us → Runs d free (next test r) ts (fault e us)
  runs_opens_next : {free : ℕ} {test : Terminal → Bool} {r : Rule} {ts : List Terminal} {out : Outcome}
      → shows test ts ≡ true → 0 < free → Runs d free r ts out → Runs d free (opens_next test r) ts out
  no_opens_next : {free : ℕ} {test : Terminal → Bool} {r : Rule} {ts us : List Terminal} {e : Fault}
      → Stuck (shows test ts) ts e us ⊎ Full (shows test ts) 0 free ts e us → Runs d free (opens_next test r) ts (fault e us)
  runs_text : {free : ℕ} {k : Holding} {f : List ℕ → Rule} {ts us : List Terminal} {out : Outcome} {w : List ℕ}
      → TakesText k w ts us → Runs d free (f w) us out → Runs d free (holds k f) ts out
  no_text : {free : ℕ} {k : Holding} {f : List ℕ → Rule} {ts us : List Terminal} {e : Fault}
      → Stuck (sees_text k ts) ts e us → Runs d free (holds k f) ts (fault e us)
  runs_integer : {free most : ℕ} {f : ℕ → Rule} {ts us : List Terminal} {out : Outcome} {n : ℕ}
      → TakesInteger most n ts us → Runs d free (f n) us out → Runs d free (integer most f) ts out
  no_integer : {free most : ℕ} {f : ℕ → Rule} {ts us : List Terminal} {e : Fault}
      → Stuck (sees_integer most ts) ts e us → Runs d free (integer most f) ts (fault e us)
  runs_at : {free : ℕ} {s : Sort} {f : Spelt → Rule} {ts us : List Terminal} {out : Outcome} {a : Spelt}
      → Runs d free (rule d (choose s ts)) ts (read a us) → Runs d free (f a) us out → Runs d free (at s f) ts out
  no_at : {free : ℕ} {s : Sort} {f : Spelt → Rule} {ts us : List Terminal} {e : Fault}
      → Runs d free (rule d (choose s ts)) ts (fault e us) → Runs d free (at s f) ts (fault e us)
  runs_under : {free : ℕ} {s : Sort} {f : Spelt → Rule} {ts us : List Terminal} {out : Outcome} {a : Spelt}
      → Runs d (free - 1) (rule d (choose s ts)) ts (read a us) → Runs d free (f a) us out → Runs d free (under s f) ts out
  no_under : {free : ℕ} {s : Sort} {f : Spelt → Rule} {ts us : List Terminal} {e : Fault}
      → Runs d (free - 1) (rule d (choose s ts)) ts (fault e us) → Runs d free (under s f) ts (fault e us)
  runs_last : {free : ℕ} {s : Sort} {ts : List Terminal} {out : Outcome}
      → Runs d free (rule d (choose s ts)) ts out → Runs d free (last s) ts out
  no_memory : {free : ℕ} {r : Rule} {ts us : List Terminal} → Runs d free r ts (fault NoMemory us)

-- what descent comes to on tokens, where so many forms may be opened
abbrev pub Descends : Notation → Dialect → ℕ → List Token → Outcome → Type 0
Descends notation d free tokens out = Runs d free (last (Par processes)) (terminals notation tokens) out

-- memory doesn't run out
abbrev pub IsSure : Outcome → Type 0
IsSure (read v us) = ⊤
IsSure (fault e us) = e ≡ NoMemory → ⊥
