-- What descent comes to depends on no terminal behind the place where it stops.
use Rattle.std.proofs.Common.{◌≡◌, ℕ, List, [], ◌∷◌, ◌++◌, Bool, true, false, subst, sym, refl, ap, ◌∙◌, ◌⊎◌, inl, inr, append_assoc}
use Rattle.grammar.specs.declared.dialect.Dialect.{Dialect}
use Rattle.grammar.specs.declared.fault.Fault.{Fault}
use Rattle.grammar.specs.Choice.{choose, sees_text}
use Rattle.grammar.specs.Descent.{Outcome, read, fault, IsSure, sees_integer, shows, Stuck, Full, Runs, runs_done, runs_sign, no_sign, runs_opens, no_opens, runs_next, no_next, runs_opens_next, no_opens_next, runs_text, no_text, runs_integer, no_integer, runs_at, no_at, runs_under, no_under, runs_last, no_memory}
use Rattle.grammar.specs.Grammar.{rule}
use Rattle.grammar.specs.Productions.{Prod}
use Rattle.grammar.specs.Rules.{Sort, Rule, at, under}
use Rattle.grammar.specs.Terminals.{Terminal, text, number, mark, sees}
use Rattle.grammar.proofs.Looks.{SameHead, Some, heads, more, IsNear, alike, near_sees, near_text, near_integer, near_shows, chosen, TakenBy, Takes, takes_rule}

-- the rest
abbrev pub left : Outcome → List Terminal
left (read v us) = us
left (fault e us) = us

-- the outcome with another rest
abbrev pub put : Outcome → List Terminal → Outcome
put (read v us) zs = read v zs
put (fault e us) zs = fault e zs

-- with another list behind the place, of one first terminal, the outcome stays
pub record Local (d : Dialect) (free : ℕ) (r : Rule) (ts : List Terminal) (out : Outcome) : Type 0 where
  pub pre : List Terminal
  pub is : ts ≡ pre ++ left out
  pub moves : (zs : List Terminal) → SameHead (left out) zs → Runs d free r (pre ++ zs) (put out zs)
  pub eats : (x : Terminal) (vs : List Terminal) → ts ≡ x ∷ vs → Takes x r → Some pre

stuck_moves : (f : List Terminal → Bool) → IsNear f → (ts us zs : List Terminal) (e : Fault) → SameHead us zs → Stuck (f ts) ts e us → Stuck (f zs) zs e zs
stuck_moves f near ts us zs e h n = record { no = sym (alike f near us zs h) ∙ (ap f n.same ∙ n.no); is = n.is; same = refl }

full_moves : (f : List Terminal → Bool) → IsNear f → (h free : ℕ) (ts us zs : List Terminal) (e : Fault) → SameHead us zs
    → Stuck (f ts) ts e us ⊎ Full (f ts) h free ts e us → Stuck (f zs) zs e zs ⊎ Full (f zs) h free zs e zs
full_moves f near h free ts us zs e s (inl n) = inl (stuck_moves f near ts us zs e s n)
full_moves f near h free ts us zs e s (inr n) = inr (record { yes = sym (alike f near us zs s) ∙ (ap f n.same ∙ n.yes); room = n.room; is = n.is; same = refl })

pub full_at : (b : Bool) (h free : ℕ) (ts us : List Terminal) (e : Fault) → Stuck b ts e us ⊎ Full b h free ts e us → ts ≡ us
full_at b h free ts us e (inl n) = sym n.same
full_at b h free ts us e (inr n) = sym n.same

-- what is missed isn't taken
untaken : (f : List Terminal → Bool) → IsNear f → (x : Terminal) (vs ts : List Terminal) → ts ≡ x ∷ vs → f ts ≡ false → f (x ∷ []) ≡ true → ⊥
untaken f near x vs ts e n t =
    let a : false ≡ true = sym n ∙ (ap f e ∙ (near x vs [] ∙ t)) in absurd (cc (a))

-- the production that is chosen stays the one that is chosen
pub keeps : {d : Dialect} {free : ℕ} {ts : List Terminal} {out : Outcome} (s : Sort) (l : Local d free (rule d (choose s ts)) ts out) (zs : List Terminal) → SameHead (left out) zs
    → Runs d free (rule d (choose s (l.pre ++ zs))) (l.pre ++ zs) (put out zs)
keeps {d = d} {free = free} {ts = ts} {out = out} s l zs h =
    let e : choose s ts ≡ choose s (l.pre ++ zs) = ap (choose s) l.is ∙ chosen s l.pre (left out) zs h (λ x vs g t.
    l.eats x vs (l.is ∙ g) (subst (λ (y : List Terminal). Takes x (rule d (choose s y))) (sym (l.is ∙ g)) (takes_rule d s x vs t))) in
    subst (λ (x : Prod s). Runs d free (rule d x) (l.pre ++ zs) (put out zs)) e (l.moves zs h)

-- the sort at the front takes what it takes
fronts : {d : Dialect} {free : ℕ} {ts : List Terminal} {out : Outcome} (s : Sort) (l : Local d free (rule d (choose s ts)) ts out)
    → (x : Terminal) (vs : List Terminal) → ts ≡ x ∷ vs → TakenBy x s → Some l.pre
fronts {d = d} {ts = ts} s l x vs e t = l.eats x vs e (subst (λ (y : List Terminal). Takes x (rule d (choose s y))) (sym e) (takes_rule d s x vs t))

-- two parts, one behind the other
joins : (p q us ts mid : List Terminal) → ts ≡ p ++ mid → mid ≡ q ++ us → ts ≡ (p ++ q) ++ us
joins p q us ts mid a b = a ∙ (ap (λ x. p ++ x) b ∙ sym (append_assoc p q us))

pub local : {d : Dialect} {free : ℕ} {r : Rule} {ts : List Terminal} {out : Outcome} → Runs d free r ts out → IsSure out → Local d free r ts out
local runs_done w = record { pre = []; is = refl; moves = λ zs h. runs_done; eats = λ x vs e t. absurd t }
local (runs_sign {m = m} t k) w = let l = local k w in record {
  pre = mark m ∷ l.pre;
  is = t.is ∙ ap (λ x. mark m ∷ x) l.is;
  moves = λ zs h. runs_sign (record { is = refl }) (l.moves zs h);
  eats = λ x vs e t. tt;
}
local (no_sign {m = m} {ts = ts} {us = us} {e = e} n) w = record {
  pre = [];
  is = sym n.same;
  moves = λ zs h. no_sign (stuck_moves (sees m) (near_sees m) ts us zs e h n);
  eats = λ x vs g t. absurd (untaken (sees m) (near_sees m) x vs ts g n.no t);
}
local (runs_opens {m = m} t k) w = let l = local k w in record {
  pre = mark m ∷ l.pre;
  is = t.is ∙ ap (λ x. mark m ∷ x) l.is;
  moves = λ zs h. runs_opens (record { is = refl; room = t.room }) (l.moves zs h);
  eats = λ x vs e t. tt;
}
local (no_opens {free = free} {m = m} {h = b} {ts = ts} {us = us} {e = e} n) w = record {
  pre = [];
  is = full_at (sees m ts) b free ts us e n;
  moves = λ zs h. no_opens (full_moves (sees m) (near_sees m) b free ts us zs e h n);
  eats = λ x vs g t. absurd t;
}
local (runs_next {test = test} {ts = ts} {out = out} t k) w = let l = local k w in record {
  pre = l.pre;
  is = l.is;
  moves = λ zs h. runs_next (sym (alike (shows test) (near_shows test) (l.pre ++ left out) (l.pre ++ zs) (heads l.pre (left out) zs h)) ∙ (ap (shows test) (sym l.is) ∙ t)) (l.moves zs h);
  eats = λ x vs g t. absurd t;
}
local (no_next {test = test} {ts = ts} {us = us} {e = e} n) w = record {
  pre = [];
  is = sym n.same;
  moves = λ zs h. no_next (stuck_moves (shows test) (near_shows test) ts us zs e h n);
  eats = λ x vs g t. absurd t;
}
local (runs_opens_next {test = test} {ts = ts} {out = out} t z k) w = let l = local k w in record {
  pre = l.pre;
  is = l.is;
  moves = λ zs h. runs_opens_next (sym (alike (shows test) (near_shows test) (l.pre ++ left out) (l.pre ++ zs) (heads l.pre (left out) zs h)) ∙ (ap (shows test) (sym l.is) ∙ t)) z (l.moves zs h);
  eats = λ x vs g t. absurd t;
}
local (no_opens_next {free = free} {test = test} {ts = ts} {us = us} {e = e} n) w = record {
  pre = [];
  is = full_at (shows test ts) 0 free ts us e n;
  moves = λ zs h. no_opens_next (full_moves (shows test) (near_shows test) 0 free ts us zs e h n);
  eats = λ x vs g t. absurd t;
}
local (runs_text {k = j} {w = i} t k) w = let l = local k w in record {
  pre = text j i ∷ l.pre;
  is = t.is ∙ ap (λ x. text j i ∷ x) l.is;
  moves = λ zs h. runs_text (record { is = refl }) (l.moves zs h);
  eats = λ x vs e t. tt;
}
local (no_text {k = j} {ts = ts} {us = us} {e = e} n) w = record {
  pre = [];
  is = sym n.same;
  moves = λ zs h. no_text (stuck_moves (sees_text j) (near_text j) ts us zs e h n);
  eats = λ x vs g t. absurd (untaken (sees_text j) (near_text j) x vs ts g n.no t);
}
local (runs_integer {n = i} t k) w = let l = local k w in record {
  pre = number i ∷ l.pre;
  is = t.is ∙ ap (λ x. number i ∷ x) l.is;
  moves = λ zs h. runs_integer (record { is = refl; fits = t.fits }) (l.moves zs h);
  eats = λ x vs e t. tt;
}
local (no_integer {most = most} {ts = ts} {us = us} {e = e} n) w = record {
  pre = [];
  is = sym n.same;
  moves = λ zs h. no_integer (stuck_moves (sees_integer most) (near_integer most) ts us zs e h n);
  eats = λ x vs g t. absurd t;
}
local {d = d} (runs_at {free = free} {s = s} {f = f} {ts = ts} {us = us} {out = out} {a = a} g k) w = let l = local g tt in let m = local k w in record {
  pre = l.pre ++ m.pre;
  is = joins l.pre m.pre (left out) ts us l.is m.is;
  moves = λ zs h. subst (λ (x : List Terminal). Runs d free (at s f) x (put out zs)) (sym (append_assoc l.pre m.pre zs))
      (runs_at (keeps s l (m.pre ++ zs) (subst (λ (x : List Terminal). SameHead x (m.pre ++ zs)) (sym m.is) (heads m.pre (left out) zs h))) (m.moves zs h));
  eats = λ x vs e t. more l.pre m.pre (fronts s l x vs e t);
}
local (no_at {s = s} g) w = let l = local g w in record { pre = l.pre; is = l.is; moves = λ zs h. no_at (keeps s l zs h); eats = λ x vs e t. fronts s l x vs e t }
local {d = d} (runs_under {free = free} {s = s} {f = f} {ts = ts} {us = us} {out = out} {a = a} g k) w = let l = local g tt in let m = local k w in record {
  pre = l.pre ++ m.pre;
  is = joins l.pre m.pre (left out) ts us l.is m.is;
  moves = λ zs h. subst (λ (x : List Terminal). Runs d free (under s f) x (put out zs)) (sym (append_assoc l.pre m.pre zs))
      (runs_under (keeps s l (m.pre ++ zs) (subst (λ (x : List Terminal). SameHead x (m.pre ++ zs)) (sym m.is) (heads m.pre (left out) zs h))) (m.moves zs h));
  eats = λ x vs e t. absurd t;
}
local (no_under {s = s} g) w = let l = local g w in record { pre = l.pre; is = l.is; moves = λ zs h. no_under (keeps s l zs h); eats = λ x vs e t. absurd t }
local (runs_last {s = s} g) w = let l = local g w in record { pre = l.pre; is = l.is; moves = λ zs h. runs_last (keeps s l zs h); eats = λ x vs e t. fronts s l x vs e t }
local no_memory w = absurd (w refl)
