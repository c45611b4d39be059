-- Where descent stops, a text within the free height begins with what was read.
use Rattle.std.proofs.Common.{◌≡◌, ℕ, ◌<◌, ◌≤◌, List, [], ◌∷◌, ◌++◌, Bool, true, ◌⊎◌, inl, inr, sym, refl, ap, ◌∙◌, subst, append_assoc}
use Rattle.std.specs.Prelude.{⊤}
use Rattle.tokens.specs.Token.{Notation}
use Rattle.grammar.specs.declared.dialect.Dialect.{Dialect}
use Rattle.grammar.specs.declared.fault.Fault.{Fault}
use Rattle.grammar.specs.declared.fault.Fault.TheVariants.{NoMemory}
use Rattle.grammar.specs.declared.mark.Mark.{Mark}
use Rattle.grammar.specs.Descent.{Outcome, read, fault, shows, Runs, runs_sign, runs_opens, runs_next, runs_opens_next, runs_text, runs_integer}
use Rattle.grammar.specs.Rules.{Rule, sign, opens, next, opens_next, holds, integer}
use Rattle.grammar.specs.Terminals.{Holding, a_fresh_name, Terminal, text, number, mark}
use Rattle.grammar.proofs.Finish.{Fin, finish}
use Rattle.grammar.proofs.Grown.{grow_whole, grow_sign, grow_opens, grow_text, grow_integer, grow_next, grow_opens_next}
use Rattle.grammar.proofs.Texts.{Grows}
use Rattle.grammar.proofs.Upper.{Upper}

-- a fault of this rule, other than want of memory, with these terminals left
abbrev pub Fails : Dialect → ℕ → Rule → List Terminal → List Terminal → Type 0
Fails d free r ts zs = (e : Fault) × (e ≡ NoMemory → ⊥) × Runs d free r ts (fault e zs)

-- a text of the rule within the free height begins with what stands before the place
pub record Viable (n : Notation) (d : Dialect) (r : Rule) (free : ℕ) (ts us : List Terminal) : Type 0 where
  pub pre : List Terminal
  pub is : ts ≡ pre ++ us
  pub grows : Grows n d r free pre

-- a fresh name stands before the place; with it, only higher texts go on, whatever follows
pub record Forces (n : Notation) (d : Dialect) (r : Rule) (free : ℕ) (ts us : List Terminal) (pre : List Terminal) (w : List ℕ) : Type 0 where
  pub is : ts ≡ pre ++ (text a_fresh_name w ∷ us)
  pub most : ℕ
  pub more : Grows n d r most (pre ++ (text a_fresh_name w ∷ []))
  pub moves : (zs : List Terminal) → Fails d free r (pre ++ (text a_fresh_name w ∷ zs)) zs

-- and without it, a text within the free height does
pub record Forced (n : Notation) (d : Dialect) (r : Rule) (free : ℕ) (ts us : List Terminal) : Type 0 where
  pub pre : List Terminal
  pub word : List ℕ
  pub forces : Forces n d r free ts us pre word
  pub grows : Grows n d r free pre

abbrev pub Done : Notation → Dialect → Rule → ℕ → List Terminal → List Terminal → Type 0
Done n d r free ts us = Viable n d r free ts us ⊎ Forced n d r free ts us

-- nothing was read, or no more than such a name
abbrev pub Rests : Notation → Dialect → Rule → ℕ → List Terminal → List Terminal → Type 0
Rests n d r free ts us = (us ≡ ts) ⊎ ((w : List ℕ) × Forces n d r free ts us [] w)

abbrev pub Halts : Notation → Dialect → Rule → ℕ → List Terminal → List Terminal → Type 0
Halts n d r free ts us = Done n d r free ts us ⊎ Rests n d r free ts us

-- what holds of the place of each fault, other than want of memory
abbrev pub Stops : (List Terminal → Type 0) → Outcome → Type 0
Stops P (read v us) = ⊤
Stops P (fault e us) = (e ≡ NoMemory → ⊥) → P us

pub stops_map : (P Q : List Terminal → Type 0) (out : Outcome) → ((us : List Terminal) → P us → Q us) → Stops P out → Stops Q out
stops_map P Q (read v us) f h = tt
stops_map P Q (fault e us) f h = λ w. f us (h w)

-- a rule that can be finished is viable where it stops
pub settle : (n : Notation) (d : Dialect) (r : Rule) (free : ℕ) (ts us : List Terminal) → Fin r → Upper free r → Halts n d r free ts us → Done n d r free ts us
settle n d r free ts us h u (inl x) = x
settle n d r free ts us h u (inr (inl x)) = let l = finish n d r h in inl (record { pre = []; is = sym x; grows = grow_whole l.whole (l.low free u) })
settle n d r free ts us h u (inr (inr x)) = let l = finish n d r h in inr (record { pre = []; word = x.0; forces = x.1; grows = grow_whole l.whole (l.low free u) })

-- how a text and a run of one rule become those of another, of which some terminals stand in front
pub record Front (n : Notation) (d : Dialect) (r q : Rule) (free : ℕ) (us : List Terminal) (l : List Terminal) : Type 0 where
  pub grown : (most : ℕ) (pre : List Terminal) → Grows n d r most pre → Grows n d q most (l ++ pre)
  pub run : (pre vs zs : List Terminal) (w : List ℕ) (e : Fault) → us ≡ pre ++ (text a_fresh_name w ∷ vs) → Runs d free r (pre ++ (text a_fresh_name w ∷ zs)) (fault e zs)
      → Runs d free q (l ++ (pre ++ (text a_fresh_name w ∷ zs))) (fault e zs)

pub via_forces : {n : Notation} {d : Dialect} {free : ℕ} {ts us vs l pre : List Terminal} {w : List ℕ} (r q : Rule) → Front n d r q free us l → ts ≡ l ++ us
    → Forces n d r free us vs pre w → Forces n d q free ts vs (l ++ pre) w
via_forces {n = n} {d = d} {free = free} {vs = vs} {l = l} {pre = pre} {w = w} r q f e x = record {
  is = e ∙ (ap (λ y. l ++ y) x.is ∙ sym (append_assoc l pre (text a_fresh_name w ∷ vs)));
  most = x.most;
  more = subst (λ (y : List Terminal). Grows n d q x.most y) (sym (append_assoc l pre (text a_fresh_name w ∷ []))) (f.grown x.most (pre ++ (text a_fresh_name w ∷ [])) x.more);
  moves = λ zs. let m = x.moves zs in (
    m.0,
    m.1,
    subst (λ (y : List Terminal). Runs d free q y (fault m.0 zs)) (sym (append_assoc l pre (text a_fresh_name w ∷ zs))) (f.run pre vs zs w m.0 x.is m.2),
  );
}

pub via : {n : Notation} {d : Dialect} {free : ℕ} {ts us vs l : List Terminal} (r q : Rule) → Front n d r q free us l → ts ≡ l ++ us → Done n d r free us vs → Done n d q free ts vs
via {free = free} {vs = vs} {l = l} r q f e (inl x) = inl (record { pre = l ++ x.pre; is = e ∙ (ap (λ y. l ++ y) x.is ∙ sym (append_assoc l x.pre vs)); grows = f.grown free x.pre x.grows })
via {free = free} {l = l} r q f e (inr x) = inr (record { pre = l ++ x.pre; word = x.word; forces = via_forces r q f e x.forces; grows = f.grown free x.pre x.grows })

-- the same where nothing stands in front
pub lift : {n : Notation} {d : Dialect} {free : ℕ} {ts us : List Terminal} (r q : Rule) → Front n d r q free ts [] → Halts n d r free ts us → Halts n d q free ts us
lift r q f (inl x) = inl (via r q f refl x)
lift r q f (inr (inl x)) = inr (inl x)
lift r q f (inr (inr x)) = inr (inr (x.0, via_forces r q f refl x.1))

-- one terminal in front
pub front_sign : (n : Notation) (d : Dialect) (r : Rule) (free : ℕ) (us : List Terminal) (m : Mark) → Front n d r (sign m r) free us (mark m ∷ [])
front_sign n d r free us m = record { grown = λ most pre g. grow_sign m g; run = λ pre vs zs w e i k. runs_sign (record { is = refl }) k }

pub front_opens : (n : Notation) (d : Dialect) (r : Rule) (free : ℕ) (us : List Terminal) (m : Mark) (h : ℕ) → h < free → Front n d r (opens m h r) free us (mark m ∷ [])
front_opens n d r free us m h l = record { grown = λ most pre g. grow_opens m h g; run = λ pre vs zs w e i k. runs_opens (record { is = refl; room = l }) k }

pub front_text : (n : Notation) (d : Dialect) (free : ℕ) (us : List Terminal) (j : Holding) (f : List ℕ → Rule) (w : List ℕ) → Front n d (f w) (holds j f) free us (text j w ∷ [])
front_text n d free us j f w = record { grown = λ most pre g. grow_text j f w g; run = λ pre vs zs x e i k. runs_text (record { is = refl }) k }

pub front_integer : (n : Notation) (d : Dialect) (free : ℕ) (us : List Terminal) (top : ℕ) (f : ℕ → Rule) (i : ℕ) → i ≤ top → Front n d (f i) (integer top f) free us (number i ∷ [])
front_integer n d free us top f i l = record { grown = λ most pre g. grow_integer top f i l g; run = λ pre vs zs w e x k. runs_integer (record { is = refl; fits = l }) k }

-- a test of the first terminal
pub test_first : (n : Notation) (d : Dialect) (r : Rule) (free : ℕ) (test : Terminal → Bool) (ts us pre : List Terminal) (w : List ℕ) → shows test ts ≡ true → Forces n d r free ts us pre w
    → Forces n d (next test r) free ts us pre w
test_first n d r free test ts us [] w s x =
    let z : test (text a_fresh_name w) ≡ true = ap (shows test) (sym x.is) ∙ s in
    record { is = x.is; most = x.most; more = grow_next test (text a_fresh_name w) z x.more; moves = λ zs. let m = x.moves zs in (m.0, m.1, runs_next z m.2) }
test_first n d r free test ts us (t ∷ pre) w s x =
    let z : test t ≡ true = ap (shows test) (sym x.is) ∙ s in
    record { is = x.is; most = x.most; more = grow_next test t z x.more; moves = λ zs. let m = x.moves zs in (m.0, m.1, runs_next z m.2) }

pub opens_first : (n : Notation) (d : Dialect) (r : Rule) (free : ℕ) (test : Terminal → Bool) (ts us pre : List Terminal) (w : List ℕ) → shows test ts ≡ true → 0 < free
    → Forces n d r free ts us pre w → Forces n d (opens_next test r) free ts us pre w
opens_first n d r free test ts us [] w s o x =
    let z : test (text a_fresh_name w) ≡ true = ap (shows test) (sym x.is) ∙ s in
    record { is = x.is; most = x.most; more = grow_opens_next test (text a_fresh_name w) z x.more; moves = λ zs. let m = x.moves zs in (m.0, m.1, runs_opens_next z o m.2) }
opens_first n d r free test ts us (t ∷ pre) w s o x =
    let z : test t ≡ true = ap (shows test) (sym x.is) ∙ s in
    record { is = x.is; most = x.most; more = grow_opens_next test t z x.more; moves = λ zs. let m = x.moves zs in (m.0, m.1, runs_opens_next z o m.2) }
