-- How what stops in a constituent stops in what it is a constituent of.
use Rattle.std.proofs.Common.{◌≡◌, ℕ, ◌-◌, ◌<◌, ◌≤◌, List, [], ◌∷◌, ◌++◌, Bool, true, inl, inr, sym, refl, ap, ◌∙◌, subst, arith}
use Rattle.std.proofs.lemmas.List.{append_cancel_right}
use Rattle.tokens.specs.Token.{Notation}
use Rattle.grammar.specs.declared.dialect.Dialect.{Dialect}
use Rattle.grammar.specs.declared.fault.Fault.{Fault}
use Rattle.grammar.specs.Choice.{choose}
use Rattle.grammar.specs.Descent.{read, fault, shows, Runs, runs_at, no_at, runs_under, no_under, runs_last, no_memory}
use Rattle.grammar.specs.Grammar.{rule}
use Rattle.grammar.specs.Productions.{Prod}
use Rattle.grammar.specs.Rules.{Sort, Rule, next, opens_next, at, under, last}
use Rattle.grammar.specs.Terminals.{a_fresh_name, Terminal, text}
use Rattle.grammar.specs.Values.{Spelt}
use Rattle.grammar.proofs.Finish.{Fin, finish}
use Rattle.grammar.proofs.Framed.{Framed}
use Rattle.grammar.proofs.Grown.{grow_next, grow_opens_next, grow_last, grow_at, grow_under, close_at, close_under}
use Rattle.grammar.proofs.Local.{local, keeps}
use Rattle.grammar.proofs.Looks.{SameHead, Some, heads, chosen, TakenBy}
use Rattle.grammar.proofs.Texts.{Grows}
use Rattle.grammar.proofs.Upper.{Upper}
use Rattle.grammar.proofs.Viable.{Forces, Halts, Front, test_first, opens_first}

-- a test in front: where nothing was read, nothing is
via_next : (n : Notation) (d : Dialect) (r : Rule) (free : ℕ) (test : Terminal → Bool) (ts us pre : List Terminal) → shows test ts ≡ true → ts ≡ pre ++ us
    → Grows n d r free pre → Halts n d (next test r) free ts us × Halts n d (opens_next test r) free ts us
via_next n d r free test ts us [] s e g = (inr (inl (sym e)), inr (inl (sym e)))
via_next n d r free test ts us (t ∷ pre) s e g =
    let z : test t ≡ true = ap (shows test) (sym e) ∙ s in (
      inl (inl (record { pre = t ∷ pre; is = e; grows = grow_next test t z g })),
      inl (inl (record { pre = t ∷ pre; is = e; grows = grow_opens_next test t z g })),
    )

named_next : (n : Notation) (d : Dialect) (r : Rule) (free : ℕ) (test : Terminal → Bool) (ts us pre : List Terminal) (w : List ℕ) → shows test ts ≡ true → Forces n d r free ts us pre w
    → Grows n d r free pre → Halts n d (next test r) free ts us
named_next n d r free test ts us [] w s x g = inr (inr (w, test_first n d r free test ts us [] w s x))
named_next n d r free test ts us (t ∷ pre) w s x g =
    let z : test t ≡ true = ap (shows test) (sym x.is) ∙ s in
    inl (inr (record { pre = t ∷ pre; word = w; forces = test_first n d r free test ts us (t ∷ pre) w s x; grows = grow_next test t z g }))

named_opens : (n : Notation) (d : Dialect) (r : Rule) (free : ℕ) (test : Terminal → Bool) (ts us pre : List Terminal) (w : List ℕ) → shows test ts ≡ true → 0 < free
    → Forces n d r free ts us pre w → Grows n d r free pre → Halts n d (opens_next test r) free ts us
named_opens n d r free test ts us [] w s o x g = inr (inr (w, opens_first n d r free test ts us [] w s o x))
named_opens n d r free test ts us (t ∷ pre) w s o x g =
    let z : test t ≡ true = ap (shows test) (sym x.is) ∙ s in
    inl (inr (record { pre = t ∷ pre; word = w; forces = opens_first n d r free test ts us (t ∷ pre) w s o x; grows = grow_opens_next test t z g }))

pub next_halts : (n : Notation) (d : Dialect) (r : Rule) (free : ℕ) (test : Terminal → Bool) (ts us : List Terminal) → shows test ts ≡ true → Halts n d r free ts us
    → Halts n d (next test r) free ts us
next_halts n d r free test ts us s (inl (inl x)) = (via_next n d r free test ts us x.pre s x.is x.grows).0
next_halts n d r free test ts us s (inl (inr x)) = named_next n d r free test ts us x.pre x.word s x.forces x.grows
next_halts n d r free test ts us s (inr (inl x)) = inr (inl x)
next_halts n d r free test ts us s (inr (inr x)) = inr (inr (x.0, test_first n d r free test ts us [] x.0 s x.1))

pub opens_halts : (n : Notation) (d : Dialect) (r : Rule) (free : ℕ) (test : Terminal → Bool) (ts us : List Terminal) → shows test ts ≡ true → 0 < free → Halts n d r free ts us
    → Halts n d (opens_next test r) free ts us
opens_halts n d r free test ts us s o (inl (inl x)) = (via_next n d r free test ts us x.pre s x.is x.grows).1
opens_halts n d r free test ts us s o (inl (inr x)) = named_opens n d r free test ts us x.pre x.word s o x.forces x.grows
opens_halts n d r free test ts us s o (inr (inl x)) = inr (inl x)
opens_halts n d r free test ts us s o (inr (inr x)) = inr (inr (x.0, opens_first n d r free test ts us [] x.0 s o x.1))

-- what was read of a constituent is read before other terminals behind the next one
kept : (d : Dialect) (free : ℕ) (s : Sort) (ts us zs : List Terminal) (a : Spelt) (l : Framed d (rule d (choose s ts)) ts a us) → Runs d free (rule d (choose s ts)) ts (read a us)
    → SameHead us zs → Runs d free (rule d (choose s (l.pre ++ zs))) (l.pre ++ zs) (read a zs)
kept d free s ts us zs a l g h =
    let m = local g tt in
    let e : m.pre ≡ l.pre = append_cancel_right m.pre l.pre us (sym m.is ∙ l.is) in
    subst (λ (x : List Terminal). Runs d free (rule d (choose s (x ++ zs))) (x ++ zs) (read a zs)) e (keeps s m zs h)

named_head : (us pre vs zs : List Terminal) (w : List ℕ) → us ≡ pre ++ (text a_fresh_name w ∷ vs) → SameHead us (pre ++ (text a_fresh_name w ∷ zs))
named_head us pre vs zs w e = subst (λ (x : List Terminal). SameHead x (pre ++ (text a_fresh_name w ∷ zs))) (sym e) (heads pre (text a_fresh_name w ∷ vs) (text a_fresh_name w ∷ zs) refl)

-- a constituent in front
pub front_at : (n : Notation) (d : Dialect) (free : ℕ) (s : Sort) (f : Spelt → Rule) (a : Spelt) (ts us : List Terminal) (l : Framed d (rule d (choose s ts)) ts a us)
    → Runs d free (rule d (choose s ts)) ts (read a us) → Front n d (f a) (at s f) free us l.pre
front_at n d free s f a ts us l g = record {
  grown = λ most pre x. grow_at f (choose s ts) a l.pre l.moves x;
  run = λ pre vs zs w e i k. runs_at (kept d free s ts us (pre ++ (text a_fresh_name w ∷ zs)) a l g (named_head us pre vs zs w i)) k;
}

pub front_under : (n : Notation) (d : Dialect) (free : ℕ) (s : Sort) (f : Spelt → Rule) (a : Spelt) (ts us : List Terminal) (l : Framed d (rule d (choose s ts)) ts a us)
    → Runs d (free - 1) (rule d (choose s ts)) ts (read a us) → Front n d (f a) (under s f) free us l.pre
front_under n d free s f a ts us l g = record {
  grown = λ most pre x. grow_under f (choose s ts) a l.pre l.moves x;
  run = λ pre vs zs w e i k. runs_under (kept d (free - 1) s ts us (pre ++ (text a_fresh_name w ∷ zs)) a l g (named_head us pre vs zs w i)) k;
}

-- a sort takes no fresh name by the terminal behind it
named_first : (s : Sort) (pre vs : List Terminal) (w : List ℕ) (x : Terminal) (ts : List Terminal) → pre ++ (text a_fresh_name w ∷ vs) ≡ x ∷ ts → TakenBy x s → Some pre
named_first s [] vs w x ts e t = let z : x ≡ text a_fresh_name w = cc (e) in absurd (subst (λ (y : Terminal). TakenBy y s) z t)
named_first s (p ∷ pre) vs w x ts e t = tt

-- a production of the sort
pub front_last : (n : Notation) (d : Dialect) (free : ℕ) (s : Sort) (ts : List Terminal) → Front n d (rule d (choose s ts)) (last s) free ts []
front_last n d free s ts = record {
  grown = λ most pre g. grow_last (choose s ts) g;
  run = λ pre vs zs w e i k. runs_last (subst (λ (x : Prod s). Runs d free (rule d x) (pre ++ (text a_fresh_name w ∷ zs)) (fault e zs))
      (ap (choose s) i ∙ chosen s pre (text a_fresh_name w ∷ vs) (text a_fresh_name w ∷ zs) refl (named_first s pre vs w)) k);
}

-- a fault of a sort is one of its production
produced : {d : Dialect} {free : ℕ} {s : Sort} {ts us : List Terminal} {e : Fault} → Runs d free (last s) ts (fault e us) → Runs d free (rule d (choose s ts)) ts (fault e us)
produced (runs_last k) = k
produced no_memory = no_memory

-- a constituent that is begun
close_forces : (n : Notation) (d : Dialect) (free : ℕ) (ts us pre : List Terminal) (w : List ℕ) (s : Sort) (f : Spelt → Rule) → ((a : Spelt) → Fin (f a)) → Forces n d (last s) free ts us pre w
    → Forces n d (at s f) free ts us pre w
close_forces n d free ts us pre w s f h x = let g = x.more in let l = finish n d (f g.value) (h g.value) in
    record { is = x.is; most = l.whole.value.height; more = close_at f g l.whole (omega arith); moves = λ zs. let m = x.moves zs in (m.0, m.1, no_at (produced m.2)) }

under_forces : (n : Notation) (d : Dialect) (free : ℕ) (ts us pre : List Terminal) (w : List ℕ) (s : Sort) (f : Spelt → Rule) → ((a : Spelt) → Fin (f a))
    → Forces n d (last s) (free - 1) ts us pre w → Forces n d (under s f) free ts us pre w
under_forces n d free ts us pre w s f h x = let g = x.more in let l = finish n d (f g.value) (h g.value) in
    record { is = x.is; most = l.whole.value.height; more = close_under f g l.whole (omega arith); moves = λ zs. let m = x.moves zs in (m.0, m.1, no_under (produced m.2)) }

in_at_grows : (n : Notation) (d : Dialect) (free : ℕ) (pre : List Terminal) (s : Sort) (f : Spelt → Rule) → ((a : Spelt) → Fin (f a)) → ((a : Spelt) → a.height ≤ free → Upper free (f a))
    → Grows n d (last s) free pre → Grows n d (at s f) free pre
in_at_grows n d free pre s f h u g = let l = finish n d (f g.value) (h g.value) in close_at f g l.whole (l.low free (u g.value g.low))

in_under_grows : (n : Notation) (d : Dialect) (free : ℕ) (pre : List Terminal) (s : Sort) (f : Spelt → Rule) → 0 < free → ((a : Spelt) → Fin (f a))
    → ((a : Spelt) → a.height < free → Upper free (f a)) → Grows n d (last s) (free - 1) pre → Grows n d (under s f) free pre
in_under_grows n d free pre s f z h u g = let l = finish n d (f g.value) (h g.value) in let y = g.low in close_under f g l.whole (l.low free (u g.value (omega (arith, z, y))))

pub in_at : (n : Notation) (d : Dialect) (free : ℕ) (ts us : List Terminal) (s : Sort) (f : Spelt → Rule) → ((a : Spelt) → Fin (f a)) → ((a : Spelt) → a.height ≤ free → Upper free (f a))
    → Halts n d (last s) free ts us → Halts n d (at s f) free ts us
in_at n d free ts us s f h u (inl (inl x)) = inl (inl (record { pre = x.pre; is = x.is; grows = in_at_grows n d free x.pre s f h u x.grows }))
in_at n d free ts us s f h u (inl (inr x)) = inl (inr (record { pre = x.pre; word = x.word; forces = close_forces n d free ts us x.pre x.word s f h x.forces; grows = in_at_grows n d free x.pre s f h u x.grows }))
in_at n d free ts us s f h u (inr (inl x)) = inr (inl x)
in_at n d free ts us s f h u (inr (inr x)) = inr (inr (x.0, close_forces n d free ts us [] x.0 s f h x.1))

pub in_under : (n : Notation) (d : Dialect) (free : ℕ) (ts us : List Terminal) (s : Sort) (f : Spelt → Rule) → 0 < free → ((a : Spelt) → Fin (f a))
    → ((a : Spelt) → a.height < free → Upper free (f a)) → Halts n d (last s) (free - 1) ts us → Halts n d (under s f) free ts us
in_under n d free ts us s f z h u (inl (inl x)) = inl (inl (record { pre = x.pre; is = x.is; grows = in_under_grows n d free x.pre s f z h u x.grows }))
in_under n d free ts us s f z h u (inl (inr x)) = inl (inr (record { pre = x.pre; word = x.word; forces = under_forces n d free ts us x.pre x.word s f h x.forces; grows = in_under_grows n d free x.pre s f z h u x.grows }))
in_under n d free ts us s f z h u (inr (inl x)) = inr (inl x)
in_under n d free ts us s f z h u (inr (inr x)) = inr (inr (x.0, under_forces n d free ts us [] x.0 s f h x.1))
