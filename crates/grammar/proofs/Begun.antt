-- At a form for which there is no room, some text begins with what was read and the next terminal.
use Rattle.std.proofs.Common.{◌≡◌, ℕ, List, [], ◌∷◌, ◌++◌, Bool, true, ◌⊎◌, inl, inr, sym, refl, ap, ◌∙◌, subst, append_assoc, arith}
use Rattle.std.specs.Prelude.{⊤}
use Rattle.tokens.specs.Token.{Notation}
use Rattle.grammar.specs.declared.dialect.Dialect.{Dialect}
use Rattle.grammar.specs.declared.fault.Fault.{Fault}
use Rattle.grammar.specs.declared.fault.Fault.TheVariants.{Syntax, TooDeep, NoMemory}
use Rattle.grammar.specs.declared.mark.Mark.{Mark}
use Rattle.grammar.specs.Choice.{choose}
use Rattle.grammar.specs.Descent.{Outcome, read, fault, shows, Stuck, Full, Runs, runs_done, runs_sign, no_sign, runs_opens, no_opens, runs_next, no_next, runs_opens_next, no_opens_next, runs_text, no_text, runs_integer, no_integer, runs_at, no_at, runs_under, no_under, runs_last, no_memory}
use Rattle.grammar.specs.Grammar.{rule}
use Rattle.grammar.specs.Productions.{Prod}
use Rattle.grammar.specs.Rules.{Sort, Rule, sign, opens, next, opens_next, holds, integer, at, under, last}
use Rattle.grammar.specs.Terminals.{Terminal, text, number, mark, stranger, sees}
use Rattle.grammar.specs.Values.{Spelt}
use Rattle.grammar.proofs.Marks.{same_code}
use Rattle.grammar.proofs.Sound.{sound}
use Rattle.grammar.proofs.Finish.{Fin, finish}
use Rattle.grammar.proofs.Framed.{Framed, frame}
use Rattle.grammar.proofs.Grown.{grow_whole, grow_sign, grow_opens, grow_text, grow_integer, grow_next, grow_opens_next, grow_last, grow_at, grow_under, close_at, close_under}
use Rattle.grammar.proofs.Shapes.{Going, Led, going_of_fin, going_of_shape}
use Rattle.grammar.proofs.Table.{shape_rule}
use Rattle.grammar.proofs.Texts.{Grows}

-- some text of the rule begins with what stands before the place and the terminal there
pub record Begun (n : Notation) (d : Dialect) (r : Rule) (ts : List Terminal) (x : Terminal) (us : List Terminal) : Type 0 where
  pub pre : List Terminal
  pub is : ts ≡ pre ++ (x ∷ us)
  pub most : ℕ
  pub grows : Grows n d r most (pre ++ (x ∷ []))

-- what holds where there is no room
abbrev pub Deep : (Terminal → List Terminal → Type 0) → Outcome → Type 0
Deep P (fault TooDeep (x ∷ us)) = P x us
Deep P (fault TooDeep []) = ⊤
Deep P (fault Syntax us) = ⊤
Deep P (fault NoMemory us) = ⊤
Deep P (read v us) = ⊤

deep_map : (P Q : Terminal → List Terminal → Type 0) (out : Outcome) → ((x : Terminal) (us : List Terminal) → P x us → Q x us) → Deep P out → Deep Q out
deep_map P Q (fault TooDeep (x ∷ us)) f h = f x us h
deep_map P Q (fault TooDeep []) f h = tt
deep_map P Q (fault Syntax us) f h = tt
deep_map P Q (fault NoMemory us) f h = tt
deep_map P Q (read v us) f h = tt

none : (P : Terminal → List Terminal → Type 0) (us : List Terminal) (e : Fault) → e ≡ Syntax → Deep P (fault e us)
none P us Syntax h = tt
none P us NoMemory h = tt
none P us TooDeep h = absurd (cc (h))

only : (P : Terminal → List Terminal → Type 0) (us : List Terminal) (e : Fault) → ((x : Terminal) (vs : List Terminal) → us ≡ x ∷ vs → P x vs) → Deep P (fault e us)
only P (x ∷ us) TooDeep f = f x us refl
only P [] TooDeep f = tt
only P us Syntax f = tt
only P us NoMemory f = tt

-- the mark that is seen
pub sign_is : (m : Mark) (x : Terminal) (us : List Terminal) → sees m (x ∷ us) ≡ true → x ≡ mark m
sign_is m (mark k) us e = ap mark (same_code k m e)
sign_is m (text k w) us e = absurd (cc (e))
sign_is m (number i) us e = absurd (cc (e))
sign_is m stranger us e = absurd (cc (e))

opening : (n : Notation) (d : Dialect) (free : ℕ) (m : Mark) (h : ℕ) (r : Rule) (ts us : List Terminal) (e : Fault) → Fin r
    → Stuck (sees m ts) ts e us ⊎ Full (sees m ts) h free ts e us → Deep (λ x vs. Begun n d (opens m h r) ts x vs) (fault e us)
opening n d free m h r ts us e f (inl k) = none _ us e k.is
opening n d free m h r ts us e f (inr k) = only (λ x vs. Begun n d (opens m h r) ts x vs) us e (λ x vs g.
    let l = finish n d r f in
    let y : x ≡ mark m = sign_is m x vs (ap (sees m) (sym g ∙ k.same) ∙ k.yes) in
    record {
      pre = [];
      is = sym k.same ∙ g;
      most = l.whole.value.height;
      grows = subst (λ (z : Terminal). Grows n d (opens m h r) l.whole.value.height (z ∷ [])) (sym y) (grow_opens m h (grow_whole l.whole (omega arith)));
    })

led : (n : Notation) (d : Dialect) (free : ℕ) (test : Terminal → Bool) (r : Rule) (ts us : List Terminal) (e : Fault) → Led n d test r
    → Stuck (shows test ts) ts e us ⊎ Full (shows test ts) 0 free ts e us → Deep (λ x vs. Begun n d (opens_next test r) ts x vs) (fault e us)
led n d free test r ts us e f (inl k) = none _ us e k.is
led n d free test r ts us e f (inr k) = only (λ x vs. Begun n d (opens_next test r) ts x vs) us e (λ x vs g.
    let y : test x ≡ true = ap (shows test) (sym g ∙ k.same) ∙ k.yes in
    let l = f x y in
    record { pre = []; is = sym k.same ∙ g; most = l.0; grows = grow_opens_next test x y l.1 })

-- a test in front
tested : (n : Notation) (d : Dialect) (test : Terminal → Bool) (r : Rule) (ts us : List Terminal) (x : Terminal) (most : ℕ) → shows test ts ≡ true
    → (pre : List Terminal) → ts ≡ pre ++ (x ∷ us) → Grows n d r most (pre ++ (x ∷ [])) → Begun n d (next test r) ts x us × Begun n d (opens_next test r) ts x us
tested n d test r ts us x most s [] e g =
    let z : test x ≡ true = ap (shows test) (sym e) ∙ s in
    (record { pre = []; is = e; most = most; grows = grow_next test x z g }, record { pre = []; is = e; most = most; grows = grow_opens_next test x z g })
tested n d test r ts us x most s (p ∷ pre) e g =
    let z : test p ≡ true = ap (shows test) (sym e) ∙ s in
    (record { pre = p ∷ pre; is = e; most = most; grows = grow_next test p z g }, record { pre = p ∷ pre; is = e; most = most; grows = grow_opens_next test p z g })

-- a constituent in front
in_front : (l q us ts mid : List Terminal) → ts ≡ l ++ mid → mid ≡ q ++ us → ts ≡ (l ++ q) ++ us
in_front l q us ts mid a b = a ∙ (ap (λ y. l ++ y) b ∙ sym (append_assoc l q us))

behind_at : (n : Notation) (d : Dialect) (s : Sort) (f : Spelt → Rule) (p : Prod s) (a : Spelt) (ts us vs : List Terminal) (x : Terminal) → Framed d (rule d p) ts a us
    → Begun n d (f a) us x vs → Begun n d (at s f) ts x vs
behind_at n d s f p a ts us vs x l b = record {
  pre = l.pre ++ b.pre;
  is = in_front l.pre b.pre (x ∷ vs) ts us l.is b.is;
  most = b.most;
  grows = subst (λ (y : List Terminal). Grows n d (at s f) b.most y) (sym (append_assoc l.pre b.pre (x ∷ []))) (grow_at f p a l.pre l.moves b.grows);
}

behind_under : (n : Notation) (d : Dialect) (s : Sort) (f : Spelt → Rule) (p : Prod s) (a : Spelt) (ts us vs : List Terminal) (x : Terminal) → Framed d (rule d p) ts a us
    → Begun n d (f a) us x vs → Begun n d (under s f) ts x vs
behind_under n d s f p a ts us vs x l b = record {
  pre = l.pre ++ b.pre;
  is = in_front l.pre b.pre (x ∷ vs) ts us l.is b.is;
  most = b.most;
  grows = subst (λ (y : List Terminal). Grows n d (under s f) b.most y) (sym (append_assoc l.pre b.pre (x ∷ []))) (grow_under f p a l.pre l.moves b.grows);
}

-- a constituent that is begun
closed_at : (n : Notation) (d : Dialect) (s : Sort) (f : Spelt → Rule) (p : Prod s) (ts us : List Terminal) (x : Terminal) → ((a : Spelt) → Fin (f a))
    → Begun n d (rule d p) ts x us → Begun n d (at s f) ts x us
closed_at n d s f p ts us x h b = let g = grow_last p b.grows in let l = finish n d (f g.value) (h g.value) in
    record { pre = b.pre; is = b.is; most = l.whole.value.height; grows = close_at f g l.whole (omega arith) }

closed_under : (n : Notation) (d : Dialect) (s : Sort) (f : Spelt → Rule) (p : Prod s) (ts us : List Terminal) (x : Terminal) → ((a : Spelt) → Fin (f a))
    → Begun n d (rule d p) ts x us → Begun n d (under s f) ts x us
closed_under n d s f p ts us x h b = let g = grow_last p b.grows in let l = finish n d (f g.value) (h g.value) in
    record { pre = b.pre; is = b.is; most = l.whole.value.height; grows = close_under f g l.whole (omega arith) }

pub begun : (n : Notation) {d : Dialect} {free : ℕ} {r : Rule} {ts : List Terminal} {out : Outcome} → Runs d free r ts out → Going n d r → Deep (λ x us. Begun n d r ts x us) out
begun n runs_done h = tt
begun n {d = d} (runs_sign {m = m} {r = r} {ts = ts} {us = us} {out = out} t k) h = deep_map (λ x vs. Begun n d r us x vs) (λ x vs. Begun n d (sign m r) ts x vs) out
    (λ x vs b. record { pre = mark m ∷ b.pre; is = t.is ∙ ap (λ y. mark m ∷ y) b.is; most = b.most; grows = grow_sign m b.grows }) (begun n k h)
begun n (no_sign {us = us} {e = e} t) h = none _ us e t.is
begun n {d = d} (runs_opens {m = m} {h = i} {r = r} {ts = ts} {us = us} {out = out} t k) h = deep_map (λ x vs. Begun n d r us x vs) (λ x vs. Begun n d (opens m i r) ts x vs) out
    (λ x vs b. record { pre = mark m ∷ b.pre; is = t.is ∙ ap (λ y. mark m ∷ y) b.is; most = b.most; grows = grow_opens m i b.grows }) (begun n k (going_of_fin n d r h))
begun n {d = d} (no_opens {free = free} {m = m} {h = i} {r = r} {ts = ts} {us = us} {e = e} t) h = opening n d free m i r ts us e h t
begun n {d = d} (runs_next {test = test} {r = r} {ts = ts} {out = out} t k) h = deep_map (λ x vs. Begun n d r ts x vs) (λ x vs. Begun n d (next test r) ts x vs) out
    (λ x vs b. (tested n d test r ts vs x b.most t b.pre b.is b.grows).0) (begun n k h)
begun n (no_next {us = us} {e = e} t) h = none _ us e t.is
begun n {d = d} (runs_opens_next {test = test} {r = r} {ts = ts} {out = out} t z k) h = deep_map (λ x vs. Begun n d r ts x vs) (λ x vs. Begun n d (opens_next test r) ts x vs) out
    (λ x vs b. (tested n d test r ts vs x b.most t b.pre b.is b.grows).1) (begun n k h.0)
begun n {d = d} (no_opens_next {free = free} {test = test} {r = r} {ts = ts} {us = us} {e = e} t) h = led n d free test r ts us e h.1 t
begun n {d = d} (runs_text {k = j} {f = f} {ts = ts} {us = us} {out = out} {w = w} t k) h = deep_map (λ x vs. Begun n d (f w) us x vs) (λ x vs. Begun n d (holds j f) ts x vs) out
    (λ x vs b. record { pre = text j w ∷ b.pre; is = t.is ∙ ap (λ y. text j w ∷ y) b.is; most = b.most; grows = grow_text j f w b.grows }) (begun n k (h w))
begun n (no_text {us = us} {e = e} t) h = none _ us e t.is
begun n {d = d} (runs_integer {most = top} {f = f} {ts = ts} {us = us} {out = out} {n = i} t k) h = deep_map (λ x vs. Begun n d (f i) us x vs) (λ x vs. Begun n d (integer top f) ts x vs) out
    (λ x vs b. record { pre = number i ∷ b.pre; is = t.is ∙ ap (λ y. number i ∷ y) b.is; most = b.most; grows = grow_integer top f i t.fits b.grows }) (begun n k (h i))
begun n (no_integer {us = us} {e = e} t) h = none _ us e t.is
begun n {d = d} (runs_at {s = s} {f = f} {ts = ts} {us = us} {out = out} {a = a} g k) h = deep_map (λ x vs. Begun n d (f a) us x vs) (λ x vs. Begun n d (at s f) ts x vs) out
    (λ x vs b. behind_at n d s f (choose s ts) a ts us vs x (frame (choose s ts) (sound g)) b) (begun n k (going_of_fin n d (f a) (h a)))
begun n {d = d} (no_at {s = s} {f = f} {ts = ts} {us = us} {e = e} g) h =
    deep_map (λ x vs. Begun n d (rule d (choose s ts)) ts x vs) (λ x vs. Begun n d (at s f) ts x vs) (fault e us) (λ x vs b. closed_at n d s f (choose s ts) ts vs x h b)
    (begun n g (going_of_shape n d s (rule d (choose s ts)) (shape_rule n d (choose s ts))))
begun n {d = d} (runs_under {s = s} {f = f} {ts = ts} {us = us} {out = out} {a = a} g k) h = deep_map (λ x vs. Begun n d (f a) us x vs) (λ x vs. Begun n d (under s f) ts x vs) out
    (λ x vs b. behind_under n d s f (choose s ts) a ts us vs x (frame (choose s ts) (sound g)) b) (begun n k (going_of_fin n d (f a) (h a)))
begun n {d = d} (no_under {s = s} {f = f} {ts = ts} {us = us} {e = e} g) h =
    deep_map (λ x vs. Begun n d (rule d (choose s ts)) ts x vs) (λ x vs. Begun n d (under s f) ts x vs) (fault e us) (λ x vs b. closed_under n d s f (choose s ts) ts vs x h b)
    (begun n g (going_of_shape n d s (rule d (choose s ts)) (shape_rule n d (choose s ts))))
begun n {d = d} (runs_last {s = s} {ts = ts} {out = out} g) h = deep_map (λ x vs. Begun n d (rule d (choose s ts)) ts x vs) (λ x vs. Begun n d (last s) ts x vs) out
    (λ x vs b. record { pre = b.pre; is = b.is; most = b.most; grows = grow_last (choose s ts) b.grows })
    (begun n g (going_of_shape n d s (rule d (choose s ts)) (shape_rule n d (choose s ts))))
begun n no_memory h = tt
