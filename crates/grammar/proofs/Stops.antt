-- Where descent stops for a fault, a text within the free height begins with what was read.
use Rattle.std.proofs.Common.{◌≡◌, ℕ, ◌-◌, ◌≤◌, List, [], ◌∷◌, ◌++◌, Bool, ◌⊎◌, inl, inr, sym, refl, ap, ◌∙◌, arith}
use Rattle.std.specs.Prelude.{zero, suc}
use Rattle.tokens.specs.Token.{Notation}
use Rattle.grammar.specs.declared.dialect.Dialect.{Dialect}
use Rattle.grammar.specs.declared.fault.Fault.{Fault}
use Rattle.grammar.specs.declared.mark.Mark.{Mark}
use Rattle.grammar.specs.Choice.{choose}
use Rattle.grammar.specs.Descent.{Outcome, read, fault, Stuck, Full, Runs, runs_done, runs_sign, no_sign, runs_opens, no_opens, runs_next, no_next, runs_opens_next, no_opens_next, runs_text, no_text, runs_integer, no_integer, runs_at, no_at, runs_under, no_under, runs_last, no_memory}
use Rattle.grammar.specs.Rules.{Sort, Rule, sign, opens, next, opens_next, holds, integer, at, under, last}
use Rattle.grammar.specs.Terminals.{Holding, a_word, a_string, a_uri, a_fresh_name, a_byte_array, Terminal, text, number, mark}
use Rattle.grammar.proofs.Sound.{sound}
use Rattle.grammar.proofs.Closed.{next_halts, opens_halts, front_at, front_under, front_last, in_at, in_under}
use Rattle.grammar.proofs.Finish.{Fin}
use Rattle.grammar.proofs.Framed.{frame}
use Rattle.grammar.proofs.Shapes.{Loose, Shape, Named, Resumes, loose_of_fin}
use Rattle.grammar.proofs.Table.{shape_rule}
use Rattle.grammar.proofs.Texts.{Grows}
use Rattle.grammar.proofs.Upper.{Upper, upper_rule, high}
use Rattle.grammar.proofs.Viable.{Halts, Stops, stops_map, settle, Front, via, via_forces, lift, front_sign, front_opens, front_text, front_integer}

-- of a rule behind which a production may go on, and of a production of a sort
pub record Both (n : Notation) (d : Dialect) (free : ℕ) (r : Rule) (ts : List Terminal) (out : Outcome) : Type 0 where
  pub loose : Loose n d r → Upper free r → Stops (λ us. Halts n d r free ts us) out
  pub shaped : (s : Sort) → Front n d r (last s) free ts [] → Shape n d s r → Upper free r → Stops (λ us. Halts n d (last s) free ts us) out

-- a production that is no more than loose
lifted : (n : Notation) (d : Dialect) (free : ℕ) (r : Rule) (ts : List Terminal) (out : Outcome) (s : Sort) → Front n d r (last s) free ts [] → Stops (λ us. Halts n d r free ts us) out
    → Stops (λ us. Halts n d (last s) free ts us) out
lifted n d free r ts out s f h = stops_map (λ us. Halts n d r free ts us) (λ us. Halts n d (last s) free ts us) out (λ us x. lift r (last s) f x) h

-- a fault at the first terminal
at_first : (n : Notation) (d : Dialect) (free : ℕ) (r : Rule) (ts us : List Terminal) (e : Fault) → us ≡ ts → Both n d free r ts (fault e us)
at_first n d free r ts us e g = record { loose = λ h u w. inr (inl g); shaped = λ s f h u w. inr (inl g) }

place : (b : Bool) (h free : ℕ) (ts us : List Terminal) (e : Fault) → Stuck b ts e us ⊎ Full b h free ts e us → us ≡ ts
place b h free ts us e (inl n) = n.same
place b h free ts us e (inr n) = n.same

-- what can be finished, with terminals in front
front_fin : (n : Notation) (d : Dialect) (free : ℕ) (r q : Rule) (ts us l : List Terminal) (out : Outcome) → Front n d r q free us l → ts ≡ l ++ us → Both n d free r us out → Fin r → Upper free r
    → Stops (λ vs. Halts n d q free ts vs) out
front_fin n d free r q ts us l out f e b h u = stops_map (λ vs. Halts n d r free us vs) (λ vs. Halts n d q free ts vs) out
    (λ vs x. inl (via r q f e (settle n d r free us vs h u x))) (b.loose (loose_of_fin n d r h) u)

-- a terminal in front with which a text of the sort begins that opens no form
raise : {n : Notation} {d : Dialect} {r : Rule} {pre : List Terminal} (low free : ℕ) → low ≤ free → Grows n d r low pre → Grows n d r free pre
raise low free h g = let l = g.low in record { after = g.after; value = g.value; low = omega (arith, l, h); reads = g.reads }

behind : (n : Notation) (d : Dialect) (free : ℕ) (r q : Rule) (s : Sort) (t : Terminal) (ts us vs : List Terminal) → Front n d r q free us (t ∷ []) → ts ≡ t ∷ us → Front n d q (last s) free ts []
    → Grows n d (last s) free (t ∷ []) → Halts n d r free us vs → Halts n d (last s) free ts vs
behind n d free r q s t ts us vs f e o g (inl x) = lift q (last s) o (inl (via r q f e x))
behind n d free r q s t ts us vs f e o g (inr (inl x)) = inl (inl (record { pre = t ∷ []; is = e ∙ ap (λ y. t ∷ y) (sym x); grows = g }))
behind n d free r q s t ts us vs f e o g (inr (inr x)) =
    inl (inr (record { pre = t ∷ []; word = x.0; forces = via_forces q (last s) o refl (via_forces r q f e x.1); grows = g }))

-- in front of a form for which there may be no room
sign_shaped : (n : Notation) (d : Dialect) (free : ℕ) (m : Mark) (r : Rule) (ts us : List Terminal) (out : Outcome) → ts ≡ mark m ∷ us → Both n d free r us out
    → (s : Sort) → Front n d (sign m r) (last s) free ts [] → Fin r ⊎ (Grows n d (last s) 0 (mark m ∷ []) × Loose n d r) → Upper free r → Stops (λ vs. Halts n d (last s) free ts vs) out
sign_shaped n d free m r ts us out e b s f (inl h) u = lifted n d free (sign m r) ts out s f (front_fin n d free r (sign m r) ts us (mark m ∷ []) out (front_sign n d r free us m) e b h u)
sign_shaped n d free m r ts us out e b s f (inr h) u = stops_map (λ vs. Halts n d r free us vs) (λ vs. Halts n d (last s) free ts vs) out
    (λ vs x. behind n d free r (sign m r) s (mark m) ts us vs (front_sign n d r free us m) e f (raise 0 free (omega arith) h.0) x) (b.loose h.1 u)

-- a text in front
text_behind : (n : Notation) (d : Dialect) (free : ℕ) (k : Holding) (f : List ℕ → Rule) (w : List ℕ) (ts us : List Terminal) (out : Outcome) → ts ≡ text k w ∷ us → Both n d free (f w) us out
    → (s : Sort) → Front n d (holds k f) (last s) free ts [] → Grows n d (last s) free (text k w ∷ []) → Loose n d (f w) → Upper free (f w) → Stops (λ vs. Halts n d (last s) free ts vs) out
text_behind n d free k f w ts us out e b s o g l u = stops_map (λ vs. Halts n d (f w) free us vs) (λ vs. Halts n d (last s) free ts vs) out
    (λ vs x. behind n d free (f w) (holds k f) s (text k w) ts us vs (front_text n d free us k f w) e o g x) (b.loose l u)

-- a fresh name that begins a form, where there is no room
no_room : (n : Notation) (d : Dialect) (f : List ℕ → Rule) (w : List ℕ) (ts us : List Terminal) (out : Outcome) → Named n d f w → ts ≡ text a_fresh_name w ∷ us → Runs d 0 (f w) us out
    → Stops (λ vs. Halts n d (holds a_fresh_name f) 0 ts vs) out
no_room n d f w ts us (read v vs) h e k = tt
no_room n d f w ts us (fault c vs) h e k = λ z. inr (inr (
  w,
  record {
    is = e ∙ ap (λ y. text a_fresh_name w ∷ y) (sym (h.once us vs c z k));
    most = 1;
    more = h.more;
    moves = λ zs. let m = h.fails zs in (m.0, m.1, runs_text (record { is = refl }) m.2);
  },
))

text_named : (n : Notation) (d : Dialect) (free : ℕ) (f : List ℕ → Rule) (w : List ℕ) (ts us : List Terminal) (out : Outcome) → ts ≡ text a_fresh_name w ∷ us → Runs d free (f w) us out
    → Both n d free (f w) us out → (s : Sort) → Front n d (holds a_fresh_name f) (last s) free ts [] → Named n d f w → Loose n d (f w) → Upper free (f w)
    → Stops (λ vs. Halts n d (last s) free ts vs) out
text_named n d zero f w ts us out e k b s o h l u = lifted n d 0 (holds a_fresh_name f) ts out s o (no_room n d f w ts us out h e k)
text_named n d (suc i) f w ts us out e k b s o h l u =
    text_behind n d (suc i) a_fresh_name f w ts us out e b s o (o.grown (suc i) (text a_fresh_name w ∷ []) (raise 1 (suc i) (omega arith) h.more)) l u

text_resumes : (n : Notation) (d : Dialect) (free : ℕ) (k : Holding) (f : List ℕ → Rule) (w : List ℕ) (ts us : List Terminal) (out : Outcome) → ts ≡ text k w ∷ us → Runs d free (f w) us out
    → Both n d free (f w) us out → (s : Sort) → Front n d (holds k f) (last s) free ts [] → Resumes n d s k f w → Loose n d (f w) → Upper free (f w)
    → Stops (λ vs. Halts n d (last s) free ts vs) out
text_resumes n d free a_word f w ts us out e k b s o h l u = text_behind n d free a_word f w ts us out e b s o (raise 0 free (omega arith) h) l u
text_resumes n d free a_string f w ts us out e k b s o h l u = text_behind n d free a_string f w ts us out e b s o (raise 0 free (omega arith) h) l u
text_resumes n d free a_uri f w ts us out e k b s o h l u = text_behind n d free a_uri f w ts us out e b s o (raise 0 free (omega arith) h) l u
text_resumes n d free a_fresh_name f w ts us out e k b s o h l u = text_named n d free f w ts us out e k b s o h l u
text_resumes n d free a_byte_array f w ts us out e k b s o h l u = text_behind n d free a_byte_array f w ts us out e b s o (raise 0 free (omega arith) h) l u

text_shaped : (n : Notation) (d : Dialect) (free : ℕ) (k : Holding) (f : List ℕ → Rule) (w : List ℕ) (ts us : List Terminal) (out : Outcome) → ts ≡ text k w ∷ us → Runs d free (f w) us out
    → Both n d free (f w) us out → (s : Sort) → Front n d (holds k f) (last s) free ts [] → Fin (f w) ⊎ (Resumes n d s k f w × Loose n d (f w)) → Upper free (f w)
    → Stops (λ vs. Halts n d (last s) free ts vs) out
text_shaped n d free k f w ts us out e r b s o (inl h) u =
    lifted n d free (holds k f) ts out s o (front_fin n d free (f w) (holds k f) ts us (text k w ∷ []) out (front_text n d free us k f w) e b h u)
text_shaped n d free k f w ts us out e r b s o (inr h) u = text_resumes n d free k f w ts us out e r b s o h.0 h.1 u

pub both : (n : Notation) {d : Dialect} {free : ℕ} {r : Rule} {ts : List Terminal} {out : Outcome} → Runs d free r ts out → Both n d free r ts out
both n runs_done = record { loose = λ h u. tt; shaped = λ s f h u. tt }
both n {d = d} (runs_sign {free = free} {m = m} {r = r} {ts = ts} {us = us} {out = out} t k) =
    let b = both n k in let lo : Loose n d (sign m r) → Upper free (sign m r) → Stops (λ vs. Halts n d (sign m r) free ts vs) out = λ h u. front_fin n d free (r) (sign m r) ts us (mark m ∷ []) out (front_sign n d r free us m) t.is b h u in
    record { loose = lo; shaped = λ s f h u. sign_shaped n d free m r ts us out t.is b s f h u }
both n {d = d} (no_sign {free = free} {m = m} {r = r} {ts = ts} {us = us} {e = e} x) = at_first n d free (sign m r) ts us e x.same
both n {d = d} (runs_opens {free = free} {m = m} {h = i} {r = r} {ts = ts} {us = us} {out = out} t k) =
    let lo : Loose n d (opens m i r) → Upper free (opens m i r) → Stops (λ vs. Halts n d (opens m i r) free ts vs) out = λ h u. front_fin n d free (r) (opens m i r) ts us (mark m ∷ []) out (front_opens n d r free us m i t.room) t.is (both n k) h (u t.room) in
    record { loose = lo; shaped = λ s l h u. lifted n d free (opens m i r) ts out s l (lo h u) }
both n {d = d} (no_opens {free = free} {m = m} {h = i} {r = r} {ts = ts} {us = us} {e = e} x) = at_first n d free (opens m i r) ts us e (place _ i free ts us e x)
both n {d = d} (runs_next {free = free} {test = test} {r = r} {ts = ts} {out = out} e k) =
    let lo : Loose n d (next test r) → Upper free (next test r) → Stops (λ vs. Halts n d (next test r) free ts vs) out = λ h u. stops_map (λ vs. Halts n d r free ts vs) (λ vs. Halts n d (next test r) free ts vs) out (λ vs x. next_halts n d r free test ts vs e x) ((both n k).loose h u) in
    record { loose = lo; shaped = λ s l h u. lifted n d free (next test r) ts out s l (lo h u) }
both n {d = d} (no_next {free = free} {test = test} {r = r} {ts = ts} {us = us} {e = e} x) = at_first n d free (next test r) ts us e x.same
both n {d = d} (runs_opens_next {free = free} {test = test} {r = r} {ts = ts} {out = out} e z k) =
    let lo : Loose n d (opens_next test r) → Upper free (opens_next test r) → Stops (λ vs. Halts n d (opens_next test r) free ts vs) out = λ h u. stops_map (λ vs. Halts n d r free ts vs) (λ vs. Halts n d (opens_next test r) free ts vs) out (λ vs x. opens_halts n d r free test ts vs e z x) ((both n k).loose h.0 (u z)) in
    record { loose = lo; shaped = λ s l h u. lifted n d free (opens_next test r) ts out s l (lo h u) }
both n {d = d} (no_opens_next {free = free} {test = test} {r = r} {ts = ts} {us = us} {e = e} x) = at_first n d free (opens_next test r) ts us e (place _ 0 free ts us e x)
both n {d = d} (runs_text {free = free} {k = j} {f = f} {ts = ts} {us = us} {out = out} {w = w} t k) =
    let b = both n k in let lo : Loose n d (holds j f) → Upper free (holds j f) → Stops (λ vs. Halts n d (holds j f) free ts vs) out = λ h u. front_fin n d free (f w) (holds j f) ts us (text j w ∷ []) out (front_text n d free us j f w) t.is b (h w) (u w) in
    record { loose = lo; shaped = λ s l h u. text_shaped n d free j f w ts us out t.is k b s l (h w) (u w) }
both n {d = d} (no_text {free = free} {k = j} {f = f} {ts = ts} {us = us} {e = e} x) = at_first n d free (holds j f) ts us e x.same
both n {d = d} (runs_integer {free = free} {most = most} {f = f} {ts = ts} {us = us} {out = out} {n = i} t k) =
    let lo : Loose n d (integer most f) → Upper free (integer most f) → Stops (λ vs. Halts n d (integer most f) free ts vs) out = λ h u. front_fin n d free (f i) (integer most f) ts us (number i ∷ []) out (front_integer n d free us most f i t.fits) t.is (both n k) (h i) (u i) in
    record { loose = lo; shaped = λ s l h u. lifted n d free (integer most f) ts out s l (lo h u) }
both n {d = d} (no_integer {free = free} {most = most} {f = f} {ts = ts} {us = us} {e = e} x) = at_first n d free (integer most f) ts us e x.same
both n {d = d} (runs_at {free = free} {s = q} {f = f} {ts = ts} {us = us} {out = out} {a = a} g k) =
    let c = frame (choose q ts) (sound g) in let lo : Loose n d (at q f) → Upper free (at q f) → Stops (λ vs. Halts n d (at q f) free ts vs) out = λ h u. front_fin n d free (f a) (at q f) ts us c.pre out (front_at n d free q f a ts us c g) c.is (both n k) (h a) (u.1 a (high g (upper_rule d (choose q ts) free u.0))) in
    record { loose = lo; shaped = λ s l h u. lifted n d free (at q f) ts out s l (lo h u) }
both n {d = d} (no_at {free = free} {s = q} {f = f} {ts = ts} {us = us} {e = e} g) =
    let lo : Loose n d (at q f) → Upper free (at q f) → Stops (λ vs. Halts n d (at q f) free ts vs) (fault e us) = λ h u w.
    in_at n d free ts us q f h u.1 ((both n g).shaped q (front_last n d free q ts) (shape_rule n d (choose q ts)) (upper_rule d (choose q ts) free u.0) w) in
    record { loose = lo; shaped = λ s l h u. lifted n d free (at q f) ts (fault e us) s l (lo h u) }
both n {d = d} (runs_under {free = free} {s = q} {f = f} {ts = ts} {us = us} {out = out} {a = a} g k) =
    let c = frame (choose q ts) (sound g) in let lo : Loose n d (under q f) → Upper free (under q f) → Stops (λ vs. Halts n d (under q f) free ts vs) out = λ h u. let y = u.0 in let z : a.height ≤ free - 1 = high g (upper_rule d (choose q ts) (free - 1) (omega (arith, y))) in front_fin n d free (f a) (under q f) ts us c.pre out (front_under n d free q f a ts us c g) c.is (both n k) (h a) (u.1 a (omega (arith, y, z))) in
    record { loose = lo; shaped = λ s l h u. lifted n d free (under q f) ts out s l (lo h u) }
both n {d = d} (no_under {free = free} {s = q} {f = f} {ts = ts} {us = us} {e = e} g) =
    let lo : Loose n d (under q f) → Upper free (under q f) → Stops (λ vs. Halts n d (under q f) free ts vs) (fault e us) = λ h u w.
    let y = u.0 in in_under n d free ts us q f (omega (arith, y)) h u.1 ((both n g).shaped q (front_last n d (free - 1) q ts) (shape_rule n d (choose q ts)) (upper_rule d (choose q ts) (free - 1) (omega (arith, y))) w) in
    record { loose = lo; shaped = λ s l h u. lifted n d free (under q f) ts (fault e us) s l (lo h u) }
both n {d = d} (runs_last {free = free} {s = q} {ts = ts} {out = out} g) =
    let lo : Loose n d (last q) → Upper free (last q) → Stops (λ vs. Halts n d (last q) free ts vs) out = λ h u. (both n g).shaped q (front_last n d free q ts) (shape_rule n d (choose q ts)) (upper_rule d (choose q ts) free u) in
    record { loose = lo; shaped = λ s l h u. lifted n d free (last q) ts out s l (lo h u) }
both n no_memory = record { loose = λ h u w. absurd (w refl); shaped = λ s f h u w. absurd (w refl) }
