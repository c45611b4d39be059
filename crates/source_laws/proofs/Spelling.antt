-- What is spelt is well formed.
use Rattle.std.proofs.Common.{List, map, length}
use Rattle.tokens.proofs.Order.{tokens_in_order}
use Rattle.calculus.specs.Written.{Written}
use Rattle.grammar.specs.declared.dialect.Dialect.{Dialect}
use Rattle.grammar.specs.Rules.{Par, Rule}
use Rattle.grammar.specs.Spells.{Reads, of_done, of_sign, of_opens, of_next, of_opens_next, of_text, of_integer, of_at, of_under, of_last}
use Rattle.grammar.specs.Terminals.{Terminal}
use Rattle.grammar.specs.Values.{Spelt, processes}
use Rattle.source_laws.specs.Texts.{AreSound}
use Rattle.source_laws.proofs.Sorts.{Value}
use Rattle.source_laws.proofs.Sound.{Sound}
use Rattle.source_laws.specs.ClosedLaws.{SpeltIsWellFormed, TextIsWellFormed, AcceptedTextIsClosed}
use Rattle.source_laws.proofs.Fitting.{accepted_is_closed}
use Rattle.source_laws.proofs.Tokens.{tokens-sound, in-order-formed}
use Rattle.source_laws.proofs.ClosedProductions.{sound_rule}

-- a value that a rule reads is what is wanted, and the terminals that are left are sound as before
pub sound : {d : Dialect} {r : Rule} {ts rest : List Terminal} {v : Spelt} (G : Written → Type 0) → Reads d r ts v rest → Sound G r → AreSound ts → G v.tree × AreSound rest
sound G of_done h a = (h, a)
sound G (of_sign k) h a = sound G k h a.1
sound G (of_opens k) h a = sound G k h a.1
sound G (of_next e k) h a = sound G k h a
sound G (of_opens_next e k) h a = sound G k h a
sound G (of_text {w = w} k) h a = sound G k (h w a.0) a.1
sound G (of_integer {n = n} e k) h a = sound G k (h n e) a.1
sound {d = d} G (of_at {s = s} {a = v} p g k) h a =
    let q = sound (Value s) g (sound_rule d p h.0) a in
    sound G k (h.1 v q.0) q.1
sound {d = d} G (of_under {s = s} {a = v} p g k) h a =
    let q = sound (Value s) g (sound_rule d p h.0) a in
    sound G k (h.1 v q.0) q.1
sound {d = d} G (of_last {s = s} {v = v} p k) h a =
    let q = sound (Value s) k (sound_rule d p h.0) a in
    (h.1 v.tree q.0, q.1)

pub spelt_is_well_formed : SpeltIsWellFormed
spelt_is_well_formed n d tokens p h f r = (sound (Value (Par processes)) r (tt, λ t k. k) (tokens-sound n tokens f)).0

pub text_is_well_formed : TextIsWellFormed
text_is_well_formed n d text tokens p h t r =
    spelt_is_well_formed n d (map (λ x. x.token) tokens) p h (in-order-formed 0 (length text) tokens (tokens_in_order n text tokens t)) r

pub accepted_text_is_closed : AcceptedTextIsClosed
accepted_text_is_closed n d text tokens p h t r e = accepted_is_closed p (text_is_well_formed n d text tokens p h t r) e
