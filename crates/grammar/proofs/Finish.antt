-- How what is left of a production is finished.
use Rattle.std.proofs.Common.{ℕ, ◌≤◌, List, [], arith}
use Rattle.std.specs.Prelude.{⊤}
use Rattle.tokens.specs.Token.{Notation}
use Rattle.grammar.specs.declared.dialect.Dialect.{Dialect}
use Rattle.grammar.specs.Rules.{Rule, done, sign, opens, next, opens_next, holds, integer, at, under, last}
use Rattle.grammar.specs.Terminals.{Holding, a_word, a_uri}
use Rattle.grammar.specs.Values.{Spelt}
use Rattle.grammar.proofs.Seeds.{IsSeeded, seed}
use Rattle.grammar.proofs.Texts.{Whole, whole_done, whole_sign, whole_word, whole_uri, whole_integer, whole_at, whole_under, whole_last}
use Rattle.grammar.proofs.Upper.{Upper}

-- texts that a source has
abbrev pub IsPlain : Holding → Type 0
IsPlain a_word = ⊤
IsPlain a_uri = ⊤
IsPlain _ = ⊥

-- what is left opens no form of its own
abbrev pub Fin : Rule → Type 0
Fin (done v) = ⊤
Fin (sign m r) = Fin r
Fin (opens m h r) = ⊥
Fin (next test r) = ⊥
Fin (opens_next test r) = ⊥
Fin (holds k f) = IsPlain k × ((w : List ℕ) → Fin (f w))
Fin (integer most f) = (i : ℕ) → Fin (f i)
Fin (at s f) = IsSeeded s × ((a : Spelt) → Fin (f a))
Fin (under s f) = IsSeeded s × ((a : Spelt) → Fin (f a))
Fin (last s) = IsSeeded s

-- a text of what is left, within each bound that the constituents allow
pub record Finished (n : Notation) (d : Dialect) (r : Rule) : Type 0 where
  pub whole : Whole n d r
  pub low : (most : ℕ) → Upper most r → whole.value.height ≤ most

holding : (n : Notation) (d : Dialect) (k : Holding) (f : List ℕ → Rule) → IsPlain k → Finished n d (f []) → Finished n d (holds k f)
holding n d a_word f p l = record { whole = whole_word l.whole; low = λ most u. l.low most (u []) }
holding n d a_uri f p l = record { whole = whole_uri l.whole; low = λ most u. l.low most (u []) }
holding n d _ f p l = absurd p

pub finish : (n : Notation) (d : Dialect) (r : Rule) → Fin r → Finished n d r
finish n d (done v) h = record { whole = whole_done v; low = λ most u. u }
finish n d (sign m r) h = let l = finish n d r h in record { whole = whole_sign m l.whole; low = λ most u. l.low most u }
finish n d (opens m b r) h = absurd h
finish n d (next test r) h = absurd h
finish n d (opens_next test r) h = absurd h
finish n d (holds k f) h = holding n d k f h.0 (finish n d (f []) (h.1 []))
finish n d (integer top f) h = let l = finish n d (f 0) (h 0) in record { whole = whole_integer top l.whole; low = λ most u. l.low most (u 0) }
finish n d (at s f) h = let a = seed n d s h.0 in let l = finish n d (f a.whole.value) (h.1 a.whole.value) in
    record { whole = whole_at a.prod a.whole l.whole; low = λ most u. let z = a.low in let y = u.0 in l.low most (u.1 a.whole.value (omega (arith, z, y))) }
finish n d (under s f) h = let a = seed n d s h.0 in let l = finish n d (f a.whole.value) (h.1 a.whole.value) in
    record { whole = whole_under a.prod a.whole l.whole; low = λ most u. let z = a.low in let y = u.0 in l.low most (u.1 a.whole.value (omega (arith, z, y))) }
finish n d (last s) h = let a = seed n d s h in record { whole = whole_last a.prod a.whole; low = λ most u. let z = a.low in omega (arith, z, u) }
