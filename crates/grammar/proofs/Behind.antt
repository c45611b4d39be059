-- Behind the end of a process, and what descent comes to where a bound is passed.
use Rattle.std.proofs.Common.{◌≡◌, ℕ, ◌+◌, ◌-◌, ◌<◌, ◌≤◌, List, [], ◌∷◌, ◌++◌, false, true, subst, sym, refl, ap, ◌∙◌, arith, take, length, append_assoc}
use Rattle.std.proofs.lemmas.List.{append-nil}
use Rattle.tokens.specs.Token.{Notation, source, Token}
use Rattle.grammar.specs.declared.dialect.Dialect.{Dialect}
use Rattle.grammar.specs.declared.fault.Fault.TheVariants.{Syntax, TooDeep, NoMemory}
use Rattle.grammar.specs.declared.mark.Mark.TheVariants as marks
use Rattle.grammar.specs.Descent.{Outcome, Descends, IsSure, read, fault}
use Rattle.grammar.specs.Rules.{Par, last}
use Rattle.grammar.specs.Spells.{Reads}
use Rattle.grammar.specs.Terminals.{Terminal, mark, terminals, sees}
use Rattle.grammar.specs.Values.{Spelt, processes}
use Rattle.grammar.proofs.Sound.{sound}
use Rattle.grammar.specs.Places.{BeginsWithin, BeginsNothing, PassesAt, EndsAt}
use Rattle.grammar.proofs.Begun.{sign_is}
use Rattle.grammar.proofs.Counted.{count, front, up_to}
use Rattle.grammar.proofs.Decided.{one_place, apart}
use Rattle.grammar.proofs.Exact.{exact, syntax, behind}
use Rattle.grammar.proofs.Faults.{IsText, no_second}
use Rattle.grammar.proofs.Framed.{frames}
use Rattle.grammar.proofs.Local.{local}
use Rattle.grammar.proofs.Tokens.{both_terminals}
use Rattle.grammar.proofs.Upper.{high}

-- the tokens up to the end are a text
whole : (n : Notation) (d : Dialect) (free : ℕ) (tokens : List Token) (v : Spelt) (us : List Terminal) → Descends n d free tokens (read v (mark marks.End ∷ us))
    → BeginsWithin n d free (take (length tokens - length us) tokens)
whole n d free tokens v us k =
    let l = frames (sound k) tt in
    let h : v.height ≤ free = high k (omega arith) in
    let p : terminals n tokens ≡ (l.pre ++ (mark marks.End ∷ [])) ++ us = l.is ∙ sym (append_assoc l.pre (mark marks.End ∷ []) us) in
    let e = front n tokens (l.pre ++ (mark marks.End ∷ [])) us (length tokens - length us) p (count n tokens (l.pre ++ (mark marks.End ∷ [])) us p) in
    let q : terminals n (take (length tokens - length us) tokens ++ []) ≡ l.pre ++ (mark marks.End ∷ []) = ap (terminals n) (append-nil (take (length tokens - length us) tokens)) ∙ e in
    ([], v.tree, v.height, h, subst (λ (x : List Terminal). Reads d (last (Par processes)) x v (mark marks.End ∷ [])) (sym q) (l.moves (mark marks.End ∷ [])))

-- and with one more they begin no text
no_longer : (n : Notation) (d : Dialect) (free : ℕ) (tokens : List Token) (v : Spelt) (us : List Terminal) → Descends n d free tokens (read v (mark marks.End ∷ us))
    → length tokens - length us < length tokens → BeginsNothing n d (take ((length tokens - length us) + 1) tokens)
no_longer n d free tokens v [] k b = absurd (omega (arith, b))
no_longer n d free tokens v (x ∷ us) k b =
    let l = local k tt in
    let y = mark marks.End in
    let a : terminals n tokens ≡ (l.pre ++ (y ∷ [])) ++ (x ∷ us) = l.is ∙ sym (append_assoc l.pre (y ∷ []) (x ∷ us)) in
    let e = up_to n tokens (l.pre ++ (y ∷ [])) us x (length tokens - length (x ∷ us)) a (count n tokens (l.pre ++ (y ∷ [])) (x ∷ us) a) in
    λ after p h t.
    let c : terminals n (take ((length tokens - length (x ∷ us)) + 1) tokens ++ after) ≡ l.pre ++ (y ∷ x ∷ terminals n after) =
    both_terminals n (take ((length tokens - length (x ∷ us)) + 1) tokens) after ∙ (ap (λ z. z ++ terminals n after) e
    ∙ (append_assoc (l.pre ++ (y ∷ [])) (x ∷ []) (terminals n after) ∙ append_assoc l.pre (y ∷ []) (x ∷ terminals n after))) in
    no_second d free (terminals n tokens) (x ∷ us) v x l (terminals n after) p h (subst (λ (z : List Terminal). IsText d z p h) c t)

pub behind_end : (n : Notation) (d : Dialect) (free : ℕ) (tokens : List Token) (v : Spelt) (us : List Terminal) → Descends n d free tokens (read v (mark marks.End ∷ us))
    → EndsAt n d free tokens (length tokens - length us)
behind_end n d free tokens v us k = record { within = omega arith; first = whole n d free tokens v us k; none = no_longer n d free tokens v us k }

-- what follows a process that is read ends the text
read_ends : (n : Notation) (d : Dialect) (free : ℕ) (tokens : List Token) (v : Spelt) (us : List Terminal) → Descends n d free tokens (read v us) → (j : ℕ) × EndsAt n d free tokens j
read_ends n d free tokens v [] k = (length tokens - 0, behind n d free tokens v [] k refl)
read_ends n d free tokens v (x ∷ us) k = elim (sees marks.End (x ∷ us)) as (λ b. sees marks.End (x ∷ us) ≡ b → (j : ℕ) × EndsAt n d free tokens j) [
  | true ↦ λ e. (length tokens - length us, behind_end n d free tokens v us (subst (λ (y : Terminal). Descends n d free tokens (read v (y ∷ us))) (sign_is marks.End x us e) k))
  | false ↦ λ e. (length tokens - length (x ∷ us), behind n d free tokens v (x ∷ us) k e)
] refl

-- where a bound is passed, descent stops there for want of room
pub found : (d : Dialect) (free : ℕ) (tokens : List Token) (k : ℕ) (out : Outcome) → PassesAt source d free tokens k → Descends source d free tokens out → IsSure out
    → (rest : List Terminal) × (out ≡ fault TooDeep rest) × (length tokens - length rest ≡ k)
found d free tokens k (read v us) a r s = let b = read_ends source d free tokens v us r in absurd (apart source d free tokens k b.0 a b.1)
found d free tokens k (fault Syntax us) a r s = absurd (apart source d free tokens k (length tokens - length us) a (syntax d free tokens us r))
found d free tokens k (fault TooDeep us) a r s = (us, refl, one_place source d free tokens (length tokens - length us) k (exact d free tokens us r) a)
found d free tokens k (fault NoMemory us) a r s = absurd (s refl)
