-- The places of faults, counted in tokens.
use Rattle.std.proofs.Common.{◌≡◌, ℕ, ◌+◌, ◌-◌, ◌<◌, ◌≤◌, List, [], ◌∷◌, ◌++◌, false, true, ◌⊎◌, inl, inr, subst, sym, refl, ap, ◌∙◌, arith, take, length, append_assoc, length-append}
use Rattle.std.proofs.lemmas.List.{length-map}
use Rattle.calculus.specs.Written.{Written}
use Rattle.tokens.specs.Token.{Notation, source, Token, end_of_text}
use Rattle.grammar.specs.declared.dialect.Dialect.{Dialect}
use Rattle.grammar.specs.declared.fault.Fault.{Fault}
use Rattle.grammar.specs.declared.fault.Fault.TheVariants.{Syntax, TooDeep, NoMemory}
use Rattle.grammar.specs.declared.mark.Mark.TheVariants as marks
use Rattle.grammar.specs.Descent.{Descends, read, fault, Runs}
use Rattle.grammar.specs.Rules.{Par, Rule, last}
use Rattle.grammar.specs.Spells.{Reads, Spells}
use Rattle.grammar.specs.Terminals.{a_fresh_name, Terminal, text, mark, terminal, terminals, sees}
use Rattle.grammar.specs.Values.{Spelt, processes}
use Rattle.grammar.proofs.Sound.{sound}
use Rattle.grammar.specs.Places.{Begins, BeginsWithin, BeginsBeyond, BeginsNothing, IsBeyondAt, PassesAt, PassesAtName, StartsWithin, EndsAt}
use Rattle.grammar.proofs.Begun.{begun}
use Rattle.grammar.proofs.Counted.{count, front, up_to, no_fresh, name_at}
use Rattle.grammar.proofs.Faults.{IsText, higher, no_syntax, no_more, has_next}
use Rattle.grammar.proofs.Framed.{frames}
use Rattle.grammar.proofs.Local.{local}
use Rattle.grammar.proofs.Stops.{both}
use Rattle.grammar.proofs.Texts.{Grows}
use Rattle.grammar.proofs.Tokens.{both_terminals}
use Rattle.grammar.proofs.Upper.{high}
use Rattle.grammar.proofs.Viable.{Viable, Forced, Done, settle}

-- a text of a Par
abbrev start : Rule
start = last (Par processes)

-- the text of tokens, from the one of their terminals
spelt_so : (n : Notation) (d : Dialect) (tokens after : List Token) (pre : List Terminal) (v : Spelt) → terminals n tokens ≡ pre
    → Reads d start (pre ++ (terminals n after ++ (mark marks.End ∷ []))) v (mark marks.End ∷ []) → Spells n d (tokens ++ (after ++ (end_of_text ∷ []))) v.tree v.height
spelt_so n d tokens after pre v e k =
    let a : terminals n (tokens ++ (after ++ (end_of_text ∷ []))) ≡ pre ++ (terminals n after ++ (mark marks.End ∷ [])) =
    both_terminals n tokens (after ++ (end_of_text ∷ [])) ∙ (ap (λ x. x ++ terminals n (after ++ (end_of_text ∷ []))) e ∙ ap (λ x. pre ++ x) (both_terminals n after (end_of_text ∷ []))) in
    subst (λ (x : List Terminal). Reads d start x v (mark marks.End ∷ [])) (sym a) k

-- tokens with which a text begins, from their terminals
within : (n : Notation) (d : Dialect) (most : ℕ) (tokens : List Token) (pre : List Terminal) → terminals n tokens ≡ pre → Grows n d start most pre → BeginsWithin n d most tokens
within n d most tokens pre e g = (g.after ++ (end_of_text ∷ []), g.value.tree, g.value.height, g.low, spelt_so n d tokens g.after pre g.value e (g.reads (mark marks.End ∷ [])))

-- a text that begins with tokens, as terminals
pub terminals_so : (n : Notation) (d : Dialect) (tokens after : List Token) (pre : List Terminal) (x : Terminal) (p : Written) (h : ℕ) → terminals n tokens ≡ pre ++ (x ∷ [])
    → Spells n d (tokens ++ after) p h → IsText d (pre ++ (x ∷ terminals n after)) p h
terminals_so n d tokens after pre x p h e k =
    let a : terminals n (tokens ++ after) ≡ pre ++ (x ∷ terminals n after) =
    both_terminals n tokens after ∙ (ap (λ y. y ++ terminals n after) e ∙ append_assoc pre (x ∷ []) (terminals n after)) in
    subst (λ (y : List Terminal). IsText d y p h) a k

-- the place is a token
below : (n : Notation) (tokens : List Token) (pre us : List Terminal) (x : Terminal) → terminals n tokens ≡ pre ++ (x ∷ us) → length pre < length tokens
below n tokens pre us x e =
    let b : length (terminals n tokens) ≡ length pre + length (x ∷ us) = ap length e ∙ length-append pre (x ∷ us) in
    let c = length-map tokens (terminal n) in
    omega (arith, b, c)

-- where descent stops for a fault, a text within the free height begins with what was read, but for a fresh name
done : (n : Notation) (d : Dialect) (free : ℕ) (ts us : List Terminal) (e : Fault) → Runs d free start ts (fault e us) → (e ≡ NoMemory → ⊥) → Done n d start free ts us
done n d free ts us e k w = settle n d start free ts us tt (omega arith) ((both n k).loose tt (omega arith) w)

viable : (n : Notation) (d : Dialect) (free : ℕ) (tokens : List Token) (us : List Terminal) → Viable n d start free (terminals n tokens) us
    → BeginsWithin n d free (take (length tokens - length us) tokens)
viable n d free tokens us v = within n d free (take (length tokens - length us) tokens) v.pre (front n tokens v.pre us (length tokens - length us) v.is (count n tokens v.pre us v.is)) v.grows

-- at the fresh name the bound is passed
name_beyond : (n : Notation) (d : Dialect) (free : ℕ) (tokens : List Token) (us : List Terminal) (v : Forced n d start free (terminals n tokens) us) → IsBeyondAt n d free tokens (length v.pre)
name_beyond n d free tokens us v =
    let x = text a_fresh_name v.word in
    let f = v.forces in
    let e = up_to n tokens v.pre us x (length v.pre) f.is refl in
    let g = within n d f.most (take (length v.pre + 1) tokens) (v.pre ++ (x ∷ [])) e f.more in
    record {
      within = below n tokens v.pre us x f.is;
      some = (g.0, g.1, g.2, g.4);
      none = λ after p h t. let m = f.moves (terminals n after) in
          higher d free (v.pre ++ (x ∷ terminals n after)) (terminals n after) m.0 m.1 m.2 p h (terminals_so n d (take (length v.pre + 1) tokens) after v.pre x p h e t);
    }

forced : (n : Notation) (d : Dialect) (free : ℕ) (tokens : List Token) (us : List Terminal) → Forced n d start free (terminals n tokens) us
    → PassesAtName n d free tokens (length tokens - length us)
forced n d free tokens us v =
    let x = text a_fresh_name v.word in
    let f = v.forces in
    let a = count n tokens (v.pre ++ (x ∷ [])) us (f.is ∙ sym (append_assoc v.pre (x ∷ []) us)) in
    let b = length-append v.pre (x ∷ []) in
    let c = name_at n tokens v.pre us v.word f.is in
    record {
      number = length v.pre;
      is = omega (arith, a, b);
      digits = c.0;
      name = c.1;
      passes = record { at = name_beyond n d free tokens us v; first = within n d free (take (length v.pre) tokens) v.pre (front n tokens v.pre (x ∷ us) (length v.pre) f.is refl) v.grows };
    }

either : (n : Notation) (d : Dialect) (free : ℕ) (tokens : List Token) (us : List Terminal) → Done n d start free (terminals n tokens) us → StartsWithin n d free tokens (length tokens - length us)
either n d free tokens us (inl v) = inl (viable n d free tokens us v)
either n d free tokens us (inr v) = inr (forced n d free tokens us v)

pub before : (n : Notation) (d : Dialect) (free : ℕ) (tokens : List Token) (us : List Terminal) (e : Fault) → Descends n d free tokens (fault e us) → (e ≡ NoMemory → ⊥)
    → StartsWithin n d free tokens (length tokens - length us)
before n d free tokens us e k w = either n d free tokens us (done n d free (terminals n tokens) us e k w)

-- in a source there are no fresh names
in_source : (d : Dialect) (free : ℕ) (tokens : List Token) (us : List Terminal) → Done source d start free (terminals source tokens) us
    → BeginsWithin source d free (take (length tokens - length us) tokens)
in_source d free tokens us (inl v) = viable source d free tokens us v
in_source d free tokens us (inr v) = absurd (no_fresh tokens v.pre us v.word v.forces.is)

pub first : (d : Dialect) (free : ℕ) (tokens : List Token) (us : List Terminal) (e : Fault) → Descends source d free tokens (fault e us) → (e ≡ NoMemory → ⊥)
    → BeginsWithin source d free (take (length tokens - length us) tokens)
first d free tokens us e k w = in_source d free tokens us (done source d free (terminals source tokens) us e k w)

below_place : (n : Notation) (tokens : List Token) (pre us : List Terminal) (x : Terminal) → terminals n tokens ≡ pre ++ (x ∷ us) → length tokens - length (x ∷ us) < length tokens
below_place n tokens pre us x e =
    let a = count n tokens pre (x ∷ us) e in
    let b = below n tokens pre us x e in
    omega (arith, a, b)

some : (n : Notation) (d : Dialect) (free : ℕ) (tokens : List Token) (us : List Terminal) (x : Terminal) → Descends n d free tokens (fault TooDeep (x ∷ us))
    → Begins n d (take ((length tokens - length (x ∷ us)) + 1) tokens)
some n d free tokens us x k =
    let b = begun n k tt in
    let e = up_to n tokens b.pre us x (length tokens - length (x ∷ us)) b.is (count n tokens b.pre (x ∷ us) b.is) in
    let g = within n d b.most (take ((length tokens - length (x ∷ us)) + 1) tokens) (b.pre ++ (x ∷ [])) e b.grows in
    (g.0, g.1, g.2, g.4)

none : (n : Notation) (d : Dialect) (free : ℕ) (tokens : List Token) (us : List Terminal) (x : Terminal) → Descends n d free tokens (fault TooDeep (x ∷ us))
    → BeginsBeyond n d free (take ((length tokens - length (x ∷ us)) + 1) tokens)
none n d free tokens us x k =
    let l = local k (λ e. absurd (cc (e))) in
    let e = up_to n tokens l.pre us x (length tokens - length (x ∷ us)) l.is (count n tokens l.pre (x ∷ us) l.is) in
    λ after p h t. higher d free (l.pre ++ (x ∷ terminals n after)) (x ∷ terminals n after) TooDeep (λ g. absurd (cc (g))) (l.moves (x ∷ terminals n after) refl) p h (terminals_so n d (take ((length tokens - length (x ∷ us)) + 1) tokens) after l.pre x p h e t)

pub beyond : (n : Notation) (d : Dialect) (free : ℕ) (tokens : List Token) (us : List Terminal) → Descends n d free tokens (fault TooDeep us)
    → IsBeyondAt n d free tokens (length tokens - length us)
beyond n d free tokens [] k = absurd (has_next k refl)
beyond n d free tokens (x ∷ us) k = let b = begun n k tt in record { within = below_place n tokens b.pre us x b.is; some = some n d free tokens us x k; none = none n d free tokens us x k }

place : (n : Notation) (d : Dialect) (free : ℕ) (tokens : List Token) (k : ℕ) → IsBeyondAt n d free tokens k → StartsWithin n d free tokens k
    → PassesAt n d free tokens k ⊎ PassesAtName n d free tokens k
place n d free tokens k b (inl x) = inl (record { at = b; first = x })
place n d free tokens k b (inr x) = inr x

pub in_each : (n : Notation) (d : Dialect) (free : ℕ) (tokens : List Token) (us : List Terminal) → Descends n d free tokens (fault TooDeep us)
    → PassesAt n d free tokens (length tokens - length us) ⊎ PassesAtName n d free tokens (length tokens - length us)
in_each n d free tokens us k = place n d free tokens (length tokens - length us) (beyond n d free tokens us k) (before n d free tokens us TooDeep k (λ e. absurd (cc (e))))

pub exact : (d : Dialect) (free : ℕ) (tokens : List Token) (us : List Terminal) → Descends source d free tokens (fault TooDeep us) → PassesAt source d free tokens (length tokens - length us)
exact d free tokens us k = record { at = beyond source d free tokens us k; first = first d free tokens us TooDeep k (λ e. absurd (cc (e))) }

-- a fault of syntax
pub refused : (n : Notation) (d : Dialect) (free : ℕ) (tokens : List Token) (us : List Terminal) → Descends n d free tokens (fault Syntax us)
    → length tokens - length us < length tokens → BeginsNothing n d (take ((length tokens - length us) + 1) tokens)
refused n d free tokens [] k b = absurd (omega (arith, b))
refused n d free tokens (x ∷ us) k b =
    let l = local k (λ e. absurd (cc (e))) in
    let e = up_to n tokens l.pre us x (length tokens - length (x ∷ us)) l.is (count n tokens l.pre (x ∷ us) l.is) in
    λ after p h t. no_syntax d free (terminals n tokens) us x l (terminals n after) p h (terminals_so n d (take ((length tokens - length (x ∷ us)) + 1) tokens) after l.pre x p h e t)

pub syntax : (d : Dialect) (free : ℕ) (tokens : List Token) (us : List Terminal) → Descends source d free tokens (fault Syntax us) → EndsAt source d free tokens (length tokens - length us)
syntax d free tokens us k = record { within = omega arith; first = first d free tokens us Syntax k (λ e. absurd (cc (e))); none = refused source d free tokens us k }

-- what stands behind a whole Par
after_par : (n : Notation) (d : Dialect) (free : ℕ) (tokens : List Token) (v : Spelt) (us : List Terminal) → Descends n d free tokens (read v us) → sees marks.End us ≡ false
    → length tokens - length us < length tokens → BeginsNothing n d (take ((length tokens - length us) + 1) tokens)
after_par n d free tokens v [] k s b = absurd (omega (arith, b))
after_par n d free tokens v (x ∷ us) k s b =
    let l = local k tt in
    let e = up_to n tokens l.pre us x (length tokens - length (x ∷ us)) l.is (count n tokens l.pre (x ∷ us) l.is) in
    let not_end : x ≡ mark marks.End → ⊥ = λ g. (let y : false ≡ true = sym s ∙ ap (λ z. sees marks.End (z ∷ us)) g in absurd (cc (y))) in
    λ after p h t. no_more d free (terminals n tokens) us v x l not_end (terminals n after) p h
    (terminals_so n d (take ((length tokens - length (x ∷ us)) + 1) tokens) after l.pre x p h e t)

pub behind : (n : Notation) (d : Dialect) (free : ℕ) (tokens : List Token) (v : Spelt) (us : List Terminal) → Descends n d free tokens (read v us) → sees marks.End us ≡ false
    → EndsAt n d free tokens (length tokens - length us)
behind n d free tokens v us k s =
    let l = frames (sound k) tt in
    let h : v.height ≤ free = high k (omega arith) in
    let e = front n tokens l.pre us (length tokens - length us) l.is (count n tokens l.pre us l.is) in
    record {
      within = omega arith;
      first = ((end_of_text ∷ []), v.tree, v.height, h, spelt_so n d (take (length tokens - length us) tokens) [] l.pre v e (l.moves (mark marks.End ∷ [])));
      none = after_par n d free tokens v us k s;
    }
