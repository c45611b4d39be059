-- What a parser answers for the tokens of a text.
use Rattle.std.proofs.Common.{◌≡◌, ◌∙◌, ℕ, ◌-◌, ◌≤◌, max, List, [], ◌∷◌, true, false, length, sym, ap, subst, arith, Result, Err}
use Rattle.std.proofs.lemmas.List.{length-map}
use Rattle.calculus.specs.Written.{Written}
use Rattle.tokens.specs.Token.{source}
use Rattle.grammar.specs.declared.dialect.Dialect.TheVariants.{Tutorial}
use Rattle.grammar.specs.declared.fault.Fault.TheVariants.{Syntax, TooDeep}
use Rattle.grammar.specs.declared.mark.Mark.TheVariants as marks
use Rattle.grammar.specs.Descent.{Descends, Outcome, Runs, read, fault}
use Rattle.grammar.specs.Rules.{Par, Rule, last}
use Rattle.grammar.specs.Spells.{Reads, Spells, SpellsNothing}
use Rattle.grammar.specs.Terminals.{Terminal, mark, terminal, sees}
use Rattle.grammar.specs.Values.{Spelt, spelt, processes}
use Rattle.grammar.proofs.OneReading.{one_reading}
use Rattle.grammar.proofs.Sound.{sound}
use Rattle.grammar.proofs.Agree.{same as same_outcome}
use Rattle.grammar.proofs.Wider.{complete, wider, nothing}
use Rattle.grammar.proofs.Decided.{higher}
use Rattle.grammar.proofs.Exact as exact
use Rattle.grammar.proofs.Framed.{frames}
use Rattle.rho_lexer.specs.declared.token.Token.{Token}
use Rattle.token_cursor.specs.Meaning.{most_height, plain_tokens, view}
use Rattle.calculus.specs.declared.process.Proc.{Proc}
use Rattle.std.specs.Prelude.{IfErr, IfOk}
use Rattle.input_faults.specs.declared.parse_fault.ParseFault.{ParseFault}
use Rattle.rho_parser.specs.Parsed.{AreOfText, IsRefused, place_of, IsTooDeep, IsIllFormed}
use Rattle.rho_parser.proofs.Ends.{end_is_last}

-- what the greatest height is
pub at_most : {n : ℕ} {r : Rule} {ts : List Terminal} {out : Outcome} → n ≡ most_height → Runs Tutorial n r ts out → Runs Tutorial most_height r ts out
at_most {n} {r} {ts} {out} e k = subst (λ (m : ℕ). Runs Tutorial m r ts out) e k

-- the number of a token is counted in tokens or in terminals
counted : (ts rest : List Token) → length (plain_tokens ts) - length (view rest) ≡ length ts - length rest
counted ts rest =
    let a : length (plain_tokens ts) ≡ length ts = length-map ts _ in
    let b : length (view rest) ≡ length (plain_tokens rest) = length-map (plain_tokens rest) (terminal source) in
    let c : length (plain_tokens rest) ≡ length rest = length-map rest _ in
    ap (λ n. n - length (view rest)) a ∙ ap (λ n. length ts - n) (b ∙ c)

-- a whole process before the end is spelt
pub whole : (ts : List Token) (v : Spelt) (us : List Terminal) → AreOfText ts → Descends source Tutorial most_height (plain_tokens ts) (read v us) → sees marks.End us ≡ true
    → Spells source Tutorial (plain_tokens ts) v.tree v.height
whole ts v us o k s =
    let r = sound k in
    let f = frames r tt in
    let e = end_is_last ts 0 o.0 f.pre us o.1 f.is s in
    subst (λ (x : List Terminal). Reads Tutorial (last (Par processes)) (view ts) v x) e r

-- a text that is spelt is read up to its end
behind_nothing : (ts : List Token) (v : Spelt) (us : List Terminal) → Descends source Tutorial most_height (plain_tokens ts) (read v us) → sees marks.End us ≡ false → SpellsNothing source Tutorial (plain_tokens ts)
behind_nothing ts v us k s p h t =
    let room = max most_height h in
    let a = complete Tutorial (view ts) p h room t (omega arith) in
    let b = wider k tt room (omega arith) in
    let e : read (spelt p h) (mark marks.End ∷ []) ≡ read v us = same_outcome a b tt tt in
    let f : mark marks.End ∷ [] ≡ us = cc in
    let no : true ≡ false = ap (sees marks.End) f ∙ s in
    cc

-- before anything else nothing is spelt
pub unfinished : (ts rest : List Token) (v : Spelt) → Descends source Tutorial most_height (plain_tokens ts) (read v (view rest)) → sees marks.End (view rest) ≡ false
    → (at : ℕ) → at ≡ place_of ts (length ts - length rest) → IsIllFormed ts at
unfinished ts rest v k s at e =
    let n = length (plain_tokens ts) - length (view rest) in
    let b = exact.behind source Tutorial most_height (plain_tokens ts) v (view rest) k s in
    record {
      nothing = behind_nothing ts v (view rest) k s;
      number = n;
      ends = b;
      place = e ∙ ap (place_of ts) (sym (counted ts rest));
    }

-- a fault of syntax
pub stuck : (ts rest : List Token) → Descends source Tutorial most_height (plain_tokens ts) (fault Syntax (view rest))
    → (at : ℕ) → at ≡ place_of ts (length ts - length rest) → IsIllFormed ts at
stuck ts rest k at e = record {
  nothing = nothing Tutorial most_height (view ts) (view rest) k;
  number = length (plain_tokens ts) - length (view rest);
  ends = exact.syntax Tutorial most_height (plain_tokens ts) (view rest) k;
  place = e ∙ ap (place_of ts) (sym (counted ts rest));
}

-- a fault of depth
pub deep : (ts rest : List Token) → Descends source Tutorial most_height (plain_tokens ts) (fault TooDeep (view rest))
    → (at : ℕ) → at ≡ place_of ts (length ts - length rest) → IsTooDeep ts at
deep ts rest k at e = record {
  number = length (plain_tokens ts) - length (view rest);
  passes = exact.exact Tutorial most_height (plain_tokens ts) (view rest) k;
  place = e ∙ ap (place_of ts) (sym (counted ts rest));
}

-- what is spelt within the height is not too deep
pub not_deep : (ts : List Token) (at h : ℕ) (p : Written) → IsTooDeep ts at → h ≤ most_height → Spells source Tutorial (plain_tokens ts) p h → ⊥
not_deep ts at h p d l s = let g = higher source Tutorial most_height (plain_tokens ts) d.number p h d.passes.at s in omega (arith, g, l)

-- and is one process
pub same : (ts : List Token) (p q : Written) (h k : ℕ) → Spells source Tutorial (plain_tokens ts) p h → Spells source Tutorial (plain_tokens ts) q k → p ≡ q
same ts p q h k a b = (one_reading source Tutorial (plain_tokens ts) p q h k a b).0

-- where a value is let go with a fault, the fault is the answer
pub refused_as : (ts : List Token) (res : Result Proc ParseFault) (e : ParseFault) → res ≡ Err e → IsRefused ts e → IfErr res (IsRefused ts)
refused_as ts res e g h = subst (λ (x : Result Proc ParseFault). IfErr x (IsRefused ts)) (sym g) h

pub none_found : (P : Proc → Type 0) (res : Result Proc ParseFault) (e : ParseFault) → res ≡ Err e → IfOk res P
none_found P res e g = subst (λ (x : Result Proc ParseFault). IfOk x P) (sym g) tt
