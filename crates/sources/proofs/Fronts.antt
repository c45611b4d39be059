-- What the lexer, the parser and the walk over scopes answer, as answers to a text.
use Rattle.std.proofs.Common.{◌≡◌, ◌∙◌, ℕ, zero, suc, ◌-◌, ◌≤◌, List, [], ◌∷◌, Option, Some, None, IfSome, option_map, map, length, refl, sym, ap, subst}
use Rattle.calculus.specs.Written.{Written}
use Rattle.tokens.specs.Token as tokens
use Rattle.tokens.specs.Token.{source}
use Rattle.tokens.specs.Reading.{HasTokens}
use Rattle.grammar.specs.declared.dialect.Dialect.TheVariants.{Tutorial}
use Rattle.grammar.specs.Spells.{Spells, SpellsNothing}
use Rattle.grammar.specs.Places.{PassesAt, EndsAt}
use Rattle.rho_lexer.specs.Meaning.{kind_token, spanned_tokens}
use Rattle.rho_lexer.specs.declared.token.Token.{Token}
use Rattle.token_cursor.specs.Meaning.{plain_tokens}
use Rattle.input_faults.specs.Refusals.{parse_refusal, out_of_scope}
use Rattle.input_faults.specs.declared.parse_fault.ParseFault.{ParseFault}
use Rattle.input_faults.specs.declared.parse_fault.ParseFault.TheVariants as grammatical
use Rattle.rho_parser.specs.Parsed as parsed
use Rattle.rho_parser.specs.Parsed.{place_of}
use Rattle.scope.specs.Rules.{Broken, broken_rules}
use Rattle.input_faults.specs.Faults.{NamesFirst, StandsFirst}
use Rattle.sources.specs.Sources.{most_height, plain, start_of, IsSpelt, IsTooDeep, IsIllFormed, IsOutOfScope, IsRefused}

plain_spanned : (ts : List Token) → plain (spanned_tokens ts) ≡ plain_tokens ts
plain_spanned [] = refl
plain_spanned (t ∷ ts) = ap (λ us. kind_token t.kind ∷ us) (plain_spanned ts)

start_spanned : (ts : List Token) (k : ℕ) → start_of (spanned_tokens ts) k ≡ place_of ts k
start_spanned [] k = refl
start_spanned (t ∷ ts) zero = refl
start_spanned (t ∷ ts) (suc k) = start_spanned ts k

-- what the parser reads is spelt
pub reads : (text : List ℕ) (ts : List Token) (p : Written) → HasTokens source text (spanned_tokens ts)
    → (h : ℕ) × (h ≤ 200) × Spells source Tutorial (plain_tokens ts) p h → IsSpelt text p
reads text ts p t f = record {
  spanned = spanned_tokens ts;
  tokens = t;
  height = f.0;
  within = f.1;
  spells = subst (λ us. Spells source Tutorial us p f.0) (sym (plain_spanned ts)) f.2;
}

-- where it is too deep, the text is
deep : (text : List ℕ) (ts : List Token) (at : ℕ) → HasTokens source text (spanned_tokens ts) → parsed.IsTooDeep ts at → IsTooDeep text at
deep text ts at t d = record {
  spanned = spanned_tokens ts;
  tokens = t;
  number = d.number;
  passes = subst (λ us. PassesAt source Tutorial most_height us d.number) (sym (plain_spanned ts)) d.passes;
  place = d.place ∙ sym (start_spanned ts d.number);
}

-- where it finds no text of the grammar, there is none
ill : (text : List ℕ) (ts : List Token) (at : ℕ) → HasTokens source text (spanned_tokens ts) → parsed.IsIllFormed ts at → IsIllFormed text at
ill text ts at t d = record {
  spanned = spanned_tokens ts;
  tokens = t;
  nothing = subst (λ us. SpellsNothing source Tutorial us) (sym (plain_spanned ts)) d.nothing;
  number = d.number;
  ends = subst (λ us. EndsAt source Tutorial most_height us d.number) (sym (plain_spanned ts)) d.ends;
  place = d.place ∙ sym (start_spanned ts d.number);
}

-- a fault of the parser refuses the text
pub refuses : (text : List ℕ) (ts : List Token) (e : ParseFault) → HasTokens source text (spanned_tokens ts) → parsed.IsRefused ts e → IfSome (parse_refusal e) (IsRefused text)
refuses text ts (grammatical.Syntax at) t d = ill text ts at t d
refuses text ts (grammatical.TooDeep at) t d = deep text ts at t d
refuses text ts grammatical.NoMemory t d = tt

first_is : (text : List ℕ) (p : Written) (b : Broken) (bs : List Broken) → broken_rules p ≡ bs → IsSpelt text p → StandsFirst b bs → IsOutOfScope text b
first_is text p b [] e s h = absurd h
first_is text p b (x ∷ xs) e s h = record { process = p; spelt = s; others = xs; broken = e ∙ ap (λ y. y ∷ xs) (sym h) }

-- the first broken rule refuses the text
pub breaks : (text : List ℕ) (p : Written) (o : Option Broken) → IsSpelt text p → NamesFirst o (broken_rules p) → IfSome (option_map out_of_scope o) (IsRefused text)
breaks text p None s h = tt
breaks text p (Some b) s h = first_is text p b (broken_rules p) refl s h
