-- The tokens of a text, as the loop finds them.
use Rattle.std.proofs.Common.{◌≡◌, ◌≤◌, ◌<◌, ◌+◌, ◌-◌, ℕ, ◌⊎◌, inl, inr, List, [], ◌∷◌, ◌++◌, length, take, drop, length-drop, append_assoc, refl, sym, ◌∙◌, ap, subst, arith, Result, Ok, Err}
use Rattle.std.specs.Prelude.{Option, Some, None, IfSome, IsErrAnd, MatchResult}
use Rattle.std.proofs.lemmas.List.{drop-drop}
use Rattle.std.proofs.Math.Seq.{drop-length}
use Rattle.tokens.specs.Reading.{Outcome, Reads, at_end, over_token, refused, after_tokens, step, token_step, takes, HasTokens, IsRefused}
use Rattle.tokens.specs.Token.{source, Token as Form, Spanned, Refusal, end_of_text, spanned}
use Rattle.tokens.proofs.OneReading.{same_outcome}
use Rattle.rho_lexer.specs.Meaning.{AreGaps, IsFault, IsGap, refusal_of}
use Rattle.rho_lexer.specs.declared.token.LexFault.{LexFault}
use Rattle.rho_lexer.specs.declared.token.LexFault.TheVariants as faults
use Rattle.rho_lexer.proofs.Steps.{rest_is}

-- whatever the rest comes to, the text comes to it after these tokens
abbrev pub SoFar : List ℕ → ℕ → List Spanned → Type 0
SoFar text at tokens = (o : Outcome) → Reads source at (drop at text) o → Reads source 0 text (after_tokens tokens o)

pub nothing_read : (text : List ℕ) → SoFar text 0 []
nothing_read text (Ok more) h = h
nothing_read text (Err r) h = h

-- over gaps
pub over_gaps : (text : List ℕ) (at len : ℕ) (tokens : List Spanned) → SoFar text at tokens → AreGaps at (take (length text - at) (drop at text)) len
    → SoFar text (at + len) tokens
over_gaps text at len tokens h e o g =
    let here : AreGaps at (drop at text) len = subst (λ bs. AreGaps at bs len) (rest_is at text) e in
    let cut : drop len (drop at text) ≡ drop (at + len) text = drop-drop len at text in
    h o (here.passed o (subst (λ bs. Reads source (at + len) bs o) (sym cut) g))

both_after : (xs ys : List Spanned) (o : Outcome) → after_tokens xs (after_tokens ys o) ≡ after_tokens (xs ++ ys) o
both_after xs ys (Ok more) = ap Ok (sym (append_assoc xs ys more))
both_after xs ys (Err r) = refl

-- over a token
pub over_a_token : (text : List ℕ) (at len : ℕ) (form : Form) (tokens : List Spanned) → SoFar text at tokens
    → step source at (take (length text - at) (drop at text)) ≡ takes form len → SoFar text (at + len) (tokens ++ spanned form at (at + len) ∷ [])
over_a_token text at len form tokens h e o g =
    let here : step source at (drop at text) ≡ takes form len = ap (step source at) (sym (rest_is at text)) ∙ e in
    let cut : drop len (drop at text) ≡ drop (at + len) text = drop-drop len at text in
    let more = over_token here (subst (λ bs. Reads source (at + len) bs o) (sym cut) g) refl in
    subst (Reads source 0 text) (both_after tokens (spanned form at (at + len) ∷ []) o) (h _ more)

-- at the end
pub whole_text : (text : List ℕ) (at : ℕ) (tokens : List Spanned) → at ≡ length text → SoFar text at tokens
    → HasTokens source text (tokens ++ spanned end_of_text at at ∷ [])
unfolding step
whole_text text at tokens e h =
    let nothing : drop at text ≡ [] = ap (λ i. drop i text) e ∙ drop-length text in
    h (Ok (spanned end_of_text at at ∷ [])) (subst (λ bs. Reads source at bs (Ok (spanned end_of_text at at ∷ []))) (sym nothing) (at_end refl))

-- at a fault
pub refused_at : (text : List ℕ) (at : ℕ) (tokens : List Spanned) (fault : LexFault) → SoFar text at tokens
    → IsFault (step source at (take (length text - at) (drop at text))) fault → IfSome (refusal_of fault) (IsRefused source text)
refused_at text at tokens fault h e = by_fault fault (subst (λ bs. IsFault (step source at bs) fault) (rest_is at text) e)
  where
    by_fault : (fault : LexFault) → IsFault (step source at (drop at text)) fault → IfSome (refusal_of fault) (IsRefused source text)
    by_fault (faults.BadByte p) g = h (Err _) (refused g)
    by_fault (faults.OpenString p) g = h (Err _) (refused g)
    by_fault (faults.OpenComment p) g = h (Err _) (refused g)
    by_fault (faults.LiteralTooLarge p) g = h (Err _) (refused g)
    by_fault faults.NoMemory g = tt

-- what a gap's test says
pub gap_some : (at : ℕ) (text : List ℕ) (o : Option ℕ) (len : ℕ) → IsGap at text (Ok o) → o ≡ Some len → AreGaps at text len
gap_some at text None len h e = cc
gap_some at text (Some m) len h e = let same : m ≡ len = cc in subst (AreGaps at text) same h

pub gap_within : (at : ℕ) (text : List ℕ) (o : Option ℕ) (len : ℕ) → IsGap at text (Ok o) → o ≡ Some len → (0 < len) × (len ≤ length text)
gap_within at text o len h e = let gaps = gap_some at text o len h e in (gaps.some, gaps.within)

pub gap_none : (at : ℕ) (text : List ℕ) (o : Option ℕ) → IsGap at text (Ok o) → o ≡ None → step source at text ≡ token_step source at text
gap_none at text None h e = h
gap_none at text (Some m) h e = cc

-- what was taken is there
pub is_there : (text : List ℕ) (at len : ℕ) → at ≤ length text → (0 < len) × (len ≤ length (take (length text - at) (drop at text))) → (0 < len) × (at + len ≤ length text)
is_there text at len low h =
    let room : length (take (length text - at) (drop at text)) ≡ length text - at = ap length (rest_is at text) ∙ length-drop at text in
    (h.0, omega (arith, h.1))

-- what a fault excludes
pub fault_excludes : (text : List ℕ) (fault : LexFault) → IfSome (refusal_of fault) (IsRefused source text) → (tokens : List Spanned) → HasTokens source text tokens
    → fault ≡ faults.NoMemory
fault_excludes text (faults.BadByte p) h tokens g = let same = same_outcome h g in absurd (cc)
fault_excludes text (faults.OpenString p) h tokens g = let same = same_outcome h g in absurd (cc)
fault_excludes text (faults.OpenComment p) h tokens g = let same = same_outcome h g in absurd (cc)
fault_excludes text (faults.LiteralTooLarge p) h tokens g = let same = same_outcome h g in absurd (cc)
fault_excludes text faults.NoMemory h tokens g = refl

pub only_fault : (text : List ℕ) (fault : LexFault) → IfSome (refusal_of fault) (IsRefused source text) → (r : Refusal) → IsRefused source text r
    → (fault ≡ faults.NoMemory) ⊎ (refusal_of fault ≡ Some r)
only_fault text (faults.BadByte p) h r g = let same = same_outcome h g in inr (cc)
only_fault text (faults.OpenString p) h r g = let same = same_outcome h g in inr (cc)
only_fault text (faults.OpenComment p) h r g = let same = same_outcome h g in inr (cc)
only_fault text (faults.LiteralTooLarge p) h r g = let same = same_outcome h g in inr (cc)
only_fault text faults.NoMemory h r g = inl refl

-- the exit of a `?`
pub fault_exit : {A : Type 0} (found : A → Type 0) (says : LexFault → Type 0) (res : Result A LexFault) (e : LexFault) → IsErrAnd res (λ y. y ≡ e) → says e → MatchResult res found says
fault_exit found says (Ok r) e h f = absurd h
fault_exit found says (Err y) e h f = subst says (sym h) f
