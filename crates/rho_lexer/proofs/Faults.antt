-- Faults, as the functions that find them say them.
use Rattle.std.proofs.Common.{◌≡◌, ◌≤◌, ◌+◌, ℕ, List, ◌∷◌, length, take, drop, sym, subst, Result, Ok, Err}
use Rattle.std.specs.Prelude.{Some, IsErrAnd}
use Rattle.std.specs.List.{prefix_len}
use Rattle.tokens.specs.Quoted.{string_contents}
use Rattle.tokens.specs.Reading.{Step, token_step, refuses}
use Rattle.tokens.specs.Token.{Refusal, source}
use Rattle.rho_lexer.specs.Meaning.{IsFault, IsRead, IsIllFormed, IsRefusal, is_plain, is_inside}
use Rattle.rho_lexer.specs.declared.token.TokenKind.{TokenKind}
use Rattle.rho_lexer.specs.declared.token.LexFault.{LexFault}
use Rattle.rho_lexer.specs.declared.token.LexFault.TheVariants as faults
use Rattle.rho_lexer.proofs.Strings.{string_ill_formed}
use Rattle.rho_lexer.proofs.Uris.{uri_ill_formed}

-- the exit of a `?`
pub read_exit : (s : Step) (res : Result (TokenKind × ℕ) LexFault) (e : LexFault) → IsErrAnd res (λ y. y ≡ e) → IsFault s e → IsRead s res
read_exit s (Ok r) e h f = absurd h
read_exit s (Err y) e h f = subst (IsFault s) (sym h) f

-- a fault that is what the step refuses
pub fault_is : (s : Step) (e : LexFault) (r : Refusal) → IsRefusal e r → s ≡ refuses r → IsFault s e
fault_is s (faults.BadByte at) r e h = cc
fault_is s (faults.OpenString at) r e h = cc
fault_is s (faults.OpenComment at) r e h = cc
fault_is s (faults.LiteralTooLarge at) r e h = cc
fault_is s faults.NoMemory r e h = tt

-- a string that stops being UTF-8, and a Uri that does
pub string_fault : (at : ℕ) (rest : List ℕ) (n m : ℕ) (x bytes : List ℕ) (fault : LexFault) → n ≤ length rest → string_contents (take n rest) ≡ Some x
    → m ≡ prefix_len is_plain (drop n rest) → bytes ≡ take m (drop n rest) → IsIllFormed bytes (at + 1 + n) fault → IsFault (token_step source at (34 ∷ rest)) fault
string_fault at rest n m x bytes fault within good run is ill =
    let here : IsIllFormed (take m (drop n rest)) (at + 1 + n) fault = subst (λ bs. IsIllFormed bs (at + 1 + n) fault) is ill in
    subst (IsFault (token_step source at (34 ∷ rest))) (sym here.1) (string_ill_formed at rest n m here.0 x within good run here.2 here.3)

pub uri_fault : (at : ℕ) (rest : List ℕ) (m : ℕ) (fault : LexFault) → m ≡ prefix_len is_inside rest → IsIllFormed (take m rest) (at + 1) fault
    → IsFault (token_step source at (96 ∷ rest)) fault
uri_fault at rest m fault run ill =
    subst (IsFault (token_step source at (96 ∷ rest))) (sym ill.1) (uri_ill_formed at rest m ill.0 run ill.2 ill.3)
