-- The operators of printed texts.
use Rattle.std.proofs.Common.{◌≡◌, ℕ, false, List, [], ◌∷◌, refl, ◌∙◌}
use Rattle.std.specs.Prelude.{codes}
use Rattle.calculus.specs.declared.plain.BinaryOp.{BinaryOp}
use Rattle.calculus.specs.declared.plain.BinaryOp.TheVariants as op
use Rattle.calculus.specs.Printed.{op_text}
use Rattle.tokens.specs.Reading.{step, token_step}
use Rattle.tokens.specs.Spelling.{token_of}
use Rattle.tokens.specs.Tables.{keys, signs}
use Rattle.tokens.specs.Token.{printed, key, sign}
use Rattle.grammar.specs.declared.mark.Mark.TheVariants as marks
use Rattle.grammar.specs.Terminals.{mark}
use Rattle.printed_spelling.proofs.Pieces.{marked, op_mark}
use Rattle.printed_spelling.proofs.Scanning.{scan_blank, scan_token, token_here, Lexed}
use Rattle.printed_spelling.proofs.Signs.{until, lex_space, spaced}

-- a slash before a blank, and before a backslash, begins no comment
slash_step : (at : ℕ) (bs : List ℕ) → step printed at (47 ∷ 32 ∷ bs) ≡ token_step printed at (47 ∷ 32 ∷ bs)
unfolding step
slash_step at bs = refl

both_step : (at : ℕ) (bs : List ℕ) → step printed at (47 ∷ 92 ∷ bs) ≡ token_step printed at (47 ∷ 92 ∷ bs)
unfolding step
both_step at bs = refl

lex_slash : Lexed false (codes " / ") (marked marks.Slash)
unfolding token_of keys signs
lex_slash = record {
  scans = λ text ts n s. scan_blank 32 (47 ∷ 32 ∷ text) (mark marks.Slash ∷ ts) refl
      (scan_token (47 ∷ []) (32 ∷ text) (sign (codes "/")) ts (λ at. slash_step at text ∙ token_here at (47 ∷ []) (32 ∷ text) (sign (codes "/")) refl refl (λ e. refl))
      (scan_blank 32 text ts refl s));
}

pub lex_both : Lexed false (codes " /\\ ") (marked marks.Both)
unfolding token_of keys signs
lex_both = record {
  scans = λ text ts n s. scan_blank 32 (47 ∷ 92 ∷ 32 ∷ text) (mark marks.Both ∷ ts) refl
      (scan_token (47 ∷ 92 ∷ []) (32 ∷ text) (sign (codes "/\\")) ts (λ at. both_step at (32 ∷ text) ∙ token_here at (47 ∷ 92 ∷ []) (32 ∷ text) (sign (codes "/\\")) refl refl (λ e. refl))
      (scan_blank 32 text ts refl s));
}

pub lex_either : Lexed false (codes " \\/ ") (marked marks.Either)
unfolding token_of keys signs
lex_either = spaced (until 92 (47 ∷ []) (sign (codes "\\/")) 32 refl refl refl refl (λ e. refl) lex_space)

pub lex_op : (o : BinaryOp) → Lexed false (op_text o) (marked (op_mark o))
unfolding token_of keys signs
lex_op op.Or = spaced (until 111 (114 ∷ []) (key (codes "or")) 32 refl refl refl refl (λ e. refl) lex_space)
lex_op op.And = spaced (until 97 (110 ∷ 100 ∷ []) (key (codes "and")) 32 refl refl refl refl (λ e. refl) lex_space)
lex_op op.Eq = spaced (until 61 (61 ∷ []) (sign (codes "==")) 32 refl refl refl refl (λ e. refl) lex_space)
lex_op op.Ne = spaced (until 33 (61 ∷ []) (sign (codes "!=")) 32 refl refl refl refl (λ e. refl) lex_space)
lex_op op.Lt = spaced (until 60 [] (sign (codes "<")) 32 refl refl refl refl (λ e. refl) lex_space)
lex_op op.Le = spaced (until 60 (61 ∷ []) (sign (codes "<=")) 32 refl refl refl refl (λ e. refl) lex_space)
lex_op op.Gt = spaced (until 62 [] (sign (codes ">")) 32 refl refl refl refl (λ e. refl) lex_space)
lex_op op.Ge = spaced (until 62 (61 ∷ []) (sign (codes ">=")) 32 refl refl refl refl (λ e. refl) lex_space)
lex_op op.Add = spaced (until 43 [] (sign (codes "+")) 32 refl refl refl refl (λ e. refl) lex_space)
lex_op op.Sub = spaced (until 45 [] (sign (codes "-")) 32 refl refl refl refl (λ e. refl) lex_space)
lex_op op.Append = spaced (until 43 (43 ∷ []) (sign (codes "++")) 32 refl refl refl refl (λ e. refl) lex_space)
lex_op op.Minus = spaced (until 45 (45 ∷ []) (sign (codes "--")) 32 refl refl refl refl (λ e. refl) lex_space)
lex_op op.Mul = spaced (until 42 [] (sign (codes "*")) 32 refl refl refl refl (λ e. refl) lex_space)
lex_op op.Div = lex_slash
lex_op op.Rem = spaced (until 37 [] (sign (codes "%")) 32 refl refl refl refl (λ e. refl) lex_space)
