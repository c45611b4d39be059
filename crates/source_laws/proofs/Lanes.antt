-- The tokens of the lanes of a made input.
use Rattle.std.proofs.Common.{◌<◌, ℕ, ◌^◌, true, false, ◌∷◌, refl, arith}
use Rattle.std.specs.Prelude.{codes}
use Rattle.std.specs.Fmt.{digits}
use Rattle.calculus.specs.declared.plain.BinaryOp.TheVariants as op
use Rattle.grammar.specs.declared.mark.Mark.TheVariants as marks
use Rattle.grammar.specs.Terminals.{text, number, mark, a_word}
use Rattle.printed_spelling.proofs.Operators.{lex_op}
use Rattle.printed_spelling.proofs.Pieces.{Piece, worded}
use Rattle.printed_spelling.proofs.Signs.{lex_at, lex_begin, lex_bars, lex_close, lex_commas, lex_end, lex_for, lex_marks, lex_wrapped}
use Rattle.made_input.specs.MadeInput.{body_text, lane_text, receive_text, start_text}
use Rattle.source_laws.proofs.Lexing.{Lined, lined, ◌>>◌, then, a-number, channel-piece, count, step, sum, lex_k, lex_s, lex_v, lex_if, lex_else, lex_semicolon, lex_to}

zero : Lined true (codes "0") (λ r. number 0 ∷ r)
unfolding digits
zero = a-number 0 (omega arith)

one : Lined true (codes "1") (λ r. number 1 ∷ r)
unfolding digits
one = a-number 1 (omega arith)

k : Lined true (codes "k") (worded (codes "k"))
k = lined lex_k refl

s : Lined true (codes "s") (worded (codes "s"))
s = lined lex_s refl

v : Lined true (codes "v") (worded (codes "v"))
v = lined lex_v refl

at : Lined false (codes "@") (λ r. mark marks.At ∷ r)
at = lined lex_at refl

sends : Lined false (codes "!(") (λ r. mark marks.Bang ∷ mark marks.Open ∷ r)
sends = lined (lex_marks false) refl

comma : Lined false (codes ", ") (λ r. mark marks.Comma ∷ r)
comma = lined lex_commas refl

bar : Lined false (codes " | ") (λ r. mark marks.Bar ∷ r)
bar = lined lex_bars refl

close : Lined false (codes ")") (λ r. mark marks.Close ∷ r)
close = lined lex_close refl

begins : Lined false (codes "{ ") (λ r. mark marks.OpenBrace ∷ r)
begins = lined lex_begin refl

ends : Lined false (codes " }") (λ r. mark marks.CloseBrace ∷ r)
ends = lined lex_end refl

to : Lined false (codes " <= ") (λ r. mark marks.LessEqual ∷ r)
to = lined lex_to refl

-- the first send of a lane, which has its number, and the second
abbrev pub count-piece : ℕ → ℕ → Piece
count-piece lane n r = channel-piece (codes "t") lane (mark marks.Bang ∷ mark marks.Open ∷ number n ∷ mark marks.Comma ∷ number 0 ∷ mark marks.Close ∷ r)

abbrev pub step-piece : ℕ → Piece
step-piece lane r = channel-piece (codes "v") lane (mark marks.Bang ∷ mark marks.Open ∷ number 1 ∷ mark marks.Close ∷ r)

abbrev pub body-piece : ℕ → Piece
body-piece lane r =
    mark marks.If ∷ mark marks.Open ∷ text a_word (codes "k") ∷ mark marks.Greater ∷ number 0 ∷ mark marks.Close ∷ mark marks.OpenBrace
    ∷ channel-piece (codes "t") lane (mark marks.Bang ∷ mark marks.Open ∷ text a_word (codes "k") ∷ mark marks.Minus ∷ number 1 ∷ mark marks.Comma ∷ text a_word (codes "s") ∷ mark marks.Plus ∷ text a_word (codes "v") ∷ mark marks.Close ∷ mark marks.Bar
    ∷ channel-piece (codes "v") lane (mark marks.Bang ∷ mark marks.Open ∷ text a_word (codes "v") ∷ mark marks.Plus ∷ number 1 ∷ mark marks.Close ∷ mark marks.CloseBrace ∷ mark marks.Else ∷ mark marks.OpenBrace
    ∷ channel-piece (codes "sum") lane (mark marks.Bang ∷ mark marks.Open ∷ text a_word (codes "s") ∷ mark marks.Close ∷ mark marks.CloseBrace ∷ r)))

-- the receive of a lane
abbrev pub receive-piece : ℕ → Piece
receive-piece lane r =
    mark marks.For ∷ mark marks.Open ∷ mark marks.At ∷ text a_word (codes "k") ∷ mark marks.Comma ∷ mark marks.At ∷ text a_word (codes "s") ∷ mark marks.LessEqual
    ∷ channel-piece (codes "t") lane (mark marks.Semicolon ∷ mark marks.At ∷ text a_word (codes "v") ∷ mark marks.LessEqual
    ∷ channel-piece (codes "v") lane (mark marks.Close ∷ mark marks.OpenBrace ∷ body-piece lane (mark marks.CloseBrace ∷ r)))

-- all of a lane
abbrev pub lane-piece : ℕ → ℕ → Piece
lane-piece lane n r = count-piece lane n (mark marks.Bar ∷ step-piece lane (mark marks.Bar ∷ receive-piece lane r))

module _ (lane : ℕ) (small : lane < 2 ^ 63) where
  starts : (n : ℕ) → n < 2 ^ 63 → Lined false (start_text lane n) (λ r. count-piece lane n (mark marks.Bar ∷ step-piece lane r))
  starts n h =
      count lane small >> sends >> then (a-number n h) refl (comma >> then zero refl (close >> bar >> step lane small >> sends >> then one refl close))

  body : Lined false (body_text lane) (body-piece lane)
  body =
      lined lex_if refl >> then k refl (lined (lex_op op.Gt) refl >> then zero refl (lined lex_wrapped refl >> begins
      >> count lane small >> sends >> then k refl (lined (lex_op op.Sub) refl >> then one refl (comma >> then s refl (lined (lex_op op.Add) refl >> then v refl (close >> bar
      >> step lane small >> sends >> then v refl (lined (lex_op op.Add) refl >> then one refl (close >> ends >> lined lex_else refl >> begins
      >> sum lane small >> sends >> then s refl (close >> ends)))))))))

  receives : Lined false (receive_text lane) (receive-piece lane)
  receives =
      lined lex_for refl >> at >> then k refl (comma >> at >> then s refl (to >> count lane small >> lined lex_semicolon refl >> at >> then v refl (to >> step lane small
      >> lined lex_wrapped refl >> begins >> body >> ends)))

  pub lane-lined : (n : ℕ) → n < 2 ^ 63 → Lined false (lane_text lane n) (lane-piece lane n)
  lane-lined n h = starts n h >> bar >> receives
