-- A made input is a source.
use Rattle.std.proofs.Common.{◌≡◌, ◌≤◌, ◌<◌, ℕ, ◌^◌, true, false, max, leb, List, [], ◌∷◌, ◌++◌, map as each, append-nil, refl, sym, ◌∙◌, subst, arith}
use Rattle.std.specs.Prelude.{codes, Ok}
use Rattle.std.specs.List.{list_all}
use Rattle.calculus.specs.Written.{Written}
use Rattle.tokens.specs.Reading.{Reads as Tokens}
use Rattle.tokens.specs.Token.{source, printed, sign, Spanned}
use Rattle.tokens.specs.Spelling.{token_of}
use Rattle.tokens.specs.Tables.{keys, signs}
use Rattle.grammar.specs.declared.dialect.Dialect.TheVariants.{Tutorial}
use Rattle.grammar.specs.declared.mark.Mark.TheVariants as marks
use Rattle.grammar.specs.Productions.{Prod}
use Rattle.grammar.specs.Rules.{Par, ParTail, last}
use Rattle.grammar.specs.Spells.{Reads, of_done, of_sign, of_at, of_last}
use Rattle.grammar.specs.Terminals.{Terminal, mark, terminals}
use Rattle.grammar.specs.Values.{Spelt, spelt, processes, par_of}
use Rattle.scope.specs.Rules.{broken_rules}
use Rattle.printed_spelling.proofs.Pieces.{Piece, nothing}
use Rattle.printed_spelling.proofs.Scanning.{Lexed, Scanned, put, scan_blank, scan_end}
use Rattle.printed_spelling.proofs.Signs.{spaced, whole}
use Rattle.made_input.specs.MadeInput.{made_text, number_of}
use Rattle.made_input.proofs.Lengths.{small-number}
use Rattle.source_laws.specs.Spelt.{IsSound, MadeInputsAreSound}
use Rattle.source_laws.proofs.Bridging.{is_common, as-source, same-terminals}
use Rattle.source_laws.proofs.Lexing.{Lined, lined, ◌>>◌}
use Rattle.source_laws.proofs.Lanes.{lane-piece, count-piece, step-piece, receive-piece, lane-lined}
use Rattle.source_laws.proofs.MadeReading.{IsPart, count-part, step-part, receive-part, last-part}

-- the end of a line
lex_line : Lexed false (codes "\n") nothing
lex_line = record { scans = λ text ts n s. scan_blank 10 text ts refl s }

bar : Lexed false (codes " |\n") (λ r. mark marks.Bar ∷ r)
unfolding token_of keys signs
bar = spaced (put (whole 124 [] (sign (codes "|")) refl refl refl refl (λ c e. refl)) lex_line)

-- the terminals of a made input with these numbers
abbrev made-piece : ℕ → ℕ → ℕ → ℕ → Piece
made-piece a b c d r = lane-piece 0 a (mark marks.Bar ∷ lane-piece 1 b (mark marks.Bar ∷ lane-piece 2 c (mark marks.Bar ∷ lane-piece 3 d r)))

-- one part more
more : {v : Spelt} {rest : List Terminal} (t : Terminal) (p : Piece) (part : IsPart t p) (ps : List Written) (h : ℕ) (r : List Terminal)
    → Reads Tutorial (last (ParTail processes (ps ++ (part.value.tree ∷ [])) (max h part.value.height))) (t ∷ r) v rest → Reads Tutorial (last (ParTail processes ps h)) (mark marks.Bar ∷ p (t ∷ r)) v rest
more t p part ps h r k = of_last (Prod.par_more processes ps h) (of_sign (of_at Prod.one_two (part.reads r) k))

low : (a b : ℕ) → a ≤ 10 → leb b 10 ≡ true → max a b ≤ 10
low a b h e = grind (arith, h, e)

module _ (steps : ℕ) (small : steps < 2 ^ 32) where
  number : (lane : ℕ) → number_of lane steps < 2 ^ 63
  number lane = omega (arith, small-number lane steps small)

  made-lined : Lined false (made_text steps) (made-piece (number_of 0 steps) (number_of 1 steps) (number_of 2 steps) (number_of 3 steps))
  made-lined =
      lane-lined 0 (omega arith) _ (number 0) >> lined bar refl >> lane-lined 1 (omega arith) _ (number 1) >> lined bar refl
      >> lane-lined 2 (omega arith) _ (number 2) >> lined bar refl >> lane-lined 3 (omega arith) _ (number 3) >> lined lex_line refl

  scanned : Scanned 0 (made_text steps ++ []) (made-piece (number_of 0 steps) (number_of 1 steps) (number_of 2 steps) (number_of 3 steps) (mark marks.End ∷ []))
  scanned = made-lined.lexed.scans [] (mark marks.End ∷ []) tt scan_end 0

  tokens : Tokens source 0 (made_text steps) (Ok scanned.tokens)
  tokens = as-source made-lined.plain (subst (λ (x : List ℕ). Tokens printed 0 x (Ok scanned.tokens)) (append-nil (made_text steps)) scanned.has)

  terminals-are : terminals source (each (λ (x : Spanned). x.token) scanned.tokens) ≡ made-piece (number_of 0 steps) (number_of 1 steps) (number_of 2 steps) (number_of 3 steps) (mark marks.End ∷ [])
  terminals-are = same-terminals (each (λ (x : Spanned). x.token) scanned.tokens) (subst (λ (ts : List Terminal). list_all is_common ts ≡ true) (sym scanned.are) refl) ∙ scanned.are

  module _ (c0 : IsPart (mark marks.Bar) (count-piece 0 (number_of 0 steps))) (s0 : IsPart (mark marks.Bar) (step-piece 0)) (r0 : IsPart (mark marks.Bar) (receive-piece 0))
      (c1 : IsPart (mark marks.Bar) (count-piece 1 (number_of 1 steps))) (s1 : IsPart (mark marks.Bar) (step-piece 1)) (r1 : IsPart (mark marks.Bar) (receive-piece 1))
      (c2 : IsPart (mark marks.Bar) (count-piece 2 (number_of 2 steps))) (s2 : IsPart (mark marks.Bar) (step-piece 2)) (r2 : IsPart (mark marks.Bar) (receive-piece 2))
      (c3 : IsPart (mark marks.Bar) (count-piece 3 (number_of 3 steps))) (s3 : IsPart (mark marks.Bar) (step-piece 3)) (r3 : IsPart (mark marks.End) (receive-piece 3)) where
    process : Written
    process =
        par_of processes (c0.value.tree ∷ s0.value.tree ∷ r0.value.tree ∷ c1.value.tree ∷ s1.value.tree ∷ r1.value.tree
        ∷ c2.value.tree ∷ s2.value.tree ∷ r2.value.tree ∷ c3.value.tree ∷ s3.value.tree ∷ r3.value.tree ∷ [])

    height : ℕ
    height =
        max (max (max (max (max (max (max (max (max (max (max c0.value.height s0.value.height) r0.value.height) c1.value.height) s1.value.height) r1.value.height)
        c2.value.height) s2.value.height) r2.value.height) c3.value.height) s3.value.height) r3.value.height

    within : height ≤ 10
    unfolding height
    within =
        low _ r3.value.height (low _ s3.value.height (low _ c3.value.height (low _ r2.value.height (low _ s2.value.height (low _ c2.value.height
        (low _ r1.value.height (low _ s1.value.height (low _ c1.value.height (low _ r0.value.height (low _ s0.value.height
        (grind (arith, c0.low)) s0.low) r0.low) c1.low) s1.low) r1.low) c2.low) s2.low) r2.low) c3.low) s3.low) r3.low

    reads : Reads Tutorial (last (Par processes)) (made-piece (number_of 0 steps) (number_of 1 steps) (number_of 2 steps) (number_of 3 steps) (mark marks.End ∷ [])) (spelt process height) (mark marks.End ∷ [])
    unfolding process height
    reads =
        of_last (Prod.par processes) (of_at Prod.one_two (c0.reads _)
        (more _ _ s0 _ _ _ (more _ _ r0 _ _ _ (more _ _ c1 _ _ _ (more _ _ s1 _ _ _ (more _ _ r1 _ _ _ (more _ _ c2 _ _ _ (more _ _ s2 _ _ _ (more _ _ r2 _ _ _
        (more _ _ c3 _ _ _ (more _ _ s3 _ _ _ (more _ _ r3 _ _ _ (of_last (Prod.par_end processes _ _) of_done)))))))))))))

    sound : broken_rules process ≡ []
    unfolding process
    sound =
        rw (c0.sound, s0.sound, r0.sound, c1.sound, s1.sound, r1.sound, c2.sound, s2.sound, r2.sound, c3.sound, s3.sound, r3.sound) refl

    is-sound : IsSound (made_text steps)
    is-sound =
        record {
          spanned = scanned.tokens;
          tokens = tokens;
          process = process;
          height = height;
          within = omega (arith, within);
          spells = subst (λ (ts : List Terminal). Reads Tutorial (last (Par processes)) ts (spelt process height) (mark marks.End ∷ [])) (sym terminals-are) reads;
          sound = sound;
        }

pub made_inputs_are_sound : MadeInputsAreSound
made_inputs_are_sound steps small =
    is-sound steps small
    (count-part 0 _ (omega arith) (number steps small 0)) (step-part 0 (omega arith)) (receive-part 0 (omega arith))
    (count-part 1 _ (omega arith) (number steps small 1)) (step-part 1 (omega arith)) (receive-part 1 (omega arith))
    (count-part 2 _ (omega arith) (number steps small 2)) (step-part 2 (omega arith)) (receive-part 2 (omega arith))
    (count-part 3 _ (omega arith) (number steps small 3)) (step-part 3 (omega arith)) last-part
