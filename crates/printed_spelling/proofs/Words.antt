-- Words, keys and integers of printed texts, before what ends them.
use Rattle.std.proofs.Common.{◌≡◌, ℕ, Bool, true, false, ◌&&◌, ◌||◌, List, [], ◌∷◌, ◌++◌, refl, ap, ◌∙◌}
use Rattle.std.specs.Prelude.{◌==◌, nat_eq, Some, None, codes}
use Rattle.std.specs.List.{list_all}
use Rattle.std.specs.Option.{option_or}
use Rattle.calculus.specs.declared.plain.Simple.{Simple}
use Rattle.calculus.specs.declared.plain.Simple.TheVariants as simples
use Rattle.calculus.specs.Printed.{bool_text, simple_text}
use Rattle.tokens.specs.Bytes.{is_blank, is_word_start, is_word_byte}
use Rattle.tokens.specs.Reading.{is_too_large}
use Rattle.tokens.specs.Spelling.{token_of, only_if, is_word, some_all}
use Rattle.tokens.specs.Tables.{keys, signs}
use Rattle.tokens.specs.Token.{printed, Token, word, key, sign}
use Rattle.grammar.specs.declared.mark.Mark.TheVariants as marks
use Rattle.grammar.specs.Grammar.{type_mark}
use Rattle.grammar.specs.Terminals.{terminal}
use Rattle.printed_spelling.proofs.Pieces.{marked, bool_mark}
use Rattle.printed_spelling.proofs.Scanning.{Ends, Stops, scan, Lexed}

-- a run of bytes that pass a test ends at one that doesn't
pub run_stops : (test : ℕ → Bool) (xs : List ℕ) (c : ℕ) (e : List ℕ) → test c ≡ false → list_all test (xs ++ (c ∷ e)) ≡ false
run_stops test [] c e h = rw h refl
run_stops test (x ∷ xs) c e h = elim (test x) as (λ (b : Bool). (b && list_all test (xs ++ (c ∷ e))) ≡ false) [ true ↦ run_stops test xs c e h | false ↦ refl ]

some_stops : (xs : List ℕ) (c : ℕ) (e : List ℕ) → is_word_byte c ≡ false → some_all is_word_byte (xs ++ (c ∷ e)) ≡ false
some_stops [] c e h = run_stops is_word_byte [] c e h
some_stops (x ∷ xs) c e h = run_stops is_word_byte (x ∷ xs) c e h

neither : (a b : Bool) {x y : Bool} → x ≡ false → y ≡ false → (a && x) || (b && y) ≡ false
neither true true h k = cc
neither true false h k = cc
neither false true h k = cc
neither false false h k = refl

pub word_stops : (b : ℕ) (xs : List ℕ) (c : ℕ) (e : List ℕ) → is_word_byte c ≡ false → is_word (b ∷ (xs ++ (c ∷ e))) ≡ false
word_stops b xs c e h = neither (is_word_start b) (b == 95) (run_stops is_word_byte xs c e h) (some_stops xs c e h)

pub no_word_then : (b : ℕ) (xs : List ℕ) (c : ℕ) (e : List ℕ) (u : Token) → is_word_byte c ≡ false → option_or (only_if (is_word (b ∷ (xs ++ (c ∷ e)))) u) None ≡ None
no_word_then b xs c e u h = ap (λ t. option_or (only_if t u) None) (word_stops b xs c e h)

-- what no byte that stops a word goes on with
pub stopped : (b : ℕ) (bs : List ℕ) → ((c : ℕ) (e : List ℕ) → is_word_byte c ≡ false → token_of printed (b ∷ (bs ++ (c ∷ e))) ≡ None) → (rest : List ℕ) → Stops rest → Ends (b ∷ bs) rest
stopped b bs h [] n = tt
stopped b bs h (c ∷ cs) n = λ e. h c e n

-- a token before what stops a word
pub lex_stopped : (b : ℕ) (bs : List ℕ) (u : Token) → is_blank b ≡ false → nat_eq 47 b ≡ false → token_of printed (b ∷ bs) ≡ Some u → is_too_large u ≡ false
    → ((c : ℕ) (e : List ℕ) → is_word_byte c ≡ false → token_of printed (b ∷ (bs ++ (c ∷ e))) ≡ None) → Lexed true (b ∷ bs) (λ r. terminal printed u ∷ r)
lex_stopped b bs u e f g small h = record { scans = λ rest ts n s. scan b bs rest u ts e f g small (stopped b bs h rest n) s }

-- keys
lex_key : (b : ℕ) (bs : List ℕ) (u : Token) → is_blank b ≡ false → nat_eq 47 b ≡ false → token_of printed (b ∷ bs) ≡ Some u → is_too_large u ≡ false
    → ((c : ℕ) (e : List ℕ) → token_of printed (b ∷ (bs ++ (c ∷ e))) ≡ option_or (only_if (is_word (b ∷ (bs ++ (c ∷ e)))) (word (b ∷ (bs ++ (c ∷ e))))) None) → Lexed true (b ∷ bs) (λ r. terminal printed u ∷ r)
lex_key b bs u e f g small h = lex_stopped b bs u e f g small (λ c z n. h c z ∙ no_word_then b bs c z _ n)

pub lex_nil : Lexed true (codes "Nil") (marked marks.Nil)
unfolding token_of keys signs
lex_nil = lex_key 78 (105 ∷ 108 ∷ []) (key (codes "Nil")) refl refl refl refl (λ c e. refl)

pub lex_bool : (b : Bool) → Lexed true (bool_text b) (marked (bool_mark b))
unfolding token_of keys signs
lex_bool true = lex_key 116 (114 ∷ 117 ∷ 101 ∷ []) (key (codes "true")) refl refl refl refl (λ c e. refl)
lex_bool false = lex_key 102 (97 ∷ 108 ∷ 115 ∷ 101 ∷ []) (key (codes "false")) refl refl refl refl (λ c e. refl)

pub lex_type : (k : Simple) → Lexed true (simple_text k) (marked (type_mark k))
unfolding token_of keys signs
lex_type simples.Bool = lex_key 66 (111 ∷ 111 ∷ 108 ∷ []) (key (codes "Bool")) refl refl refl refl (λ c e. refl)
lex_type simples.Int = lex_key 73 (110 ∷ 116 ∷ []) (key (codes "Int")) refl refl refl refl (λ c e. refl)
lex_type simples.Str = lex_key 83 (116 ∷ 114 ∷ 105 ∷ 110 ∷ 103 ∷ []) (key (codes "String")) refl refl refl refl (λ c e. refl)
lex_type simples.Uri = lex_key 85 (114 ∷ 105 ∷ []) (key (codes "Uri")) refl refl refl refl (λ c e. refl)
lex_type simples.Bytes = lex_key 66 (121 ∷ 116 ∷ 101 ∷ 65 ∷ 114 ∷ 114 ∷ 97 ∷ 121 ∷ []) (key (codes "ByteArray")) refl refl refl refl (λ c e. refl)

-- the wildcard
wildcard_stops : (c : ℕ) (e : List ℕ) → is_word_byte c ≡ false → token_of printed (95 ∷ (c ∷ e)) ≡ None
unfolding token_of keys signs
wildcard_stops c e h = rw h refl

pub lex_any : Lexed true (codes "_") (marked marks.Underscore)
unfolding token_of keys signs
lex_any = lex_stopped 95 [] (sign (codes "_")) refl refl refl refl (λ c e h. wildcard_stops c e h)
