-- Texts that are made of others: lists, operands, binds, names.
use Rattle.std.proofs.Common.{ℕ, zero, suc, Bool, true, false, cond, List, [], ◌∷◌, ◌++◌, map as each, append-nil, refl, sym, subst}
use Rattle.std.specs.Prelude.{codes}
use Rattle.std.specs.Str.{is_utf8, chars}
use Rattle.std.specs.Str.Lossy.{utf8_valid_len}
use lib.Utf8.{encode}
use Rattle.calculus.specs.declared.plain.BinaryOp.{BinaryOp}
use Rattle.calculus.specs.declared.plain.BinaryOp.TheVariants as op
use Rattle.calculus.specs.declared.plain.Kind.{Kind}
use Rattle.calculus.specs.declared.plain.Kind.TheVariants as kinds
use Rattle.calculus.specs.declared.plain.Origin.{Origin}
use Rattle.calculus.specs.declared.plain.Origin.TheVariants as origins
use Rattle.calculus.specs.Tree.{Tree, Trees}
use Rattle.calculus.specs.Shape.{label_of}
use Rattle.calculus.specs.Code.{codes as tree_codes}
use Rattle.calculus.specs.Printed.{Printed, separated, with_commas as commas_text, braced as braced_text, block, op_text, arrow_text, marks as send_marks, variable_text, declared_texts, is_atom, is_bare_name, operand_text, name_pattern_text, texts_at, first_text, parallel_text, in_order_of as texts_in_order, tuple_text, with_rest as rest_text, bind_text, bind_texts}
use Rattle.grammar.specs.declared.mark.Mark.TheVariants as marks
use Rattle.grammar.specs.Grammar.{arrow_mark}
use Rattle.grammar.specs.Terminals.{mark, text, a_word, a_uri}
use Rattle.printed_spelling.proofs.Pieces.{Piece, marked, braced, parted, with_commas, declared_pieces, operand_piece, name_pattern_piece, pieces_at, first_piece, parallel_piece, in_order_of, tuple_piece, with_rest, bind_pieces}
use Rattle.printed_spelling.proofs.Both.{Both, both_none, both_also, both_arranged}
use Rattle.printed_spelling.proofs.Scanning.{Lexed, Shut, shut-append, loose, lex_nothing, put, join}
use Rattle.printed_spelling.proofs.Signs.{lex_space, lex_open, lex_close, lex_open_brace, lex_close_brace, lex_comma, lex_commas, lex_bars, lex_begin, lex_end, lex_at, lex_ellipsis, lex_arrow, lex_hung, lex_rest}
use Rattle.printed_spelling.proofs.Words.{lex_nil}
use Rattle.printed_spelling.proofs.Numbers.{lex_variable}
use Rattle.printed_spelling.proofs.Quoted.{lex_uri_of}
use Rattle.printed_spelling.proofs.TextNames.{hung}

-- texts with one between each two
pub lex_parted : (s : List ℕ) (q : Piece) → Lexed false s q → Shut s → {xs : List (List ℕ)} {ps : List Piece} → Both (Lexed true) xs ps → Lexed true (separated s xs) (parted q ps)
lex_parted s q l e both_none = lex_nothing
lex_parted s q l e (both_also h both_none) = h
lex_parted s q l e (both_also h (both_also k ks)) = join h (shut-append s _ e) (put l (lex_parted s q l e (both_also k ks)))

pub lex_list : {xs : List (List ℕ)} {ps : List Piece} → Both (Lexed true) xs ps → Lexed true (commas_text xs) (with_commas ps)
lex_list h = lex_parted (codes ", ") (marked marks.Comma) lex_commas refl h

pub lex_braced : {x : List ℕ} {p : Piece} → Lexed true x p → Lexed false (braced_text x) (braced p)
lex_braced h = put lex_open_brace (join h refl lex_close_brace)

pub lex_block : {x : List ℕ} {p : Piece} → Lexed true x p → Lexed false (block x) (braced p)
lex_block h = put lex_begin (join h refl lex_end)

-- a text, or the same in braces
or_braced : (b : Bool) {x : List ℕ} {p : Piece} → Lexed true x p → Lexed true (cond b x (braced_text x)) (cond b p (braced p))
or_braced true h = h
or_braced false h = loose (lex_braced h)

pub lex_operand : (hs : List Tree) {x : List ℕ} {p : Piece} → Lexed true x p → Lexed true (operand_text hs x) (operand_piece hs p)
lex_operand [] h = loose (lex_braced h)
lex_operand (t ∷ []) h = or_braced (is_atom (label_of t)) h
lex_operand (t ∷ u ∷ hs) h = loose (lex_braced h)

or_quoted : (b : Bool) {x y : List ℕ} {p q : Piece} → Lexed true x p → Lexed true y q → Lexed true (cond b x (codes "@" ++ y)) (cond b p (λ r. mark marks.At ∷ q r))
or_quoted true h k = h
or_quoted false h k = put lex_at k

pub lex_name_pattern : (hs : List Tree) {x : List ℕ} {p : Piece} → Lexed true x p → Lexed true (name_pattern_text hs x) (name_pattern_piece hs p)
lex_name_pattern [] h = put lex_at (lex_operand [] h)
lex_name_pattern (t ∷ []) h = or_quoted (is_bare_name (label_of t)) h (lex_operand (t ∷ []) h)
lex_name_pattern (t ∷ u ∷ hs) h = put lex_at (lex_operand (t ∷ u ∷ hs) h)

pub lex_parallel : {xs : List (List ℕ)} {ps : List Piece} → Both (Lexed true) xs ps → Lexed true (parallel_text xs) (parallel_piece ps)
lex_parallel both_none = lex_nil
lex_parallel (both_also h hs) = lex_parted (codes " | ") (marked marks.Bar) lex_bars refl (both_also h hs)

pub lex_tuple : {xs : List (List ℕ)} {ps : List Piece} → Both (Lexed true) xs ps → Lexed true (tuple_text xs) (tuple_piece ps)
lex_tuple both_none = lex_nothing
lex_tuple (both_also h both_none) = loose (join h refl lex_comma)
lex_tuple (both_also h (both_also k ks)) = lex_list (both_also h (both_also k ks))

pub lex_with_rest : {xs rs : List (List ℕ)} {ps qs : List Piece} → Both (Lexed true) xs ps → Both (Lexed true) rs qs → Lexed true (rest_text xs rs) (with_rest ps qs)
lex_with_rest h both_none = lex_list h
lex_with_rest both_none (both_also r rs) = put lex_ellipsis r
lex_with_rest (both_also h hs) (both_also r rs) = join (lex_list (both_also h hs)) refl (put lex_rest r)

pub lex_each_hung : {rs : List (List ℕ)} {qs : List Piece} → Both (Lexed true) rs qs → Both (Lexed true) (each (λ r. codes "...@" ++ r) rs) (each hung qs)
lex_each_hung both_none = both_none
lex_each_hung (both_also r rs) = both_also (put lex_hung r) (lex_each_hung rs)

-- binds
shut_arrow : (k : Kind) → Shut (arrow_text k)
shut_arrow kinds.Linear = refl
shut_arrow kinds.Persistent = refl
shut_arrow kinds.Peek = refl

lex_bind : (k : Kind) (x : List ℕ) {c : List ℕ} {p q : Piece} → Lexed true x p → Lexed true c q → Lexed true (bind_text k x c) (λ r. p (mark (arrow_mark k) ∷ q r))
lex_bind k [] {c} h j = join h (shut-append (arrow_text k) c (shut_arrow k)) (put (lex_arrow k) j)
lex_bind k (b ∷ bs) h j = join h refl (put lex_space (put (lex_arrow k) j))

pub lex_binds : (k : Kind) {xs : List (List ℕ)} {ps : List Piece} → Both (Lexed true) xs ps → Both (Lexed true) (bind_texts k xs) (bind_pieces k ps)
lex_binds k both_none = both_none
lex_binds k (both_also h both_none) = both_none
lex_binds k (both_also {a = x} h (both_also j hs)) = both_also (lex_bind k x h j) (lex_binds k hs)

pub shut_op : (o : BinaryOp) → Shut (op_text o)
shut_op op.Or = refl
shut_op op.And = refl
shut_op op.Eq = refl
shut_op op.Ne = refl
shut_op op.Lt = refl
shut_op op.Le = refl
shut_op op.Gt = refl
shut_op op.Ge = refl
shut_op op.Add = refl
shut_op op.Sub = refl
shut_op op.Append = refl
shut_op op.Minus = refl
shut_op op.Mul = refl
shut_op op.Div = refl
shut_op op.Rem = refl

pub shut_marks : (q : Bool) → Shut (send_marks q)
shut_marks true = refl
shut_marks false = refl

-- the names that a `new` declares
stdout_uri : Lexed false (codes "`rho:io:stdout`") (λ r. text a_uri (codes "rho:io:stdout") ∷ r)
unfolding is_utf8 chars utf8_valid_len encode
stdout_uri = lex_uri_of (codes "rho:io:stdout") refl refl

ack_uri : Lexed false (codes "`rho:io:stdoutAck`") (λ r. text a_uri (codes "rho:io:stdoutAck") ∷ r)
unfolding is_utf8 chars utf8_valid_len encode
ack_uri = lex_uri_of (codes "rho:io:stdoutAck") refl refl

pub lex_declared : (n : ℕ) (os : List Origin) → Both (Lexed true) (declared_texts n os) (declared_pieces n os)
lex_declared n [] = both_none
lex_declared n (origins.Plain ∷ os) = both_also (subst (λ x. Lexed true x (λ r. text a_word (variable_text n) ∷ r)) (sym (append-nil (variable_text n))) (lex_variable n)) (lex_declared (suc n) os)
lex_declared n (origins.Stdout ∷ os) = both_also (loose (join (lex_variable n) refl (put lex_open (put stdout_uri lex_close)))) (lex_declared (suc n) os)
lex_declared n (origins.StdoutAck ∷ os) = both_also (loose (join (lex_variable n) refl (put lex_open (put ack_uri lex_close)))) (lex_declared (suc n) os)

-- the texts of constituents
pub lex_first : {xs : Printed} {ps : List Piece} → Both (Lexed true) xs ps → Lexed true (first_text xs) (first_piece ps)
lex_first both_none = lex_nothing
lex_first (both_also h hs) = h

pub lex_firsts : {xs : List Printed} {ps : List (List Piece)} → Both (Both (Lexed true)) xs ps → Both (Lexed true) (each first_text xs) (each first_piece ps)
lex_firsts both_none = both_none
lex_firsts (both_also h hs) = both_also (lex_first h) (lex_firsts hs)

pub lex_ordered : (ts : Trees) {xs : List Printed} {ps : List (List Piece)} → Both (Both (Lexed true)) xs ps → Both (Lexed true) (texts_in_order ts xs) (in_order_of ts ps)
lex_ordered ts h = lex_firsts (both_arranged (Both (Lexed true)) (tree_codes ts) h)

pub lex_at_place : (i : ℕ) {xs : List Printed} {ps : List (List Piece)} → Both (Both (Lexed true)) xs ps → Both (Lexed true) (texts_at i xs) (pieces_at i ps)
lex_at_place i both_none = both_none
lex_at_place zero (both_also h hs) = h
lex_at_place (suc i) (both_also h hs) = lex_at_place i hs
