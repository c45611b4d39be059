-- Each form's text has the terminals of its pieces, where its constituents' texts have theirs.
use Rattle.std.proofs.Common.{ℕ, ◌+◌, ◌-◌, true, List, refl}
use Rattle.std.specs.Prelude.{⊤, codes}
use Rattle.calculus.specs.declared.plain.UnaryOp.TheVariants as unary_op
use Rattle.calculus.specs.Tree.{Label, bool, int, str, uri, bytes, fresh, var, name_var, list, tuple, set, dict, send, receive, new, match, bundle, unary, binary, method, any, some_process, some_name, simple, same, both, either, not_this, list_pattern, set_pattern, map_pattern, Trees}
use Rattle.calculus.specs.Shape.{held, listed, at}
use Rattle.calculus.specs.Form.{Sort, Scope, IsPlain}
use Rattle.calculus.specs.Printed.{Printed, text_at, operand_at, part_text, channel_text, op_text, marks as send_marks}
use Rattle.grammar.specs.declared.mark.Mark.TheVariants as marks
use Rattle.printed_spelling.proofs.Pieces.{Piece, marked, nothing, piece_at, operand_at as operand_piece_at, part_piece, channel_piece}
use Rattle.printed_spelling.proofs.Both.{Both}
use Rattle.printed_spelling.proofs.Scanning.{Lexed, shut-append, loose, lex_nothing, put, join}
use Rattle.printed_spelling.proofs.Signs.{lex_space, lex_open, lex_close, lex_close_brace, lex_open_square, lex_close_square, lex_star, lex_tilde, lex_ampersands, lex_wrapped, lex_marks, lex_same, lex_minus, lex_not, lex_set, lex_for, lex_match, lex_new, lex_in, lex_rights}
use Rattle.printed_spelling.proofs.Operators.{lex_both, lex_either, lex_op}
use Rattle.printed_spelling.proofs.Words.{lex_bool, lex_type, lex_any}
use Rattle.printed_spelling.proofs.Numbers.{lex_variable, lex_int}
use Rattle.printed_spelling.proofs.Hexes.{lex_fresh, lex_bytes}
use Rattle.printed_spelling.proofs.Quoted.{lex_uri}
use Rattle.printed_spelling.proofs.Strings.{lex_str}
use Rattle.printed_spelling.proofs.Methods.{lex_call}
use Rattle.printed_spelling.proofs.Texts.{lex_parted, lex_list, lex_braced, lex_block, lex_operand, lex_tuple, lex_with_rest, lex_binds, shut_op, shut_marks, lex_declared, lex_first, lex_firsts, lex_ordered, lex_at_place}

-- the channel of a send
abbrev pub ChannelLexed : Sort → Label → Trees → List Printed → List (List Piece) → Type 0
ChannelLexed s (send q) ts xs ps = Lexed true (channel_text s (held (at 0 (listed ts))) (text_at 0 xs)) (channel_piece s (held (at 0 (listed ts))) (piece_at 0 ps))
ChannelLexed s _ ts xs ps = ⊤

module _ {xs : List Printed} {ps : List (List Piece)} (h : Both (Both (Lexed true)) xs ps) where
  -- a constituent, and one as an operand
  inner : (i : ℕ) → Lexed true (text_at i xs) (piece_at i ps)
  inner i = lex_first (lex_at_place i h)

  operand : (i : ℕ) (ts : Trees) → Lexed true (operand_at i ts xs) (operand_piece_at i ts ps)
  operand i ts = lex_operand (held (at i (listed ts))) (inner i)

  -- a part of this form
  pub part_lexed : (s : Sort) (v : Scope) (l : Label) (ts : Trees) (d n : ℕ) → IsPlain s v l ts → ChannelLexed s l ts xs ps → Lexed true (part_text s l ts d n xs) (part_piece s l ts d n ps)
  part_lexed s v (bool b) ts d n i c = lex_bool b
  part_lexed s v (int z) ts d n i c = lex_int z i
  part_lexed s v (str x) ts d n i c = loose (lex_str x i.0)
  part_lexed s v (uri x) ts d n i c = loose (lex_uri x i.0 i.1.1)
  part_lexed s v (bytes x) ts d n i c = lex_bytes x i
  part_lexed s v (fresh x) ts d n i c = loose (put lex_star (lex_fresh x i))
  part_lexed s v (var j) ts d n i c = lex_variable (d - (j + 1))
  part_lexed s v (name_var j) ts d n i c = put lex_star (lex_variable (d - (j + 1)))
  part_lexed s v list ts d n i c = loose (put lex_open_square (join (lex_list (lex_firsts h)) refl lex_close_square))
  part_lexed s v tuple ts d n i c = loose (put lex_open (join (lex_tuple (lex_firsts h)) refl lex_close))
  part_lexed s v set ts d n i c = loose (put lex_set (join (lex_list (lex_ordered ts h)) refl lex_close))
  part_lexed s v dict ts d n i c = loose (lex_braced (lex_list (lex_ordered ts h)))
  part_lexed s v (send q) ts d n i c = loose (join c (shut-append (send_marks q) _ (shut_marks q)) (put (lex_marks q) (join (lex_list (lex_at_place 1 h)) refl lex_close)))
  part_lexed s v (receive k) ts d n i c = loose (put lex_for (join (lex_parted (codes " & ") (marked marks.Ampersand) lex_ampersands refl (lex_binds k (lex_at_place 0 h))) refl (put lex_wrapped (lex_block (inner 1)))))
  part_lexed s v (new os) ts d n i c = loose (put lex_new (join (lex_list (lex_declared d os)) refl (put lex_in (lex_block (inner 0)))))
  part_lexed s v match ts d n i c = loose (put lex_match (join (inner 0) refl (put lex_wrapped (lex_block (lex_parted (codes " ") nothing lex_space refl (lex_at_place 1 h))))))
  part_lexed s v (bundle k) ts d n i c = loose (put (lex_rights k) (lex_block (inner 0)))
  part_lexed s v (unary unary_op.Not) ts d n i c = loose (put lex_not (join (operand 0 ts) refl lex_close))
  part_lexed s v (unary unary_op.Neg) ts d n i c = loose (put lex_minus (put (join (inner 0) refl lex_close_brace) lex_close))
  part_lexed s v (binary o) ts d n i c = loose (put lex_open (join (operand 0 ts) (shut-append (op_text o) _ (shut_op o)) (put (lex_op o) (join (operand 1 ts) refl lex_close))))
  part_lexed s v (method m) ts d n i c = loose (put lex_open (join (operand 0 ts) refl (lex_call m i.0 i.1 (put lex_open (join (lex_list (lex_at_place 1 h)) refl lex_close)))))
  part_lexed s v any ts d n i c = lex_any
  part_lexed s v some_process ts d n i c = lex_variable n
  part_lexed s v some_name ts d n i c = lex_variable n
  part_lexed s v (simple k) ts d n i c = lex_type k
  part_lexed s v same ts d n i c = loose (put lex_same (join (inner 0) refl lex_close_brace))
  part_lexed s v both ts d n i c = loose (put lex_open (join (operand 0 ts) refl (put lex_both (join (operand 1 ts) refl lex_close))))
  part_lexed s v either ts d n i c = loose (put lex_open (join (operand 0 ts) refl (put lex_either (join (operand 1 ts) refl lex_close))))
  part_lexed s v not_this ts d n i c = put lex_tilde (operand 0 ts)
  part_lexed s v list_pattern ts d n i c = loose (put lex_open_square (join (lex_with_rest (lex_at_place 0 h) (lex_at_place 1 h)) refl lex_close_square))
  part_lexed s v set_pattern ts d n i c = loose (put lex_set (join (lex_with_rest (lex_at_place 0 h) (lex_at_place 1 h)) refl lex_close))
  part_lexed s v map_pattern ts d n i c = loose (lex_braced (lex_with_rest (lex_at_place 0 h) (lex_at_place 1 h)))
  part_lexed s v _ ts d n i c = lex_nothing
