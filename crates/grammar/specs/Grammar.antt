-- The grammar, production by production. `opens` and `opens_next` stand where a form is opened.
use Rattle.std.specs.Prelude.{ℕ, ◌-◌, ◌^◌, max, Bool, true, false, List, [], ◌∷◌, ◌++◌, Some, None, pos, neg_ℤ}
use Rattle.calculus.specs.Tree.{bool, int, str, uri, bytes}
use Rattle.calculus.specs.Meaning.{row_of, pair_of}
use Rattle.calculus.specs.declared.plain.Simple.{Simple}
use Rattle.calculus.specs.declared.plain.Simple.TheVariants as simples
use Rattle.calculus.specs.declared.plain.Kind.{Kind}
use Rattle.calculus.specs.declared.plain.Kind.TheVariants as kinds
use Rattle.calculus.specs.declared.plain.Rights.{Rights}
use Rattle.calculus.specs.declared.plain.Rights.TheVariants as rights
use Rattle.calculus.specs.declared.plain.UnaryOp.TheVariants as unaries
use Rattle.calculus.specs.declared.plain.BinaryOp.TheVariants as operators
use Rattle.grammar.specs.declared.dialect.Dialect.{Dialect}
use Rattle.grammar.specs.declared.dialect.Dialect.TheVariants as dialects
use Rattle.grammar.specs.declared.mark.Mark.{Mark}
use Rattle.grammar.specs.declared.mark.Mark.TheVariants as marks
use Rattle.grammar.specs.Productions.{Prod}
use Rattle.grammar.specs.Rules.{round, square, closing, separator_mark, Sort, Par, ParTail, One, New, Decl, DeclUri, DeclTail, If, IfTail, Contract, Two, Sent, SentTail, Bundle, For, Bind, Arrow, FirstTail, Binds, BindsTail, Body, Left, LeftTail, LeftNext, Remainder, Match, Case, CaseTail, Or, OrTail, And, AndTail, Eq, EqTail, Cmp, CmpTail, Sum, SumTail, Mul, MulTail, Pre, Meth, MethTail, Drop, Dropped, Name, Atom, Ground, Group, Brace, BraceTail, Pairs, Row, RowTail, POne, PAlt, PAltTail, PAnd, PAndTail, PNot, PName, PAtom, Same, Seq, SeqTail, SeqNext, PBrace, PBraceTail, PPairs, PPairsNext, Rule, done, sign, opens, next, opens_next, holds, integer, at, under, last}
use Rattle.grammar.specs.Terminals.{Terminal, text, mark, a_word, a_string, a_uri, a_fresh_name, a_byte_array}
use Rattle.grammar.specs.Values.{spelt, leaf, opened, Side, processes, patterns, par_of, nil, no_parts, ground_of, variable_of, name_of, bound_of, binder_of, fresh_of, quote_of, drop_of, new_of, case_of, match_of, if_of, receive_of, contract_of, left_of, bind_of, no_rest, any_rest, rest_of, send_of, bundle_of, operation, unary_of, method_of, list_of, set_of, tuple_of, map_of, closed_of, any_of, quoted_of, either_of, both_of, not_of, type_of, same_of, seq_of, list_pattern_of, set_pattern_of, map_pattern_of}

-- a Word
abbrev pub word : (List ℕ → Rule) → Rule
word f = holds a_word f

-- one part of a side
abbrev pub one_of : Side → Sort
one_of processes = One
one_of patterns = POne

-- the mark of a send, by whether it is persistent
abbrev pub bang : Bool → Mark
bang false = marks.Bang
bang true = marks.DoubleBang

-- the key of a bundle
abbrev pub bundle_mark : Rights → Mark
bundle_mark rights.Neither = marks.BundleNeither
bundle_mark rights.Write = marks.BundleWrite
bundle_mark rights.Read = marks.BundleRead
bundle_mark rights.Both = marks.Bundle

-- the arrow of a kind of receive
abbrev pub arrow_mark : Kind → Mark
arrow_mark kinds.Linear = marks.Arrow
arrow_mark kinds.Persistent = marks.LessEqual
arrow_mark kinds.Peek = marks.PeekArrow

-- the key of a simple type
abbrev pub type_mark : Simple → Mark
type_mark simples.Bool = marks.Bool
type_mark simples.Int = marks.Int
type_mark simples.Str = marks.String
type_mark simples.Uri = marks.Uri
type_mark simples.Bytes = marks.ByteArray

-- what no case begins with
abbrev pub is_no_minus : Terminal → Bool
is_no_minus (mark marks.Minus) = false
is_no_minus _ = true

-- what an operand of a prefix "-" begins with: what begins a Pre, other than an Int
abbrev pub begins_operand : Terminal → Bool
begins_operand (text a_fresh_name w) = false
begins_operand (text _ w) = true
begins_operand (mark marks.True) = true
begins_operand (mark marks.False) = true
begins_operand (mark marks.Nil) = true
begins_operand (mark marks.Not) = true
begins_operand (mark marks.Minus) = true
begins_operand (mark marks.Star) = true
begins_operand (mark marks.Open) = true
begins_operand (mark marks.OpenBrace) = true
begins_operand (mark marks.OpenSquare) = true
begins_operand (mark marks.Set) = true
begins_operand _ = false

-- the binds of a receive in a dialect
abbrev pub binds_in : Dialect → Sort
binds_in dialects.Tutorial = Bind

-- the right side of each production
abbrev pub rule : Dialect → {s : Sort} → Prod s → Rule
-- Par  ::= One { "|" One }
-- PPar ::= POne { "|" POne }
rule dialect (Prod.par side) = at (one_of side) (λ p. last (ParTail side (p.tree ∷ []) p.height))
rule dialect (Prod.par_end side ps h) = done (spelt (par_of side ps) h)
rule dialect (Prod.par_more side ps h) = sign marks.Bar (at (one_of side) (λ p. last (ParTail side (ps ++ (p.tree ∷ [])) (max h p.height))))
-- One ::= New | If | Contract | Two
rule dialect Prod.one_new = last New
rule dialect Prod.one_if = last If
rule dialect Prod.one_contract = last Contract
rule dialect Prod.one_two = last Two
-- New  ::= "new" Decl { "," Decl } "in" One
-- Decl ::= Word [ "(" Uri ")" ]
rule dialect Prod.new_form = opens marks.New 0 (last (Decl []))
rule dialect (Prod.decl ds) = word (λ w. last (DeclUri ds w))
rule dialect (Prod.decl_plain ds w) = last (DeclTail (ds ++ ((w, None) ∷ [])))
rule dialect (Prod.decl_uri ds w) = sign marks.Open (holds a_uri (λ u. sign marks.Close (last (DeclTail (ds ++ ((w, Some u) ∷ []))))))
rule dialect (Prod.decl_more ds) = sign marks.Comma (last (Decl ds))
rule dialect (Prod.decl_body ds) = sign marks.In (under One (λ p. done (opened (new_of ds p.tree) p.height)))
-- If ::= "if" "(" Par ")" Two [ "else" One ]
rule dialect Prod.if_form = opens marks.If 0 (sign marks.Open (under (Par processes) (λ e. sign marks.Close (under Two (λ p. last (IfTail e p))))))
rule dialect (Prod.if_else e p) = sign marks.Else (under One (λ q. done (opened (if_of e.tree p.tree q.tree) (max (max e.height p.height) q.height))))
rule dialect (Prod.if_only e p) = done (opened (if_of e.tree p.tree nil) (max e.height p.height))
-- Contract ::= "contract" Name "(" Left ")" "=" One
rule dialect Prod.contract_form = opens marks.Contract 0 (under Name (λ n. sign marks.Open (under Left (λ l. sign marks.Close (sign marks.Assign (under One (λ p. done (opened (contract_of n.tree l.tree p.tree) (max (max n.height l.height) p.height)))))))))
-- Two ::= For | Match | Bundle | Name ( "!" | "!!" ) "(" [ Par { "," Par } ] ")" | Or
rule dialect Prod.two_for = last For
rule dialect Prod.two_match = last Match
rule dialect Prod.two_bundle = last (Bundle processes)
rule dialect Prod.two_word = word (λ w. last (Sent processes (leaf (name_of w))))
rule dialect Prod.two_fresh = holds a_fresh_name (λ d. last (Sent processes (leaf (fresh_of d))))
rule dialect Prod.two_quote = opens marks.At 0 (under Drop (λ a. last (SentTail processes (spelt (quote_of a.tree) a.height))))
rule dialect Prod.two_or = last Or
-- what follows the channel of a send that begins with a Word, a fresh name or "_", which is opened here
-- Sent ::= ( "!" | "!!" ) "(" [ Par { "," Par } ] ")", or PPar in place of Par
rule dialect (Prod.sent side n q) = opens (bang q) 0 (sign marks.Open (under (Row side round) (λ r. done (opened (send_of side q n.tree r.tree) r.height))))
-- what follows the channel of a send that begins with "@"
-- SentTail ::= ( "!" | "!!" ) "(" [ Par { "," Par } ] ")", or PPar in place of Par
rule dialect (Prod.sent_tail side n q) = sign (bang q) (sign marks.Open (under (Row side round) (λ r. done (opened (send_of side q n.tree r.tree) (max n.height r.height)))))
-- Bundle ::= ( "bundle" | "bundle+" | "bundle-" | "bundle0" ) "{" Par "}", or PPar in place of Par
rule dialect (Prod.bundle side r) = opens (bundle_mark r) 0 (sign marks.OpenBrace (under (Par side) (λ p. sign marks.CloseBrace (done (opened (bundle_of side r p.tree) p.height)))))
-- For   ::= "for" "(" Binds ")" "{" Par "}"
-- Binds ::= Bind { ";" Bind } | Bind { "&" Bind }, of 1 to 16 binds and one kind of arrow
-- Bind  ::= Left ( "<-" | "<=" | "<<-" ) Name
rule dialect Prod.for_form = opens marks.For 0 (sign marks.Open (last (binds_in dialect)))
rule dialect Prod.bind = under Left (λ l. last (Arrow l))
rule dialect (Prod.arrow l k) = sign (arrow_mark k) (under Name (λ n. last (FirstTail k (bind_of l n))))
rule dialect (Prod.first_end k b) = last (Body k (b.tree ∷ []) b.height)
rule dialect (Prod.first_more k b m) = sign (separator_mark m) (last (Binds k m 14 (b.tree ∷ []) b.height))
rule dialect (Prod.binds k m left bs h) = under Left (λ l. sign (arrow_mark k) (under Name (λ n. last (BindsTail k m left (bs ++ ((bind_of l n).tree ∷ [])) (max h (bind_of l n).height)))))
rule dialect (Prod.binds_end k m left bs h) = last (Body k bs h)
rule dialect (Prod.binds_more k m left bs h) = sign (separator_mark m) (last (Binds k m left bs h))
rule dialect (Prod.body k bs h) = sign marks.Close (sign marks.OpenBrace (under (Par processes) (λ p. sign marks.CloseBrace (done (opened (receive_of k bs p.tree) (max h p.height))))))
-- Left ::= [ PName { "," PName } ] [ [","] "..." "@" ( Word | "_" ) ], with the comma only after a PName
rule dialect Prod.left_none = done (left_of [] 0 no_rest)
rule dialect Prod.left_rest = sign marks.Ellipsis (sign marks.At (at Remainder (λ r. done (left_of [] 0 r.tree))))
rule dialect Prod.left_some = at PName (λ p. last (LeftTail (p.tree ∷ []) p.height))
rule dialect (Prod.left_end ps h) = done (left_of ps h no_rest)
rule dialect (Prod.left_end_rest ps h) = sign marks.Ellipsis (sign marks.At (at Remainder (λ r. done (left_of ps h r.tree))))
rule dialect (Prod.left_comma ps h) = sign marks.Comma (last (LeftNext ps h))
rule dialect (Prod.left_more ps h) = at PName (λ p. last (LeftTail (ps ++ (p.tree ∷ [])) (max h p.height)))
rule dialect (Prod.left_next_rest ps h) = sign marks.Ellipsis (sign marks.At (at Remainder (λ r. done (left_of ps h r.tree))))
-- Remainder ::= Word | "_"
rule dialect Prod.remainder_word = word (λ w. done (leaf (rest_of w)))
rule dialect Prod.remainder_any = sign marks.Underscore (done (leaf any_rest))
-- Match ::= "match" Or "{" Case { Case } "}"
-- Case  ::= POne "=>" One, where POne doesn't begin with "-"
rule dialect Prod.match_form = opens marks.Match 0 (under Or (λ t. sign marks.OpenBrace (last (Case t [] t.height))))
rule dialect (Prod.case t cs h) = next is_no_minus (under POne (λ p. sign marks.FatArrow (under One (λ b. last (CaseTail t (cs ++ (case_of p.tree b.tree ∷ [])) (max h (max p.height b.height)))))))
rule dialect (Prod.case_end t cs h) = sign marks.CloseBrace (done (opened (match_of t.tree cs) h))
rule dialect (Prod.case_more t cs h) = last (Case t cs h)
-- Or ::= And { "or" And }
rule dialect Prod.or = at And (λ a. last (OrTail a))
rule dialect (Prod.or_end a) = done a
rule dialect (Prod.or_more a) = opens marks.Or a.height (under And (λ b. last (OrTail (operation operators.Or a b))))
-- And ::= Eq { "and" Eq }
rule dialect Prod.and = at Eq (λ a. last (AndTail a))
rule dialect (Prod.and_end a) = done a
rule dialect (Prod.and_more a) = opens marks.And a.height (under Eq (λ b. last (AndTail (operation operators.And a b))))
-- Eq ::= Cmp { ( "==" | "!=" ) Cmp }
rule dialect Prod.eq = at Cmp (λ a. last (EqTail a))
rule dialect (Prod.eq_end a) = done a
rule dialect (Prod.eq_equal a) = opens marks.Equal a.height (under Cmp (λ b. last (EqTail (operation operators.Eq a b))))
rule dialect (Prod.eq_unequal a) = opens marks.Unequal a.height (under Cmp (λ b. last (EqTail (operation operators.Ne a b))))
-- Cmp ::= Sum { ( "<" | "<=" | ">" | ">=" ) Sum }
rule dialect Prod.cmp = at Sum (λ a. last (CmpTail a))
rule dialect (Prod.cmp_end a) = done a
rule dialect (Prod.cmp_less a) = opens marks.Less a.height (under Sum (λ b. last (CmpTail (operation operators.Lt a b))))
rule dialect (Prod.cmp_less_equal a) = opens marks.LessEqual a.height (under Sum (λ b. last (CmpTail (operation operators.Le a b))))
rule dialect (Prod.cmp_greater a) = opens marks.Greater a.height (under Sum (λ b. last (CmpTail (operation operators.Gt a b))))
rule dialect (Prod.cmp_greater_equal a) = opens marks.GreaterEqual a.height (under Sum (λ b. last (CmpTail (operation operators.Ge a b))))
-- Sum ::= Mul { ( "+" | "-" | "++" | "--" ) Mul }
rule dialect Prod.sum = at Mul (λ a. last (SumTail a))
rule dialect (Prod.sum_end a) = done a
rule dialect (Prod.sum_plus a) = opens marks.Plus a.height (under Mul (λ b. last (SumTail (operation operators.Add a b))))
rule dialect (Prod.sum_minus a) = opens marks.Minus a.height (under Mul (λ b. last (SumTail (operation operators.Sub a b))))
rule dialect (Prod.sum_append a) = opens marks.DoublePlus a.height (under Mul (λ b. last (SumTail (operation operators.Append a b))))
rule dialect (Prod.sum_take_out a) = opens marks.DoubleMinus a.height (under Mul (λ b. last (SumTail (operation operators.Minus a b))))
-- Mul ::= Pre { ( "*" | "/" | "%" ) Pre }
rule dialect Prod.mul = at Pre (λ a. last (MulTail a))
rule dialect (Prod.mul_end a) = done a
rule dialect (Prod.mul_times a) = opens marks.Star a.height (under Pre (λ b. last (MulTail (operation operators.Mul a b))))
rule dialect (Prod.mul_over a) = opens marks.Slash a.height (under Pre (λ b. last (MulTail (operation operators.Div a b))))
rule dialect (Prod.mul_modulo a) = opens marks.Percent a.height (under Pre (λ b. last (MulTail (operation operators.Rem a b))))
-- Pre ::= "not" Pre | "-" Pre | Meth, where a Pre after "-" doesn't begin with an Int; "-" opens its form at the token after it
rule dialect Prod.pre_not = opens marks.Not 0 (under Pre (λ a. done (opened (unary_of unaries.Not a.tree) a.height)))
rule dialect Prod.pre_minus = sign marks.Minus (opens_next begins_operand (under Pre (λ a. done (opened (unary_of unaries.Neg a.tree) a.height))))
rule dialect Prod.pre_meth = last Meth
-- Meth ::= Drop { "." Word "(" [ Par { "," Par } ] ")" }
rule dialect Prod.meth = at Drop (λ a. last (MethTail a))
rule dialect (Prod.meth_end a) = done a
rule dialect (Prod.meth_call a) = opens marks.Dot a.height (word (λ w. sign marks.Open (under (Row processes round) (λ r. last (MethTail (opened (method_of w a.tree r.tree) (max a.height r.height)))))))
-- Drop    ::= "*" Dropped | Atom
-- Dropped ::= Word | a fresh name | "@" Drop
rule dialect Prod.drop_star = sign marks.Star (last Dropped)
rule dialect Prod.drop_atom = last Atom
rule dialect Prod.dropped_word = word (λ w. done (leaf (drop_of (name_of w))))
rule dialect Prod.dropped_fresh = holds a_fresh_name (λ d. done (leaf (drop_of (fresh_of d))))
rule dialect Prod.dropped_quote = opens marks.At 0 (under Drop (λ a. done (opened (drop_of (quote_of a.tree)) a.height)))
-- Name ::= Word | a fresh name | "@" Drop
rule dialect Prod.name_word = word (λ w. done (leaf (name_of w)))
rule dialect Prod.name_fresh = holds a_fresh_name (λ d. done (leaf (fresh_of d)))
rule dialect Prod.name_quote = sign marks.At (at Drop (λ a. done (spelt (quote_of a.tree) a.height)))
-- Atom ::= Word | Ground | "Nil" | "(" Par Group | "{" Brace | "[" Row "]" | "Set" "(" Row ")"
rule dialect Prod.atom_word = word (λ w. done (leaf (variable_of w)))
rule dialect Prod.atom_ground = last (Ground processes)
rule dialect Prod.atom_nil = sign marks.Nil (done (leaf nil))
rule dialect Prod.atom_open = opens marks.Open 0 (under (Par processes) (λ p. last (Group processes p)))
rule dialect Prod.atom_brace = opens marks.OpenBrace 0 (last Brace)
rule dialect Prod.atom_list = opens marks.OpenSquare 0 (under (Row processes square) (λ r. done (opened (list_of r.tree) r.height)))
rule dialect Prod.atom_set = opens marks.Set 0 (sign marks.Open (under (Row processes round) (λ r. done (opened (set_of r.tree) r.height))))
-- Ground ::= "true" | "false" | Int | "-" Int | Str | Uri | a byte array, where 2^63 stands only after "-"
rule dialect (Prod.ground_true side) = sign marks.True (done (leaf (ground_of side (bool true))))
rule dialect (Prod.ground_false side) = sign marks.False (done (leaf (ground_of side (bool false))))
rule dialect (Prod.ground_int side) = integer (2 ^ 63 - 1) (λ n. done (leaf (ground_of side (int (pos n)))))
rule dialect (Prod.ground_minus side) = sign marks.Minus (integer (2 ^ 63) (λ n. done (leaf (ground_of side (int (neg_ℤ (pos n)))))))
rule dialect (Prod.ground_string side) = holds a_string (λ s. done (leaf (ground_of side (str s))))
rule dialect (Prod.ground_uri side) = holds a_uri (λ u. done (leaf (ground_of side (uri u))))
rule dialect (Prod.ground_bytes side) = holds a_byte_array (λ s. done (leaf (ground_of side (bytes s))))
-- Group ::= ")" | "," Row ")", after "(" Par or "(" PPar
rule dialect (Prod.group_close side p) = sign marks.Close (done (opened p.tree p.height))
rule dialect (Prod.group_tuple side p) = sign marks.Comma (under (Row side round) (λ r. done (opened (tuple_of side p.tree r.tree) (max p.height r.height))))
-- Brace ::= "}" | Par "}" | Par ":" Par { "," Par ":" Par } "}", after "{"
rule dialect Prod.brace_empty = sign marks.CloseBrace (done (opened (map_of []) 0))
rule dialect Prod.brace_some = under (Par processes) (λ p. last (BraceTail p))
rule dialect (Prod.brace_close p) = sign marks.CloseBrace (done (opened p.tree p.height))
rule dialect (Prod.brace_pair p) = sign marks.Colon (under (Par processes) (λ b. last (Pairs (pair_of (p.tree, b.tree) ∷ []) (max p.height b.height))))
rule dialect (Prod.pairs_end ps h) = sign marks.CloseBrace (done (opened (map_of ps) h))
rule dialect (Prod.pairs_more ps h) = sign marks.Comma (under (Par processes) (λ p. sign marks.Colon (under (Par processes) (λ b. last (Pairs (ps ++ (pair_of (p.tree, b.tree) ∷ [])) (max h (max p.height b.height)))))))
-- Row ::= [ Par { "," Par } ] or [ PPar { "," PPar } ], and the sign that closes it
rule dialect (Prod.row_none side c) = sign (closing c) (done (spelt (row_of []) 0))
rule dialect (Prod.row_some side c) = at (Par side) (λ p. last (RowTail side c (p.tree ∷ []) p.height))
rule dialect (Prod.row_end side c ps h) = sign (closing c) (done (spelt (row_of ps) h))
rule dialect (Prod.row_more side c ps h) = sign marks.Comma (at (Par side) (λ p. last (RowTail side c (ps ++ (p.tree ∷ [])) (max h p.height))))
-- POne ::= New | If | Contract | For | Match | Bundle | PName ( "!" | "!!" ) "(" [ PPar { "," PPar } ] ")" | PAlt
rule dialect Prod.pone_new = at New (λ a. done (closed_of a))
rule dialect Prod.pone_if = at If (λ a. done (closed_of a))
rule dialect Prod.pone_contract = at Contract (λ a. done (closed_of a))
rule dialect Prod.pone_for = at For (λ a. done (closed_of a))
rule dialect Prod.pone_match = at Match (λ a. done (closed_of a))
rule dialect Prod.pone_bundle = last (Bundle patterns)
rule dialect Prod.pone_word = word (λ w. last (Sent patterns (leaf (binder_of w))))
rule dialect Prod.pone_any = sign marks.Underscore (last (Sent patterns (leaf any_of)))
rule dialect Prod.pone_quote = opens marks.At 0 (under PAlt (λ a. last (SentTail patterns (spelt (quoted_of a.tree) a.height))))
rule dialect Prod.pone_alt = last PAlt
-- PAlt ::= PAnd { "\/" PAnd }
rule dialect Prod.palt = at PAnd (λ a. last (PAltTail a))
rule dialect (Prod.palt_end a) = done a
rule dialect (Prod.palt_more a) = opens marks.Either a.height (under PAnd (λ b. last (PAltTail (opened (either_of a.tree b.tree) (max a.height b.height)))))
-- PAnd ::= PNot { "/\" PNot }
rule dialect Prod.pand = at PNot (λ a. last (PAndTail a))
rule dialect (Prod.pand_end a) = done a
rule dialect (Prod.pand_more a) = opens marks.Both a.height (under PNot (λ b. last (PAndTail (opened (both_of a.tree b.tree) (max a.height b.height)))))
-- PNot ::= "~" PNot | PAtom
rule dialect Prod.pnot_tilde = opens marks.Tilde 0 (under PNot (λ a. done (opened (not_of a.tree) a.height)))
rule dialect Prod.pnot_atom = last PAtom
-- PName ::= "_" | Word | "@" PAlt
rule dialect Prod.pname_any = sign marks.Underscore (done (leaf any_of))
rule dialect Prod.pname_word = word (λ w. done (leaf (binder_of w)))
rule dialect Prod.pname_quote = sign marks.At (at PAlt (λ a. done (spelt (quoted_of a.tree) a.height)))
-- PAtom ::= "_" | "Bool" | "Int" | "String" | "Uri" | "ByteArray" | "=" Same | Word | Ground | "Nil"
--         | "(" PPar Group | "{" PBrace | "[" PSeq "]" | "Set" "(" PSeq ")"
rule dialect Prod.patom_any = sign marks.Underscore (done (leaf any_of))
rule dialect (Prod.patom_type x) = sign (type_mark x) (done (leaf (type_of x)))
rule dialect Prod.patom_same = opens marks.Assign 0 (last Same)
rule dialect Prod.patom_word = word (λ w. done (leaf (bound_of w)))
rule dialect Prod.patom_ground = last (Ground patterns)
rule dialect Prod.patom_nil = sign marks.Nil (done (leaf no_parts))
rule dialect Prod.patom_open = opens marks.Open 0 (under (Par patterns) (λ p. last (Group patterns p)))
rule dialect Prod.patom_brace = opens marks.OpenBrace 0 (last PBrace)
rule dialect Prod.patom_list = opens marks.OpenSquare 0 (under (Seq square) (λ s. done (opened (list_pattern_of s.tree) s.height)))
rule dialect Prod.patom_set = opens marks.Set 0 (sign marks.Open (under (Seq round) (λ s. done (opened (set_pattern_of s.tree) s.height))))
-- Same ::= Word | "*" Word | "{" Par "}", after "="
rule dialect Prod.same_word = word (λ w. done (opened (same_of (variable_of w)) 0))
rule dialect Prod.same_drop = sign marks.Star (word (λ w. done (opened (same_of (drop_of (name_of w))) 0)))
rule dialect Prod.same_block = sign marks.OpenBrace (under (Par processes) (λ p. sign marks.CloseBrace (done (opened (same_of p.tree) p.height))))
-- PSeq ::= [ PPar { "," PPar } ] [ [","] "..." ( Word | "_" ) ], with the comma only after a PPar, and the sign that closes it
rule dialect (Prod.seq_none c) = sign (closing c) (done (seq_of [] 0 no_rest))
rule dialect (Prod.seq_rest c) = sign marks.Ellipsis (at Remainder (λ r. sign (closing c) (done (seq_of [] 0 r.tree))))
rule dialect (Prod.seq_some c) = at (Par patterns) (λ p. last (SeqTail c (p.tree ∷ []) p.height))
rule dialect (Prod.seq_end c ps h) = sign (closing c) (done (seq_of ps h no_rest))
rule dialect (Prod.seq_end_rest c ps h) = sign marks.Ellipsis (at Remainder (λ r. sign (closing c) (done (seq_of ps h r.tree))))
rule dialect (Prod.seq_comma c ps h) = sign marks.Comma (last (SeqNext c ps h))
rule dialect (Prod.seq_more c ps h) = at (Par patterns) (λ p. last (SeqTail c (ps ++ (p.tree ∷ [])) (max h p.height)))
rule dialect (Prod.seq_next_rest c ps h) = sign marks.Ellipsis (at Remainder (λ r. sign (closing c) (done (seq_of ps h r.tree))))
-- PBrace ::= PMap "}" | PPar "}", after "{"
-- PMap   ::= [ PPar ":" PPar { "," PPar ":" PPar } ] [ [","] "..." ( Word | "_" ) ], with the comma only after a pair
rule dialect Prod.pbrace_empty = sign marks.CloseBrace (done (opened (map_pattern_of [] no_rest) 0))
rule dialect Prod.pbrace_rest = sign marks.Ellipsis (at Remainder (λ r. sign marks.CloseBrace (done (opened (map_pattern_of [] r.tree) 0))))
rule dialect Prod.pbrace_some = under (Par patterns) (λ p. last (PBraceTail p))
rule dialect (Prod.pbrace_close p) = sign marks.CloseBrace (done (opened p.tree p.height))
rule dialect (Prod.pbrace_pair p) = sign marks.Colon (under (Par patterns) (λ b. last (PPairs (pair_of (p.tree, b.tree) ∷ []) (max p.height b.height))))
rule dialect (Prod.ppairs_end ps h) = sign marks.CloseBrace (done (opened (map_pattern_of ps no_rest) h))
rule dialect (Prod.ppairs_rest ps h) = sign marks.Ellipsis (at Remainder (λ r. sign marks.CloseBrace (done (opened (map_pattern_of ps r.tree) h))))
rule dialect (Prod.ppairs_comma ps h) = sign marks.Comma (last (PPairsNext ps h))
rule dialect (Prod.ppairs_more ps h) = under (Par patterns) (λ p. sign marks.Colon (under (Par patterns) (λ b. last (PPairs (ps ++ (pair_of (p.tree, b.tree) ∷ [])) (max h (max p.height b.height))))))
rule dialect (Prod.ppairs_next_rest ps h) = sign marks.Ellipsis (at Remainder (λ r. sign marks.CloseBrace (done (opened (map_pattern_of ps r.tree) h))))
