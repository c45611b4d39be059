-- Which production the next terminals allow.
use Rattle.std.specs.Prelude.{ℕ, zero, suc, Bool, true, false, cond, nat_eq, ◌&&◌, ◌||◌, not, List, [], ◌∷◌}
use Rattle.calculus.specs.declared.plain.Simple.TheVariants as simples
use Rattle.calculus.specs.declared.plain.Kind.TheVariants as kinds
use Rattle.calculus.specs.declared.plain.Rights.TheVariants as rights
use Rattle.grammar.specs.declared.mark.Mark.TheVariants as marks
use Rattle.grammar.specs.Productions.{Prod}
use Rattle.grammar.specs.Rules.{closing, semicolon, ampersand, separator_mark, Sort}
use Rattle.grammar.specs.Terminals.{Holding, a_word, a_string, a_uri, a_fresh_name, a_byte_array, Terminal, text, number, sees}

-- a number for each kind of text
abbrev pub holding_code : Holding → ℕ
holding_code a_word = 0
holding_code a_string = 1
holding_code a_uri = 2
holding_code a_fresh_name = 3
holding_code a_byte_array = 4

-- the next terminal is a text of this kind
abbrev pub sees_text : Holding → List Terminal → Bool
sees_text k (text j w ∷ ts) = nat_eq (holding_code j) (holding_code k)
sees_text k _ = false

-- the next terminal is an Int
abbrev pub sees_number : List Terminal → Bool
sees_number (number n ∷ ts) = true
sees_number _ = false

-- what stands after the next terminal
abbrev pub after : List Terminal → List Terminal
after [] = []
after (t ∷ ts) = ts

-- the mark of a send is next
abbrev pub sees_bang : List Terminal → Bool
sees_bang ts = sees marks.Bang ts || sees marks.DoubleBang ts

-- a Word and the mark of a send are next
abbrev pub sees_send : List Terminal → Bool
sees_send ts = sees_text a_word ts && sees_bang (after ts)

-- `_` and the mark of a send are next
abbrev pub sees_any_send : List Terminal → Bool
sees_any_send ts = sees marks.Underscore ts && sees_bang (after ts)

-- a `-` that is no part of an Int is next
abbrev pub sees_prefix : List Terminal → Bool
sees_prefix ts = sees marks.Minus ts && not (sees_number (after ts))

-- the key of a bundle is next
abbrev pub sees_bundle : List Terminal → Bool
sees_bundle ts = (sees marks.BundleNeither ts || sees marks.BundleWrite ts) || (sees marks.BundleRead ts || sees marks.Bundle ts)

-- what begins a pattern of a name is next
abbrev pub sees_name_pattern : List Terminal → Bool
sees_name_pattern ts = sees_text a_word ts || (sees marks.Underscore ts || sees marks.At ts)

-- the production of the sort that the next terminals allow
abbrev pub choose : (s : Sort) → List Terminal → Prod s
choose (Sort.Par side) ts = Prod.par side
choose (Sort.ParTail side ps h) ts = cond (sees marks.Bar ts) (Prod.par_more side ps h) (Prod.par_end side ps h)
choose Sort.One ts = cond (sees marks.New ts) Prod.one_new (cond (sees marks.If ts) Prod.one_if (cond (sees marks.Contract ts) Prod.one_contract Prod.one_two))
choose Sort.New ts = Prod.new_form
choose (Sort.Decl ds) ts = Prod.decl ds
choose (Sort.DeclUri ds w) ts = cond (sees marks.Open ts) (Prod.decl_uri ds w) (Prod.decl_plain ds w)
choose (Sort.DeclTail ds) ts = cond (sees marks.Comma ts) (Prod.decl_more ds) (Prod.decl_body ds)
choose Sort.If ts = Prod.if_form
choose (Sort.IfTail e p) ts = cond (sees marks.Else ts) (Prod.if_else e p) (Prod.if_only e p)
choose Sort.Contract ts = Prod.contract_form
choose Sort.Two ts = cond (sees marks.For ts) Prod.two_for (cond (sees marks.Match ts) Prod.two_match (cond (sees_bundle ts) Prod.two_bundle (cond (sees marks.At ts) Prod.two_quote (cond (sees_text a_fresh_name ts) Prod.two_fresh (cond (sees_send ts) Prod.two_word Prod.two_or)))))
choose (Sort.Sent side n) ts = cond (sees marks.DoubleBang ts) (Prod.sent side n true) (Prod.sent side n false)
choose (Sort.SentTail side n) ts = cond (sees marks.DoubleBang ts) (Prod.sent_tail side n true) (Prod.sent_tail side n false)
choose (Sort.Bundle side) ts = cond (sees marks.BundleNeither ts) (Prod.bundle side rights.Neither) (cond (sees marks.BundleWrite ts) (Prod.bundle side rights.Write) (cond (sees marks.BundleRead ts) (Prod.bundle side rights.Read) (Prod.bundle side rights.Both)))
choose Sort.For ts = Prod.for_form
choose Sort.Bind ts = Prod.bind
choose (Sort.Arrow l) ts = cond (sees marks.LessEqual ts) (Prod.arrow l kinds.Persistent) (cond (sees marks.PeekArrow ts) (Prod.arrow l kinds.Peek) (Prod.arrow l kinds.Linear))
choose (Sort.FirstTail k b) ts = cond (sees marks.Semicolon ts) (Prod.first_more k b semicolon) (cond (sees marks.Ampersand ts) (Prod.first_more k b ampersand) (Prod.first_end k b))
choose (Sort.Binds k m left bs h) ts = Prod.binds k m left bs h
choose (Sort.BindsTail k m zero bs h) ts = Prod.binds_end k m zero bs h
choose (Sort.BindsTail k m (suc left) bs h) ts = cond (sees (separator_mark m) ts) (Prod.binds_more k m left bs h) (Prod.binds_end k m (suc left) bs h)
choose (Sort.Body k bs h) ts = Prod.body k bs h
choose Sort.Left ts = cond (sees_name_pattern ts) Prod.left_some (cond (sees marks.Ellipsis ts) Prod.left_rest Prod.left_none)
choose (Sort.LeftTail ps h) ts = cond (sees marks.Ellipsis ts) (Prod.left_end_rest ps h) (cond (sees marks.Comma ts) (Prod.left_comma ps h) (Prod.left_end ps h))
choose (Sort.LeftNext ps h) ts = cond (sees marks.Ellipsis ts) (Prod.left_next_rest ps h) (Prod.left_more ps h)
choose Sort.Remainder ts = cond (sees marks.Underscore ts) Prod.remainder_any Prod.remainder_word
choose Sort.Match ts = Prod.match_form
choose (Sort.Case t cs h) ts = Prod.case t cs h
choose (Sort.CaseTail t cs h) ts = cond (sees marks.CloseBrace ts) (Prod.case_end t cs h) (Prod.case_more t cs h)
choose Sort.Or ts = Prod.or
choose (Sort.OrTail a) ts = cond (sees marks.Or ts) (Prod.or_more a) (Prod.or_end a)
choose Sort.And ts = Prod.and
choose (Sort.AndTail a) ts = cond (sees marks.And ts) (Prod.and_more a) (Prod.and_end a)
choose Sort.Eq ts = Prod.eq
choose (Sort.EqTail a) ts = cond (sees marks.Equal ts) (Prod.eq_equal a) (cond (sees marks.Unequal ts) (Prod.eq_unequal a) (Prod.eq_end a))
choose Sort.Cmp ts = Prod.cmp
choose (Sort.CmpTail a) ts = cond (sees marks.Less ts) (Prod.cmp_less a) (cond (sees marks.LessEqual ts) (Prod.cmp_less_equal a) (cond (sees marks.Greater ts) (Prod.cmp_greater a) (cond (sees marks.GreaterEqual ts) (Prod.cmp_greater_equal a) (Prod.cmp_end a))))
choose Sort.Sum ts = Prod.sum
choose (Sort.SumTail a) ts = cond (sees marks.Plus ts) (Prod.sum_plus a) (cond (sees marks.Minus ts) (Prod.sum_minus a) (cond (sees marks.DoublePlus ts) (Prod.sum_append a) (cond (sees marks.DoubleMinus ts) (Prod.sum_take_out a) (Prod.sum_end a))))
choose Sort.Mul ts = Prod.mul
choose (Sort.MulTail a) ts = cond (sees marks.Star ts) (Prod.mul_times a) (cond (sees marks.Slash ts) (Prod.mul_over a) (cond (sees marks.Percent ts) (Prod.mul_modulo a) (Prod.mul_end a)))
choose Sort.Pre ts = cond (sees marks.Not ts) Prod.pre_not (cond (sees_prefix ts) Prod.pre_minus Prod.pre_meth)
choose Sort.Meth ts = Prod.meth
choose (Sort.MethTail a) ts = cond (sees marks.Dot ts) (Prod.meth_call a) (Prod.meth_end a)
choose Sort.Drop ts = cond (sees marks.Star ts) Prod.drop_star Prod.drop_atom
choose Sort.Dropped ts = cond (sees marks.At ts) Prod.dropped_quote (cond (sees_text a_fresh_name ts) Prod.dropped_fresh Prod.dropped_word)
choose Sort.Name ts = cond (sees marks.At ts) Prod.name_quote (cond (sees_text a_fresh_name ts) Prod.name_fresh Prod.name_word)
choose Sort.Atom ts = cond (sees_text a_word ts) Prod.atom_word (cond (sees marks.Nil ts) Prod.atom_nil (cond (sees marks.Open ts) Prod.atom_open (cond (sees marks.OpenBrace ts) Prod.atom_brace (cond (sees marks.OpenSquare ts) Prod.atom_list (cond (sees marks.Set ts) Prod.atom_set Prod.atom_ground)))))
choose (Sort.Ground side) ts = cond (sees marks.True ts) (Prod.ground_true side) (cond (sees marks.False ts) (Prod.ground_false side) (cond (sees marks.Minus ts) (Prod.ground_minus side) (cond (sees_text a_string ts) (Prod.ground_string side) (cond (sees_text a_uri ts) (Prod.ground_uri side) (cond (sees_text a_byte_array ts) (Prod.ground_bytes side) (Prod.ground_int side))))))
choose (Sort.Group side p) ts = cond (sees marks.Comma ts) (Prod.group_tuple side p) (Prod.group_close side p)
choose Sort.Brace ts = cond (sees marks.CloseBrace ts) Prod.brace_empty Prod.brace_some
choose (Sort.BraceTail p) ts = cond (sees marks.Colon ts) (Prod.brace_pair p) (Prod.brace_close p)
choose (Sort.Pairs ps h) ts = cond (sees marks.Comma ts) (Prod.pairs_more ps h) (Prod.pairs_end ps h)
choose (Sort.Row side c) ts = cond (sees (closing c) ts) (Prod.row_none side c) (Prod.row_some side c)
choose (Sort.RowTail side c ps h) ts = cond (sees marks.Comma ts) (Prod.row_more side c ps h) (Prod.row_end side c ps h)
choose Sort.POne ts = cond (sees marks.New ts) Prod.pone_new (cond (sees marks.If ts) Prod.pone_if (cond (sees marks.Contract ts) Prod.pone_contract (cond (sees marks.For ts) Prod.pone_for (cond (sees marks.Match ts) Prod.pone_match (cond (sees_bundle ts) Prod.pone_bundle (cond (sees marks.At ts) Prod.pone_quote (cond (sees_any_send ts) Prod.pone_any (cond (sees_send ts) Prod.pone_word Prod.pone_alt))))))))
choose Sort.PAlt ts = Prod.palt
choose (Sort.PAltTail a) ts = cond (sees marks.Either ts) (Prod.palt_more a) (Prod.palt_end a)
choose Sort.PAnd ts = Prod.pand
choose (Sort.PAndTail a) ts = cond (sees marks.Both ts) (Prod.pand_more a) (Prod.pand_end a)
choose Sort.PNot ts = cond (sees marks.Tilde ts) Prod.pnot_tilde Prod.pnot_atom
choose Sort.PName ts = cond (sees marks.Underscore ts) Prod.pname_any (cond (sees marks.At ts) Prod.pname_quote Prod.pname_word)
choose Sort.PAtom ts = cond (sees_text a_word ts) Prod.patom_word (cond (sees marks.Underscore ts) Prod.patom_any (cond (sees marks.Bool ts) (Prod.patom_type simples.Bool) (cond (sees marks.Int ts) (Prod.patom_type simples.Int) (cond (sees marks.String ts) (Prod.patom_type simples.Str) (cond (sees marks.Uri ts) (Prod.patom_type simples.Uri) (cond (sees marks.ByteArray ts) (Prod.patom_type simples.Bytes) (cond (sees marks.Assign ts) Prod.patom_same (cond (sees marks.Nil ts) Prod.patom_nil (cond (sees marks.Open ts) Prod.patom_open (cond (sees marks.OpenBrace ts) Prod.patom_brace (cond (sees marks.OpenSquare ts) Prod.patom_list (cond (sees marks.Set ts) Prod.patom_set Prod.patom_ground))))))))))))
choose Sort.Same ts = cond (sees marks.Star ts) Prod.same_drop (cond (sees marks.OpenBrace ts) Prod.same_block Prod.same_word)
choose (Sort.Seq c) ts = cond (sees (closing c) ts) (Prod.seq_none c) (cond (sees marks.Ellipsis ts) (Prod.seq_rest c) (Prod.seq_some c))
choose (Sort.SeqTail c ps h) ts = cond (sees marks.Comma ts) (Prod.seq_comma c ps h) (cond (sees marks.Ellipsis ts) (Prod.seq_end_rest c ps h) (Prod.seq_end c ps h))
choose (Sort.SeqNext c ps h) ts = cond (sees marks.Ellipsis ts) (Prod.seq_next_rest c ps h) (Prod.seq_more c ps h)
choose Sort.PBrace ts = cond (sees marks.CloseBrace ts) Prod.pbrace_empty (cond (sees marks.Ellipsis ts) Prod.pbrace_rest Prod.pbrace_some)
choose (Sort.PBraceTail p) ts = cond (sees marks.Colon ts) (Prod.pbrace_pair p) (Prod.pbrace_close p)
choose (Sort.PPairs ps h) ts = cond (sees marks.Comma ts) (Prod.ppairs_comma ps h) (cond (sees marks.Ellipsis ts) (Prod.ppairs_rest ps h) (Prod.ppairs_end ps h))
choose (Sort.PPairsNext ps h) ts = cond (sees marks.Ellipsis ts) (Prod.ppairs_next_rest ps h) (Prod.ppairs_more ps h)
