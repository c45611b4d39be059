-- Each production is chosen where its text stands.
use Rattle.std.proofs.Common.{◌≡◌, zero, suc, ◌<◌, List, true, false, refl, arith}
use Rattle.calculus.specs.declared.plain.Simple.TheVariants as simples
use Rattle.calculus.specs.declared.plain.Kind.TheVariants as kinds
use Rattle.calculus.specs.declared.plain.Rights.TheVariants as rights
use Rattle.grammar.specs.declared.dialect.Dialect.{Dialect}
use Rattle.grammar.specs.declared.mark.Mark.TheVariants as marks
use Rattle.grammar.specs.Choice.{choose, sees_bang}
use Rattle.grammar.specs.Grammar.{rule}
use Rattle.grammar.specs.Productions.{Prod}
use Rattle.grammar.specs.Rules.{round, square, closing, semicolon, ampersand, Sort}
use Rattle.grammar.specs.Spells.{Reads, of_done, of_sign, of_opens, of_opens_next, of_text, of_integer, of_at, of_last}
use Rattle.grammar.specs.Terminals.{Terminal, text, number, mark, stranger}
use Rattle.grammar.specs.Values.{Spelt, processes, patterns}
use Rattle.grammar.proofs.Begins.{lead_rule, leads}
use Rattle.grammar.proofs.First.{grip, Ends, unheld, untied, untied_text, below, above, below_fresh}
use Rattle.grammar.proofs.Operands.{unsent, prefix_meth, atom_of_ground, patom_of_ground}

no_bang : (ts : List Terminal) → grip ts < 4 → sees_bang ts ≡ false
no_bang ts h = let a = unheld marks.Bang ts h in let b = unheld marks.DoubleBang ts h in rw (a, b) refl

pub picks : {d : Dialect} {s : Sort} (p : Prod s) {ts rest : List Terminal} {v : Spelt} → Reads d (rule d p) ts v rest → Ends s rest → choose s ts ≡ p
picks (Prod.par side) gg ends = refl
picks (Prod.par_end side ps h) {ts = ts} of_done ends = let a0 = unheld marks.Bar ts (omega (arith, ends.0)) in rw a0 refl
picks (Prod.par_more side ps h) (of_sign gg) ends = refl
picks Prod.one_new (of_last Prod.new_form (of_opens gg)) ends = refl
picks Prod.one_if (of_last Prod.if_form (of_opens gg)) ends = refl
picks Prod.one_contract (of_last Prod.contract_form (of_opens gg)) ends = refl
picks Prod.one_two {ts = ts} gg ends = let b = leads gg 2 7 (omega arith, omega arith) in let a0 = below marks.New ts (omega (arith, b.1)) in let a1 = below marks.If ts (omega (arith, b.1)) in let a2 = below marks.Contract ts (omega (arith, b.1)) in rw (a0, a1, a2) refl
picks Prod.new_form gg ends = refl
picks (Prod.decl ds) gg ends = refl
picks (Prod.decl_plain ds w) (of_last (Prod.decl_more us) (of_sign gg)) ends = refl
picks (Prod.decl_plain ds w) (of_last (Prod.decl_body us) (of_sign gg)) ends = refl
picks (Prod.decl_uri ds w) (of_sign gg) ends = refl
picks (Prod.decl_more ds) (of_sign gg) ends = refl
picks (Prod.decl_body ds) (of_sign gg) ends = refl
picks Prod.if_form gg ends = refl
picks (Prod.if_else e p) (of_sign gg) ends = refl
picks (Prod.if_only e p) {ts = ts} of_done ends = let a0 = unheld marks.Else ts (omega (arith, ends.0)) in rw a0 refl
picks Prod.contract_form gg ends = refl
picks Prod.two_for (of_last Prod.for_form (of_opens gg)) ends = refl
picks Prod.two_match (of_last Prod.match_form (of_opens gg)) ends = refl
picks Prod.two_bundle (of_last (Prod.bundle processes rights.Neither) (of_opens gg)) ends = refl
picks Prod.two_bundle (of_last (Prod.bundle processes rights.Write) (of_opens gg)) ends = refl
picks Prod.two_bundle (of_last (Prod.bundle processes rights.Read) (of_opens gg)) ends = refl
picks Prod.two_bundle (of_last (Prod.bundle processes rights.Both) (of_opens gg)) ends = refl
picks Prod.two_word (of_text (of_last (Prod.sent processes a false) (of_opens gg))) ends = refl
picks Prod.two_word (of_text (of_last (Prod.sent processes a true) (of_opens gg))) ends = refl
picks Prod.two_fresh (of_text gg) ends = refl
picks Prod.two_quote (of_opens gg) ends = refl
picks {d = d} Prod.two_or {ts = ts} {rest = rest} (of_last q gg) ends = let b = leads gg 2 4 (lead_rule d q) in let u = unsent q tt gg (no_bang rest (omega (arith, ends.0))) in let a0 = below marks.For ts (omega (arith, b.1)) in let a1 = below marks.Match ts (omega (arith, b.1)) in let a2 = below marks.BundleNeither ts (omega (arith, b.1)) in let a3 = below marks.BundleWrite ts (omega (arith, b.1)) in let a4 = below marks.BundleRead ts (omega (arith, b.1)) in let a5 = below marks.Bundle ts (omega (arith, b.1)) in let a6 = below marks.At ts (omega (arith, b.1)) in let a7 = below_fresh ts (omega (arith, b.1)) in let a8 = u.0 in rw (a0, a1, a2, a3, a4, a5, a6, a7, a8) refl
picks (Prod.sent side n false) (of_opens gg) ends = refl
picks (Prod.sent side n true) (of_opens gg) ends = refl
picks (Prod.sent_tail side n false) (of_sign gg) ends = refl
picks (Prod.sent_tail side n true) (of_sign gg) ends = refl
picks (Prod.bundle side rights.Neither) (of_opens gg) ends = refl
picks (Prod.bundle side rights.Write) (of_opens gg) ends = refl
picks (Prod.bundle side rights.Read) (of_opens gg) ends = refl
picks (Prod.bundle side rights.Both) (of_opens gg) ends = refl
picks Prod.for_form gg ends = refl
picks Prod.bind gg ends = refl
picks (Prod.arrow l kinds.Linear) (of_sign gg) ends = refl
picks (Prod.arrow l kinds.Persistent) (of_sign gg) ends = refl
picks (Prod.arrow l kinds.Peek) (of_sign gg) ends = refl
picks (Prod.first_end k b) (of_last (Prod.body j bs h) (of_sign gg)) ends = refl
picks (Prod.first_more k b semicolon) (of_sign gg) ends = refl
picks (Prod.first_more k b ampersand) (of_sign gg) ends = refl
picks (Prod.binds k m left bs h) gg ends = refl
picks (Prod.binds_end k m zero bs h) gg ends = refl
picks (Prod.binds_end k semicolon (suc left) bs h) (of_last (Prod.body j cs n) (of_sign gg)) ends = refl
picks (Prod.binds_end k ampersand (suc left) bs h) (of_last (Prod.body j cs n) (of_sign gg)) ends = refl
picks (Prod.binds_more k semicolon left bs h) (of_sign gg) ends = refl
picks (Prod.binds_more k ampersand left bs h) (of_sign gg) ends = refl
picks (Prod.body k bs h) gg ends = refl
picks Prod.left_none {ts = ts} of_done ends = let a0 = untied_text ts ends.1 in let a1 = untied marks.Underscore ts ends.1 in let a2 = untied marks.At ts ends.1 in let a3 = untied marks.Ellipsis ts ends.1 in rw (a0, a1, a2, a3) refl
picks Prod.left_rest (of_sign gg) ends = refl
picks Prod.left_some (of_at Prod.pname_any (of_sign hh) gg) ends = refl
picks Prod.left_some (of_at Prod.pname_word (of_text hh) gg) ends = refl
picks Prod.left_some (of_at Prod.pname_quote (of_sign hh) gg) ends = refl
picks (Prod.left_end ps h) {ts = ts} of_done ends = let a0 = untied marks.Ellipsis ts ends.1 in let a1 = untied marks.Comma ts ends.1 in rw (a0, a1) refl
picks (Prod.left_end_rest ps h) (of_sign gg) ends = refl
picks (Prod.left_comma ps h) (of_sign gg) ends = refl
picks (Prod.left_more ps h) {ts = ts} gg ends = let b = leads gg 4 7 (omega arith, omega arith) in let a0 = below marks.Ellipsis ts (omega (arith, b.1)) in rw a0 refl
picks (Prod.left_next_rest ps h) (of_sign gg) ends = refl
picks Prod.remainder_word (of_text gg) ends = refl
picks Prod.remainder_any (of_sign gg) ends = refl
picks Prod.match_form gg ends = refl
picks (Prod.case t cs h) gg ends = refl
picks (Prod.case_end t cs h) (of_sign gg) ends = refl
picks (Prod.case_more t cs h) {ts = ts} gg ends = let b = leads gg 4 8 (omega arith, omega arith) in let a0 = below marks.CloseBrace ts (omega (arith, b.1)) in rw a0 refl
picks Prod.or gg ends = refl
picks (Prod.or_end a) {ts = ts} of_done ends = let a0 = unheld marks.Or ts (omega (arith, ends.0)) in rw a0 refl
picks (Prod.or_more a) (of_opens gg) ends = refl
picks Prod.and gg ends = refl
picks (Prod.and_end a) {ts = ts} of_done ends = let a0 = unheld marks.And ts (omega (arith, ends.0)) in rw a0 refl
picks (Prod.and_more a) (of_opens gg) ends = refl
picks Prod.eq gg ends = refl
picks (Prod.eq_end a) {ts = ts} of_done ends = let a0 = unheld marks.Equal ts (omega (arith, ends.0)) in let a1 = unheld marks.Unequal ts (omega (arith, ends.0)) in rw (a0, a1) refl
picks (Prod.eq_equal a) (of_opens gg) ends = refl
picks (Prod.eq_unequal a) (of_opens gg) ends = refl
picks Prod.cmp gg ends = refl
picks (Prod.cmp_end a) {ts = ts} of_done ends = let a0 = unheld marks.Less ts (omega (arith, ends.0)) in let a1 = unheld marks.LessEqual ts (omega (arith, ends.0)) in let a2 = unheld marks.Greater ts (omega (arith, ends.0)) in let a3 = unheld marks.GreaterEqual ts (omega (arith, ends.0)) in rw (a0, a1, a2, a3) refl
picks (Prod.cmp_less a) (of_opens gg) ends = refl
picks (Prod.cmp_less_equal a) (of_opens gg) ends = refl
picks (Prod.cmp_greater a) (of_opens gg) ends = refl
picks (Prod.cmp_greater_equal a) (of_opens gg) ends = refl
picks Prod.sum gg ends = refl
picks (Prod.sum_end a) {ts = ts} of_done ends = let a0 = unheld marks.Plus ts (omega (arith, ends.0)) in let a1 = unheld marks.Minus ts (omega (arith, ends.0)) in let a2 = unheld marks.DoublePlus ts (omega (arith, ends.0)) in let a3 = unheld marks.DoubleMinus ts (omega (arith, ends.0)) in rw (a0, a1, a2, a3) refl
picks (Prod.sum_plus a) (of_opens gg) ends = refl
picks (Prod.sum_minus a) (of_opens gg) ends = refl
picks (Prod.sum_append a) (of_opens gg) ends = refl
picks (Prod.sum_take_out a) (of_opens gg) ends = refl
picks Prod.mul gg ends = refl
picks (Prod.mul_end a) {ts = ts} of_done ends = let a0 = unheld marks.Star ts (omega (arith, ends.0)) in let a1 = unheld marks.Slash ts (omega (arith, ends.0)) in let a2 = unheld marks.Percent ts (omega (arith, ends.0)) in rw (a0, a1, a2) refl
picks (Prod.mul_times a) (of_opens gg) ends = refl
picks (Prod.mul_over a) (of_opens gg) ends = refl
picks (Prod.mul_modulo a) (of_opens gg) ends = refl
picks Prod.pre_not (of_opens gg) ends = refl
picks Prod.pre_minus (of_sign (of_opens_next {t = mark m} e gg)) ends = refl
picks Prod.pre_minus (of_sign (of_opens_next {t = text j w} e gg)) ends = refl
picks Prod.pre_minus (of_sign (of_opens_next {t = number n} e gg)) ends = absurd (cc (e))
picks Prod.pre_minus (of_sign (of_opens_next {t = stranger} e gg)) ends = refl
picks Prod.pre_meth {ts = ts} (of_last q gg) ends = let b = leads gg 3 4 (lead_rule _ q) in let a0 = above marks.Not ts (omega (arith, b.0)) in let a1 = prefix_meth q gg in rw (a0, a1) refl
picks Prod.meth gg ends = refl
picks (Prod.meth_end a) {ts = ts} of_done ends = let a0 = unheld marks.Dot ts (omega (arith, ends.0)) in rw a0 refl
picks (Prod.meth_call a) (of_opens gg) ends = refl
picks Prod.drop_star (of_sign gg) ends = refl
picks Prod.drop_atom {ts = ts} (of_last q gg) ends = let b = leads gg 4 4 (lead_rule _ q) in let a0 = above marks.Star ts (omega (arith, b.0)) in rw a0 refl
picks Prod.dropped_word (of_text gg) ends = refl
picks Prod.dropped_fresh (of_text gg) ends = refl
picks Prod.dropped_quote (of_opens gg) ends = refl
picks Prod.name_word (of_text gg) ends = refl
picks Prod.name_fresh (of_text gg) ends = refl
picks Prod.name_quote (of_sign gg) ends = refl
picks Prod.atom_word (of_text gg) ends = refl
picks Prod.atom_ground (of_last q gg) ends = atom_of_ground q gg
picks Prod.atom_nil (of_sign gg) ends = refl
picks Prod.atom_open (of_opens gg) ends = refl
picks Prod.atom_brace (of_opens gg) ends = refl
picks Prod.atom_list (of_opens gg) ends = refl
picks Prod.atom_set (of_opens gg) ends = refl
picks (Prod.ground_true side) (of_sign gg) ends = refl
picks (Prod.ground_false side) (of_sign gg) ends = refl
picks (Prod.ground_int side) (of_integer le gg) ends = refl
picks (Prod.ground_minus side) (of_sign gg) ends = refl
picks (Prod.ground_string side) (of_text gg) ends = refl
picks (Prod.ground_uri side) (of_text gg) ends = refl
picks (Prod.ground_bytes side) (of_text gg) ends = refl
picks (Prod.group_close side p) (of_sign gg) ends = refl
picks (Prod.group_tuple side p) (of_sign gg) ends = refl
picks Prod.brace_empty (of_sign gg) ends = refl
picks Prod.brace_some {ts = ts} gg ends = let b = leads gg 2 8 (omega arith, omega arith) in let a0 = below marks.CloseBrace ts (omega (arith, b.1)) in rw a0 refl
picks (Prod.brace_close p) (of_sign gg) ends = refl
picks (Prod.brace_pair p) (of_sign gg) ends = refl
picks (Prod.pairs_end ps h) (of_sign gg) ends = refl
picks (Prod.pairs_more ps h) (of_sign gg) ends = refl
picks (Prod.row_none side round) (of_sign gg) ends = refl
picks (Prod.row_none side square) (of_sign gg) ends = refl
picks (Prod.row_some side round) {ts = ts} gg ends = let b = leads gg 2 8 (omega arith, omega arith) in let a0 = below (closing round) ts (omega (arith, b.1)) in rw a0 refl
picks (Prod.row_some side square) {ts = ts} gg ends = let b = leads gg 2 8 (omega arith, omega arith) in let a0 = below (closing square) ts (omega (arith, b.1)) in rw a0 refl
picks (Prod.row_end side round ps h) (of_sign gg) ends = refl
picks (Prod.row_end side square ps h) (of_sign gg) ends = refl
picks (Prod.row_more side c ps h) (of_sign gg) ends = refl
picks Prod.pone_new (of_at Prod.new_form (of_opens hh) gg) ends = refl
picks Prod.pone_if (of_at Prod.if_form (of_opens hh) gg) ends = refl
picks Prod.pone_contract (of_at Prod.contract_form (of_opens hh) gg) ends = refl
picks Prod.pone_for (of_at Prod.for_form (of_opens hh) gg) ends = refl
picks Prod.pone_match (of_at Prod.match_form (of_opens hh) gg) ends = refl
picks Prod.pone_bundle (of_last (Prod.bundle patterns rights.Neither) (of_opens gg)) ends = refl
picks Prod.pone_bundle (of_last (Prod.bundle patterns rights.Write) (of_opens gg)) ends = refl
picks Prod.pone_bundle (of_last (Prod.bundle patterns rights.Read) (of_opens gg)) ends = refl
picks Prod.pone_bundle (of_last (Prod.bundle patterns rights.Both) (of_opens gg)) ends = refl
picks Prod.pone_word (of_text (of_last (Prod.sent patterns a false) (of_opens gg))) ends = refl
picks Prod.pone_word (of_text (of_last (Prod.sent patterns a true) (of_opens gg))) ends = refl
picks Prod.pone_any (of_sign (of_last (Prod.sent patterns a false) (of_opens gg))) ends = refl
picks Prod.pone_any (of_sign (of_last (Prod.sent patterns a true) (of_opens gg))) ends = refl
picks Prod.pone_quote (of_opens gg) ends = refl
picks {d = d} Prod.pone_alt {ts = ts} {rest = rest} (of_last q gg) ends = let b = leads gg 4 6 (lead_rule d q) in let u = unsent q tt gg (no_bang rest (omega (arith, ends.0))) in let a0 = below marks.New ts (omega (arith, b.1)) in let a1 = below marks.If ts (omega (arith, b.1)) in let a2 = below marks.Contract ts (omega (arith, b.1)) in let a3 = below marks.For ts (omega (arith, b.1)) in let a4 = below marks.Match ts (omega (arith, b.1)) in let a5 = below marks.BundleNeither ts (omega (arith, b.1)) in let a6 = below marks.BundleWrite ts (omega (arith, b.1)) in let a7 = below marks.BundleRead ts (omega (arith, b.1)) in let a8 = below marks.Bundle ts (omega (arith, b.1)) in let a9 = below marks.At ts (omega (arith, b.1)) in let a10 = u.1 in let a11 = u.0 in rw (a0, a1, a2, a3, a4, a5, a6, a7, a8, a9, a10, a11) refl
picks Prod.palt gg ends = refl
picks (Prod.palt_end a) {ts = ts} of_done ends = let a0 = unheld marks.Either ts (omega (arith, ends.0)) in rw a0 refl
picks (Prod.palt_more a) (of_opens gg) ends = refl
picks Prod.pand gg ends = refl
picks (Prod.pand_end a) {ts = ts} of_done ends = let a0 = unheld marks.Both ts (omega (arith, ends.0)) in rw a0 refl
picks (Prod.pand_more a) (of_opens gg) ends = refl
picks Prod.pnot_tilde (of_opens gg) ends = refl
picks Prod.pnot_atom {ts = ts} gg ends = let b = leads gg 4 5 (omega arith, omega arith) in let a0 = below marks.Tilde ts (omega (arith, b.1)) in rw a0 refl
picks Prod.pname_any (of_sign gg) ends = refl
picks Prod.pname_word (of_text gg) ends = refl
picks Prod.pname_quote (of_sign gg) ends = refl
picks Prod.patom_any (of_sign gg) ends = refl
picks (Prod.patom_type simples.Bool) (of_sign gg) ends = refl
picks (Prod.patom_type simples.Int) (of_sign gg) ends = refl
picks (Prod.patom_type simples.Str) (of_sign gg) ends = refl
picks (Prod.patom_type simples.Uri) (of_sign gg) ends = refl
picks (Prod.patom_type simples.Bytes) (of_sign gg) ends = refl
picks Prod.patom_same (of_opens gg) ends = refl
picks Prod.patom_word (of_text gg) ends = refl
picks Prod.patom_ground (of_last q gg) ends = patom_of_ground q gg
picks Prod.patom_nil (of_sign gg) ends = refl
picks Prod.patom_open (of_opens gg) ends = refl
picks Prod.patom_brace (of_opens gg) ends = refl
picks Prod.patom_list (of_opens gg) ends = refl
picks Prod.patom_set (of_opens gg) ends = refl
picks Prod.same_word (of_text gg) ends = refl
picks Prod.same_drop (of_sign gg) ends = refl
picks Prod.same_block (of_sign gg) ends = refl
picks (Prod.seq_none round) (of_sign gg) ends = refl
picks (Prod.seq_none square) (of_sign gg) ends = refl
picks (Prod.seq_rest round) (of_sign gg) ends = refl
picks (Prod.seq_rest square) (of_sign gg) ends = refl
picks (Prod.seq_some round) {ts = ts} gg ends = let b = leads gg 2 8 (omega arith, omega arith) in let a0 = below (closing round) ts (omega (arith, b.1)) in let a1 = below marks.Ellipsis ts (omega (arith, b.1)) in rw (a0, a1) refl
picks (Prod.seq_some square) {ts = ts} gg ends = let b = leads gg 2 8 (omega arith, omega arith) in let a0 = below (closing square) ts (omega (arith, b.1)) in let a1 = below marks.Ellipsis ts (omega (arith, b.1)) in rw (a0, a1) refl
picks (Prod.seq_end round ps h) (of_sign gg) ends = refl
picks (Prod.seq_end square ps h) (of_sign gg) ends = refl
picks (Prod.seq_end_rest c ps h) (of_sign gg) ends = refl
picks (Prod.seq_comma c ps h) (of_sign gg) ends = refl
picks (Prod.seq_more c ps h) {ts = ts} gg ends = let b = leads gg 2 8 (omega arith, omega arith) in let a0 = below marks.Ellipsis ts (omega (arith, b.1)) in rw a0 refl
picks (Prod.seq_next_rest c ps h) (of_sign gg) ends = refl
picks Prod.pbrace_empty (of_sign gg) ends = refl
picks Prod.pbrace_rest (of_sign gg) ends = refl
picks Prod.pbrace_some {ts = ts} gg ends = let b = leads gg 2 8 (omega arith, omega arith) in let a0 = below marks.CloseBrace ts (omega (arith, b.1)) in let a1 = below marks.Ellipsis ts (omega (arith, b.1)) in rw (a0, a1) refl
picks (Prod.pbrace_close p) (of_sign gg) ends = refl
picks (Prod.pbrace_pair p) (of_sign gg) ends = refl
picks (Prod.ppairs_end ps h) (of_sign gg) ends = refl
picks (Prod.ppairs_rest ps h) (of_sign gg) ends = refl
picks (Prod.ppairs_comma ps h) (of_sign gg) ends = refl
picks (Prod.ppairs_more ps h) {ts = ts} gg ends = let b = leads gg 2 8 (omega arith, omega arith) in let a0 = below marks.Ellipsis ts (omega (arith, b.1)) in rw a0 refl
picks (Prod.ppairs_next_rest ps h) (of_sign gg) ends = refl
