-- What a text of a sort begins with.
use Rattle.std.proofs.Common.{◌≡◌, ℕ, ◌≤◌, max, List, [], ◌∷◌, true, false, arith}
use Rattle.calculus.specs.Written.{Written}
use Rattle.calculus.specs.declared.plain.Simple.TheVariants as simples
use Rattle.calculus.specs.declared.plain.Kind.TheVariants as kinds
use Rattle.calculus.specs.declared.plain.Rights.TheVariants as rights
use Rattle.grammar.specs.declared.dialect.Dialect.{Dialect}
use Rattle.grammar.specs.declared.mark.Mark.{Mark}
use Rattle.grammar.specs.declared.mark.Mark.TheVariants as marks
use Rattle.grammar.specs.Grammar.{rule, is_no_minus}
use Rattle.grammar.specs.Productions.{Prod}
use Rattle.grammar.specs.Rules.{round, square, semicolon, ampersand, Sort, Rule, done, sign, opens, next, opens_next, holds, integer, at, under, last}
use Rattle.grammar.specs.Spells.{Reads, of_done, of_sign, of_opens, of_next, of_opens_next, of_text, of_integer, of_at, of_under, of_last}
use Rattle.grammar.specs.Terminals.{Holding, a_word, a_fresh_name, Terminal, text, number, mark, stranger}
use Rattle.grammar.specs.Values.{Spelt, processes, patterns}
use Rattle.grammar.proofs.First.{hold, tie, tie_text, begin, begin_text, grip, ties, opener, low, high, top, bound, kept}

-- the bounds of the numbers
class : (m : Mark) → begin m ≤ 9
class marks.Nil = omega arith
class marks.New = omega arith
class marks.For = omega arith
class marks.Contract = omega arith
class marks.Match = omega arith
class marks.If = omega arith
class marks.True = omega arith
class marks.False = omega arith
class marks.Not = omega arith
class marks.Set = omega arith
class marks.Bool = omega arith
class marks.Int = omega arith
class marks.String = omega arith
class marks.Uri = omega arith
class marks.ByteArray = omega arith
class marks.Bundle = omega arith
class marks.BundleNeither = omega arith
class marks.BundleWrite = omega arith
class marks.BundleRead = omega arith
class marks.Open = omega arith
class marks.OpenBrace = omega arith
class marks.OpenSquare = omega arith
class marks.At = omega arith
class marks.Star = omega arith
class marks.Assign = omega arith
class marks.Minus = omega arith
class marks.Tilde = omega arith
class marks.Underscore = omega arith
class _ = omega arith

class_text : (k : Holding) → begin_text k ≤ 9
class_text a_fresh_name = omega arith
class_text _ = omega arith

limit : (ts : List Terminal) → opener ts ≤ 9
limit [] = omega arith
limit (mark m ∷ ts) = class m
limit (text k w ∷ ts) = class_text k
limit (number n ∷ ts) = omega arith
limit (stranger ∷ ts) = omega arith

pub held : (m : Mark) → hold m ≤ 14
held marks.Else = omega arith
held marks.And = omega arith
held marks.Or = omega arith
held marks.DoubleBang = omega arith
held marks.Unequal = omega arith
held marks.LessEqual = omega arith
held marks.GreaterEqual = omega arith
held marks.Equal = omega arith
held marks.DoublePlus = omega arith
held marks.DoubleMinus = omega arith
held marks.Both = omega arith
held marks.Either = omega arith
held marks.Bar = omega arith
held marks.Bang = omega arith
held marks.Dot = omega arith
held marks.Star = omega arith
held marks.Less = omega arith
held marks.Greater = omega arith
held marks.Plus = omega arith
held marks.Minus = omega arith
held marks.Slash = omega arith
held marks.Percent = omega arith
held _ = omega arith

pub tied : (m : Mark) → tie m ≤ 1
tied marks.Underscore = omega arith
tied marks.At = omega arith
tied marks.Ellipsis = omega arith
tied marks.Comma = omega arith
tied _ = omega arith

tied_text : (k : Holding) → tie_text k ≤ 1
tied_text a_word = omega arith
tied_text _ = omega arith

pub most : (ts : List Terminal) → (grip ts ≤ 14) × (ties ts ≤ 1)
most [] = (omega arith, omega arith)
most (mark m ∷ ts) = (held m, tied m)
most (text k w ∷ ts) = (omega arith, tied_text k)
most (number n ∷ ts) = (omega arith, omega arith)
most (stranger ∷ ts) = (omega arith, omega arith)

-- the class of what a text of the rule begins with is within these bounds
abbrev pub Leads : ℕ → ℕ → Rule → Type 0
Leads lo hi (done v) = (lo ≤ 0) × (9 ≤ hi)
Leads lo hi (sign m r) = (lo ≤ begin m) × (begin m ≤ hi)
Leads lo hi (opens m h r) = (lo ≤ begin m) × (begin m ≤ hi)
Leads lo hi (next test r) = Leads lo hi r
Leads lo hi (opens_next test r) = Leads lo hi r
Leads lo hi (holds k f) = (lo ≤ begin_text k) × (begin_text k ≤ hi)
Leads lo hi (integer n f) = (lo ≤ 4) × (4 ≤ hi)
Leads lo hi (at s f) = (lo ≤ low s) × (high s ≤ hi)
Leads lo hi (under s f) = (lo ≤ low s) × (high s ≤ hi)
Leads lo hi (last s) = (lo ≤ low s) × (high s ≤ hi)

pub lead_rule : (d : Dialect) {s : Sort} (p : Prod s) → Leads (low s) (high s) (rule d p)
lead_rule d (Prod.par processes) = (omega arith, omega arith)
lead_rule d (Prod.par patterns) = (omega arith, omega arith)
lead_rule d (Prod.par_end side ps h) = (omega arith, omega arith)
lead_rule d (Prod.par_more side ps h) = (omega arith, omega arith)
lead_rule d Prod.one_new = (omega arith, omega arith)
lead_rule d Prod.one_if = (omega arith, omega arith)
lead_rule d Prod.one_contract = (omega arith, omega arith)
lead_rule d Prod.one_two = (omega arith, omega arith)
lead_rule d Prod.new_form = (omega arith, omega arith)
lead_rule d (Prod.decl ds) = (omega arith, omega arith)
lead_rule d (Prod.decl_plain ds w) = (omega arith, omega arith)
lead_rule d (Prod.decl_uri ds w) = (omega arith, omega arith)
lead_rule d (Prod.decl_more ds) = (omega arith, omega arith)
lead_rule d (Prod.decl_body ds) = (omega arith, omega arith)
lead_rule d Prod.if_form = (omega arith, omega arith)
lead_rule d (Prod.if_else e p) = (omega arith, omega arith)
lead_rule d (Prod.if_only e p) = (omega arith, omega arith)
lead_rule d Prod.contract_form = (omega arith, omega arith)
lead_rule d Prod.two_for = (omega arith, omega arith)
lead_rule d Prod.two_match = (omega arith, omega arith)
lead_rule d Prod.two_bundle = (omega arith, omega arith)
lead_rule d Prod.two_word = (omega arith, omega arith)
lead_rule d Prod.two_fresh = (omega arith, omega arith)
lead_rule d Prod.two_quote = (omega arith, omega arith)
lead_rule d Prod.two_or = (omega arith, omega arith)
lead_rule d (Prod.sent side n false) = (omega arith, omega arith)
lead_rule d (Prod.sent side n true) = (omega arith, omega arith)
lead_rule d (Prod.sent_tail side n false) = (omega arith, omega arith)
lead_rule d (Prod.sent_tail side n true) = (omega arith, omega arith)
lead_rule d (Prod.bundle side rights.Neither) = (omega arith, omega arith)
lead_rule d (Prod.bundle side rights.Write) = (omega arith, omega arith)
lead_rule d (Prod.bundle side rights.Read) = (omega arith, omega arith)
lead_rule d (Prod.bundle side rights.Both) = (omega arith, omega arith)
lead_rule d Prod.for_form = (omega arith, omega arith)
lead_rule d Prod.bind = (omega arith, omega arith)
lead_rule d (Prod.arrow l kinds.Linear) = (omega arith, omega arith)
lead_rule d (Prod.arrow l kinds.Persistent) = (omega arith, omega arith)
lead_rule d (Prod.arrow l kinds.Peek) = (omega arith, omega arith)
lead_rule d (Prod.first_end k b) = (omega arith, omega arith)
lead_rule d (Prod.first_more k b semicolon) = (omega arith, omega arith)
lead_rule d (Prod.first_more k b ampersand) = (omega arith, omega arith)
lead_rule d (Prod.binds k m left bs h) = (omega arith, omega arith)
lead_rule d (Prod.binds_end k m left bs h) = (omega arith, omega arith)
lead_rule d (Prod.binds_more k semicolon left bs h) = (omega arith, omega arith)
lead_rule d (Prod.binds_more k ampersand left bs h) = (omega arith, omega arith)
lead_rule d (Prod.body k bs h) = (omega arith, omega arith)
lead_rule d Prod.left_none = (omega arith, omega arith)
lead_rule d Prod.left_rest = (omega arith, omega arith)
lead_rule d Prod.left_some = (omega arith, omega arith)
lead_rule d (Prod.left_end ps h) = (omega arith, omega arith)
lead_rule d (Prod.left_end_rest ps h) = (omega arith, omega arith)
lead_rule d (Prod.left_comma ps h) = (omega arith, omega arith)
lead_rule d (Prod.left_more ps h) = (omega arith, omega arith)
lead_rule d (Prod.left_next_rest ps h) = (omega arith, omega arith)
lead_rule d Prod.remainder_word = (omega arith, omega arith)
lead_rule d Prod.remainder_any = (omega arith, omega arith)
lead_rule d Prod.match_form = (omega arith, omega arith)
lead_rule d (Prod.case t cs h) = (omega arith, omega arith)
lead_rule d (Prod.case_end t cs h) = (omega arith, omega arith)
lead_rule d (Prod.case_more t cs h) = (omega arith, omega arith)
lead_rule d Prod.or = (omega arith, omega arith)
lead_rule d (Prod.or_end a) = (omega arith, omega arith)
lead_rule d (Prod.or_more a) = (omega arith, omega arith)
lead_rule d Prod.and = (omega arith, omega arith)
lead_rule d (Prod.and_end a) = (omega arith, omega arith)
lead_rule d (Prod.and_more a) = (omega arith, omega arith)
lead_rule d Prod.eq = (omega arith, omega arith)
lead_rule d (Prod.eq_end a) = (omega arith, omega arith)
lead_rule d (Prod.eq_equal a) = (omega arith, omega arith)
lead_rule d (Prod.eq_unequal a) = (omega arith, omega arith)
lead_rule d Prod.cmp = (omega arith, omega arith)
lead_rule d (Prod.cmp_end a) = (omega arith, omega arith)
lead_rule d (Prod.cmp_less a) = (omega arith, omega arith)
lead_rule d (Prod.cmp_less_equal a) = (omega arith, omega arith)
lead_rule d (Prod.cmp_greater a) = (omega arith, omega arith)
lead_rule d (Prod.cmp_greater_equal a) = (omega arith, omega arith)
lead_rule d Prod.sum = (omega arith, omega arith)
lead_rule d (Prod.sum_end a) = (omega arith, omega arith)
lead_rule d (Prod.sum_plus a) = (omega arith, omega arith)
lead_rule d (Prod.sum_minus a) = (omega arith, omega arith)
lead_rule d (Prod.sum_append a) = (omega arith, omega arith)
lead_rule d (Prod.sum_take_out a) = (omega arith, omega arith)
lead_rule d Prod.mul = (omega arith, omega arith)
lead_rule d (Prod.mul_end a) = (omega arith, omega arith)
lead_rule d (Prod.mul_times a) = (omega arith, omega arith)
lead_rule d (Prod.mul_over a) = (omega arith, omega arith)
lead_rule d (Prod.mul_modulo a) = (omega arith, omega arith)
lead_rule d Prod.pre_not = (omega arith, omega arith)
lead_rule d Prod.pre_minus = (omega arith, omega arith)
lead_rule d Prod.pre_meth = (omega arith, omega arith)
lead_rule d Prod.meth = (omega arith, omega arith)
lead_rule d (Prod.meth_end a) = (omega arith, omega arith)
lead_rule d (Prod.meth_call a) = (omega arith, omega arith)
lead_rule d Prod.drop_star = (omega arith, omega arith)
lead_rule d Prod.drop_atom = (omega arith, omega arith)
lead_rule d Prod.dropped_word = (omega arith, omega arith)
lead_rule d Prod.dropped_fresh = (omega arith, omega arith)
lead_rule d Prod.dropped_quote = (omega arith, omega arith)
lead_rule d Prod.name_word = (omega arith, omega arith)
lead_rule d Prod.name_fresh = (omega arith, omega arith)
lead_rule d Prod.name_quote = (omega arith, omega arith)
lead_rule d Prod.atom_word = (omega arith, omega arith)
lead_rule d Prod.atom_ground = (omega arith, omega arith)
lead_rule d Prod.atom_nil = (omega arith, omega arith)
lead_rule d Prod.atom_open = (omega arith, omega arith)
lead_rule d Prod.atom_brace = (omega arith, omega arith)
lead_rule d Prod.atom_list = (omega arith, omega arith)
lead_rule d Prod.atom_set = (omega arith, omega arith)
lead_rule d (Prod.ground_true side) = (omega arith, omega arith)
lead_rule d (Prod.ground_false side) = (omega arith, omega arith)
lead_rule d (Prod.ground_int side) = (omega arith, omega arith)
lead_rule d (Prod.ground_minus side) = (omega arith, omega arith)
lead_rule d (Prod.ground_string side) = (omega arith, omega arith)
lead_rule d (Prod.ground_uri side) = (omega arith, omega arith)
lead_rule d (Prod.ground_bytes side) = (omega arith, omega arith)
lead_rule d (Prod.group_close side p) = (omega arith, omega arith)
lead_rule d (Prod.group_tuple side p) = (omega arith, omega arith)
lead_rule d Prod.brace_empty = (omega arith, omega arith)
lead_rule d Prod.brace_some = (omega arith, omega arith)
lead_rule d (Prod.brace_close p) = (omega arith, omega arith)
lead_rule d (Prod.brace_pair p) = (omega arith, omega arith)
lead_rule d (Prod.pairs_end ps h) = (omega arith, omega arith)
lead_rule d (Prod.pairs_more ps h) = (omega arith, omega arith)
lead_rule d (Prod.row_none side round) = (omega arith, omega arith)
lead_rule d (Prod.row_none side square) = (omega arith, omega arith)
lead_rule d (Prod.row_some side c) = (omega arith, omega arith)
lead_rule d (Prod.row_end side round ps h) = (omega arith, omega arith)
lead_rule d (Prod.row_end side square ps h) = (omega arith, omega arith)
lead_rule d (Prod.row_more side c ps h) = (omega arith, omega arith)
lead_rule d Prod.pone_new = (omega arith, omega arith)
lead_rule d Prod.pone_if = (omega arith, omega arith)
lead_rule d Prod.pone_contract = (omega arith, omega arith)
lead_rule d Prod.pone_for = (omega arith, omega arith)
lead_rule d Prod.pone_match = (omega arith, omega arith)
lead_rule d Prod.pone_bundle = (omega arith, omega arith)
lead_rule d Prod.pone_word = (omega arith, omega arith)
lead_rule d Prod.pone_any = (omega arith, omega arith)
lead_rule d Prod.pone_quote = (omega arith, omega arith)
lead_rule d Prod.pone_alt = (omega arith, omega arith)
lead_rule d Prod.palt = (omega arith, omega arith)
lead_rule d (Prod.palt_end a) = (omega arith, omega arith)
lead_rule d (Prod.palt_more a) = (omega arith, omega arith)
lead_rule d Prod.pand = (omega arith, omega arith)
lead_rule d (Prod.pand_end a) = (omega arith, omega arith)
lead_rule d (Prod.pand_more a) = (omega arith, omega arith)
lead_rule d Prod.pnot_tilde = (omega arith, omega arith)
lead_rule d Prod.pnot_atom = (omega arith, omega arith)
lead_rule d Prod.pname_any = (omega arith, omega arith)
lead_rule d Prod.pname_word = (omega arith, omega arith)
lead_rule d Prod.pname_quote = (omega arith, omega arith)
lead_rule d Prod.patom_any = (omega arith, omega arith)
lead_rule d (Prod.patom_type simples.Bool) = (omega arith, omega arith)
lead_rule d (Prod.patom_type simples.Int) = (omega arith, omega arith)
lead_rule d (Prod.patom_type simples.Str) = (omega arith, omega arith)
lead_rule d (Prod.patom_type simples.Uri) = (omega arith, omega arith)
lead_rule d (Prod.patom_type simples.Bytes) = (omega arith, omega arith)
lead_rule d Prod.patom_same = (omega arith, omega arith)
lead_rule d Prod.patom_word = (omega arith, omega arith)
lead_rule d Prod.patom_ground = (omega arith, omega arith)
lead_rule d Prod.patom_nil = (omega arith, omega arith)
lead_rule d Prod.patom_open = (omega arith, omega arith)
lead_rule d Prod.patom_brace = (omega arith, omega arith)
lead_rule d Prod.patom_list = (omega arith, omega arith)
lead_rule d Prod.patom_set = (omega arith, omega arith)
lead_rule d Prod.same_word = (omega arith, omega arith)
lead_rule d Prod.same_drop = (omega arith, omega arith)
lead_rule d Prod.same_block = (omega arith, omega arith)
lead_rule d (Prod.seq_none round) = (omega arith, omega arith)
lead_rule d (Prod.seq_none square) = (omega arith, omega arith)
lead_rule d (Prod.seq_rest c) = (omega arith, omega arith)
lead_rule d (Prod.seq_some c) = (omega arith, omega arith)
lead_rule d (Prod.seq_end round ps h) = (omega arith, omega arith)
lead_rule d (Prod.seq_end square ps h) = (omega arith, omega arith)
lead_rule d (Prod.seq_end_rest c ps h) = (omega arith, omega arith)
lead_rule d (Prod.seq_comma c ps h) = (omega arith, omega arith)
lead_rule d (Prod.seq_more c ps h) = (omega arith, omega arith)
lead_rule d (Prod.seq_next_rest c ps h) = (omega arith, omega arith)
lead_rule d Prod.pbrace_empty = (omega arith, omega arith)
lead_rule d Prod.pbrace_rest = (omega arith, omega arith)
lead_rule d Prod.pbrace_some = (omega arith, omega arith)
lead_rule d (Prod.pbrace_close p) = (omega arith, omega arith)
lead_rule d (Prod.pbrace_pair p) = (omega arith, omega arith)
lead_rule d (Prod.ppairs_end ps h) = (omega arith, omega arith)
lead_rule d (Prod.ppairs_rest ps h) = (omega arith, omega arith)
lead_rule d (Prod.ppairs_comma ps h) = (omega arith, omega arith)
lead_rule d (Prod.ppairs_more ps h) = (omega arith, omega arith)
lead_rule d (Prod.ppairs_next_rest ps h) = (omega arith, omega arith)

-- whatever is read by a rule begins so
pub leads : {d : Dialect} {r : Rule} {ts rest : List Terminal} {v : Spelt} → Reads d r ts v rest → (lo hi : ℕ) → Leads lo hi r
    → (lo ≤ opener ts) × (opener ts ≤ hi)
leads (of_done {ts = ts}) lo hi h = let b = limit ts in (omega (arith, h.0), omega (arith, h.1, b))
leads (of_sign k) lo hi h = h
leads (of_opens k) lo hi h = h
leads (of_next e k) lo hi h = leads k lo hi h
leads (of_opens_next e k) lo hi h = leads k lo hi h
leads (of_text k) lo hi h = h
leads (of_integer e k) lo hi h = h
leads {d = d} (of_at {s = s} p g k) lo hi h = let l = leads g (low s) (high s) (lead_rule d p) in (omega (arith, h.0, l.0), omega (arith, h.1, l.1))
leads {d = d} (of_under {s = s} p g k) lo hi h = let l = leads g (low s) (high s) (lead_rule d p) in (omega (arith, h.0, l.0), omega (arith, h.1, l.1))
leads {d = d} (of_last {s = s} p g) lo hi h = let l = leads g (low s) (high s) (lead_rule d p) in (omega (arith, h.0, l.0), omega (arith, h.1, l.1))

-- a case begins with nothing that goes on with the body before it
calm : (m : Mark) → 4 ≤ begin m → begin m ≤ 8 → is_no_minus (mark m) ≡ true → hold m ≤ 2
calm marks.Minus a b e = absurd (cc (e))
calm marks.Else a b e = omega (arith, b)
calm marks.And a b e = omega (arith, b)
calm marks.Or a b e = omega (arith, b)
calm marks.DoubleBang a b e = omega (arith, b)
calm marks.Unequal a b e = omega (arith, b)
calm marks.LessEqual a b e = omega (arith, b)
calm marks.GreaterEqual a b e = omega (arith, b)
calm marks.Equal a b e = omega (arith, b)
calm marks.DoublePlus a b e = omega (arith, b)
calm marks.DoubleMinus a b e = omega (arith, b)
calm marks.Both a b e = omega (arith, b)
calm marks.Either a b e = omega (arith, b)
calm marks.Bang a b e = omega (arith, b)
calm marks.Dot a b e = omega (arith, b)
calm marks.Star a b e = omega (arith, a)
calm marks.Less a b e = omega (arith, b)
calm marks.Greater a b e = omega (arith, b)
calm marks.Plus a b e = omega (arith, b)
calm marks.Slash a b e = omega (arith, b)
calm marks.Percent a b e = omega (arith, b)
calm _ a b e = omega arith

pub case_first : {d : Dialect} (t : Spelt) (cs : List Written) (h : ℕ) {ts rest : List Terminal} {v : Spelt} → Reads d (rule d (Prod.case t cs h)) ts v rest → grip ts ≤ 2
case_first {d = d} u cs h (of_next {t = mark m} e k) = let l = leads k 4 8 (omega arith, omega arith) in calm m l.0 l.1 e
case_first u cs h (of_next {t = text j w} e k) = omega arith
case_first u cs h (of_next {t = number n} e k) = omega arith
case_first u cs h (of_next {t = stranger} e k) = omega arith

-- how tightly what goes on with a sort holds, or what follows where it is empty
abbrev pub Stays : Sort → List Terminal → List Terminal → Type 0
Stays s ts rest = (grip ts ≤ max (top s) (kept s (grip rest))) × (ties ts ≤ max (bound s) (kept s (ties rest)))

pub tops : {d : Dialect} {s : Sort} (p : Prod s) {ts rest : List Terminal} {v : Spelt} → Reads d (rule d p) ts v rest → Stays s ts rest
tops (Prod.par_end side ps h) of_done = (omega arith, omega arith)
tops (Prod.par_more side ps h) (of_sign g) = (omega arith, omega arith)
tops (Prod.if_else e p) (of_sign g) = (omega arith, omega arith)
tops (Prod.if_only e p) of_done = (omega arith, omega arith)
tops (Prod.sent_tail side n false) (of_sign g) = (omega arith, omega arith)
tops (Prod.sent_tail side n true) (of_sign g) = (omega arith, omega arith)
tops (Prod.arrow l kinds.Linear) (of_sign g) = (omega arith, omega arith)
tops (Prod.arrow l kinds.Persistent) (of_sign g) = (omega arith, omega arith)
tops (Prod.arrow l kinds.Peek) (of_sign g) = (omega arith, omega arith)
tops (Prod.left_end ps h) of_done = (omega arith, omega arith)
tops (Prod.left_end_rest ps h) (of_sign g) = (omega arith, omega arith)
tops (Prod.left_comma ps h) (of_sign g) = (omega arith, omega arith)
tops (Prod.case_end t cs h) (of_sign g) = (omega arith, omega arith)
tops (Prod.case_more t cs h) (of_last {ts = ts} {rest = rest} (Prod.case u us n) k) = let c = case_first u us n k in let m = most ts in (omega (arith, c), omega (arith, m.1))
tops (Prod.or_end a) of_done = (omega arith, omega arith)
tops (Prod.or_more a) (of_opens g) = (omega arith, omega arith)
tops (Prod.and_end a) of_done = (omega arith, omega arith)
tops (Prod.and_more a) (of_opens g) = (omega arith, omega arith)
tops (Prod.eq_end a) of_done = (omega arith, omega arith)
tops (Prod.eq_equal a) (of_opens g) = (omega arith, omega arith)
tops (Prod.eq_unequal a) (of_opens g) = (omega arith, omega arith)
tops (Prod.cmp_end a) of_done = (omega arith, omega arith)
tops (Prod.cmp_less a) (of_opens g) = (omega arith, omega arith)
tops (Prod.cmp_less_equal a) (of_opens g) = (omega arith, omega arith)
tops (Prod.cmp_greater a) (of_opens g) = (omega arith, omega arith)
tops (Prod.cmp_greater_equal a) (of_opens g) = (omega arith, omega arith)
tops (Prod.sum_end a) of_done = (omega arith, omega arith)
tops (Prod.sum_plus a) (of_opens g) = (omega arith, omega arith)
tops (Prod.sum_minus a) (of_opens g) = (omega arith, omega arith)
tops (Prod.sum_append a) (of_opens g) = (omega arith, omega arith)
tops (Prod.sum_take_out a) (of_opens g) = (omega arith, omega arith)
tops (Prod.mul_end a) of_done = (omega arith, omega arith)
tops (Prod.mul_times a) (of_opens g) = (omega arith, omega arith)
tops (Prod.mul_over a) (of_opens g) = (omega arith, omega arith)
tops (Prod.mul_modulo a) (of_opens g) = (omega arith, omega arith)
tops (Prod.meth_end a) of_done = (omega arith, omega arith)
tops (Prod.meth_call a) (of_opens g) = (omega arith, omega arith)
tops (Prod.group_close side p) (of_sign g) = (omega arith, omega arith)
tops (Prod.group_tuple side p) (of_sign g) = (omega arith, omega arith)
tops (Prod.brace_close p) (of_sign g) = (omega arith, omega arith)
tops (Prod.brace_pair p) (of_sign g) = (omega arith, omega arith)
tops (Prod.pairs_end ps h) (of_sign g) = (omega arith, omega arith)
tops (Prod.pairs_more ps h) (of_sign g) = (omega arith, omega arith)
tops (Prod.row_end side round ps h) (of_sign g) = (omega arith, omega arith)
tops (Prod.row_end side square ps h) (of_sign g) = (omega arith, omega arith)
tops (Prod.row_more side c ps h) (of_sign g) = (omega arith, omega arith)
tops (Prod.palt_end a) of_done = (omega arith, omega arith)
tops (Prod.palt_more a) (of_opens g) = (omega arith, omega arith)
tops (Prod.pand_end a) of_done = (omega arith, omega arith)
tops (Prod.pand_more a) (of_opens g) = (omega arith, omega arith)
tops (Prod.seq_end round ps h) (of_sign g) = (omega arith, omega arith)
tops (Prod.seq_end square ps h) (of_sign g) = (omega arith, omega arith)
tops (Prod.seq_end_rest c ps h) (of_sign g) = (omega arith, omega arith)
tops (Prod.seq_comma c ps h) (of_sign g) = (omega arith, omega arith)
tops (Prod.pbrace_close p) (of_sign g) = (omega arith, omega arith)
tops (Prod.pbrace_pair p) (of_sign g) = (omega arith, omega arith)
tops (Prod.ppairs_end ps h) (of_sign g) = (omega arith, omega arith)
tops (Prod.ppairs_rest ps h) (of_sign g) = (omega arith, omega arith)
tops (Prod.ppairs_comma ps h) (of_sign g) = (omega arith, omega arith)
tops _ {ts = ts} {rest = rest} k = let m = most ts in (omega (arith, m.0), omega (arith, m.1))
