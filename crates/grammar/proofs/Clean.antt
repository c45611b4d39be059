-- What follows each constituent of a production ends it.
use Rattle.std.proofs.Common.{ℕ, ◌<◌, ◌≤◌, List, arith}
use Rattle.std.specs.Prelude.{⊤}
use Rattle.calculus.specs.declared.plain.Kind.TheVariants as kinds
use Rattle.grammar.specs.declared.dialect.Dialect.{Dialect}
use Rattle.grammar.specs.declared.dialect.Dialect.TheVariants.{Tutorial}
use Rattle.grammar.specs.Grammar.{rule}
use Rattle.grammar.specs.Productions.{Prod}
use Rattle.grammar.specs.Rules.{round, square, Sort, Rule, done, sign, opens, next, opens_next, holds, integer, at, under, last}
use Rattle.grammar.specs.Spells.{Reads, of_done, of_sign, of_opens, of_next, of_opens_next, of_text, of_integer, of_at, of_under, of_last}
use Rattle.grammar.specs.Terminals.{Terminal}
use Rattle.grammar.specs.Values.{Spelt, processes, patterns}
use Rattle.grammar.proofs.Begins.{tops}
use Rattle.grammar.proofs.First.{hold, tie, level, strict, top, bound, kept, grip, ties, Ends}

-- what ends the sort s after a text of the rule, and that text before it, end the sort q
abbrev pub Follows : Sort → Sort → Rule → Type 0
Follows s q (done v) = (level s ≤ level q) × (strict s ≤ strict q)
Follows s q (sign m r) = (hold m < level q) × (tie m < strict q)
Follows s q (opens m h r) = (hold m < level q) × (tie m < strict q)
Follows s q (last t) = (top t < level q) × (bound t < strict q) × (kept t (level s) ≤ level q) × (kept t (strict s) ≤ strict q)
Follows s q _ = ⊥

carry : (t : Sort) (x y z n : ℕ) → x < y → kept t y ≤ z → n < z → kept t x < z
carry (Sort.SentTail side q) x y z n a b h = omega (arith, h)
carry (Sort.Arrow l) x y z n a b h = omega (arith, h)
carry (Sort.CaseTail u cs i) x y z n a b h = omega (arith, h)
carry (Sort.Group side p) x y z n a b h = omega (arith, h)
carry (Sort.BraceTail p) x y z n a b h = omega (arith, h)
carry (Sort.Pairs ps i) x y z n a b h = omega (arith, h)
carry (Sort.RowTail side w ps i) x y z n a b h = omega (arith, h)
carry (Sort.SeqTail w ps i) x y z n a b h = omega (arith, h)
carry (Sort.PBraceTail p) x y z n a b h = omega (arith, h)
carry (Sort.PPairs ps i) x y z n a b h = omega (arith, h)
carry _ x y z n a b c = omega (arith, a, b)

pub follows : {d : Dialect} {r : Rule} {mid rest : List Terminal} {v : Spelt} (s q : Sort) → Reads d r mid v rest → Follows s q r → Ends s rest → Ends q mid
follows s q of_done h l = (omega (arith, h.0, l.0), omega (arith, h.1, l.1))
follows s q (of_sign k) h l = h
follows s q (of_opens k) h l = h
follows s q (of_next e k) h l = absurd h
follows s q (of_opens_next e k) h l = absurd h
follows s q (of_text k) h l = absurd h
follows s q (of_integer e k) h l = absurd h
follows s q (of_at p g k) h l = absurd h
follows s q (of_under p g k) h l = absurd h
follows s q (of_last {s = t} {rest = rest} p k) h l =
    let x = tops p k in
    let y = carry t (grip rest) (level s) (level q) (top t) l.0 h.2 h.0 in
    let z = carry t (ties rest) (strict s) (strict q) (bound t) l.1 h.3 h.1 in
    (omega (arith, x.0, h.0, y), omega (arith, x.1, h.1, z))

-- in a production of the sort s, what follows each constituent ends it
abbrev pub Clean : Sort → Rule → Type 0
Clean s (done v) = ⊤
Clean s (sign m r) = Clean s r
Clean s (opens m h r) = Clean s r
Clean s (next test r) = Clean s r
Clean s (opens_next test r) = Clean s r
Clean s (holds k f) = (w : List ℕ) → Clean s (f w)
Clean s (integer most f) = (n : ℕ) → Clean s (f n)
Clean s (at q f) = ((a : Spelt) → Follows s q (f a)) × ((a : Spelt) → Clean s (f a))
Clean s (under q f) = ((a : Spelt) → Follows s q (f a)) × ((a : Spelt) → Clean s (f a))
Clean s (last q) = (level s ≤ level q) × (strict s ≤ strict q)

pub clean_rule : (d : Dialect) {s : Sort} (p : Prod s) → Clean s (rule d p)
clean_rule d (Prod.par processes) = (λ p. (omega arith, omega arith, omega arith, omega arith), λ p. (omega arith, omega arith))
clean_rule d (Prod.par patterns) = (λ p. (omega arith, omega arith, omega arith, omega arith), λ p. (omega arith, omega arith))
clean_rule d (Prod.par_end side ps h) = tt
clean_rule d (Prod.par_more processes ps h) = (λ p. (omega arith, omega arith, omega arith, omega arith), λ p. (omega arith, omega arith))
clean_rule d (Prod.par_more patterns ps h) = (λ p. (omega arith, omega arith, omega arith, omega arith), λ p. (omega arith, omega arith))
clean_rule d Prod.one_new = (omega arith, omega arith)
clean_rule d Prod.one_if = (omega arith, omega arith)
clean_rule d Prod.one_contract = (omega arith, omega arith)
clean_rule d Prod.one_two = (omega arith, omega arith)
clean_rule d Prod.new_form = (omega arith, omega arith)
clean_rule d (Prod.decl ds) = λ w. (omega arith, omega arith)
clean_rule d (Prod.decl_plain ds w) = (omega arith, omega arith)
clean_rule d (Prod.decl_uri ds w) = λ u. (omega arith, omega arith)
clean_rule d (Prod.decl_more ds) = (omega arith, omega arith)
clean_rule d (Prod.decl_body ds) = (λ p. (omega arith, omega arith), λ p. tt)
clean_rule d Prod.if_form = (λ e. (omega arith, omega arith), λ e. (λ p. (omega arith, omega arith, omega arith, omega arith), λ p. (omega arith, omega arith)))
clean_rule d (Prod.if_else e p) = (λ q. (omega arith, omega arith), λ q. tt)
clean_rule d (Prod.if_only e p) = tt
clean_rule d Prod.contract_form = (λ n. (omega arith, omega arith), λ n. (λ l. (omega arith, omega arith), λ l. (λ p. (omega arith, omega arith), λ p. tt)))
clean_rule d Prod.two_for = (omega arith, omega arith)
clean_rule d Prod.two_match = (omega arith, omega arith)
clean_rule d Prod.two_bundle = (omega arith, omega arith)
clean_rule d Prod.two_word = λ w. (omega arith, omega arith)
clean_rule d Prod.two_fresh = λ d. (omega arith, omega arith)
clean_rule d Prod.two_quote = (λ a. (omega arith, omega arith, omega arith, omega arith), λ a. (omega arith, omega arith))
clean_rule d Prod.two_or = (omega arith, omega arith)
clean_rule d (Prod.sent side n q) = (λ r. (omega arith, omega arith), λ r. tt)
clean_rule d (Prod.sent_tail side n q) = (λ r. (omega arith, omega arith), λ r. tt)
clean_rule d (Prod.bundle side r) = (λ p. (omega arith, omega arith), λ p. tt)
clean_rule Tutorial Prod.for_form = (omega arith, omega arith)
clean_rule d Prod.bind = (λ l. (omega arith, omega arith, omega arith, omega arith), λ l. (omega arith, omega arith))
clean_rule d (Prod.arrow l k) = (λ n. (omega arith, omega arith, omega arith, omega arith), λ n. (omega arith, omega arith))
clean_rule d (Prod.first_end k b) = (omega arith, omega arith)
clean_rule d (Prod.first_more k b m) = (omega arith, omega arith)
clean_rule d (Prod.binds kinds.Linear m left bs h) = (λ l. (omega arith, omega arith), λ l. (λ n. (omega arith, omega arith, omega arith, omega arith), λ n. (omega arith, omega arith)))
clean_rule d (Prod.binds kinds.Persistent m left bs h) = (λ l. (omega arith, omega arith), λ l. (λ n. (omega arith, omega arith, omega arith, omega arith), λ n. (omega arith, omega arith)))
clean_rule d (Prod.binds kinds.Peek m left bs h) = (λ l. (omega arith, omega arith), λ l. (λ n. (omega arith, omega arith, omega arith, omega arith), λ n. (omega arith, omega arith)))
clean_rule d (Prod.binds_end k m left bs h) = (omega arith, omega arith)
clean_rule d (Prod.binds_more k m left bs h) = (omega arith, omega arith)
clean_rule d (Prod.body k bs h) = (λ p. (omega arith, omega arith), λ p. tt)
clean_rule d Prod.left_none = tt
clean_rule d Prod.left_rest = (λ r. (omega arith, omega arith), λ r. tt)
clean_rule d Prod.left_some = (λ p. (omega arith, omega arith, omega arith, omega arith), λ p. (omega arith, omega arith))
clean_rule d (Prod.left_end ps h) = tt
clean_rule d (Prod.left_end_rest ps h) = (λ r. (omega arith, omega arith), λ r. tt)
clean_rule d (Prod.left_comma ps h) = (omega arith, omega arith)
clean_rule d (Prod.left_more ps h) = (λ p. (omega arith, omega arith, omega arith, omega arith), λ p. (omega arith, omega arith))
clean_rule d (Prod.left_next_rest ps h) = (λ r. (omega arith, omega arith), λ r. tt)
clean_rule d Prod.remainder_word = λ w. tt
clean_rule d Prod.remainder_any = tt
clean_rule d Prod.match_form = (λ t. (omega arith, omega arith), λ t. (omega arith, omega arith))
clean_rule d (Prod.case t cs h) = (λ p. (omega arith, omega arith), λ p. (λ b. (omega arith, omega arith, omega arith, omega arith), λ b. (omega arith, omega arith)))
clean_rule d (Prod.case_end t cs h) = tt
clean_rule d (Prod.case_more t cs h) = (omega arith, omega arith)
clean_rule d Prod.or = (λ a. (omega arith, omega arith, omega arith, omega arith), λ a. (omega arith, omega arith))
clean_rule d (Prod.or_end a) = tt
clean_rule d (Prod.or_more a) = (λ b. (omega arith, omega arith, omega arith, omega arith), λ b. (omega arith, omega arith))
clean_rule d Prod.and = (λ a. (omega arith, omega arith, omega arith, omega arith), λ a. (omega arith, omega arith))
clean_rule d (Prod.and_end a) = tt
clean_rule d (Prod.and_more a) = (λ b. (omega arith, omega arith, omega arith, omega arith), λ b. (omega arith, omega arith))
clean_rule d Prod.eq = (λ a. (omega arith, omega arith, omega arith, omega arith), λ a. (omega arith, omega arith))
clean_rule d (Prod.eq_end a) = tt
clean_rule d (Prod.eq_equal a) = (λ b. (omega arith, omega arith, omega arith, omega arith), λ b. (omega arith, omega arith))
clean_rule d (Prod.eq_unequal a) = (λ b. (omega arith, omega arith, omega arith, omega arith), λ b. (omega arith, omega arith))
clean_rule d Prod.cmp = (λ a. (omega arith, omega arith, omega arith, omega arith), λ a. (omega arith, omega arith))
clean_rule d (Prod.cmp_end a) = tt
clean_rule d (Prod.cmp_less a) = (λ b. (omega arith, omega arith, omega arith, omega arith), λ b. (omega arith, omega arith))
clean_rule d (Prod.cmp_less_equal a) = (λ b. (omega arith, omega arith, omega arith, omega arith), λ b. (omega arith, omega arith))
clean_rule d (Prod.cmp_greater a) = (λ b. (omega arith, omega arith, omega arith, omega arith), λ b. (omega arith, omega arith))
clean_rule d (Prod.cmp_greater_equal a) = (λ b. (omega arith, omega arith, omega arith, omega arith), λ b. (omega arith, omega arith))
clean_rule d Prod.sum = (λ a. (omega arith, omega arith, omega arith, omega arith), λ a. (omega arith, omega arith))
clean_rule d (Prod.sum_end a) = tt
clean_rule d (Prod.sum_plus a) = (λ b. (omega arith, omega arith, omega arith, omega arith), λ b. (omega arith, omega arith))
clean_rule d (Prod.sum_minus a) = (λ b. (omega arith, omega arith, omega arith, omega arith), λ b. (omega arith, omega arith))
clean_rule d (Prod.sum_append a) = (λ b. (omega arith, omega arith, omega arith, omega arith), λ b. (omega arith, omega arith))
clean_rule d (Prod.sum_take_out a) = (λ b. (omega arith, omega arith, omega arith, omega arith), λ b. (omega arith, omega arith))
clean_rule d Prod.mul = (λ a. (omega arith, omega arith, omega arith, omega arith), λ a. (omega arith, omega arith))
clean_rule d (Prod.mul_end a) = tt
clean_rule d (Prod.mul_times a) = (λ b. (omega arith, omega arith, omega arith, omega arith), λ b. (omega arith, omega arith))
clean_rule d (Prod.mul_over a) = (λ b. (omega arith, omega arith, omega arith, omega arith), λ b. (omega arith, omega arith))
clean_rule d (Prod.mul_modulo a) = (λ b. (omega arith, omega arith, omega arith, omega arith), λ b. (omega arith, omega arith))
clean_rule d Prod.pre_not = (λ a. (omega arith, omega arith), λ a. tt)
clean_rule d Prod.pre_minus = (λ a. (omega arith, omega arith), λ a. tt)
clean_rule d Prod.pre_meth = (omega arith, omega arith)
clean_rule d Prod.meth = (λ a. (omega arith, omega arith, omega arith, omega arith), λ a. (omega arith, omega arith))
clean_rule d (Prod.meth_end a) = tt
clean_rule d (Prod.meth_call a) = λ w. (λ r. (omega arith, omega arith, omega arith, omega arith), λ r. (omega arith, omega arith))
clean_rule d Prod.drop_star = (omega arith, omega arith)
clean_rule d Prod.drop_atom = (omega arith, omega arith)
clean_rule d Prod.dropped_word = λ w. tt
clean_rule d Prod.dropped_fresh = λ d. tt
clean_rule d Prod.dropped_quote = (λ a. (omega arith, omega arith), λ a. tt)
clean_rule d Prod.name_word = λ w. tt
clean_rule d Prod.name_fresh = λ d. tt
clean_rule d Prod.name_quote = (λ a. (omega arith, omega arith), λ a. tt)
clean_rule d Prod.atom_word = λ w. tt
clean_rule d Prod.atom_ground = (omega arith, omega arith)
clean_rule d Prod.atom_nil = tt
clean_rule d Prod.atom_open = (λ p. (omega arith, omega arith, omega arith, omega arith), λ p. (omega arith, omega arith))
clean_rule d Prod.atom_brace = (omega arith, omega arith)
clean_rule d Prod.atom_list = (λ r. (omega arith, omega arith), λ r. tt)
clean_rule d Prod.atom_set = (λ r. (omega arith, omega arith), λ r. tt)
clean_rule d (Prod.ground_true side) = tt
clean_rule d (Prod.ground_false side) = tt
clean_rule d (Prod.ground_int side) = λ n. tt
clean_rule d (Prod.ground_minus side) = λ n. tt
clean_rule d (Prod.ground_string side) = λ s. tt
clean_rule d (Prod.ground_uri side) = λ u. tt
clean_rule d (Prod.ground_bytes side) = λ s. tt
clean_rule d (Prod.group_close side p) = tt
clean_rule d (Prod.group_tuple side p) = (λ r. (omega arith, omega arith), λ r. tt)
clean_rule d Prod.brace_empty = tt
clean_rule d Prod.brace_some = (λ p. (omega arith, omega arith, omega arith, omega arith), λ p. (omega arith, omega arith))
clean_rule d (Prod.brace_close p) = tt
clean_rule d (Prod.brace_pair p) = (λ b. (omega arith, omega arith, omega arith, omega arith), λ b. (omega arith, omega arith))
clean_rule d (Prod.pairs_end ps h) = tt
clean_rule d (Prod.pairs_more ps h) = (λ p. (omega arith, omega arith), λ p. (λ b. (omega arith, omega arith, omega arith, omega arith), λ b. (omega arith, omega arith)))
clean_rule d (Prod.row_none side c) = tt
clean_rule d (Prod.row_some side c) = (λ p. (omega arith, omega arith, omega arith, omega arith), λ p. (omega arith, omega arith))
clean_rule d (Prod.row_end side c ps h) = tt
clean_rule d (Prod.row_more side c ps h) = (λ p. (omega arith, omega arith, omega arith, omega arith), λ p. (omega arith, omega arith))
clean_rule d Prod.pone_new = (λ a. (omega arith, omega arith), λ a. tt)
clean_rule d Prod.pone_if = (λ a. (omega arith, omega arith), λ a. tt)
clean_rule d Prod.pone_contract = (λ a. (omega arith, omega arith), λ a. tt)
clean_rule d Prod.pone_for = (λ a. (omega arith, omega arith), λ a. tt)
clean_rule d Prod.pone_match = (λ a. (omega arith, omega arith), λ a. tt)
clean_rule d Prod.pone_bundle = (omega arith, omega arith)
clean_rule d Prod.pone_word = λ w. (omega arith, omega arith)
clean_rule d Prod.pone_any = (omega arith, omega arith)
clean_rule d Prod.pone_quote = (λ a. (omega arith, omega arith, omega arith, omega arith), λ a. (omega arith, omega arith))
clean_rule d Prod.pone_alt = (omega arith, omega arith)
clean_rule d Prod.palt = (λ a. (omega arith, omega arith, omega arith, omega arith), λ a. (omega arith, omega arith))
clean_rule d (Prod.palt_end a) = tt
clean_rule d (Prod.palt_more a) = (λ b. (omega arith, omega arith, omega arith, omega arith), λ b. (omega arith, omega arith))
clean_rule d Prod.pand = (λ a. (omega arith, omega arith, omega arith, omega arith), λ a. (omega arith, omega arith))
clean_rule d (Prod.pand_end a) = tt
clean_rule d (Prod.pand_more a) = (λ b. (omega arith, omega arith, omega arith, omega arith), λ b. (omega arith, omega arith))
clean_rule d Prod.pnot_tilde = (λ a. (omega arith, omega arith), λ a. tt)
clean_rule d Prod.pnot_atom = (omega arith, omega arith)
clean_rule d Prod.pname_any = tt
clean_rule d Prod.pname_word = λ w. tt
clean_rule d Prod.pname_quote = (λ a. (omega arith, omega arith), λ a. tt)
clean_rule d Prod.patom_any = tt
clean_rule d (Prod.patom_type x) = tt
clean_rule d Prod.patom_same = (omega arith, omega arith)
clean_rule d Prod.patom_word = λ w. tt
clean_rule d Prod.patom_ground = (omega arith, omega arith)
clean_rule d Prod.patom_nil = tt
clean_rule d Prod.patom_open = (λ p. (omega arith, omega arith, omega arith, omega arith), λ p. (omega arith, omega arith))
clean_rule d Prod.patom_brace = (omega arith, omega arith)
clean_rule d Prod.patom_list = (λ s. (omega arith, omega arith), λ s. tt)
clean_rule d Prod.patom_set = (λ s. (omega arith, omega arith), λ s. tt)
clean_rule d Prod.same_word = λ w. tt
clean_rule d Prod.same_drop = λ w. tt
clean_rule d Prod.same_block = (λ p. (omega arith, omega arith), λ p. tt)
clean_rule d (Prod.seq_none c) = tt
clean_rule d (Prod.seq_rest round) = (λ r. (omega arith, omega arith), λ r. tt)
clean_rule d (Prod.seq_rest square) = (λ r. (omega arith, omega arith), λ r. tt)
clean_rule d (Prod.seq_some c) = (λ p. (omega arith, omega arith, omega arith, omega arith), λ p. (omega arith, omega arith))
clean_rule d (Prod.seq_end c ps h) = tt
clean_rule d (Prod.seq_end_rest round ps h) = (λ r. (omega arith, omega arith), λ r. tt)
clean_rule d (Prod.seq_end_rest square ps h) = (λ r. (omega arith, omega arith), λ r. tt)
clean_rule d (Prod.seq_comma c ps h) = (omega arith, omega arith)
clean_rule d (Prod.seq_more c ps h) = (λ p. (omega arith, omega arith, omega arith, omega arith), λ p. (omega arith, omega arith))
clean_rule d (Prod.seq_next_rest round ps h) = (λ r. (omega arith, omega arith), λ r. tt)
clean_rule d (Prod.seq_next_rest square ps h) = (λ r. (omega arith, omega arith), λ r. tt)
clean_rule d Prod.pbrace_empty = tt
clean_rule d Prod.pbrace_rest = (λ r. (omega arith, omega arith), λ r. tt)
clean_rule d Prod.pbrace_some = (λ p. (omega arith, omega arith, omega arith, omega arith), λ p. (omega arith, omega arith))
clean_rule d (Prod.pbrace_close p) = tt
clean_rule d (Prod.pbrace_pair p) = (λ b. (omega arith, omega arith, omega arith, omega arith), λ b. (omega arith, omega arith))
clean_rule d (Prod.ppairs_end ps h) = tt
clean_rule d (Prod.ppairs_rest ps h) = (λ r. (omega arith, omega arith), λ r. tt)
clean_rule d (Prod.ppairs_comma ps h) = (omega arith, omega arith)
clean_rule d (Prod.ppairs_more ps h) = (λ p. (omega arith, omega arith), λ p. (λ b. (omega arith, omega arith, omega arith, omega arith), λ b. (omega arith, omega arith)))
clean_rule d (Prod.ppairs_next_rest ps h) = (λ r. (omega arith, omega arith), λ r. tt)
