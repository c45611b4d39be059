-- What is spelt is read.
use Rattle.std.proofs.Common.{ℕ, ◌+◌, ◌-◌, ◌≤◌, max, List, subst, sym, refl, arith}
use Rattle.grammar.specs.declared.dialect.Dialect.{Dialect}
use Rattle.grammar.specs.declared.dialect.Dialect.TheVariants.{Tutorial}
use Rattle.grammar.specs.Descent.{read, Runs, runs_done, runs_sign, runs_opens, runs_next, runs_opens_next, runs_text, runs_integer, runs_at, runs_under, runs_last}
use Rattle.grammar.specs.Grammar.{rule}
use Rattle.grammar.specs.Productions.{Prod}
use Rattle.grammar.specs.Rules.{Sort, Rule, done, sign, opens, next, opens_next, holds, integer, at, under, last}
use Rattle.grammar.specs.Spells.{Reads, of_done, of_sign, of_opens, of_next, of_opens_next, of_text, of_integer, of_at, of_under, of_last}
use Rattle.grammar.specs.Terminals.{Terminal}
use Rattle.grammar.specs.Values.{Spelt, processes, patterns}
use Rattle.grammar.proofs.Clean.{Clean, clean_rule, follows}
use Rattle.grammar.proofs.First.{Ends}
use Rattle.grammar.proofs.Picks.{picks}

-- the least height of a text of the sort
abbrev pub floor : Sort → ℕ
floor (Sort.ParTail side ps h) = h
floor (Sort.Decl ds) = 1
floor (Sort.DeclUri ds w) = 1
floor (Sort.DeclTail ds) = 1
floor (Sort.IfTail e p) = max e.height p.height + 1
floor (Sort.SentTail side n) = n.height + 1
floor Sort.Bind = 1
floor (Sort.Arrow l) = l.height + 1
floor (Sort.FirstTail k b) = b.height + 1
floor (Sort.Binds k m left bs h) = h + 1
floor (Sort.BindsTail k m left bs h) = h + 1
floor (Sort.Body k bs h) = h + 1
floor (Sort.LeftTail ps h) = h
floor (Sort.LeftNext ps h) = h
floor (Sort.Case t cs h) = h + 1
floor (Sort.CaseTail t cs h) = h + 1
floor (Sort.OrTail a) = a.height
floor (Sort.AndTail a) = a.height
floor (Sort.EqTail a) = a.height
floor (Sort.CmpTail a) = a.height
floor (Sort.SumTail a) = a.height
floor (Sort.MulTail a) = a.height
floor (Sort.MethTail a) = a.height
floor (Sort.Group side p) = p.height + 1
floor Sort.Brace = 1
floor (Sort.BraceTail p) = p.height + 1
floor (Sort.Pairs ps h) = h + 1
floor (Sort.RowTail side c ps h) = h
floor (Sort.PAltTail a) = a.height
floor (Sort.PAndTail a) = a.height
floor Sort.Same = 1
floor (Sort.SeqTail c ps h) = h
floor (Sort.SeqNext c ps h) = h
floor Sort.PBrace = 1
floor (Sort.PBraceTail p) = p.height + 1
floor (Sort.PPairs ps h) = h + 1
floor (Sort.PPairsNext ps h) = h + 1
floor _ = 0

-- a height that counts, other than that of a remainder, which is 0
abbrev pub weight : Sort → ℕ → ℕ
weight Sort.Remainder n = 0
weight _ n = n

weighs : {d : Dialect} {s : Sort} (p : Prod s) {ts mid : List Terminal} {a : Spelt} → Reads d (rule d p) ts a mid → a.height ≤ weight s a.height
weighs Prod.remainder_word (of_text of_done) = omega arith
weighs Prod.remainder_any (of_sign of_done) = omega arith
weighs _ k = omega arith

-- the height is at least n, and covers each constituent
abbrev pub Lower : ℕ → Rule → Type 0
Lower n (done v) = n ≤ v.height
Lower n (sign m r) = Lower n r
Lower n (opens m h r) = Lower (max n (h + 1)) r
Lower n (next test r) = Lower n r
Lower n (opens_next test r) = Lower (max n 1) r
Lower n (holds k f) = (w : List ℕ) → Lower n (f w)
Lower n (integer most f) = (i : ℕ) → Lower n (f i)
Lower n (at s f) = (a : Spelt) → Lower (max n (weight s a.height)) (f a)
Lower n (under s f) = (a : Spelt) → Lower (max n (a.height + 1)) (f a)
Lower n (last s) = n ≤ floor s

pub lower_rule : (d : Dialect) {s : Sort} (p : Prod s) → Lower (floor s) (rule d p)
lower_rule d (Prod.par processes) = λ p. omega arith
lower_rule d (Prod.par patterns) = λ p. omega arith
lower_rule d (Prod.par_end side ps h) = omega arith
lower_rule d (Prod.par_more processes ps h) = λ p. omega arith
lower_rule d (Prod.par_more patterns ps h) = λ p. omega arith
lower_rule d Prod.one_new = omega arith
lower_rule d Prod.one_if = omega arith
lower_rule d Prod.one_contract = omega arith
lower_rule d Prod.one_two = omega arith
lower_rule d Prod.new_form = omega arith
lower_rule d (Prod.decl ds) = λ w. omega arith
lower_rule d (Prod.decl_plain ds w) = omega arith
lower_rule d (Prod.decl_uri ds w) = λ u. omega arith
lower_rule d (Prod.decl_more ds) = omega arith
lower_rule d (Prod.decl_body ds) = λ p. omega arith
lower_rule d Prod.if_form = λ e. λ p. omega arith
lower_rule d (Prod.if_else e p) = λ q. omega arith
lower_rule d (Prod.if_only e p) = omega arith
lower_rule d Prod.contract_form = λ n. λ l. λ p. omega arith
lower_rule d Prod.two_for = omega arith
lower_rule d Prod.two_match = omega arith
lower_rule d Prod.two_bundle = omega arith
lower_rule d Prod.two_word = λ w. omega arith
lower_rule d Prod.two_fresh = λ d. omega arith
lower_rule d Prod.two_quote = λ a. omega arith
lower_rule d Prod.two_or = omega arith
lower_rule d (Prod.sent side n q) = λ r. omega arith
lower_rule d (Prod.sent_tail side n q) = λ r. omega arith
lower_rule d (Prod.bundle side r) = λ p. omega arith
lower_rule Tutorial Prod.for_form = omega arith
lower_rule d Prod.bind = λ l. omega arith
lower_rule d (Prod.arrow l k) = λ n. omega arith
lower_rule d (Prod.first_end k b) = omega arith
lower_rule d (Prod.first_more k b m) = omega arith
lower_rule d (Prod.binds k m left bs h) = λ l. λ n. omega arith
lower_rule d (Prod.binds_end k m left bs h) = omega arith
lower_rule d (Prod.binds_more k m left bs h) = omega arith
lower_rule d (Prod.body k bs h) = λ p. omega arith
lower_rule d Prod.left_none = omega arith
lower_rule d Prod.left_rest = λ r. omega arith
lower_rule d Prod.left_some = λ p. omega arith
lower_rule d (Prod.left_end ps h) = omega arith
lower_rule d (Prod.left_end_rest ps h) = λ r. omega arith
lower_rule d (Prod.left_comma ps h) = omega arith
lower_rule d (Prod.left_more ps h) = λ p. omega arith
lower_rule d (Prod.left_next_rest ps h) = λ r. omega arith
lower_rule d Prod.remainder_word = λ w. omega arith
lower_rule d Prod.remainder_any = omega arith
lower_rule d Prod.match_form = λ t. omega arith
lower_rule d (Prod.case t cs h) = λ p. λ b. omega arith
lower_rule d (Prod.case_end t cs h) = omega arith
lower_rule d (Prod.case_more t cs h) = omega arith
lower_rule d Prod.or = λ a. omega arith
lower_rule d (Prod.or_end a) = omega arith
lower_rule d (Prod.or_more a) = λ b. omega arith
lower_rule d Prod.and = λ a. omega arith
lower_rule d (Prod.and_end a) = omega arith
lower_rule d (Prod.and_more a) = λ b. omega arith
lower_rule d Prod.eq = λ a. omega arith
lower_rule d (Prod.eq_end a) = omega arith
lower_rule d (Prod.eq_equal a) = λ b. omega arith
lower_rule d (Prod.eq_unequal a) = λ b. omega arith
lower_rule d Prod.cmp = λ a. omega arith
lower_rule d (Prod.cmp_end a) = omega arith
lower_rule d (Prod.cmp_less a) = λ b. omega arith
lower_rule d (Prod.cmp_less_equal a) = λ b. omega arith
lower_rule d (Prod.cmp_greater a) = λ b. omega arith
lower_rule d (Prod.cmp_greater_equal a) = λ b. omega arith
lower_rule d Prod.sum = λ a. omega arith
lower_rule d (Prod.sum_end a) = omega arith
lower_rule d (Prod.sum_plus a) = λ b. omega arith
lower_rule d (Prod.sum_minus a) = λ b. omega arith
lower_rule d (Prod.sum_append a) = λ b. omega arith
lower_rule d (Prod.sum_take_out a) = λ b. omega arith
lower_rule d Prod.mul = λ a. omega arith
lower_rule d (Prod.mul_end a) = omega arith
lower_rule d (Prod.mul_times a) = λ b. omega arith
lower_rule d (Prod.mul_over a) = λ b. omega arith
lower_rule d (Prod.mul_modulo a) = λ b. omega arith
lower_rule d Prod.pre_not = λ a. omega arith
lower_rule d Prod.pre_minus = λ a. omega arith
lower_rule d Prod.pre_meth = omega arith
lower_rule d Prod.meth = λ a. omega arith
lower_rule d (Prod.meth_end a) = omega arith
lower_rule d (Prod.meth_call a) = λ w. λ r. omega arith
lower_rule d Prod.drop_star = omega arith
lower_rule d Prod.drop_atom = omega arith
lower_rule d Prod.dropped_word = λ w. omega arith
lower_rule d Prod.dropped_fresh = λ d. omega arith
lower_rule d Prod.dropped_quote = λ a. omega arith
lower_rule d Prod.name_word = λ w. omega arith
lower_rule d Prod.name_fresh = λ d. omega arith
lower_rule d Prod.name_quote = λ a. omega arith
lower_rule d Prod.atom_word = λ w. omega arith
lower_rule d Prod.atom_ground = omega arith
lower_rule d Prod.atom_nil = omega arith
lower_rule d Prod.atom_open = λ p. omega arith
lower_rule d Prod.atom_brace = omega arith
lower_rule d Prod.atom_list = λ r. omega arith
lower_rule d Prod.atom_set = λ r. omega arith
lower_rule d (Prod.ground_true side) = omega arith
lower_rule d (Prod.ground_false side) = omega arith
lower_rule d (Prod.ground_int side) = λ n. omega arith
lower_rule d (Prod.ground_minus side) = λ n. omega arith
lower_rule d (Prod.ground_string side) = λ s. omega arith
lower_rule d (Prod.ground_uri side) = λ u. omega arith
lower_rule d (Prod.ground_bytes side) = λ s. omega arith
lower_rule d (Prod.group_close side p) = omega arith
lower_rule d (Prod.group_tuple side p) = λ r. omega arith
lower_rule d Prod.brace_empty = omega arith
lower_rule d Prod.brace_some = λ p. omega arith
lower_rule d (Prod.brace_close p) = omega arith
lower_rule d (Prod.brace_pair p) = λ b. omega arith
lower_rule d (Prod.pairs_end ps h) = omega arith
lower_rule d (Prod.pairs_more ps h) = λ p. λ b. omega arith
lower_rule d (Prod.row_none side c) = omega arith
lower_rule d (Prod.row_some side c) = λ p. omega arith
lower_rule d (Prod.row_end side c ps h) = omega arith
lower_rule d (Prod.row_more side c ps h) = λ p. omega arith
lower_rule d Prod.pone_new = λ a. omega arith
lower_rule d Prod.pone_if = λ a. omega arith
lower_rule d Prod.pone_contract = λ a. omega arith
lower_rule d Prod.pone_for = λ a. omega arith
lower_rule d Prod.pone_match = λ a. omega arith
lower_rule d Prod.pone_bundle = omega arith
lower_rule d Prod.pone_word = λ w. omega arith
lower_rule d Prod.pone_any = omega arith
lower_rule d Prod.pone_quote = λ a. omega arith
lower_rule d Prod.pone_alt = omega arith
lower_rule d Prod.palt = λ a. omega arith
lower_rule d (Prod.palt_end a) = omega arith
lower_rule d (Prod.palt_more a) = λ b. omega arith
lower_rule d Prod.pand = λ a. omega arith
lower_rule d (Prod.pand_end a) = omega arith
lower_rule d (Prod.pand_more a) = λ b. omega arith
lower_rule d Prod.pnot_tilde = λ a. omega arith
lower_rule d Prod.pnot_atom = omega arith
lower_rule d Prod.pname_any = omega arith
lower_rule d Prod.pname_word = λ w. omega arith
lower_rule d Prod.pname_quote = λ a. omega arith
lower_rule d Prod.patom_any = omega arith
lower_rule d (Prod.patom_type x) = omega arith
lower_rule d Prod.patom_same = omega arith
lower_rule d Prod.patom_word = λ w. omega arith
lower_rule d Prod.patom_ground = omega arith
lower_rule d Prod.patom_nil = omega arith
lower_rule d Prod.patom_open = λ p. omega arith
lower_rule d Prod.patom_brace = omega arith
lower_rule d Prod.patom_list = λ s. omega arith
lower_rule d Prod.patom_set = λ s. omega arith
lower_rule d Prod.same_word = λ w. omega arith
lower_rule d Prod.same_drop = λ w. omega arith
lower_rule d Prod.same_block = λ p. omega arith
lower_rule d (Prod.seq_none c) = omega arith
lower_rule d (Prod.seq_rest c) = λ r. omega arith
lower_rule d (Prod.seq_some c) = λ p. omega arith
lower_rule d (Prod.seq_end c ps h) = omega arith
lower_rule d (Prod.seq_end_rest c ps h) = λ r. omega arith
lower_rule d (Prod.seq_comma c ps h) = omega arith
lower_rule d (Prod.seq_more c ps h) = λ p. omega arith
lower_rule d (Prod.seq_next_rest c ps h) = λ r. omega arith
lower_rule d Prod.pbrace_empty = omega arith
lower_rule d Prod.pbrace_rest = λ r. omega arith
lower_rule d Prod.pbrace_some = λ p. omega arith
lower_rule d (Prod.pbrace_close p) = omega arith
lower_rule d (Prod.pbrace_pair p) = λ b. omega arith
lower_rule d (Prod.ppairs_end ps h) = omega arith
lower_rule d (Prod.ppairs_rest ps h) = λ r. omega arith
lower_rule d (Prod.ppairs_comma ps h) = omega arith
lower_rule d (Prod.ppairs_more ps h) = λ p. λ b. omega arith
lower_rule d (Prod.ppairs_next_rest ps h) = λ r. omega arith

pub tall : {d : Dialect} {r : Rule} {ts rest : List Terminal} {v : Spelt} → Reads d r ts v rest → (n : ℕ) → Lower n r → n ≤ v.height
tall of_done n h = h
tall (of_sign k) n h = tall k n h
tall (of_opens {h = b} k) n h = let t = tall k (max n (b + 1)) h in omega (arith, t)
tall (of_next e k) n h = tall k n h
tall (of_opens_next e k) n h = let t = tall k (max n 1) h in omega (arith, t)
tall (of_text {w = w} k) n h = tall k n (h w)
tall (of_integer {n = i} e k) n h = tall k n (h i)
tall (of_at {s = q} {a = a} p g k) n h = let t = tall k (max n (weight q a.height)) (h a) in omega (arith, t)
tall (of_under {a = a} p g k) n h = let t = tall k (max n (a.height + 1)) (h a) in omega (arith, t)
tall {d = d} (of_last {s = s} p g) n h = let t = tall g (floor s) (lower_rule d p) in omega (arith, t, h)

-- what is spelt, of no more than the free height, is read
pub reaches : {d : Dialect} {r : Rule} {ts rest : List Terminal} {v : Spelt} → Reads d r ts v rest → (s : Sort) → Clean s r → Ends s rest
    → (n : ℕ) → Lower n r → (free : ℕ) → v.height ≤ free → Runs d free r ts (read v rest)
reaches of_done s c l n w free h = runs_done
reaches (of_sign k) s c l n w free h = runs_sign (record { is = refl }) (reaches k s c l n w free h)
reaches (of_opens {h = b} k) s c l n w free h =
    let t = tall k (max n (b + 1)) w in
    runs_opens (record { is = refl; room = omega (arith, t, h) }) (reaches k s c l (max n (b + 1)) w free h)
reaches (of_next e k) s c l n w free h = runs_next e (reaches k s c l n w free h)
reaches (of_opens_next e k) s c l n w free h =
    let t = tall k (max n 1) w in
    runs_opens_next e (omega (arith, t, h)) (reaches k s c l (max n 1) w free h)
reaches (of_text {w = x} k) s c l n w free h = runs_text (record { is = refl }) (reaches k s (c x) l n (w x) free h)
reaches (of_integer {n = x} e k) s c l n w free h = runs_integer (record { is = refl; fits = e }) (reaches k s (c x) l n (w x) free h)
reaches {d = d} (of_at {s = q} {f = f} {ts = ts} {mid = mid} {a = a} p g k) s c l n w free h =
    let end = follows s q k (c.0 a) l in
    let t = tall k (max n (weight q a.height)) (w a) in
    let z = weighs p g in
    let e = picks p g end in
    let first = reaches g q (clean_rule d p) end (floor q) (lower_rule d p) free (omega (arith, t, h, z)) in
    runs_at (subst (λ (x : Prod q). Runs d free (rule d x) ts (read a mid)) (sym e) first) (reaches k s (c.1 a) l (max n (weight q a.height)) (w a) free h)
reaches {d = d} (of_under {s = q} {f = f} {ts = ts} {mid = mid} {a = a} p g k) s c l n w free h =
    let end = follows s q k (c.0 a) l in
    let t = tall k (max n (a.height + 1)) (w a) in
    let e = picks p g end in
    let first = reaches g q (clean_rule d p) end (floor q) (lower_rule d p) (free - 1) (omega (arith, t, h)) in
    runs_under (subst (λ (x : Prod q). Runs d (free - 1) (rule d x) ts (read a mid)) (sym e) first) (reaches k s (c.1 a) l (max n (a.height + 1)) (w a) free h)
reaches {d = d} (of_last {s = q} {ts = ts} {rest = rest} {v = v} p g) s c l n w free h =
    let end : Ends q rest = (omega (arith, l.0, c.0), omega (arith, l.1, c.1)) in
    let e = picks p g end in
    let first = reaches g q (clean_rule d p) end (floor q) (lower_rule d p) free h in
    runs_last (subst (λ (x : Prod q). Runs d free (rule d x) ts (read v rest)) (sym e) first)
