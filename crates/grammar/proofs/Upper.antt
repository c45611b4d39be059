-- Where the constituents are within a bound on the height, so is the whole; what is read is within the free height.
use Rattle.std.proofs.Common.{ℕ, ◌-◌, ◌<◌, ◌≤◌, List, arith}
use Rattle.std.specs.Prelude.{⊤}
use Rattle.grammar.specs.declared.dialect.Dialect.{Dialect}
use Rattle.grammar.specs.declared.dialect.Dialect.TheVariants.{Tutorial}
use Rattle.grammar.specs.Choice.{choose}
use Rattle.grammar.specs.Descent.{Outcome, read, fault, Runs, runs_done, runs_sign, no_sign, runs_opens, no_opens, runs_next, no_next, runs_opens_next, no_opens_next, runs_text, no_text, runs_integer, no_integer, runs_at, no_at, runs_under, no_under, runs_last, no_memory}
use Rattle.grammar.specs.Grammar.{rule}
use Rattle.grammar.specs.Productions.{Prod}
use Rattle.grammar.specs.Rules.{Sort, Rule, done, sign, opens, next, opens_next, holds, integer, at, under, last}
use Rattle.grammar.specs.Terminals.{Terminal}
use Rattle.grammar.specs.Values.{Spelt, processes, patterns}
use Rattle.grammar.proofs.Complete.{floor}

-- where the constituents, and the operand to the left of each form, are within n, so is the value
abbrev pub Upper : ℕ → Rule → Type 0
Upper n (done v) = v.height ≤ n
Upper n (sign m r) = Upper n r
Upper n (opens m h r) = h < n → Upper n r
Upper n (next test r) = Upper n r
Upper n (opens_next test r) = 0 < n → Upper n r
Upper n (holds k f) = (w : List ℕ) → Upper n (f w)
Upper n (integer most f) = (i : ℕ) → Upper n (f i)
Upper n (at s f) = (floor s ≤ n) × ((a : Spelt) → a.height ≤ n → Upper n (f a))
Upper n (under s f) = (floor s < n) × ((a : Spelt) → a.height < n → Upper n (f a))
Upper n (last s) = floor s ≤ n

pub upper_rule : (d : Dialect) {s : Sort} (p : Prod s) (n : ℕ) → floor s ≤ n → Upper n (rule d p)
upper_rule d (Prod.par processes) room low = (omega (arith, low), λ a0 h0. omega (arith, low, h0))
upper_rule d (Prod.par patterns) room low = (omega (arith, low), λ a0 h0. omega (arith, low, h0))
upper_rule d (Prod.par_end side ps h) room low = omega (arith, low)
upper_rule d (Prod.par_more processes ps h) room low = (omega (arith, low), λ a0 h0. omega (arith, low, h0))
upper_rule d (Prod.par_more patterns ps h) room low = (omega (arith, low), λ a0 h0. omega (arith, low, h0))
upper_rule d Prod.one_new room low = omega (arith, low)
upper_rule d Prod.one_if room low = omega (arith, low)
upper_rule d Prod.one_contract room low = omega (arith, low)
upper_rule d Prod.one_two room low = omega (arith, low)
upper_rule d Prod.new_form room low = λ r0. omega (arith, low, r0)
upper_rule d (Prod.decl ds) room low = λ w0. omega (arith, low)
upper_rule d (Prod.decl_plain ds w) room low = omega (arith, low)
upper_rule d (Prod.decl_uri ds w) room low = λ w0. omega (arith, low)
upper_rule d (Prod.decl_more ds) room low = omega (arith, low)
upper_rule d (Prod.decl_body ds) room low = (omega (arith, low), λ a0 h0. omega (arith, low, h0))
upper_rule d Prod.if_form room low = λ r0. (omega (arith, low, r0), λ a1 h1. (omega (arith, low, r0, h1), λ a2 h2. omega (arith, low, r0, h1, h2)))
upper_rule d (Prod.if_else e p) room low = (omega (arith, low), λ a0 h0. omega (arith, low, h0))
upper_rule d (Prod.if_only e p) room low = omega (arith, low)
upper_rule d Prod.contract_form room low = λ r0. (omega (arith, low, r0), λ a1 h1. (omega (arith, low, r0, h1), λ a2 h2. (omega (arith, low, r0, h1, h2), λ a3 h3. omega (arith, low, r0, h1, h2, h3))))
upper_rule d Prod.two_for room low = omega (arith, low)
upper_rule d Prod.two_match room low = omega (arith, low)
upper_rule d Prod.two_bundle room low = omega (arith, low)
upper_rule d Prod.two_word room low = λ w0. omega (arith, low)
upper_rule d Prod.two_fresh room low = λ w0. omega (arith, low)
upper_rule d Prod.two_quote room low = λ r0. (omega (arith, low, r0), λ a1 h1. omega (arith, low, r0, h1))
upper_rule d Prod.two_or room low = omega (arith, low)
upper_rule d (Prod.sent side n q) room low = λ r0. (omega (arith, low, r0), λ a1 h1. omega (arith, low, r0, h1))
upper_rule d (Prod.sent_tail side n q) room low = (omega (arith, low), λ a0 h0. omega (arith, low, h0))
upper_rule d (Prod.bundle side r) room low = λ r0. (omega (arith, low, r0), λ a1 h1. omega (arith, low, r0, h1))
upper_rule Tutorial Prod.for_form room low = λ r0. omega (arith, low, r0)
upper_rule d Prod.bind room low = (omega (arith, low), λ a0 h0. omega (arith, low, h0))
upper_rule d (Prod.arrow l k) room low = (omega (arith, low), λ a0 h0. omega (arith, low, h0))
upper_rule d (Prod.first_end k b) room low = omega (arith, low)
upper_rule d (Prod.first_more k b m) room low = omega (arith, low)
upper_rule d (Prod.binds k m left bs h) room low = (omega (arith, low), λ a0 h0. (omega (arith, low, h0), λ a1 h1. omega (arith, low, h0, h1)))
upper_rule d (Prod.binds_end k m left bs h) room low = omega (arith, low)
upper_rule d (Prod.binds_more k m left bs h) room low = omega (arith, low)
upper_rule d (Prod.body k bs h) room low = (omega (arith, low), λ a0 h0. omega (arith, low, h0))
upper_rule d Prod.left_none room low = omega (arith, low)
upper_rule d Prod.left_rest room low = (omega (arith, low), λ a0 h0. omega (arith, low, h0))
upper_rule d Prod.left_some room low = (omega (arith, low), λ a0 h0. omega (arith, low, h0))
upper_rule d (Prod.left_end ps h) room low = omega (arith, low)
upper_rule d (Prod.left_end_rest ps h) room low = (omega (arith, low), λ a0 h0. omega (arith, low, h0))
upper_rule d (Prod.left_comma ps h) room low = omega (arith, low)
upper_rule d (Prod.left_more ps h) room low = (omega (arith, low), λ a0 h0. omega (arith, low, h0))
upper_rule d (Prod.left_next_rest ps h) room low = (omega (arith, low), λ a0 h0. omega (arith, low, h0))
upper_rule d Prod.remainder_word room low = λ w0. omega (arith, low)
upper_rule d Prod.remainder_any room low = omega (arith, low)
upper_rule d Prod.match_form room low = λ r0. (omega (arith, low, r0), λ a1 h1. omega (arith, low, r0, h1))
upper_rule d (Prod.case t cs h) room low = (omega (arith, low), λ a0 h0. (omega (arith, low, h0), λ a1 h1. omega (arith, low, h0, h1)))
upper_rule d (Prod.case_end t cs h) room low = omega (arith, low)
upper_rule d (Prod.case_more t cs h) room low = omega (arith, low)
upper_rule d Prod.or room low = (omega (arith, low), λ a0 h0. omega (arith, low, h0))
upper_rule d (Prod.or_end a) room low = omega (arith, low)
upper_rule d (Prod.or_more a) room low = λ r0. (omega (arith, low, r0), λ a1 h1. omega (arith, low, r0, h1))
upper_rule d Prod.and room low = (omega (arith, low), λ a0 h0. omega (arith, low, h0))
upper_rule d (Prod.and_end a) room low = omega (arith, low)
upper_rule d (Prod.and_more a) room low = λ r0. (omega (arith, low, r0), λ a1 h1. omega (arith, low, r0, h1))
upper_rule d Prod.eq room low = (omega (arith, low), λ a0 h0. omega (arith, low, h0))
upper_rule d (Prod.eq_end a) room low = omega (arith, low)
upper_rule d (Prod.eq_equal a) room low = λ r0. (omega (arith, low, r0), λ a1 h1. omega (arith, low, r0, h1))
upper_rule d (Prod.eq_unequal a) room low = λ r0. (omega (arith, low, r0), λ a1 h1. omega (arith, low, r0, h1))
upper_rule d Prod.cmp room low = (omega (arith, low), λ a0 h0. omega (arith, low, h0))
upper_rule d (Prod.cmp_end a) room low = omega (arith, low)
upper_rule d (Prod.cmp_less a) room low = λ r0. (omega (arith, low, r0), λ a1 h1. omega (arith, low, r0, h1))
upper_rule d (Prod.cmp_less_equal a) room low = λ r0. (omega (arith, low, r0), λ a1 h1. omega (arith, low, r0, h1))
upper_rule d (Prod.cmp_greater a) room low = λ r0. (omega (arith, low, r0), λ a1 h1. omega (arith, low, r0, h1))
upper_rule d (Prod.cmp_greater_equal a) room low = λ r0. (omega (arith, low, r0), λ a1 h1. omega (arith, low, r0, h1))
upper_rule d Prod.sum room low = (omega (arith, low), λ a0 h0. omega (arith, low, h0))
upper_rule d (Prod.sum_end a) room low = omega (arith, low)
upper_rule d (Prod.sum_plus a) room low = λ r0. (omega (arith, low, r0), λ a1 h1. omega (arith, low, r0, h1))
upper_rule d (Prod.sum_minus a) room low = λ r0. (omega (arith, low, r0), λ a1 h1. omega (arith, low, r0, h1))
upper_rule d (Prod.sum_append a) room low = λ r0. (omega (arith, low, r0), λ a1 h1. omega (arith, low, r0, h1))
upper_rule d (Prod.sum_take_out a) room low = λ r0. (omega (arith, low, r0), λ a1 h1. omega (arith, low, r0, h1))
upper_rule d Prod.mul room low = (omega (arith, low), λ a0 h0. omega (arith, low, h0))
upper_rule d (Prod.mul_end a) room low = omega (arith, low)
upper_rule d (Prod.mul_times a) room low = λ r0. (omega (arith, low, r0), λ a1 h1. omega (arith, low, r0, h1))
upper_rule d (Prod.mul_over a) room low = λ r0. (omega (arith, low, r0), λ a1 h1. omega (arith, low, r0, h1))
upper_rule d (Prod.mul_modulo a) room low = λ r0. (omega (arith, low, r0), λ a1 h1. omega (arith, low, r0, h1))
upper_rule d Prod.pre_not room low = λ r0. (omega (arith, low, r0), λ a1 h1. omega (arith, low, r0, h1))
upper_rule d Prod.pre_minus room low = λ r0. (omega (arith, low, r0), λ a1 h1. omega (arith, low, r0, h1))
upper_rule d Prod.pre_meth room low = omega (arith, low)
upper_rule d Prod.meth room low = (omega (arith, low), λ a0 h0. omega (arith, low, h0))
upper_rule d (Prod.meth_end a) room low = omega (arith, low)
upper_rule d (Prod.meth_call a) room low = λ r0. λ w1. (omega (arith, low, r0), λ a2 h2. omega (arith, low, r0, h2))
upper_rule d Prod.drop_star room low = omega (arith, low)
upper_rule d Prod.drop_atom room low = omega (arith, low)
upper_rule d Prod.dropped_word room low = λ w0. omega (arith, low)
upper_rule d Prod.dropped_fresh room low = λ w0. omega (arith, low)
upper_rule d Prod.dropped_quote room low = λ r0. (omega (arith, low, r0), λ a1 h1. omega (arith, low, r0, h1))
upper_rule d Prod.name_word room low = λ w0. omega (arith, low)
upper_rule d Prod.name_fresh room low = λ w0. omega (arith, low)
upper_rule d Prod.name_quote room low = (omega (arith, low), λ a0 h0. omega (arith, low, h0))
upper_rule d Prod.atom_word room low = λ w0. omega (arith, low)
upper_rule d Prod.atom_ground room low = omega (arith, low)
upper_rule d Prod.atom_nil room low = omega (arith, low)
upper_rule d Prod.atom_open room low = λ r0. (omega (arith, low, r0), λ a1 h1. omega (arith, low, r0, h1))
upper_rule d Prod.atom_brace room low = λ r0. omega (arith, low, r0)
upper_rule d Prod.atom_list room low = λ r0. (omega (arith, low, r0), λ a1 h1. omega (arith, low, r0, h1))
upper_rule d Prod.atom_set room low = λ r0. (omega (arith, low, r0), λ a1 h1. omega (arith, low, r0, h1))
upper_rule d (Prod.ground_true side) room low = omega (arith, low)
upper_rule d (Prod.ground_false side) room low = omega (arith, low)
upper_rule d (Prod.ground_int side) room low = λ w0. omega (arith, low)
upper_rule d (Prod.ground_minus side) room low = λ w0. omega (arith, low)
upper_rule d (Prod.ground_string side) room low = λ w0. omega (arith, low)
upper_rule d (Prod.ground_uri side) room low = λ w0. omega (arith, low)
upper_rule d (Prod.ground_bytes side) room low = λ w0. omega (arith, low)
upper_rule d (Prod.group_close side p) room low = omega (arith, low)
upper_rule d (Prod.group_tuple side p) room low = (omega (arith, low), λ a0 h0. omega (arith, low, h0))
upper_rule d Prod.brace_empty room low = omega (arith, low)
upper_rule d Prod.brace_some room low = (omega (arith, low), λ a0 h0. omega (arith, low, h0))
upper_rule d (Prod.brace_close p) room low = omega (arith, low)
upper_rule d (Prod.brace_pair p) room low = (omega (arith, low), λ a0 h0. omega (arith, low, h0))
upper_rule d (Prod.pairs_end ps h) room low = omega (arith, low)
upper_rule d (Prod.pairs_more ps h) room low = (omega (arith, low), λ a0 h0. (omega (arith, low, h0), λ a1 h1. omega (arith, low, h0, h1)))
upper_rule d (Prod.row_none side c) room low = omega (arith, low)
upper_rule d (Prod.row_some side c) room low = (omega (arith, low), λ a0 h0. omega (arith, low, h0))
upper_rule d (Prod.row_end side c ps h) room low = omega (arith, low)
upper_rule d (Prod.row_more side c ps h) room low = (omega (arith, low), λ a0 h0. omega (arith, low, h0))
upper_rule d Prod.pone_new room low = (omega (arith, low), λ a0 h0. omega (arith, low, h0))
upper_rule d Prod.pone_if room low = (omega (arith, low), λ a0 h0. omega (arith, low, h0))
upper_rule d Prod.pone_contract room low = (omega (arith, low), λ a0 h0. omega (arith, low, h0))
upper_rule d Prod.pone_for room low = (omega (arith, low), λ a0 h0. omega (arith, low, h0))
upper_rule d Prod.pone_match room low = (omega (arith, low), λ a0 h0. omega (arith, low, h0))
upper_rule d Prod.pone_bundle room low = omega (arith, low)
upper_rule d Prod.pone_word room low = λ w0. omega (arith, low)
upper_rule d Prod.pone_any room low = omega (arith, low)
upper_rule d Prod.pone_quote room low = λ r0. (omega (arith, low, r0), λ a1 h1. omega (arith, low, r0, h1))
upper_rule d Prod.pone_alt room low = omega (arith, low)
upper_rule d Prod.palt room low = (omega (arith, low), λ a0 h0. omega (arith, low, h0))
upper_rule d (Prod.palt_end a) room low = omega (arith, low)
upper_rule d (Prod.palt_more a) room low = λ r0. (omega (arith, low, r0), λ a1 h1. omega (arith, low, r0, h1))
upper_rule d Prod.pand room low = (omega (arith, low), λ a0 h0. omega (arith, low, h0))
upper_rule d (Prod.pand_end a) room low = omega (arith, low)
upper_rule d (Prod.pand_more a) room low = λ r0. (omega (arith, low, r0), λ a1 h1. omega (arith, low, r0, h1))
upper_rule d Prod.pnot_tilde room low = λ r0. (omega (arith, low, r0), λ a1 h1. omega (arith, low, r0, h1))
upper_rule d Prod.pnot_atom room low = omega (arith, low)
upper_rule d Prod.pname_any room low = omega (arith, low)
upper_rule d Prod.pname_word room low = λ w0. omega (arith, low)
upper_rule d Prod.pname_quote room low = (omega (arith, low), λ a0 h0. omega (arith, low, h0))
upper_rule d Prod.patom_any room low = omega (arith, low)
upper_rule d (Prod.patom_type x) room low = omega (arith, low)
upper_rule d Prod.patom_same room low = λ r0. omega (arith, low, r0)
upper_rule d Prod.patom_word room low = λ w0. omega (arith, low)
upper_rule d Prod.patom_ground room low = omega (arith, low)
upper_rule d Prod.patom_nil room low = omega (arith, low)
upper_rule d Prod.patom_open room low = λ r0. (omega (arith, low, r0), λ a1 h1. omega (arith, low, r0, h1))
upper_rule d Prod.patom_brace room low = λ r0. omega (arith, low, r0)
upper_rule d Prod.patom_list room low = λ r0. (omega (arith, low, r0), λ a1 h1. omega (arith, low, r0, h1))
upper_rule d Prod.patom_set room low = λ r0. (omega (arith, low, r0), λ a1 h1. omega (arith, low, r0, h1))
upper_rule d Prod.same_word room low = λ w0. omega (arith, low)
upper_rule d Prod.same_drop room low = λ w0. omega (arith, low)
upper_rule d Prod.same_block room low = (omega (arith, low), λ a0 h0. omega (arith, low, h0))
upper_rule d (Prod.seq_none c) room low = omega (arith, low)
upper_rule d (Prod.seq_rest c) room low = (omega (arith, low), λ a0 h0. omega (arith, low, h0))
upper_rule d (Prod.seq_some c) room low = (omega (arith, low), λ a0 h0. omega (arith, low, h0))
upper_rule d (Prod.seq_end c ps h) room low = omega (arith, low)
upper_rule d (Prod.seq_end_rest c ps h) room low = (omega (arith, low), λ a0 h0. omega (arith, low, h0))
upper_rule d (Prod.seq_comma c ps h) room low = omega (arith, low)
upper_rule d (Prod.seq_more c ps h) room low = (omega (arith, low), λ a0 h0. omega (arith, low, h0))
upper_rule d (Prod.seq_next_rest c ps h) room low = (omega (arith, low), λ a0 h0. omega (arith, low, h0))
upper_rule d Prod.pbrace_empty room low = omega (arith, low)
upper_rule d Prod.pbrace_rest room low = (omega (arith, low), λ a0 h0. omega (arith, low, h0))
upper_rule d Prod.pbrace_some room low = (omega (arith, low), λ a0 h0. omega (arith, low, h0))
upper_rule d (Prod.pbrace_close p) room low = omega (arith, low)
upper_rule d (Prod.pbrace_pair p) room low = (omega (arith, low), λ a0 h0. omega (arith, low, h0))
upper_rule d (Prod.ppairs_end ps h) room low = omega (arith, low)
upper_rule d (Prod.ppairs_rest ps h) room low = (omega (arith, low), λ a0 h0. omega (arith, low, h0))
upper_rule d (Prod.ppairs_comma ps h) room low = omega (arith, low)
upper_rule d (Prod.ppairs_more ps h) room low = (omega (arith, low), λ a0 h0. (omega (arith, low, h0), λ a1 h1. omega (arith, low, h0, h1)))
upper_rule d (Prod.ppairs_next_rest ps h) room low = (omega (arith, low), λ a0 h0. omega (arith, low, h0))

-- what is read is within this height
abbrev pub IsWithin : ℕ → Outcome → Type 0
IsWithin n (read v us) = v.height ≤ n
IsWithin n (fault e us) = ⊤

pub high : {d : Dialect} {free : ℕ} {r : Rule} {ts : List Terminal} {out : Outcome} → Runs d free r ts out → Upper free r → IsWithin free out
high runs_done u = u
high (runs_sign t k) u = high k u
high (no_sign t) u = tt
high (runs_opens t k) u = high k (u t.room)
high (no_opens t) u = tt
high (runs_next t k) u = high k u
high (no_next t) u = tt
high (runs_opens_next t z k) u = high k (u z)
high (no_opens_next t) u = tt
high (runs_text {w = w} t k) u = high k (u w)
high (no_text t) u = tt
high (runs_integer {n = i} t k) u = high k (u i)
high (no_integer t) u = tt
high {d = d} {free = free} (runs_at {s = s} {ts = ts} {a = a} g k) u = high k (u.1 a (high g (upper_rule d (choose s ts) free u.0)))
high (no_at g) u = tt
high {d = d} {free = free} (runs_under {s = s} {ts = ts} {a = a} g k) u =
    let z = u.0 in
    let l : floor s ≤ free - 1 = omega (arith, z) in
    let b : a.height ≤ free - 1 = high g (upper_rule d (choose s ts) (free - 1) l) in
    high k (u.1 a (omega (arith, z, b)))
high (no_under g) u = tt
high {d = d} {free = free} (runs_last {s = s} {ts = ts} g) u = high g (upper_rule d (choose s ts) free u)
high no_memory u = tt
