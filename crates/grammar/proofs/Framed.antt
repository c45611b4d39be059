-- What was read stays read before another rest.
use Rattle.std.proofs.Common.{◌≡◌, ℕ, ◌≤◌, List, [], ◌∷◌, ◌++◌, Bool, true, sym, refl, ap, ◌∙◌, subst, append_assoc, arith}
use Rattle.std.specs.Prelude.{⊤}
use Rattle.grammar.specs.declared.dialect.Dialect.{Dialect}
use Rattle.grammar.specs.Grammar.{rule}
use Rattle.grammar.specs.Productions.{Prod}
use Rattle.grammar.specs.Rules.{Sort, Rule, done, sign, opens, next, opens_next, holds, integer, at, under, last}
use Rattle.grammar.specs.Spells.{Reads, of_done, of_sign, of_opens, of_next, of_opens_next, of_text, of_integer, of_at, of_under, of_last}
use Rattle.grammar.specs.Terminals.{Terminal, text, number, mark}
use Rattle.grammar.specs.Values.{Spelt}
use Rattle.grammar.proofs.Begins.{Leads, leads}

-- where the next terminal is tested, it is read
abbrev pub Firm : Rule → Type 0
Firm (done v) = ⊤
Firm (sign m r) = Firm r
Firm (opens m h r) = Firm r
Firm (next test r) = Leads 0 8 r × Firm r
Firm (opens_next test r) = Leads 0 8 r × Firm r
Firm (holds k f) = (w : List ℕ) → Firm (f w)
Firm (integer most f) = (i : ℕ) → Firm (f i)
Firm (at s f) = (a : Spelt) → Firm (f a)
Firm (under s f) = (a : Spelt) → Firm (f a)
Firm (last s) = ⊤

firm_rule : (d : Dialect) {s : Sort} (p : Prod s) → Firm (rule d p)
firm_rule d (Prod.par side) = λ x. tt
firm_rule d (Prod.par_end side ps h) = tt
firm_rule d (Prod.par_more side ps h) = λ x. tt
firm_rule d Prod.one_new = tt
firm_rule d Prod.one_if = tt
firm_rule d Prod.one_contract = tt
firm_rule d Prod.one_two = tt
firm_rule d Prod.new_form = tt
firm_rule d (Prod.decl ds) = λ x. tt
firm_rule d (Prod.decl_plain ds w) = tt
firm_rule d (Prod.decl_uri ds w) = λ x. tt
firm_rule d (Prod.decl_more ds) = tt
firm_rule d (Prod.decl_body ds) = λ x. tt
firm_rule d Prod.if_form = λ x. λ x. tt
firm_rule d (Prod.if_else e p) = λ x. tt
firm_rule d (Prod.if_only e p) = tt
firm_rule d Prod.contract_form = λ x. λ x. λ x. tt
firm_rule d Prod.two_for = tt
firm_rule d Prod.two_match = tt
firm_rule d Prod.two_bundle = tt
firm_rule d Prod.two_word = λ x. tt
firm_rule d Prod.two_fresh = λ x. tt
firm_rule d Prod.two_quote = λ x. tt
firm_rule d Prod.two_or = tt
firm_rule d (Prod.sent side n q) = λ x. tt
firm_rule d (Prod.sent_tail side n q) = λ x. tt
firm_rule d (Prod.bundle side r) = λ x. tt
firm_rule d Prod.for_form = tt
firm_rule d Prod.bind = λ x. tt
firm_rule d (Prod.arrow l k) = λ x. tt
firm_rule d (Prod.first_end k b) = tt
firm_rule d (Prod.first_more k b m) = tt
firm_rule d (Prod.binds k m left bs h) = λ x. λ x. tt
firm_rule d (Prod.binds_end k m left bs h) = tt
firm_rule d (Prod.binds_more k m left bs h) = tt
firm_rule d (Prod.body k bs h) = λ x. tt
firm_rule d Prod.left_none = tt
firm_rule d Prod.left_rest = λ x. tt
firm_rule d Prod.left_some = λ x. tt
firm_rule d (Prod.left_end ps h) = tt
firm_rule d (Prod.left_end_rest ps h) = λ x. tt
firm_rule d (Prod.left_comma ps h) = tt
firm_rule d (Prod.left_more ps h) = λ x. tt
firm_rule d (Prod.left_next_rest ps h) = λ x. tt
firm_rule d Prod.remainder_word = λ x. tt
firm_rule d Prod.remainder_any = tt
firm_rule d Prod.match_form = λ x. tt
firm_rule d (Prod.case t cs h) = ((omega arith, omega arith), λ x. λ x. tt)
firm_rule d (Prod.case_end t cs h) = tt
firm_rule d (Prod.case_more t cs h) = tt
firm_rule d Prod.or = λ x. tt
firm_rule d (Prod.or_end a) = tt
firm_rule d (Prod.or_more a) = λ x. tt
firm_rule d Prod.and = λ x. tt
firm_rule d (Prod.and_end a) = tt
firm_rule d (Prod.and_more a) = λ x. tt
firm_rule d Prod.eq = λ x. tt
firm_rule d (Prod.eq_end a) = tt
firm_rule d (Prod.eq_equal a) = λ x. tt
firm_rule d (Prod.eq_unequal a) = λ x. tt
firm_rule d Prod.cmp = λ x. tt
firm_rule d (Prod.cmp_end a) = tt
firm_rule d (Prod.cmp_less a) = λ x. tt
firm_rule d (Prod.cmp_less_equal a) = λ x. tt
firm_rule d (Prod.cmp_greater a) = λ x. tt
firm_rule d (Prod.cmp_greater_equal a) = λ x. tt
firm_rule d Prod.sum = λ x. tt
firm_rule d (Prod.sum_end a) = tt
firm_rule d (Prod.sum_plus a) = λ x. tt
firm_rule d (Prod.sum_minus a) = λ x. tt
firm_rule d (Prod.sum_append a) = λ x. tt
firm_rule d (Prod.sum_take_out a) = λ x. tt
firm_rule d Prod.mul = λ x. tt
firm_rule d (Prod.mul_end a) = tt
firm_rule d (Prod.mul_times a) = λ x. tt
firm_rule d (Prod.mul_over a) = λ x. tt
firm_rule d (Prod.mul_modulo a) = λ x. tt
firm_rule d Prod.pre_not = λ x. tt
firm_rule d Prod.pre_minus = ((omega arith, omega arith), λ x. tt)
firm_rule d Prod.pre_meth = tt
firm_rule d Prod.meth = λ x. tt
firm_rule d (Prod.meth_end a) = tt
firm_rule d (Prod.meth_call a) = λ x. λ x. tt
firm_rule d Prod.drop_star = tt
firm_rule d Prod.drop_atom = tt
firm_rule d Prod.dropped_word = λ x. tt
firm_rule d Prod.dropped_fresh = λ x. tt
firm_rule d Prod.dropped_quote = λ x. tt
firm_rule d Prod.name_word = λ x. tt
firm_rule d Prod.name_fresh = λ x. tt
firm_rule d Prod.name_quote = λ x. tt
firm_rule d Prod.atom_word = λ x. tt
firm_rule d Prod.atom_ground = tt
firm_rule d Prod.atom_nil = tt
firm_rule d Prod.atom_open = λ x. tt
firm_rule d Prod.atom_brace = tt
firm_rule d Prod.atom_list = λ x. tt
firm_rule d Prod.atom_set = λ x. tt
firm_rule d (Prod.ground_true side) = tt
firm_rule d (Prod.ground_false side) = tt
firm_rule d (Prod.ground_int side) = λ x. tt
firm_rule d (Prod.ground_minus side) = λ x. tt
firm_rule d (Prod.ground_string side) = λ x. tt
firm_rule d (Prod.ground_uri side) = λ x. tt
firm_rule d (Prod.ground_bytes side) = λ x. tt
firm_rule d (Prod.group_close side p) = tt
firm_rule d (Prod.group_tuple side p) = λ x. tt
firm_rule d Prod.brace_empty = tt
firm_rule d Prod.brace_some = λ x. tt
firm_rule d (Prod.brace_close p) = tt
firm_rule d (Prod.brace_pair p) = λ x. tt
firm_rule d (Prod.pairs_end ps h) = tt
firm_rule d (Prod.pairs_more ps h) = λ x. λ x. tt
firm_rule d (Prod.row_none side c) = tt
firm_rule d (Prod.row_some side c) = λ x. tt
firm_rule d (Prod.row_end side c ps h) = tt
firm_rule d (Prod.row_more side c ps h) = λ x. tt
firm_rule d Prod.pone_new = λ x. tt
firm_rule d Prod.pone_if = λ x. tt
firm_rule d Prod.pone_contract = λ x. tt
firm_rule d Prod.pone_for = λ x. tt
firm_rule d Prod.pone_match = λ x. tt
firm_rule d Prod.pone_bundle = tt
firm_rule d Prod.pone_word = λ x. tt
firm_rule d Prod.pone_any = tt
firm_rule d Prod.pone_quote = λ x. tt
firm_rule d Prod.pone_alt = tt
firm_rule d Prod.palt = λ x. tt
firm_rule d (Prod.palt_end a) = tt
firm_rule d (Prod.palt_more a) = λ x. tt
firm_rule d Prod.pand = λ x. tt
firm_rule d (Prod.pand_end a) = tt
firm_rule d (Prod.pand_more a) = λ x. tt
firm_rule d Prod.pnot_tilde = λ x. tt
firm_rule d Prod.pnot_atom = tt
firm_rule d Prod.pname_any = tt
firm_rule d Prod.pname_word = λ x. tt
firm_rule d Prod.pname_quote = λ x. tt
firm_rule d Prod.patom_any = tt
firm_rule d (Prod.patom_type x) = tt
firm_rule d Prod.patom_same = tt
firm_rule d Prod.patom_word = λ x. tt
firm_rule d Prod.patom_ground = tt
firm_rule d Prod.patom_nil = tt
firm_rule d Prod.patom_open = λ x. tt
firm_rule d Prod.patom_brace = tt
firm_rule d Prod.patom_list = λ x. tt
firm_rule d Prod.patom_set = λ x. tt
firm_rule d Prod.same_word = λ x. tt
firm_rule d Prod.same_drop = λ x. tt
firm_rule d Prod.same_block = λ x. tt
firm_rule d (Prod.seq_none c) = tt
firm_rule d (Prod.seq_rest c) = λ x. tt
firm_rule d (Prod.seq_some c) = λ x. tt
firm_rule d (Prod.seq_end c ps h) = tt
firm_rule d (Prod.seq_end_rest c ps h) = λ x. tt
firm_rule d (Prod.seq_comma c ps h) = tt
firm_rule d (Prod.seq_more c ps h) = λ x. tt
firm_rule d (Prod.seq_next_rest c ps h) = λ x. tt
firm_rule d Prod.pbrace_empty = tt
firm_rule d Prod.pbrace_rest = λ x. tt
firm_rule d Prod.pbrace_some = λ x. tt
firm_rule d (Prod.pbrace_close p) = tt
firm_rule d (Prod.pbrace_pair p) = λ x. tt
firm_rule d (Prod.ppairs_end ps h) = tt
firm_rule d (Prod.ppairs_rest ps h) = λ x. tt
firm_rule d (Prod.ppairs_comma ps h) = tt
firm_rule d (Prod.ppairs_more ps h) = λ x. λ x. tt
firm_rule d (Prod.ppairs_next_rest ps h) = λ x. tt

-- what was read, with the terminals that it was read from
pub record Framed (d : Dialect) (r : Rule) (ts : List Terminal) (v : Spelt) (rest : List Terminal) : Type 0 where
  pub pre : List Terminal
  pub is : ts ≡ pre ++ rest
  pub moves : (zs : List Terminal) → Reads d r (pre ++ zs) v zs

-- behind a test
tested : (d : Dialect) (test : Terminal → Bool) (r : Rule) (t : Terminal) (ts rest : List Terminal) (v : Spelt) → test t ≡ true → Leads 0 8 r
    → (pre : List Terminal) → t ∷ ts ≡ pre ++ rest → ((zs : List Terminal) → Reads d r (pre ++ zs) v zs)
    → Framed d (next test r) (t ∷ ts) v rest × Framed d (opens_next test r) (t ∷ ts) v rest
tested d test r t ts rest v e l [] g f = let b = leads (f []) 0 8 l in absurd (let c : 9 ≤ 8 = b.1 in omega (arith, c))
tested d test r t ts rest v e l (x ∷ pre) g f =
    let y : t ≡ x = cc (g) in
    let z : test x ≡ true = ap test (sym y) ∙ e in
    (record { pre = x ∷ pre; is = g; moves = λ zs. of_next z (f zs) }, record { pre = x ∷ pre; is = g; moves = λ zs. of_opens_next z (f zs) })

pub frames : {d : Dialect} {r : Rule} {ts rest : List Terminal} {v : Spelt} → Reads d r ts v rest → Firm r → Framed d r ts v rest
frames of_done h = record { pre = []; is = refl; moves = λ zs. of_done }
frames (of_sign {m = m} k) h = let l = frames k h in record { pre = mark m ∷ l.pre; is = ap (λ x. mark m ∷ x) l.is; moves = λ zs. of_sign (l.moves zs) }
frames (of_opens {m = m} k) h = let l = frames k h in record { pre = mark m ∷ l.pre; is = ap (λ x. mark m ∷ x) l.is; moves = λ zs. of_opens (l.moves zs) }
frames {d = d} (of_next {test = test} {r = r} {t = t} {ts = ts} {rest = rest} {v = v} e k) h = let l = frames k h.1 in (tested d test r t ts rest v e h.0 l.pre l.is l.moves).0
frames {d = d} (of_opens_next {test = test} {r = r} {t = t} {ts = ts} {rest = rest} {v = v} e k) h = let l = frames k h.1 in (tested d test r t ts rest v e h.0 l.pre l.is l.moves).1
frames (of_text {k = j} {w = w} k) h = let l = frames k (h w) in record { pre = text j w ∷ l.pre; is = ap (λ x. text j w ∷ x) l.is; moves = λ zs. of_text (l.moves zs) }
frames (of_integer {n = i} e k) h = let l = frames k (h i) in record { pre = number i ∷ l.pre; is = ap (λ x. number i ∷ x) l.is; moves = λ zs. of_integer e (l.moves zs) }
frames {d = d} (of_at {s = s} {f = f} {rest = rest} {a = a} {v = v} p g k) h = let l = frames g (firm_rule d p) in let m = frames k (h a) in record {
  pre = l.pre ++ m.pre;
  is = l.is ∙ (ap (λ x. l.pre ++ x) m.is ∙ sym (append_assoc l.pre m.pre rest));
  moves = λ zs. subst (λ (x : List Terminal). Reads d (at s f) x v zs) (sym (append_assoc l.pre m.pre zs)) (of_at p (l.moves (m.pre ++ zs)) (m.moves zs));
}
frames {d = d} (of_under {s = s} {f = f} {rest = rest} {a = a} {v = v} p g k) h = let l = frames g (firm_rule d p) in let m = frames k (h a) in record {
  pre = l.pre ++ m.pre;
  is = l.is ∙ (ap (λ x. l.pre ++ x) m.is ∙ sym (append_assoc l.pre m.pre rest));
  moves = λ zs. subst (λ (x : List Terminal). Reads d (under s f) x v zs) (sym (append_assoc l.pre m.pre zs)) (of_under p (l.moves (m.pre ++ zs)) (m.moves zs));
}
frames {d = d} (of_last p g) h = let l = frames g (firm_rule d p) in record { pre = l.pre; is = l.is; moves = λ zs. of_last p (l.moves zs) }

pub frame : {d : Dialect} {s : Sort} (p : Prod s) {ts rest : List Terminal} {v : Spelt} → Reads d (rule d p) ts v rest → Framed d (rule d p) ts v rest
frame {d = d} p k = frames k (firm_rule d p)
