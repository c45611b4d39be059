-- Operands begin no send, and no operand of a method call begins with a prefix.
use Rattle.std.proofs.Common.{◌≡◌, ℕ, List, [], ◌∷◌, Bool, true, false, nat_eq, ◌⊎◌, inl, inr, refl, ap}
use Rattle.std.specs.Prelude.{⊤, ◌&&◌}
use Rattle.calculus.specs.declared.plain.Simple.TheVariants as simples
use Rattle.grammar.specs.declared.dialect.Dialect.{Dialect}
use Rattle.grammar.specs.declared.mark.Mark.TheVariants as marks
use Rattle.grammar.specs.Choice.{choose, sees_bang, sees_send, sees_any_send, sees_prefix}
use Rattle.grammar.specs.Grammar.{rule}
use Rattle.grammar.specs.Productions.{Prod}
use Rattle.grammar.specs.Rules.{Sort, Rule, done, sign, opens, holds, integer, at, last}
use Rattle.grammar.specs.Spells.{Reads, of_done, of_sign, of_opens, of_next, of_opens_next, of_text, of_integer, of_at, of_under, of_last}
use Rattle.grammar.specs.Terminals.{Terminal, mark, code}
use Rattle.grammar.specs.Values.{Spelt, Side, processes, patterns}

-- the sorts of operands, and of what goes on with them
abbrev pub IsOperand : Sort → Type 0
IsOperand Sort.Or = ⊤
IsOperand Sort.And = ⊤
IsOperand Sort.Eq = ⊤
IsOperand Sort.Cmp = ⊤
IsOperand Sort.Sum = ⊤
IsOperand Sort.Mul = ⊤
IsOperand Sort.Pre = ⊤
IsOperand Sort.Meth = ⊤
IsOperand Sort.Drop = ⊤
IsOperand Sort.Atom = ⊤
IsOperand (Sort.Ground side) = ⊤
IsOperand Sort.PAlt = ⊤
IsOperand Sort.PAnd = ⊤
IsOperand Sort.PNot = ⊤
IsOperand Sort.PAtom = ⊤
IsOperand _ = ⊥

-- what goes on with an operand
abbrev pub IsTail : Sort → Type 0
IsTail (Sort.OrTail a) = ⊤
IsTail (Sort.AndTail a) = ⊤
IsTail (Sort.EqTail a) = ⊤
IsTail (Sort.CmpTail a) = ⊤
IsTail (Sort.SumTail a) = ⊤
IsTail (Sort.MulTail a) = ⊤
IsTail (Sort.MethTail a) = ⊤
IsTail (Sort.PAltTail a) = ⊤
IsTail (Sort.PAndTail a) = ⊤
IsTail _ = ⊥

-- a text of the rule, unless it is empty, begins with no mark of a send
abbrev Calm : Rule → Type 0
Calm (done v) = ⊤
Calm (sign m r) = sees_bang (mark m ∷ []) ≡ false
Calm (opens m h r) = sees_bang (mark m ∷ []) ≡ false
Calm (last s) = IsTail s
Calm _ = ⊥

calm_rule : (d : Dialect) {s : Sort} (p : Prod s) → IsTail s → Calm (rule d p)
calm_rule d (Prod.or_end a) h = tt
calm_rule d (Prod.or_more a) h = refl
calm_rule d (Prod.and_end a) h = tt
calm_rule d (Prod.and_more a) h = refl
calm_rule d (Prod.eq_end a) h = tt
calm_rule d (Prod.eq_equal a) h = refl
calm_rule d (Prod.eq_unequal a) h = refl
calm_rule d (Prod.cmp_end a) h = tt
calm_rule d (Prod.cmp_less a) h = refl
calm_rule d (Prod.cmp_less_equal a) h = refl
calm_rule d (Prod.cmp_greater a) h = refl
calm_rule d (Prod.cmp_greater_equal a) h = refl
calm_rule d (Prod.sum_end a) h = tt
calm_rule d (Prod.sum_plus a) h = refl
calm_rule d (Prod.sum_minus a) h = refl
calm_rule d (Prod.sum_append a) h = refl
calm_rule d (Prod.sum_take_out a) h = refl
calm_rule d (Prod.mul_end a) h = tt
calm_rule d (Prod.mul_times a) h = refl
calm_rule d (Prod.mul_over a) h = refl
calm_rule d (Prod.mul_modulo a) h = refl
calm_rule d (Prod.meth_end a) h = tt
calm_rule d (Prod.meth_call a) h = refl
calm_rule d (Prod.palt_end a) h = tt
calm_rule d (Prod.palt_more a) h = refl
calm_rule d (Prod.pand_end a) h = tt
calm_rule d (Prod.pand_more a) h = refl
calm_rule d _ h = absurd h

calm : {d : Dialect} {r : Rule} {ts rest : List Terminal} {v : Spelt} → Reads d r ts v rest → Calm r → sees_bang rest ≡ false → sees_bang ts ≡ false
calm of_done h b = b
calm (of_sign k) h b = h
calm (of_opens k) h b = h
calm (of_next e k) h b = absurd h
calm (of_opens_next e k) h b = absurd h
calm (of_text k) h b = absurd h
calm (of_integer e k) h b = absurd h
calm (of_at p g k) h b = absurd h
calm (of_under p g k) h b = absurd h
calm {d = d} (of_last p g) h b = calm g (calm_rule d p h) b

-- no send begins here
abbrev pub IsUnsent : List Terminal → Type 0
IsUnsent ts = (sees_send ts ≡ false) × (sees_any_send ts ≡ false)

-- a word or `_` that a text of the rule begins with stands before no mark of a send
abbrev Quiet : Rule → Type 0
Quiet (sign m r) = (nat_eq (code m) (code marks.Underscore) ≡ false) ⊎ Calm r
Quiet (opens m h r) = nat_eq (code m) (code marks.Underscore) ≡ false
Quiet (holds k f) = (w : List ℕ) → Calm (f w)
Quiet (integer n f) = ⊤
Quiet (at s f) = IsOperand s × ((a : Spelt) → Calm (f a))
Quiet (last s) = IsOperand s
Quiet _ = ⊥

quiet_rule : (d : Dialect) {s : Sort} (p : Prod s) → IsOperand s → Quiet (rule d p)
quiet_rule d Prod.or h = (tt, λ a. tt)
quiet_rule d Prod.and h = (tt, λ a. tt)
quiet_rule d Prod.eq h = (tt, λ a. tt)
quiet_rule d Prod.cmp h = (tt, λ a. tt)
quiet_rule d Prod.sum h = (tt, λ a. tt)
quiet_rule d Prod.mul h = (tt, λ a. tt)
quiet_rule d Prod.pre_not h = refl
quiet_rule d Prod.pre_minus h = inl refl
quiet_rule d Prod.pre_meth h = tt
quiet_rule d Prod.meth h = (tt, λ a. tt)
quiet_rule d Prod.drop_star h = inl refl
quiet_rule d Prod.drop_atom h = tt
quiet_rule d Prod.atom_word h = λ w. tt
quiet_rule d Prod.atom_ground h = tt
quiet_rule d Prod.atom_nil h = inl refl
quiet_rule d Prod.atom_open h = refl
quiet_rule d Prod.atom_brace h = refl
quiet_rule d Prod.atom_list h = refl
quiet_rule d Prod.atom_set h = refl
quiet_rule d (Prod.ground_true side) h = inl refl
quiet_rule d (Prod.ground_false side) h = inl refl
quiet_rule d (Prod.ground_int side) h = tt
quiet_rule d (Prod.ground_minus side) h = inl refl
quiet_rule d (Prod.ground_string side) h = λ w. tt
quiet_rule d (Prod.ground_uri side) h = λ w. tt
quiet_rule d (Prod.ground_bytes side) h = λ w. tt
quiet_rule d Prod.palt h = (tt, λ a. tt)
quiet_rule d Prod.pand h = (tt, λ a. tt)
quiet_rule d Prod.pnot_tilde h = refl
quiet_rule d Prod.pnot_atom h = tt
quiet_rule d Prod.patom_any h = inr tt
quiet_rule d (Prod.patom_type simples.Bool) h = inl refl
quiet_rule d (Prod.patom_type simples.Int) h = inl refl
quiet_rule d (Prod.patom_type simples.Str) h = inl refl
quiet_rule d (Prod.patom_type simples.Uri) h = inl refl
quiet_rule d (Prod.patom_type simples.Bytes) h = inl refl
quiet_rule d Prod.patom_same h = refl
quiet_rule d Prod.patom_word h = λ w. tt
quiet_rule d Prod.patom_ground h = tt
quiet_rule d Prod.patom_nil h = inl refl
quiet_rule d Prod.patom_open h = refl
quiet_rule d Prod.patom_brace h = refl
quiet_rule d Prod.patom_list h = refl
quiet_rule d Prod.patom_set h = refl
quiet_rule d _ h = absurd h

never : (b c : Bool) → c ≡ false → (b && c) ≡ false
never true c e = e
never false c e = refl

under_score : (b : Bool) → b ≡ false → (c : Bool) → (b && c) ≡ false
under_score b e c = ap (λ x. x && c) e

pub quiet : {d : Dialect} {r : Rule} {ts rest : List Terminal} {v : Spelt} → Reads d r ts v rest → Quiet r → sees_bang rest ≡ false → IsUnsent ts
quiet of_done h b = absurd h
quiet (of_sign {m = m} {ts = ts} k) (inl e) b = (refl, under_score _ e _)
quiet (of_sign {m = m} {ts = ts} k) (inr c) b = (refl, never _ _ (calm k c b))
quiet (of_opens k) h b = (refl, under_score _ h _)
quiet (of_next e k) h b = absurd h
quiet (of_opens_next e k) h b = absurd h
quiet (of_text {w = w} k) h b = (never _ _ (calm k (h w) b), refl)
quiet (of_integer e k) h b = (refl, refl)
quiet {d = d} (of_at {a = a} p g k) h b = quiet g (quiet_rule d p h.0) (calm k (h.1 a) b)
quiet (of_under p g k) h b = absurd h
quiet {d = d} (of_last p g) h b = quiet g (quiet_rule d p h) b

-- before no mark of a send, an operand begins no send
pub unsent : {d : Dialect} {s : Sort} (p : Prod s) {ts rest : List Terminal} {v : Spelt} → IsOperand s → Reads d (rule d p) ts v rest → sees_bang rest ≡ false → IsUnsent ts
unsent {d = d} p h k b = quiet k (quiet_rule d p h) b

-- a `-` that begins a ground value is a part of an Int
prefix_ground : {d : Dialect} {side : Side} (p : Prod (Sort.Ground side)) {ts rest : List Terminal} {v : Spelt} → Reads d (rule d p) ts v rest → sees_prefix ts ≡ false
prefix_ground (Prod.ground_true side) (of_sign k) = refl
prefix_ground (Prod.ground_false side) (of_sign k) = refl
prefix_ground (Prod.ground_int side) (of_integer e k) = refl
prefix_ground (Prod.ground_minus side) (of_sign (of_integer e k)) = refl
prefix_ground (Prod.ground_string side) (of_text k) = refl
prefix_ground (Prod.ground_uri side) (of_text k) = refl
prefix_ground (Prod.ground_bytes side) (of_text k) = refl

prefix_atom : {d : Dialect} (p : Prod Sort.Atom) {ts rest : List Terminal} {v : Spelt} → Reads d (rule d p) ts v rest → sees_prefix ts ≡ false
prefix_atom Prod.atom_word (of_text k) = refl
prefix_atom Prod.atom_ground (of_last p k) = prefix_ground p k
prefix_atom Prod.atom_nil (of_sign k) = refl
prefix_atom Prod.atom_open (of_opens k) = refl
prefix_atom Prod.atom_brace (of_opens k) = refl
prefix_atom Prod.atom_list (of_opens k) = refl
prefix_atom Prod.atom_set (of_opens k) = refl

prefix_drop : {d : Dialect} (p : Prod Sort.Drop) {ts rest : List Terminal} {v : Spelt} → Reads d (rule d p) ts v rest → sees_prefix ts ≡ false
prefix_drop Prod.drop_star (of_sign k) = refl
prefix_drop Prod.drop_atom (of_last p k) = prefix_atom p k

pub prefix_meth : {d : Dialect} (p : Prod Sort.Meth) {ts rest : List Terminal} {v : Spelt} → Reads d (rule d p) ts v rest → sees_prefix ts ≡ false
prefix_meth Prod.meth (of_at p g k) = prefix_drop p g

-- a ground value is neither another atom nor another atom of a pattern
pub atom_of_ground : {d : Dialect} (p : Prod (Sort.Ground processes)) {ts rest : List Terminal} {v : Spelt} → Reads d (rule d p) ts v rest → choose Sort.Atom ts ≡ Prod.atom_ground
atom_of_ground (Prod.ground_true processes) (of_sign k) = refl
atom_of_ground (Prod.ground_false processes) (of_sign k) = refl
atom_of_ground (Prod.ground_int processes) (of_integer e k) = refl
atom_of_ground (Prod.ground_minus processes) (of_sign k) = refl
atom_of_ground (Prod.ground_string processes) (of_text k) = refl
atom_of_ground (Prod.ground_uri processes) (of_text k) = refl
atom_of_ground (Prod.ground_bytes processes) (of_text k) = refl

pub patom_of_ground : {d : Dialect} (p : Prod (Sort.Ground patterns)) {ts rest : List Terminal} {v : Spelt} → Reads d (rule d p) ts v rest → choose Sort.PAtom ts ≡ Prod.patom_ground
patom_of_ground (Prod.ground_true patterns) (of_sign k) = refl
patom_of_ground (Prod.ground_false patterns) (of_sign k) = refl
patom_of_ground (Prod.ground_int patterns) (of_integer e k) = refl
patom_of_ground (Prod.ground_minus patterns) (of_sign k) = refl
patom_of_ground (Prod.ground_string patterns) (of_text k) = refl
patom_of_ground (Prod.ground_uri patterns) (of_text k) = refl
patom_of_ground (Prod.ground_bytes patterns) (of_text k) = refl
