-- Texts that begin with a terminal behind which a form is opened, but open none.
use Rattle.std.proofs.Common.{◌≡◌, ℕ, List, [], ◌∷◌, ◌++◌, Bool, true, false, cond, inl, inr, refl, arith}
use Rattle.std.specs.Prelude.{pos, neg_ℤ}
use Rattle.calculus.specs.Tree.{int}
use Rattle.calculus.specs.declared.plain.UnaryOp.TheVariants as unaries
use Rattle.tokens.specs.Token.{Notation, Token, word, integer as number_token}
use Rattle.grammar.specs.declared.dialect.Dialect.{Dialect}
use Rattle.grammar.specs.declared.fault.Fault.{Fault}
use Rattle.grammar.specs.declared.fault.Fault.TheVariants.{Syntax, TooDeep, NoMemory}
use Rattle.grammar.specs.declared.mark.Mark.{Mark}
use Rattle.grammar.specs.declared.mark.Mark.TheVariants as marks
use Rattle.grammar.specs.Descent.{fault, Runs, runs_opens, no_opens, runs_last, no_memory}
use Rattle.grammar.specs.Grammar.{rule, begins_operand}
use Rattle.grammar.specs.Productions.{Prod}
use Rattle.grammar.specs.Rules.{round, Sort, Rule, done, sign, opens, under, last}
use Rattle.grammar.specs.Spells.{Reads, of_done, of_sign, of_opens, of_text, of_integer, of_at, of_under, of_last}
use Rattle.grammar.specs.Terminals.{a_word, a_string, a_uri, a_fresh_name, a_byte_array, Terminal, text, number, mark, stranger, sees, terminals}
use Rattle.grammar.specs.Values.{Spelt, processes, leaf, opened, unary_of, send_of, fresh_of, drop_of, name_of, variable_of, bound_of, any_of, ground_of}
use Rattle.grammar.proofs.Finish.{Fin, finish}
use Rattle.grammar.proofs.Shapes.{Led, Named}
use Rattle.grammar.proofs.Tokens.{token_of}
use Rattle.grammar.proofs.Texts.{Grows}

-- a text of a sort is a text of each sort that is made of it alone
pre_of : {d : Dialect} (p : Prod Sort.Drop) {ts rest : List Terminal} {v : Spelt} → Reads d (rule d p) ts v rest → Reads d (rule d Prod.pre_meth) ts v rest
pre_of p {v = v} k = of_last Prod.meth (of_at p k (of_last (Prod.meth_end v) of_done))

or_of : {d : Dialect} (p : Prod Sort.Pre) {ts rest : List Terminal} {v : Spelt} → Reads d (rule d p) ts v rest → Reads d (rule d Prod.or) ts v rest
or_of p {v = v} k =
    of_at Prod.and (of_at Prod.eq (of_at Prod.cmp (of_at Prod.sum (of_at Prod.mul (of_at p k
    (of_last (Prod.mul_end v) of_done)) (of_last (Prod.sum_end v) of_done)) (of_last (Prod.cmp_end v) of_done)) (of_last (Prod.eq_end v) of_done)) (of_last (Prod.and_end v) of_done)) (of_last (Prod.or_end v) of_done)

pone_of : {d : Dialect} (p : Prod Sort.PAtom) {ts rest : List Terminal} {v : Spelt} → Reads d (rule d p) ts v rest → Reads d (last Sort.POne) ts v rest
pone_of p {v = v} k =
    of_last Prod.pone_alt (of_last Prod.palt (of_at Prod.pand (of_at Prod.pnot_atom (of_last p k) (of_last (Prod.pand_end v) of_done)) (of_last (Prod.palt_end v) of_done)))

-- a word
pub word_two : (n : Notation) (d : Dialect) (w : List ℕ) → Grows n d (last Sort.Two) 0 (text a_word w ∷ [])
word_two n d w = record {
  after = [];
  value = leaf (variable_of w);
  low = omega arith;
  reads = λ rest. of_last Prod.two_or (of_last Prod.or (or_of Prod.pre_meth (pre_of Prod.drop_atom (of_last Prod.atom_word (of_text of_done)))));
}

-- a mark that opens a form, where there is no room
opens_once : {d : Dialect} {m : Mark} {r : Rule} {ts us : List Terminal} {e : Fault} → Runs d 0 (opens m 0 r) ts (fault e us) → (e ≡ NoMemory → ⊥) → us ≡ ts
opens_once (runs_opens t k) w = absurd (let x = t.room in omega (arith, x))
opens_once (no_opens (inl n)) w = n.same
opens_once (no_opens (inr n)) w = n.same
opens_once no_memory w = absurd (w refl)

opens_fails : (d : Dialect) (m : Mark) (r : Rule) (zs : List Terminal) → (e : Fault) × (e ≡ NoMemory → ⊥) × Runs d 0 (opens m 0 r) zs (fault e zs)
opens_fails d m r zs = elim (sees m zs) as (λ b. sees m zs ≡ b → (e : Fault) × (e ≡ NoMemory → ⊥) × Runs d 0 (opens m 0 r) zs (fault e zs)) [
  | true ↦ λ y. (TooDeep, λ e. absurd (cc (e)), no_opens (inr (record { yes = y; room = omega arith; is = refl; same = refl })))
  | false ↦ λ y. (Syntax, λ e. absurd (cc (e)), no_opens (inl (record { no = y; is = refl; same = refl })))
] refl

sent_once : {d : Dialect} {ts us : List Terminal} {e : Fault} (a : Spelt) (b : Bool)
    → Runs d 0 (rule d (cond b (Prod.sent processes a true) (Prod.sent processes a false))) ts (fault e us) → (e ≡ NoMemory → ⊥) → us ≡ ts
sent_once a true k w = opens_once k w
sent_once a false k w = opens_once k w

sent_fails : (d : Dialect) (a : Spelt) (zs : List Terminal) (b : Bool)
    → (e : Fault) × (e ≡ NoMemory → ⊥) × Runs d 0 (rule d (cond b (Prod.sent processes a true) (Prod.sent processes a false))) zs (fault e zs)
sent_fails d a zs true = opens_fails d _ _ zs
sent_fails d a zs false = opens_fails d _ _ zs

last_once : {d : Dialect} {a : Spelt} {ts us : List Terminal} {e : Fault} → Runs d 0 (last (Sort.Sent processes a)) ts (fault e us) → (e ≡ NoMemory → ⊥) → us ≡ ts
last_once {a = a} (runs_last {ts = ts} k) w = sent_once a (sees marks.DoubleBang ts) k w
last_once no_memory w = absurd (w refl)

pub last_fails : (d : Dialect) (a : Spelt) (zs : List Terminal) → (e : Fault) × (e ≡ NoMemory → ⊥) × Runs d 0 (last (Sort.Sent processes a)) zs (fault e zs)
last_fails d a zs = let x = sent_fails d a zs (sees marks.DoubleBang zs) in (x.0, x.1, runs_last x.2)

-- a fresh name
pub name_two : (n : Notation) (d : Dialect) (w : List ℕ) → Named n d (λ x. last (Sort.Sent processes (leaf (fresh_of x)))) w
name_two n d w =
    let r : Rule = sign marks.Open (under (Sort.Row processes round) (λ r. done (opened (send_of processes false (fresh_of w) r.tree) r.height))) in
    let l = finish n d r (tt, λ a. tt) in record {
      more = record {
        after = token_of marks.Bang ∷ l.whole.tokens;
        value = l.whole.value;
        low = l.low 1 (omega arith, λ a h. omega (arith, h));
        reads = λ rest. of_text (of_last (Prod.sent processes (leaf (fresh_of w)) false) (of_opens (l.whole.reads rest)));
      };
      once = λ ts us e v k. last_once k v;
      fails = λ zs. last_fails d (leaf (fresh_of w)) zs;
    }

-- a word and `_` as patterns
pub word_pattern : (n : Notation) (d : Dialect) (w : List ℕ) → Grows n d (last Sort.POne) 0 (text a_word w ∷ [])
word_pattern n d w = record { after = []; value = leaf (bound_of w); low = omega arith; reads = λ rest. pone_of Prod.patom_word (of_text of_done) }

pub any_pattern : (n : Notation) (d : Dialect) → Grows n d (last Sort.POne) 0 (mark marks.Underscore ∷ [])
any_pattern n d = record { after = []; value = leaf any_of; low = omega arith; reads = λ rest. pone_of Prod.patom_any (of_sign of_done) }

-- `-` before an Int
minus_zero : {d : Dialect} (rest : List Terminal) → Reads d (rule d Prod.pre_meth) (mark marks.Minus ∷ number 0 ∷ rest) (leaf (ground_of processes (int (neg_ℤ (pos 0))))) rest
minus_zero rest = pre_of Prod.drop_atom (of_last Prod.atom_ground (of_last (Prod.ground_minus processes) (of_sign (of_integer (omega arith) of_done))))

pub minus_pre : (n : Notation) (d : Dialect) → Grows n d (last Sort.Pre) 0 (mark marks.Minus ∷ [])
minus_pre n d = record { after = number_token 0 ∷ []; value = leaf (ground_of processes (int (neg_ℤ (pos 0)))); low = omega arith; reads = λ rest. of_last Prod.pre_meth (minus_zero rest) }

-- a text of a Pre that begins with this terminal
record Operand (n : Notation) (d : Dialect) (t : Terminal) : Type 0 where
  prod : Prod Sort.Pre
  after : List Token
  value : Spelt
  reads : (rest : List Terminal) → Reads d (rule d prod) (t ∷ (terminals n after ++ rest)) value rest

-- one of an atom that is a form
form : (n : Notation) (d : Dialect) (t : Terminal) (r : Rule) (p : Prod Sort.Atom) → Fin r
    → ((ts rest : List Terminal) (v : Spelt) → Reads d r ts v rest → Reads d (rule d p) (t ∷ ts) v rest) → Operand n d t
form n d t r p h f = let l = finish n d r h in record {
  prod = Prod.pre_meth;
  after = l.whole.tokens;
  value = l.whole.value;
  reads = λ rest. pre_of Prod.drop_atom (of_last p (f (terminals n l.whole.tokens ++ rest) rest l.whole.value (l.whole.reads rest)));
}

-- one that is a leaf
single : (n : Notation) (d : Dialect) (t : Terminal) (v : Spelt) (p : Prod Sort.Atom) → ((rest : List Terminal) → Reads d (rule d p) (t ∷ rest) v rest) → Operand n d t
single n d t v p f = record { prod = Prod.pre_meth; after = []; value = v; reads = λ rest. pre_of Prod.drop_atom (of_last p (f rest)) }

operand : (n : Notation) (d : Dialect) (t : Terminal) → begins_operand t ≡ true → Operand n d t
operand n d (text a_word w) e = single n d _ _ Prod.atom_word (λ rest. of_text of_done)
operand n d (text a_string w) e = single n d _ _ Prod.atom_ground (λ rest. of_last (Prod.ground_string processes) (of_text of_done))
operand n d (text a_uri w) e = single n d _ _ Prod.atom_ground (λ rest. of_last (Prod.ground_uri processes) (of_text of_done))
operand n d (text a_fresh_name w) e = absurd (cc (e))
operand n d (text a_byte_array w) e = single n d _ _ Prod.atom_ground (λ rest. of_last (Prod.ground_bytes processes) (of_text of_done))
operand n d (number i) e = absurd (cc (e))
operand n d stranger e = absurd (cc (e))
operand n d (mark marks.True) e = single n d _ _ Prod.atom_ground (λ rest. of_last (Prod.ground_true processes) (of_sign of_done))
operand n d (mark marks.False) e = single n d _ _ Prod.atom_ground (λ rest. of_last (Prod.ground_false processes) (of_sign of_done))
operand n d (mark marks.Nil) e = single n d _ _ Prod.atom_nil (λ rest. of_sign of_done)
operand n d (mark marks.Not) e = let l = finish n d (under Sort.Pre (λ a. done (opened (unary_of unaries.Not a.tree) a.height))) (tt, λ a. tt) in
    record { prod = Prod.pre_not; after = l.whole.tokens; value = l.whole.value; reads = λ rest. of_opens (l.whole.reads rest) }
operand n d (mark marks.Minus) e = record { prod = Prod.pre_meth; after = number_token 0 ∷ []; value = leaf (ground_of processes (int (neg_ℤ (pos 0)))); reads = λ rest. minus_zero rest }
operand n d (mark marks.Star) e = record {
  prod = Prod.pre_meth;
  after = word [] ∷ [];
  value = leaf (drop_of (name_of []));
  reads = λ rest. pre_of Prod.drop_star (of_sign (of_last Prod.dropped_word (of_text of_done)));
}
operand n d (mark marks.Open) e = form n d _ _ Prod.atom_open (tt, λ a. tt) (λ ts rest v k. of_opens k)
operand n d (mark marks.OpenBrace) e = form n d _ _ Prod.atom_brace tt (λ ts rest v k. of_opens k)
operand n d (mark marks.OpenSquare) e = form n d _ _ Prod.atom_list (tt, λ a. tt) (λ ts rest v k. of_opens k)
operand n d (mark marks.Set) e = form n d _ _ Prod.atom_set (tt, λ a. tt) (λ ts rest v k. of_opens k)
operand n d (mark m) e = absurd (cc (e))

-- each operand of a prefix `-` can be finished
pub led_operand : (n : Notation) (d : Dialect) → Led n d begins_operand (under Sort.Pre (λ a. done (opened (unary_of unaries.Neg a.tree) a.height)))
led_operand n d t e = let o = operand n d t e in (
  (opened (unary_of unaries.Neg o.value.tree) o.value.height).height,
  record { after = o.after; value = opened (unary_of unaries.Neg o.value.tree) o.value.height; low = omega arith; reads = λ rest. of_under o.prod (o.reads rest) of_done },
)
