-- What is known of the constituents of parts that are closed and in normal order, and of their values.
use Rattle.std.proofs.Common.{◌≡◌, ℕ, List, [], ◌∷◌, map, refl, sym, ap, ◌∙◌, subst, arith, All, length-append, ◌++◌, append_assoc, append-nil}
use Rattle.std.specs.Prelude.{⊤, flat_map, Result, Vec, String}
use Rattle.std.specs.Result.{MatchResult}
use Rattle.std.proofs.lemmas.List.Elements.{All-cons, All-nil, All-head, All-tail}
use Rattle.calculus.specs.Tree.{par, row, list, dict, pair, Tree, node, Trees, none, also, trees}
use Rattle.calculus.specs.Bytes.{be32}
use Rattle.calculus.specs.Order.{sorted, IsAscending}
use Rattle.calculus.proofs.Tails.{length-be32}
use Rattle.calculus.specs.Shape.{leaf, many, only, two, held, at}
use Rattle.calculus.specs.CodeLaws.{IsShort}
use Rattle.calculus.specs.Variables.{Sense}
use Rattle.calculus.specs.Form.{term, part, pair_of, all, Fits, Hold, IsClosed}
use Rattle.calculus.specs.Outcome.{Prices, Answer, gives, fails, unknown, Outcome, pure, free, within_limits, then_do, after, in_order}
use Rattle.calculus.specs.Operators.{key_of, value_of, of_map}
use Rattle.calculus.specs.Normal.{ascending, made_node}
use Rattle.calculus.specs.Code.{codes}
use Rattle.calculus.proofs.Placing.{listed-trees}
use Rattle.price_table.specs.declared.stop.EvalStop.{EvalStop}
use Rattle.calculus.specs.Values.{value, operated}
use Rattle.rho_term.specs.declared.term.Part.{Part}
use Rattle.rho_term.specs.declared.term.Part.TheVariants as parts
use Rattle.calculus.specs.declared.plain.Ground.TheVariants as ground
use Rattle.calculus.specs.declared.plain.Rights.{Rights}
use Rattle.calculus.specs.declared.plain.UnaryOp.{UnaryOp}
use Rattle.calculus.specs.declared.plain.BinaryOp.{BinaryOp}
use Rattle.std.specs.declared.alloc.Global.{Global}
use Rattle.calculus.specs.Methods.{method_answer}
use Rattle.price_table.proofs.Outcomes.{stop-form, come-form, stopped-cons, stopped-rest, came-two, came-pure}
use Rattle.rho_term.specs.Normal.{IsNormal, AreNormal, IsOrdered}
use Rattle.rho_term.specs.Parts.{part_tree, pair_tree}
use Rattle.value_ops.specs.Answers.{IsOperand}
use Rattle.process_laws.specs.ClosedValueLaws.{GivesClosed}
use Rattle.process_laws.proofs.Values.{value_is_closed, value_is_within}
use Rattle.price_table.specs.Outcomes.{Came, Stopped}
use Rattle.code_order.specs.Made.{reordered}
use Rattle.rho_eval.proofs.Forms.{value-pair, value-process, value-map, made-same}

pub ordered-part : (t : Tree) → IsNormal t → IsOrdered t
ordered-part (node l ts) h = h.0

pub parts-ordered : (ps : List Part) → AreNormal (trees (map part_tree ps)) → All (λ q. IsOrdered (part_tree q)) ps
parts-ordered [] h = All-nil (λ q. IsOrdered (part_tree q))
parts-ordered (p ∷ ps) h = All-cons (λ q. IsOrdered (part_tree q)) p ps (ordered-part (part_tree p) h.0) (parts-ordered ps h.1)

pub parts-closed : (o : List Sense) (ps : List Part) → Hold (all part) [] o (trees (map part_tree ps)) → All (λ q. IsClosed (only (part_tree q))) ps
parts-closed o [] h = All-nil (λ q. IsClosed (only (part_tree q)))
parts-closed o (p ∷ ps) h = All-cons (λ q. IsClosed (only (part_tree q))) p ps (tt, (h.0, tt)) (parts-closed o ps h.1)

pub members-closed : (o : List Sense) (ts : List Tree) → Hold (all term) [] o (trees ts) → All IsClosed ts
members-closed o [] h = All-nil IsClosed
members-closed o (t ∷ ts) h = All-cons IsClosed t ts h.0 (members-closed o ts h.1)

pub keys-closed : (o : List Sense) (ps : List (Tree × Tree)) → Hold (all (pair_of term)) [] o (trees (map pair_tree ps)) → All (λ q. IsClosed q.0) ps
keys-closed o [] h = All-nil (λ q. IsClosed q.0)
keys-closed o (p ∷ ps) h = All-cons (λ q. IsClosed q.0) p ps h.0.1.0 (keys-closed o ps h.1)

pub values-closed : (o : List Sense) (ps : List (Tree × Tree)) → Hold (all (pair_of term)) [] o (trees (map pair_tree ps)) → All (λ q. IsClosed q.1) ps
values-closed o [] h = All-nil (λ q. IsClosed q.1)
values-closed o (p ∷ ps) h = All-cons (λ q. IsClosed q.1) p ps h.0.1.1.0 (values-closed o ps h.1)

-- this is so of an answer's result, where there is one
abbrev Gives : {A : Type 0} → (A → Type 0) → Answer A → Type 0
Gives P (gives x) = P x
Gives P (fails f) = ⊤
Gives P unknown = ⊤

then-gives : {A B : Type 0} (P : A → Type 0) (Q : B → Type 0) (n : ℕ) (a : Answer A) (next : A → Outcome B) → Gives P a → ((x : A) → P x → Gives Q (next x).answer) → Gives Q (then_do n a next).answer
then-gives P Q n (gives x) next h k = k x h
then-gives P Q n (fails f) next h k = tt
then-gives P Q n unknown next h k = tt

after-gives : {A B : Type 0} (P : A → Type 0) (Q : B → Type 0) (o : Outcome A) (next : A → Outcome B) → Gives P o.answer → ((x : A) → P x → Gives Q (next x).answer) → Gives Q (after o next).answer
after-gives P Q o next h k = then-gives P Q o.price o.answer next h k

cons-gives : {A : Type 0} (P : A → Type 0) (o : Outcome A) (os : List (Outcome A)) → Gives P o.answer → Gives (All P) (in_order os).answer → Gives (All P) (in_order (o ∷ os)).answer
cons-gives P o os h k =
    after-gives P (All P) o (λ x. after (in_order os) (λ xs. pure (x ∷ xs))) h
    (λ x q. after-gives (All P) (All P) (in_order os) (λ xs. pure (x ∷ xs)) k (λ xs r. All-cons P x xs q r))

had : {A : Type 0} (P : A → Type 0) (a : Answer A) (v : A) → a ≡ gives v → Gives P a → P v
had P a v e h = subst (Gives P) e h

operand-here : (p : Prices) (t : Tree) (a : Answer Tree) → (value p t).answer ≡ a → IsClosed t → Gives IsOperand a
operand-here p (node par ts) (gives v) e h =
    let c = subst GivesClosed e (value_is_closed p (node par ts) h) in
    record { closed = c; short = omega (arith, (value_is_within p ts v e).1) }
operand-here p (node _ ts) (gives v) e h = absurd h.1
operand-here p t (fails f) e h = tt
operand-here p t unknown e h = tt

operand-gives : (p : Prices) (t : Tree) → IsClosed t → Gives IsOperand (value p t).answer
operand-gives p t h = operand-here p t (value p t).answer refl h

operands-give : (p : Prices) (ts : List Tree) → All IsClosed ts → Gives (All IsOperand) (in_order (map (value p) ts)).answer
operands-give p [] h = All-nil IsOperand
operands-give p (t ∷ ts) h = cons-gives IsOperand (value p t) (map (value p) ts) (operand-gives p t (All-head IsClosed t ts h)) (operands-give p ts (All-tail IsClosed t ts h))

pub operand : (p : Prices) (cap n m : ℕ) (t v : Tree) → IsClosed t → Came cap n m v (value p t) → IsOperand v
operand p cap n m t v h a = had IsOperand (value p t).answer v a.answer (operand-gives p t h)

pub operands : (p : Prices) (cap n m : ℕ) (ts vs : List Tree) → All IsClosed ts → Came cap n m vs (in_order (map (value p) ts)) → All IsOperand vs
operands p cap n m ts vs h a = had (All IsOperand) (in_order (map (value p) ts)).answer vs a.answer (operands-give p ts h)

-- a pair of operands
abbrev HasOperands : Tree → Type 0
HasOperands v = IsOperand (key_of v) × IsOperand (value_of v)

nothing : IsOperand (leaf par)
unfolding sorted
nothing = record { closed = (tt, tt); short = omega (arith, length-be32 0, length-append (be32 0) []) }

two-here : (vs : List Tree) → All IsOperand vs → HasOperands (many pair vs)
two-here [] h = (nothing, nothing)
two-here (v ∷ []) h = (All-head IsOperand v [] h, nothing)
two-here (v ∷ w ∷ vs) h = (All-head IsOperand v (w ∷ vs) h, All-head IsOperand w vs (All-tail IsOperand v (w ∷ vs) h))

pair-gives : (p : Prices) (q : Tree × Tree) → IsClosed q.0 → IsClosed q.1 → Gives HasOperands (value p (pair_tree q)).answer
pair-gives p q h k =
    subst (λ (o : Outcome Tree). Gives HasOperands o.answer) (sym (value-pair p q.0 q.1))
    (after-gives (All IsOperand) HasOperands (in_order (value p q.0 ∷ value p q.1 ∷ [])) (λ vs. pure (many pair vs)) (operands-give p (q.0 ∷ q.1 ∷ []) (All-cons IsClosed q.0 (q.1 ∷ []) h (All-cons IsClosed q.1 [] k (All-nil IsClosed)))) (λ vs r. two-here vs r))

pairs-give : (p : Prices) (ps : List (Tree × Tree)) → All (λ q. IsClosed q.0) ps → All (λ q. IsClosed q.1) ps → Gives (All HasOperands) (in_order (map (λ q. value p (pair_tree q)) ps)).answer
pairs-give p [] h k = All-nil HasOperands
pairs-give p (q ∷ ps) h k =
    cons-gives HasOperands (value p (pair_tree q)) (map (λ q. value p (pair_tree q)) ps) (pair-gives p q (All-head (λ q. IsClosed q.0) q ps h) (All-head (λ q. IsClosed q.1) q ps k))
    (pairs-give p ps (All-tail (λ q. IsClosed q.0) q ps h) (All-tail (λ q. IsClosed q.1) q ps k))

pairs-had : (p : Prices) (cap n m : ℕ) (ps us : List (Tree × Tree)) → All (λ q. IsClosed q.0) ps → All (λ q. IsClosed q.1) ps → Came cap n m (map pair_tree us) (in_order (map (λ q. value p (pair_tree q)) ps)) → All HasOperands (map pair_tree us)
pairs-had p cap n m ps us h k a = had (All HasOperands) (in_order (map (λ q. value p (pair_tree q)) ps)).answer (map pair_tree us) a.answer (pairs-give p ps h k)

from-keys : (us : List (Tree × Tree)) → All HasOperands (map pair_tree us) → All (λ q. IsOperand q.0) us
from-keys [] h = All-nil (λ q. IsOperand q.0)
from-keys (u ∷ us) h = All-cons (λ q. IsOperand q.0) u us (All-head HasOperands (pair_tree u) (map pair_tree us) h).0 (from-keys us (All-tail HasOperands (pair_tree u) (map pair_tree us) h))

pub key-operands : (p : Prices) (cap n m : ℕ) (ps us : List (Tree × Tree)) → All (λ q. IsClosed q.0) ps → All (λ q. IsClosed q.1) ps → Came cap n m (map pair_tree us) (in_order (map (λ q. value p (pair_tree q)) ps)) → All (λ q. IsOperand q.0) us
key-operands p cap n m ps us h k a = from-keys us (pairs-had p cap n m ps us h k a)

one-same : (t : Tree) → IsOrdered t → reordered t ≡ t
one-same (node l ts) h = made-same l ts h

-- parts in normal order stay as they are when members are put in order
pub reordered-same : (ps : List Part) → All (λ q. IsOrdered (part_tree q)) ps → map reordered (map part_tree ps) ≡ map part_tree ps
reordered-same [] h = refl
reordered-same (p ∷ ps) h =
    ap (λ t. t ∷ map reordered (map part_tree ps)) (one-same (part_tree p) (All-head (λ q. IsOrdered (part_tree q)) p ps h))
    ∙ ap (λ ts. part_tree p ∷ ts) (reordered-same ps (All-tail (λ q. IsOrdered (part_tree q)) p ps h))

map-map : {A B C : Type 0} (f : B → C) (g : A → B) (xs : List A) → map f (map g xs) ≡ map (λ x. f (g x)) xs
map-map f g [] = refl
map-map f g (x ∷ xs) = ap (λ ys. f (g x) ∷ ys) (map-map f g xs)

pub map-append : {A B : Type 0} (f : A → B) (xs ys : List A) → map f (xs ++ ys) ≡ map f xs ++ map f ys
map-append f [] ys = refl
map-append f (x ∷ xs) ys = ap (λ zs. f x ∷ zs) (map-append f xs ys)

flat-append : (ts us : List Tree) → flat_map held (ts ++ us) ≡ flat_map held ts ++ flat_map held us
flat-append [] us = refl
flat-append (t ∷ ts) us = ap (λ vs. held t ++ vs) (flat-append ts us) ∙ sym (append_assoc (held t) (flat_map held ts) (flat_map held us))

-- the value of a process of these parts
pub process-form : (p : Prices) (ps : List Part) → IsAscending (codes (trees (map part_tree ps))) → value p (many par (map part_tree ps)) ≡ after (in_order (map (λ q. value p (part_tree q)) ps)) (λ vs. free (within_limits (made_node par (flat_map held vs))))
process-form p ps h = value-process p (map part_tree ps) h ∙ ap (λ os. after (in_order os) (λ vs. free (within_limits (made_node par (flat_map held vs))))) (map-map (value p) part_tree ps)

-- and of a map of these pairs
pub map-form : (p : Prices) (ps : List (Tree × Tree)) → IsAscending (codes (trees (map pair_tree ps))) → value p (many dict (map pair_tree ps)) ≡ after (in_order (map (λ q. value p (pair_tree q)) ps)) (λ vs. free (within_limits (of_map (ascending vs))))
map-form p ps h = value-map p (map pair_tree ps) h ∙ ap (λ os. after (in_order os) (λ vs. free (within_limits (of_map (ascending vs))))) (map-map (value p) pair_tree ps)

-- the parts of one process more
pub flat-more : (whole : List Tree) (v : Tree) (ps ms : List Part) → map part_tree ps ≡ flat_map held whole → v ≡ many par (map part_tree ms) → map part_tree (ps ++ ms) ≡ flat_map held (whole ++ v ∷ [])
flat-more whole v ps ms e f =
    map-append part_tree ps ms ∙ (ap (λ ts. ts ++ map part_tree ms) e ∙ (ap (λ ts. flat_map held whole ++ ts) (sym (append-nil (map part_tree ms)) ∙ ap (λ ts. ts ++ []) (sym (ap held f ∙ listed-trees (map part_tree ms)))) ∙ sym (flat-append whole (v ∷ []))))

-- what was tested is this process
pub limited-at : {P : Type 0} (price : P → ℕ) (val : P → Tree) (top n : ℕ) (t u : Tree) (r : Result P EvalStop) → t ≡ u → MatchResult r (λ q. Came top n (price q) (val q) (free (within_limits t))) (λ e. Stopped top n (free (within_limits t)) e)
    → MatchResult r (λ q. Came top n (price q) (val q) (free (within_limits u))) (λ e. Stopped top n (free (within_limits u)) e)
limited-at price val top n t u r e h = subst (λ w. MatchResult r (λ q. Came top n (price q) (val q) (free (within_limits w))) (λ d. Stopped top n (free (within_limits w)) d)) e h

-- a method by its name
pub called : {P : Type 0} (price : P → ℕ) (val : P → Tree) (p : Prices) (top n : ℕ) (v : Tree) (ws : List Tree) (name text : List ℕ) (r : Result P EvalStop) → name ≡ text
    → MatchResult r (λ q. Came top n (price q) (val q) (operated p (v ∷ ws) (method_answer name v ws))) (λ e. Stopped top n (operated p (v ∷ ws) (method_answer name v ws)) e)
    → MatchResult r (λ q. Came top n (price q) (val q) (operated p (v ∷ held (many row ws)) (method_answer text v (held (many row ws))))) (λ e. Stopped top n (operated p (v ∷ held (many row ws)) (method_answer text v (held (many row ws)))) e)
called price val p top n v ws name text r e h =
    subst (λ ys. MatchResult r (λ q. Came top n (price q) (val q) (operated p (v ∷ ys) (method_answer text v ys))) (λ d. Stopped top n (operated p (v ∷ ys) (method_answer text v ys)) d)) (sym (listed-trees ws))
    (subst (λ z. MatchResult r (λ q. Came top n (price q) (val q) (operated p (v ∷ ws) (method_answer z v ws))) (λ d. Stopped top n (operated p (v ∷ ws) (method_answer z v ws)) d)) e h)

-- a key and its value
pub pair-stops-first : (p : Prices) (top n : ℕ) (q : Tree × Tree) (e : EvalStop) → Stopped top n (value p q.0) e → Stopped top n (value p (pair_tree q)) e
pair-stops-first p top n q e h =
    stop-form top n (value p (pair_tree q)) (in_order (value p q.0 ∷ value p q.1 ∷ [])) (λ vs. pure (many pair vs)) e (value-pair p q.0 q.1) (stopped-cons top n (value p q.0) (value p q.1 ∷ []) e h)

pub pair-stops-second : (p : Prices) (top n m : ℕ) (v : Tree) (q : Tree × Tree) (e : EvalStop) → Came top n m v (value p q.0) → Stopped top m (value p q.1) e → Stopped top n (value p (pair_tree q)) e
pair-stops-second p top n m v q e a h =
    stop-form top n (value p (pair_tree q)) (in_order (value p q.0 ∷ value p q.1 ∷ [])) (λ vs. pure (many pair vs)) e (value-pair p q.0 q.1)
    (stopped-rest top n m v (value p q.0) (value p q.1 ∷ []) e a (stopped-cons top m (value p q.1) [] e h))

pub pair-comes : (p : Prices) (top n m k : ℕ) (v w : Tree) (q : Tree × Tree) → Came top n m v (value p q.0) → Came top m k w (value p q.1) → Came top n k (pair_tree (v, w)) (value p (pair_tree q))
pair-comes p top n m k v w q a b =
    come-form top n k k (v ∷ w ∷ []) (pair_tree (v, w)) (value p (pair_tree q)) (in_order (value p q.0 ∷ value p q.1 ∷ [])) (λ vs. pure (many pair vs)) (value-pair p q.0 q.1)
    (came-two top n m k v w (value p q.0) (value p q.1) a b) (came-pure top k (pair_tree (v, w)) b.fits)

-- what is its own value
pub itself : (p : Prices) (q : Part) → ((ts : Vec Tree Global) → q ≡ parts.List ts → ⊥) → ((ts : Vec Tree Global) → q ≡ parts.Tuple ts → ⊥) → ((ts : Vec Tree Global) → q ≡ parts.Set ts → ⊥) → ((ps : Vec (Tree × Tree) Global) → q ≡ parts.Map ps → ⊥)
    → ((r : Rights) (t : Tree) → q ≡ parts.Bundle r t → ⊥) → ((o : UnaryOp) (t : Tree) → q ≡ parts.Unary o t → ⊥) → ((o : BinaryOp) (t u : Tree) → q ≡ parts.Binary o t u → ⊥) → ((n : String Global) (t : Tree) (ts : Vec Tree Global) → q ≡ parts.Method n t ts → ⊥)
    → value p (part_tree q) ≡ pure (only (part_tree q))
unfolding value
itself p (parts.Ground (ground.Bool x)) a b c d e f g h = refl
itself p (parts.Ground (ground.Int x)) a b c d e f g h = refl
itself p (parts.Ground (ground.Str x)) a b c d e f g h = refl
itself p (parts.Ground (ground.Uri x)) a b c d e f g h = refl
itself p (parts.Ground (ground.Bytes x)) a b c d e f g h = refl
itself p (parts.Fresh x) a b c d e f g h = refl
itself p (parts.Var x) a b c d e f g h = refl
itself p (parts.NameVar x) a b c d e f g h = refl
itself p (parts.List ts) a b c d e f g h = absurd (a ts refl)
itself p (parts.Tuple ts) a b c d e f g h = absurd (b ts refl)
itself p (parts.Set ts) a b c d e f g h = absurd (c ts refl)
itself p (parts.Map ps) a b c d e f g h = absurd (d ps refl)
itself p (parts.Send x ts w) a b c d e f g h = refl
itself p (parts.Receive k bs t) a b c d e f g h = refl
itself p (parts.New os t) a b c d e f g h = refl
itself p (parts.Match t cs) a b c d e f g h = refl
itself p (parts.Bundle r t) a b c d e f g h = absurd (e r t refl)
itself p (parts.Unary o t) a b c d e f g h = absurd (f o t refl)
itself p (parts.Binary o t u) a b c d e f g h = absurd (g o t u refl)
itself p (parts.Method n t ts) a b c d e f g h = absurd (h n t ts refl)
