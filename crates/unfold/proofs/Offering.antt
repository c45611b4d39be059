-- Constituents of closed sends and receives, and their values.
use Rattle.std.proofs.Common.{◌≡◌, ℕ, suc, List, [], ◌∷◌, length, map, refl, sym, ap, ◌∙◌, subst, All}
use Rattle.std.proofs.lemmas.List.Elements.{All-cons, All-nil, All-head, All-tail}
use Rattle.calculus.specs.declared.plain.Kind.{Kind}
use Rattle.calculus.specs.Tree.{Tree, trees}
use Rattle.calculus.specs.Shape.{held, at}
use Rattle.calculus.specs.Variables.{Sense}
use Rattle.calculus.specs.Form.{a_bind, all, Hold, IsClosed}
use Rattle.calculus.specs.Outcome.{Prices, Answer, gives, fails, unknown, Outcome, pure, then_do, after, in_order}
use Rattle.calculus.specs.Unfolding.{opened, receive_offered}
use Rattle.calculus.specs.Values.{value}
use Rattle.price_table.specs.Outcomes.{Came}
use Rattle.rho_eval.proofs.Parts.{operands}
use Rattle.rho_term.specs.declared.term.TermBind.{TermBind}
use Rattle.rho_term.specs.Parts.{bind_tree}
use Rattle.value_ops.specs.Answers.{IsOperand}
use Rattle.unfold.specs.Offers.{receive_work}

pub channels-closed : (o : List Sense) (bs : List TermBind) → Hold (all a_bind) [] o (trees (map bind_tree bs)) → All (λ b. IsClosed b.channel) bs
channels-closed o [] h = All-nil (λ b. IsClosed b.channel)
channels-closed o (b ∷ bs) h = All-cons (λ b. IsClosed b.channel) b bs h.0.1.0 (channels-closed o bs h.1)

all-channels : (bs : List TermBind) → All (λ b. IsClosed b.channel) bs → All IsClosed (map (λ b. b.channel) bs)
all-channels [] h = All-nil IsClosed
all-channels (b ∷ bs) h = All-cons IsClosed b.channel (map (λ b. b.channel) bs) (All-head (λ b. IsClosed b.channel) b bs h) (all-channels bs (All-tail (λ b. IsClosed b.channel) b bs h))

channel-works : (p : Prices) (bs : List TermBind) → map (λ b. value p b.channel) bs ≡ map (value p) (map (λ b. b.channel) bs)
channel-works p [] = refl
channel-works p (b ∷ bs) = ap (λ os. value p b.channel ∷ os) (channel-works p bs)

bind-works : (p : Prices) (bs : List TermBind) → map (λ b. value p (at 0 (held b))) (map bind_tree bs) ≡ map (λ b. value p b.channel) bs
bind-works p [] = refl
bind-works p (b ∷ bs) = ap (λ os. value p b.channel ∷ os) (bind-works p bs)

-- a receive by its channels
pub receive-form : (p : Prices) (s : List ℕ) (k : Kind) (bs : List TermBind) (body : Tree)
    → receive_work p s k (map bind_tree bs) body ≡ after (in_order (map (λ b. value p b.channel) bs)) (λ vs. receive_offered p s k (map opened vs) (map bind_tree bs) body)
receive-form p s k bs body = ap (λ os. after (in_order os) (λ vs. receive_offered p s k (map opened vs) (map bind_tree bs) body)) (bind-works p bs)

-- and the values of its channels
pub channel-operands : (p : Prices) (cap n m : ℕ) (bs : List TermBind) (vs : List Tree) → All (λ b. IsClosed b.channel) bs → Came cap n m vs (in_order (map (λ b. value p b.channel) bs)) → All IsOperand vs
channel-operands p cap n m bs vs h a = operands p cap n m (map (λ b. b.channel) bs) vs (all-channels bs h) (subst (λ os. Came cap n m vs (in_order os)) (channel-works p bs) a)

-- there is one for each
one-more : {A : Type 0} (xs : List A) (x : A) (n : ℕ) (a : Answer (List A)) → ((ys : List A) → a ≡ gives ys → length ys ≡ n) → (m : ℕ) → (then_do m a (λ ys. pure (x ∷ ys))).answer ≡ gives xs → length xs ≡ suc n
one-more xs x n (gives ys) h m e =
    let q : x ∷ ys ≡ xs = cc in
    sym (ap length q) ∙ ap suc (h ys refl)
one-more xs x n (fails k) h m e = cc
one-more xs x n unknown h m e = cc

after-one : {A : Type 0} (xs : List A) (n m : ℕ) (a : Answer A) (o : Outcome (List A)) → ((ys : List A) → o.answer ≡ gives ys → length ys ≡ n) → (then_do m a (λ x. after o (λ ys. pure (x ∷ ys)))).answer ≡ gives xs → length xs ≡ suc n
after-one xs n m (gives x) o h e = one-more xs x n o.answer h o.price e
after-one xs n m (fails k) o h e = cc
after-one xs n m unknown o h e = cc

pub in-order-length : {A : Type 0} (os : List (Outcome A)) (xs : List A) → (in_order os).answer ≡ gives xs → length xs ≡ length os
in-order-length [] [] e = refl
in-order-length [] (x ∷ xs) e = cc
in-order-length (o ∷ os) xs e = after-one xs (length os) o.price o.answer (in_order os) (λ ys q. in-order-length os ys q) e

length-map : {A B : Type 0} (f : A → B) (xs : List A) → length (map f xs) ≡ length xs
length-map f [] = refl
length-map f (x ∷ xs) = ap suc (length-map f xs)

pub channel-count : (p : Prices) (cap n m : ℕ) (bs : List TermBind) (vs : List Tree) → Came cap n m vs (in_order (map (λ b. value p b.channel) bs)) → length vs ≡ length bs
channel-count p cap n m bs vs a = in-order-length (map (λ b. value p b.channel) bs) vs a.answer ∙ length-map (λ b. value p b.channel) bs
