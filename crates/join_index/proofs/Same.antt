-- Channels with one code are congruent.
use Rattle.std.proofs.Common.{◌≡◌, ℕ, Bool, true, false, List, [], ◌∷◌, refl, sym, ap, ◌∙◌}
use Rattle.std.specs.Ordering.{is_eq}
use Rattle.std.specs.declared.cmp.Ordering.{Ordering}
use Rattle.std.specs.declared.cmp.Ordering.TheVariants.{Less, Equal, Greater}
use Rattle.calculus.specs.Tree.{Tree}
use Rattle.calculus.specs.Order.{byte_cmp}
use Rattle.calculus.specs.Code.{code}
use Rattle.calculus.specs.Congruence.{congruent}
use Rattle.calculus.proofs.CodesAgree.{code_is_congruence}
use Rattle.calculus.proofs.Ordered.{equal}
use Rattle.term_order.specs.Orders.{OrdersCodes}
use Rattle.term_order.proofs.Comparing.{cmp-equal}
use Rattle.join_index.specs.Groups.{IsChannel}

same_bool : (a b : Bool) → (a ≡ true → b ≡ true) → (b ≡ true → a ≡ true) → a ≡ b
same_bool true b f g = sym (f refl)
same_bool false true f g = g refl
same_bool false false f g = refl

is-equal : (o : Ordering) → is_eq o ≡ true → o ≡ Equal
is-equal Less h = cc
is-equal Equal h = refl
is-equal Greater h = cc

cmp-self : (xs : List ℕ) → byte_cmp xs xs ≡ Equal
cmp-self [] = refl
cmp-self (x ∷ xs) = rw (cmp-equal x) (cmp-self xs)

-- the order of two codes tells whether the processes are congruent
pub same_codes : (t u : Tree) (r : Ordering) → IsChannel t → IsChannel u → OrdersCodes t u r → is_eq r ≡ congruent t u
same_codes t u r h k o =
    let e = o [] [] h.closed k.closed h.short k.short in
    let c = code_is_congruence t u h.closed k.closed h.short k.short in
    same_bool (is_eq r) (congruent t u)
    (λ q. c.0 (equal (code t) (code u) (sym e ∙ is-equal r q)))
    (λ q. ap is_eq (e ∙ ap (byte_cmp (code t)) (sym (c.1 q)) ∙ cmp-self (code t)))
