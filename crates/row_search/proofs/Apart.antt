-- Binds on channels of which no two are congruent.
use Rattle.std.proofs.Common.{◌≡◌, Bool, true, false, List, [], ◌∷◌, refl, sym, ap, ◌∙◌, inl, inr}
use Rattle.std.specs.Prelude.{◌||◌, Some}
use Rattle.calculus.specs.Tree.{Tree}
use Rattle.calculus.specs.Congruence.{congruent}
use Rattle.calculus.specs.Rows.{Row}
use Rattle.calculus.specs.Steps.{Datum, as_datum}
use Rattle.calculus.proofs.Equivalence.{symmetric, transitive}
use Rattle.rho_term.specs.declared.term.TermBind.{TermBind}
use Rattle.process_laws.specs.StorableLaws.{IsApart, AreApart}
use Rattle.row_search.specs.Rows.{is_one_channel, is_sent_on, IsIn}
use Rattle.row_search.proofs.Known.{bind_channels, sent-datum}

-- two channels that are congruent to a third
pub both : (c d e : Tree) → congruent c e ≡ true → congruent d e ≡ true → congruent c d ≡ true
both c d e f g = transitive c e d f (symmetric d e g)

pub no-both : (b : Bool) → b ≡ true → b ≡ false → ⊥
no-both true e f = cc
no-both false e f = cc

apart-from : (c : Tree) (b : TermBind) (bs : List TermBind) → IsApart c (bind_channels bs) → IsIn b bs → congruent c b.channel ≡ false
apart-from c b [] h k = absurd k
apart-from c b (d ∷ bs) h (inl e) = ap (λ (x : TermBind). congruent c x.channel) e ∙ h.0
apart-from c b (d ∷ bs) h (inr k) = apart-from c b bs h.1 k

-- of binds on different channels one alone is on a channel
one-bind : (c : Tree) (a b : TermBind) (bs : List TermBind) → AreApart (bind_channels bs) → IsIn a bs → IsIn b bs → congruent a.channel c ≡ true → congruent b.channel c ≡ true → a ≡ b
one-bind c a b [] h k l e f = absurd k
one-bind c a b (d ∷ bs) h (inl k) (inl l) e f = k ∙ sym l
one-bind c a b (d ∷ bs) h (inl k) (inr l) e f =
    absurd (no-both (congruent a.channel b.channel) (both a.channel b.channel c e f) (ap (λ (x : TermBind). congruent x.channel b.channel) k ∙ apart-from d.channel b bs h.0 l))
one-bind c a b (d ∷ bs) h (inr k) (inl l) e f =
    absurd (no-both (congruent b.channel a.channel) (both b.channel a.channel c f e) (ap (λ (x : TermBind). congruent x.channel a.channel) l ∙ apart-from d.channel a bs h.0 k))
one-bind c a b (d ∷ bs) h (inr k) (inr l) e f = one-bind c a b bs h.1 k l e f

-- so at most one is on the channel of a datum
pub one-on : (r : Row) (d : Datum) (a b : TermBind) (bs : List TermBind) → as_datum r.part ≡ Some d → AreApart (bind_channels bs) → IsIn a bs → IsIn b bs → is_sent_on a.channel r ≡ true → is_sent_on b.channel r ≡ true → a ≡ b
one-on r d a b bs g h k l e f = one-bind d.channel a b bs h k l (sym (sent-datum a.channel r d g) ∙ e) (sym (sent-datum b.channel r d g) ∙ f)

-- a bind on a channel that is congruent to one
pub on-one : (c : Tree) (bs : List TermBind) → is_one_channel c (bind_channels bs) ≡ true → (b : TermBind) × IsIn b bs × (congruent b.channel c ≡ true)
on-one c [] e = cc
on-one c (b ∷ bs) e = go (λ f. on-one c bs f) (congruent c b.channel) refl e
  where
    go : (is_one_channel c (bind_channels bs) ≡ true → (d : TermBind) × IsIn d bs × (congruent d.channel c ≡ true)) → (v : Bool) → congruent c b.channel ≡ v → v || is_one_channel c (bind_channels bs) ≡ true
        → (d : TermBind) × IsIn d (b ∷ bs) × (congruent d.channel c ≡ true)
    go next true f g = (b, inl refl, symmetric c b.channel f)
    go next false f g = let n = next g in (n.0, inr n.1, n.2)

pub none-on : (c : Tree) (bs : List TermBind) (b : TermBind) → is_one_channel c (bind_channels bs) ≡ false → IsIn b bs → congruent b.channel c ≡ true → ⊥
none-on c [] b e k f = absurd k
none-on c (d ∷ bs) b e k f = go (none-on c bs b) (congruent c d.channel) refl e k
  where
    go : (is_one_channel c (bind_channels bs) ≡ false → IsIn b bs → congruent b.channel c ≡ true → ⊥) → (v : Bool) → congruent c d.channel ≡ v → v || is_one_channel c (bind_channels bs) ≡ false → IsIn b (d ∷ bs) → ⊥
    go next true g h k = cc
    go next false g h (inl i) = no-both (congruent c d.channel) (ap (λ (x : TermBind). congruent c x.channel) (sym i) ∙ symmetric b.channel c f) g
    go next false g h (inr i) = next h i f
