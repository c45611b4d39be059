-- Channels of closed short parts: where no two are congruent they rise once they are in order, and where they rise no two are congruent.
use Rattle.std.proofs.Common.{◌≡◌, ℕ, ◌+◌, true, false, List, [], ◌∷◌, ◌++◌, length, map as each, sym, ◌∙◌, subst, arith, length-append}
use Rattle.std.proofs.lemmas.Bool.{false_from_ne_true, true_from_ne_false, false≢true}
use Rattle.calculus.proofs.Members.{Every, every-up}
use Rattle.calculus.specs.Tree.{row, send, receive, bind, Tree, node, Trees, none, also}
use Rattle.calculus.specs.Shape.{held, listed, at}
use Rattle.calculus.specs.Order.{up_to}
use Rattle.calculus.specs.Code.{code, byte_of}
use Rattle.calculus.specs.CodeLaws.{IsShort}
use Rattle.calculus.specs.Congruence.{congruent}
use Rattle.calculus.specs.Form.{part, a_bind, all, Fits, Hold, IsClosed}
use Rattle.calculus.specs.Rows.{Row, coded_part, row_length, channels}
use Rattle.calculus.specs.Storing.{is_active, IsLessThanFirst, AreRising}
use Rattle.calculus.proofs.CodesAgree.{code_is_congruence}
use Rattle.calculus.proofs.Formed.{length-code}
use Rattle.calculus.proofs.Ordered.{up_to_total, up_to_trans}
use Rattle.calculus.proofs.Splitting.{AreShort, kids-short, first-short, rest-short}
use Rattle.process_laws.specs.StorableLaws.{IsApart, AreApart, StorableChannelsAreApart}

-- a closed process whose code has room in four bytes
abbrev pub IsClosedShort : Tree → Type 0
IsClosedShort t = IsClosed t × IsShort t

bind-closed : (b : Tree) → Fits a_bind [] b → IsShort b → IsClosedShort (at 0 (held b))
bind-closed (node bind none) h a = absurd h.1
bind-closed (node bind (also c none)) h a = absurd h.1.1
bind-closed (node bind (also c (also q qs))) h a = (h.1.0, first-short c (also q qs) (kids-short bind (also c (also q qs)) a))
bind-closed (node _ ts) h a = absurd h.1

binds-closed : (bs : Trees) → Hold (all a_bind) [] [] bs → AreShort bs → Every IsClosedShort (each (λ b. at 0 (held b)) (listed bs))
binds-closed none h a = tt
binds-closed (also b bs) h a = (bind-closed b h.0 (first-short b bs a), binds-closed bs h.1 (rest-short b bs a))

-- the channels of a closed short part
pub channels-closed : (t : Tree) → Fits part [] t → IsShort t → Every IsClosedShort (channels t)
channels-closed (node (send q) none) h a = absurd h.1
channels-closed (node (send q) (also c none)) h a = absurd h.1.1
channels-closed (node (send q) (also c (also x xs))) h a = ((h.1.0, first-short c (also x xs) (kids-short (send q) (also c (also x xs)) a)), tt)
channels-closed (node (receive k) none) h a = absurd h.1
channels-closed (node (receive k) (also b none)) h a = absurd h.1.1
channels-closed (node (receive k) (also (node row bs) (also body ts))) h a =
    binds-closed bs h.1.0.1 (kids-short row bs (first-short (node row bs) (also body ts) (kids-short (receive k) (also (node row bs) (also body ts)) a)))
channels-closed (node (receive k) (also (node _ bs) (also body ts))) h a = absurd h.1.0.1
channels-closed (node _ ts) h a = tt

-- a row's code has 32 bytes more than its part's
pub part-length : (r : Row) → is_active r.part ≡ true → Fits part [] r.part → row_length r ≡ 32 + length (code r.part)
part-length r e f = go r.part e f
  where
    go : (t : Tree) → is_active t ≡ true → Fits part [] t → 32 + length (coded_part [] t) ≡ 32 + length (code t)
    go (node (send q) none) e h = absurd h.1
    go (node (send q) (also c none)) e h = absurd h.1.1
    go (node (send q) (also c (also x none))) e h =
        omega (arith, length-code (send q) (also c (also x none)), length-append (code c) (code x ++ []), length-append (code x) [], length-append (code c) (byte_of q ∷ code x))
    go (node (send q) (also c (also x (also y ys)))) e h = absurd h.1.1.1
    go (node (receive k) none) e h = absurd h.1
    go (node (receive k) (also b none)) e h = absurd h.1.1
    go (node (receive k) (also b (also body none))) e h =
        omega (arith, length-code (receive k) (also b (also body none)), length-append (code b) (code body ++ []), length-append (code body) [], length-append (code b) (code body))
    go (node (receive k) (also b (also body (also c cs)))) e h = absurd h.1.1.1
    go (node _ ts) e h = cc

-- processes that are not congruent have two codes
pub codes-differ : (t u : Tree) → IsClosedShort t → IsClosedShort u → congruent t u ≡ false → code t ≡ code u → ⊥
codes-differ t u h k e f = false≢true (sym e ∙ (code_is_congruence t u h.0 k.0 h.1 k.1).0 f)

up_to-self : (c : List ℕ) → up_to c c ≡ true
up_to-self c = true_from_ne_false (up_to c c) (λ e. false≢true (sym e ∙ up_to_total c c e))

less-apart : (t u : Tree) → IsClosedShort t → IsClosedShort u → up_to (code u) (code t) ≡ false → congruent t u ≡ false
less-apart t u h k e =
    false_from_ne_true (congruent t u)
    (λ f. let same : code t ≡ code u = (code_is_congruence t u h.0 k.0 h.1 k.1).1 f in
    false≢true (sym e ∙ subst (λ (c : List ℕ). up_to c (code t) ≡ true) same (up_to-self (code t))))

-- what is less than the first of rising codes is less than each
less-later : (b c d : List ℕ) → up_to c b ≡ false → up_to d c ≡ false → up_to d b ≡ false
less-later b c d e f = false_from_ne_true (up_to d b) (λ g. false≢true (sym f ∙ up_to_trans d b c g (up_to_total c b e)))

first-less : (b : List ℕ) (cs : List (List ℕ)) → IsLessThanFirst b cs → AreRising cs → Every (λ c. up_to c b ≡ false) cs
first-less b [] h k = tt
first-less b (c ∷ cs) h k = (h, every-up (λ d. up_to d c ≡ false) (λ d. up_to d b ≡ false) (λ d f. less-later b c d h f) cs (first-less c cs k.0 k.1))

one-apart : (t : Tree) (us : List Tree) → IsClosedShort t → Every IsClosedShort us → Every (λ c. up_to c (code t) ≡ false) (each code us) → IsApart t us
one-apart t [] h k l = tt
one-apart t (u ∷ us) h k l = (less-apart t u h k.0 l.0, one-apart t us h k.1 l.1)

rising-apart : (ts : List Tree) → Every IsClosedShort ts → AreRising (each code ts) → AreApart ts
rising-apart [] h k = tt
rising-apart (t ∷ ts) h k = (one-apart t ts h.0 h.1 (first-less (code t) (each code ts) k.0 k.1), rising-apart ts h.1 k.1)

pub storable_channels_are_apart : StorableChannelsAreApart
storable_channels_are_apart r h =
    let f : Fits part [] r.part = h.closed.1.0 in
    rising-apart (channels r.part) (channels-closed r.part f (omega (arith, h.short, part-length r h.active f))) h.rising
