-- The channels of a closed receive with its binds in order rise in their codes, where no two of the names given for them are congruent.
use Rattle.std.proofs.Common.{◌≡◌, ℕ, ◌+◌, false, List, [], ◌∷◌, length, map as each, refl, sym, ap, ◌∙◌, subst}
use Rattle.std.proofs.lemmas.Bool.{or_parts}
use Rattle.calculus.proofs.Members.{Every}
use Rattle.calculus.specs.declared.plain.Kind.{Kind}
use Rattle.calculus.specs.Tree.{Tree}
use Rattle.calculus.specs.Shape.{held, at}
use Rattle.calculus.specs.Congruence.{congruent}
use Rattle.calculus.specs.Code.{code}
use Rattle.calculus.specs.CodeLaws.{IsShort}
use Rattle.calculus.specs.Variables.{bound}
use Rattle.calculus.specs.Form.{part, Fits}
use Rattle.calculus.specs.Normal.{by_code}
use Rattle.calculus.specs.Operators.{is_among}
use Rattle.calculus.specs.Rows.{channels}
use Rattle.calculus.specs.Storing.{AreRising}
use Rattle.calculus.specs.Unfolding.{Channel, Placed, placed_from, sorted_binds, sorted_receive, on_channel, on_channels, has_twins}
use Rattle.calculus.proofs.Placing.{listed-trees}
use Rattle.process_laws.proofs.Sorting.{codes_of, LackCode, HaveOwnCodes, by_code-every, every-by_code, by_code-rising}
use Rattle.process_laws.proofs.Channels.{IsClosedShort, channels-closed, codes-differ}

-- a bind with its places, and the code of its channel beside it
abbrev CodedBind : Type 0
CodedBind = List ℕ × Placed

-- the channel of a bind with its places
abbrev channel_of : Placed → Tree
channel_of b = at 0 (held b.0)

-- binds with the codes of their channels, as they are put in order
abbrev coded_binds : List Placed → List CodedBind
coded_binds bs = each (λ b. (code (at 0 (held b.0)), b)) bs

-- the channel of such a bind
abbrev channel : CodedBind → Tree
channel x = channel_of x.1

-- what stands beside it is its channel's code
abbrev IsCoded : CodedBind → Type 0
IsCoded x = code (channel x) ≡ x.0

every-coded : (bs : List Placed) → Every IsCoded (coded_binds bs)
every-coded [] = tt
every-coded (b ∷ bs) = (refl, every-coded bs)

channel-codes : (xs : List CodedBind) → Every IsCoded xs → each code (each channel xs) ≡ codes_of xs
channel-codes [] h = refl
channel-codes (x ∷ xs) h = ap (λ c. c ∷ each code (each channel xs)) h.0 ∙ ap (λ cs. x.0 ∷ cs) (channel-codes xs h.1)

every-back : (xs : List CodedBind) → Every IsClosedShort (each channel xs) → Every (λ x. IsClosedShort (channel x)) xs
every-back [] h = tt
every-back (x ∷ xs) h = (h.0, every-back xs h.1)

-- the names of these
abbrev names : List Channel → List Tree
names cs = each (λ c. c.name) cs

-- the binds on these channels, as they are put in order
abbrev binds_on : ℕ → List Channel → List Tree → List CodedBind
binds_on i cs bs = coded_binds (placed_from i (on_channels cs bs))

lack-code : (t : Tree) (i : ℕ) (cs : List Channel) (bs : List Tree) → IsClosedShort t → Every (λ x. IsClosedShort (channel x)) (binds_on i cs bs) → is_among t (names cs) ≡ false → LackCode (code t) (binds_on i cs bs)
lack-code t i [] bs h k e = tt
lack-code t i (c ∷ cs) [] h k e = tt
lack-code t i (c ∷ cs) (b ∷ bs) h k e =
    let p = or_parts (congruent t c.name) (is_among t (names cs)) e in
    (codes-differ t c.name h k.0 p.0, lack-code t (i + length (bound (on_channel c b))) cs bs h k.1 p.1)

own-codes : (i : ℕ) (cs : List Channel) (bs : List Tree) → Every (λ x. IsClosedShort (channel x)) (binds_on i cs bs) → has_twins (names cs) ≡ false → HaveOwnCodes (binds_on i cs bs)
own-codes i [] bs h e = tt
own-codes i (c ∷ cs) [] h e = tt
own-codes i (c ∷ cs) (b ∷ bs) h e =
    let p = or_parts (is_among c.name (names cs)) (has_twins (names cs)) e in
    let j : ℕ = i + length (bound (on_channel c b)) in
    (lack-code c.name j cs bs h.0 h.1 p.0, own-codes j cs bs h.1 p.1)

same-channels : (xs : List CodedBind) → each (λ b. at 0 (held b)) (each (λ b. b.0) (each (λ x. x.1) xs)) ≡ each channel xs
same-channels [] = refl
same-channels (x ∷ xs) = ap (λ ts. channel x ∷ ts) (same-channels xs)

pub receive-rises : (k : Kind) (cs : List Channel) (bs : List Tree) (body : Tree) → has_twins (names cs) ≡ false → Fits part [] (sorted_receive k (on_channels cs bs) body) → IsShort (sorted_receive k (on_channels cs bs) body)
    → AreRising (each code (channels (sorted_receive k (on_channels cs bs) body)))
receive-rises k cs bs body e f a =
    let before : List CodedBind = binds_on 0 cs bs in
    let after : List CodedBind = by_code before in
    let same : channels (sorted_receive k (on_channels cs bs) body) ≡ each channel after =
    ap (λ bs. each (λ b. at 0 (held b)) bs) (listed-trees (each (λ b. b.0) (sorted_binds (on_channels cs bs)))) ∙ same-channels after in
    let known : Every (λ x. IsClosedShort (channel x)) after = every-back after (subst (Every IsClosedShort) same (channels-closed (sorted_receive k (on_channels cs bs) body) f a)) in
    let own : HaveOwnCodes before = own-codes 0 cs bs (every-by_code (λ x. IsClosedShort (channel x)) before known) e in
    let codes : each code (channels (sorted_receive k (on_channels cs bs) body)) ≡ codes_of after = ap (λ ts. each code ts) same ∙ channel-codes after (by_code-every IsCoded before (every-coded (placed_from 0 (on_channels cs bs)))) in
    subst AreRising (sym codes) (by_code-rising before own)
