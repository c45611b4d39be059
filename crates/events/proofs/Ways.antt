-- Ways down from a digest, and the things made at their ends.
use Rattle.std.proofs.Common.{◌≡◌, ◌≢◌, ℕ, List, [], ◌∷◌, ◌++◌, map as each, refl, ap}
use Rattle.std.specs.Prelude.{⊤}
use Rattle.calculus.proofs.Members.{Every, every-append, every-up}
use Rattle.calculus.specs.Seeds.{message, digest_of}
use Rattle.calculus.specs.Unfolding.{Product, digest}
use Rattle.events.proofs.Keys.{Move, under, NumberFits, AreApart}

-- moves from a digest down, the first one first
abbrev pub Way : Type 0
Way = List Move

-- the digest at the end of a way
abbrev pub down : List ℕ → Way → List ℕ
down s [] = s
down s (m ∷ ms) = down (digest_of (under m s)) ms

-- each text on a way from s is of a kind
abbrev pub Along : (List ℕ → Type 0) → List ℕ → Way → Type 0
Along H s [] = ⊤
Along H s (m ∷ ms) = H (message (under m s)) × Along H (digest_of (under m s)) ms

-- each of these things stands at the end of its own way from s, each way has P, and each text on it has H
pub record Traced (H : List ℕ → Type 0) (P : Way → Type 0) (s : List ℕ) (ts : List Product) : Type 0 where
  pub ways : List Way
  pub digests : each digest ts ≡ each (down s) ways
  pub apart : AreApart ways
  pub rooms : Every (Every NumberFits) ways
  pub all : Every P ways
  pub texts : Every (Along H s) ways

-- lists of which each two members from different lists differ
pub apart-append : {A : Type 0} (P Q : A → Type 0) → ((x y : A) → P x → Q y → x ≢ y) → (xs ys : List A) → Every P xs → Every Q ys → AreApart xs → AreApart ys → AreApart (xs ++ ys)
apart-append P Q f [] ys h k a b = b
apart-append P Q f (x ∷ xs) ys h k a b =
    (every-append (λ y. x ≢ y) xs ys a.0 (every-up Q (λ y. x ≢ y) (λ y q. f x y h.0 q) ys k), apart-append P Q f xs ys h.1 k a.1 b)

-- ways with one more move before each
abbrev pub after_move : Move → List Way → List Way
after_move m ws = each (λ w. m ∷ w) ws

-- a way that begins with a move
abbrev pub Begins : (Move → Type 0) → Way → Type 0
Begins P [] = ⊥
Begins P (m ∷ w) = P m

pub after-ends : (s : List ℕ) (m : Move) (ws : List Way) → each (down s) (after_move m ws) ≡ each (down (digest_of (under m s))) ws
after-ends s m [] = refl
after-ends s m (w ∷ ws) = ap (λ l. down (digest_of (under m s)) w ∷ l) (after-ends s m ws)

after-differs : (m : Move) (w : Way) (ws : List Way) → Every (λ v. w ≢ v) ws → Every (λ v. m ∷ w ≢ v) (after_move m ws)
after-differs m w [] h = tt
after-differs m w (v ∷ ws) h = (λ e. h.0 cc, after-differs m w ws h.1)

pub after-apart : (m : Move) (ws : List Way) → AreApart ws → AreApart (after_move m ws)
after-apart m [] h = tt
after-apart m (w ∷ ws) h = (after-differs m w ws h.0, after-apart m ws h.1)

pub after-all : (P Q : Way → Type 0) (m : Move) → ((w : Way) → P w → Q (m ∷ w)) → (ws : List Way) → Every P ws → Every Q (after_move m ws)
after-all P Q m f [] h = tt
after-all P Q m f (w ∷ ws) h = (f w h.0, after-all P Q m f ws h.1)
