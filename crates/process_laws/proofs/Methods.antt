-- What methods answer.
use Rattle.std.proofs.Common.{ℕ, zero, suc, ◌<◌, ◌&&◌, not, leb, eqb, List, [], ◌∷◌, ◌++◌, length, take, drop, map as each, Option, Some, None, pos, negsuc, bytes_eq, arith}
use Rattle.std.specs.Prelude.{⊤}
use Rattle.std.proofs.lemmas.List.Elements.{All-head, All-tail}
use Rattle.calculus.specs.Tree.{par, pair, Tree}
use Rattle.calculus.specs.Shape.{leaf, two, at}
use Rattle.calculus.specs.Bytes.{joined}
use Rattle.calculus.specs.Congruence.{congruent}
use Rattle.calculus.specs.Normal.{ascending}
use Rattle.calculus.specs.Form.{term, pair_of, IsBytes, IsClosed}
use Rattle.calculus.specs.declared.fault.FaultKind.TheVariants as fault
use Rattle.calculus.specs.Outcome.{gives, fails}
use Rattle.calculus.specs.Texts.{characters, from_hex, to_hex}
use Rattle.calculus.specs.Operators.{Seen, an_int, a_text, some_bytes, a_list, a_tuple, a_set, a_map, seen, of_int, of_text, of_bytes, of_list, of_set, of_map, is_among, key_of}
use Rattle.calculus.specs.Methods.{Method, nth, nth_at, slice, hex_answer, with_set, with_map, as_tuple, methods, among_methods, method_answer}
use Rattle.calculus.proofs.Placing.{ascending_hold}
use Rattle.process_laws.specs.ClosedValueLaws.{GivesClosed, AreClosed, MethodIsClosed}
use Rattle.process_laws.proofs.Members.{AllFit, append-fit, take-fit, drop-fit, filter-fit, list-closed, set-closed, map-closed, pair-closed, keys-closed, found-closed, tuples-closed}
use Rattle.process_laws.proofs.Texts.{slice-utf8, slice-text, slice-bytes, characters-no-more}
use Rattle.process_laws.proofs.Hexes.{BytesIf, from-hex-bytes, to-hex-utf8, to-hex-bytes}
use Rattle.process_laws.proofs.Numbers.{chosen, count-closed, bool-closed}
use Rattle.process_laws.proofs.Seen.{SeenFits, SeenShort, seen-fits, seen-short}
use Rattle.process_laws.proofs.Operators.{text-closed, bytes-closed}

-- a method answers closed arguments with a closed value
abbrev AllAnswer : List Method → Type 0
AllAnswer [] = ⊤
AllAnswer (m ∷ ms) = ((xs : List Tree) → AreClosed xs → GivesClosed (m.answer xs)) × AllAnswer ms

among-closed : (n : List ℕ) (xs : List Tree) (ms : List Method) → AllAnswer ms → AreClosed xs → GivesClosed (among_methods n xs ms)
among-closed n xs [] h k = tt
among-closed n xs (m ∷ ms) h k =
    chosen (bytes_eq n m.name && eqb (length xs) m.takes) (m.answer xs) (among_methods n xs ms) (λ e. h.0 xs k) (λ e. among-closed n xs ms h.1 k)

at-closed : (i : ℕ) (xs : List Tree) → AreClosed xs → IsClosed (at i xs)
at-closed i [] h = (tt, tt)
at-closed zero (x ∷ xs) h = h.0
at-closed (suc i) (x ∷ xs) h = at-closed i xs h.1

abbrev EachClosed : {A : Type 0} → (A → Tree) → List A → Type 0
EachClosed f [] = ⊤
EachClosed f (x ∷ xs) = IsClosed (f x) × EachClosed f xs

nth-closed : {A : Type 0} (f : A → Tree) (xs : List A) (i : ℕ) → EachClosed f xs → GivesClosed (nth f xs i)
nth-closed f [] i h = tt
nth-closed f (x ∷ xs) zero h = h.0
nth-closed f (x ∷ xs) (suc i) h = nth-closed f xs i h.1

nth-at-closed : {A : Type 0} (f : A → Tree) (xs : List A) (s : Seen) → EachClosed f xs → GivesClosed (nth_at f xs s)
nth-at-closed f xs (an_int (pos i)) h = nth-closed f xs i h
nth-at-closed f xs (an_int (negsuc i)) h = tt
nth-at-closed f xs _ h = tt

members-themselves : (ts : List Tree) → AllFit term ts → EachClosed (λ t. t) ts
members-themselves [] h = tt
members-themselves (t ∷ ts) h = (h.0, members-themselves ts h.1)

each-byte : (s : List ℕ) → IsBytes s → EachClosed (λ b. of_int (pos b)) s
each-byte [] h = tt
each-byte (b ∷ s) h = (count-closed b (omega (arith, All-head (λ c. c < 256) b s h)), each-byte s (All-tail (λ c. c < 256) b s h))

slice-closed : {A : Type 0} (f : List A → Tree) (xs : List A) (s t : Seen) → ((i j : ℕ) → IsClosed (f (drop i (take j xs)))) → GivesClosed (slice f xs s t)
slice-closed f xs (an_int (pos i)) (an_int (pos j)) h =
    chosen (leb i j && leb j (length xs)) (gives (f (drop i (take j xs)))) (fails fault.Index) (λ e. h i j) (λ e. tt)
slice-closed f xs (an_int i) (an_int j) h = tt
slice-closed f xs _ _ h = tt

hex-closed : (o : Option (List ℕ)) → BytesIf o → GivesClosed (hex_answer o)
hex-closed (Some bs) h = bytes-closed bs h
hex-closed None h = tt

with-set-closed : (s : Seen) (f : List Tree → Tree) → SeenFits s → ((us : List Tree) → AllFit term us → IsClosed (f us)) → GivesClosed (with_set s f)
with-set-closed (a_set us) f h k = k us h
with-set-closed _ f h k = tt

with-map-closed : (s : Seen) (f : List Tree → Tree) → SeenFits s → ((us : List Tree) → AllFit (pair_of term) us → IsClosed (f us)) → GivesClosed (with_map s f)
with-map-closed (a_map us) f h k = k us h
with-map-closed _ f h k = tt

seen-at : (i : ℕ) (xs : List Tree) → AreClosed xs → SeenFits (seen (at i xs))
seen-at i xs h = seen-fits (at i xs) (at-closed i xs h)

methods-closed : (s : Seen) → SeenFits s → SeenShort s → AllAnswer (methods s)
methods-closed (a_text s) h a = (
  λ xs k. count-closed (length (characters s)) (omega (arith, a, characters-no-more s)),
  (
    λ xs k. slice-closed (λ cs. of_text (joined cs)) (characters s) (seen (at 0 xs)) (seen (at 1 xs)) (λ i j. text-closed (joined (drop i (take j (characters s)))) (slice-utf8 i j s h.0) (slice-text i j s h.1)),
    (
      λ xs k. bytes-closed s h.1,
      (
        λ xs k. hex-closed (from_hex s) (from-hex-bytes s),
        tt,
      ),
    ),
  ),
)
methods-closed (some_bytes s) h a = (
  λ xs k. count-closed (length s) a,
  (
    λ xs k. nth-at-closed (λ b. of_int (pos b)) s (seen (at 0 xs)) (each-byte s h),
    (
      λ xs k. slice-closed of_bytes s (seen (at 0 xs)) (seen (at 1 xs)) (λ i j. bytes-closed (drop i (take j s)) (slice-bytes i j s h)),
      (
        λ xs k. text-closed (to_hex s) (to-hex-utf8 s h) (to-hex-bytes s h),
        tt,
      ),
    ),
  ),
)
methods-closed (a_list ts) h a = (
  λ xs k. count-closed (length ts) a,
  (
    λ xs k. nth-at-closed (λ t. t) ts (seen (at 0 xs)) (members-themselves ts h),
    (
      λ xs k. slice-closed of_list ts (seen (at 0 xs)) (seen (at 1 xs)) (λ i j. list-closed (drop i (take j ts)) (drop-fit term i (take j ts) (take-fit term j ts h))),
      (
        λ xs k. set-closed ts h,
        tt,
      ),
    ),
  ),
)
methods-closed (a_tuple ts) h a = (λ xs k. nth-at-closed (λ t. t) ts (seen (at 0 xs)) (members-themselves ts h), tt)
methods-closed (a_set ts) h a = (
  λ xs k. count-closed (length ts) a,
  (
    λ xs k. bool-closed (is_among (at 0 xs) ts),
    (
      λ xs k. set-closed (ts ++ at 0 xs ∷ []) (append-fit term ts (at 0 xs ∷ []) h (at-closed 0 xs k, tt)),
      (
        λ xs k. set-closed _ (filter-fit term (λ t. not (is_among t (at 0 xs ∷ []))) ts h),
        (
          λ xs k. with-set-closed (seen (at 0 xs)) (λ us. of_set (ts ++ us)) (seen-at 0 xs k) (λ us g. set-closed (ts ++ us) (append-fit term ts us h g)),
          (
            λ xs k. with-set-closed (seen (at 0 xs)) _ (seen-at 0 xs k) (λ us g. set-closed _ (filter-fit term (λ t. not (is_among t us)) ts h)),
            (
              λ xs k. list-closed (ascending ts) (ascending_hold term [] [] ts h),
              tt,
            ),
          ),
        ),
      ),
    ),
  ),
)
methods-closed (a_map ps) h a = (
  λ xs k. count-closed (length ps) a,
  (
    λ xs k. bool-closed (is_among (at 0 xs) (each key_of ps)),
    (
      λ xs k. found-closed (leaf par) (at 0 xs) ps (tt, tt) h,
      (
        λ xs k. found-closed (at 1 xs) (at 0 xs) ps (at-closed 1 xs k) h,
        (
          λ xs k. map-closed (ps ++ two pair (at 0 xs) (at 1 xs) ∷ []) (append-fit (pair_of term) ps (two pair (at 0 xs) (at 1 xs) ∷ []) h (pair-closed (at 0 xs) (at 1 xs) (at-closed 0 xs k) (at-closed 1 xs k), tt)),
          (
            λ xs k. map-closed _ (filter-fit (pair_of term) (λ p. not (congruent (at 0 xs) (key_of p))) ps h),
            (
              λ xs k. with-map-closed (seen (at 0 xs)) (λ qs. of_map (ps ++ qs)) (seen-at 0 xs k) (λ qs g. map-closed (ps ++ qs) (append-fit (pair_of term) ps qs h g)),
              (
                λ xs k. set-closed (each key_of ps) (keys-closed ps h),
                (
                  λ xs k. list-closed (each as_tuple (ascending ps)) (tuples-closed (ascending ps) (ascending_hold (pair_of term) [] [] ps h)),
                  tt,
                ),
              ),
            ),
          ),
        ),
      ),
    ),
  ),
)
methods-closed _ h a = tt

pub method_is_closed : MethodIsClosed
unfolding method_answer
method_is_closed n t us h a k = among-closed n us (methods (seen t)) (methods-closed (seen t) (seen-fits t h) (seen-short t h a)) k
