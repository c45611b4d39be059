-- A text comes to one thing.
use Rattle.std.proofs.Common.{◌≡◌, ℕ, ◌+◌, List, drop, subst}
use Rattle.tokens.specs.Token.{Notation}
use Rattle.tokens.specs.Reading.{Outcome, Reads, at_end, over_gap, over_token, refused}

-- reading on from equal places
along : (n : Notation) (at : ℕ) (text : List ℕ) {a b : ℕ} {r : Outcome} → a ≡ b → Reads n (at + a) (drop a text) r → Reads n (at + b) (drop b text) r
along n at text {a} {b} {r} e h = subst (λ k. Reads n (at + k) (drop k text) r) e h

pub same_outcome : {n : Notation} {at : ℕ} {text : List ℕ} {r s : Outcome} → Reads n at text r → Reads n at text s → r ≡ s
same_outcome (at_end p) (at_end q) = cc
same_outcome (at_end p) (over_gap q h) = cc
same_outcome (at_end p) (over_token q h e) = cc
same_outcome (at_end p) (refused q) = cc
same_outcome (over_gap p g) (at_end q) = cc
same_outcome (over_gap p g) (over_gap q h) = same_outcome g (along _ _ _ (cc) h)
same_outcome (over_gap p g) (over_token q h e) = cc
same_outcome (over_gap p g) (refused q) = cc
same_outcome (over_token p g d) (at_end q) = cc
same_outcome (over_token p g d) (over_gap q h) = cc
same_outcome (over_token p g d) (over_token q h e) = let same = same_outcome g (along _ _ _ (cc) h) in cc
same_outcome (over_token p g d) (refused q) = cc
same_outcome (refused p) (at_end q) = cc
same_outcome (refused p) (over_gap q h) = cc
same_outcome (refused p) (over_token q h e) = cc
same_outcome (refused p) (refused q) = cc
