-- What the receives of a table show of an operation.
use Rattle.std.proofs.Common.{◌≡◌, ℕ, Bool, true, false, ◌&&◌, ◌||◌, List, [], ◌∷◌, map as each, refl, sym, ap, ◌∙◌}
use Rattle.std.specs.Prelude.{is_some}
use Rattle.std.specs.List.{list_any}
use Rattle.calculus.proofs.Members.{Member}
use Rattle.calculus.specs.Congruence.{congruent}
use Rattle.calculus.specs.Tree.{Tree}
use Rattle.calculus.specs.Rows.{Row, channels}
use Rattle.calculus.specs.Steps.{as_receiver}
use Rattle.rho_term.specs.declared.term.TermBind.{TermBind}
use Rattle.row_search.specs.Rows.{is_one_channel, is_heard_on}
use Rattle.events.specs.Shards.{stands_in}
use Rattle.events.specs.Hands.{hears, is_one_channel as is_one}
use Rattle.events.proofs.ShardStanding.{any-true, any-one}
use Rattle.row_shards.proofs.Standing.{any-each}
use Rattle.row_table.specs.Shown.{heard_on}
use Rattle.rspace_table.specs.Shown.{shown_by}

pub and-left : (a b : Bool) → a && b ≡ true → a ≡ true
and-left true b e = refl
and-left false b e = cc

pub and-right : (a b : Bool) → a && b ≡ true → b ≡ true
and-right true b e = e
and-right false b e = cc

pub and-both : (a b : Bool) → a ≡ true → b ≡ true → a && b ≡ true
and-both a b e f = ap (λ c. c && b) e ∙ f

-- what is so where another is, and the other way round
pub same-truth : (a b : Bool) → (a ≡ true → b ≡ true) → (b ≡ true → a ≡ true) → a ≡ b
same-truth true b f g = sym (f refl)
same-truth false true f g = g refl
same-truth false false f g = refl

-- both ways to say that a channel is one of these
pub one-is : (c : Tree) (ds : List Tree) → is_one_channel c ds ≡ is_one c ds
one-is c [] = refl
one-is c (d ∷ ds) = ap (λ b. congruent c d || b) (one-is c ds)

-- a receive among these with a bind on a channel that stands in a shard
pub record Hears (rows : List Row) (c : Tree) (k : ℕ) : Type 0 where
  pub row : Row
  pub there : Member row rows
  pub heard : is_heard_on c row ≡ true
  pub stands : stands_in k row ≡ true

pub heard-one : (rows : List Row) (c : Tree) (k : ℕ) → heard_on rows c k ≡ true → Hears rows c k
heard-one rows c k e =
    let a = any-one (λ (r : Row). is_heard_on c r && stands_in k r) rows e in
    record { row = a.0; there = a.1; heard = and-left (is_heard_on c a.0) (stands_in k a.0) a.2; stands = and-right (is_heard_on c a.0) (stands_in k a.0) a.2 }

pub heard-true : (rows : List Row) (c : Tree) (k : ℕ) → Hears rows c k → heard_on rows c k ≡ true
heard-true rows c k h = any-true (λ (r : Row). is_heard_on c r && stands_in k r) rows h.row h.there (and-both (is_heard_on c h.row) (stands_in k h.row) h.heard h.stands)

-- what is shown on the channels of an operation is what is shown by all that hear it
pub shown-on : (rows : List Row) (o : Row) (k : ℕ) → list_any (λ c. heard_on rows c k) (channels o.part) ≡ shown_by rows o k
shown-on rows o k = same-truth (list_any (λ c. heard_on rows c k) (channels o.part)) (shown_by rows o k) to back
  where
    to : list_any (λ c. heard_on rows c k) (channels o.part) ≡ true → shown_by rows o k ≡ true
    to e =
        let a = any-one (λ (c : Tree). heard_on rows c k) (channels o.part) e in
        let b = heard-one rows a.0 k a.2 in
        let r = b.row in
        let i = and-left (is_some (as_receiver r.part)) (is_one_channel a.0 (channels r.part)) b.heard in
        let j = sym (one-is a.0 (channels r.part)) ∙ and-right (is_some (as_receiver r.part)) (is_one_channel a.0 (channels r.part)) b.heard in
        any-true (λ (q : Row). hears q o && stands_in k q) rows r b.there
        (and-both (hears r o) (stands_in k r) (and-both (is_some (as_receiver r.part)) (list_any (λ c. is_one c (channels r.part)) (channels o.part)) i (any-true (λ (c : Tree). is_one c (channels r.part)) (channels o.part) a.0 a.1 j)) b.stands)

    back : shown_by rows o k ≡ true → list_any (λ c. heard_on rows c k) (channels o.part) ≡ true
    back e =
        let a = any-one (λ (q : Row). hears q o && stands_in k q) rows e in
        let r = a.0 in
        let h = and-left (hears r o) (stands_in k r) a.2 in
        let i = and-left (is_some (as_receiver r.part)) (list_any (λ c. is_one c (channels r.part)) (channels o.part)) h in
        let b = any-one (λ (c : Tree). is_one c (channels r.part)) (channels o.part) (and-right (is_some (as_receiver r.part)) (list_any (λ c. is_one c (channels r.part)) (channels o.part)) h) in
        any-true (λ (c : Tree). heard_on rows c k) (channels o.part) b.0 b.1
        (heard-true rows b.0 k (record { row = r; there = a.1; heard = and-both (is_some (as_receiver r.part)) (is_one_channel b.0 (channels r.part)) i (one-is b.0 (channels r.part) ∙ b.2); stands = and-right (hears r o) (stands_in k r) a.2 }))

-- what is shown on the channels of binds
pub binds-shown : (rows : List Row) (o : Row) (bs : List TermBind) → channels o.part ≡ each (λ b. b.channel) bs → (k : ℕ) → list_any (λ (b : TermBind). heard_on rows b.channel k) bs ≡ shown_by rows o k
binds-shown rows o bs e k =
    sym (any-each (λ (c : Tree). heard_on rows c k) (λ (b : TermBind). b.channel) bs) ∙ ap (list_any (λ (c : Tree). heard_on rows c k)) (sym e) ∙ shown-on rows o k
